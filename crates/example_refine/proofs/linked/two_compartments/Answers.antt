use Rattle.example_refine.proofs.Applied.{refines_by_law}
use Rattle.example_refine.proofs.LeastNeeds.{are_its_needs}
use Rattle.example_refine.proofs.Promises.{linked}
use Rattle.example_refine.proofs.Source.{is_its_source}
use Rattle.example_refine.proofs.linked.two_compartments.Goals as goal

pub returns-clause-source : goal.returns-clause-source
returns-clause-source c = is_its_source

pub returns-clause-needs : goal.returns-clause-needs
returns-clause-needs c = are_its_needs

pub returns-clause-linked : goal.returns-clause-linked
returns-clause-linked c = linked c.items.ensures

pub returns-clause-refines : goal.returns-clause-refines
returns-clause-refines c = refines_by_law c.refinement.ensures is_its_source are_its_needs (linked c.items.ensures)
