-- Beyond the program's claim: only laws, proofs and functions inside the tool cite this file.
-- What an image is made of, before its bytes.
use Rattle.std.specs.Prelude.{◌≡◌}
use Rattle.ir_model.specs.Resolved.{Program}
use Rattle.plan_model.specs.declared.needs.Needs.{Needs}
use Rattle.plan_model.specs.declared.graph.Final.{Final}
use Rattle.plan_model.specs.declared.plan.Plan.{Plan}
use Rattle.plan_model.specs.declared.plan.Board.{Board}
use Rattle.plan_model.specs.Crossing.{crossing_sites}
use Rattle.plan_model.specs.Lending.{lent}
use Rattle.image_entries.specs.Grouped.{AreNumbers, AreSmall}
use Rattle.image_model.specs.LinkedTables.{tables_of}
use Rattle.image_linker.specs.Parts.{AreAddresses}
use Rattle.image_linker.specs.declared.linking.LinkParts.{LinkParts}

-- the numbers of the crossing sites and of the lent locals, the addresses of the plan, and the tables
pub record AreLinkParts (p : Program) (n : Needs) (f : Final) (l : Plan) (b : Board) (x : LinkParts) : Type 0 where
  pub numbers : AreNumbers p (crossing_sites n f.groups) (lent n f.groups) x.numbers
  pub small : AreSmall x.numbers
  pub addresses : AreAddresses p f l x.numbers x.addresses
  pub tables : x.tables ≡ tables_of p n f l b
