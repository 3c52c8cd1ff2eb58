-- All that the refinement asks for besides the monitor's law holds.
use Rattle.std.proofs.Common.{sym, subst, true}
use Rattle.ir_model.specs.Resolved.{Program}
use Rattle.plan_model.specs.PointsTo.{IsLeast}
use Rattle.plan_model.specs.Needs.{AreNeeds}
use Rattle.refine.specs.Linked.{Linked}
use Rattle.refine.specs.Refinement.{LinkedImagesRefine}
use Rattle.example_refine.specs.TwoCompartments.{needs, groups, places, sets, image, tables, code, setting, build, AreItsNeeds}
use Rattle.example_refine.specs.Source.{firmware, IsItsSource}
use Rattle.example_refine.specs.Applied.{RefinesByLaw}

pub refines_by_law : LinkedImagesRefine → IsItsSource → AreItsNeeds → Linked build → RefinesByLaw
refines_by_law refine s n l law =
    refine firmware sets code image tables needs groups places s.typed s.within
    (subst (λ (p : Program). IsLeast p sets) (sym s.numbered) n.least)
    (subst (λ (p : Program). AreNeeds p sets true needs) (sym s.numbered) n.by_sets)
    law
    (subst (λ (p : Program). Linked (record { setting = setting; program = p; needs = needs; groups = groups; places = places })) (sym s.numbered) l)
