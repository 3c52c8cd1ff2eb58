-- How many records the tables of a planned firmware have.
use Rattle.std.proofs.Common.{◌≡◌, ℕ, suc, ◌+◌, List, [], ◌∷◌, length, refl, ap, ap₂, ◌∙◌}
use Rattle.std.proofs.lemmas.List.FromFn.{length-map-range_with_len}
use Rattle.ir_model.specs.Resolved.{Program}
use Rattle.ir_model.specs.Resolve.{resolve}
use Rattle.plan_model.specs.declared.needs.SiteNeed.{SiteNeed}
use Rattle.plan_model.specs.declared.needs.Needs.{Needs}
use Rattle.plan_model.specs.declared.graph.Final.{Final}
use Rattle.plan_model.specs.declared.plan.Plan.{Plan}
use Rattle.plan_model.specs.declared.plan.Board.{Board}
use Rattle.plan_model.specs.Boards.{slots_of}
use Rattle.plan_model.specs.Crossing.{crossing_sites}
use Rattle.image_model.specs.LinkedTables.{comp_record, site_records, tables_of}
use Rattle.image_promises.specs.Planned.{planned_tables, planned_image}
use Rattle.plan.specs.PlannedFirmwares.{plan}
use Rattle.image_promises.specs.Whole.{PlannedImagesAreSound}
use Rattle.monitor_audit.specs.declared.answer.Audit.TheVariants.{Yes}
use Rattle.monitor_audit.specs.Laws.{SoundImagesAreAnsweredYes}
use Rattle.image_promises.specs.PlannedAudits.{PlannedImagesAreAnsweredYes}

module _ (p : Program) (n : Needs) (f : Final) (l : Plan) (b : Board) where
  comps_are : length (tables_of p n f l b).comps ≡ f.groups.count
  unfolding tables_of
  comps_are = length-map-range_with_len (comp_record p f l (slots_of b)) 0 f.groups.count

  site_count : (k : ℕ) (ss : List SiteNeed) → length (site_records p n f l k ss) ≡ length ss
  site_count k [] = refl
  site_count k (s ∷ ss) = ap suc (site_count (k + length s.targets) ss)

  sites_are : length (tables_of p n f l b).sites ≡ length (crossing_sites n f.groups)
  unfolding tables_of
  sites_are = site_count 0 (crossing_sites n f.groups)

pub answered_yes : PlannedImagesAreSound → SoundImagesAreAnsweredYes → PlannedImagesAreAnsweredYes
answered_yes sound answers w n f b ok a is =
    answers (planned_image w n f b) (planned_tables w n f b) a (sound w n f b ok) is
    ∙ ap₂ Yes (comps_are (resolve w) n f (plan w n f b) b) (sites_are (resolve w) n f (plan w n f b) b)
