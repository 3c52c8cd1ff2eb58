-- Both halves of what is promised of an image, from the parts.
use Rattle.std.proofs.Common.{◌≡◌, ℕ, sym, subst}
use Rattle.machine_devices.specs.Rules.{ObeysRules}
use Rattle.ir_model.specs.Resolve.{resolve}
use Rattle.plan_model.specs.Needs.{AreNeeds}
use Rattle.code_model.specs.Planned.{code_places}
use Rattle.monitor_model.specs.FromFlash.{tables_of}
use Rattle.monitor_model.specs.Invariant.{Invariant}
use Rattle.monitor_model.specs.Law.{Law}
use Rattle.monitor_model.specs.Layout.{initial_word_count}
use Rattle.monitor_model.specs.Promises.{OfSoundImages, RangesAreApart, SoundImagesAreConfined}
use Rattle.monitor_model.specs.Setting.{setting_of}
use Rattle.monitor_program.specs.TheCode.{monitor_code}
use Rattle.image_model.specs.LinkedImage.{linked}
use Rattle.refine_model.specs.Refines.{Refines}
use Rattle.refine.specs.Refinement.{LinkedImagesRefine, LinkedImagesRefineOrStop}
use Rattle.image_promises.specs.Planned.{planned_tables, planned_image}
use Rattle.plan.specs.PlannedFirmwares.{plan}
use Rattle.image_promises.specs.Laws.{OfPlanned, PlannedRangesAreApart}
use Rattle.image_promises.proofs.PlannedPremises.{planned_of}
use Rattle.image_promises.proofs.Facts.{PlanLaws}
use Rattle.image_promises.specs.Parts.{KindsAgree}
use Rattle.image_promises.specs.Whole.{PlannedImagesAreSound, PlannedImagesAreConfined, PlannedImagesAreLinked, PlannedImagesRefine, PlannedImagesRefineOrStop}
use Rattle.image_promises.proofs.Checked.{Passes, none_fails}
use Rattle.image_promises.proofs.Stacks.{stack_is}

pub are_sound : OfPlanned (λ i t. t ≡ tables_of monitor_code i) → OfPlanned (Passes monitor_code) → PlannedImagesAreSound
are_sound back pass w n f b is =
    record {
      tables = back w n f b is;
      none_fails = none_fails monitor_code (planned_image w n f b) (planned_tables w n f b) (pass w n f b is);
    }

pub are_confined : PlannedImagesAreSound → OfPlanned (λ i t. ObeysRules i) → SoundImagesAreConfined monitor_code → PlannedImagesAreConfined
are_confined sound rules confine w n f b is = confine (planned_image w n f b) (planned_tables w n f b) (rules w n f b is) (sound w n f b is)

-- `serve` gives the monitor's law of a sound image whose ranges with initial words do not meet
pub refine_firmwares : PlanLaws → PlannedImagesAreSound → OfPlanned (λ i t. ObeysRules i) → PlannedImagesAreLinked → KindsAgree → PlannedRangesAreApart
    → OfSoundImages monitor_code (λ i t. RangesAreApart t.inits → Law (setting_of monitor_code i t) (Invariant i t))
    → LinkedImagesRefine → PlannedImagesRefine
unfolding linked
refine_firmwares law sound rules linked kind apart serve refine w S n f b is least needs =
    subst (λ (s : ℕ). Refines w n f.groups s (initial_word_count (planned_tables w n f b)) (planned_image w n f b)) (stack_is law (planned_of is))
    (refine w S monitor_code (planned_image w n f b) (planned_tables w n f b) n f.groups (code_places (resolve w) n f (plan w n f b)) is.typed is.within least
    (subst (λ closed. AreNeeds (resolve w) S closed n) (sym (kind monitor_code w n f b is)) needs)
    (serve (planned_image w n f b) (planned_tables w n f b) (rules w n f b is) (sound w n f b is) (apart w n f b is))
    (linked w n f b is))

pub refine_or_stop : PlannedImagesAreSound → OfPlanned (λ i t. ObeysRules i) → PlannedImagesAreLinked → KindsAgree → PlannedRangesAreApart
    → OfSoundImages monitor_code (λ i t. RangesAreApart t.inits → Law (setting_of monitor_code i t) (Invariant i t))
    → LinkedImagesRefineOrStop → PlannedImagesRefineOrStop
unfolding linked
refine_or_stop sound rules linked kind apart serve refine w S n f b is least needs stack =
    refine w S monitor_code (planned_image w n f b) (planned_tables w n f b) n f.groups (code_places (resolve w) n f (plan w n f b)) is.typed is.within least
    (subst (λ closed. AreNeeds (resolve w) S closed n) (sym (kind monitor_code w n f b is)) needs)
    (serve (planned_image w n f b) (planned_tables w n f b) (rules w n f b is) (sound w n f b is) (apart w n f b is))
    (linked w n f b is) stack
