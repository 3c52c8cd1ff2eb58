-- The image that a firmware gets for a board by a policy.
use Rattle.std.specs.Prelude.{◌≡◌, ℕ, List}
use Rattle.machine_devices.specs.declared.image.Image.{Image}
use Rattle.plan_model.specs.declared.policy.Policy.{Policy}
use Rattle.ir_model.specs.Plain.{PlainFirmware}
use Rattle.plan_model.specs.declared.needs.Needs.{Needs}
use Rattle.plan_model.specs.declared.plan.Board.{Board}
use Rattle.plan_compartments.specs.Analyses.{AreNeedsOf, AreCompartmentsBy}
use Rattle.plan_compartments.specs.Divisions.{division}
use Rattle.aces_compiler.specs.Compiled.{IsImageFor}

-- the needs are those of the firmware for the board's kind, and the compartments those of the policy by them
pub record IsImageBy (policy : Policy) (w : PlainFirmware) (b : Board) (i : Image) : Type 0 where
  pub needs : Needs
  pub are_needs : AreNeedsOf w b.closed needs
  pub image : IsImageFor w needs b (division policy w needs) i
  -- the compartments are those in which `source` runs the firmware, whichever the board's kind
  pub as_source : (compartments : List ℕ) → AreCompartmentsBy policy w compartments → (division policy w needs).of ≡ compartments
