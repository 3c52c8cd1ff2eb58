-- What `compile` writes.
use Rattle.std.specs.Prelude.{ℕ, List}
use Rattle.machine_devices.specs.declared.image.Image.{Image}
use Rattle.machine_image.specs.Text.{IsText}
use Rattle.ir_model.specs.Plain.{PlainFirmware}
use Rattle.plan_model.specs.declared.plan.Board.{Board}
use Rattle.plan_model.specs.declared.policy.Policy.{Policy}
use Rattle.aces_compiler.specs.ByPolicy.{IsImageBy}

-- the bytes are the text of the image of a firmware for a board by a policy. Its compartments are isolated: on whatever device input, and from
-- whatever a reset leaves, the bytes of a global and of the stack change, and peripherals are accessed, by those compartments alone that may;
-- no store for a compartment leaves that compartment's permission, and on a closed board no load. And it refines the firmware: as long as
-- the source run meets no fault and stays within its stack limit, it makes the same accesses of peripherals, by the same compartments and in
-- the same order, and ends exactly when the source does
pub record IsImageText (policy : Policy) (w : PlainFirmware) (b : Board) (out : List ℕ) : Type 0 where
  pub image : Image
  pub is_text : IsText image out
  pub is_image : IsImageBy policy w b image
