-- What the content of an image, of a tape or of a board is, or by which fault it is none.
use Rattle.std.specs.Prelude.{◌≡◌, ℕ, List, Some, false}
use Rattle.machine_devices.specs.declared.image.Window.{Window}
use Rattle.machine_devices.specs.declared.tape.TapeFault.{TapeFault}
use Rattle.machine_devices.specs.Tape as tapes
use Rattle.machine_image.specs.declared.fault.ImageFault.{ImageFault}
use Rattle.machine_image.specs.Faults as images
use Rattle.aces_reports.specs.declared.failure.Fault.{Fault}
use Rattle.aces_reports.specs.declared.failure.Fault.TheVariants.{Image, Tape, Board}
use Rattle.aces_reports.specs.Faults.{is_want_of_memory}
use Rattle.plan_board.specs.declared.fault.BoardFault.{BoardFault}
use Rattle.plan_board.specs.Reading as boards

-- the fault that its reader told, where that is one of the content, which want of memory is not
abbrev pub IsContentFault : (told f : Fault) → Type 0
IsContentFault told f = (f ≡ told) × (is_want_of_memory told ≡ false)

-- bytes are the text of no image, and this is their first fault
pub record IsNoImage (bytes : List ℕ) (f : Fault) : Type 0 where
  pub first : ImageFault
  pub found : images.first_fault bytes ≡ Some first
  pub named : IsContentFault (Image first) f

-- a text is no tape for these windows, and this is its first fault
pub record IsNoTape (windows : List Window) (text : List ℕ) (f : Fault) : Type 0 where
  pub first : TapeFault
  pub found : tapes.first_fault text windows ≡ Some first
  pub named : IsContentFault (Tape first) f

-- bytes are the text of no board, and this is the first test that fails
pub record IsNoBoard (text : List ℕ) (f : Fault) : Type 0 where
  pub first : BoardFault
  pub found : boards.IsFault text first
  pub named : IsContentFault (Board first) f
