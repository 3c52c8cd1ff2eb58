-- Beyond the program's claim: only laws, proofs and functions inside the tool cite this file.
-- Where the frame of a number stands among those that wait.
use Rattle.std.specs.Prelude.{◌≡◌, ℕ, ◌<◌, List, length, map, reverse, Option, Some, None}
use Rattle.std.proofs.Math.ListN.{get_or, set}
use Rattle.ir_model.specs.Resolved.{Value}
use Rattle.ir_model.specs.State as state
use Rattle.ir_model.specs.Step.{frame_in, with_local}
use Rattle.ir_laws.specs.Laws.{IsOrdered}
use Rattle.ir_program.specs.Values.{value_of}
use Rattle.ir_run.specs.declared.frame.Frame.{Frame}
use Rattle.ir_run.specs.Acts.{frame_of}

-- each frame was made before the one in front of it
pub record AreOrdered (fs : List state.Frame) : Type 0 where
  pub made : ℕ
  pub ordered : IsOrdered made fs

-- the place, from the bottom, of the frame of a number of a function: a look-up finds that frame, and a write of one of its
-- locals is a write there
pub record IsPlace (xs : List Frame) (func number place : ℕ) : Type 0 where
  pub inside : place < length xs
  pub found : (d : Frame) → frame_in (map frame_of (reverse xs)) func number ≡ Some (frame_of (get_or xs place d))
  pub written : (d : Frame) (y : Frame) (l : ℕ) (vs : List Value)
      → frame_of y ≡ record (frame_of (get_or xs place d)) { locals = set (map (map value_of) (get_or xs place d).locals) l vs }
      → map frame_of (reverse (set xs place y)) ≡ with_local (map frame_of (reverse xs)) func number l vs

abbrev pub Finds : List Frame → (func number : ℕ) → Option ℕ → Type 0
Finds xs f n None = frame_in (map frame_of (reverse xs)) f n ≡ None
Finds xs f n (Some place) = IsPlace xs f n place
