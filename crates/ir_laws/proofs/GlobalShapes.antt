-- The shapes of a program's globals.
use Rattle.std.proofs.Common.{ℕ, zero, suc, List, [], ◌∷◌, get_or, map}
use Rattle.ir_model.specs.Types.{PlainType}
use Rattle.ir_model.specs.Plain.{PlainStruct, PlainGlobal, PlainFirmware}
use Rattle.ir_model.specs.Layout.{Shape, shape, known_behind, known}
use Rattle.ir_model.specs.Resolved.{no_global, global_at}
use Rattle.ir_model.specs.Resolve.{scope_of, resolved_global, resolve}
use Rattle.ir_laws.proofs.Layouts.{IsSound, sound, sound_empty, sound_structs}
use Rattle.ir_laws.proofs.Aligned.{Fair, one_byte, none, whole_type}

-- cells lie apart and inside, their widths divide the alignment and their offsets, and the alignment is 1, 2 or 4
pub record IsShaped (s : Shape) : Type 0 where
  pub sound : IsSound s
  pub fair : Fair s

type_shaped : (ss : List PlainStruct) (t : PlainType) → IsShaped (shape (known ss) t)
unfolding known
type_shaped ss t = record { sound = sound (known_behind [] ss) t (sound_structs [] ss tt); fair = (whole_type ss t).fair }

shaped_among : (w : PlainFirmware) (gs : List PlainGlobal) (g : ℕ) → IsShaped (get_or (map (resolved_global (scope_of w)) gs) g no_global).shape
shaped_among w [] g = record { sound = sound_empty; fair = record { small = one_byte; cells = none } }
shaped_among w (x ∷ gs) zero = type_shaped w.structs x.ty
shaped_among w (x ∷ gs) (suc g) = shaped_among w gs g

pub global_shaped : (w : PlainFirmware) (g : ℕ) → IsShaped (global_at (resolve w) g).shape
unfolding resolve
global_shaped w g = shaped_among w w.globals g
