-- The locals of a frame, one behind the other.
use Rattle.std.proofs.Common.{◌≡◌, ℕ, ◌+◌, ◌*◌, List, [], ◌∷◌, length, map, refl, ap}
use Rattle.ir_model.specs.Layout.{Known}
use Rattle.ir_program.specs.declared.program.Storage.{Storage}
use Rattle.ir_program.specs.declared.program.Routine.{Routine}
use Rattle.ir_program.specs.Storages.{shape_of}
use Rattle.ir_program.specs.Parts.{routine_of}
use Rattle.code_model.specs.FrameShape.{local_size, starts_from, local_starts}

-- cells do not matter for the frame
same_starts : (ks : List Known) (n : ℕ) (ss : List Storage) → starts_from n (map (shape_of ks) ss) ≡ starts_from n (map (shape_of []) ss)
same_starts ks n [] = refl
same_starts ks n (s ∷ ss) = ap (λ xs. n ∷ xs) (same_starts ks (n + local_size (shape_of [] s)) ss)

pub same_local_starts : (ks : List Known) (r : Routine) → local_starts (routine_of ks r) ≡ local_starts (routine_of [] r)
same_local_starts ks r = same_starts ks (4 * length (routine_of [] r).regs) r.locals
