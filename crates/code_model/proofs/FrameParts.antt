-- The bytes of the first locals.
use Rattle.std.proofs.Common.{◌≡◌, ℕ, zero, suc, ◌+◌, ◌<◌, ◌≤◌, ◌%◌, List, [], ◌∷◌, map, take, Some, refl, ap, ◌∙◌, arith}
use Rattle.std.specs.List.{slice_get}
use Rattle.ir_model.specs.Plain.{PlainBinding}
use Rattle.ir_model.specs.Layout.{Known, shape, rounded_up}
use Rattle.code_model.specs.FramePlaces.{offsets_from, Stand}
use Rattle.ir_model.specs.Frames.{local_size, locals_size}

pub words_of : (ks : List Known) (ls : List PlainBinding) → locals_size ks ls % 4 ≡ 0
words_of ks [] = refl
words_of ks (l ∷ ls) = let h = words_of ks ls in omega arith

pub ends_before : (ks : List Known) (ls : List PlainBinding) (j k : ℕ) (l : PlainBinding) → slice_get ls j ≡ Some l → j < k
    → locals_size ks (take j ls) + (shape ks l.ty).size ≤ locals_size ks (take k ls)
ends_before ks [] j k l e b = cc
ends_before ks (x ∷ ls) zero zero l e b = absurd (omega arith)
ends_before ks (x ∷ ls) zero (suc k) l e b = grind arith
ends_before ks (x ∷ ls) (suc j) zero l e b = absurd (omega arith)
ends_before ks (x ∷ ls) (suc j) (suc k) l e b = let h = ends_before ks ls j k l e (omega arith) in omega arith

pub ends_within : (ks : List Known) (ls : List PlainBinding) (j : ℕ) (l : PlainBinding) → slice_get ls j ≡ Some l
    → locals_size ks (take j ls) + (shape ks l.ty).size ≤ locals_size ks ls
ends_within ks [] j l e = cc
ends_within ks (x ∷ ls) zero l e = grind arith
ends_within ks (x ∷ ls) (suc j) l e = let h = ends_within ks ls j l e in omega arith

rounds_up : (n : ℕ) → n ≤ rounded_up n 4
rounds_up n = omega arith

stand_less : (ks : List Known) (n m to : ℕ) (ls : List PlainBinding) → n ≤ m → Stand m to (offsets_from ks m ls) (map (λ (l : PlainBinding). (shape ks l.ty).size) ls)
    → Stand n to (offsets_from ks m ls) (map (λ (l : PlainBinding). (shape ks l.ty).size) ls)
stand_less ks n m to [] l h = omega arith
stand_less ks n m to (x ∷ ls) l h = (omega arith, h.1)

-- the locals stand one behind the other
pub stand_from : (ks : List Known) (n to : ℕ) (ls : List PlainBinding) → n + locals_size ks ls ≤ to → Stand n to (offsets_from ks n ls) (map (λ (l : PlainBinding). (shape ks l.ty).size) ls)
stand_from ks n to [] b = omega arith
stand_from ks n to (l ∷ ls) b =
    let u = rounds_up (shape ks l.ty).size in
    (omega arith, stand_less ks (n + (shape ks l.ty).size) (n + local_size ks l) to ls (omega (arith, u)) (stand_from ks (n + local_size ks l) to ls (omega arith)))

pub offset_at : (ks : List Known) (n : ℕ) (ls : List PlainBinding) (k : ℕ) (l : PlainBinding) → slice_get ls k ≡ Some l → slice_get (offsets_from ks n ls) k ≡ Some (n + locals_size ks (take k ls))
offset_at ks n [] k l e = cc
offset_at ks n (x ∷ ls) zero l e = ap Some (omega arith)
offset_at ks n (x ∷ ls) (suc k) l e = offset_at ks (n + local_size ks x) ls k l e ∙ ap Some (omega arith)
