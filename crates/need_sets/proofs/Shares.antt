-- Rows stay what they are when lists come at the end.
use Rattle.std.proofs.Common.{◌≡◌, ℕ, suc, ◌<◌, List, [], ◌∷◌, ◌++◌, length, get_or, refl, ap, arith}
use Rattle.ir_model.specs.declared.object.ObjId.{ObjId}
use Rattle.need_sets.specs.Sets.{rows_by, AreOfLists, IsLonger}

abbrev There : (lists : List (List ObjId)) (numbers : List ℕ) → Type 0
There lists numbers = (k : ℕ) → k < length numbers → get_or numbers k 0 < length lists

rest_there : (lists : List (List ObjId)) (n : ℕ) (ns : List ℕ) → There lists (n ∷ ns) → There lists ns
rest_there lists n ns h k l = h (suc k) (omega arith)

stay : (lists new : List (List ObjId)) (ns : List ℕ) → There lists ns → IsLonger lists new → rows_by new ns ≡ rows_by lists ns
stay lists new [] h g = refl
stay lists new (n ∷ ns) h g = let a = g.kept n (h 0 (omega arith)) in let b = stay lists new ns (rest_there lists n ns h) g in cc

grow : (lists new : List (List ObjId)) (ns : List ℕ) (n : ℕ) (row : List ObjId) → There lists ns → IsLonger lists new → get_or new n [] ≡ row → rows_by new (ns ++ n ∷ []) ≡ rows_by lists ns ++ row ∷ []
grow lists new [] n row h g e = ap (λ (x : List ObjId). x ∷ []) e
grow lists new (m ∷ ns) n row h g e = let a = g.kept m (h 0 (omega arith)) in let b = grow lists new ns n row (rest_there lists m ns h) g e in cc

pub rows_stay : (lists new : List (List ObjId)) (ns known : List ℕ) → AreOfLists lists ns known → IsLonger lists new → rows_by new ns ≡ rows_by lists ns
rows_stay lists new ns known h g = stay lists new ns h.each g

pub rows_grow : (lists new : List (List ObjId)) (ns known : List ℕ) (n : ℕ) (row : List ObjId) → AreOfLists lists ns known → IsLonger lists new → get_or new n [] ≡ row → rows_by new (ns ++ n ∷ []) ≡ rows_by lists ns ++ row ∷ []
rows_grow lists new ns known n row h g e = grow lists new ns n row h.each g e
