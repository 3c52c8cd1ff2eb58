-- A text that grows by two named numbers, with a piece between them.
use Rattle.std.proofs.Common.{◌≡◌, ℕ, List, ◌++◌, append_assoc}

pub joined : (old t1 t2 t3 n1 d1 s n2 d2 : List ℕ) → t1 ≡ old ++ n1 ++ d1 → t2 ≡ t1 ++ s → t3 ≡ t2 ++ n2 ++ d2 → t3 ≡ old ++ (n1 ++ d1 ++ s ++ n2 ++ d2)
joined old t1 t2 t3 n1 d1 s n2 d2 e1 e2 e3 = rw (e3, e2, e1) (simp append_assoc)
