-- Lines that are put together piece by piece.
use Rattle.std.proofs.Common.{◌≡◌, ℕ, List, [], ◌++◌, append_assoc}

-- a piece behind a list that has its rest still to come
module _ (start : List ℕ) where
  pub joined_three : (a b c l1 l2 l3 : List ℕ) → l1 ≡ start ++ a → l2 ≡ l1 ++ b → l3 ≡ l2 ++ c → start ≡ [] → l3 ≡ a ++ b ++ c
  joined_three a b c l1 l2 l3 e1 e2 e3 e = rw (e3, e2, e1, e) (simp append_assoc)

  pub joined_five : (a b c d e l1 l2 l3 l4 l5 : List ℕ) → l1 ≡ start ++ a → l2 ≡ l1 ++ b → l3 ≡ l2 ++ c → l4 ≡ l3 ++ d → l5 ≡ l4 ++ e
      → start ≡ [] → l5 ≡ a ++ b ++ c ++ d ++ e
  joined_five a b c d e l1 l2 l3 l4 l5 e1 e2 e3 e4 e5 e0 = rw (e5, e4, e3, e2, e1, e0) (simp append_assoc)

  pub joined_seven : (a b c d e f g l1 l2 l3 l4 l5 l6 l7 : List ℕ) → l1 ≡ start ++ a → l2 ≡ l1 ++ b → l3 ≡ l2 ++ c → l4 ≡ l3 ++ d → l5 ≡ l4 ++ e
      → l6 ≡ l5 ++ f → l7 ≡ l6 ++ g → start ≡ [] → l7 ≡ a ++ b ++ c ++ d ++ e ++ f ++ g
  joined_seven a b c d e f g l1 l2 l3 l4 l5 l6 l7 e1 e2 e3 e4 e5 e6 e7 e0 = rw (e7, e6, e5, e4, e3, e2, e1, e0) (simp append_assoc)

  pub joined_ten : (a b c d e f g h i j l1 l2 l3 l4 l5 l6 l7 l8 l9 l10 : List ℕ)
      → l1 ≡ start ++ a → l2 ≡ l1 ++ b → l3 ≡ l2 ++ c → l4 ≡ l3 ++ d → l5 ≡ l4 ++ e
      → l6 ≡ l5 ++ f → l7 ≡ l6 ++ g → l8 ≡ l7 ++ h → l9 ≡ l8 ++ i → l10 ≡ l9 ++ j
      → start ≡ [] → l10 ≡ a ++ b ++ c ++ d ++ e ++ f ++ g ++ h ++ i ++ j
  joined_ten a b c d e f g h i j l1 l2 l3 l4 l5 l6 l7 l8 l9 l10 e1 e2 e3 e4 e5 e6 e7 e8 e9 e10 e0 =
      rw (e10, e9, e8, e7, e6, e5, e4, e3, e2, e1, e0) (simp append_assoc)
