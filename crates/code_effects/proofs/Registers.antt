-- What registers hold, as far as it is known.
use Rattle.std.proofs.Common.{◌≡◌, ℕ, zero, suc, ◌<◌, List, [], ◌∷◌, length, get_or, Option, Some, None, refl, ◌∙◌, arith, rules}
use Rattle.std.proofs.lemmas.Option.{same_Some}
use Rattle.code_effects.specs.Points.{AreAsKnown, known}

pub holds_nothing : (low : List ℕ) → length low ≡ 8 → AreAsKnown [] low
holds_nothing low h = record { eight = h; each = λ k v e. absurd (search rules) }

-- register by register
abbrev pub Agree : (known : List (Option ℕ)) → (low : List ℕ) → Type 0
Agree [] low = Unit {0}
Agree (k ∷ ks) [] = ⊥
Agree (None ∷ ks) (v ∷ vs) = Agree ks vs
Agree (Some u ∷ ks) (v ∷ vs) = (v ≡ u) × Agree ks vs

agreed : (known : List (Option ℕ)) (low : List ℕ) → Agree known low → (k v : ℕ) → get_or known k None ≡ Some v → get_or low k 0 ≡ v
agreed [] low h k v e = absurd (search rules)
agreed (x ∷ ks) [] h k v e = absurd h
agreed (None ∷ ks) (u ∷ us) h zero v e = absurd (search rules)
agreed (None ∷ ks) (u ∷ us) h (suc k) v e = agreed ks us h k v e
agreed (Some w ∷ ks) (u ∷ us) h zero v e = h.0 ∙ same_Some w v e
agreed (Some w ∷ ks) (u ∷ us) h (suc k) v e = agreed ks us h.1 k v e

pub holds_by : (known : List (Option ℕ)) (low : List ℕ) → length low ≡ 8 → Agree known low → AreAsKnown known low
holds_by known low h a = record { eight = h; each = agreed known low a }

-- ---- words from r0 on

known_at : (vs : List ℕ) (k v : ℕ) → get_or (known vs) k None ≡ Some v → (k < length vs) × (get_or vs k 0 ≡ v)
known_at [] k v e = absurd (search rules)
known_at (u ∷ us) zero v e = (omega arith, same_Some u v e)
known_at (u ∷ us) (suc k) v e = let r = known_at us k v e in let l = r.0 in (omega arith, r.1)

pub holds_known : (vs low : List ℕ) → length low ≡ 8 → ((k : ℕ) → k < length vs → get_or low k 0 ≡ get_or vs k 0) → AreAsKnown (known vs) low
holds_known vs low h g = record { eight = h; each = λ k v e. let r = known_at vs k v e in g k r.0 ∙ r.1 }

pub known_holds : (vs low : List ℕ) → AreAsKnown (known vs) low → (k : ℕ) → k < length vs → get_or low k 0 ≡ get_or vs k 0
known_holds [] low h k l = absurd (omega arith)
known_holds (v ∷ vs) low h k l = h.each k (get_or (v ∷ vs) k 0) (some_at (v ∷ vs) k l)
  where
    some_at : (us : List ℕ) (k : ℕ) → k < length us → get_or (known us) k None ≡ Some (get_or us k 0)
    some_at [] k l = absurd (omega arith)
    some_at (u ∷ us) zero l = refl
    some_at (u ∷ us) (suc k) l = some_at us k (omega arith)
