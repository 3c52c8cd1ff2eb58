-- Addresses as words write them.
use Rattle.std.proofs.Common.{◌≡◌, ℕ, ◌≤◌, List, [], ◌∷◌, length, get_or, nat_eq, None, false, refl, ap, ◌∙◌, arith}
use Rattle.std.proofs.lemmas.Bool.{ne_eqb}
use Rattle.base_numerals.specs.Numerals.{numeral}
use Rattle.aces_words.specs.Requests.{value_of, address_of}

-- a sign is no digit
signed_alone : (bs : List ℕ) → address_of (45 ∷ bs) ≡ None
signed_alone [] = refl
signed_alone (b ∷ bs) = refl

pub signed : (word : List ℕ) → 1 ≤ length word → get_or word 0 0 ≡ 45 → address_of word ≡ None
signed [] h e = let z : ⊥ = omega (arith, h) in absurd z
signed (b ∷ bs) h e = ap (λ v. address_of (v ∷ bs)) e ∙ signed_alone bs

-- a word without a sign is an address where it is a number as firmware texts have it
by_first : (b : ℕ) (bs : List ℕ) → nat_eq b 45 ≡ false → value_of (numeral (b ∷ bs)) ≡ address_of (b ∷ bs)
unfolding numeral
by_first b bs e = rw e refl

pub unsigned : (word : List ℕ) → ((1 ≤ length word) × (get_or word 0 0 ≡ 45) → ⊥) → value_of (numeral word) ≡ address_of word
unfolding numeral
unsigned [] h = refl
unsigned (b ∷ bs) h = by_first b bs (ne_eqb b 45 (λ e. h (omega arith, e)))
