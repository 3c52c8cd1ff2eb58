-- How long a name is.
use Rattle.std.specs.Prelude.{not, nat_le}
use Rattle.std.proofs.Common.{◌≡◌, ℕ, ◌≤◌, true, List, [], ◌∷◌, length, arith}
use Rattle.std.proofs.lemmas.Bool.{false≢true, and_parts}
use Rattle.std.proofs.lemmas.Bool.Decides.{nat_tests}
use Rattle.base_names.specs.Names.{is_name, is_word, is_reserved}

pub name_lengths : (name : List ℕ) → is_name name ≡ true → (1 ≤ length name) × (length name ≤ 64)
unfolding is_name
name_lengths [] h = absurd (false≢true h)
name_lengths (x ∷ xs) h =
    let short : nat_le (length (x ∷ xs)) 64 ≡ true = (and_parts (nat_le (length (x ∷ xs)) 64) (not (is_reserved (x ∷ xs))) (and_parts (is_word (x ∷ xs)) _ h).1).0 in
    (omega arith, grind (arith, nat_tests))
