-- All addresses of a block of 32 bytes are decided alike: regions, their eighths and fetch places begin and end at multiples of 32.
use Rattle.std.proofs.Common.{◌≡◌, ℕ, ◌+◌, ◌-◌, ◌*◌, ◌/◌, ◌%◌, ◌^◌, ◌<◌, ◌≤◌, Bool, false, not, ◌&&◌, ◌||◌, List, [], ◌∷◌, Option, Some, None, nat_eq, nat_lt, refl, sym, ap, ap₂, ◌∙◌, ⊎_elim, arith}
use Rattle.std.specs.Int.{bit_at}
use Rattle.std.proofs.Math.Nat.{div-div-eq-div-mul}
use Rattle.std.proofs.lemmas.Nat.{pow-add}
use Rattle.std.proofs.lemmas.Bool.{cases_lt}
use Rattle.std.proofs.lemmas.Bool.Decides.{nat_tests}
use Rattle.machine_protection.specs.declared.region.Region.{Region}
use Rattle.machine_protection.specs.declared.region.Access.{Access}
use Rattle.machine_protection.specs.declared.region.Access.TheVariants.{Read, Write, Fetch}
use Rattle.machine_protection.specs.Regions.{holds, is_enabled, is_of_legal_size, is_in_block, is_taken_out, size_log}
use Rattle.machine_protection.specs.Registers.{Registers}
use Rattle.machine_protection.specs.Protection.{is_fetch_place, default_allows, or_this, deciding, decided, while_on, is_on, has_background, permits}
use Rattle.machine_protection.proofs.Alike.{not_over_four}

-- two addresses of one block lie in one block of any size from 32 bytes on
one_block : (a b s : ℕ) → 5 ≤ s → a / 32 ≡ b / 32 → a / 2 ^ s ≡ b / 2 ^ s
one_block a b s le e =
    let split : s ≡ 5 + (s - 5) = omega arith in
    let whole : 2 ^ s ≡ 32 * 2 ^ (s - 5) = ap (λ n. 2 ^ n) split ∙ pow-add 2 5 (s - 5) in
    ap (λ n. a / n) whole ∙ sym (div-div-eq-div-mul a 32 (2 ^ (s - 5))) ∙ ap (λ n. n / 2 ^ (s - 5)) e ∙ div-div-eq-div-mul b 32 (2 ^ (s - 5)) ∙ sym (ap (λ n. b / n) whole)

no_part : (s : ℕ) → s ≤ 7 → nat_lt 7 s ≡ false
no_part s le = grind (arith, nat_tests)

part_alike : (g : Region) (a b : ℕ) → a / 32 ≡ b / 32 → is_taken_out g a ≡ is_taken_out g b
part_alike g a b e = ⊎_elim large (λ le. rw (no_part (size_log g) le) refl) (cases_lt 7 (size_log g))
  where
    large : 7 < size_log g → is_taken_out g a ≡ is_taken_out g b
    large lt = ap (λ n. nat_lt 7 (size_log g) && nat_eq (bit_at (g.rasr / 2 ^ 8 % 2 ^ 8) (n % 8)) 1) (one_block a b (size_log g - 3) (omega arith) e)

holds_alike : (g : Region) (a b : ℕ) → a / 32 ≡ b / 32 → holds g a ≡ holds g b
unfolding holds
holds_alike g a b e = ⊎_elim large (λ le. none (not_over_four (size_log g) le)) (cases_lt 4 (size_log g))
  where
    block : 4 < size_log g → is_in_block g a ≡ is_in_block g b
    block lt = ap (λ n. nat_eq n (g.rbar / 2 ^ size_log g)) (one_block a b (size_log g) (omega arith) e)

    large : 4 < size_log g → (is_enabled g && (is_of_legal_size g && (is_in_block g a && not (is_taken_out g a)))) ≡ (is_enabled g && (is_of_legal_size g && (is_in_block g b && not (is_taken_out g b))))
    large lt = ap₂ (λ x y. is_enabled g && (is_of_legal_size g && (x && not y))) (block lt) (part_alike g a b e)

    none : is_of_legal_size g ≡ false → (is_enabled g && (is_of_legal_size g && (is_in_block g a && not (is_taken_out g a)))) ≡ (is_enabled g && (is_of_legal_size g && (is_in_block g b && not (is_taken_out g b))))
    none f = rw f

deciding_alike : (gs : List Region) (a b : ℕ) → a / 32 ≡ b / 32 → deciding gs a ≡ deciding gs b
unfolding deciding
deciding_alike [] a b e = refl
deciding_alike (g ∷ gs) a b e = ap₂ (λ x o. or_this x g o) (holds_alike g a b e) (deciding_alike gs a b e)

below_alike : (a b n : ℕ) → a / 32 ≡ b / 32 → nat_lt a (n * 32) ≡ nat_lt b (n * 32)
below_alike a b n e = grind (arith, nat_tests)

from_alike : (a b n : ℕ) → a / 32 ≡ b / 32 → nat_lt (n * 32 + 31) a ≡ nat_lt (n * 32 + 31) b
from_alike a b n e = grind (arith, nat_tests)

fetch_place_alike : (a b : ℕ) → a / 32 ≡ b / 32 → is_fetch_place a ≡ is_fetch_place b
fetch_place_alike a b e =
    ap₂ (λ x y. x || y) (below_alike a b 0x2000000 e) (ap₂ (λ x y. x && y) (from_alike a b 0x2FFFFFF e) (below_alike a b 0x5000000 e))

default_alike : (kind : Access) (a b : ℕ) → a / 32 ≡ b / 32 → default_allows kind a ≡ default_allows kind b
default_alike Read a b e = refl
default_alike Write a b e = refl
default_alike Fetch a b e = fetch_place_alike a b e

-- two addresses of one block are permitted alike
pub permits_alike : (m : Registers) (u : Bool) (kind : Access) (a b : ℕ) → a / 32 ≡ b / 32 → permits m u kind a ≡ permits m u kind b
unfolding permits
permits_alike m u kind a b e = ap₂ (λ x y. while_on (is_on m) x y) (default_alike kind a b e) (over (deciding m.regions a) (deciding m.regions b) (deciding_alike m.regions a b e) ∙ at_b (deciding m.regions b))
  where
    over : (o p : Option Region) → o ≡ p → decided o (has_background m) u kind a ≡ decided p (has_background m) u kind a
    over o p h = ap (λ x. decided x (has_background m) u kind a) h

    at_b : (p : Option Region) → decided p (has_background m) u kind a ≡ decided p (has_background m) u kind b
    at_b (Some g) = refl
    at_b None = ap (λ x. not u && (has_background m && x)) (default_alike kind a b e)
