-- The bytes of an aligned access of at most 4 bytes are decided alike: regions and fetch places begin and end at multiples of 4.
use Rattle.std.proofs.Common.{◌≡◌, ℕ, ◌+◌, ◌-◌, ◌*◌, ◌/◌, ◌%◌, ◌^◌, ◌<◌, ◌≤◌, Bool, false, not, ◌&&◌, ◌||◌, List, [], ◌∷◌, Option, Some, None, nat_eq, nat_lt, IsTrue, ◌↔◌, subst, refl, sym, ap, ap₂, ◌∙◌, inl, inr, ⊎_elim, arith}
use Rattle.std.specs.Int.{bit_at}
use Rattle.std.proofs.Math.Nat.{div-div-eq-div-mul}
use Rattle.std.proofs.lemmas.Nat.{pow-add}
use Rattle.std.proofs.lemmas.Bool.{cases_lt}
use Rattle.std.proofs.lemmas.Bool.Decides.{nat_tests}
use Rattle.machine_protection.specs.declared.region.Region.{Region}
use Rattle.machine_protection.specs.declared.region.Access.{Access}
use Rattle.machine_protection.specs.declared.region.Access.TheVariants.{Read, Write, Fetch}
use Rattle.machine_protection.specs.Regions.{holds, is_enabled, is_of_legal_size, is_in_block, is_taken_out, size_log}
use Rattle.machine_protection.specs.Registers.{Registers}
use Rattle.machine_protection.proofs.Protection.{permits_is_allowed}
use Rattle.machine_protection.specs.Protection.{Allowed, IsAccessWidth, BytesAreAlike, is_fetch_place, default_allows, or_this, deciding, decided, while_on, is_on, has_background, permits}

-- the bytes of an aligned access stand in one word
pub one_word : (w a i : ℕ) → IsAccessWidth w → a % w ≡ 0 → i < w → (a + i) / 4 ≡ a / 4
one_word w a i (inl e) al lt = let z : i ≡ 0 = omega arith in ap (λ n. n / 4) (let s : a + i ≡ a = omega arith in s)
one_word w a i (inr (inl e)) al lt = let al' : a % 2 ≡ 0 = ap (λ n. a % n) (sym e) ∙ al in omega arith
one_word w a i (inr (inr e)) al lt = let al' : a % 4 ≡ 0 = ap (λ n. a % n) (sym e) ∙ al in omega arith

-- two addresses of one word lie in one block of any size from 4 bytes on
pub one_block : (a b s : ℕ) → 2 ≤ s → a / 4 ≡ b / 4 → a / 2 ^ s ≡ b / 2 ^ s
one_block a b s le e =
    let split : s ≡ 2 + (s - 2) = omega arith in
    let whole : 2 ^ s ≡ 4 * 2 ^ (s - 2) = ap (λ n. 2 ^ n) split ∙ pow-add 2 2 (s - 2) in
    ap (λ n. a / n) whole ∙ sym (div-div-eq-div-mul a 4 (2 ^ (s - 2))) ∙ ap (λ n. n / 2 ^ (s - 2)) e ∙ div-div-eq-div-mul b 4 (2 ^ (s - 2)) ∙ sym (ap (λ n. b / n) whole)

-- a region of at most 16 bytes is of no legal size
pub not_over_four : (s : ℕ) → s ≤ 4 → nat_lt 4 s ≡ false
not_over_four s le = grind (arith, nat_tests)

pub holds_alike : (g : Region) (a b : ℕ) → a / 4 ≡ b / 4 → holds g a ≡ holds g b
unfolding holds
holds_alike g a b e = ⊎_elim large (λ le. none (not_over_four (size_log g) le)) (cases_lt 4 (size_log g))
  where
    part : 4 < size_log g → is_taken_out g a ≡ is_taken_out g b
    part lt = ap (λ n. nat_lt 7 (size_log g) && nat_eq (bit_at (g.rasr / 2 ^ 8 % 2 ^ 8) (n % 8)) 1) (one_block a b (size_log g - 3) (omega arith) e)

    block : 4 < size_log g → is_in_block g a ≡ is_in_block g b
    block lt = ap (λ n. nat_eq n (g.rbar / 2 ^ size_log g)) (one_block a b (size_log g) (omega arith) e)

    large : 4 < size_log g → (is_enabled g && (is_of_legal_size g && (is_in_block g a && not (is_taken_out g a)))) ≡ (is_enabled g && (is_of_legal_size g && (is_in_block g b && not (is_taken_out g b))))
    large lt = ap₂ (λ x y. is_enabled g && (is_of_legal_size g && (x && not y))) (block lt) (part lt)

    none : is_of_legal_size g ≡ false → (is_enabled g && (is_of_legal_size g && (is_in_block g a && not (is_taken_out g a)))) ≡ (is_enabled g && (is_of_legal_size g && (is_in_block g b && not (is_taken_out g b))))
    none f = rw f

pub deciding_alike : (gs : List Region) (a b : ℕ) → a / 4 ≡ b / 4 → deciding gs a ≡ deciding gs b
unfolding deciding
deciding_alike [] a b e = refl
deciding_alike (g ∷ gs) a b e = ap₂ (λ x o. or_this x g o) (holds_alike g a b e) (deciding_alike gs a b e)

below_alike : (a b n : ℕ) → a / 4 ≡ b / 4 → nat_lt a (n * 4) ≡ nat_lt b (n * 4)
below_alike a b n e = grind (arith, nat_tests)

from_alike : (a b n : ℕ) → a / 4 ≡ b / 4 → nat_lt (n * 4 + 3) a ≡ nat_lt (n * 4 + 3) b
from_alike a b n e = grind (arith, nat_tests)

fetch_place_alike : (a b : ℕ) → a / 4 ≡ b / 4 → is_fetch_place a ≡ is_fetch_place b
fetch_place_alike a b e =
    ap₂ (λ x y. x || y) (below_alike a b 0x10000000 e) (ap₂ (λ x y. x && y) (from_alike a b 0x17FFFFFF e) (below_alike a b 0x28000000 e))

default_alike : (kind : Access) (a b : ℕ) → a / 4 ≡ b / 4 → default_allows kind a ≡ default_allows kind b
default_alike Read a b e = refl
default_alike Write a b e = refl
default_alike Fetch a b e = fetch_place_alike a b e

-- two addresses of one word are permitted alike
pub permits_alike : (m : Registers) (u : Bool) (kind : Access) (a b : ℕ) → a / 4 ≡ b / 4 → permits m u kind a ≡ permits m u kind b
unfolding permits
permits_alike m u kind a b e = ap₂ (λ x y. while_on (is_on m) x y) (default_alike kind a b e) (over (deciding m.regions a) (deciding m.regions b) (deciding_alike m.regions a b e) ∙ at_b (deciding m.regions b))
  where
    over : (o p : Option Region) → o ≡ p → decided o (has_background m) u kind a ≡ decided p (has_background m) u kind a
    over o p h = ap (λ x. decided x (has_background m) u kind a) h

    at_b : (p : Option Region) → decided p (has_background m) u kind a ≡ decided p (has_background m) u kind b
    at_b (Some g) = refl
    at_b None = ap (λ x. not u && (has_background m && x)) (default_alike kind a b e)

pub bytes_are_alike : BytesAreAlike
bytes_are_alike m u kind w a i wide al lt = permits_alike m u kind (a + i) a (one_word w a i wide al lt)

-- an aligned access is permitted exactly where each of its bytes is allowed
pub permits_bytes : (m : Registers) (u : Bool) (kind : Access) (w a : ℕ) → IsAccessWidth w → a % w ≡ 0 → IsTrue (permits m u kind a) ↔ ((i : ℕ) → i < w → Allowed m u kind (a + i))
permits_bytes m u kind w a wide al = (
  λ t i lt. (permits_is_allowed m u kind (a + i)).0 (bytes_are_alike m u kind w a i wide al lt ∙ t),
  λ each. (permits_is_allowed m u kind a).1 (subst (λ n. Allowed m u kind n) (let z : a + 0 ≡ a = omega arith in z) (each 0 (some wide))),
)
  where
    some : IsAccessWidth w → 0 < w
    some (inl e) = omega arith
    some (inr (inl e)) = omega arith
    some (inr (inr e)) = omega arith
