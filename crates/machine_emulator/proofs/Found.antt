-- What stands at the number of an address, and one more behind the others.
use Rattle.std.proofs.Common.{◌≡◌, ℕ, zero, suc, ◌+◌, ◌-◌, ◌*◌, ◌/◌, ◌%◌, ◌<◌, ◌≤◌, List, [], ◌∷◌, ◌++◌, Option, Some, None, length, get_or, subst, arith}
use Rattle.std.specs.Option.{IfSome}
use Rattle.machine_devices.specs.declared.image.Image.{Image}
use Rattle.machine_emulator.specs.declared.flash_code.Decoded.{Decoded}
use Rattle.machine_emulator.specs.declared.flash_code.FlashCode.{FlashCode}
use Rattle.machine_emulator.specs.Code.{IsDecoded, EachDecoded, IsCodeOf, StandsIn}

abbrev Fits : (flash : List ℕ) → (k : ℕ) → Option Decoded → Type 0
Fits flash k o = IfSome o (λ x. IsDecoded flash (2 * k) x)

pub each_push : (flash : List ℕ) (k : ℕ) (os : List (Option Decoded)) (o : Option Decoded) → EachDecoded flash k os → IfSome o (λ x. IsDecoded flash (2 * (k + length os)) x) → EachDecoded flash k (os ++ o ∷ [])
each_push flash k [] o h g = (subst (λ n. Fits flash n o) (let e : k + 0 ≡ k = omega arith in e) g, tt)
each_push flash k (p ∷ os) o h g =
    (h.0, each_push flash (suc k) os o h.1 (subst (λ n. Fits flash n o) (let e : k + suc (length os) ≡ suc k + length os = omega arith in e) g))

each_at : (flash : List ℕ) (k : ℕ) (os : List (Option Decoded)) (j : ℕ) → EachDecoded flash k os → j < length os → Fits flash (k + j) (get_or os j None)
each_at flash k [] j h lt = absurd (omega (arith, lt))
each_at flash k (o ∷ os) zero h lt = subst (λ n. Fits flash n o) (let e : k ≡ k + 0 = omega arith in e) h.0
each_at flash k (o ∷ os) (suc j) h lt =
    subst (λ n. Fits flash n (get_or os j None)) (let e : suc k + j ≡ k + suc j = omega arith in e) (each_at flash (suc k) os j h.1 (omega arith))

stands : (i : Image) (a o : ℕ) (r : Option Decoded) → i.flash_base ≤ a → o ≡ a - i.flash_base → IfSome r (λ x. IsDecoded i.flash o x) → IfSome r (λ x. StandsIn i a x)
stands i a o None lo e h = tt
stands i a o (Some x) lo e h = record { above = lo; there = subst (λ n. IsDecoded i.flash n x) e h }

pub found : (i : Image) (c : FlashCode) (a : ℕ) → IsCodeOf i c → a % 2 ≡ 0 → c.base ≤ a → (a - c.base) / 2 < length c.instructions.items
    → IfSome (get_or c.instructions.items ((a - c.base) / 2) None) (λ x. StandsIn i a x)
found i c a h ev lo lt =
    let base = h.base in
    let even = h.even in
    let number : ℕ = (a - c.base) / 2 in
    let none : 0 + number ≡ number = omega arith in
    stands i a (2 * number) (get_or c.instructions.items number None) (omega arith) (omega arith)
    (subst (λ n. Fits i.flash n (get_or c.instructions.items number None)) none (each_at i.flash 0 c.instructions.items number h.each lt))

pub ruleset found_rules = (found)
