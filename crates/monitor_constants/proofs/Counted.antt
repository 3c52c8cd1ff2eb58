-- Sizes that are counted as far as they fit 64 bits, and the block for them; words that wrap.
use Rattle.std.proofs.Common.{◌≡◌, ℕ, zero, suc, ◌+◌, ◌-◌, ◌*◌, ◌/◌, ◌%◌, ◌^◌, ◌≤◌, ◌<◌, Bool, true, false, List, min, max, nat_le, length, drop, get_or, refl, sym, ap, ◌∙◌, arith}
use Rattle.std.specs.Prelude.{unwrap_or}
use Rattle.std.specs.Int.{IsPowerOfTwo, trailing_zeros, w32}
use lib.Count.{count_trailing_zeros}
use Rattle.std.proofs.Math.Pow.{pow_mono}
use Rattle.std.proofs.lemmas.Bool.{cases_lt, leb-true}
use mathlib.Core.Logic.{⊎_elim}
use Rattle.std.proofs.lemmas.Nat.{mul-mod_first, mul-mod_second}
use Rattle.plan_model.specs.Covers.{least_power}
use Rattle.plan_model.specs.Blocks.{block_size_for}
use Rattle.plan_model.proofs.Powers.{next_power_is_block}
use Rattle.base_words.specs.Arithmetic.{word}
use Rattle.machine_protection.specs.declared.region.Region.{Region}
use Rattle.machine_protection.specs.declared.words.Rights.{Rights}
use Rattle.machine_protection.specs.declared.words.Rights.TheVariants.{Background}
use Rattle.machine_protection.specs.RegionWords.{rights_word, size_field, region_of}
use Rattle.std.proofs.lemmas.List.{drop_more}
use Rattle.machine_protection.specs.Regions.{size_log}
use Rattle.monitor_model.specs.declared.tables.CompRecord.{CompRecord}
use Rattle.monitor_model.specs.Layout.{greatest_code}
use Rattle.monitor_program.specs.Constants.{background_of, region_words}
use Rattle.monitor_constants.specs.Sizes.{most}
use Rattle.base_laws.proofs.Powers.{none_found as find_none}

-- ---- as far as they fit

at_least : (x n : ℕ) → most ≤ x → most ≤ x * suc n
at_least x n le = grind arith

pub product : (a n : ℕ) → min (min a most * n) most ≡ min (a * n) most
product a zero = omega arith
product a (suc n) = ⊎_elim large small (cases_lt most a)
  where
    small : a ≤ most → min (min a most * suc n) most ≡ min (a * suc n) most
    small le = let e : min a most ≡ a = omega arith in ap (λ x. min (x * suc n) most) e

    large : most < a → min (min a most * suc n) most ≡ min (a * suc n) most
    large lt =
        let e : min a most ≡ most = omega arith in
        let m = at_least a n (omega arith) in
        let k = at_least most n (omega arith) in
        ap (λ x. min (x * suc n) most) e ∙ omega (arith, m, k)

pub plus : (x y a b r : ℕ) → a ≡ min x most → b ≡ min y most → r ≡ min (a + b) most → r ≡ min (x + y) most
plus x y a b r e f g = omega arith

pub four_times : (x a r : ℕ) → a ≡ min x most → r ≡ min (a * 4) most → r ≡ min (4 * x) most
four_times x a r e g = omega arith

pub record_size : (n a r : ℕ) → a ≡ min (8 * n) most → r ≡ min (a + 16) most → r ≡ min (8 * n + 16) most
record_size n a r e g = omega arith

-- what is counted of few lists fits
pub all_fit : (r whole n : ℕ) → r ≡ min whole most → r ≤ 2 ^ 30 * n → n < 2 ^ 32 → r ≡ whole
all_fit r whole n e small few = omega arith

-- ---- blocks

-- of more bytes than a power holds the block is the greatest
block_of_more : (n : ℕ) → 2 ^ 32 < n → block_size_for n ≡ 2 ^ 32
unfolding block_size_for least_power
block_of_more n more = ap (λ o. unwrap_or o (2 ^ 32)) (find_none (nat_le n) 5 28 (λ i u v. fails i (nat_le n (2 ^ i)) refl (pow_mono {i = i} {j = 32} (omega arith))))
  where
    fails : (i : ℕ) (b : Bool) → nat_le n (2 ^ i) ≡ b → 2 ^ i ≤ 2 ^ 32 → nat_le n (2 ^ i) ≡ false
    fails i true e le = let h = leb-true n (2 ^ i) e in absurd (omega arith)
    fails i false e le = e

-- by the number as far as it fits
pub greatest_block : (n bytes : ℕ) → bytes ≡ min n most → 2 ^ 32 < bytes → 2 ^ 32 ≡ block_size_for n
greatest_block n bytes e more = sym (block_of_more n (omega arith))

pub least_block : (n bytes p : ℕ) → bytes ≡ min n most → bytes ≤ 2 ^ 32 → IsPowerOfTwo p → max bytes 32 ≤ p → p / 2 < max bytes 32 → p ≡ block_size_for n
least_block n bytes p e small power least greatest =
    let same : n ≡ bytes = omega arith in
    sym (next_power_is_block n p (omega arith) power (omega arith) (omega arith))

pub power_small : (p : ℕ) → IsPowerOfTwo p → p / 2 < 2 ^ 32 → p ≤ 2 ^ 32
power_small p (k, is) h = ⊎_elim large small (cases_lt 32 k)
  where
    large : 32 < k → p ≤ 2 ^ 32
    large lt = let le = pow_mono {i = 33} {j = k} lt in absurd (omega arith)

    small : k ≤ 32 → p ≤ 2 ^ 32
    small le = let m = pow_mono {i = k} {j = 32} le in omega arith

-- ---- regions

pub zeros_of_greatest : trailing_zeros w32 (2 ^ 32) ≡ 32
unfolding count_trailing_zeros
zeros_of_greatest = refl

pub zeros_of_mega : trailing_zeros w32 (2 ^ 20) ≡ 20
unfolding count_trailing_zeros
zeros_of_mega = refl

pub zeros_of_giga : trailing_zeros w32 (2 ^ 30) ≡ 30
unfolding count_trailing_zeros
zeros_of_giga = refl

-- ---- words that wrap

pub words_behind : (a x : ℕ) → (a + x % 2 ^ 32) % 2 ^ 32 ≡ (a + x) % 2 ^ 32
words_behind a x = omega arith

pub records_behind : (a size count : ℕ) → (a + size * (count % 2 ^ 32) % 2 ^ 32) % 2 ^ 32 ≡ (a + size * count) % 2 ^ 32
records_behind a size count = ap (λ x. (a + x) % 2 ^ 32) (mul-mod_second size count (2 ^ 32)) ∙ words_behind a (size * count)

pub wrapped_behind : (a size count : ℕ) → (a % 2 ^ 32 + size % 2 ^ 32 * count) % 2 ^ 32 ≡ (a + size * count) % 2 ^ 32
wrapped_behind a size count =
    let e = mul-mod_first size count (2 ^ 32) in
    let f : (a % 2 ^ 32 + size % 2 ^ 32 * count) % 2 ^ 32 ≡ (a + size % 2 ^ 32 * count % 2 ^ 32) % 2 ^ 32 = omega arith in
    f ∙ ap (λ x. (a + x) % 2 ^ 32) e ∙ words_behind a (size * count)

-- ---- regions by their fields

pub region_by_field : (slot base size : ℕ) (rights : Rights) (field : ℕ) → field ≡ size_field size
    → record { rbar = word (base + 2 ^ 4 + slot); rasr = word (rights_word rights + 0 * 2 ^ 8 + field * 2) } ≡ region_words (region_of slot base size 0 rights)
unfolding region_of
region_by_field slot base size rights field e =
    let g : ℕ → Region = λ n. record { rbar = word (base + 2 ^ 4 + slot); rasr = word (rights_word rights + 0 * 2 ^ 8 + n * 2) } in
    ap g e

pub background_closed : (base : ℕ) (closed : Bool) → closed ≡ true
    → record { rbar = word (base / 2 ^ 20 * 2 ^ 20 + 2 ^ 4 + 0); rasr = word (0x12060001 + 0 * 2 ^ 8 + 19 * 2) } ≡ region_words (background_of closed base)
background_closed base true e = region_by_field 0 (base / 2 ^ 20 * 2 ^ 20) (2 ^ 20) Background 19 (sym (ap (λ n. n - 1) zeros_of_mega))
background_closed base false e = absurd cc

pub background_open : (base : ℕ) (closed : Bool) → closed ≡ false
    → record { rbar = word (0 + 2 ^ 4 + 0); rasr = word (0x12060001 + 0 * 2 ^ 8 + 29 * 2) } ≡ region_words (background_of closed base)
background_open base false e = region_by_field 0 0 (2 ^ 30) Background 29 (sym (ap (λ n. n - 1) zeros_of_giga))
background_open base true e = absurd cc

-- ---- the greatest code

pub greatest_more : (size : ℕ) (cs : List CompRecord) (i : ℕ) (d : CompRecord) → i < length cs
    → max (max size (2 ^ size_log (get_or cs i d).code)) (greatest_code (drop (i + 1) cs)) ≡ max size (greatest_code (drop i cs))
greatest_more size cs i d lt =
    let e = ap greatest_code (drop_more cs i d lt) in
    omega (arith, e)
