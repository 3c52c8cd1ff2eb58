-- What the words of a region mean.
use Rattle.std.proofs.Common.{◌≡◌, ◌≢◌, ℕ, ◌+◌, ◌-◌, ◌*◌, ◌/◌, ◌%◌, ◌^◌, ◌<◌, ◌≤◌, Bool, true, false, ◌&&◌, ◌↔◌, nat_eq, refl, sym, ap, ap₂, ◌∙◌, subst, ⊎_elim, arith, mul-div_cancel, pow_pos, mul_assoc, lit<, div-lt_iff_lt-mul, w32}
use Rattle.std.specs.Int.{bit_at, trailing_zeros, IsPowerOfTwo}
use Rattle.std.proofs.Math.Nat.{pow-le-pow_right, add-mul-div_right, div-div-eq-div-mul}
use Rattle.std.proofs.lemmas.Nat.{trailing_le, pow-add, pow_below, div-mul-add}
use Rattle.std.proofs.lemmas.Nat.Bits.{bit_at-lt}
use Rattle.std.proofs.lemmas.Bool.{cases_lt}
use Rattle.std.proofs.lemmas.Bool.Decides.{nat_tests}
use Rattle.machine_protection.specs.declared.region.Region.{Region}
use Rattle.machine_protection.specs.declared.region.Access.{Access}
use Rattle.machine_protection.specs.declared.region.Access.TheVariants.{Read, Write, Fetch}
use Rattle.machine_protection.specs.declared.words.Rights.{Rights}
use Rattle.machine_protection.specs.declared.words.Rights.TheVariants.{Background, Code, Stack, Ram, Device}
use Rattle.machine_protection.specs.Regions.{ap_reads, ap_writes, holds, allows, size_log, permission}
use Rattle.machine_protection.specs.Laws.{RegionsHoldTheirBlocks, RegionsGiveTheirRights}
use Rattle.machine_protection.specs.RegionWords.{rights_word, size_field, region_of, IsHeld, may}
use Rattle.machine_protection.proofs.Powers.{trailing_zeros-pow}
use Rattle.base_laws.proofs.Powers.{smaller_exponent}

-- the parts of MPU_RASR
pub record Parts (rights : Rights) (srd s r : ℕ) : Type 0 where
  pub enabled : r % 2 ≡ 1
  pub size : r / 2 % 32 ≡ s
  pub eighths : r / 2 ^ 8 % 2 ^ 8 ≡ srd
  pub high : r / 2 ^ 24 ≡ rights_word rights / 2 ^ 24

pub parts : (rights : Rights) (srd s : ℕ) → srd < 256 → s < 32 → Parts rights srd s (rights_word rights + srd * 2 ^ 8 + s * 2)
parts Background srd s h k = record { enabled = omega arith; size = omega arith; eighths = omega arith; high = omega arith }
parts Code srd s h k = record { enabled = omega arith; size = omega arith; eighths = omega arith; high = omega arith }
parts Stack srd s h k = record { enabled = omega arith; size = omega arith; eighths = omega arith; high = omega arith }
parts Ram srd s h k = record { enabled = omega arith; size = omega arith; eighths = omega arith; high = omega arith }
parts Device srd s h k = record { enabled = omega arith; size = omega arith; eighths = omega arith; high = omega arith }

-- what a block of 2 ^ k bytes at a multiple of its size holds, by its quotient
in_block : (s q a : ℕ) → 0 < s → (a / s ≡ q) ↔ ((q * s ≤ a) × (a < q * s + s))
in_block s q a p = (λ e. grind arith, λ h. grind arith)

-- the eighth of an address of the block
eighth : (e q a : ℕ) → 0 < e → q * (e * 8) ≤ a → a < q * (e * 8) + e * 8 → a / e % 8 ≡ (a - q * (e * 8)) / e
eighth e q a p low high =
    let r = a - q * (e * 8) in
    let split : a ≡ r + q * 8 * e = omega arith in
    let whole : a / e ≡ r / e + q * 8 = ap (λ n. n / e) split ∙ add-mul-div_right r (q * 8) p in
    let few : r / e < 8 = (div-lt_iff_lt-mul p).1 (let h : r < 8 * e = omega arith in h) in
    omega arith

-- what the test of a region says
holds_says : (g : Region) (a : ℕ) → (holds g a ≡ true) ↔ ((g.rasr % 2 ≡ 1) × (4 < size_log g) × (a / 2 ^ size_log g ≡ g.rbar / 2 ^ size_log g) × (7 < size_log g → bit_at (g.rasr / 2 ^ 8 % 2 ^ 8) (a / 2 ^ (size_log g - 3) % 8) ≢ 1))
unfolding holds
holds_says g a = (λ h. grind (arith, nat_tests), λ h. grind (arith, nat_tests))

-- the subregion of an address of the block, from the region's registers and from the block's base
same_eighth : (q k a : ℕ) → 3 ≤ k → q * 2 ^ k ≤ a → a < q * 2 ^ k + 2 ^ k → (a - q * 2 ^ k) / (2 ^ k / 8) ≡ a / 2 ^ (k - 3) % 8
same_eighth q k a three low high =
    let e = 2 ^ (k - 3) in
    let pe : 0 < e = pow_pos (k - 3) in
    let split : k ≡ (k - 3) + 3 = omega arith in
    let whole : 2 ^ k ≡ e * 8 = ap (λ n. 2 ^ n) split ∙ pow-add 2 (k - 3) 3 in
    let low' : q * (e * 8) ≤ a = subst (λ n. q * n ≤ a) whole low in
    let high' : a < q * (e * 8) + e * 8 = subst (λ n. a < q * n + n) whole high in
    let part : 2 ^ k / 8 ≡ e = ap (λ n. n / 8) whole ∙ mul-div_cancel e (lit< tt) in
    ap₂ (λ m n. (a - q * m) / n) whole part ∙ sym (eighth e q a pe low' high')

-- a region whose parts are these holds what its block leaves
is_held : (g : Region) (q k srd a : ℕ) → 5 ≤ k → g.rasr % 2 ≡ 1 → size_log g ≡ k → g.rasr / 2 ^ 8 % 2 ^ 8 ≡ srd → g.rbar / 2 ^ k ≡ q → (holds g a ≡ true) ↔ IsHeld (q * 2 ^ k) (2 ^ k) srd a
is_held g q k srd a five on size eighths base = (λ h. forth ((holds_says g a).0 h), λ h. (holds_says g a).1 (back h))
  where
    base' : g.rbar / 2 ^ size_log g ≡ q
    base' = ap (λ n. g.rbar / 2 ^ n) size ∙ base

    bit : q * 2 ^ k ≤ a → a < q * 2 ^ k + 2 ^ k → bit_at (g.rasr / 2 ^ 8 % 2 ^ 8) (a / 2 ^ (size_log g - 3) % 8) ≡ bit_at srd ((a - q * 2 ^ k) / (2 ^ k / 8))
    bit low high = ap₂ (λ n i. bit_at n i) eighths (ap (λ n. a / 2 ^ (n - 3) % 8) size ∙ sym (same_eighth q k a (omega arith) low high))

    forth : (g.rasr % 2 ≡ 1) × (4 < size_log g) × (a / 2 ^ size_log g ≡ g.rbar / 2 ^ size_log g) × (7 < size_log g → bit_at (g.rasr / 2 ^ 8 % 2 ^ 8) (a / 2 ^ (size_log g - 3) % 8) ≢ 1) → IsHeld (q * 2 ^ k) (2 ^ k) srd a
    forth t =
        let within : a / 2 ^ k ≡ q = ap (λ n. a / 2 ^ n) (sym size) ∙ t.2 ∙ base' in
        let b = (in_block (2 ^ k) q a (pow_pos k)).0 within in
        record {
          from_base = b.0;
          below_end = b.1;
          not_taken_out = λ big. (
              let eight = smaller_exponent 8 k big in
              let is_not = t.3 (omega arith) in
              let same = bit b.0 b.1 in
              let two = bit_at-lt srd ((a - q * 2 ^ k) / (2 ^ k / 8)) in
              let other : bit_at srd ((a - q * 2 ^ k) / (2 ^ k / 8)) ≢ 1 = λ e. is_not (same ∙ e) in
              omega arith);
        }

    back : IsHeld (q * 2 ^ k) (2 ^ k) srd a → (g.rasr % 2 ≡ 1) × (4 < size_log g) × (a / 2 ^ size_log g ≡ g.rbar / 2 ^ size_log g) × (7 < size_log g → bit_at (g.rasr / 2 ^ 8 % 2 ^ 8) (a / 2 ^ (size_log g - 3) % 8) ≢ 1)
    back h =
        let within : a / 2 ^ k ≡ q = (in_block (2 ^ k) q a (pow_pos k)).1 (h.from_base, h.below_end) in (
          on,
          omega arith,
          ap (λ n. a / 2 ^ n) size ∙ within ∙ sym base',
          λ big one.
              (let eight : 8 ≤ k = omega arith in
              let zero' = h.not_taken_out (pow-le-pow_right (lit< tt) eight) in
              let same = bit h.from_base h.below_end in
              let e : bit_at srd ((a - q * 2 ^ k) / (2 ^ k / 8)) ≡ 1 = sym same ∙ one in
              omega arith),
        )

-- the region of a block whose size is a power of two and whose base is a multiple of it
held_pow : (rights : Rights) (number q k srd a : ℕ) → number < 16 → 5 ≤ k → k < 32 → srd < 256 → (holds (region_of number (q * 2 ^ k) (2 ^ k) srd rights) a ≡ true) ↔ IsHeld (q * 2 ^ k) (2 ^ k) srd a
unfolding region_of
held_pow rights number q k srd a few five lt byte =
    let s = size_field (2 ^ k) in
    let zeros : s ≡ k - 1 = ap (λ n. n - 1) (trailing_zeros-pow k lt) in
    let p = parts rights srd s byte (omega arith) in
    let pos : 32 ≤ 2 ^ k = pow-le-pow_right {n = 2} (lit< tt) {i = 5} five in
    let rest : 2 ^ 4 + number < 2 ^ k = omega arith in
    let base : (q * 2 ^ k + 2 ^ 4 + number) / 2 ^ k ≡ q = ap (λ n. n / 2 ^ k) (let sum : q * 2 ^ k + 2 ^ 4 + number ≡ q * 2 ^ k + (2 ^ 4 + number) = omega arith in sum) ∙ div-mul-add q (2 ^ k) (2 ^ 4 + number) rest in
    is_held (region_of number (q * 2 ^ k) (2 ^ k) srd rights) q k srd a five p.enabled (ap (λ n. n + 1) (p.size ∙ zeros) ∙ (let up : k - 1 + 1 ≡ k = omega arith in up)) p.eighths base

-- the exponent of a size from 32 bytes on
exponent_range : (k : ℕ) → 32 ≤ 2 ^ k → 2 ^ k < 2 ^ 32 → (5 ≤ k) × (k < 32)
exponent_range k low high = (
  ⊎_elim (λ lt. absurd (let below = pow_below k 5 lt in omega arith)) (λ ge. ge) (cases_lt k 5),
  ⊎_elim (λ lt. lt) (λ ge. absurd (let above : 2 ^ 32 ≤ 2 ^ k = pow-le-pow_right {n = 2} (lit< tt) {i = 32} ge in omega arith)) (cases_lt k 32),
)

quotient : (base size : ℕ) → 0 < size → base % size ≡ 0 → base ≡ base / size * size
quotient base size p e = omega arith

-- the size's field is that of at least 32 bytes
pub size_room : (size : ℕ) → IsPowerOfTwo size → 32 ≤ size → size < 2 ^ 32 → (5 ≤ trailing_zeros w32 size) × (trailing_zeros w32 size < 32)
size_room size power low high =
    let k = power.0 in
    let range = exponent_range k (subst (λ n. 32 ≤ n) power.1 low) (subst (λ n. n < 2 ^ 32) power.1 high) in
    let is : trailing_zeros w32 size ≡ k = ap (λ n. trailing_zeros w32 n) power.1 ∙ trailing_zeros-pow k range.1 in
    (omega arith, omega arith)

-- above a base there is room for a block of 32 bytes
pub base_room : (base size : ℕ) → IsPowerOfTwo size → 32 ≤ size → size < 2 ^ 32 → base % size ≡ 0 → base < 2 ^ 32 → base + 32 ≤ 2 ^ 32
base_room base size power low high multiple small =
    let k = power.0 in
    let range = exponent_range k (subst (λ n. 32 ≤ n) power.1 low) (subst (λ n. n < 2 ^ 32) power.1 high) in
    let q = base / size in
    let split : k ≡ (k - 5) + 5 = omega arith in
    let size' : size ≡ 2 ^ (k - 5) * 32 = power.1 ∙ ap (λ n. 2 ^ n) split ∙ pow-add 2 (k - 5) 5 in
    let whole : base ≡ q * (2 ^ (k - 5) * 32) = quotient base size (omega arith) multiple ∙ ap (λ n. q * n) size' in
    let m = q * 2 ^ (k - 5) in
    let rows : base ≡ m * 32 = whole ∙ sym (mul_assoc q (2 ^ (k - 5)) 32) in
    omega arith

-- the region of a block holds what its eighths leave of it
pub held : (rights : Rights) (number base size srd : ℕ) → number < 16 → IsPowerOfTwo size → 32 ≤ size → size < 2 ^ 32 → base % size ≡ 0 → srd < 256 → (a : ℕ) → (holds (region_of number base size srd rights) a ≡ true) ↔ IsHeld base size srd a
held rights number base size srd few power low high multiple byte a =
    let k = power.0 in
    let range = exponent_range k (subst (λ n. 32 ≤ n) power.1 low) (subst (λ n. n < 2 ^ 32) power.1 high) in
    let q = base / size in
    let whole : q * 2 ^ k ≡ base = ap (λ n. q * n) (sym power.1) ∙ sym (quotient base size (omega arith) multiple) in
    let P : ℕ → ℕ → Type 0 = λ b n. (holds (region_of number b n srd rights) a ≡ true) ↔ IsHeld b n srd a in
    subst (λ b. P b size) whole (subst (λ n. P (q * 2 ^ k) n) (sym power.1) (held_pow rights number q k srd a few range.0 range.1 byte))

-- the law of blocks, with its premises in the order of the law
pub regions_hold_their_blocks : RegionsHoldTheirBlocks
regions_hold_their_blocks number base size srd rights few power low high multiple byte a = held rights number base size srd few power low high multiple byte a

-- what a region allows, by MPU_RASR from bit 24 on
abbrev allows_by : (high : ℕ) (u : Bool) → Access → Bool
allows_by n u Read = ap_reads u (n % 8)
allows_by n u Write = ap_writes u (n % 8)
allows_by n u Fetch = ap_reads u (n % 8) && nat_eq (n / 2 ^ 4 % 2) 0

by_high : (g : Region) (u : Bool) (kind : Access) → allows g u kind ≡ allows_by (g.rasr / 2 ^ 24) u kind
by_high g u Read = refl
by_high g u Write = refl
by_high g u Fetch = ap (λ n. ap_reads u (permission g) && nat_eq (n % 2) 0) (sym (div-div-eq-div-mul g.rasr (2 ^ 24) (2 ^ 4)))

by_rights : (rights : Rights) (u : Bool) (kind : Access) → allows_by (rights_word rights / 2 ^ 24) u kind ≡ may rights u kind
by_rights Background true Read = refl
by_rights Background true Write = refl
by_rights Background true Fetch = refl
by_rights Background false Read = refl
by_rights Background false Write = refl
by_rights Background false Fetch = refl
by_rights Code true Read = refl
by_rights Code true Write = refl
by_rights Code true Fetch = refl
by_rights Code false Read = refl
by_rights Code false Write = refl
by_rights Code false Fetch = refl
by_rights Stack true Read = refl
by_rights Stack true Write = refl
by_rights Stack true Fetch = refl
by_rights Stack false Read = refl
by_rights Stack false Write = refl
by_rights Stack false Fetch = refl
by_rights Ram true Read = refl
by_rights Ram true Write = refl
by_rights Ram true Fetch = refl
by_rights Ram false Read = refl
by_rights Ram false Write = refl
by_rights Ram false Fetch = refl
by_rights Device true Read = refl
by_rights Device true Write = refl
by_rights Device true Fetch = refl
by_rights Device false Read = refl
by_rights Device false Write = refl
by_rights Device false Fetch = refl

-- a region's permission and right to be fetched from are those of its rights
allowed_by : (rights : Rights) (g : Region) → g.rasr / 2 ^ 24 ≡ rights_word rights / 2 ^ 24 → (u : Bool) (kind : Access) → allows g u kind ≡ may rights u kind
allowed_by rights g high u kind = by_high g u kind ∙ ap (λ n. allows_by n u kind) high ∙ by_rights rights u kind

pub regions_give_their_rights : RegionsGiveTheirRights
unfolding region_of
regions_give_their_rights number base size srd rights byte u kind =
    let few = trailing_le 32 size in
    let p = parts rights srd (size_field size) byte (omega arith) in
    allowed_by rights (region_of number base size srd rights) p.high u kind
