-- The words of the region that is made for a block, read back as the check of regions reads them.
use Rattle.std.proofs.Common.{◌≡◌, ℕ, ◌+◌, ◌-◌, ◌*◌, ◌/◌, ◌%◌, ◌^◌, ◌<◌, ◌≤◌, true, refl, ap, ap₂, sym, ◌∙◌, subst, arith}
use Rattle.base_ranges.specs.Ranges.{IsPowerBetween}
use Rattle.machine_protection.specs.declared.region.Region.{Region}
use Rattle.machine_protection.specs.declared.words.Rights.{Rights}
use Rattle.machine_protection.specs.declared.words.Rights.TheVariants.{Background, Code, Stack, Ram, Device}
use Rattle.machine_protection.specs.Regions.{size_log, is_of_legal_size}
use Rattle.machine_protection.specs.RegionWords.{rights_word, size_field, region_of}
use Rattle.monitor_model.specs.RegionChecks.{base_of, size_of, taken_out, has_form}
use Rattle.image_promises.proofs.Passing.{and_yes, lt_yes, eq_yes}
use Rattle.base_laws.proofs.Powers.{multiple_of_power}
use Rattle.machine_protection.proofs.Powers.{trailing_zeros-pow as zeros}

-- the fields of the word of attributes
record Fields (srd s word : ℕ) : Type 0 where
  size : word / 2 % 32 ≡ s
  eighths : word / 2 ^ 8 % 2 ^ 8 ≡ srd

fields : (rights : Rights) (srd s : ℕ) → srd < 2 ^ 8 → s < 32 → Fields srd s (rights_word rights + srd * 2 ^ 8 + s * 2)
fields Background srd s h k = record { size = omega (arith, h, k); eighths = omega (arith, h, k) }
fields Code srd s h k = record { size = omega (arith, h, k); eighths = omega (arith, h, k) }
fields Stack srd s h k = record { size = omega (arith, h, k); eighths = omega (arith, h, k) }
fields Ram srd s h k = record { size = omega (arith, h, k); eighths = omega (arith, h, k) }
fields Device srd s h k = record { size = omega (arith, h, k); eighths = omega (arith, h, k) }

-- what is read is what was put
pub record IsMade (number base size srd : ℕ) (rights : Rights) : Type 0 where
  pub power : ℕ
  pub least : 5 ≤ power
  pub exact : size ≡ 2 ^ power
  pub log : size_log (region_of number base size srd rights) ≡ power
  pub base_is : base_of (region_of number base size srd rights) ≡ base
  pub size_is : size_of (region_of number base size srd rights) ≡ size
  pub out_is : taken_out (region_of number base size srd rights) ≡ srd
  pub has : has_form number srd rights (region_of number base size srd rights) ≡ true

module _ (number base k srd : ℕ) (rights : Rights) (few : number < 16) (least : 5 ≤ k) (most : k ≤ 31) (aligned : base % 2 ^ k ≡ 0) (byte : srd < 2 ^ 8) where
  abbrev g : Region
  g = region_of number base (2 ^ k) srd rights

  field : size_field (2 ^ k) ≡ k - 1
  field = ap (λ z. z - 1) (zeros k (omega (arith, most)))

  parts : Fields srd (size_field (2 ^ k)) (rights_word rights + srd * 2 ^ 8 + size_field (2 ^ k) * 2)
  parts = fields rights srd (size_field (2 ^ k)) byte (let f = field in omega (arith, f, most))

  log : size_log g ≡ k
  unfolding region_of
  log = let e = parts.size in let f = field in omega (arith, e, f, least)

  based : base_of g ≡ base
  unfolding region_of
  based = let e = multiple_of_power base 5 k least aligned in omega (arith, e, few)

  sized : size_of g ≡ 2 ^ k
  sized = ap (λ n. 2 ^ n) log

  outs : taken_out g ≡ srd
  unfolding region_of
  outs = parts.eighths

  address : g.rbar ≡ base_of g + 2 ^ 4 + number
  unfolding region_of
  address = ap (λ x. x + 2 ^ 4 + number) (sym based)

  attributes : g.rasr ≡ rights_word rights + srd * 2 ^ 8 + (size_log g - 1) * 2
  unfolding region_of
  attributes = ap (λ s. rights_word rights + srd * 2 ^ 8 + s * 2) (field ∙ ap (λ n. n - 1) (sym log))

  legal : is_of_legal_size g ≡ true
  legal = lt_yes (let e = log in omega (arith, e, least))

  whole : base_of g % size_of g ≡ 0
  whole = ap₂ (λ x y. x % y) based sized ∙ aligned

  form : has_form number srd rights g ≡ true
  form = and_yes legal (and_yes (eq_yes whole) (and_yes (eq_yes address) (eq_yes attributes)))

  made : IsMade number base (2 ^ k) srd rights
  made = record { power = k; least = least; exact = refl; log = log; base_is = based; size_is = sized; out_is = outs; has = form }

-- the region of a block of at least 32 bytes at a multiple of its size
pub is_made : (number base size srd : ℕ) (rights : Rights) → number < 16 → IsPowerBetween 5 31 size → base % size ≡ 0 → srd < 2 ^ 8 → IsMade number base size srd rights
is_made number base size srd rights few power aligned byte =
    subst (λ z. IsMade number base z srd rights) (sym power.3)
    (made number base power.0 srd rights few power.1 power.2 (subst (λ z. base % z ≡ 0) power.3 aligned) byte)
