-- Distances of branches and their bits.
use Rattle.std.proofs.Common.{◌≡◌, ℕ, suc, ◌+◌, ◌-◌, ◌*◌, ◌%◌, ◌^◌, ◌<◌, ◌≤◌, refl, ap, arith, ℤ, pos, negsuc, w32, SFits, ◌⊎◌, inl, inr}
use Rattle.std.proofs.lemmas.Bool.Decides.{leb_tells}
use Rattle.std.proofs.lemmas.Int.{to_z-of_z, to_z_pos, ints}
use Rattle.std.specs.Int.{cast_unsigned}
use Rattle.std.specs.Int.Signed.{le_z_yes, lt_z_yes}
use Rattle.std.proofs.lemmas.Bool.{lt-ltb, le-ltb}
use Rattle.machine_thumb.specs.Table.{IsOffset, halfwords_of}
use Rattle.machine_thumb.specs.Decoded.{extended}

-- a distance within 2 ^ 24 in two's complement
record Bits (limit : ℕ) (z : ℤ) : Type 0 where
  fits : SFits w32 z
  word : cast_unsigned w32 z < 2 ^ 32
  ends : (cast_unsigned w32 z < limit) ⊎ (2 ^ 32 - limit ≤ cast_unsigned w32 z)

bits_of : (limit : ℕ) (z : ℤ) → 0 < limit → limit ≤ 2 ^ 24 → IsOffset limit z → Bits limit z
bits_of limit (pos n) some room v =
    let below : n < limit = omega (arith, ints) in
    record { fits = record { sfits = omega arith }; word = omega arith; ends = inl below }
bits_of limit (negsuc n) some room v =
    let from : n < limit = omega (arith, ints) in
    record { fits = record { sfits = omega arith }; word = omega arith; ends = inr (omega arith) }

-- the bits of a distance, extended, are the distance
extends : (half bits : ℕ) (z : ℤ) → 0 < half → half ≤ 2 ^ 23 → IsOffset (2 * half) z → bits < 2 * half →
    ((cast_unsigned w32 z < 2 * half) → 2 * bits ≡ cast_unsigned w32 z) →
    ((2 ^ 32 - 2 * half ≤ cast_unsigned w32 z) → 2 ^ 32 - 4 * half + 2 * bits ≡ cast_unsigned w32 z) →
    Bits (2 * half) z → extended half bits ≡ z
extends half bits z some room v below low high b =
    elim b.ends [
      | inl l ↦
          let t = lt-ltb bits half (omega (arith, low l)) in
          rw (t, low l) (to_z-of_z w32 z b.fits)
      | inr r ↦
          let t = le-ltb bits half (omega (arith, high r)) in
          rw (t, high r) (to_z-of_z w32 z b.fits)
    ]

pub extended-8 : (z : ℤ) → IsOffset 256 z → extended 128 (halfwords_of z % 256) ≡ z
extended-8 z v =
    let b = bits_of 256 z (omega arith) (omega arith) v in
    let e = v.even in let word = b.word in
    extends 128 (halfwords_of z % 256) z (omega arith) (omega arith) v (omega arith) (λ l. omega arith) (λ r. omega arith) b

pub extended-11 : (z : ℤ) → IsOffset 2048 z → extended 1024 (halfwords_of z % 2048) ≡ z
extended-11 z v =
    let b = bits_of 2048 z (omega arith) (omega arith) v in
    let e = v.even in let word = b.word in
    extends 1024 (halfwords_of z % 2048) z (omega arith) (omega arith) v (omega arith) (λ l. omega arith) (λ r. omega arith) b

pub extended-24 : (z : ℤ) → IsOffset (2 ^ 24) z → extended (2 ^ 23) (halfwords_of z % 2 ^ 24) ≡ z
extended-24 z v =
    let b = bits_of (2 ^ 24) z (omega arith) (omega arith) v in
    let e = v.even in let word = b.word in
    extends (2 ^ 23) (halfwords_of z % 2 ^ 24) z (omega arith) (omega arith) v (omega arith) (λ l. omega arith) (λ r. omega arith) b

-- what is extended, by its sign
extended-low : (half bits : ℕ) → half ≤ 2 ^ 23 → bits < half → extended half bits ≡ pos (2 * bits)
extended-low half bits room below =
    let t = lt-ltb bits half below in
    rw t (to_z_pos w32 (2 * bits) (omega arith))

extended-high : (half bits : ℕ) → half ≤ 2 ^ 23 → half ≤ bits → bits < 2 * half → extended half bits ≡ negsuc (4 * half - (2 * bits + 1))
extended-high half bits room above below =
    let t = le-ltb bits half above in
    let u = le-ltb (2 ^ 32 - 4 * half + 2 * bits) (2 ^ 31) (omega arith) in
    let e : 2 ^ 32 - suc (2 ^ 32 - 4 * half + 2 * bits) ≡ 4 * half - (2 * bits + 1) = omega arith in
    rw (t, u) (ap negsuc e)

-- what is extended is a distance in range, and its bits in two's complement
pub record Extends (half bits : ℕ) (z : ℤ) : Type 0 where
  pub offset : IsOffset (2 * half) z
  pub word : (cast_unsigned w32 z ≡ 2 * bits) ⊎ (cast_unsigned w32 z ≡ 2 ^ 32 - 4 * half + 2 * bits)

pub Extends-extended : (half bits : ℕ) → half ≤ 2 ^ 23 → bits < 2 * half → Extends half bits (extended half bits)
Extends-extended half bits room below =
    elim (leb_tells half bits) [
      | inl h ↦
          let above = h.1 in
          let w : cast_unsigned w32 (negsuc (4 * half - (2 * bits + 1))) ≡ 2 ^ 32 - 4 * half + 2 * bits = omega arith in
          rw (extended-high half bits room above below) (record {
            offset = record { from = omega (arith, ints); below = omega (arith, ints); even = omega arith };
            word = inr w;
          })
      | inr h ↦
          let low = h.1 in
          rw (extended-low half bits room low) (record {
            offset = record { from = omega (arith, ints); below = omega (arith, ints); even = omega arith };
            word = inl refl;
          })
    ]

pub halfwords_of-extended-8 : (bits : ℕ) → bits < 256 → halfwords_of (extended 128 bits) % 256 ≡ bits
halfwords_of-extended-8 bits below =
    elim (Extends-extended 128 bits (omega arith) below).word [ inl w ↦ omega arith | inr w ↦ omega arith ]

pub halfwords_of-extended-11 : (bits : ℕ) → bits < 2048 → halfwords_of (extended 1024 bits) % 2048 ≡ bits
halfwords_of-extended-11 bits below =
    elim (Extends-extended 1024 bits (omega arith) below).word [ inl w ↦ omega arith | inr w ↦ omega arith ]

pub halfwords_of-extended-24 : (bits : ℕ) → bits < 2 ^ 24 → halfwords_of (extended (2 ^ 23) bits) % 2 ^ 24 ≡ bits
halfwords_of-extended-24 bits below =
    elim (Extends-extended (2 ^ 23) bits (omega arith) below).word [ inl w ↦ omega arith | inr w ↦ omega arith ]

-- ---- distances of short branches

-- the distance of SVC, and of a branch past one halfword
pub no_offset : IsOffset 2048 (pos 0)
no_offset = record { from = le_z_yes tt; below = lt_z_yes tt; even = refl }

-- the distance to behind the wide branch that follows
pub two_offset : IsOffset 256 (pos 2)
two_offset = record { from = le_z_yes tt; below = lt_z_yes tt; even = refl }
