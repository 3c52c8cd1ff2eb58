-- Flash that holds the bytes of instructions.
use Rattle.std.proofs.Common.{◌≡◌, ℕ, ◌+◌, ◌-◌, ◌/◌, ◌%◌, ◌^◌, ◌<◌, ◌≤◌, ◌⊎◌, inl, inr, true, false, List, [], ◌∷◌, ◌++◌, length, get_or, refl, sym, ◌∙◌, arith, length-append}
use Rattle.std.proofs.Math.ListN.{get_or-append}
use Rattle.std.proofs.lemmas.List.{get_or-append-add}
use Rattle.std.proofs.lemmas.Bool.Decides.{nat_tests}
use Rattle.std.proofs.lemmas.Bool.{ltb-true}
use Rattle.base_words.specs.Bytes.{read}
use Rattle.machine_thumb.specs.Table.{InTable, encode}
use Rattle.machine_thumb.specs.declared.table.Code.{Code}
use Rattle.machine_thumb.specs.declared.table.Code.TheVariants.{Half, Pair}
use Rattle.machine_thumb.specs.declared.table.Instr.{Instr}
use Rattle.machine_thumb.specs.declared.table.Instr.TheVariants.{BranchLink, BranchWide, MoveWide, MoveTop, Divide, SpecialRegister, Barrier}
use Rattle.machine_devices.specs.declared.image.Image.{Image}
use Rattle.machine_bus.specs.Locations.{InFlash, location, inside}
use Rattle.machine_devices.specs.Rules.{ObeysRules}
use Rattle.machine_model.specs.Code.{size, HoldsHalf, HoldsCode, Lies}
use Rattle.machine_thumb.specs.Bytes.{bytes_of_code, code_bytes}
use Rattle.machine_thumb.proofs.Codes.{zero_or_one}
use Rattle.machine_model.specs.CodeBytes.{FlashHasBytes, BytesAreCode}
use Rattle.machine_model.proofs.Exec.{HasForm, encode_form}

-- ---- halfwords fit

abbrev HalvesFit : Code → Type 0
HalvesFit (Half h) = h < 2 ^ 16
HalvesFit (Pair h k) = (h < 2 ^ 16) × (k < 2 ^ 16)

-- one halfword fits by its form
half_fits : (c : Code) (n : ℕ) → HasForm c n → n ≡ 2 → HalvesFit c
half_fits (Half h) n f e = let b = ltb-true h 0xE800 f.0 in omega arith
half_fits (Pair h k) n f e = let b = f.1 in absurd (omega arith)

special_below : (s : ℕ) → (s ≡ 8) ⊎ (s ≡ 9) ⊎ (s ≡ 20) → s < 256
special_below s h = grind arith

encode_fits : (x : Instr) → InTable x → HalvesFit (encode x)
unfolding encode
encode_fits (BranchLink offset) v = (omega arith, omega arith)
encode_fits (BranchWide offset) v = (omega arith, omega arith)
encode_fits (MoveWide d value) v = (omega arith, omega arith)
encode_fits (MoveTop d value) v = (omega arith, omega arith)
encode_fits (Divide op n d m) v = elim (zero_or_one op v.0) [ inl z ↦ rw z (omega arith, omega arith) | inr z ↦ rw z (omega arith, omega arith) ]
encode_fits (SpecialRegister op n d s) v =
    let b = special_below s v.5 in
    elim (zero_or_one op v.0) [ inl z ↦ rw z (omega arith, omega arith) | inr z ↦ rw z (omega arith, omega arith) ]
encode_fits (Barrier op) v = (omega arith, omega arith)
encode_fits x v = half_fits (encode x) (size x) (encode_form x v) refl

-- ---- bytes

in_flash : (i : Image) (o : ℕ) → ObeysRules i → o < length i.flash → location i (i.flash_base + o) ≡ InFlash o
unfolding location
in_flash i o r h =
    let b : i.flash_base + o < 0x20000000 = omega (arith, r.flash_highest, r.flash_most) in
    let l = r.ram_lowest in
    let n : inside i.ram_base i.ram_size (i.flash_base + o) ≡ false = search (nat_tests, arith) in
    let t : inside i.flash_base (length i.flash) (i.flash_base + o) ≡ true = search (nat_tests, arith) in
    let d : i.flash_base + o - i.flash_base ≡ o = omega arith in
    rw (n, t, d)

holds_half : (i : Image) (o h : ℕ) → ObeysRules i → o + 2 ≤ length i.flash → h < 2 ^ 16 → get_or i.flash o 0 ≡ h % 256 → get_or i.flash (o + 1) 0 ≡ h / 256 → HoldsHalf i (i.flash_base + o) h
unfolding read
holds_half i o h r room f a b = record { offset = o; is_in_flash = in_flash i o r (omega arith); is_half = rw (a, b) (omega arith) }

holds_code : (i : Image) (o : ℕ) (c : Code) → ObeysRules i → HalvesFit c → FlashHasBytes i o (bytes_of_code c) → HoldsCode i (i.flash_base + o) c
holds_code i o (Half h) r f b =
    let z : o + 0 ≡ o = omega arith in
    holds_half i o h r b.fits f (rw z at (b.holds 0 (omega arith))) (b.holds 1 (omega arith))
holds_code i o (Pair h k) r f b =
    let room = b.fits in
    let z : o + 0 ≡ o = omega arith in
    let y : o + 2 + 1 ≡ o + 3 = omega arith in
    let w : i.flash_base + o + 2 ≡ i.flash_base + (o + 2) = omega arith in (
      holds_half i o h r (omega arith) f.0 (rw z at (b.holds 0 (omega arith))) (b.holds 1 (omega arith)),
      rw w (holds_half i (o + 2) k r (omega arith) f.1 (b.holds 2 (omega arith)) (rw y (b.holds 3 (omega arith)))),
    )

pub bytes_first : (i : Image) (o : ℕ) (xs ys : List ℕ) → FlashHasBytes i o (xs ++ ys) → FlashHasBytes i o xs
bytes_first i o xs ys h =
    let e = length-append xs ys in
    let r = h.fits in
    record { fits = omega arith; holds = λ k l. h.holds k (omega arith) ∙ get_or-append xs ys 0 k l }

bytes_rest : (i : Image) (o : ℕ) (xs ys : List ℕ) → FlashHasBytes i o (xs ++ ys) → FlashHasBytes i (o + length xs) ys
bytes_rest i o xs ys h =
    let e = length-append xs ys in
    let r = h.fits in
    record { fits = omega arith; holds = λ k l. let z : o + length xs + k ≡ o + (length xs + k) = omega arith in rw z (h.holds (length xs + k) (omega arith) ∙ get_or-append-add xs ys k 0) }

bytes_length : (c : Code) (n : ℕ) → HasForm c n → length (bytes_of_code c) ≡ n
bytes_length (Half h) n f = sym f.1
bytes_length (Pair h k) n f = sym f.1

pub bytes_are_code : BytesAreCode
bytes_are_code i o [] r t h = tt
bytes_are_code i o (x ∷ xs) r t h =
    let l : Lies i (i.flash_base + o) x = record { in_table = t.0; code = holds_code i o (encode x) r (encode_fits x t.0) (bytes_first i o (bytes_of_code (encode x)) (code_bytes xs) h) } in
    let e = bytes_length (encode x) (size x) (encode_form x t.0) in
    let g = bytes_are_code i (o + length (bytes_of_code (encode x))) xs r t.1 (bytes_rest i o (bytes_of_code (encode x)) (code_bytes xs) h) in
    let z : i.flash_base + (o + length (bytes_of_code (encode x))) ≡ i.flash_base + o + size x = omega arith in
    (l, rw z at g)
