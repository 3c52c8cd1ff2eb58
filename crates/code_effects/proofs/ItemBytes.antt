-- Pieces stand where flash holds their bytes.
use Rattle.std.proofs.Common.{◌≡◌, ℕ, ◌+◌, ◌/◌, ◌%◌, ◌^◌, ◌<◌, List, [], ◌∷◌, ◌++◌, length, Option, get_or, refl, sym, ◌∙◌, arith, subst, length-append}
use Rattle.std.proofs.lemmas.List.{get_or-append-add, append-nil}
use Rattle.base_words.specs.Bytes.{read}
use Rattle.machine_thumb.specs.declared.table.Instr.{Instr}
use Rattle.machine_thumb.specs.Table.{InTable, encode}
use Rattle.machine_thumb.specs.Bytes.{bytes_of_half, bytes_of_code}
use Rattle.machine_thumb.proofs.Codes.{length-bytes_of_code}
use Rattle.machine_thumb_asm.specs.declared.item.Item.{Item}
use Rattle.machine_thumb_asm.specs.declared.item.Item.TheVariants.{Plain, Branch, Half, Word}
use Rattle.machine_thumb_asm.specs.Assembly.{branch_size, size_of, place_of}
use Rattle.machine_thumb_asm.specs.Finished.{branch, bytes_at, bytes_from}
use Rattle.machine_devices.specs.declared.image.Image.{Image}
use Rattle.machine_devices.specs.Rules.{ObeysRules}
use Rattle.machine_bus.proofs.Offsets.{in_flash}
use Rattle.machine_model.specs.Code.{size, HoldsHalf, Lies}
use Rattle.machine_model.specs.CodeBytes.{FlashHasBytes}
use Rattle.machine_model.proofs.CodeParts.{width-encode}
use Rattle.machine_model.proofs.CodeBytes.{bytes_are_code, bytes_first as first_bytes}
use Rattle.code_effects.specs.Items.{ItemsIn, InstructionsInTable, ItemsStand}
use Rattle.code_effects.proofs.Assembled.{in_table}
use Rattle.code_effects.proofs.Items.{branch_size_is, parts_in, parts_at, plain_code, may_run}

more_bytes : (i : Image) (o n : ℕ) (xs ys : List ℕ) → length xs ≡ n → FlashHasBytes i o (xs ++ ys) → FlashHasBytes i (o + n) ys
more_bytes i o n xs ys w h =
    let e = length-append xs ys in
    let r = h.fits in
    record { fits = omega arith; holds = λ k l. let z : o + n + k ≡ o + (length xs + k) = omega arith in rw z (h.holds (length xs + k) (omega arith) ∙ get_or-append-add xs ys k 0) }

half_lies : (i : Image) (o h : ℕ) → ObeysRules i → h < 2 ^ 16 → FlashHasBytes i o (bytes_of_half h) → HoldsHalf i (i.flash_base + o) h
unfolding read
half_lies i o h r f b =
    let z : o + 0 ≡ o = omega arith in
    let l = b.fits in
    let one : get_or i.flash o 0 ≡ h % 256 = rw z at (b.holds 0 (omega arith)) in
    let two : get_or i.flash (o + 1) 0 ≡ h / 256 = b.holds 1 (omega arith) in
    record { offset = o; is_in_flash = in_flash i (i.flash_base + o) o r refl (omega arith); is_half = rw (one, two) (omega arith) }

instruction_lies : (i : Image) (o : ℕ) (x : Instr) → ObeysRules i → InTable x → FlashHasBytes i o (bytes_of_code (encode x)) → Lies i (i.flash_base + o) x
instruction_lies i o x r t b =
    let e : bytes_of_code (encode x) ++ [] ≡ bytes_of_code (encode x) = append-nil (bytes_of_code (encode x)) in
    (bytes_are_code i o (x ∷ []) r (t, tt) (subst (λ (bs : List ℕ). FlashHasBytes i o bs) (sym e) b)).0

module _ (i : Image) (labels : List (Option ℕ)) (r : ObeysRules i) where
  -- what stands behind a piece of n bytes
  behind_piece : (o n m : ℕ) (xs : List Item) → n ≡ m → ItemsIn i labels (i.flash_base + (o + n)) xs → ItemsIn i labels (i.flash_base + o + m) xs
  behind_piece o n m xs e h = let z : i.flash_base + (o + n) ≡ i.flash_base + o + m = omega arith in subst (λ (a : ℕ). ItemsIn i labels a xs) z h

  at_offset : (at n m : ℕ) (xs : List Item) → at + n ≡ m → InstructionsInTable labels (at + n) xs → InstructionsInTable labels m xs
  at_offset at n m xs e h = subst (λ (a : ℕ). InstructionsInTable labels a xs) e h

  bytes_at_offset : (o at m : ℕ) (xs : List Item) → at ≡ m → FlashHasBytes i o (bytes_from labels at xs) → FlashHasBytes i o (bytes_from labels m xs)
  bytes_at_offset o at m xs e h = subst (λ (a : ℕ). FlashHasBytes i o (bytes_from labels a xs)) e h

  pub from_bytes : (xs : List Item) (o : ℕ) → InstructionsInTable labels (i.flash_base + o) xs → FlashHasBytes i o (bytes_from labels (i.flash_base + o) xs) → ItemsIn i labels (i.flash_base + o) xs
  from_bytes [] o t h = tt
  from_bytes (Plain x ∷ xs) o t h =
      let at : ℕ = i.flash_base + o in
      let w = width-encode x in
      let n : ℕ = size_of (Plain x) in
      let z : at + n ≡ i.flash_base + (o + n) = omega arith in
      let y : at + size x ≡ i.flash_base + (o + n) = omega arith in
      let b = more_bytes i o n (bytes_at labels at (Plain x)) (bytes_from labels (at + n) xs) (length-bytes_of_code (encode x)) h in
      let g = from_bytes xs (o + n) (at_offset at (size x) (i.flash_base + (o + n)) xs y t.1) (bytes_at_offset (o + n) (at + n) (i.flash_base + (o + n)) xs z b) in
      (instruction_lies i o x r t.0 (first_bytes i o (bytes_at labels at (Plain x)) (bytes_from labels (at + n) xs) h), behind_piece o n (size x) xs w g)
  from_bytes (Branch kind to ∷ xs) o t h =
      let at : ℕ = i.flash_base + o in
      let x : Instr = branch kind at (place_of labels to.number) in
      let n : ℕ = branch_size kind in
      let w : length (bytes_of_code (encode x)) ≡ n = length-bytes_of_code (encode x) ∙ width-encode x ∙ branch_size_is kind at (place_of labels to.number) in
      let z : at + n ≡ i.flash_base + (o + n) = omega arith in
      let b = more_bytes i o n (bytes_of_code (encode x)) (bytes_from labels (at + n) xs) w h in
      let g = from_bytes xs (o + n) (at_offset at n (i.flash_base + (o + n)) xs z t.1) (bytes_at_offset (o + n) (at + n) (i.flash_base + (o + n)) xs z b) in
      (instruction_lies i o x r t.0 (first_bytes i o (bytes_of_code (encode x)) (bytes_from labels (at + n) xs) h), behind_piece o n n xs refl g)
  from_bytes (Half v ∷ xs) o t h =
      let at : ℕ = i.flash_base + o in
      let z : at + 2 ≡ i.flash_base + (o + 2) = omega arith in
      let b = more_bytes i o 2 (bytes_of_half v) (bytes_from labels (at + 2) xs) refl h in
      let g = from_bytes xs (o + 2) (at_offset at 2 (i.flash_base + (o + 2)) xs z t.1) (bytes_at_offset (o + 2) (at + 2) (i.flash_base + (o + 2)) xs z b) in
      (half_lies i o v r t.0 (first_bytes i o (bytes_of_half v) (bytes_from labels (at + 2) xs) h), behind_piece o 2 2 xs refl g)
  from_bytes (Word v ∷ xs) o t h =
      let at : ℕ = i.flash_base + o in
      let z : at + 4 ≡ i.flash_base + (o + 4) = omega arith in
      let y : i.flash_base + (o + 2) ≡ at + 2 = omega arith in
      let v1 : ℕ = v % 2 ^ 16 in
      let v2 : ℕ = v / 2 ^ 16 in
      let f = first_bytes i o (bytes_of_half v1 ++ bytes_of_half v2) (bytes_from labels (at + 4) xs) h in
      let b = more_bytes i o 4 (bytes_of_half v1 ++ bytes_of_half v2) (bytes_from labels (at + 4) xs) refl h in
      let g = from_bytes xs (o + 4) (at_offset at 4 (i.flash_base + (o + 4)) xs z t.1) (bytes_at_offset (o + 4) (at + 4) (i.flash_base + (o + 4)) xs z b) in
      let low = t.0 in
      let two = half_lies i (o + 2) v2 r (omega arith) (more_bytes i o 2 (bytes_of_half v1) (bytes_of_half v2) refl f) in
      (half_lies i o v1 r (omega arith) (first_bytes i o (bytes_of_half v1) (bytes_of_half v2) f), subst (λ (a : ℕ). HoldsHalf i a v2) y two, behind_piece o 4 4 xs refl g)

pub items_stand : ItemsStand
items_stand = record {
  from_assembly = λ a h put far. in_table a h a.items a.base refl refl h.items put far;
  from_bytes = λ i labels o xs r t h. from_bytes i labels r xs o t h;
  may_run = may_run;
  parts_in = parts_in;
  parts_at = parts_at;
  plain_code = plain_code;
}
