-- What is read back of MOVW and MOVT of one register, where their bytes stand in flash.
use Rattle.std.proofs.Common.{◌≡◌, ℕ, ◌+◌, ◌*◌, ◌/◌, ◌%◌, ◌^◌, ◌<◌, List, ◌∷◌, get_or, Some, refl, ap₂, ◌∙◌, subst, eq-eqb, arith}
use Rattle.std.specs.Prelude.{slice_index}
use Rattle.base_words.specs.Bytes.{read}
use Rattle.machine_thumb.specs.declared.table.Instr.{Instr}
use Rattle.machine_thumb.specs.declared.table.Instr.TheVariants.{MoveWide, MoveTop}
use Rattle.machine_thumb.specs.Table.{encode}
use Rattle.machine_thumb.specs.Bytes.{code_bytes}
use Rattle.machine_thumb.specs.Decoded.{decoded}
use Rattle.machine_thumb.specs.Laws.{IsRoundTrip}
use Rattle.monitor_model.specs.FromFlash.{moved_word, half_at, moved_word_at}

-- a halfword by its two bytes
half_back : (flash : List ℕ) (at h : ℕ) → h < 2 ^ 16 → slice_index flash at ≡ h % 256 → slice_index flash (at + 1) ≡ h / 256 → half_at at flash ≡ h
unfolding read
half_back flash at h l a b = rw (a, b) (omega (arith, l))

-- the first halfword and the second one of a move
abbrev first_half : (first value : ℕ) → ℕ
first_half first v = first + v / 2048 % 2 * 1024 + v / 4096

abbrev second_half : (register value : ℕ) → ℕ
second_half d v = v / 256 % 8 * 4096 + d * 256 + v % 256

wide_decoded : IsRoundTrip → (d v : ℕ) → d < 8 → v < 2 ^ 16 → decoded (first_half 0xF240 v) (second_half d v) ≡ Some (MoveWide d v)
unfolding encode
wide_decoded law d v l h = law (MoveWide d v) 0 ((omega (arith, l), λ e. absurd (omega (arith, l, e))), h)

top_decoded : IsRoundTrip → (d v : ℕ) → d < 8 → v < 2 ^ 16 → decoded (first_half 0xF2C0 v) (second_half d v) ≡ Some (MoveTop d v)
unfolding encode
top_decoded law d v l h = law (MoveTop d v) 0 ((omega (arith, l), λ e. absurd (omega (arith, l, e))), h)

-- flash holds the bytes of both moves
abbrev pub HoldsMoves : (flash : List ℕ) (at register low high : ℕ) (more : List Instr) → Type 0
HoldsMoves flash at d v w more = (k : ℕ) → k < 8 → slice_index flash (at + k) ≡ get_or (code_bytes (MoveWide d v ∷ MoveTop d w ∷ more)) k 0

module _ (law : IsRoundTrip) (flash : List ℕ) (at d v w : ℕ) (more : List Instr) (low : d < 8) (small : v < 2 ^ 16) (top : w < 2 ^ 16) (has : HoldsMoves flash at d v w more) where
  shifted : (k j : ℕ) (x : ℕ) → at + k ≡ j → slice_index flash (at + k) ≡ x → slice_index flash j ≡ x
  shifted k j x e h = subst (λ o. slice_index flash o ≡ x) e h

  wide_first : half_at at flash ≡ first_half 0xF240 v
  unfolding encode
  wide_first = half_back flash at (first_half 0xF240 v) (omega (arith, small)) (shifted 0 at _ (omega arith) (has 0 (omega arith))) (has 1 (omega arith))

  wide_second : half_at (at + 2) flash ≡ second_half d v
  unfolding encode
  wide_second = half_back flash (at + 2) (second_half d v) (omega (arith, low)) (has 2 (omega arith)) (shifted 3 (at + 2 + 1) _ (omega arith) (has 3 (omega arith)))

  top_first : half_at (at + 4) flash ≡ first_half 0xF2C0 w
  unfolding encode
  top_first = half_back flash (at + 4) (first_half 0xF2C0 w) (omega (arith, top)) (has 4 (omega arith)) (shifted 5 (at + 4 + 1) _ (omega arith) (has 5 (omega arith)))

  top_second : half_at (at + 6) flash ≡ second_half d w
  unfolding encode
  top_second = half_back flash (at + 6) (second_half d w) (omega (arith, low)) (has 6 (omega arith)) (shifted 7 (at + 6 + 1) _ (omega arith) (has 7 (omega arith)))

  both_moved : moved_word (Some (MoveWide d v)) (Some (MoveTop d w)) ≡ v + 2 ^ 16 * w
  both_moved = let e = eq-eqb d d refl in rw e refl

  pub moved_back : moved_word_at at flash ≡ v + 2 ^ 16 * w
  moved_back =
      let a : decoded (half_at at flash) (half_at (at + 2) flash) ≡ Some (MoveWide d v) = ap₂ decoded wide_first wide_second ∙ wide_decoded law d v low small in
      let b : decoded (half_at (at + 4) flash) (half_at (at + 6) flash) ≡ Some (MoveTop d w) = ap₂ decoded top_first top_second ∙ top_decoded law d w low top in
      ap₂ moved_word a b ∙ both_moved
