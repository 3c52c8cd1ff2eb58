-- `decoded` is the relation between halfwords and an instruction.
use Rattle.std.proofs.Common.{◌≡◌, ℕ, ◌^◌, ◌<◌, ◌≤◌, sym, ◌∙◌, subst, inl, inr, Option, Some, None}
use Rattle.std.specs.Option.{IfSome, IfNone}
use Rattle.std.proofs.lemmas.Bool.Decides.{leb_tells}
use Rattle.std.proofs.lemmas.Option.{same_Some}
use Rattle.std.proofs.lemmas.Bool.{lt-ltb, le-ltb}
use Rattle.machine_thumb.proofs.Sound.{narrow, wide}
use Rattle.machine_thumb.proofs.Round.{decoded_code-encode}
use Rattle.machine_thumb.specs.Table.{Encodes, read_code}
use Rattle.machine_thumb.specs.Decoded.{decoded, decoded_code, narrow_of, wide_of}
use Rattle.machine_thumb.specs.Laws.{IsUnambiguous, IsRoundTrip, IsUndefined}
use Rattle.machine_thumb.specs.declared.table.Code.{Code}
use Rattle.machine_thumb.specs.declared.table.Code.TheVariants.{Half, Pair}
use Rattle.machine_thumb.specs.declared.table.Instr.{Instr}

-- what is related is decoded
pub decoded_code-related : (code : Code) (next : ℕ) (i : Instr) → Encodes code i → decoded_code code next ≡ Some i
decoded_code-related code next i e =
    subst (λ (c : Code). decoded_code c next ≡ Some i) e.halfwords (decoded_code-encode i next e.in_table)

-- the same for halfwords as they are read
pub decoded-related : (h k : ℕ) (i : Instr) → Encodes (read_code h k) i → decoded h k ≡ Some i
decoded-related h k i e = elim (leb_tells 0xE800 h) [
  | inl t ↦
      let r : read_code h k ≡ Pair h k = rw (le-ltb h 0xE800 t.1) in
      decoded_code-related (Pair h k) k i (subst (λ (c : Code). Encodes c i) r e)
  | inr t ↦
      let r : read_code h k ≡ Half h = rw (lt-ltb h 0xE800 t.1) in
      decoded_code-related (Half h) k i (subst (λ (c : Code). Encodes c i) r e)
]

-- what is decoded is related to its halfwords
pub Encodes-decoded : (h k : ℕ) → h < 2 ^ 16 → k < 2 ^ 16 → IfSome (decoded h k) (Encodes (read_code h k))
unfolding decoded
Encodes-decoded h k below second = elim (leb_tells 0xE800 h) [
  | inl t ↦ rw (le-ltb h 0xE800 t.1) (wide h k t.1 below second)
  | inr t ↦ rw (lt-ltb h 0xE800 t.1) (narrow h t.1)
]

-- what is decoded is related
pub related-decoded : (h k : ℕ) (i : Instr) → h < 2 ^ 16 → k < 2 ^ 16 → decoded h k ≡ Some i → Encodes (read_code h k) i
related-decoded h k i a b e =
    subst (λ (o : Option Instr). IfSome o (Encodes (read_code h k))) e (Encodes-decoded h k a b)

-- nothing is decoded exactly where nothing is related
pub undefined-decoded : (h k : ℕ) → decoded h k ≡ None → IsUndefined (read_code h k)
undefined-decoded h k n i e = let s = decoded-related h k i e in cc

pub unambiguous : IsUnambiguous
unambiguous code i j e f =
    same_Some i j (sym (decoded_code-related code 0 i e) ∙ decoded_code-related code 0 j f)

pub round_trip : IsRoundTrip
round_trip i next v = decoded_code-encode i next v

-- `decoded` at a first halfword of either kind
pub decoded_narrow : (h k : ℕ) (x : Option Instr) → h < 0xE800 → narrow_of h ≡ x → decoded h k ≡ x
unfolding decoded
decoded_narrow h k x below e = rw (lt-ltb h 0xE800 below) e

pub decoded_wide : (h k : ℕ) (x : Option Instr) → 0xE800 ≤ h → wide_of h k ≡ x → decoded h k ≡ x
unfolding decoded
decoded_wide h k x above e = rw (le-ltb h 0xE800 above) e

pub IfNone-of : {A : Type 0} (o : Option A) (P : Type 0) → P → IfNone o P
IfNone-of None P p = p
IfNone-of (Some x) P p = tt
