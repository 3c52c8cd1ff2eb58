-- The step at an instruction that stands in flash.
use Rattle.std.proofs.Common.{◌≡◌, ℕ, ◌+◌, ◌-◌, ◌<◌, ◌≤◌, ◌^◌, Bool, true, false, Option, None, length, nat_lt, refl, sym, subst, ap, ◌∙◌, arith}
use Rattle.base_words.specs.Bytes.{read}
use Rattle.machine_thumb.specs.declared.table.Code.{Code}
use Rattle.machine_thumb.specs.declared.table.Code.TheVariants.{Half, Pair}
use Rattle.machine_thumb.specs.Table.{encode, read_code, width_of}
use Rattle.machine_protection.specs.declared.region.Access.TheVariants.{Fetch}
use Rattle.machine_devices.specs.declared.image.Image.{Image}
use Rattle.machine_devices.specs.Rules.{ObeysRules}
use Rattle.machine_bus.proofs.Offsets.{in_flash}
use Rattle.machine_model.specs.declared.state.ProtectionState.{ProtectionState}
use Rattle.machine_model.specs.declared.state.End.{End}
use Rattle.machine_model.specs.State.{State, PermissionTest}
use Rattle.machine_model.specs.Step.{turn, fetch}
use Rattle.machine_model.specs.Instructions.{act}
use Rattle.machine_model.specs.Exceptions.{fetch_fault}
use Rattle.machine_model.specs.Perform.{perform}
use Rattle.machine_model.specs.Code.{size, HoldsHalf, HoldsCode, MayFetch, Stands}
use Rattle.machine_model.proofs.Exec.{HasForm, encode_form, stepped}
use Rattle.machine_emulator.specs.declared.flash_code.Decoded.{Decoded}
use Rattle.machine_emulator.specs.Code.{StandsIn}

-- ---- the halfwords

holds_half : (i : Image) (a o : ℕ) → ObeysRules i → i.flash_base + o ≡ a → o < length i.flash → HoldsHalf i a (read 2 o i.flash)
holds_half i a o r e lt = record { offset = o; is_in_flash = in_flash i a o r e lt; is_half = refl }

holds_code : (i : Image) (a h k : ℕ) (b : Bool) → nat_lt h 0xE800 ≡ b → HoldsHalf i a h → HoldsHalf i (a + 2) k → HoldsCode i a (read_code h k)
holds_code i a h k true e x y = rw e x
holds_code i a h k false e x y = rw e (x, y)

code_there : (i : Image) (a : ℕ) (x : Decoded) → ObeysRules i → StandsIn i a x → HoldsCode i a (encode x.instr)
code_there i a x r h =
    let above = h.above in
    let room = h.there.room in
    let o : ℕ = a - i.flash_base in
    subst (HoldsCode i a) (sym h.there.encodes.halfwords)
    (holds_code i a (read 2 o i.flash) (read 2 (o + 2) i.flash) _ refl (holds_half i a o r (omega arith) (omega arith)) (holds_half i (a + 2) (o + 2) r (omega arith) (omega arith)))

form_width : (c : Code) (n : ℕ) → HasForm c n → n ≡ width_of c
form_width (Half h) n f = f.1
form_width (Pair h k) n f = f.1

size_there : (i : Image) (a : ℕ) (x : Decoded) → StandsIn i a x → x.size ≡ size x.instr
size_there i a x h =
    h.there.size ∙ ap width_of (sym h.there.encodes.halfwords) ∙ sym (form_width (encode x.instr) (size x.instr) (encode_form x.instr h.there.encodes.in_table))

-- ---- permission

may_fetch : (j : PermissionTest) (p : ProtectionState) (a : ℕ) (c : Code) → j p Fetch a ≡ true → (width_of c ≡ 4 → j p Fetch (a + 2) ≡ true) → MayFetch j p a c
may_fetch j p a (Half h) f g = f
may_fetch j p a (Pair h k) f g = (f, g refl)

width_there : (i : Image) (a : ℕ) (x : Decoded) → StandsIn i a x → width_of (encode x.instr) ≡ x.size
width_there i a x h = ap width_of h.there.encodes.halfwords ∙ sym h.there.size

module _ (j : PermissionTest) (i : Image) (s : State) (x : Decoded) where
  stands : ObeysRules i → StandsIn i s.core.pc x → j s.protection Fetch s.core.pc ≡ true → (x.size ≡ 4 → j s.protection Fetch (s.core.pc + 2) ≡ true) → Stands j i s.protection s.core.pc x.instr
  stands r h f g = record {
    lies = record { in_table = h.there.encodes.in_table; code = code_there i s.core.pc x r h };
    may_fetch = may_fetch j s.protection s.core.pc (encode x.instr) f (λ w. g (sym (width_there i s.core.pc x h) ∙ w));
  }

  -- both halfwords may be fetched, as far as there are two
  pub performs : ObeysRules i → StandsIn i s.core.pc x → s.ending ≡ None → j s.protection Fetch s.core.pc ≡ true → (x.size ≡ 4 → j s.protection Fetch (s.core.pc + 2) ≡ true) → turn j i s ≡ perform j i (act x.instr (s.core.pc + x.size) s.core) s
  performs r h live f g =
      let st = stands r h f g in
      let P : Option End → Type 0 = λ e. turn j i (record s { ending = e }) ≡ perform j i (act x.instr (s.core.pc + x.size) s.core) (record s { ending = e }) in
      subst P (sym live) (rw (size_there i s.core.pc x h) (stepped j i s.core s.protection s.status s.ram s.queues x.instr st))

  -- the first may not
  pub refuses_first : s.ending ≡ None → j s.protection Fetch s.core.pc ≡ false → turn j i s ≡ fetch_fault j i s
  unfolding turn fetch
  refuses_first live f = rw (live, f) refl

  second : (c : Code) → HoldsCode i s.core.pc c → (n : ℕ) → HasForm c n → width_of c ≡ 4 → s.ending ≡ None → j s.protection Fetch s.core.pc ≡ true → j s.protection Fetch (s.core.pc + 2) ≡ false → turn j i s ≡ fetch_fault j i s
  unfolding turn fetch
  second (Half h) at n f w live t u = cc
  second (Pair h k) at n f w live t u = rw (live, t, u, at.0.is_in_flash, at.1.is_in_flash, at.0.is_half, f.0) refl

  -- the second may not
  pub refuses_second : ObeysRules i → StandsIn i s.core.pc x → s.ending ≡ None → j s.protection Fetch s.core.pc ≡ true → x.size ≡ 4 → j s.protection Fetch (s.core.pc + 2) ≡ false → turn j i s ≡ fetch_fault j i s
  refuses_second r h live t w u =
      second (encode x.instr) (code_there i s.core.pc x r h) (size x.instr) (encode_form x.instr h.there.encodes.in_table) (width_there i s.core.pc x h ∙ w) live t u

-- code is low
pub low_there : (i : Image) (a : ℕ) (x : Decoded) → ObeysRules i → StandsIn i a x → (a < 2 ^ 31) × (x.size ≤ 4)
low_there i a x r h =
    let above = h.above in
    let room = h.there.room in
    let most = r.flash_most in
    let highest = r.flash_highest in
    (omega arith, rw h.there.size (short_width (read_code _ _)))
  where
    short_width : (c : Code) → width_of c ≤ 4
    short_width (Half h) = omega arith
    short_width (Pair h k) = omega arith
