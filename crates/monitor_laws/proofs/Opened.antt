-- What both handlers begin with: the unit off, and the three tests of the frame.
use Rattle.std.proofs.Common.{◌≡◌, ◌≢◌, ℕ, ◌+◌, ◌-◌, ◌*◌, ◌/◌, ◌%◌, ◌^◌, ◌<◌, ◌≤◌, true, false, not, ◌&&◌, List, length, nat_eq, nat_lt, nat_le, refl, sym, ap, ◌∙◌, arith}
use Rattle.std.proofs.lemmas.Bool.Decides.{nat_tests}
use Rattle.std.proofs.lemmas.Nat.Bits.{and_pow}
use Rattle.std.specs.Prelude.{bit_and}
use Rattle.std.proofs.lemmas.Bool.{eqb-true, leb-true}
use Rattle.base_words.specs.declared.memory.Width.TheVariants.{Word}
use Rattle.base_words.specs.Bytes.{read, write}
use Rattle.base_words.specs.Arithmetic.{subtract}
use Rattle.machine_protection.specs.declared.region.Access.{Access}
use Rattle.machine_protection.specs.declared.region.Access.TheVariants.{Read, Write}
use Rattle.machine_protection.specs.declared.TheConstants.{MPU_CTRL}
use Rattle.machine_devices.specs.declared.image.Image.{Image}
use Rattle.machine_devices.specs.Rules.{ObeysRules}
use Rattle.machine_model.specs.declared.state.ProtectionState.{ProtectionState}
use Rattle.machine_model.specs.declared.state.FaultStatus.{FaultStatus}
use Rattle.machine_model.specs.State.{by_mpu, is_unprivileged}
use Rattle.monitor_steps.specs.Steps.{PrivilegedSteps, Load, Store}
use Rattle.monitor_steps.specs.Core.{Core, low_register, with_low, with_ram}
use Rattle.monitor_steps.specs.Effect.{Outcome, Halted}
use Rattle.monitor_steps.specs.Safe.{Rule}
use Rattle.monitor_steps.proofs.Gives.{word_fits}
use Rattle.monitor_steps.proofs.Within.{GivesWithin, const_within, alu_within, at_within, more_within, must_within, psp_within, load_within, store_within}
use Rattle.monitor_model.specs.declared.tables.Tables.{Tables}
use Rattle.monitor_model.specs.Records.{stack_end}
use Rattle.monitor_program.specs.Constants.{Constants, constants_with}
use Rattle.monitor_program.specs.Opening.{opened}
use Rattle.monitor_laws.proofs.Off.{core, with_unit, IsOff, Allows, open_while_off, set_control_within}
use Rattle.monitor_laws.proofs.Placement.{block_is, writable, Installed}

pub le_false : (x y : ℕ) → nat_le x y ≡ false → y < x
le_false x y h = grind (arith, nat_tests)

pub eq_false : (x y : ℕ) → nat_eq x y ≡ false → x ≢ y
eq_false x y h = grind (arith, nat_tests)

-- bit 9
pad_zero : (n : ℕ) → n / 2 ^ 9 % 2 ≡ 0 → bit_and n (2 ^ 9) ≡ 0
pad_zero n h = let e : bit_and n (2 ^ 9) ≡ n / 2 ^ 9 % 2 * 2 ^ 9 = and_pow n 9 in omega (arith, e, h)

pad_is : (n : ℕ) → bit_and n (2 ^ 9) ≡ 0 → n / 2 ^ 9 % 2 ≡ 0
pad_is n h = let e : bit_and n (2 ^ 9) ≡ n / 2 ^ 9 % 2 * 2 ^ 9 = and_pow n 9 in omega (arith, e, h)

pub on_msp : (p : ProtectionState) → is_unprivileged p ≡ false → (not (is_unprivileged p) && true) ≡ true
on_msp p e = rw e refl

-- the frame at an offset of RAM lies in the open stack, and has no pad
pub record FrameIsOpen (i : Image) (t : Tables) (o : ℕ) (m : List ℕ) : Type 0 where
  pub low : t.stack.base ≤ i.ram_base + o
  pub high : i.ram_base + o + 32 ≤ read 4 (t.monitor - i.ram_base + 4) m
  pub no_pad : read 4 (o + 28) m / 2 ^ 9 % 2 ≡ 0

-- what a handler may access, whatever its core: words of the block, and of the open stack. It loads from the stack only what lay
-- below TOP where it was entered
pub record Handles (i : Image) (t : Tables) (entry_top : ℕ) (Allowed : Rule) : Type 0 where
  pub plain : Allows i Allowed true
  pub block : (kind : Access) (c : Core) (o : ℕ) → c.protection.handler ≡ true → o + 4 ≤ 544 → Allowed kind c 4 (i.ram_base + (t.monitor - i.ram_base + o))
  pub stack_load : (c : Core) (o : ℕ) → t.stack.base ≤ i.ram_base + o → i.ram_base + (o + 4) ≤ read 4 (t.monitor - i.ram_base + 4) c.ram → i.ram_base + (o + 4) ≤ entry_top → Allowed Read c 4 (i.ram_base + o)
  pub stack_store : (c : Core) (o : ℕ) → t.stack.base ≤ i.ram_base + o → i.ram_base + (o + 4) ≤ read 4 (t.monitor - i.ram_base + 4) c.ram → Allowed Write c 4 (i.ram_base + o)

-- what the laws of the handlers' lists rest on: the monitor in its image, and what a handler's steps are held to
pub record HandlerPremises : Type 1 where
  pub installed : Installed
  -- what the protection unit and the mode are to be at each step
  pub Good : ProtectionState → Type 0
  -- what each step may access
  pub Allowed : Rule
  -- the block's TOP where the handler was entered
  pub entry_top : ℕ
  -- the rule allows what handlers access
  pub handles : Handles installed.image installed.tables entry_top Allowed
  -- a handler is right with its unit off
  pub good : (q : ProtectionState) → IsOff true q → Good q

module _ (premises : HandlerPremises) where
  open premises use {installed, installed.{image as i, tables as t, placed as p, has_tables as has, stub}, Good, Allowed, entry_top, handles, good}

  abbrev k : Constants
  k = constants_with stub t

  abbrev W : ℕ → PrivilegedSteps → List PrivilegedSteps → Core → (Outcome → Type 0) → Type 0
  W n s ks c Q = GivesWithin by_mpu i Good Allowed n s ks c Q

  rules : ObeysRules i
  rules = p.rules

  abbrev block : ℕ
  block = t.monitor - i.ram_base

  block_at : (off x : ℕ) → x ≡ k.block → x + 4 * off ≡ i.ram_base + (block + 4 * off)
  block_at off x e = let b = block_is installed in let l = p.block_inside.0 in omega (arith, e, b, l)

  block_aligned : (off : ℕ) → (block + 4 * off) % 4 ≡ 0
  block_aligned off = let a = p.block_aligned in let r = rules.ram_aligned in let l = p.block_inside.0 in omega (arith, a, r, l)

  block_room : (off : ℕ) → off < 136 → block + 4 * off + 4 ≤ i.ram_size
  block_room off h = let l = p.block_inside.0 in let m = p.block_inside.1 in omega (arith, h, l, m)

  -- a word of the block, whose address a register has
  pub block_load_within : (off : ℕ) {n to b : ℕ} {s : PrivilegedSteps} {ks : List PrivilegedSteps} {c : Core} {Q : Outcome → Type 0} → IsOff true c.protection → low_register c b ≡ k.block → nat_lt off 136 ≡ true →
      ((v : ℕ) → v ≡ read 4 (block + 4 * off) c.ram → W n s ks (with_low c to v) Q) → W (1 + n) (Load Word to b off s) ks c Q
  block_load_within off {b = b} {c = c} q e h f =
      let z : off < 136 = grind (arith, nat_tests, h) in
      load_within rules (block + 4 * off) (open_while_off c.protection q.control) (block_at off (low_register c b) e) (block_aligned off) (block_room off z) (handles.block Read c (4 * off) q.mode (omega (arith, z))) f

  pub block_store_within : (off : ℕ) {n from b : ℕ} {s : PrivilegedSteps} {ks : List PrivilegedSteps} {c : Core} {Q : Outcome → Type 0} → IsOff true c.protection → low_register c b ≡ k.block → nat_lt off 136 ≡ true →
      ((m : List ℕ) → m ≡ write 4 (block + 4 * off) (low_register c from) c.ram → length m ≡ length c.ram → W n s ks (with_ram c m) Q) → W (1 + n) (Store Word from b off s) ks c Q
  block_store_within off {from = from} {b = b} {c = c} q e h f =
      let z : off < 136 = grind (arith, nat_tests, h) in
      store_within rules (block + 4 * off) (open_while_off c.protection q.control) (good c.protection q) (block_at off (low_register c b) e) (block_aligned off) (block_room off z) (handles.block Write c (4 * off) q.mode (omega (arith, z))) f

  module _ {msp psp : ℕ} {u : FaultStatus} where
    -- the three tests with their halts: 46 steps at most
    pub opened_within : {b : ℕ} {s : PrivilegedSteps} {ks : List PrivilegedSteps} {Q : Outcome → Type 0} {q : ProtectionState} (o : ℕ) {m : List ℕ} {a0 a1 a2 a3 a4 a5 a6 a7 : ℕ} → q.handler ≡ true → is_unprivileged q ≡ false → psp ≡ i.ram_base + o → o % 4 ≡ 0 → o < 2 ^ 31 → read 4 (block + 4) m ≤ stack_end t → read 4 (block + 4) m ≤ entry_top →
        ((d : Core) → d.ram ≡ m → (FrameIsOpen i t o m → ⊥) → Q (Halted 4 d)) →
        ((q1 : ProtectionState) (v4 : ℕ) → q1 ≡ with_unit q (record q.mpu { control = 0 }) → IsOff true q1 → FrameIsOpen i t o m → W b s ks (core msp psp q1 u m psp k.block k.stack (read 4 (block + 4) m) v4 0 MPU_CTRL 0) Q) →
        W (46 + b) (opened k s) ks (core msp psp q u m a0 a1 a2 a3 a4 a5 a6 a7) Q
    opened_within {b} {s} {ks} {Q} o {m} h un ep ao small et below refuse go =
        more_within
        (set_control_within i rules Good Allowed true handles.plain good 0 h un (omega arith) (good _ (record { mode = h; privileged = un; control = refl })) (λ q1 eq.
        let off : IsOff true q1 = rw eq (record { mode = h; privileged = un; control = refl }) in
        psp_within (on_msp q1 off.privileged) (const_within (const_within
        (must_within (λ e1. refuse _ refl (λ x. absurd (not_low (le_false _ _ e1) x.low))) (λ e1.
        block_load_within 1 off refl refl (λ top etop.
        must_within (λ e2. refuse _ refl (λ x. absurd (not_high top etop (le_false _ _ e2) x.high))) (λ e2.
        alu_within (λ d ed. const_within
        (must_within (λ e3. refuse _ refl (λ x. absurd (not_room top d etop (leb-true _ _ e2) ed (le_false _ _ e3) x.high))) (λ e3.
        load_within rules (o + 28) (open_while_off q1 off.control) (frame_at ep) (frame_aligned ao) (frame_room (is_high top d etop (leb-true _ _ e2) ed (leb-true _ _ e3))) (handles.stack_load _ (o + 28) (later (is_low (leb-true _ _ e1))) (earlier (is_high top d etop (leb-true _ _ e2) ed (leb-true _ _ e3))) (at_entry (is_high top d etop (leb-true _ _ e2) ed (leb-true _ _ e3)))) (λ x ex.
        const_within (alu_within (λ v ev. const_within
        (must_within (λ e4. refuse _ refl (λ x. absurd (eq_false _ _ e4 (ev ∙ ap (λ n. bit_and n (2 ^ 9)) ex ∙ pad_zero (read 4 (o + 28) m) x.no_pad)))) (λ e4.
        let z : v ≡ 0 = eqb-true _ _ e4 in
        let nine : read 4 (o + 28) m / 2 ^ 9 % 2 ≡ 0 = pad_is (read 4 (o + 28) m) (sym (ap (λ n. bit_and n (2 ^ 9)) ex) ∙ sym ev ∙ z) in
        at_within (ap (λ top. core msp psp q1 u m psp k.block k.stack top v 0 MPU_CTRL 0) etop) (go q1 v eq off (record { low = is_low (leb-true _ _ e1); high = is_high top d etop (leb-true _ _ e2) ed (leb-true _ _ e3); no_pad = nine })))))))))))))))))) (omega arith)
      where
        stack_is : k.stack ≡ t.stack.base
        stack_is = let a = (writable installed).stack_inside.1 in let x = rules.ram_highest in let y = rules.ram_most in omega (arith, a, x, y)

        is_low : k.stack ≤ psp → t.stack.base ≤ i.ram_base + o
        is_low l = let s = stack_is in omega (arith, l, s, ep)

        not_low : psp < k.stack → t.stack.base ≤ i.ram_base + o → ⊥
        not_low l x = let s = stack_is in omega (arith, l, s, ep, x)

        not_high : (top : ℕ) → top ≡ read 4 (block + 4) m → top < psp → i.ram_base + o + 32 ≤ read 4 (block + 4) m → ⊥
        not_high top e l x = omega (arith, e, l, x, ep)

        is_high : (top d : ℕ) → top ≡ read 4 (block + 4) m → psp ≤ top → d ≡ subtract top psp → 32 ≤ d → i.ram_base + o + 32 ≤ read 4 (block + 4) m
        is_high top d e l ed x = let f = word_fits (block + 4) m in omega (arith, e, l, ed, x, ep, f)

        not_room : (top d : ℕ) → top ≡ read 4 (block + 4) m → psp ≤ top → d ≡ subtract top psp → d < 32 → i.ram_base + o + 32 ≤ read 4 (block + 4) m → ⊥
        not_room top d e l ed x h = let f = word_fits (block + 4) m in omega (arith, e, l, ed, x, ep, f, h)

        frame_at : psp ≡ i.ram_base + o → psp + 4 * 7 ≡ i.ram_base + (o + 28)
        frame_at e = omega (arith, e)

        frame_aligned : o % 4 ≡ 0 → (o + 28) % 4 ≡ 0
        frame_aligned a = omega (arith, a)

        frame_room : i.ram_base + o + 32 ≤ read 4 (block + 4) m → o + 28 + 4 ≤ i.ram_size
        frame_room x = let a = (writable installed).stack_inside.1 in omega (arith, x, a, et)

        later : t.stack.base ≤ i.ram_base + o → t.stack.base ≤ i.ram_base + (o + 28)
        later l = omega (arith, l)

        earlier : i.ram_base + o + 32 ≤ read 4 (block + 4) m → i.ram_base + (o + 28 + 4) ≤ read 4 (block + 4) m
        earlier x = omega (arith, x)

        at_entry : i.ram_base + o + 32 ≤ read 4 (block + 4) m → i.ram_base + (o + 28 + 4) ≤ entry_top
        at_entry x = omega (arith, x, below)
