-- Words of saved entries and of stacked frames, as the lists of the handlers reach them; PSP written; what stores leave.
use Rattle.std.proofs.Common.{◌≡◌, ℕ, ◌+◌, ◌-◌, ◌*◌, ◌%◌, ◌<◌, ◌≤◌, ◌⊎◌, inl, inr, ⊎_elim, true, List, [], ◌∷◌, length, nat_lt, refl, sym, ap, ◌∙◌, subst, arith}
use Rattle.std.proofs.lemmas.Bool.Decides.{nat_tests}
use Rattle.base_words.specs.declared.memory.Width.TheVariants.{Word}
use Rattle.base_words.specs.Bytes.{read, write}
use Rattle.base_words.proofs.Bytes.{read_below, read_above, length-write}
use Rattle.machine_protection.specs.declared.region.Access.TheVariants.{Read, Write}
use Rattle.machine_devices.specs.declared.image.Image.{Image}
use Rattle.machine_devices.specs.Rules.{ObeysRules}
use Rattle.machine_model.specs.declared.state.ProtectionState.{ProtectionState}
use Rattle.machine_model.specs.State.{PermissionTest, by_mpu}
use Rattle.monitor_steps.specs.Steps.{PrivilegedSteps, Load, Store, WritePsp}
use Rattle.monitor_steps.specs.Core.{Core, low_register, with_low, with_ram, with_psp, is_privileged_on_msp}
use Rattle.monitor_steps.specs.Effect.{Outcome, Unclaimed, either, effect}
use Rattle.monitor_steps.specs.Ticks.{then_ticks, either_ticks, ticks}
use Rattle.monitor_steps.specs.Safe.{Rule}
use Rattle.monitor_steps.proofs.Gives.{set_psp_gives}
use Rattle.monitor_steps.proofs.Within.{GivesWithin, ticks_all, load_within, store_within}
use Rattle.monitor_model.specs.declared.tables.Tables.{Tables}
use Rattle.monitor_model.specs.Records.{stack_end}
use Rattle.monitor_model.specs.Placed.{Placed}
use Rattle.monitor_laws.proofs.Off.{IsOff, open_while_off}
use Rattle.monitor_laws.proofs.Placement.{writable}
use Rattle.monitor_laws.proofs.Opened.{HandlerPremises}

-- PSP, with steps behind it
pub write_psp_within : {j : PermissionTest} {i : Image} {Good : ProtectionState → Type 0} {Allowed : Rule} {n from : ℕ} {k : PrivilegedSteps} {ks : List PrivilegedSteps} {c : Core} {Q : Outcome → Type 0} → is_privileged_on_msp c ≡ true → GivesWithin j i Good Allowed n k ks (with_psp c (low_register c from)) Q → GivesWithin j i Good Allowed (1 + n) (WritePsp from k) ks c Q
unfolding ticks_all
write_psp_within {j} {i} {Good} {Allowed} {n} {from} {k} {ks = []} {c} {Q} e w = record {
  gives = set_psp_gives e w.gives;
  spent = let s = w.spent in subst (λ b. 1 + either_ticks b (ticks j i k (with_psp c (low_register c from))) 0 ≤ 1 + n) (sym e) (omega (arith, s));
}
write_psp_within {j} {i} {Good} {Allowed} {n} {from} {k} {ks = l ∷ ls} {c} {Q} e w = record {
  gives = set_psp_gives e w.gives;
  spent = let s = w.spent in subst (λ b. 1 + either_ticks b (ticks j i k (with_psp c (low_register c from))) 0 + then_ticks (either b (λ c. effect j i k (with_psp c (low_register c from))) (λ c. Unclaimed) c) (λ d. ticks_all j i Good Allowed l ls d) ≤ 1 + n) (sym e) (omega (arith, s));
}

-- ---- what stores leave

-- bytes of one range alone may differ
pub record Changed (lo hi : ℕ) (old new : List ℕ) : Type 0 where
  pub reads : (w a : ℕ) → (a + w ≤ lo) ⊎ (hi ≤ a) → read w a new ≡ read w a old
  pub as_long : length new ≡ length old

pub changed_write : (o v : ℕ) (old new : List ℕ) → new ≡ write 4 o v old → Changed o (o + 4) old new
changed_write o v old new e = record {
  reads = λ w a h. ap (λ m. read w a m) e ∙ ⊎_elim (λ x. read_below w a 4 o v old x) (λ x. read_above w a 4 o v old x) h;
  as_long = ap (λ m. length m) e ∙ length-write 4 o v old;
}

pub changed_wider : (lo hi l h : ℕ) (old new : List ℕ) → l ≤ lo → hi ≤ h → Changed lo hi old new → Changed l h old new
changed_wider lo hi l h old new a b c = record { reads = λ w x k. c.reads w x (⊎_elim (λ y. inl (omega (arith, a, y))) (λ y. inr (omega (arith, b, y))) k); as_long = c.as_long }

pub changed_then : (lo hi : ℕ) (a b c : List ℕ) → Changed lo hi a b → Changed lo hi b c → Changed lo hi a c
changed_then lo hi a b c x y = record { reads = λ w k h. y.reads w k h ∙ x.reads w k h; as_long = y.as_long ∙ x.as_long }

pub changed_in : (lo hi o v : ℕ) (a b c : List ℕ) → Changed lo hi a b → lo ≤ o → o + 4 ≤ hi → c ≡ write 4 o v b → Changed lo hi a c
changed_in lo hi o v a b c x l h e = changed_then lo hi a b c x (changed_wider o (o + 4) lo hi b c l h (changed_write o v b c e))

pub changed_none : (lo hi : ℕ) (a : List ℕ) → Changed lo hi a a
changed_none lo hi a = record { reads = λ w k h. refl; as_long = refl }

-- ---- frames

-- the eight words at an offset of RAM lie in the stack, below this TOP
pub record InStack (i : Image) (t : Tables) (o top : ℕ) : Type 0 where
  pub aligned : o % 4 ≡ 0
  pub low : t.stack.base ≤ i.ram_base + o
  pub high : i.ram_base + (o + 32) ≤ top
  pub ends : top ≤ stack_end t

-- such a frame is apart from the block, and in RAM
pub apart_from_block : (i : Image) (t : Tables) (o top : ℕ) → Placed i t → InStack i t o top → (t.monitor - i.ram_base + 1024 ≤ o) ⊎ (o + 32 ≤ t.monitor - i.ram_base)
apart_from_block i t o top p s =
    let l = s.low in let h = s.high in let e = s.ends in let b = p.block_inside.0 in
    ⊎_elim (λ x. inl (omega (arith, l, h, e, b, x))) (λ x. inr (omega (arith, l, h, e, b, x))) p.apart

module _ (premises : HandlerPremises) where
  open premises use {installed, installed.{image as i, tables as t, placed as p, has_tables as has}, Good, Allowed, entry_top, handles, good}

  abbrev W : ℕ → PrivilegedSteps → List PrivilegedSteps → Core → (Outcome → Type 0) → Type 0
  W n s ks c Q = GivesWithin by_mpu i Good Allowed n s ks c Q

  rules : ObeysRules i
  rules = p.rules

  abbrev block : ℕ
  block = t.monitor - i.ram_base

  lt_true : (x y : ℕ) → nat_lt x y ≡ true → x < y
  lt_true x y h = grind (arith, nat_tests, h)

  entry_at : (d off x : ℕ) → x ≡ t.monitor + 16 * d → x + 4 * off ≡ i.ram_base + (block + (16 * d + 4 * off))
  entry_at d off x e = let l = p.block_inside.0 in omega (arith, e, l)

  entry_aligned : (d off : ℕ) → (block + (16 * d + 4 * off)) % 4 ≡ 0
  entry_aligned d off = let a = p.block_aligned in let r = rules.ram_aligned in let l = p.block_inside.0 in omega (arith, a, r, l)

  entry_room : (d off : ℕ) → d < 8 → off < 12 → block + (16 * d + 4 * off) + 4 ≤ i.ram_size
  entry_room d off h k = let l = p.block_inside.0 in let m = p.block_inside.1 in omega (arith, h, k, l, m)

  -- a word of the saved entry numbered d; a register has the address 32 bytes before it
  pub entry_load_within : (d off : ℕ) {n to b : ℕ} {s : PrivilegedSteps} {ks : List PrivilegedSteps} {c : Core} {Q : Outcome → Type 0} → IsOff true c.protection → low_register c b ≡ t.monitor + 16 * d → d < 8 → nat_lt off 12 ≡ true →
      ((v : ℕ) → v ≡ read 4 (block + (16 * d + 4 * off)) c.ram → W n s ks (with_low c to v) Q) → W (1 + n) (Load Word to b off s) ks c Q
  entry_load_within d off {b = b} {c = c} q e few h f =
      let z : off < 12 = lt_true off 12 h in
      load_within rules (block + (16 * d + 4 * off)) (open_while_off c.protection q.control) (entry_at d off (low_register c b) e) (entry_aligned d off) (entry_room d off few z) (handles.block Read c (16 * d + 4 * off) q.mode (omega (arith, z, few))) f

  pub entry_store_within : (d off : ℕ) {n from b : ℕ} {s : PrivilegedSteps} {ks : List PrivilegedSteps} {c : Core} {Q : Outcome → Type 0} → IsOff true c.protection → low_register c b ≡ t.monitor + 16 * d → d < 8 → nat_lt off 12 ≡ true →
      ((m : List ℕ) → m ≡ write 4 (block + (16 * d + 4 * off)) (low_register c from) c.ram → length m ≡ length c.ram → W n s ks (with_ram c m) Q) → W (1 + n) (Store Word from b off s) ks c Q
  entry_store_within d off {b = b} {c = c} q e few h f =
      let z : off < 12 = lt_true off 12 h in
      store_within rules (block + (16 * d + 4 * off)) (open_while_off c.protection q.control) (good c.protection q) (entry_at d off (low_register c b) e) (entry_aligned d off) (entry_room d off few z) (handles.block Write c (16 * d + 4 * off) q.mode (omega (arith, z, few))) f

  frame_at : (o off x : ℕ) → x ≡ i.ram_base + o → x + 4 * off ≡ i.ram_base + (o + 4 * off)
  frame_at o off x e = omega (arith, e)

  frame_aligned : (o off : ℕ) → o % 4 ≡ 0 → (o + 4 * off) % 4 ≡ 0
  frame_aligned o off e = omega (arith, e)

  frame_room : (o top off : ℕ) → InStack i t o top → off < 8 → o + 4 * off + 4 ≤ i.ram_size
  frame_room o top off s lt = let h = s.high in let e = s.ends in let a = (writable installed).stack_inside.1 in omega (arith, h, e, a, lt)

  frame_low : (o top off : ℕ) → InStack i t o top → t.stack.base ≤ i.ram_base + (o + 4 * off)
  frame_low o top off s = let l = s.low in omega (arith, l)

  frame_high : (o top off x : ℕ) → InStack i t o top → off < 8 → x ≡ top → i.ram_base + (o + 4 * off + 4) ≤ x
  frame_high o top off x s lt e = let h = s.high in omega (arith, h, lt, e)

  frame_below : (o off : ℕ) → i.ram_base + (o + 32) ≤ entry_top → off < 8 → i.ram_base + (o + 4 * off + 4) ≤ entry_top
  frame_below o off below lt = omega (arith, below, lt)

  -- a word of a frame, whose address a register has; TOP stands in the block
  pub frame_load_within : (o top off : ℕ) {n to b : ℕ} {s : PrivilegedSteps} {ks : List PrivilegedSteps} {c : Core} {Q : Outcome → Type 0} → IsOff true c.protection → InStack i t o top → i.ram_base + (o + 32) ≤ entry_top → low_register c b ≡ i.ram_base + o → nat_lt off 8 ≡ true → read 4 (block + 4) c.ram ≡ top →
      ((v : ℕ) → v ≡ read 4 (o + 4 * off) c.ram → W n s ks (with_low c to v) Q) → W (1 + n) (Load Word to b off s) ks c Q
  frame_load_within o top off {b = b} {c = c} q s below e h et f =
      let z : off < 8 = lt_true off 8 h in
      load_within rules (o + 4 * off) (open_while_off c.protection q.control) (frame_at o off (low_register c b) e) (frame_aligned o off s.aligned) (frame_room o top off s z) (handles.stack_load c (o + 4 * off) (frame_low o top off s) (frame_high o top off (read 4 (block + 4) c.ram) s z et) (frame_below o off below z)) f

  pub frame_store_within : (o top off : ℕ) {n from b : ℕ} {s : PrivilegedSteps} {ks : List PrivilegedSteps} {c : Core} {Q : Outcome → Type 0} → IsOff true c.protection → InStack i t o top → low_register c b ≡ i.ram_base + o → nat_lt off 8 ≡ true → read 4 (block + 4) c.ram ≡ top →
      ((m : List ℕ) → m ≡ write 4 (o + 4 * off) (low_register c from) c.ram → length m ≡ length c.ram → W n s ks (with_ram c m) Q) → W (1 + n) (Store Word from b off s) ks c Q
  frame_store_within o top off {b = b} {c = c} q s e h et f =
      let z : off < 8 = lt_true off 8 h in
      store_within rules (o + 4 * off) (open_while_off c.protection q.control) (good c.protection q) (frame_at o off (low_register c b) e) (frame_aligned o off s.aligned) (frame_room o top off s z) (handles.stack_store c (o + 4 * off) (frame_low o top off s) (frame_high o top off (read 4 (block + 4) c.ram) s z et)) f
