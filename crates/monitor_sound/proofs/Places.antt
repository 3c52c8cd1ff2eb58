-- Places of the stack in the words of a simulation: offsets from RAM's base, and eighths.
use Rattle.std.specs.Prelude.{if◌then◌else◌}
use Rattle.std.proofs.Common.{◌≡◌, ℕ, zero, suc, ◌+◌, ◌-◌, ◌*◌, ◌/◌, ◌%◌, ◌^◌, ◌<◌, ◌≤◌, Bool, false, List, length, nat_eq, refl, sym, ap, ap₂, ◌∙◌, arith}
use Rattle.std.proofs.lemmas.Nat.{pow_below}
use Rattle.base_laws.proofs.Powers.{multiple_of_power, eight_eighths}
use Rattle.std.proofs.lemmas.Bool.Decides.{nat_tests}
use Rattle.base_words.specs.Bytes.{read}
use Rattle.machine_devices.specs.declared.image.Image.{Image}
use Rattle.machine_bus.specs.Memory.{compartment_of}
use Rattle.machine_model.specs.RunningCode.{Context, works}
use Rattle.base_words.specs.declared.conditions.Flags.{Flags}
use Rattle.monitor_model.specs.declared.tables.Tables.{Tables}
use Rattle.monitor_model.specs.Records.{eighth, stack_end}
use Rattle.monitor_model.specs.Placed.{Placed}
use Rattle.monitor_model.specs.Block.{MonitorBlock}
use Rattle.monitor_model.specs.BlockWords.{words_end}
use Rattle.monitor_model.specs.Invariant.{Invariant}
use Rattle.monitor_model.specs.MonitorCode.{MonitorCode}
use Rattle.monitor_model.specs.Setting.{Setting, setting_of}
use Rattle.monitor_model.specs.Threads.{HasRoom}
use Rattle.monitor_model.specs.Threads as threads
use Rattle.monitor_model.specs.AccessLaw.{StackHasRoom}
use Rattle.monitor_model.specs.Law.{InvariantKeeps, UnitPermits}
use Rattle.monitor_confined.proofs.ThreadSteps.{block_stays}
use Rattle.monitor_sound.specs.Accesses.{StubStands}
use Rattle.monitor_sound.proofs.ThreadLaws.{ThreadLaws}
use Rattle.monitor_sound.proofs.Permits.{reads_stack, writes_stack, fetches, fetches_tables, loads, stores, top_inside}

module _ (i : Image) (t : Tables) (p : Placed i t) where
  pub whole : 8 * eighth t ≡ t.stack.size
  whole =
      let k = p.stack.size in
      let e : t.stack.size ≡ 2 ^ k.0 = p.stack_size ∙ k.3 in
      ap (λ (n : ℕ). 8 * (n / 8)) e ∙ eight_eighths k.0 (let lo = k.1 in omega (arith, lo)) ∙ sym e

  pub base_aligned : t.stack.base % 8 ≡ 0
  base_aligned =
      let k = p.stack.size in
      multiple_of_power t.stack.base 3 k.0 (let lo = k.1 in omega (arith, lo)) (ap₂ (λ (b z : ℕ). b % z) p.stack_base (sym k.3) ∙ p.stack.aligned)

  pub least : 256 < t.stack.size
  least =
      let k = p.stack.size in
      let e : t.stack.size ≡ 2 ^ k.0 = p.stack_size ∙ k.3 in
      let lo = pow_below 8 k.0 (let z = k.1 in omega (arith, z)) in
      omega (arith, e, lo)

  pub ram_low : i.ram_base ≤ t.stack.base
  ram_low = let e = p.stack_base in let x = p.stack.place.0 in omega (arith, e, x)

  pub end_is : i.ram_base + (t.stack.base - i.ram_base + 8 * eighth t) ≡ stack_end t
  end_is = let a = ram_low in let b = whole in omega (arith, a, b)

  -- a whole number of eighths above the base, and not none, is one eighth at least, with room for a frame
  pub whole_top : (top d : ℕ) → t.stack.base - i.ram_base < top → top ≡ t.stack.base - i.ram_base + d / eighth t * eighth t → t.stack.base - i.ram_base + 32 ≤ top
  whole_top top d some tops =
      let z = whole in
      let l = least in
      let big : 32 ≤ eighth t = omega (arith, z, l) in
      by (d / eighth t) big refl
    where
      by : (k : ℕ) → 32 ≤ eighth t → d / eighth t ≡ k → t.stack.base - i.ram_base + 32 ≤ top
      by zero big e = absurd (let y : top ≡ t.stack.base - i.ram_base + 0 * eighth t = tops ∙ ap (λ (n : ℕ). t.stack.base - i.ram_base + n * eighth t) e in omega (arith, y, some))
      by (suc k) big e =
          let y : top ≡ t.stack.base - i.ram_base + suc k * eighth t = tops ∙ ap (λ (n : ℕ). t.stack.base - i.ram_base + n * eighth t) e in
          let w : eighth t ≤ suc k * eighth t = grind arith in
          omega (arith, y, w, big)

  -- the compartment of an event
  pub is_current : (m : MonitorBlock) (x : Context) (ram : List ℕ) → Invariant i t m x ram → compartment_of i ram ≡ m.current
  is_current m x ram v =
      let lo = p.block_inside.0 in
      let low = p.rules.ram_lowest in
      let q = p.is_monitor in
      let some : nat_eq i.monitor 0 ≡ false = search (nat_tests, arith) in
      let z : i.monitor - i.ram_base ≡ t.monitor - i.ram_base + 0 = omega (arith, q) in
      ap (λ (b : Bool). if b then 0 else read 4 (i.monitor - i.ram_base) ram) some ∙ ap (λ (o : ℕ). read 4 o ram) z ∙ v.is_block.current_is

  pub off_words : (m : MonitorBlock) (x : Context) (old new : List ℕ) → Invariant i t m x old →
      ((w a : ℕ) → t.monitor - i.ram_base ≤ a → a + w ≤ t.monitor - i.ram_base + words_end → read w a new ≡ read w a old) → length new ≡ length old → Invariant i t m x new
  off_words m x old new v same long =
      let is = v.orderly.is_top.3 in
      record {
        is_block = block_stays i t old new (λ o le. same 4 (t.monitor - i.ram_base + o) (omega arith) (omega (arith, le))) m (omega (arith, is)) v.orderly.few v.is_block;
        orderly = v.orderly;
        thread = v.thread;
        unprivileged = v.unprivileged;
        on_psp = v.on_psp;
        control = v.control;
        regions = v.regions;
        no_fault = v.no_fault;
        enabled = v.enabled;
        msp = v.msp;
        high_five = v.high_five;
        as_long = long ∙ v.as_long;
      }

  pub any_high : (m : MonitorBlock) (x : Context) (high : List ℕ) (ram : List ℕ) → Invariant i t m x ram → length high ≡ 5 → Invariant i t m (record x { high = high }) ram
  any_high m x high ram v five = record {
    is_block = v.is_block;
    orderly = v.orderly;
    thread = v.thread;
    unprivileged = v.unprivileged;
    on_psp = v.on_psp;
    control = v.control;
    regions = v.regions;
    no_fault = v.no_fault;
    enabled = v.enabled;
    msp = v.msp;
    high_five = five;
    as_long = v.as_long;
  }

module _ (laws : ThreadLaws) (code : MonitorCode) (i : Image) (t : Tables) (p : Placed i t) where
  abbrev pub g : Setting
  g = setting_of code i t

  top_low : (m : MonitorBlock) (x : Context) (ram : List ℕ) → Invariant i t m x ram → m.top ≤ i.ram_base + threads.stack_end g
  top_low m x ram v = let a = top_inside laws.unit i t p m x ram v in let b = end_is i t p in omega (arith, a, b)

  pub keeps : InvariantKeeps g (Invariant i t)
  keeps = record {
    off_words = off_words i t p;
    any_high = any_high i t p;
    high_five = λ m x ram v. v.high_five;
    as_long = λ m x ram v. v.as_long;
    top_inside = top_low;
    current = is_current i t p;
  }

  from_offset : (o : ℕ) → t.stack.base - i.ram_base ≤ o → t.stack.base ≤ i.ram_base + o
  from_offset o h = omega (arith, h)

  pub permits : StubStands i t (code.stub t) → UnitPermits g (Invariant i t)
  permits stands = record {
    fetches = λ m x ram a v e. fetches laws.unit i t p m x ram v a e;
    fetches_stub = λ m x ram a v lo hi. let b = stands.from_base in let e = stands.inside in fetches_tables laws.unit i t p m x ram v a (omega (arith, b, lo)) (omega (arith, e, hi));
    reads_stack = λ m x ram o v lo hi. reads_stack laws.unit i t p m x ram v (i.ram_base + o) (from_offset o lo) hi;
    writes_stack = λ m x ram o v lo hi. writes_stack laws.unit i t p m x ram v (i.ram_base + o) (from_offset o lo) hi;
    loads = λ m x ram a v e. loads laws.unit i t p m x ram v a e;
    stores = λ m x ram a v e. stores laws.unit i t p m x ram v a e;
  }

  -- ---- a thread of the simulation

  pub room_of : (m : MonitorBlock) (x : Context) (low : List ℕ) (o lr pc : ℕ) (f : Flags) (ram : List ℕ) (queues : List (List ℕ)) → HasRoom g m o →
      StackHasRoom i t m (works x low (i.ram_base + o) lr pc f ram queues)
  room_of m x low o lr pc f ram queues r =
      let al = r.aligned in
      let lo = r.low in
      let b = ram_low i t p in
      let ra = p.rules.ram_aligned in
      record { aligned = omega (arith, al, ra); low = omega (arith, lo, b); high = r.high }
