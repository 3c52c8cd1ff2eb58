-- What the steps of a handler may access, as a rule of the language: the kinds of confinement, at any state with the core's RAM and
-- protection. What they load may be loaded for the thread's instruction too.
use Rattle.std.proofs.Common.{◌≡◌, ℕ, ◌+◌, ◌-◌, ◌<◌, ◌≤◌, true, length, refl, sym, ap, ◌∙◌, subst, arith}
use Rattle.base_words.specs.Bytes.{read}
use Rattle.machine_protection.specs.declared.region.Access.{Access}
use Rattle.machine_protection.specs.declared.region.Access.TheVariants.{Read, Write, Fetch}
use Rattle.machine_devices.specs.declared.image.Image.{Image}
use Rattle.machine_bus.specs.Locations.{location, InFlash}
use Rattle.base_words.specs.Runs.{run}
use Rattle.machine_model.specs.declared.state.ProtectionState.{ProtectionState}
use Rattle.machine_model.specs.State.{State, Touched, by_mpu}
use Rattle.machine_model.specs.Step.{turn, step}
use Rattle.monitor_steps.specs.Runs.{IsFine, Leads}
use Rattle.monitor_steps.specs.Core.{Core, core_of}
use Rattle.monitor_steps.specs.Safe.{Rule}
use Rattle.monitor_steps.proofs.Gives.{in_flash}
use Rattle.monitor_model.specs.declared.tables.Tables.{Tables}
use Rattle.monitor_model.specs.Reach.{AllBytes, InBlock, StoreKind, ByStack, ByBlock, BySystem, LoadKind, OfFlash, OfStack, OfBlock}
use Rattle.monitor_model.specs.Placed.{Placed}
use Rattle.monitor_model.specs.BlockWords.{top}
use Rattle.monitor_model.specs.Handlers.{LoadFor, ForFlash, ForBlock, ForStack, Handles as IsHandlers, Leads as HandlerLeads}
use Rattle.monitor_laws.proofs.Off.{IsOff}
use Rattle.monitor_laws.proofs.Opened.{Handles, HandlerPremises}
use Rattle.monitor_laws.proofs.Ranges.{still}
use Rattle.base_laws.proofs.Lists.{each_to}
use Rattle.monitor_laws.proofs.Placement.{Installed}

-- a state that accesses as this core does
pub record IsAt (c : Core) (u : State) : Type 0 where
  pub ram : u.ram ≡ c.ram
  pub protection : u.protection ≡ c.protection

-- of a handler that works for the instruction to which a thread comes at s
abbrev pub HandlerRule : Image → Tables → State → Rule
HandlerRule i t s Read c w a = (u : State) → IsAt c u → i.closed ≡ true → (k : ℕ) → k < w → LoadKind i t u (a + k) × LoadFor i t s (a + k)
HandlerRule i t s Write c w a = (u : State) → IsAt c u → (k : ℕ) → k < w → StoreKind i t u (a + k)
HandlerRule i t s Fetch c w a = Unit {0}

in_block : (i : Image) (t : Tables) (o k : ℕ) → i.ram_base ≤ t.monitor → o + 4 ≤ 544 → k < 4 → InBlock t (i.ram_base + (t.monitor - i.ram_base + o) + k)
in_block i t o k l h lt = (omega (arith, l), omega (arith, l, h, lt))

pub handlers_reach : (i : Image) (t : Tables) (s : State) → Placed i t → Handles i t (top i t s.ram) (HandlerRule i t s)
handlers_reach i t s p = record {
  plain = record {
    flash = λ c w o h. λ u at closed k lt. (OfFlash (o + k) (is_flash w o k h lt), ForFlash (o + k) (is_flash w o k h lt));
    system = λ c a h al y. λ u at k lt. BySystem (ap (λ q. q.handler) at.protection ∙ h) (still a k al y lt);
  };
  block = block;
  stack_load = λ c o l h r. λ u at closed k lt. (OfStack (open_in c u o k at.ram l h lt), ForStack (omega (arith, l), omega (arith, r, lt)));
  stack_store = λ c o l h. λ u at k lt. ByStack (open_in c u o k at.ram l h lt);
}
  where
    is_flash : (w o k : ℕ) → o + w ≤ length i.flash → k < w → location i (i.flash_base + o + k) ≡ InFlash (o + k)
    is_flash w o k h lt = in_flash i (i.flash_base + o + k) (o + k) p.rules (omega arith) (omega (arith, h, lt))

    block : (kind : Access) (c : Core) (o : ℕ) → c.protection.handler ≡ true → o + 4 ≤ 544 → HandlerRule i t s kind c 4 (i.ram_base + (t.monitor - i.ram_base + o))
    block Read c o h r = λ u at closed k lt. (OfBlock (ap (λ q. q.handler) at.protection ∙ h) (in_block i t o k p.block_inside.0 r lt), ForBlock (in_block i t o k p.block_inside.0 r lt))
    block Write c o h r = λ u at k lt. ByBlock (ap (λ q. q.handler) at.protection ∙ h) (in_block i t o k p.block_inside.0 r lt)
    block Fetch c o h r = tt

    open_in : (c : Core) (u : State) (o k : ℕ) → u.ram ≡ c.ram → t.stack.base ≤ i.ram_base + o → i.ram_base + (o + 4) ≤ read 4 (t.monitor - i.ram_base + 4) c.ram → k < 4 → (t.stack.base ≤ i.ram_base + o + k) × (i.ram_base + o + k < read 4 (t.monitor - i.ram_base + 4) u.ram)
    open_in c u o k e l h lt = (omega (arith, l), subst (λ m. i.ram_base + o + k < read 4 (t.monitor - i.ram_base + 4) m) (sym e) (omega (arith, h, lt)))

-- a step that is fine by this rule is a handler's step in the words of confinement
pub fine_steps_handle : (i : Image) (t : Tables) (s : State) (Good : ProtectionState → Type 0) → ((q : ProtectionState) → Good q → q.handler ≡ true) → (u : State) → IsFine by_mpu i Good (HandlerRule i t s) u → IsHandlers i t s u
fine_steps_handle i t s Good mode u f = record {
  handler = mode u.protection f.good;
  quiet = f.quiet;
  stores = each_to (λ (x : Touched). HandlerRule i t s Write (core_of u) x.width x.address) (AllBytes (StoreKind i t u)) (turn by_mpu i u).stores (λ x h. h u here) f.stores;
  loads = λ closed. each_to (λ (x : Touched). HandlerRule i t s Read (core_of u) x.width x.address) (AllBytes (LoadKind i t u)) (turn by_mpu i u).loads (λ x h. λ k lt. (h u here closed k lt).0) f.loads;
  loads_for = λ closed. each_to (λ (x : Touched). HandlerRule i t s Read (core_of u) x.width x.address) (AllBytes (LoadFor i t s)) (turn by_mpu i u).loads (λ x h. λ k lt. (h u here closed k lt).1) f.loads;
}
  where
    here : IsAt (core_of u) u
    here = record { ram = refl; protection = refl }

-- the steps of a run that are fine by this rule are a handler's steps too
pub runs_handle : (i : Image) (t : Tables) (s : State) (Good : ProtectionState → Type 0) → ((q : ProtectionState) → Good q → q.handler ≡ true) → (most : ℕ) (u : State) (P : State → Type 0) → Leads by_mpu i Good (HandlerRule i t s) most u P → HandlerLeads i t s most u P
runs_handle i t s Good mode most u P l = record { count = l.steps; within = l.within; each = λ k lt. fine_steps_handle i t s Good mode (run (step i) k u) (l.each k lt); holds = l.holds }

-- the premises of a handler that works for the instruction to which a thread comes
abbrev pub thread_premises : (installed : Installed) (thread : State) (Good : ProtectionState → Type 0) → ((q : ProtectionState) → IsOff true q → Good q) → HandlerPremises
thread_premises installed thread Good good = record {
  installed = installed;
  Good = Good;
  Allowed = HandlerRule installed.image installed.tables thread;
  entry_top = top installed.image installed.tables thread.ram;
  handles = handlers_reach installed.image installed.tables thread installed.placed;
  good = good;
}
