-- No store of any step leads to flash.
use Rattle.std.proofs.Common.{◌≡◌, ◌≢◌, ℕ, zero, suc, ◌+◌, ◌-◌, ◌%◌, ◌≤◌, Bool, true, false, ◌&&◌, ◌⊎◌, inl, inr, ⊎_elim, List, [], ◌∷◌, length, Option, Some, None, nat_eq, refl, sym, arith}
use Rattle.std.proofs.lemmas.Bool.{false≢true}
use Rattle.std.proofs.lemmas.Bool.Decides.{nat_tests}
use Rattle.std.proofs.Math.ListN.{get_or}
use Rattle.base_words.specs.Arithmetic.{word}
use Rattle.machine_thumb.specs.declared.table.Instr.{Instr}
use Rattle.machine_thumb.specs.Decoded.{decoded}
use Rattle.machine_protection.specs.declared.region.Access.{Access}
use Rattle.machine_protection.specs.declared.region.Access.TheVariants.{Read, Write}
use Rattle.machine_bus.specs.declared.answer.Loaded.{Loaded}
use Rattle.machine_bus.specs.declared.answer.Loaded.TheVariants.{Value, Device, NoInput, Unmapped}
use Rattle.machine_devices.specs.declared.image.Image.{Image}
use Rattle.machine_devices.specs.declared.image.Window.{Window}
use Rattle.machine_bus.specs.Locations.{Location, InRam, InFlash, InWindow, Nowhere, inside, choose, find_window, location, is_memory}
use Rattle.machine_devices.specs.Rules.{ObeysRules}
use Rattle.machine_bus.specs.Bus.{load_at, store_at}
use Rattle.machine_model.specs.declared.state.CoreRegisters.{CoreRegisters}
use Rattle.machine_model.specs.declared.state.ProtectionState.{ProtectionState}
use Rattle.machine_model.specs.declared.state.FaultStatus.{FaultStatus}
use Rattle.machine_model.specs.declared.state.End.{End}
use Rattle.machine_model.specs.State.{State, Touched, Turn, PermissionTest, is_unprivileged}
use Rattle.machine_model.specs.Act.{Act, Changes, Loads, Stores, LoadsMany, StoresMany, GetsSpecial, SetsSpecial, Exchanges, Calls, Halts, Stops}
use Rattle.machine_model.specs.Instructions.{act}
use Rattle.machine_model.specs.System.{in_system, is_system_register}
use Rattle.machine_model.specs.declared.answers.Verdict.{Verdict}
use Rattle.machine_model.specs.declared.answers.Verdict.TheVariants.{ToBus, ToSystem, Refused, Bad}
use Rattle.machine_model.specs.declared.answers.Verdicts.{Verdicts}
use Rattle.machine_model.specs.declared.answers.Verdicts.TheVariants.{AllGood, RefusedAt, BadOne}
use Rattle.machine_model.specs.Tests.{tested, verdict, and_then, verdicts, all_open}
use Rattle.machine_model.specs.Exceptions.{stacked_words, words_from, mem_manage, supervisor_call, frame_at, entered, is_frame_open, call, is_fault_enabled, fault_by, is_thread, leaves, returns}
use Rattle.machine_model.specs.Perform.{loaded, after_load, stored, after_store, get_words, or_usage, after_loads, after_stores, jumped, exchanged, perform}
use Rattle.machine_model.specs.declared.answers.Fetched.{Fetched}
use Rattle.machine_model.specs.declared.answers.Fetched.TheVariants.{Took, NotAllowed, NotMapped}
use Rattle.machine_model.specs.Step.{fetch, performed, fetched, running, turn}
use Rattle.base_laws.specs.Lists.{Each}
use Rattle.machine_model.proofs.Tested.{open_tests}
use Rattle.machine_bus.proofs.Ranges.{outside_behind as outside_below}

-- an access that does not lead to flash
abbrev pub NotFlash : Image → Touched → Type 0
NotFlash i x = (o : ℕ) → location i x.address ≢ InFlash o

-- no store of what a step answers leads to flash
abbrev pub SparesFlash : Image → Turn → Type 0
SparesFlash i t = Each (NotFlash i) t.stores

-- ---- places

-- memory that takes stores is not flash
memory_not_flash : (l : Location) (o : ℕ) → is_memory Write l ≡ true → l ≢ InFlash o
memory_not_flash (InRam p) o h e = cc
memory_not_flash (InFlash p) o h e = absurd (false≢true h)
memory_not_flash (InWindow k p) o h e = cc
memory_not_flash Nowhere o h e = cc

choose_window : (here : Bool) (k p o : ℕ) (l : Location) → l ≢ InFlash o → choose here (InWindow k p) l ≢ InFlash o
choose_window true k p o l h e = cc
choose_window false k p o l h e = h e

window_not_flash : (ws : List Window) (k a o : ℕ) → find_window ws k a ≢ InFlash o
unfolding find_window
window_not_flash [] k a o e = cc
window_not_flash (w ∷ ws) k a o e = choose_window (inside w.base w.size a) k (a - w.base) o (find_window ws (suc k) a) (window_not_flash ws (suc k) a o) e

choose_place : (in_ram in_flash : Bool) (p q o : ℕ) (l : Location) → in_flash ≡ false → l ≢ InFlash o → choose in_ram (InRam p) (choose in_flash (InFlash q) l) ≢ InFlash o
choose_place true f p q o l out h e = cc
choose_place false true p q o l out h e = absurd (false≢true (sym out))
choose_place false false p q o l out h e = h e

system_high : (a : ℕ) → in_system a ≡ true → 0xE0000000 ≤ a
system_high a h = grind (arith, nat_tests)

-- flash ends below the system control space
system_not_flash : (i : Image) (a o : ℕ) → ObeysRules i → in_system a ≡ true → location i a ≢ InFlash o
unfolding location
system_not_flash i a o rules h e =
    let high = system_high a h in
    let highest : i.flash_base ≤ 0x1FE00000 = rules.flash_highest in
    let most : length i.flash ≤ 0x100000 = rules.flash_most in
    let below : i.flash_base + length i.flash ≤ a = omega arith in
    choose_place (inside i.ram_base i.ram_size a) (inside i.flash_base (length i.flash) a) (a - i.ram_base) (a - i.flash_base) o (find_window i.windows 0 a)
    (outside_below i.flash_base (length i.flash) a below) (window_not_flash i.windows 0 a o) e

-- ---- the tests

tested_in_system : (aligned system unprivileged register allowed : Bool) → tested aligned system unprivileged register allowed ≡ ToSystem → system ≡ true
tested_in_system false sy u r al e = cc
tested_in_system true true u r al e = refl
tested_in_system true false u r false e = cc
tested_in_system true false u r true e = cc

verdict_in_system : (j : PermissionTest) (p : ProtectionState) (kind : Access) (w a : ℕ) → verdict j p kind w a ≡ ToSystem → in_system a ≡ true
unfolding verdict
verdict_in_system j p kind w a e = tested_in_system (nat_eq (a % w) 0) (in_system a) (is_unprivileged p) (nat_eq w 4 && is_system_register a) (j p kind a) e

-- each of several words goes to memory or to the system control space
first_good : (v : Verdict) (memory : Bool) (a : ℕ) (vs : Verdicts) → and_then v memory a vs ≡ AllGood → ((memory ≡ true) ⊎ (v ≡ ToSystem)) × (vs ≡ AllGood)
first_good ToBus true a vs e = (inl refl, e)
first_good ToBus false a vs e = cc
first_good ToSystem m a vs e = (inr refl, e)
first_good Refused m a vs e = cc
first_good (Bad r) m a vs e = cc

module _ (j : PermissionTest) (i : Image) (rules : ObeysRules i) (p : ProtectionState) where
  words_not_flash : (n a : ℕ) → verdicts j i p Write a n ≡ AllGood → Each (NotFlash i) (words_from a n)
  unfolding verdicts words_from
  words_not_flash zero a e = tt
  words_not_flash (suc n) a e =
      let g = first_good (verdict j p Write 4 a) (is_memory Write (location i a)) a (verdicts j i p Write (word (a + 4)) n) e in (
        λ o. ⊎_elim (λ memory. memory_not_flash (location i a) o memory) (λ system. system_not_flash i a o rules (verdict_in_system j p Write 4 a system)) g.0,
        words_not_flash n (word (a + 4)) g.1,
      )

  open_not_flash : (n a : ℕ) → all_open j i p Write a n ≡ true → Each (NotFlash i) (words_from a n)
  unfolding all_open words_from
  open_not_flash zero a e = tt
  open_not_flash (suc n) a e =
      let t = open_tests (j p Write a) (is_memory Write (location i a)) (all_open j i p Write (word (a + 4)) n) e in
      (λ o. memory_not_flash (location i a) o t.1, open_not_flash n (word (a + 4)) t.2)

-- ---- a step

module _ (j : PermissionTest) (i : Image) (rules : ObeysRules i) (s : State) where
  entered_spares : (is_open : Bool) (n ret : ℕ) (t : FaultStatus) → is_frame_open j i s ≡ is_open → SparesFlash i (entered is_open i n ret t s)
  entered_spares false n ret t e = tt
  entered_spares true n ret t e = open_not_flash j i rules s.protection 8 (frame_at s.core.sp) e

  call_spares : (handler : Bool) (next : ℕ) → SparesFlash i (call handler j i next s)
  call_spares true next = tt
  call_spares false next = entered_spares (is_frame_open j i s) supervisor_call next s.status refl

  fault_spares : (handler enabled : Bool) (t : FaultStatus) → SparesFlash i (fault_by handler enabled j i t s)
  fault_spares true e t = tt
  fault_spares false false t = tt
  fault_spares false true t = entered_spares (is_frame_open j i s) mem_manage s.core.pc t refl

  loaded_spares : (l : Loaded) (w a : ℕ) (go : ℕ → CoreRegisters) → SparesFlash i (loaded l i w a s go)
  loaded_spares (Value v) w a go = tt
  loaded_spares (Device p o v) w a go = tt
  loaded_spares NoInput w a go = tt
  loaded_spares Unmapped w a go = tt

  load_spares : (v : Verdict) (w a : ℕ) (go : ℕ → CoreRegisters) → SparesFlash i (after_load v j i w a s go)
  load_spares ToBus w a go = loaded_spares (load_at (location i a) i s.ram s.queues w) w a go
  load_spares ToSystem w a go = tt
  load_spares Refused w a go = fault_spares s.protection.handler (is_fault_enabled s.status) _
  load_spares (Bad r) w a go = tt

  stored_spares : (l : Location) (w a v : ℕ) (c : CoreRegisters) → location i a ≡ l → SparesFlash i (stored (store_at l) i w a v s c)
  stored_spares (InRam p) w a v c is = (λ o e. cc, tt)
  stored_spares (InFlash p) w a v c is = tt
  stored_spares (InWindow k p) w a v c is = (λ o e. cc, tt)
  stored_spares Nowhere w a v c is = tt

  store_spares : (v : Verdict) (w a x : ℕ) (c : CoreRegisters) → verdict j s.protection Write w a ≡ v → SparesFlash i (after_store v j i w a x s c)
  store_spares ToBus w a x c e = stored_spares (location i a) w a x c refl
  store_spares ToSystem w a x c e = (λ o. system_not_flash i a o rules (verdict_in_system j s.protection Write w a e), tt)
  store_spares Refused w a x c e = fault_spares s.protection.handler (is_fault_enabled s.status) _
  store_spares (Bad r) w a x c e = tt

  usage_spares : (o : Option CoreRegisters) (a n : ℕ) → SparesFlash i (or_usage o a n s)
  usage_spares None a n = tt
  usage_spares (Some c) a n = tt

  loads_spares : (v : Verdicts) (a n : ℕ) (go : List ℕ → Option CoreRegisters) → SparesFlash i (after_loads v j i a n s go)
  loads_spares AllGood a n go = usage_spares (go (get_words i a n s)) a n
  loads_spares (RefusedAt x) a n go = fault_spares s.protection.handler (is_fault_enabled s.status) _
  loads_spares (BadOne r) a n go = tt

  stores_spares : (v : Verdicts) (a : ℕ) (vs : List ℕ) (c : CoreRegisters) → verdicts j i s.protection Write a (length vs) ≡ v → SparesFlash i (after_stores v j i a vs s c)
  stores_spares AllGood a vs c e = words_not_flash j i rules s.protection (length vs) a e
  stores_spares (RefusedAt x) a vs c e = fault_spares s.protection.handler (is_fault_enabled s.status) _
  stores_spares (BadOne r) a vs c e = tt

  leaves_spares : (is_open thread psp : Bool) (a : ℕ) (ws : List ℕ) → SparesFlash i (leaves is_open thread psp a ws s)
  leaves_spares false t psp a ws = tt
  leaves_spares true false psp a ws = tt
  leaves_spares true true psp a ws = tt

  returns_spares : (psp : Bool) → SparesFlash i (returns j i psp s)
  returns_spares psp =
      let a : ℕ = choose psp s.core.other_sp s.core.sp in
      let ws : List ℕ = stacked_words i a 8 s.ram in
      leaves_spares (all_open j i (record s.protection { handler = false }) Read a 8) (is_thread (get_or ws 7 0)) psp a ws

  jumped_spares : (odd : Bool) (v : ℕ) → SparesFlash i (jumped odd v s)
  jumped_spares true v = tt
  jumped_spares false v = tt

  exchange_spares : (to_psp to_msp : Bool) (v : ℕ) → SparesFlash i (exchanged to_psp to_msp j i v s)
  exchange_spares true m v = returns_spares true
  exchange_spares false true v = returns_spares false
  exchange_spares false false v = jumped_spares _ v

  pub perform_spares : (x : Act) → SparesFlash i (perform j i x s)
  unfolding perform
  perform_spares (Changes c) = tt
  perform_spares (Loads w a go) = load_spares (verdict j s.protection Read w a) w a go
  perform_spares (Stores w a v c) = store_spares (verdict j s.protection Write w a) w a v c refl
  perform_spares (LoadsMany a n go) = loads_spares (verdicts j i s.protection Read a n) a n go
  perform_spares (StoresMany a vs c) = stores_spares (verdicts j i s.protection Write a (length vs)) a vs c refl
  perform_spares (GetsSpecial n d c) = tt
  perform_spares (SetsSpecial n v c) = tt
  perform_spares (Exchanges v) = exchange_spares _ _ v
  perform_spares (Calls next) = call_spares s.protection.handler next
  perform_spares (Halts n) = tt
  perform_spares (Stops r) = tt

  performed_spares : (o : Option Instr) (next : ℕ) → SparesFlash i (performed o j i next s)
  performed_spares None next = tt
  performed_spares (Some x) next = perform_spares (act x next s.core)

  fetched_spares : (f : Fetched) → SparesFlash i (fetched f j i s)
  fetched_spares (Took h k size) = performed_spares (decoded h k) (s.core.pc + size)
  fetched_spares NotAllowed = fault_spares s.protection.handler (is_fault_enabled s.status) _
  fetched_spares NotMapped = tt

  running_spares : (o : Option End) → SparesFlash i (running o j i s)
  running_spares (Some e) = tt
  running_spares None = fetched_spares (fetch j i s)

pub turn_spares : (j : PermissionTest) (i : Image) (s : State) → ObeysRules i → SparesFlash i (turn j i s)
unfolding turn
turn_spares j i s rules = running_spares j i rules s s.ending
