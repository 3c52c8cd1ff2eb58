-- The event of a step tells the compartment that the monitor's block names before it.
use Rattle.std.proofs.Common.{◌≡◌, ℕ, ◌+◌, Bool, true, false, List, [], ◌∷◌, length, Option, Some, None, refl, sym, ap}
use Rattle.std.proofs.Math.ListN.{get_or}
use Rattle.std.proofs.lemmas.Option.{same_Some}
use Rattle.machine_thumb.specs.declared.table.Instr.{Instr}
use Rattle.machine_thumb.specs.Decoded.{decoded}
use Rattle.machine_protection.specs.declared.region.Access.TheVariants.{Read, Write}
use Rattle.base_events.specs.declared.event.Event.{Event}
use Rattle.machine_devices.specs.declared.image.Image.{Image}
use Rattle.machine_bus.specs.Locations.{Location, InRam, InFlash, InWindow, Nowhere, choose, location}
use Rattle.machine_bus.specs.Bus.{input, load_at, store_at}
use Rattle.machine_devices.specs.Input.{queue}
use Rattle.machine_model.specs.declared.state.CoreRegisters.{CoreRegisters}
use Rattle.machine_model.specs.declared.state.FaultStatus.{FaultStatus}
use Rattle.machine_model.specs.declared.state.End.{End}
use Rattle.machine_bus.specs.Memory.{compartment_of}
use Rattle.machine_model.specs.State.{Turn}
use Rattle.machine_model.specs.State.{State, PermissionTest}
use Rattle.machine_model.specs.Act.{Act, Changes, Loads, Stores, LoadsMany, StoresMany, GetsSpecial, SetsSpecial, Exchanges, Calls, Halts, Stops}
use Rattle.machine_model.specs.Instructions.{act}
use Rattle.machine_model.specs.declared.answers.Verdict.{Verdict}
use Rattle.machine_model.specs.declared.answers.Verdict.TheVariants.{ToBus, ToSystem, Refused, Bad}
use Rattle.machine_model.specs.declared.answers.Verdicts.{Verdicts}
use Rattle.machine_model.specs.declared.answers.Verdicts.TheVariants.{AllGood, RefusedAt, BadOne}
use Rattle.machine_model.specs.Tests.{verdict, verdicts, all_open}
use Rattle.machine_model.specs.Exceptions.{stacked_words, mem_manage, supervisor_call, entered, is_frame_open, call, is_fault_enabled, fault_by, is_thread, leaves, returns}
use Rattle.machine_model.specs.Perform.{loaded, after_load, stored, after_store, get_words, or_usage, after_loads, after_stores, jumped, exchanged, perform}
use Rattle.machine_model.specs.declared.answers.Fetched.{Fetched}
use Rattle.machine_model.specs.declared.answers.Fetched.TheVariants.{Took, NotAllowed, NotMapped}
use Rattle.machine_model.specs.Step.{fetch, performed, fetched, running, turn}

module _ (j : PermissionTest) (i : Image) (s : State) where
  abbrev pub Tells : Turn → Type 0
  Tells t = (e : Event) → t.event ≡ Some e → e.compartment ≡ compartment_of i s.ram

  entered_tells : (is_open : Bool) (n ret : ℕ) (t : FaultStatus) → Tells (entered is_open i n ret t s)
  entered_tells false n ret t e h = cc
  entered_tells true n ret t e h = cc

  call_tells : (handler : Bool) (next : ℕ) → Tells (call handler j i next s)
  call_tells true next e h = cc
  call_tells false next e h = entered_tells (is_frame_open j i s) supervisor_call next s.status e h

  fault_tells : (handler enabled : Bool) (t : FaultStatus) → Tells (fault_by handler enabled j i t s)
  fault_tells true en t e h = cc
  fault_tells false false t e h = cc
  fault_tells false true t e h = entered_tells (is_frame_open j i s) mem_manage s.core.pc t e h

  input_tells : (q : List ℕ) (k o w a : ℕ) (go : ℕ → CoreRegisters) → location i a ≡ InWindow k o → Tells (loaded (input q k o w) i w a s go)
  input_tells [] k o w a go is e h = cc
  input_tells (x ∷ xs) k o w a go is e h = ap (λ (v : Event). v.compartment) (sym (same_Some _ e h))

  loaded_tells : (l : Location) (w a : ℕ) (go : ℕ → CoreRegisters) → location i a ≡ l → Tells (loaded (load_at l i s.ram s.queues w) i w a s go)
  loaded_tells (InRam o) w a go is e h = cc
  loaded_tells (InFlash o) w a go is e h = cc
  loaded_tells (InWindow k o) w a go is e h = input_tells (queue s.queues k) k o w a go is e h
  loaded_tells Nowhere w a go is e h = cc

  load_tells : (v : Verdict) (w a : ℕ) (go : ℕ → CoreRegisters) → Tells (after_load v j i w a s go)
  load_tells ToBus w a go e h = loaded_tells (location i a) w a go refl e h
  load_tells ToSystem w a go e h = cc
  load_tells Refused w a go e h = fault_tells s.protection.handler (is_fault_enabled s.status) _ e h
  load_tells (Bad r) w a go e h = cc

  stored_tells : (l : Location) (w a v : ℕ) (c : CoreRegisters) → location i a ≡ l → Tells (stored (store_at l) i w a v s c)
  stored_tells (InRam o) w a v c is e h = cc
  stored_tells (InFlash o) w a v c is e h = cc
  stored_tells (InWindow k o) w a v c is e h = ap (λ (v : Event). v.compartment) (sym (same_Some _ e h))
  stored_tells Nowhere w a v c is e h = cc

  store_tells : (v : Verdict) (w a x : ℕ) (c : CoreRegisters) → Tells (after_store v j i w a x s c)
  store_tells ToBus w a x c e h = stored_tells (location i a) w a x c refl e h
  store_tells ToSystem w a x c e h = cc
  store_tells Refused w a x c e h = fault_tells s.protection.handler (is_fault_enabled s.status) _ e h
  store_tells (Bad r) w a x c e h = cc

  usage_tells : (o : Option CoreRegisters) (a n : ℕ) → Tells (or_usage o a n s)
  usage_tells None a n e h = cc
  usage_tells (Some c) a n e h = cc

  loads_tells : (v : Verdicts) (a n : ℕ) (go : List ℕ → Option CoreRegisters) → Tells (after_loads v j i a n s go)
  loads_tells AllGood a n go e h = usage_tells (go (get_words i a n s)) a n e h
  loads_tells (RefusedAt x) a n go e h = fault_tells s.protection.handler (is_fault_enabled s.status) _ e h
  loads_tells (BadOne r) a n go e h = cc

  stores_tells : (v : Verdicts) (a : ℕ) (vs : List ℕ) (c : CoreRegisters) → Tells (after_stores v j i a vs s c)
  stores_tells AllGood a vs c e h = cc
  stores_tells (RefusedAt x) a vs c e h = fault_tells s.protection.handler (is_fault_enabled s.status) _ e h
  stores_tells (BadOne r) a vs c e h = cc

  leaves_tells : (is_open thread psp : Bool) (a : ℕ) (ws : List ℕ) → Tells (leaves is_open thread psp a ws s)
  leaves_tells false t psp a ws e h = cc
  leaves_tells true false psp a ws e h = cc
  leaves_tells true true psp a ws e h = cc

  returns_tells : (psp : Bool) → Tells (returns j i psp s)
  returns_tells psp =
      let a : ℕ = choose psp s.core.other_sp s.core.sp in
      let ws : List ℕ = stacked_words i a 8 s.ram in
      leaves_tells (all_open j i (record s.protection { handler = false }) Read a 8) (is_thread (get_or ws 7 0)) psp a ws

  jumped_tells : (odd : Bool) (v : ℕ) → Tells (jumped odd v s)
  jumped_tells true v e h = cc
  jumped_tells false v e h = cc

  exchange_tells : (to_psp to_msp : Bool) (v : ℕ) → Tells (exchanged to_psp to_msp j i v s)
  exchange_tells true m v = returns_tells true
  exchange_tells false true v = returns_tells false
  exchange_tells false false v = jumped_tells _ v

  pub perform_tells : (x : Act) → Tells (perform j i x s)
  unfolding perform
  perform_tells (Changes c) e h = cc
  perform_tells (Loads w a go) e h = load_tells (verdict j s.protection Read w a) w a go e h
  perform_tells (Stores w a v c) e h = store_tells (verdict j s.protection Write w a) w a v c e h
  perform_tells (LoadsMany a n go) e h = loads_tells (verdicts j i s.protection Read a n) a n go e h
  perform_tells (StoresMany a vs c) e h = stores_tells (verdicts j i s.protection Write a (length vs)) a vs c e h
  perform_tells (GetsSpecial n d c) e h = cc
  perform_tells (SetsSpecial n v c) e h = cc
  perform_tells (Exchanges v) e h = exchange_tells _ _ v e h
  perform_tells (Calls next) e h = call_tells s.protection.handler next e h
  perform_tells (Halts n) e h = cc
  perform_tells (Stops r) e h = cc

  performed_tells : (o : Option Instr) (next : ℕ) → Tells (performed o j i next s)
  performed_tells None next e h = cc
  performed_tells (Some x) next e h = perform_tells (act x next s.core) e h

  fetched_tells : (f : Fetched) → Tells (fetched f j i s)
  fetched_tells (Took a b size) e h = performed_tells (decoded a b) (s.core.pc + size) e h
  fetched_tells NotAllowed e h = fault_tells s.protection.handler (is_fault_enabled s.status) _ e h
  fetched_tells NotMapped e h = cc

  running_tells : (o : Option End) → Tells (running o j i s)
  running_tells (Some x) e h = cc
  running_tells None e h = fetched_tells (fetch j i s) e h

pub turn_tells : (j : PermissionTest) (i : Image) (s : State) → Tells j i s (turn j i s)
unfolding turn
turn_tells j i s = running_tells j i s s.ending
