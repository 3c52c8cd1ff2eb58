-- What a step tells and fetches: an event is an access that the step lists, and a fetch that is not permitted faults.
use Rattle.std.proofs.Common.{◌≡◌, ℕ, ◌+◌, Bool, true, false, inl, List, [], ◌∷◌, length, Option, Some, None, nat_lt, refl, ap, ◌∙◌, subst}
use Rattle.std.proofs.Math.ListN.{get_or}
use Rattle.std.proofs.lemmas.Option.{same_Some}
use Rattle.machine_thumb.specs.declared.table.Instr.{Instr}
use Rattle.machine_thumb.specs.Decoded.{decoded}
use Rattle.machine_protection.specs.declared.region.Access.TheVariants.{Read, Write, Fetch}
use Rattle.base_events.specs.declared.event.Event.{Event}
use Rattle.machine_devices.specs.declared.image.Image.{Image}
use Rattle.machine_bus.specs.Locations.{Location, InRam, InFlash, InWindow, Nowhere, choose, location}
use Rattle.machine_bus.specs.Bus.{input, load_at, store_at, fetch_at}
use Rattle.machine_devices.specs.Input.{queue}
use Rattle.machine_model.specs.declared.state.CoreRegisters.{CoreRegisters}
use Rattle.machine_model.specs.declared.state.FaultStatus.{FaultStatus}
use Rattle.machine_model.specs.declared.state.End.{End}
use Rattle.machine_model.specs.Confinement.{AnyOf, ListsEvent, FetchesArePermitted}
use Rattle.machine_model.specs.State.{State, Touched, PermissionTest}
use Rattle.machine_model.specs.Act.{Act, Changes, Loads, Stores, LoadsMany, StoresMany, GetsSpecial, SetsSpecial, Exchanges, Calls, Halts, Stops}
use Rattle.machine_model.specs.Instructions.{act}
use Rattle.machine_model.specs.declared.answers.Verdict.{Verdict}
use Rattle.machine_model.specs.declared.answers.Verdict.TheVariants.{ToBus, ToSystem, Refused, Bad}
use Rattle.machine_model.specs.declared.answers.Verdicts.{Verdicts}
use Rattle.machine_model.specs.declared.answers.Verdicts.TheVariants.{AllGood, RefusedAt, BadOne}
use Rattle.machine_model.specs.Tests.{verdict, verdicts, all_open}
use Rattle.machine_model.specs.Exceptions.{stacked_words, mem_manage, supervisor_call, entered, is_frame_open, call, is_fault_enabled, fault_by, fetch_fault, is_thread, leaves, returns}
use Rattle.machine_model.specs.Perform.{loaded, after_load, stored, after_store, get_words, or_usage, after_loads, after_stores, jumped, exchanged, perform}
use Rattle.machine_model.specs.declared.answers.Fetched.{Fetched}
use Rattle.machine_model.specs.declared.answers.Fetched.TheVariants.{Took, NotAllowed, NotMapped}
use Rattle.machine_model.specs.Step.{by_size, first_half, fetch, performed, fetched, running, turn}

module _ (j : PermissionTest) (i : Image) (s : State) where
  entered_lists : (is_open : Bool) (n ret : ℕ) (t : FaultStatus) → ListsEvent i (entered is_open i n ret t s)
  entered_lists false n ret t e h = cc
  entered_lists true n ret t e h = cc

  call_lists : (handler : Bool) (next : ℕ) → ListsEvent i (call handler j i next s)
  call_lists true next e h = cc
  call_lists false next e h = entered_lists (is_frame_open j i s) supervisor_call next s.status e h

  fault_lists : (handler enabled : Bool) (t : FaultStatus) → ListsEvent i (fault_by handler enabled j i t s)
  fault_lists true en t e h = cc
  fault_lists false false t e h = cc
  fault_lists false true t e h = entered_lists (is_frame_open j i s) mem_manage s.core.pc t e h

  input_lists : (q : List ℕ) (k o w a : ℕ) (go : ℕ → CoreRegisters) → location i a ≡ InWindow k o → ListsEvent i (loaded (input q k o w) i w a s go)
  input_lists [] k o w a go is e h = cc
  input_lists (x ∷ xs) k o w a go is e h = subst (λ (v : Event). AnyOf (λ (y : Touched). (y.width ≡ v.width) × (location i y.address ≡ InWindow v.periph v.offset)) (choose v.write [] ((record { width = w; address = a }) ∷ []))) (same_Some _ e h) (inl (refl, is))

  loaded_lists : (l : Location) (w a : ℕ) (go : ℕ → CoreRegisters) → location i a ≡ l → ListsEvent i (loaded (load_at l i s.ram s.queues w) i w a s go)
  loaded_lists (InRam o) w a go is e h = cc
  loaded_lists (InFlash o) w a go is e h = cc
  loaded_lists (InWindow k o) w a go is e h = input_lists (queue s.queues k) k o w a go is e h
  loaded_lists Nowhere w a go is e h = cc

  load_lists : (v : Verdict) (w a : ℕ) (go : ℕ → CoreRegisters) → ListsEvent i (after_load v j i w a s go)
  load_lists ToBus w a go e h = loaded_lists (location i a) w a go refl e h
  load_lists ToSystem w a go e h = cc
  load_lists Refused w a go e h = fault_lists s.protection.handler (is_fault_enabled s.status) _ e h
  load_lists (Bad r) w a go e h = cc

  stored_lists : (l : Location) (w a v : ℕ) (c : CoreRegisters) → location i a ≡ l → ListsEvent i (stored (store_at l) i w a v s c)
  stored_lists (InRam o) w a v c is e h = cc
  stored_lists (InFlash o) w a v c is e h = cc
  stored_lists (InWindow k o) w a v c is e h = subst (λ (x : Event). AnyOf (λ (y : Touched). (y.width ≡ x.width) × (location i y.address ≡ InWindow x.periph x.offset)) (choose x.write ((record { width = w; address = a }) ∷ []) [])) (same_Some _ e h) (inl (refl, is))
  stored_lists Nowhere w a v c is e h = cc

  store_lists : (v : Verdict) (w a x : ℕ) (c : CoreRegisters) → ListsEvent i (after_store v j i w a x s c)
  store_lists ToBus w a x c e h = stored_lists (location i a) w a x c refl e h
  store_lists ToSystem w a x c e h = cc
  store_lists Refused w a x c e h = fault_lists s.protection.handler (is_fault_enabled s.status) _ e h
  store_lists (Bad r) w a x c e h = cc

  usage_lists : (o : Option CoreRegisters) (a n : ℕ) → ListsEvent i (or_usage o a n s)
  usage_lists None a n e h = cc
  usage_lists (Some c) a n e h = cc

  loads_lists : (v : Verdicts) (a n : ℕ) (go : List ℕ → Option CoreRegisters) → ListsEvent i (after_loads v j i a n s go)
  loads_lists AllGood a n go e h = usage_lists (go (get_words i a n s)) a n e h
  loads_lists (RefusedAt x) a n go e h = fault_lists s.protection.handler (is_fault_enabled s.status) _ e h
  loads_lists (BadOne r) a n go e h = cc

  stores_lists : (v : Verdicts) (a : ℕ) (vs : List ℕ) (c : CoreRegisters) → ListsEvent i (after_stores v j i a vs s c)
  stores_lists AllGood a vs c e h = cc
  stores_lists (RefusedAt x) a vs c e h = fault_lists s.protection.handler (is_fault_enabled s.status) _ e h
  stores_lists (BadOne r) a vs c e h = cc

  leaves_lists : (is_open thread psp : Bool) (a : ℕ) (ws : List ℕ) → ListsEvent i (leaves is_open thread psp a ws s)
  leaves_lists false t psp a ws e h = cc
  leaves_lists true false psp a ws e h = cc
  leaves_lists true true psp a ws e h = cc

  returns_lists : (psp : Bool) → ListsEvent i (returns j i psp s)
  returns_lists psp =
      let a : ℕ = choose psp s.core.other_sp s.core.sp in
      let ws : List ℕ = stacked_words i a 8 s.ram in
      leaves_lists (all_open j i (record s.protection { handler = false }) Read a 8) (is_thread (get_or ws 7 0)) psp a ws

  jumped_lists : (odd : Bool) (v : ℕ) → ListsEvent i (jumped odd v s)
  jumped_lists true v e h = cc
  jumped_lists false v e h = cc

  exchange_lists : (to_psp to_msp : Bool) (v : ℕ) → ListsEvent i (exchanged to_psp to_msp j i v s)
  exchange_lists true m v = returns_lists true
  exchange_lists false true v = returns_lists false
  exchange_lists false false v = jumped_lists _ v

  pub perform_lists : (x : Act) → ListsEvent i (perform j i x s)
  unfolding perform
  perform_lists (Changes c) e h = cc
  perform_lists (Loads w a go) e h = load_lists (verdict j s.protection Read w a) w a go e h
  perform_lists (Stores w a v c) e h = store_lists (verdict j s.protection Write w a) w a v c e h
  perform_lists (LoadsMany a n go) e h = loads_lists (verdicts j i s.protection Read a n) a n go e h
  perform_lists (StoresMany a vs c) e h = stores_lists (verdicts j i s.protection Write a (length vs)) a vs c e h
  perform_lists (GetsSpecial n d c) e h = cc
  perform_lists (SetsSpecial n v c) e h = cc
  perform_lists (Exchanges v) e h = exchange_lists _ _ v e h
  perform_lists (Calls next) e h = call_lists s.protection.handler next e h
  perform_lists (Halts n) e h = cc
  perform_lists (Stops r) e h = cc

  performed_lists : (o : Option Instr) (next : ℕ) → ListsEvent i (performed o j i next s)
  performed_lists None next e h = cc
  performed_lists (Some x) next e h = perform_lists (act x next s.core) e h

  fetched_lists : (f : Fetched) → ListsEvent i (fetched f j i s)
  fetched_lists (Took a b size) e h = performed_lists (decoded a b) (s.core.pc + size) e h
  fetched_lists NotAllowed e h = fault_lists s.protection.handler (is_fault_enabled s.status) _ e h
  fetched_lists NotMapped e h = cc

  running_lists : (o : Option End) → ListsEvent i (running o j i s)
  running_lists (Some x) e h = cc
  running_lists None e h = fetched_lists (fetch j i s) e h

pub turn_lists : (j : PermissionTest) (i : Image) (s : State) → ListsEvent i (turn j i s)
unfolding turn
turn_lists j i s = running_lists j i s s.ending

-- ---- fetches

pub first_refused : (j : PermissionTest) (i : Image) (s : State) → s.ending ≡ None → j s.protection Fetch s.core.pc ≡ false → turn j i s ≡ fetch_fault j i s
unfolding turn fetch
first_refused j i s live may =
    ap (λ o. running o j i s) live
    ∙ ap (λ x. fetched (first_half x (fetch_at (location i s.core.pc) i s.ram) (j s.protection Fetch (s.core.pc + 2)) (fetch_at (location i (s.core.pc + 2)) i s.ram)) j i s) may

pub second_refused : (j : PermissionTest) (i : Image) (s : State) (h : ℕ) → s.ending ≡ None → j s.protection Fetch s.core.pc ≡ true → fetch_at (location i s.core.pc) i s.ram ≡ Some h → nat_lt h 0xE800 ≡ false → j s.protection Fetch (s.core.pc + 2) ≡ false → turn j i s ≡ fetch_fault j i s
unfolding turn fetch
second_refused j i s h live first is long may =
    let k : Option ℕ = fetch_at (location i (s.core.pc + 2)) i s.ram in
    let al : Bool = j s.protection Fetch (s.core.pc + 2) in
    ap (λ o. running o j i s) live
    ∙ ap (λ x. fetched (first_half x (fetch_at (location i s.core.pc) i s.ram) al k) j i s) first
    ∙ ap (λ o. fetched (first_half true o al k) j i s) is
    ∙ ap (λ b. fetched (by_size b al k h) j i s) long
    ∙ ap (λ x. fetched (by_size false x k h) j i s) may

pub fetches_permitted : (j : PermissionTest) (i : Image) (s : State) → s.ending ≡ None → FetchesArePermitted j i s
fetches_permitted j i s live = record {
  first = λ may. first_refused j i s live may;
  second = λ h first is long may. second_refused j i s h live first is long may;
}
