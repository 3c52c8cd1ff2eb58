-- Any step is one of AnyStep.
use Rattle.std.specs.Prelude.{if◌then◌else◌}
use Rattle.std.proofs.Common.{◌≡◌, ℕ, ◌+◌, Bool, true, false, ◌⊎◌, inl, inr, ⊎_elim, List, [], ◌∷◌, length, Option, Some, None, nat_eq, refl, ap, ◌∙◌}
use Rattle.std.proofs.Math.ListN.{get_or}
use Rattle.base_words.specs.Arithmetic.{word}
use Rattle.machine_thumb.specs.declared.table.Instr.{Instr}
use Rattle.machine_thumb.specs.Decoded.{decoded}
use Rattle.machine_protection.specs.declared.region.Access.TheVariants.{Read, Write}
use Rattle.machine_bus.specs.declared.answer.Loaded.{Loaded}
use Rattle.machine_bus.specs.declared.answer.Loaded.TheVariants.{Value, Device, NoInput, Unmapped}
use Rattle.machine_devices.specs.declared.image.Image.{Image}
use Rattle.machine_bus.specs.Locations.{Location, InRam, InFlash, InWindow, Nowhere, location}
use Rattle.machine_bus.specs.Bus.{load_at, store_at, put_at}
use Rattle.machine_model.specs.declared.state.CoreRegisters.{CoreRegisters}
use Rattle.machine_model.specs.declared.state.FaultStatus.{FaultStatus}
use Rattle.machine_model.specs.declared.state.End.{End}
use Rattle.machine_model.specs.State.{State, Touched, PermissionTest, is_unprivileged, calm, with_core}
use Rattle.machine_model.specs.Act.{Act, Changes, Loads, Stores, LoadsMany, StoresMany, GetsSpecial, SetsSpecial, Exchanges, Calls, Halts, Stops}
use Rattle.machine_model.specs.Instructions.{act}
use Rattle.machine_model.specs.System.{in_system, write_special}
use Rattle.machine_model.specs.declared.answers.Verdict.{Verdict}
use Rattle.machine_model.specs.declared.answers.Verdict.TheVariants.{ToBus, ToSystem, Refused, Bad}
use Rattle.machine_model.specs.declared.answers.Verdicts.{Verdicts}
use Rattle.machine_model.specs.declared.answers.Verdicts.TheVariants.{AllGood, RefusedAt, BadOne}
use Rattle.machine_model.specs.Tests.{verdict, verdicts}
use Rattle.machine_model.specs.Exceptions.{words_from, mem_manage, supervisor_call, frame_at, frame_of, entered, is_frame_open, call, is_fault_enabled, fault_by, leaves}
use Rattle.machine_model.specs.Perform.{loaded, after_load, stored, after_store, word_to, put_words, get_words, or_usage, after_loads, after_stores, jumped, exchanged, perform}
use Rattle.machine_model.specs.declared.answers.Fetched.{Fetched}
use Rattle.machine_model.specs.declared.answers.Fetched.TheVariants.{Took, NotAllowed, NotMapped}
use Rattle.machine_model.specs.Step.{fetch, performed, fetched, running, turn}
use Rattle.machine_model.specs.Confinement.{AnyOf, Misses}
use Rattle.base_laws.specs.Lists.{Each}
use Rattle.machine_model.proofs.Tested.{put_kept, push_kept, verdict_to_system}
use Rattle.base_events.specs.declared.event.Event.{Event}
use Rattle.machine_model.specs.AnyStep.{AnyStep}

-- several words
put_ram : (i : Image) (vs : List ℕ) (a : ℕ) (s : State) (k : ℕ) → Each (Misses i k) (words_from a (length vs)) → get_or (put_words i a vs s).ram k 0 ≡ get_or s.ram k 0
unfolding put_words words_from
put_ram i [] a s k h = refl
put_ram i (v ∷ vs) a s k h = put_ram i vs (word (a + 4)) (word_to (in_system a) i a v s) k h.1 ∙ one (in_system a)
  where
    one : (b : Bool) → get_or (word_to b i a v s).ram k 0 ≡ get_or s.ram k 0
    one true = refl
    one false = put_kept (location i a) 4 v s.ram k h.0

abbrev InSpace : List Touched → Type 0
InSpace xs = AnyOf (λ (x : Touched). in_system x.address ≡ true) xs

-- those that are not in the system's space leave it
abbrev Leaves : State → State → Type 0
Leaves s t = (t.protection.mpu ≡ s.protection.mpu) × (t.status ≡ s.status)

put_space : (i : Image) (vs : List ℕ) (a : ℕ) (s : State) → Leaves s (put_words i a vs s) ⊎ InSpace (words_from a (length vs))
unfolding put_words words_from
put_space i [] a s = inl (refl, refl)
put_space i (v ∷ vs) a s = one (in_system a) refl (put_space i vs (word (a + 4)) (record s { ram = put_at (location i a) 4 v s.ram }))
  where
    one : (b : Bool) → in_system a ≡ b → Leaves s (put_words i (word (a + 4)) vs (record s { ram = put_at (location i a) 4 v s.ram })) ⊎ InSpace (words_from (word (a + 4)) (length vs)) → Leaves s (put_words i (word (a + 4)) vs (word_to b i a v s)) ⊎ InSpace (record { width = 4; address = a } ∷ words_from (word (a + 4)) (length vs))
    one true e r = inr (inl e)
    one false e r = ⊎_elim (λ l. inl l) (λ f. inr (inr f)) r

module _ (j : PermissionTest) (i : Image) (s : State) where
  still : (t : State) (loads : List Touched) (e : Option Event) → t.ram ≡ s.ram → t.protection.mpu ≡ s.protection.mpu → t.status ≡ s.status →
      AnyStep i s (record { to = t; stores = []; loads = loads; event = e })
  still t loads e r m u = record { ram = λ k h. ap (λ x. get_or x k 0) r; unit = inl m; status = inl u }

  entered_any : (is_open : Bool) (n ret : ℕ) (u : FaultStatus) → AnyStep i s (entered is_open i n ret u s)
  entered_any false n ret u = still _ _ _ refl refl refl
  entered_any true n ret u = record { ram = λ k h. push_kept i (frame_of s.core ret) (frame_at s.core.sp) s.ram k h; unit = inl refl; status = inr (inl refl) }

  call_any : (handler : Bool) (next : ℕ) → AnyStep i s (call handler j i next s)
  call_any true next = still _ _ _ refl refl refl
  call_any false next = entered_any (is_frame_open j i s) supervisor_call next s.status

  fault_any : (handler enabled : Bool) (u : FaultStatus) → AnyStep i s (fault_by handler enabled j i u s)
  fault_any true e u = still _ _ _ refl refl refl
  fault_any false false u = still _ _ _ refl refl refl
  fault_any false true u = entered_any (is_frame_open j i s) mem_manage s.core.pc u

  loaded_any : (l : Loaded) (w a : ℕ) (go : ℕ → CoreRegisters) → AnyStep i s (loaded l i w a s go)
  loaded_any (Value v) w a go = still _ _ _ refl refl refl
  loaded_any (Device k o v) w a go = still _ _ _ refl refl refl
  loaded_any NoInput w a go = still _ _ _ refl refl refl
  loaded_any Unmapped w a go = still _ _ _ refl refl refl

  load_any : (v : Verdict) (w a : ℕ) (go : ℕ → CoreRegisters) → AnyStep i s (after_load v j i w a s go)
  load_any ToBus w a go = loaded_any (load_at (location i a) i s.ram s.queues w) w a go
  load_any ToSystem w a go = still _ _ _ refl refl refl
  load_any Refused w a go = fault_any s.protection.handler (is_fault_enabled s.status) _
  load_any (Bad r) w a go = still _ _ _ refl refl refl

  stored_any : (l : Location) (w a v : ℕ) (c : CoreRegisters) → AnyStep i s (stored (store_at l) i w a v s c)
  stored_any (InRam o) w a v c = record { ram = λ k h. put_kept (location i a) w v s.ram k h.0; unit = inl refl; status = inl refl }
  stored_any (InFlash o) w a v c = still _ _ _ refl refl refl
  stored_any (InWindow k o) w a v c = record { ram = λ k h. refl; unit = inl refl; status = inl refl }
  stored_any Nowhere w a v c = still _ _ _ refl refl refl

  store_any : (v : Verdict) (w a x : ℕ) (c : CoreRegisters) → verdict j s.protection Write w a ≡ v → AnyStep i s (after_store v j i w a x s c)
  store_any ToBus w a x c e = stored_any (location i a) w a x c
  store_any ToSystem w a x c e = let y = (verdict_to_system j s.protection Write w a e).1.within in record { ram = λ k h. refl; unit = inr (inl y); status = inr (inr (inl y)) }
  store_any Refused w a x c e = fault_any s.protection.handler (is_fault_enabled s.status) _
  store_any (Bad r) w a x c e = still _ _ _ refl refl refl

  usage_any : (o : Option CoreRegisters) (a n : ℕ) → AnyStep i s (or_usage o a n s)
  usage_any None a n = still _ _ _ refl refl refl
  usage_any (Some c) a n = still _ _ _ refl refl refl

  loads_any : (v : Verdicts) (a n : ℕ) (go : List ℕ → Option CoreRegisters) → AnyStep i s (after_loads v j i a n s go)
  loads_any AllGood a n go = usage_any (go (get_words i a n s)) a n
  loads_any (RefusedAt x) a n go = fault_any s.protection.handler (is_fault_enabled s.status) _
  loads_any (BadOne r) a n go = still _ _ _ refl refl refl

  stores_any : (v : Verdicts) (a : ℕ) (vs : List ℕ) (c : CoreRegisters) → AnyStep i s (after_stores v j i a vs s c)
  stores_any AllGood a vs c =
      let f = put_space i vs a (with_core s c) in
      record {
        ram = λ k h. put_ram i vs a (with_core s c) k h;
        unit = ⊎_elim (λ l. inl l.0) (λ x. inr x) f;
        status = ⊎_elim (λ l. inl l.1) (λ x. inr (inr x)) f;
      }
  stores_any (RefusedAt x) a vs c = fault_any s.protection.handler (is_fault_enabled s.status) _
  stores_any (BadOne r) a vs c = still _ _ _ refl refl refl

  if_any : (b : Bool) (x y : State) → AnyStep i s (calm x) → AnyStep i s (calm y) → AnyStep i s (calm (if b then x else y))
  if_any true x y h g = h
  if_any false x y h g = g

  special_any : (unprivileged : Bool) (n v : ℕ) (c : CoreRegisters) → AnyStep i s (calm (write_special unprivileged n v s c))
  special_any true n v c = still _ _ _ refl refl refl
  special_any false n v c = if_any (nat_eq n 20) _ _ (still _ _ _ refl refl refl) (still _ _ _ refl refl refl)

  leaves_any : (is_open thread psp : Bool) (a : ℕ) (ws : List ℕ) → AnyStep i s (leaves is_open thread psp a ws s)
  leaves_any false th psp a ws = still _ _ _ refl refl refl
  leaves_any true false psp a ws = still _ _ _ refl refl refl
  leaves_any true true psp a ws = still _ _ _ refl refl refl

  jumped_any : (odd : Bool) (v : ℕ) → AnyStep i s (jumped odd v s)
  jumped_any true v = still _ _ _ refl refl refl
  jumped_any false v = still _ _ _ refl refl refl

  exchange_any : (to_psp to_msp : Bool) (v : ℕ) → AnyStep i s (exchanged to_psp to_msp j i v s)
  exchange_any true m v = leaves_any _ _ true _ _
  exchange_any false true v = leaves_any _ _ false _ _
  exchange_any false false v = jumped_any _ v

  perform_any : (x : Act) → AnyStep i s (perform j i x s)
  unfolding perform
  perform_any (Changes c) = still _ _ _ refl refl refl
  perform_any (Loads w a go) = load_any (verdict j s.protection Read w a) w a go
  perform_any (Stores w a v c) = store_any (verdict j s.protection Write w a) w a v c refl
  perform_any (LoadsMany a n go) = loads_any (verdicts j i s.protection Read a n) a n go
  perform_any (StoresMany a vs c) = stores_any (verdicts j i s.protection Write a (length vs)) a vs c
  perform_any (GetsSpecial n d c) = still _ _ _ refl refl refl
  perform_any (SetsSpecial n v c) = special_any (is_unprivileged s.protection) n v c
  perform_any (Exchanges v) = exchange_any _ _ v
  perform_any (Calls next) = call_any s.protection.handler next
  perform_any (Halts n) = still _ _ _ refl refl refl
  perform_any (Stops r) = still _ _ _ refl refl refl

  performed_any : (o : Option Instr) (next : ℕ) → AnyStep i s (performed o j i next s)
  performed_any None next = still _ _ _ refl refl refl
  performed_any (Some x) next = perform_any (act x next s.core)

  fetched_any : (f : Fetched) → AnyStep i s (fetched f j i s)
  fetched_any (Took h k n) = performed_any (decoded h k) (s.core.pc + n)
  fetched_any NotAllowed = fault_any s.protection.handler (is_fault_enabled s.status) _
  fetched_any NotMapped = still _ _ _ refl refl refl

  running_any : (o : Option End) → AnyStep i s (running o j i s)
  running_any (Some e) = still _ _ _ refl refl refl
  running_any None = fetched_any (fetch j i s)

  pub any_step : AnyStep i s (turn j i s)
  unfolding turn
  any_step = running_any s.ending
