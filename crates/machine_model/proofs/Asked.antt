-- What the turn of an instruction stores and loads, by what it asks for.
use Rattle.std.specs.Prelude.{if◌then◌else◌}
use Rattle.std.proofs.Common.{◌≡◌, ℕ, ◌+◌, Bool, true, false, inl, inr, List, [], length, Option, Some, None, nat_eq, refl, sym, ap, ◌∙◌, subst}
use Rattle.machine_protection.specs.declared.region.Access.TheVariants.{Read, Write}
use Rattle.machine_devices.specs.declared.image.Image.{Image}
use Rattle.machine_bus.specs.declared.answer.Loaded.{Loaded}
use Rattle.machine_bus.specs.declared.answer.Loaded.TheVariants.{Value, Device, NoInput, Unmapped}
use Rattle.machine_bus.specs.Locations.{Location, InRam, InFlash, InWindow, Nowhere, location}
use Rattle.machine_bus.specs.Bus.{load_at, store_at}
use Rattle.machine_model.specs.declared.state.CoreRegisters.{CoreRegisters}
use Rattle.machine_model.specs.State.{State, Turn, PermissionTest, is_unprivileged, with_core}
use Rattle.machine_model.specs.Act.{Act, Changes, Loads, Stores, LoadsMany, StoresMany, GetsSpecial, SetsSpecial, Exchanges, Calls, Halts, Stops}
use Rattle.machine_model.specs.Instructions.{act}
use Rattle.machine_model.specs.System.{write_special}
use Rattle.machine_model.specs.declared.answers.Verdict.{Verdict}
use Rattle.machine_model.specs.declared.answers.Verdict.TheVariants.{ToBus, ToSystem, Refused, Bad}
use Rattle.machine_model.specs.declared.answers.Verdicts.{Verdicts}
use Rattle.machine_model.specs.declared.answers.Verdicts.TheVariants.{AllGood, RefusedAt, BadOne}
use Rattle.machine_model.specs.Tests.{verdict, verdicts}
use Rattle.machine_model.specs.Exceptions.{words_from, mem_manage, supervisor_call, entered, is_frame_open, call, is_fault_enabled, fault_by, data_fault, leaves, data_status}
use Rattle.machine_model.specs.Perform.{loaded, after_load, stored, after_store, get_words, or_usage, after_loads, after_stores, jumped, exchanged, perform}
use Rattle.machine_model.specs.Step.{performed, fetched, running, turn}
use Rattle.machine_model.specs.Asked.{frame_loads, asked_loads, RefusesFirst, DoesAct, Stopped, Completed, Called, Faulted, TakenActsAreDone, StandingActsAreDone}
use Rattle.machine_model.specs.Code.{size, live}
use Rattle.machine_model.proofs.Exec.{stepped}
use Rattle.machine_model.proofs.Tested.{verdict_refused, first_refused_word}
use Rattle.machine_model.proofs.Ends.{put_ending}

-- ---- the turn

module _ (j : PermissionTest) (i : Image) (s : State) where
  faulted : (x : Act) (y : ℕ) → RefusesFirst j i s x y → (handler enabled : Bool) → s.protection.handler ≡ handler → is_fault_enabled s.status ≡ enabled →
      DoesAct j i s x (fault_by handler enabled j i (data_status y s.status) s)
  faulted x y f true e h g = Stopped _ refl
  faulted x y f false false h g = Stopped _ refl
  faulted x y f false true h g = by (is_frame_open j i s) refl
    where
      by : (b : Bool) → is_frame_open j i s ≡ b → DoesAct j i s x (entered b i mem_manage s.core.pc (data_status y s.status) s)
      by false e = Stopped _ refl
      by true e = Faulted y f h g e refl

  fault_done : (x : Act) (y : ℕ) → RefusesFirst j i s x y → DoesAct j i s x (data_fault j i y s)
  fault_done x y f = faulted x y f s.protection.handler (is_fault_enabled s.status) refl refl

  called : (next : ℕ) (handler : Bool) → s.protection.handler ≡ handler → DoesAct j i s (Calls next) (call handler j i next s)
  called next true h = Stopped _ refl
  called next false h = by (is_frame_open j i s) refl
    where
      by : (b : Bool) → is_frame_open j i s ≡ b → DoesAct j i s (Calls next) (entered b i supervisor_call next s.status s)
      by false e = Stopped _ refl
      by true e = Called next refl h e refl

  module _ (w a : ℕ) (go : ℕ → CoreRegisters) where
    loaded_done : (l : Loaded) → DoesAct j i s (Loads w a go) (loaded l i w a s go)
    loaded_done (Value v) = Completed refl refl refl
    loaded_done (Device k o v) = Completed refl refl refl
    loaded_done NoInput = Stopped _ refl
    loaded_done Unmapped = Stopped _ refl

    load_done : (v : Verdict) → verdict j s.protection Read w a ≡ v → DoesAct j i s (Loads w a go) (after_load v j i w a s go)
    load_done ToBus e = loaded_done (load_at (location i a) i s.ram s.queues w)
    load_done ToSystem e = Completed refl refl refl
    load_done Refused e = fault_done (Loads w a go) a (inl (inl (refl, verdict_refused j s.protection Read w a e)))
    load_done (Bad r) e = Stopped _ refl

  module _ (w a x : ℕ) (c : CoreRegisters) where
    stored_done : (l : Location) → DoesAct j i s (Stores w a x c) (stored (store_at l) i w a x s c)
    stored_done (InRam o) = Completed refl refl refl
    stored_done (InFlash o) = Stopped _ refl
    stored_done (InWindow k o) = Completed refl refl refl
    stored_done Nowhere = Stopped _ refl

    store_done : (v : Verdict) → verdict j s.protection Write w a ≡ v → DoesAct j i s (Stores w a x c) (after_store v j i w a x s c)
    store_done ToBus e = stored_done (location i a)
    store_done ToSystem e = Completed refl refl refl
    store_done Refused e = fault_done (Stores w a x c) a (inr (inl (refl, verdict_refused j s.protection Write w a e)))
    store_done (Bad r) e = Stopped _ refl

  module _ (a n : ℕ) (go : List ℕ → Option CoreRegisters) where
    usage_done : (o : Option CoreRegisters) → DoesAct j i s (LoadsMany a n go) (or_usage o a n s)
    usage_done None = Stopped _ refl
    usage_done (Some c) = Completed refl refl refl

    loads_done : (v : Verdicts) → verdicts j i s.protection Read a n ≡ v → DoesAct j i s (LoadsMany a n go) (after_loads v j i a n s go)
    loads_done AllGood e = usage_done (go (get_words i a n s))
    loads_done (RefusedAt y) e = fault_done (LoadsMany a n go) y (inl (first_refused_word j i s.protection Read n a y e))
    loads_done (BadOne r) e = Stopped _ refl

  stores_done : (a : ℕ) (vs : List ℕ) (c : CoreRegisters) (v : Verdicts) → verdicts j i s.protection Write a (length vs) ≡ v →
      DoesAct j i s (StoresMany a vs c) (after_stores v j i a vs s c)
  stores_done a vs c AllGood e = Completed refl refl (put_ending vs i a (with_core s c))
  stores_done a vs c (RefusedAt y) e = fault_done (StoresMany a vs c) y (inr (first_refused_word j i s.protection Write (length vs) a y e))
  stores_done a vs c (BadOne r) e = Stopped _ refl

  if_ends : (b : Bool) (x y : State) → x.ending ≡ s.ending → y.ending ≡ s.ending → (if b then x else y).ending ≡ s.ending
  if_ends true x y h g = h
  if_ends false x y h g = g

  special_ends : (unprivileged : Bool) (n v : ℕ) (c : CoreRegisters) → (write_special unprivileged n v s c).ending ≡ s.ending
  special_ends true n v c = refl
  special_ends false n v c = if_ends (nat_eq n 20) _ _ refl refl

  module _ (v : ℕ) where
    leaves_done : (is_open thread psp : Bool) (a : ℕ) (ws : List ℕ) → words_from a 8 ≡ asked_loads s (Exchanges v) → DoesAct j i s (Exchanges v) (leaves is_open thread psp a ws s)
    leaves_done false th psp a ws e = Stopped _ refl
    leaves_done true false psp a ws e = Stopped _ refl
    leaves_done true true psp a ws e = Completed refl e refl

    jumped_done : (odd : Bool) → [] ≡ asked_loads s (Exchanges v) → DoesAct j i s (Exchanges v) (jumped odd v s)
    jumped_done true e = Completed refl e refl
    jumped_done false e = Stopped _ refl

    exchange_done : (to_psp to_msp : Bool) → frame_loads to_psp to_msp s.core ≡ asked_loads s (Exchanges v) → DoesAct j i s (Exchanges v) (exchanged to_psp to_msp j i v s)
    exchange_done true m e = leaves_done _ _ true _ _ e
    exchange_done false true e = leaves_done _ _ false _ _ e
    exchange_done false false e = jumped_done _ e

  perform_done : (x : Act) → DoesAct j i s x (perform j i x s)
  unfolding perform
  perform_done (Changes c) = Completed refl refl refl
  perform_done (Loads w a go) = load_done w a go (verdict j s.protection Read w a) refl
  perform_done (Stores w a v c) = store_done w a v c (verdict j s.protection Write w a) refl
  perform_done (LoadsMany a n go) = loads_done a n go (verdicts j i s.protection Read a n) refl
  perform_done (StoresMany a vs c) = stores_done a vs c (verdicts j i s.protection Write a (length vs)) refl
  perform_done (GetsSpecial n d c) = Completed refl refl refl
  perform_done (SetsSpecial n v c) = Completed refl refl (special_ends (is_unprivileged s.protection) n v c)
  perform_done (Exchanges v) = exchange_done v _ _ refl
  perform_done (Calls next) = called next s.protection.handler refl
  perform_done (Halts n) = Stopped _ refl
  perform_done (Stops r) = Stopped _ refl

pub taken_done : TakenActsAreDone
unfolding turn
taken_done j i s x next live t =
    let m = t.is_next in
    let d = t.decodes in
    let e : turn j i s ≡ perform j i (act x next s.core) s =
    ap (λ o. running o j i s) live
    ∙ ap (λ f. fetched f j i s) t.took
    ∙ ap (λ o. performed o j i (s.core.pc + t.count) s) d
    ∙ ap (λ n. perform j i (act x n s.core) s) (sym m) in
    subst (λ (u : Turn). DoesAct j i s (act x next s.core) u) (sym e) (perform_done j i s (act x next s.core))

pub standing_done : StandingActsAreDone
standing_done j i c p t ram queues x h =
    subst (λ (u : Turn). DoesAct j i (live c p t ram queues) (act x (c.pc + size x) c) u) (sym (stepped j i c p t ram queues x h)) (perform_done j i (live c p t ram queues) (act x (c.pc + size x) c))
