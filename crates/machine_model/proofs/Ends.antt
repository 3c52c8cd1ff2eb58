-- A step ends the machine and does nothing else, or leaves it running.
use Rattle.std.specs.Prelude.{if◌then◌else◌}
use Rattle.std.proofs.Common.{◌≡◌, ℕ, ◌+◌, ◌%◌, Bool, true, false, List, [], ◌∷◌, length, Option, Some, None, nat_eq, refl, ◌∙◌, inl, inr}
use Rattle.base_words.specs.Arithmetic.{word}
use Rattle.machine_thumb.specs.declared.table.Instr.{Instr}
use Rattle.machine_thumb.specs.Decoded.{decoded}
use Rattle.machine_protection.specs.declared.region.Access.TheVariants.{Read, Write}
use Rattle.machine_devices.specs.declared.image.Image.{Image}
use Rattle.machine_bus.specs.declared.answer.Loaded.{Loaded}
use Rattle.machine_bus.specs.declared.answer.Loaded.TheVariants.{Value, Device, NoInput, Unmapped}
use Rattle.machine_bus.specs.declared.answer.Stored.{Stored}
use Rattle.machine_bus.specs.declared.answer.Stored.TheVariants.{Done, Device as Taken, Unmapped as NotTaken}
use Rattle.machine_bus.specs.Locations.{location}
use Rattle.machine_bus.specs.Bus.{load_at, store_at}
use Rattle.machine_model.specs.declared.state.CoreRegisters.{CoreRegisters}
use Rattle.machine_model.specs.declared.state.FaultStatus.{FaultStatus}
use Rattle.machine_model.specs.declared.state.End.{End}
use Rattle.machine_model.specs.State.{State, PermissionTest, is_unprivileged, with_core}
use Rattle.machine_model.specs.Act.{Act, Changes, Loads, Stores, LoadsMany, StoresMany, GetsSpecial, SetsSpecial, Exchanges, Calls, Halts, Stops}
use Rattle.machine_model.specs.Instructions.{act}
use Rattle.machine_model.specs.System.{in_system, write_special}
use Rattle.machine_model.specs.declared.answers.Verdict.{Verdict}
use Rattle.machine_model.specs.declared.answers.Verdict.TheVariants.{ToBus, ToSystem, Refused, Bad}
use Rattle.machine_model.specs.declared.answers.Verdicts.{Verdicts}
use Rattle.machine_model.specs.declared.answers.Verdicts.TheVariants.{AllGood, RefusedAt, BadOne}
use Rattle.machine_model.specs.Tests.{verdict, verdicts}
use Rattle.machine_model.specs.Exceptions.{entered, call, fault_by, is_frame_open, is_fault_enabled, data_fault, fetch_fault, leaves, returns, mem_manage, supervisor_call}
use Rattle.machine_model.specs.Perform.{perform, loaded, stored, after_load, after_store, after_loads, after_stores, word_to, put_words, or_usage, exchanged, jumped}
use Rattle.machine_model.specs.declared.answers.Fetched.{Fetched}
use Rattle.machine_model.specs.declared.answers.Fetched.TheVariants.{Took, NotAllowed, NotMapped}
use Rattle.machine_model.specs.Step.{turn, fetch, performed, fetched, running}
use Rattle.machine_model.specs.Ends.{EndsOrGoesOn, StepsEndOrGoOn}

entered_ends : (b : Bool) (i : Image) (n ret : ℕ) (t : FaultStatus) (s : State) → EndsOrGoesOn s (entered b i n ret t s)
entered_ends false i n ret t s = inr (_, tt, refl)
entered_ends true i n ret t s = inl refl

call_ends : (b : Bool) (j : PermissionTest) (i : Image) (next : ℕ) (s : State) → EndsOrGoesOn s (call b j i next s)
call_ends true j i next s = inr (_, tt, refl)
call_ends false j i next s = entered_ends (is_frame_open j i s) i supervisor_call next s.status s

fault_ends : (b e : Bool) (j : PermissionTest) (i : Image) (t : FaultStatus) (s : State) → EndsOrGoesOn s (fault_by b e j i t s)
fault_ends true e j i t s = inr (_, tt, refl)
fault_ends false false j i t s = inr (_, tt, refl)
fault_ends false true j i t s = entered_ends (is_frame_open j i s) i mem_manage s.core.pc t s

data_fault_ends : (j : PermissionTest) (i : Image) (a : ℕ) (s : State) → EndsOrGoesOn s (data_fault j i a s)
data_fault_ends j i a s = fault_ends s.protection.handler (is_fault_enabled s.status) j i _ s

fetch_fault_ends : (j : PermissionTest) (i : Image) (s : State) → EndsOrGoesOn s (fetch_fault j i s)
fetch_fault_ends j i s = fault_ends s.protection.handler (is_fault_enabled s.status) j i _ s

leaves_ends : (o t psp : Bool) (a : ℕ) (ws : List ℕ) (s : State) → EndsOrGoesOn s (leaves o t psp a ws s)
leaves_ends false t psp a ws s = inr (_, tt, refl)
leaves_ends true false psp a ws s = inr (_, tt, refl)
leaves_ends true true psp a ws s = inl refl

returns_ends : (j : PermissionTest) (i : Image) (psp : Bool) (s : State) → EndsOrGoesOn s (returns j i psp s)
returns_ends j i psp s = leaves_ends _ _ psp _ _ s

loaded_ends : (l : Loaded) (i : Image) (w a : ℕ) (s : State) (go : ℕ → CoreRegisters) → EndsOrGoesOn s (loaded l i w a s go)
loaded_ends (Value v) i w a s go = inl refl
loaded_ends (Device k o v) i w a s go = inl refl
loaded_ends NoInput i w a s go = inr (_, tt, refl)
loaded_ends Unmapped i w a s go = inr (_, tt, refl)

after_load_ends : (v : Verdict) (j : PermissionTest) (i : Image) (w a : ℕ) (s : State) (go : ℕ → CoreRegisters) → EndsOrGoesOn s (after_load v j i w a s go)
after_load_ends ToBus j i w a s go = loaded_ends (load_at (location i a) i s.ram s.queues w) i w a s go
after_load_ends ToSystem j i w a s go = inl refl
after_load_ends Refused j i w a s go = data_fault_ends j i a s
after_load_ends (Bad r) j i w a s go = inr (_, tt, refl)

stored_ends : (l : Stored) (i : Image) (w a v : ℕ) (s : State) (c : CoreRegisters) → EndsOrGoesOn s (stored l i w a v s c)
stored_ends Done i w a v s c = inl refl
stored_ends (Taken k o) i w a v s c = inl refl
stored_ends NotTaken i w a v s c = inr (_, tt, refl)

after_store_ends : (d : Verdict) (j : PermissionTest) (i : Image) (w a v : ℕ) (s : State) (c : CoreRegisters) → EndsOrGoesOn s (after_store d j i w a v s c)
after_store_ends ToBus j i w a v s c = stored_ends (store_at (location i a)) i w a v s c
after_store_ends ToSystem j i w a v s c = inl refl
after_store_ends Refused j i w a v s c = data_fault_ends j i a s
after_store_ends (Bad r) j i w a v s c = inr (_, tt, refl)

or_usage_ends : (o : Option CoreRegisters) (a n : ℕ) (s : State) → EndsOrGoesOn s (or_usage o a n s)
or_usage_ends None a n s = inr (_, tt, refl)
or_usage_ends (Some c) a n s = inl refl

after_loads_ends : (v : Verdicts) (j : PermissionTest) (i : Image) (a n : ℕ) (s : State) (go : List ℕ → Option CoreRegisters) → EndsOrGoesOn s (after_loads v j i a n s go)
after_loads_ends AllGood j i a n s go = or_usage_ends _ a n s
after_loads_ends (RefusedAt x) j i a n s go = data_fault_ends j i x s
after_loads_ends (BadOne r) j i a n s go = inr (_, tt, refl)

word_to_ending : (b : Bool) (i : Image) (a v : ℕ) (s : State) → (word_to b i a v s).ending ≡ s.ending
word_to_ending true i a v s = refl
word_to_ending false i a v s = refl

pub put_ending : (vs : List ℕ) (i : Image) (a : ℕ) (s : State) → (put_words i a vs s).ending ≡ s.ending
unfolding put_words
put_ending [] i a s = refl
put_ending (v ∷ vs) i a s = put_ending vs i (word (a + 4)) (word_to (in_system a) i a v s) ∙ word_to_ending (in_system a) i a v s

after_stores_ends : (v : Verdicts) (j : PermissionTest) (i : Image) (a : ℕ) (vs : List ℕ) (s : State) (c : CoreRegisters) → EndsOrGoesOn s (after_stores v j i a vs s c)
after_stores_ends AllGood j i a vs s c = inl (put_ending vs i a (with_core s c))
after_stores_ends (RefusedAt x) j i a vs s c = data_fault_ends j i x s
after_stores_ends (BadOne r) j i a vs s c = inr (_, tt, refl)

if_ending : (b : Bool) (x y s : State) → x.ending ≡ s.ending → y.ending ≡ s.ending → (if b then x else y).ending ≡ s.ending
if_ending true x y s h g = h
if_ending false x y s h g = g

special_ending : (u : Bool) (n v : ℕ) (s : State) (c : CoreRegisters) → (write_special u n v s c).ending ≡ s.ending
special_ending true n v s c = refl
special_ending false n v s c = if_ending (nat_eq n 20) _ _ s refl refl

jumped_ends : (b : Bool) (v : ℕ) (s : State) → EndsOrGoesOn s (jumped b v s)
jumped_ends true v s = inl refl
jumped_ends false v s = inr (_, tt, refl)

exchanged_ends : (p m : Bool) (j : PermissionTest) (i : Image) (v : ℕ) (s : State) → EndsOrGoesOn s (exchanged p m j i v s)
exchanged_ends true m j i v s = returns_ends j i true s
exchanged_ends false true j i v s = returns_ends j i false s
exchanged_ends false false j i v s = jumped_ends (nat_eq (v % 2) 1) v s

perform_ends : (j : PermissionTest) (i : Image) (a : Act) (s : State) → EndsOrGoesOn s (perform j i a s)
unfolding perform
perform_ends j i (Changes c) s = inl refl
perform_ends j i (Loads w a go) s = after_load_ends (verdict j s.protection Read w a) j i w a s go
perform_ends j i (Stores w a v c) s = after_store_ends (verdict j s.protection Write w a) j i w a v s c
perform_ends j i (LoadsMany a n go) s = after_loads_ends (verdicts j i s.protection Read a n) j i a n s go
perform_ends j i (StoresMany a vs c) s = after_stores_ends (verdicts j i s.protection Write a (length vs)) j i a vs s c
perform_ends j i (GetsSpecial n d c) s = inl refl
perform_ends j i (SetsSpecial n v c) s = inl (special_ending (is_unprivileged s.protection) n v s c)
perform_ends j i (Exchanges v) s = exchanged_ends _ _ j i v s
perform_ends j i (Calls next) s = call_ends s.protection.handler j i next s
perform_ends j i (Halts n) s = inr (_, tt, refl)
perform_ends j i (Stops r) s = inr (_, tt, refl)

performed_ends : (o : Option Instr) (j : PermissionTest) (i : Image) (next : ℕ) (s : State) → EndsOrGoesOn s (performed o j i next s)
performed_ends None j i next s = inr (_, tt, refl)
performed_ends (Some x) j i next s = perform_ends j i (act x next s.core) s

fetched_ends : (f : Fetched) (j : PermissionTest) (i : Image) (s : State) → EndsOrGoesOn s (fetched f j i s)
fetched_ends (Took h k n) j i s = performed_ends (decoded h k) j i _ s
fetched_ends NotAllowed j i s = fetch_fault_ends j i s
fetched_ends NotMapped j i s = inr (_, tt, refl)

running_ends : (e : Option End) (j : PermissionTest) (i : Image) (s : State) → EndsOrGoesOn s (running e j i s)
running_ends (Some e) j i s = inl refl
running_ends None j i s = fetched_ends (fetch j i s) j i s

pub steps_end_or_go_on : StepsEndOrGoOn
unfolding turn
steps_end_or_go_on j i s = running_ends s.ending j i s
