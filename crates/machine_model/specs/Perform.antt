-- How what an instruction asks for is done: the one location where data is accessed.
use Rattle.std.specs.Prelude.{ℕ, zero, suc, ◌+◌, ◌-◌, ◌%◌, List, [], ◌∷◌, length, Bool, true, false, ◌&&◌, Option, Some, None, nat_eq}
use Rattle.base_words.specs.Arithmetic.{word}
use Rattle.base_words.specs.Bytes.{cut}
use Rattle.machine_protection.specs.declared.region.Access.TheVariants.{Read, Write}
use Rattle.machine_devices.specs.declared.image.Image.{Image}
use Rattle.base_events.specs.declared.event.Event.{Event}
use Rattle.machine_bus.specs.declared.answer.Loaded.{Loaded}
use Rattle.machine_bus.specs.declared.answer.Loaded.TheVariants.{Value, Device, NoInput, Unmapped}
use Rattle.machine_bus.specs.declared.answer.Stored.{Stored}
use Rattle.machine_bus.specs.declared.answer.Stored.TheVariants.{Done, Device as Taken, Unmapped as NotTaken}
use Rattle.machine_bus.specs.Locations.{location}
use Rattle.machine_bus.specs.Bus.{load_at, store_at, put_at, word_at}
use Rattle.machine_bus.specs.Memory.{compartment_of}
use Rattle.machine_devices.specs.Input.{taken}
use Rattle.machine_model.specs.declared.state.CoreRegisters.{CoreRegisters}
use Rattle.machine_model.specs.declared.state.End.TheVariants.{Halt, InputEnd}
use Rattle.machine_model.specs.declared.state.StopReason.TheVariants.{Bus, Usage}
use Rattle.machine_model.specs.State.{State, Turn, PermissionTest, is_unprivileged, calm, ends, stops, with_core, at, with_register}
use Rattle.machine_model.specs.Act.{Act, Changes, Loads, Stores, LoadsMany, StoresMany, GetsSpecial, SetsSpecial, Exchanges, Calls, Halts, Stops}
use Rattle.machine_model.specs.System.{in_system, read_system, write_system, read_special, write_special}
use Rattle.machine_model.specs.declared.answers.Verdict.{Verdict}
use Rattle.machine_model.specs.declared.answers.Verdict.TheVariants.{ToBus, ToSystem, Refused, Bad}
use Rattle.machine_model.specs.declared.answers.Verdicts.{Verdicts}
use Rattle.machine_model.specs.declared.answers.Verdicts.TheVariants.{AllGood, RefusedAt, BadOne}
use Rattle.machine_model.specs.Tests.{verdict, verdicts}
use Rattle.machine_model.specs.Exceptions.{words_from, call, data_fault, returns, return_on_psp, return_on_msp}

abbrev pub did_load : (width address : ℕ) → State → Option Event → Turn
did_load w a s e = record { to = s; stores = []; loads = record { width = w; address = a } ∷ []; event = e }

abbrev pub did_store : (width address : ℕ) → State → Option Event → Turn
did_store w a s e = record { to = s; stores = record { width = w; address = a } ∷ []; loads = []; event = e }

-- a load that reached the bus
abbrev pub loaded : Loaded → Image → (width address : ℕ) → State → (ℕ → CoreRegisters) → Turn
loaded (Value v) i w a s go = did_load w a (with_core s (go v)) None
loaded (Device k o v) i w a s go =
    did_load w a (record s { core = go v; queues = taken s.queues k })
    (Some (record { compartment = compartment_of i s.ram; periph = k; offset = o; width = w; write = false; value = v }))
loaded NoInput i w a s go = ends InputEnd s
loaded Unmapped i w a s go = stops Bus s

abbrev pub after_load : Verdict → PermissionTest → Image → (width address : ℕ) → State → (ℕ → CoreRegisters) → Turn
after_load ToBus j i w a s go = loaded (load_at (location i a) i s.ram s.queues w) i w a s go
after_load ToSystem j i w a s go = did_load w a (with_core s (go (read_system a s.protection s.status))) None
after_load Refused j i w a s go = data_fault j i a s
after_load (Bad r) j i w a s go = stops r s

-- a store that reached the bus
abbrev pub stored : Stored → Image → (width address value : ℕ) → State → CoreRegisters → Turn
stored Done i w a v s c = did_store w a (record s { core = c; ram = put_at (location i a) w v s.ram }) None
stored (Taken k o) i w a v s c =
    did_store w a (with_core s c)
    (Some (record { compartment = compartment_of i s.ram; periph = k; offset = o; width = w; write = true; value = cut w v }))
stored NotTaken i w a v s c = stops Bus s

abbrev pub after_store : Verdict → PermissionTest → Image → (width address value : ℕ) → State → CoreRegisters → Turn
after_store ToBus j i w a v s c = stored (store_at (location i a)) i w a v s c
after_store ToSystem j i w a v s c = did_store w a (write_system a v (with_core s c)) None
after_store Refused j i w a v s c = data_fault j i a s
after_store (Bad r) j i w a v s c = stops r s

-- several words, each from or to a system register or memory
abbrev pub word_from : (system : Bool) → Image → (address : ℕ) → State → ℕ
word_from true i a s = read_system a s.protection s.status
word_from false i a s = word_at (location i a) i s.ram

abbrev pub word_to : (system : Bool) → Image → (address value : ℕ) → State → State
word_to true i a v s = write_system a v s
word_to false i a v s = record s { ram = put_at (location i a) 4 v s.ram }

unfoldable pub get_words : Image → (address count : ℕ) → State → List ℕ
get_words i a zero s = []
get_words i a (suc n) s = word_from (in_system a) i a s ∷ get_words i (word (a + 4)) n s

unfoldable pub put_words : Image → (address : ℕ) → (values : List ℕ) → State → State
put_words i a [] s = s
put_words i a (v ∷ vs) s = put_words i (word (a + 4)) vs (word_to (in_system a) i a v s)

-- the registers after loads, or no proper branch
abbrev pub or_usage : Option CoreRegisters → (address count : ℕ) → State → Turn
or_usage None a n s = stops Usage s
or_usage (Some c) a n s = record { to = with_core s c; stores = []; loads = words_from a n; event = None }

abbrev pub after_loads : Verdicts → PermissionTest → Image → (address count : ℕ) → State → (List ℕ → Option CoreRegisters) → Turn
after_loads AllGood j i a n s go = or_usage (go (get_words i a n s)) a n s
after_loads (RefusedAt x) j i a n s go = data_fault j i x s
after_loads (BadOne r) j i a n s go = stops r s

abbrev pub after_stores : Verdicts → PermissionTest → Image → (address : ℕ) → (values : List ℕ) → State → CoreRegisters → Turn
after_stores AllGood j i a vs s c =
    record { to = put_words i a vs (with_core s c); stores = words_from a (length vs); loads = []; event = None }
after_stores (RefusedAt x) j i a vs s c = data_fault j i x s
after_stores (BadOne r) j i a vs s c = stops r s

-- BXWritePC: outside an exception return, bit 0 of the target is the Thumb state
abbrev pub jumped : (odd : Bool) → (target : ℕ) → State → Turn
jumped true v s = calm (with_core s (at s.core (v - 1)))
jumped false v s = stops Usage s

abbrev pub exchanged : (to_psp to_msp : Bool) → PermissionTest → Image → (target : ℕ) → State → Turn
exchanged true m j i v s = returns j i true s
exchanged false true j i v s = returns j i false s
exchanged false false j i v s = jumped (nat_eq (v % 2) 1) v s

unfoldable pub perform : PermissionTest → Image → Act → State → Turn
perform j i (Changes c) s = calm (with_core s c)
perform j i (Loads w a go) s = after_load (verdict j s.protection Read w a) j i w a s go
perform j i (Stores w a v c) s = after_store (verdict j s.protection Write w a) j i w a v s c
perform j i (LoadsMany a n go) s = after_loads (verdicts j i s.protection Read a n) j i a n s go
perform j i (StoresMany a vs c) s = after_stores (verdicts j i s.protection Write a (length vs)) j i a vs s c
perform j i (GetsSpecial n d c) s = calm (with_core s (with_register c d (read_special (is_unprivileged s.protection) n s)))
perform j i (SetsSpecial n v c) s = calm (write_special (is_unprivileged s.protection) n v s c)
perform j i (Exchanges v) s =
    exchanged (s.protection.handler && nat_eq v return_on_psp) (s.protection.handler && nat_eq v return_on_msp) j i v s
perform j i (Calls next) s = call s.protection.handler j i next s
perform j i (Halts n) s = ends (Halt n) s
perform j i (Stops r) s = stops r s
