-- Where every access is permitted, protection makes no difference.
use Rattle.std.proofs.Common.{◌≡◌, ℕ, zero, suc, ◌+◌, ◌%◌, Bool, true, false, ◌&&◌, List, length, Option, Some, None, nat_eq, nat_lt, refl, ap, ◌∙◌}
use Rattle.std.proofs.lemmas.Bool.{eqb-true}
use Rattle.std.proofs.Math.ListN.{get_or}
use Rattle.base_words.specs.Arithmetic.{word}
use Rattle.machine_thumb.specs.declared.table.Instr.{Instr}
use Rattle.machine_thumb.specs.Decoded.{decoded}
use Rattle.machine_protection.specs.declared.region.Access.{Access}
use Rattle.machine_protection.specs.declared.region.Access.TheVariants.{Read, Write, Fetch}
use Rattle.machine_devices.specs.declared.image.Image.{Image}
use Rattle.machine_bus.specs.Locations.{location, is_memory, choose}
use Rattle.machine_bus.specs.Bus.{fetch_at}
use Rattle.machine_model.specs.declared.state.CoreRegisters.{CoreRegisters}
use Rattle.machine_model.specs.declared.state.ProtectionState.{ProtectionState}
use Rattle.machine_model.specs.declared.state.End.{End}
use Rattle.machine_model.specs.State.{State, PermissionTest, is_unprivileged}
use Rattle.machine_model.specs.Act.{Act, Changes, Loads, Stores, LoadsMany, StoresMany, GetsSpecial, SetsSpecial, Exchanges, Calls, Halts, Stops}
use Rattle.machine_model.specs.Instructions.{act}
use Rattle.machine_model.specs.System.{in_system, is_system_register}
use Rattle.machine_model.specs.declared.answers.Verdicts.{Verdicts}
use Rattle.machine_model.specs.declared.answers.Verdicts.TheVariants.{AllGood, RefusedAt, BadOne}
use Rattle.machine_model.specs.Tests.{tested, verdict, and_then, verdicts, all_open}
use Rattle.machine_model.specs.Exceptions.{stacked_words, frame_at, supervisor_call, entered, call, is_thread, leaves, returns, return_on_psp, return_on_msp}
use Rattle.machine_model.specs.Perform.{after_load, after_store, after_loads, after_stores, exchanged, perform}
use Rattle.machine_model.specs.declared.answers.Fetched.{Fetched}
use Rattle.machine_model.specs.declared.answers.Fetched.TheVariants.{Took, NotAllowed, NotMapped}
use Rattle.machine_model.specs.Step.{second_half, by_size, first_half, fetch, performed, fetched, running, turn}
use Rattle.machine_model.specs.AccessLaw.{free, AreAllowed, IsAllowed, IsStepAllowed}

-- ---- one access

same_verdict : (j : PermissionTest) (p : ProtectionState) (kind : Access) (w a : ℕ) → j p kind a ≡ true → verdict j p kind w a ≡ verdict free p kind w a
unfolding verdict
same_verdict j p kind w a may = rw may

-- a test that allows everything refuses nothing, so whose test comes after it does not matter
module _ (j : PermissionTest) (i : Image) (w a : ℕ) (s : State) where
  load_tested : (aligned system unprivileged register : Bool) (go : ℕ → CoreRegisters) → after_load (tested aligned system unprivileged register true) j i w a s go ≡ after_load (tested aligned system unprivileged register true) free i w a s go
  load_tested false sy u r go = refl
  load_tested true true true r go = refl
  load_tested true true false true go = refl
  load_tested true true false false go = refl
  load_tested true false u r go = refl

  load_free : (go : ℕ → CoreRegisters) → after_load (verdict free s.protection Read w a) j i w a s go ≡ after_load (verdict free s.protection Read w a) free i w a s go
  unfolding verdict
  load_free go = load_tested (nat_eq (a % w) 0) (in_system a) (is_unprivileged s.protection) (nat_eq w 4 && is_system_register a) go

  store_tested : (aligned system unprivileged register : Bool) (v : ℕ) (c : CoreRegisters) → after_store (tested aligned system unprivileged register true) j i w a v s c ≡ after_store (tested aligned system unprivileged register true) free i w a v s c
  store_tested false sy u r v c = refl
  store_tested true true true r v c = refl
  store_tested true true false true v c = refl
  store_tested true true false false v c = refl
  store_tested true false u r v c = refl

  store_free : (v : ℕ) (c : CoreRegisters) → after_store (verdict free s.protection Write w a) j i w a v s c ≡ after_store (verdict free s.protection Write w a) free i w a v s c
  unfolding verdict
  store_free v c = store_tested (nat_eq (a % w) 0) (in_system a) (is_unprivileged s.protection) (nat_eq w 4 && is_system_register a) v c

-- ---- several words

abbrev NotRefused : Verdicts → Type 0
NotRefused AllGood = Unit {0}
NotRefused (RefusedAt a) = ⊥
NotRefused (BadOne r) = Unit {0}

tested_not : (aligned system unprivileged register memory : Bool) (a : ℕ) (vs : Verdicts) → NotRefused vs → NotRefused (and_then (tested aligned system unprivileged register true) memory a vs)
tested_not false sy u r m a vs h = tt
tested_not true true true r m a vs h = tt
tested_not true true false true m a vs h = h
tested_not true true false false m a vs h = tt
tested_not true false u r true a vs h = h
tested_not true false u r false a vs h = tt

never_refused : (i : Image) (p : ProtectionState) (kind : Access) (n a : ℕ) → NotRefused (verdicts free i p kind a n)
unfolding verdicts verdict
never_refused i p kind zero a = tt
never_refused i p kind (suc n) a =
    tested_not (nat_eq (a % 4) 0) (in_system a) (is_unprivileged p) (is_system_register a) (is_memory kind (location i a)) a
    (verdicts free i p kind (word (a + 4)) n) (never_refused i p kind n (word (a + 4)))

pub same_verdicts : (j : PermissionTest) (i : Image) (p : ProtectionState) (kind : Access) (n a : ℕ) → AreAllowed j p kind a n → verdicts j i p kind a n ≡ verdicts free i p kind a n
unfolding verdicts
same_verdicts j i p kind zero a may = refl
same_verdicts j i p kind (suc n) a may =
    let e = same_verdict j p kind 4 a may.0 in
    let f = same_verdicts j i p kind n (word (a + 4)) may.1 in
    rw (e, f)

pub same_open : (j : PermissionTest) (i : Image) (p : ProtectionState) (kind : Access) (n a : ℕ) → AreAllowed j p kind a n → all_open j i p kind a n ≡ all_open free i p kind a n
unfolding all_open
same_open j i p kind zero a may = refl
same_open j i p kind (suc n) a may =
    let e : j p kind a ≡ true = may.0 in
    let f = same_open j i p kind n (word (a + 4)) may.1 in
    rw (e, f)

loads_same : (v : Verdicts) (j : PermissionTest) (i : Image) (a n : ℕ) (s : State) (go : List ℕ → Option CoreRegisters) → NotRefused v → after_loads v j i a n s go ≡ after_loads v free i a n s go
loads_same AllGood j i a n s go h = refl
loads_same (RefusedAt x) j i a n s go h = absurd h
loads_same (BadOne r) j i a n s go h = refl

stores_same : (v : Verdicts) (j : PermissionTest) (i : Image) (a : ℕ) (vs : List ℕ) (s : State) (c : CoreRegisters) → NotRefused v → after_stores v j i a vs s c ≡ after_stores v free i a vs s c
stores_same AllGood j i a vs s c h = refl
stores_same (RefusedAt x) j i a vs s c h = absurd h
stores_same (BadOne r) j i a vs s c h = refl

-- ---- exceptions

module _ (j : PermissionTest) (i : Image) (s : State) where
  call_same : (handler : Bool) (next : ℕ) → AreAllowed j s.protection Write (frame_at s.core.sp) 8 → call handler j i next s ≡ call handler free i next s
  call_same true next may = refl
  call_same false next may = ap (λ x. entered x i supervisor_call next s.status s) (same_open j i s.protection Write 8 (frame_at s.core.sp) may)

  -- the frame that is returned to may be read
  abbrev CanReturn : (psp : Bool) → Type 0
  CanReturn psp = AreAllowed j (record s.protection { handler = false }) Read (choose psp s.core.other_sp s.core.sp) 8

  returns_same : (psp : Bool) → CanReturn psp → returns j i psp s ≡ returns free i psp s
  returns_same psp may =
      let a : ℕ = choose psp s.core.other_sp s.core.sp in
      let ws : List ℕ = stacked_words i a 8 s.ram in
      ap (λ x. leaves x (is_thread (get_or ws 7 0)) psp a ws s) (same_open j i (record s.protection { handler = false }) Read 8 a may)

  exchange_same : (handler to_psp to_msp : Bool) (v : ℕ) → (handler ≡ true → to_psp ≡ true → CanReturn true) → (handler ≡ true → to_msp ≡ true → CanReturn false) → exchanged (handler && to_psp) (handler && to_msp) j i v s ≡ exchanged (handler && to_psp) (handler && to_msp) free i v s
  exchange_same false x y v p m = refl
  exchange_same true true y v p m = returns_same true (p refl refl)
  exchange_same true false true v p m = returns_same false (m refl refl)
  exchange_same true false false v p m = refl

-- ---- what an instruction asks for

-- the access law for one act
pub as_free : (j : PermissionTest) (i : Image) (x : Act) (s : State) → IsAllowed j s x → perform j i x s ≡ perform free i x s
unfolding perform
as_free j i (Changes c) s may = refl
as_free j i (Loads w a go) s may = ap (λ v. after_load v j i w a s go) (same_verdict j s.protection Read w a may) ∙ load_free j i w a s go
as_free j i (Stores w a v c) s may = ap (λ x. after_store x j i w a v s c) (same_verdict j s.protection Write w a may) ∙ store_free j i w a s v c
as_free j i (LoadsMany a n go) s may =
    ap (λ v. after_loads v j i a n s go) (same_verdicts j i s.protection Read n a may)
    ∙ loads_same (verdicts free i s.protection Read a n) j i a n s go (never_refused i s.protection Read n a)
as_free j i (StoresMany a vs c) s may =
    ap (λ x. after_stores x j i a vs s c) (same_verdicts j i s.protection Write (length vs) a may)
    ∙ stores_same (verdicts free i s.protection Write a (length vs)) j i a vs s c (never_refused i s.protection Write (length vs) a)
as_free j i (GetsSpecial n d c) s may = refl
as_free j i (SetsSpecial n v c) s may = refl
as_free j i (Exchanges v) s may =
    exchange_same j i s s.protection.handler (nat_eq v return_on_psp) (nat_eq v return_on_msp) v
    (λ h e. may true (h, eqb-true v return_on_psp e))
    (λ h e. may false (h, eqb-true v return_on_msp e))
as_free j i (Calls next) s may = call_same j i s s.protection.handler next may
as_free j i (Halts n) s may = refl
as_free j i (Stops r) s may = refl

-- ---- a step

size_free : (is_short allowed : Bool) (k : Option ℕ) (h : ℕ) → (is_short ≡ false → allowed ≡ true) → by_size is_short allowed k h ≡ by_size is_short true k h
size_free true al k h may = refl
size_free false al k h may = ap (λ x. second_half x k h) (may refl)

halves_free : (o k : Option ℕ) (allowed : Bool) → ((h : ℕ) → o ≡ Some h → nat_lt h 0xE800 ≡ false → allowed ≡ true) → first_half true o allowed k ≡ first_half true o true k
halves_free None k al may = refl
halves_free (Some h) k al may = size_free (nat_lt h 0xE800) al k h (may h refl)

pub fetch_free : (j : PermissionTest) (i : Image) (s : State) → IsStepAllowed j i s → fetch j i s ≡ fetch free i s
unfolding fetch
fetch_free j i s may =
    let first : j s.protection Fetch s.core.pc ≡ true = may.first in
    rw first (halves_free (fetch_at (location i s.core.pc) i s.ram) (fetch_at (location i (s.core.pc + 2)) i s.ram) (j s.protection Fetch (s.core.pc + 2)) may.second)

size_allowed : (is_short : Bool) (k : Option ℕ) (h : ℕ) → by_size is_short true k h ≡ NotAllowed → ⊥
size_allowed true k h e = cc
size_allowed false None h e = cc
size_allowed false (Some k) h e = cc

halves_allowed : (o k : Option ℕ) → first_half true o true k ≡ NotAllowed → ⊥
halves_allowed None k e = cc
halves_allowed (Some h) k e = size_allowed (nat_lt h 0xE800) k h e

fetch_allowed : (i : Image) (s : State) → fetch free i s ≡ NotAllowed → ⊥
unfolding fetch
fetch_allowed i s e = halves_allowed (fetch_at (location i s.core.pc) i s.ram) (fetch_at (location i (s.core.pc + 2)) i s.ram) e

module _ (j : PermissionTest) (i : Image) (s : State) where
  performed_free : (o : Option Instr) (next : ℕ) → ((x : Instr) → o ≡ Some x → IsAllowed j s (act x next s.core)) → performed o j i next s ≡ performed o free i next s
  performed_free None next may = refl
  performed_free (Some x) next may = as_free j i (act x next s.core) s (may x refl)

  fetched_free : (f : Fetched) → fetch free i s ≡ f → IsStepAllowed j i s → fetched f j i s ≡ fetched f free i s
  fetched_free (Took h k size) e may = performed_free (decoded h k) (s.core.pc + size) (λ x is. may.data_accesses h k size x e is)
  fetched_free NotAllowed e may = absurd (fetch_allowed i s e)
  fetched_free NotMapped e may = refl

  running_free : (o : Option End) → IsStepAllowed j i s → running o j i s ≡ running o free i s
  running_free (Some x) may = refl
  running_free None may = ap (λ f. fetched f j i s) (fetch_free j i s may) ∙ fetched_free (fetch free i s) refl may

-- the access law
pub turn_free : (j : PermissionTest) (i : Image) (s : State) → IsStepAllowed j i s → turn j i s ≡ turn free i s
unfolding turn
turn_free j i s may = running_free j i s s.ending may
