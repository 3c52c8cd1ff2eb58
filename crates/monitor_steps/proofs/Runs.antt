-- The code of a list has its effect.
use Rattle.std.proofs.Common.{◌≡◌, ◌≢◌, ℕ, ℤ, pos, negsuc, zero, suc, ◌+◌, ◌-◌, ◌*◌, ◌/◌, ◌%◌, ◌^◌, ◌<◌, ◌≤◌, Bool, true, false, not, ◌&&◌, List, [], ◌∷◌, length, None, nat_eq, nat_lt, nat_le, get_or, set, refl, sym, ap, ◌∙◌, subst, arith, ⊎_elim, get_or-set_same}
use Rattle.std.proofs.lemmas.Int.{ints}
use Rattle.std.proofs.lemmas.Bool.{cases_lt, ltb-true, and_parts as both, not-true}
use Rattle.std.proofs.lemmas.List.{set-set}
use Rattle.std.proofs.lemmas.Bool.Decides.{nat_tests}
use Rattle.std.specs.Prelude.{bit_and, bit_or, if◌then◌else◌}
use Rattle.base_words.specs.declared.memory.Width.{Width}
use Rattle.base_words.specs.declared.memory.Width.TheVariants.{Byte, Half, Word}
use Rattle.base_words.specs.Width.{byte_count}
use Rattle.base_words.specs.Arithmetic.{moved, add, subtract, shift_left, shift_right, shifted_left_carry, shifted_right_carry}
use Rattle.base_words.specs.declared.conditions.Flags.{Flags}
use Rattle.base_words.specs.Flags.{holds, compare_flags, add_flags, result_flags}
use Rattle.base_words.specs.Bytes.{read, write}
use Rattle.base_words.specs.Runs.{run}
use Rattle.machine_thumb.specs.declared.table.Instr.{Instr}
use Rattle.machine_thumb.specs.declared.table.Instr.TheVariants.{AddSubRegister, DataImmediate, DataRegister, HighRegister, TransferImmediate, BreakpointNop, BranchConditional, BranchWide, MoveWide, MoveTop, SpecialRegister, Barrier}
use Rattle.machine_protection.specs.declared.region.Access.TheVariants.{Read, Write}
use Rattle.machine_devices.specs.declared.image.Image.{Image}
use Rattle.machine_devices.specs.Rules.{ObeysRules}
use Rattle.machine_bus.specs.Locations.{Location, InRam, InFlash, InWindow, Nowhere, location}
use Rattle.machine_model.specs.declared.state.CoreRegisters.{CoreRegisters}
use Rattle.machine_model.specs.declared.state.ProtectionState.{ProtectionState}
use Rattle.machine_model.specs.declared.state.FaultStatus.{FaultStatus}
use Rattle.machine_model.specs.declared.state.StopReason.{StopReason}
use Rattle.machine_model.specs.declared.state.StopReason.TheVariants.{Bus}
use Rattle.machine_model.specs.declared.state.End.TheVariants.{Halt as Ended, Stop}
use Rattle.machine_model.specs.declared.answers.Verdict.{Verdict}
use Rattle.machine_model.specs.declared.answers.Verdict.TheVariants.{ToBus, ToSystem, Refused, Bad}
use Rattle.machine_model.specs.declared.answers.Outcome.TheVariants.{Gives}
use Rattle.machine_model.specs.State.{State, Turn, Touched, PermissionTest, calm, ends, stops, is_unprivileged}
use Rattle.machine_model.specs.Act.{Act, Changes, GetsSpecial, SetsSpecial, Halts as HaltsAt}
use Rattle.machine_model.specs.Instructions.{act, load_into, store_from}
use Rattle.machine_model.specs.Tests.{verdict}
use Rattle.machine_model.specs.Perform.{perform, after_load as machine_load, after_store as machine_store, did_load, did_store}
use Rattle.machine_model.specs.Step.{turn}
use Rattle.machine_model.specs.Code.{size, Stands, live, next}
use Rattle.machine_model.specs.Shape.{StateFits, StepsKeepShape}
use Rattle.machine_model.specs.Events.{ended}
use Rattle.base_laws.specs.Lists.{Each}
use Rattle.machine_model.specs.RunningCode.{IsLoad, IsStore}
use Rattle.machine_model.proofs.Exec.{stepped}
use Rattle.machine_model.proofs.InstructionEffects.{register_low, with_register_low}
use Rattle.machine_model.proofs.Transfers.{loads_words, loads_halves, loads_bytes, stores_words, stores_halves, stores_bytes}
use Rattle.monitor_steps.specs.declared.steps.PrivilegedOp.{PrivilegedOp}
use Rattle.monitor_steps.specs.declared.steps.PrivilegedOp.TheVariants.{Add, Sub, And, Or, Shl, Shr}
use Rattle.monitor_steps.specs.declared.steps.PrivilegedCond.{PrivilegedCond}
use Rattle.monitor_steps.specs.declared.steps.PrivilegedCond.TheVariants.{Eq, Ult, Ule}
use Rattle.monitor_steps.specs.Steps.{PrivilegedSteps, End, Const, Copy, Load, Store, Alu, ReadPsp, WritePsp, WriteControl, Test, Repeat, Halt, Return, Go, names_low, is_low}
use Rattle.monitor_steps.specs.Core.{Core, core_of, low_register, with_low, with_ram, with_system, is_privileged_on_msp}
use Rattle.monitor_steps.specs.Accesses.{address_of, load_by, store_by}
use Rattle.monitor_steps.specs.Effect.{Outcome, Went, Halted, AtReturn, AtBranch, Stopped, Unclaimed, then_do, operation, compared, after_load, after_store, either, by_zero, after_control, with_one_less, turns, effect}
use Rattle.monitor_steps.specs.Code.{load_op, store_op, condition_number, by_moves, operation_code, two_address_length, operation_length, code_length, code}
use Rattle.monitor_steps.specs.Ticks.{load_ticks, store_ticks, then_ticks, either_ticks, zero_ticks, control_ticks, turn_ticks, ticks}
use Rattle.monitor_steps.specs.Safe.{Rule, OnValue, OnWritten, OnWent, Either, UnlessZero, OnControl, AreTurnsSafe, IsSafe}
use Rattle.monitor_steps.proofs.CodeParts.{operation_has_its_length, has_front, has_back, behind}
use Rattle.monitor_steps.specs.Runs.{Scratch, registers as registers_at, at as state_at, StandsWhileGood as AlwaysStands, HasCode as AlwaysHasCode, IsFine as StepIsFine, Leads as RunLeads, Shows as OutcomeShows, CodeHasEffect}

forward : (a n : ℕ) → a + n < 2 ^ 31 → moved a (pos n) ≡ a + n
forward a n h = omega (arith, ints)

backward : (a n b : ℕ) → a < 2 ^ 31 → b + suc n ≡ a → moved a (negsuc n) ≡ b
backward a n b h e = omega (arith, ints)

set_here : (xs : List ℕ) (k : ℕ) → set xs k (get_or xs k 0) ≡ xs
set_here [] k = refl
set_here (x ∷ xs) zero = refl
set_here (x ∷ xs) (suc k) = ap (λ l. x ∷ l) (set_here xs k)

swap_set : (m : List ℕ) (i j x y : ℕ) → i ≢ j → set (set m i x) j y ≡ set (set m j y) i x
swap_set [] i j x y h = refl
swap_set (a ∷ m) zero zero x y h = absurd (h refl)
swap_set (a ∷ m) zero (suc j) x y h = refl
swap_set (a ∷ m) (suc i) zero x y h = refl
swap_set (a ∷ m) (suc i) (suc j) x y h = ap (λ l. a ∷ l) (swap_set m i j x y (λ e. h (ap suc e)))

get_apart : (xs : List ℕ) (a b v : ℕ) → a ≢ b → get_or (set xs a v) b 0 ≡ get_or xs b 0
get_apart [] a b v h = refl
get_apart (x ∷ xs) zero zero v h = absurd (h refl)
get_apart (x ∷ xs) zero (suc b) v h = refl
get_apart (x ∷ xs) (suc a) zero v h = refl
get_apart (x ∷ xs) (suc a) (suc b) v h = get_apart xs a b v (λ e. h (ap suc e))

pub run_suc : (j : PermissionTest) (i : Image) (n : ℕ) (s : State) → run (next j i) (suc n) s ≡ run (next j i) n (next j i s)
unfolding run
run_suc j i n s = refl

pub run_none : (j : PermissionTest) (i : Image) (s : State) → run (next j i) 0 s ≡ s
unfolding run
run_none j i s = refl

run_add : (j : PermissionTest) (i : Image) (m n : ℕ) (s : State) → run (next j i) (m + n) s ≡ run (next j i) n (run (next j i) m s)
unfolding run
run_add j i zero n s = let e : 0 + n ≡ n = omega arith in ap (λ n. run (next j i) n s) e
run_add j i (suc m) n s =
    let e : suc m + n ≡ suc (m + n) = omega arith in
    ap (λ n. run (next j i) n s) e ∙ run_add j i m n (next j i s)

-- the step of an instruction that stands there and asks for this
acts : (j : PermissionTest) (i : Image) (c : CoreRegisters) (p : ProtectionState) (t : FaultStatus) (ram : List ℕ) (queues : List (List ℕ)) (y : Instr) (a : Act) →
    Stands j i p c.pc y → act y (c.pc + size y) c ≡ a → turn j i (live c p t ram queues) ≡ perform j i a (live c p t ram queues)
acts j i c p t ram queues y a h e = stepped j i c p t ram queues y h ∙ ap (λ b. perform j i b (live c p t ram queues)) e

-- the laws of the machine and of words that the theorem stands on
pub record Laws : Type 0 where
  pub keeps_shape : StepsKeepShape
  pub equal : (x y : ℕ) → x < 2 ^ 32 → y < 2 ^ 32 → holds 0 (compare_flags x y) ≡ nat_eq x y
  pub unequal : (x y : ℕ) → x < 2 ^ 32 → y < 2 ^ 32 → holds 1 (compare_flags x y) ≡ not (nat_eq x y)
  pub below : (x y : ℕ) → x < 2 ^ 32 → y < 2 ^ 32 → holds 3 (compare_flags x y) ≡ nat_lt x y
  pub at_most : (x y : ℕ) → x < 2 ^ 32 → y < 2 ^ 32 → holds 9 (compare_flags x y) ≡ nat_le x y

module _ (j : PermissionTest) (i : Image) (lr : ℕ) (queues : List (List ℕ)) (Good : ProtectionState → Type 0) (Allowed : Rule) where
  abbrev registers : ℕ → Scratch → Core → CoreRegisters
  registers pc x c = registers_at lr queues pc x c

  abbrev pub at : ℕ → Scratch → Core → State
  at pc x c = state_at lr queues pc x c

  abbrev StandsWhileGood : ℕ → Instr → Type 0
  StandsWhileGood pc y = AlwaysStands j i Good pc y

  abbrev pub HasCode : ℕ → List Instr → Type 0
  HasCode pc ys = AlwaysHasCode j i Good pc ys

  abbrev IsFine : State → Type 0
  IsFine s = StepIsFine j i Good Allowed s

  abbrev pub Leads : ℕ → State → (State → Type 0) → Type 0
  Leads n s P = RunLeads j i Good Allowed n s P

  abbrev pub Fits : State → Type 0
  Fits s = StateFits i s

  abbrev pub Shows : Outcome → ℕ → State → Type 0
  Shows o behind s = OutcomeShows j i Good lr queues o behind s

  abbrev pub Has : ℕ → ℕ → Scratch → Core → Outcome → ℕ → Type 0
  Has n pc x c o q = Leads n (at pc x c) (Shows o q)

  -- ---- steps one after another

  pub record Next (m m' : State) : Type 0 where
    pub fine : IsFine m
    pub leads : next j i m ≡ m'
    pub fits : Fits m'

  more : (n k : ℕ) (m : State) (P : State → Type 0) → n ≤ k → Leads n m P → Leads k m P
  more n k m P h l = record { steps = l.steps; within = omega (arith, l.within); holds = l.holds; each = l.each }

  none : (m : State) (P : State → Type 0) → P m → Leads 0 m P
  none m P h = record { steps = 0; within = omega arith; holds = subst P (sym (run_none j i m)) h; each = λ k lt. absurd (omega arith) }

  one_each : (m : State) → IsFine m → (k : ℕ) → k < 1 → IsFine (run (next j i) k m)
  one_each m f zero lt = subst IsFine (sym (run_none j i m)) f
  one_each m f (suc k) lt = absurd (omega arith)

  single : (m m' : State) (P : State → Type 0) → IsFine m → next j i m ≡ m' → P m' → Leads 1 m P
  single m m' P f e h = record {
    steps = 1;
    within = omega arith;
    holds = subst P (sym (run_suc j i 0 m ∙ run_none j i (next j i m) ∙ e)) h;
    each = one_each m f;
  }

  bind : (n k : ℕ) (m : State) (Q P : State → Type 0) → Leads n m Q → ((t : State) → Q t → Leads k t P) → Leads (n + k) m P
  bind n k m Q P l f = record {
    steps = l.steps + r.steps;
    within = omega (arith, l.within, r.within);
    holds = subst P (sym (run_add j i l.steps r.steps m)) r.holds;
    each = λ a lt. ⊎_elim (λ h. l.each a h) (λ h. later a h lt) (cases_lt a l.steps);
  }
    where
      r : Leads k (run (next j i) l.steps m) P
      r = f (run (next j i) l.steps m) l.holds

      later : (a : ℕ) → l.steps ≤ a → a < l.steps + r.steps → IsFine (run (next j i) a m)
      later a h lt =
          let q : a ≡ l.steps + (a - l.steps) = omega arith in
          let same = ap (λ n. run (next j i) n m) q ∙ run_add j i l.steps (a - l.steps) m in
          subst IsFine (sym same) (r.each (a - l.steps) (omega arith))

  ends_at : (n pc : ℕ) (x : Scratch) (c : Core) (o : Outcome) (p q : ℕ) → p ≡ q → Has n pc x c o p → Has n pc x c o q
  ends_at n pc x c o p q e l = subst (λ p. Has n pc x c o p) e l

  -- from a known state to the rest
  go_on : (n k pc : ℕ) (x : Scratch) (c d : Core) (p : ℕ) (P : State → Type 0) → Has n pc x c (Went d) p → ((y : Scratch) → Good d.protection → Fits (at p y d) → Leads k (at p y d) P) → Leads (n + k) (at pc x c) P
  go_on n k pc x c d p P l f =
      bind n k (at pc x c) (Shows (Went d) p) P l (λ t h. subst (λ t. Leads k t P) (sym h.1) (f h.0 h.2 h.3))

  -- a list's outcome, and then the rest
  seq : (o : Outcome) (f : Core → Outcome) (S : Core → Type 0) (n : ℕ) (k : Core → ℕ) (pc : ℕ) (x : Scratch) (c : Core) (p q : ℕ) → Has n pc x c o p → OnWent o S →
      ((y : Scratch) (d : Core) → Good d.protection → Fits (at p y d) → S d → Has (k d) p y d (f d) q) → Has (n + then_ticks o k) pc x c (then_do o f) q
  seq (Went d) f S n k pc x c p q l on r = go_on n (k d) pc x c d p (Shows (f d) q) l (λ y g t. r y d g t on)
  seq (Halted a d) f S n k pc x c p q l on r = more n (n + 0) _ (Shows (Halted a d) q) (omega arith) l
  seq (AtReturn d) f S n k pc x c p q l on r = more n (n + 0) _ (Shows (AtReturn d) q) (omega arith) l
  seq (AtBranch a b d) f S n k pc x c p q l on r = more n (n + 0) _ (Shows (AtBranch a b d) q) (omega arith) l
  seq (Stopped a d) f S n k pc x c p q l on r = more n (n + 0) _ (Shows (Stopped a d) q) (omega arith) l
  seq Unclaimed f S n k pc x c p q l on r = more n (n + 0) _ (Shows Unclaimed q) (omega arith) l

  stuck : (n : ℕ) (m : State) (q : ℕ) → Leads n m (Shows Unclaimed q)
  stuck n m q = record { steps = 0; within = omega arith; holds = tt; each = λ k lt. absurd (omega arith) }

  module _ (laws : Laws) (rules : ObeysRules i) where
    next_by : (m : State) (u : Turn) → turn j i m ≡ u → Good m.protection → Fits m → u.event ≡ None → Each (λ (t : Touched). Allowed Write (core_of m) t.width t.address) u.stores → Each (λ (t : Touched). Allowed Read (core_of m) t.width t.address) u.loads → Next m u.to
    next_by m u e g f q s l = record {
      fine = record {
        good = g;
        quiet = ap (λ u. u.event) e ∙ q;
        stores = subst (λ (u : Turn). Each (λ (t : Touched). Allowed Write (core_of m) t.width t.address) u.stores) (sym e) s;
        loads = subst (λ (u : Turn). Each (λ (t : Touched). Allowed Read (core_of m) t.width t.address) u.loads) (sym e) l;
      };
      leads = ap (λ u. u.to) e;
      fits = subst Fits (ap (λ u. u.to) e) (laws.keeps_shape j i m rules f);
    }

    -- an instruction that changes registers alone
    changes : (pc : ℕ) (x : Scratch) (c : Core) (y : Instr) (d : CoreRegisters) → StandsWhileGood pc y → Good c.protection → Fits (at pc x c) → act y (pc + size y) (registers pc x c) ≡ Changes d → Next (at pc x c) (live d c.protection c.status c.ram queues)
    unfolding perform
    changes pc x c y d st g f e =
        next_by (at pc x c) (calm (live d c.protection c.status c.ram queues)) (acts j i (registers pc x c) c.protection c.status c.ram queues y (Changes d) (st c.protection g) e) g f refl tt tt

    went : (pc p : ℕ) (x y : Scratch) (c d : Core) → Good d.protection → Next (at pc x c) (at p y d) → Has 1 pc x c (Went d) p
    went pc p x y c d g n = single (at pc x c) (at p y d) (Shows (Went d) p) n.fine n.leads (y, refl, g, n.fits)

    -- and then the rest
    quiet : (k pc p : ℕ) (x y : Scratch) (c d : Core) (P : State → Type 0) → Good d.protection → Next (at pc x c) (at p y d) → (Good d.protection → Fits (at p y d) → Leads k (at p y d) P) → Leads (1 + k) (at pc x c) P
    quiet k pc p x y c d P g n f =
        bind 1 k (at pc x c) (λ t. t ≡ at p y d) P (single (at pc x c) (at p y d) (λ t. t ≡ at p y d) n.fine n.leads refl) (λ t e. subst (λ t. Leads k t P) (sym e) (f g n.fits))

    move_step : (pc : ℕ) (x : Scratch) (c : Core) (to from : ℕ) → to < 8 → from < 8 → StandsWhileGood pc (HighRegister 2 from to) → Good c.protection → Fits (at pc x c) → Next (at pc x c) (at (pc + 2) x (with_low c to (low_register c from)))
    unfolding act
    move_step pc x c to from h k st g f =
        let r = register_low (registers pc x c) from k in
        let e = with_register_low (registers pc x c) to (low_register c from) h in
        changes pc x c (HighRegister 2 from to) (registers (pc + 2) x (with_low c to (low_register c from))) st g f (rw (r, e) refl)

    -- both halves of a number
    const_run : (pc : ℕ) (x : Scratch) (c : Core) (to n : ℕ) → to < 8 → StandsWhileGood pc (MoveWide to (n % 2 ^ 16)) → StandsWhileGood (pc + 4) (MoveTop to (n / 2 ^ 16)) → Good c.protection → Fits (at pc x c) → Has 2 pc x c (Went (with_low c to n)) (pc + 4 + 4)
    unfolding act
    const_run pc x c to n h st su g f =
        let m = n % 2 ^ 16 in
        let c1 : Core = with_low c to m in
        let e = with_register_low (registers pc x c) to m h in
        let a : Next (at pc x c) (at (pc + 4) x c1) = changes pc x c (MoveWide to m) (registers (pc + 4) x c1) st g f (rw e refl) in
        let lo : n / 2 ^ 16 < 2 ^ 16 = (su c.protection g).lies.in_table.1 in
        let eight : to < length c.low = omega (arith, f.core.low_count) in
        let w = get_or-set_same c.low to m 0 eight in
        let v : m % 2 ^ 16 + n / 2 ^ 16 * 2 ^ 16 ≡ n = omega arith in
        let r = register_low (registers (pc + 4) x c1) to h in
        let q = with_register_low (registers (pc + 4) x c1) to n h in
        let ss = set-set c.low to m n in
        quiet 1 pc (pc + 4) x x c c1 (Shows (Went (with_low c to n)) (pc + 4 + 4)) g a (λ g f1.
        went (pc + 4) (pc + 4 + 4) x x c1 (with_low c to n) g
        (changes (pc + 4) x c1 (MoveTop to (n / 2 ^ 16)) (registers (pc + 4 + 4) x (with_low c to n)) su g f1 (rw (r, w, v, q, ss) refl)))

    -- ---- loads and stores

    load_is : (z : Width) → IsLoad (load_op z) (byte_count z)
    load_is Byte = loads_bytes
    load_is Half = loads_halves
    load_is Word = loads_words

    store_is : (z : Width) → IsStore (store_op z) (byte_count z)
    store_is Byte = stores_bytes
    store_is Half = stores_halves
    store_is Word = stores_words

    load_turn : (pc : ℕ) (x : Scratch) (c : Core) (z : Width) (to base off : ℕ) → Stands j i c.protection pc (TransferImmediate (load_op z) off base to) →
        turn j i (at pc x c) ≡ machine_load (verdict j c.protection Read (byte_count z) (address_of c (byte_count z) base off)) j i (byte_count z) (address_of c (byte_count z) base off) (at pc x c) (λ v. registers (pc + 2) x (with_low c to v))
    unfolding act perform
    load_turn pc x c z to base off st =
        acts j i (registers pc x c) c.protection c.status c.ram queues (TransferImmediate (load_op z) off base to) (load_into to (byte_count z) (address_of c (byte_count z) base off) (pc + 2) (registers pc x c)) st (load_is z off (low_register c base) to (pc + 2) (registers pc x c))

    store_turn : (pc : ℕ) (x : Scratch) (c : Core) (z : Width) (from base off : ℕ) → Stands j i c.protection pc (TransferImmediate (store_op z) off base from) →
        turn j i (at pc x c) ≡ machine_store (verdict j c.protection Write (byte_count z) (address_of c (byte_count z) base off)) j i (byte_count z) (address_of c (byte_count z) base off) (low_register c from) (at pc x c) (registers (pc + 2) x c)
    unfolding act perform
    store_turn pc x c z from base off st =
        acts j i (registers pc x c) c.protection c.status c.ram queues (TransferImmediate (store_op z) off base from) (store_from from (byte_count z) (address_of c (byte_count z) base off) (pc + 2) (registers pc x c)) st (store_is z off (low_register c base) from (pc + 2) (registers pc x c))

    broken : (n pc q : ℕ) (x : Scratch) (c : Core) (r : StopReason) → Good c.protection → Fits (at pc x c) → turn j i (at pc x c) ≡ stops r (at pc x c) → Has (1 + n) pc x c (Stopped r c) q
    broken n pc q x c r g f e =
        let a = next_by (at pc x c) (stops r (at pc x c)) e g f refl tt tt in
        more 1 (1 + n) (at pc x c) (Shows (Stopped r c) q) (omega arith) (single (at pc x c) (ended (Stop r pc) (at pc x c)) (Shows (Stopped r c) q) a.fine a.leads (pc, x, refl))

    load_run : (v : Verdict) (p : Location) (f : Core → Outcome) (S : ℕ → Type 0) (n : ℕ → ℕ) (pc w a to q : ℕ) (x : Scratch) (c : Core) → location i a ≡ p → Good c.protection → Fits (at pc x c) → Allowed Read c w a →
        turn j i (at pc x c) ≡ machine_load v j i w a (at pc x c) (λ v. registers (pc + 2) x (with_low c to v)) → OnValue (load_by v p i w a c) S →
        ((u : ℕ) → S u → Fits (at (pc + 2) x (with_low c to u)) → Has (n u) (pc + 2) x (with_low c to u) (f (with_low c to u)) q) → Has (1 + load_ticks (load_by v p i w a c) n) pc x c (after_load (load_by v p i w a c) c to f) q
    load_run ToBus (InRam o) f S n pc w a to q x c e g ft ok t s r =
        let u = read w o c.ram in
        let m : State = at (pc + 2) x (with_low c to u) in
        let b = next_by (at pc x c) (did_load w a m None) (t ∙ rw e refl) g ft refl tt (ok, tt) in
        quiet (n u) pc (pc + 2) x x c (with_low c to u) (Shows (f (with_low c to u)) q) g b (λ g1 f1. r u s f1)
    load_run ToBus (InFlash o) f S n pc w a to q x c e g ft ok t s r =
        let u = read w o i.flash in
        let m : State = at (pc + 2) x (with_low c to u) in
        let b = next_by (at pc x c) (did_load w a m None) (t ∙ rw e refl) g ft refl tt (ok, tt) in
        quiet (n u) pc (pc + 2) x x c (with_low c to u) (Shows (f (with_low c to u)) q) g b (λ g1 f1. r u s f1)
    load_run ToBus (InWindow k o) f S n pc w a to q x c e g ft ok t s r = stuck (1 + 0) (at pc x c) q
    load_run ToBus Nowhere f S n pc w a to q x c e g ft ok t s r = broken 0 pc q x c Bus g ft (t ∙ rw e refl)
    load_run ToSystem p f S n pc w a to q x c e g ft ok t s r =
        let u = Rattle.machine_model.specs.System.read_system a c.protection c.status in
        let m : State = at (pc + 2) x (with_low c to u) in
        let b = next_by (at pc x c) (did_load w a m None) t g ft refl tt (ok, tt) in
        quiet (n u) pc (pc + 2) x x c (with_low c to u) (Shows (f (with_low c to u)) q) g b (λ g1 f1. r u s f1)
    load_run Refused p f S n pc w a to q x c e g ft ok t s r = stuck (1 + 0) (at pc x c) q
    load_run (Bad z) p f S n pc w a to q x c e g ft ok t s r = broken 0 pc q x c z g ft t

    store_run : (v : Verdict) (p : Location) (f : Core → Outcome) (S : Core → Type 0) (n : Core → ℕ) (pc w a u q : ℕ) (x : Scratch) (c : Core) → location i a ≡ p → Good c.protection → Fits (at pc x c) → Allowed Write c w a →
        turn j i (at pc x c) ≡ machine_store v j i w a u (at pc x c) (registers (pc + 2) x c) → OnWritten (store_by v p w a u c) (λ d. Good d.protection × S d) →
        ((d : Core) → S d → Good d.protection → Fits (at (pc + 2) x d) → Has (n d) (pc + 2) x d (f d) q) → Has (1 + store_ticks (store_by v p w a u c) n) pc x c (after_store (store_by v p w a u c) c f) q
    store_run ToBus (InRam o) f S n pc w a u q x c e g ft ok t s r =
        let d : Core = with_ram c (write w o u c.ram) in
        let m : State = at (pc + 2) x d in
        let b = next_by (at pc x c) (did_store w a m None) (t ∙ rw (e, e) refl) g ft refl (ok, tt) tt in
        quiet (n d) pc (pc + 2) x x c d (Shows (f d) q) s.0 b (λ g1 f1. r d s.1 g1 f1)
    store_run ToBus (InFlash o) f S n pc w a u q x c e g ft ok t s r = broken 0 pc q x c Bus g ft (t ∙ rw e refl)
    store_run ToBus (InWindow k o) f S n pc w a u q x c e g ft ok t s r = stuck (1 + 0) (at pc x c) q
    store_run ToBus Nowhere f S n pc w a u q x c e g ft ok t s r = broken 0 pc q x c Bus g ft (t ∙ rw e refl)
    store_run ToSystem p f S n pc w a u q x c e g ft ok t s r =
        let d : Core = with_system c a u in
        let m : State = at (pc + 2) x d in
        let b = next_by (at pc x c) (did_store w a m None) t g ft refl (ok, tt) tt in
        quiet (n d) pc (pc + 2) x x c d (Shows (f d) q) s.0 b (λ g1 f1. r d s.1 g1 f1)
    store_run Refused p f S n pc w a u q x c e g ft ok t s r = stuck (1 + 0) (at pc x c) q
    store_run (Bad z) p f S n pc w a u q x c e g ft ok t s r = broken 0 pc q x c z g ft t

    -- ---- operations

    gives : (pc : ℕ) (x : Scratch) (c : Core) (op m d v : ℕ) (fl : Flags) → Rattle.machine_model.specs.DataOperations.operation op (low_register c d) (low_register c m) x.flags ≡ Gives v fl → StandsWhileGood pc (DataRegister op m d) → Good c.protection → Fits (at pc x c) →
        Next (at pc x c) (at (pc + 2) (record x { flags = fl }) (with_low c d v))
    unfolding act
    gives pc x c op m d v fl e st g f = changes pc x c (DataRegister op m d) (registers (pc + 2) (record x { flags = fl }) (with_low c d v)) st g f (rw e refl)

    -- whatever flags it leaves
    pub record Given (op a b v : ℕ) (x : Scratch) : Type 0 where
      pub flags : Flags
      pub is : Rattle.machine_model.specs.DataOperations.operation op a b x.flags ≡ Gives v flags

    two_run : (h t : Bool) (pc : ℕ) (x : Scratch) (c : Core) (op to a b : ℕ) (v : ℕ) → nat_eq to a ≡ h → nat_eq to b ≡ t → to < 8 → a < 8 → b < 8 → ((y : Scratch) → Given op (low_register c a) (low_register c b) v y) →
        HasCode pc (by_moves op to a b h t) → Good c.protection → Fits (at pc x c) → Has 4 pc x c (Went (with_low c to v)) (pc + two_address_length h t)
    unfolding act
    two_run true t pc x c op to a b v eh et t8 a8 b8 gv has g f =
        let same : to ≡ a = grind (arith, nat_tests) in
        let gg = gv x in
        let e : Rattle.machine_model.specs.DataOperations.operation op (low_register c to) (low_register c b) x.flags ≡ Gives v gg.flags = subst (λ k. Rattle.machine_model.specs.DataOperations.operation op (low_register c k) (low_register c b) x.flags ≡ Gives v gg.flags) (sym same) gg.is in
        more 1 4 (at pc x c) (Shows (Went (with_low c to v)) (pc + 2)) (omega arith) (went pc (pc + 2) x (record x { flags = gg.flags }) c (with_low c to v) g (gives pc x c op b to v gg.flags e has.0 g f))
    two_run false false pc x c op to a b v eh et t8 a8 b8 gv has g f =
        let other : to ≢ b = grind (arith, nat_tests) in
        let gg = gv x in
        let c1 : Core = with_low c to (low_register c a) in
        let e1 = get_or-set_same c.low to (low_register c a) 0 (omega (arith, f.core.low_count)) in
        let e2 = get_apart c.low to b (low_register c a) other in
        let e3 = set-set c.low to (low_register c a) v in
        let last : Next (at (pc + 2) x c1) (at (pc + 2 + 2) (record x { flags = gg.flags }) (with_low c1 to v)) = gives (pc + 2) x c1 op b to v gg.flags (rw (e1, e2) gg.is) has.1.0 g (move_step pc x c to a t8 a8 has.0 g f).fits in
        let end = went (pc + 2) (pc + 2 + 2) x (record x { flags = gg.flags }) c1 (with_low c1 to v) g last in
        let last2 : Has 1 (pc + 2) x c1 (Went (with_low c to v)) (pc + 4) = ends_at 1 (pc + 2) x c1 (Went (with_low c to v)) (pc + 2 + 2) (pc + 4) (omega arith) (subst (λ l. Has 1 (pc + 2) x c1 (Went (record c { low = l })) (pc + 2 + 2)) e3 end) in
        more 2 4 (at pc x c) (Shows (Went (with_low c to v)) (pc + 4)) (omega arith) (quiet 1 pc (pc + 2) x x c c1 (Shows (Went (with_low c to v)) (pc + 4)) g (move_step pc x c to a t8 a8 has.0 g f) (λ g1 f1. last2))
    two_run false true pc x c op to a b v eh et t8 a8 b8 gv has g f =
        let other : to ≢ a = grind (arith, nat_tests) in
        let u = low_register c a in
        let x1 : Scratch = record x { high = set x.high 4 u } in
        let gg = gv x1 in
        let x2 : Scratch = record x1 { flags = gg.flags } in
        let c1 : Core = with_low c a v in
        let c2 : Core = with_low c1 to v in
        let r = register_low (registers pc x c) a a8 in
        let n0 : Next (at pc x c) (at (pc + 2) x1 c) = changes pc x c (HighRegister 2 a 12) (registers (pc + 2) x1 c) has.0 g f (rw r refl) in
        let eight : a < length c.low = omega (arith, f.core.low_count) in
        let five : 4 < length x.high = omega (arith, f.core.high_count) in
        let e1 = get_or-set_same c.low a v 0 eight in
        let e2 = get_or-set_same x.high 4 u 0 five in
        let low_is : set (set (set c.low a v) to v) a u ≡ set c.low to v = swap_set (set c.low a v) to a v u other ∙ ap (λ l. set l to v) (set-set c.low a v u ∙ set_here c.low a) in
        let w = with_register_low (registers (pc + 2 + 2 + 2) x2 c2) a u a8 in
        quiet 3 pc (pc + 2) x x1 c c (Shows (Went (with_low c to v)) (pc + 8)) g n0 (λ g1 f1.
        quiet 2 (pc + 2) (pc + 2 + 2) x1 x2 c c1 (Shows (Went (with_low c to v)) (pc + 8)) g1 (gives (pc + 2) x1 c op b a v gg.flags gg.is has.1.0 g1 f1) (λ g2 f2.
        let m2 : Next (at (pc + 2 + 2) x2 c1) (at (pc + 2 + 2 + 2) x2 c2) = subst (λ z. Next (at (pc + 2 + 2) x2 c1) (at (pc + 2 + 2 + 2) x2 (with_low c1 to z))) e1 (move_step (pc + 2 + 2) x2 c1 to a t8 a8 has.1.1.0 g2 f2) in
        quiet 1 (pc + 2 + 2) (pc + 2 + 2 + 2) x2 x2 c1 c2 (Shows (Went (with_low c to v)) (pc + 8)) g2 m2 (λ g3 f3.
        let m3 : Next (at (pc + 2 + 2 + 2) x2 c2) (at (pc + 2 + 2 + 2 + 2) x2 (with_low c to v)) = changes (pc + 2 + 2 + 2) x2 c2 (HighRegister 2 12 a) (registers (pc + 2 + 2 + 2 + 2) x2 (with_low c to v)) has.1.1.1.0 g3 f3 (rw (e2, w, low_is) refl) in
        ends_at 1 (pc + 2 + 2 + 2) x2 c2 (Went (with_low c to v)) (pc + 2 + 2 + 2 + 2) (pc + 8) (omega arith) (went (pc + 2 + 2 + 2) (pc + 2 + 2 + 2 + 2) x2 x2 c2 (with_low c to v) g3 m3))))

    alu_run : (op : PrivilegedOp) (pc : ℕ) (x : Scratch) (c : Core) (to a b : ℕ) → to < 8 → a < 8 → b < 8 → HasCode pc (operation_code op to a b) → Good c.protection → Fits (at pc x c) →
        Has 4 pc x c (Went (with_low c to (operation op (low_register c a) (low_register c b)))) (pc + operation_length op (nat_eq to a) (nat_eq to b))
    unfolding act
    alu_run Add pc x c to a b t8 a8 b8 has g f =
        let e : low_register c a + low_register c b + 0 ≡ low_register c a + low_register c b = omega arith in
        let d : Core = with_low c to (add (low_register c a) (low_register c b)) in
        let y : Scratch = record x { flags = add_flags (low_register c a) (low_register c b) 0 } in
        more 1 4 (at pc x c) (Shows (Went d) (pc + 2)) (omega arith) (went pc (pc + 2) x y c d g (changes pc x c (AddSubRegister 0 b a to) (registers (pc + 2) y d) has.0 g f (rw e refl)))
    alu_run Sub pc x c to a b t8 a8 b8 has g f =
        let w = f.core.low_words b in
        let e : low_register c a + (2 ^ 32 - 1 - low_register c b) + 1 ≡ low_register c a + (2 ^ 32 - low_register c b) = omega arith in
        let d : Core = with_low c to (subtract (low_register c a) (low_register c b)) in
        let y : Scratch = record x { flags = compare_flags (low_register c a) (low_register c b) } in
        more 1 4 (at pc x c) (Shows (Went d) (pc + 2)) (omega arith) (went pc (pc + 2) x y c d g (changes pc x c (AddSubRegister 1 b a to) (registers (pc + 2) y d) has.0 g f (rw e refl)))
    alu_run And pc x c to a b t8 a8 b8 has g f =
        two_run (nat_eq to a) (nat_eq to b) pc x c 0 to a b (bit_and (low_register c a) (low_register c b)) refl refl t8 a8 b8 (λ y. record { flags = result_flags y.flags (bit_and (low_register c a) (low_register c b)); is = refl }) has g f
    alu_run Or pc x c to a b t8 a8 b8 has g f =
        two_run (nat_eq to a) (nat_eq to b) pc x c 12 to a b (bit_or (low_register c a) (low_register c b)) refl refl t8 a8 b8 (λ y. record { flags = result_flags y.flags (bit_or (low_register c a) (low_register c b)); is = refl }) has g f
    alu_run Shl pc x c to a b t8 a8 b8 has g f =
        two_run (nat_eq to a) (nat_eq to b) pc x c 2 to a b (shift_left (low_register c a) (low_register c b)) refl refl t8 a8 b8
        (λ y. record { flags = record (result_flags y.flags (shift_left (low_register c a) (low_register c b))) { carry = shifted_left_carry (low_register c a) (low_register c b) y.flags.carry }; is = refl }) has g f
    alu_run Shr pc x c to a b t8 a8 b8 has g f =
        two_run (nat_eq to a) (nat_eq to b) pc x c 3 to a b (shift_right (low_register c a) (low_register c b)) refl refl t8 a8 b8
        (λ y. record { flags = record (result_flags y.flags (shift_right (low_register c a) (low_register c b))) { carry = shifted_right_carry (low_register c a) (low_register c b) y.flags.carry }; is = refl }) has g f

    -- ---- special registers

    special_parts : (c : Core) → is_privileged_on_msp c ≡ true → (is_unprivileged c.protection ≡ false) × (c.on_psp ≡ false)
    special_parts c h = let p = both _ _ h in (not-true _ p.0, not-true _ p.1)

    read_psp : (pc : ℕ) (x : Scratch) (c : Core) (to : ℕ) → to < 8 → is_privileged_on_msp c ≡ true → StandsWhileGood pc (SpecialRegister 1 0 to 9) → Good c.protection → Fits (at pc x c) → Next (at pc x c) (at (pc + 4) x (with_low c to c.other_sp))
    unfolding act perform
    read_psp pc x c to h sp st g f =
        let p = special_parts c sp in
        let u = p.0 in
        let m = p.1 in
        let e : nat_lt to 8 ≡ true = search (nat_tests, arith) in
        let t : turn j i (at pc x c) ≡ calm (at (pc + 4) x (with_low c to c.other_sp)) = acts j i (registers pc x c) c.protection c.status c.ram queues (SpecialRegister 1 0 to 9) (GetsSpecial 9 to (registers (pc + 4) x c)) (st c.protection g) refl ∙ rw (u, m, e) refl in
        next_by (at pc x c) (calm (at (pc + 4) x (with_low c to c.other_sp))) t g f refl tt tt

    write_psp : (pc : ℕ) (x : Scratch) (c : Core) (from : ℕ) → from < 8 → is_privileged_on_msp c ≡ true → StandsWhileGood pc (SpecialRegister 0 from 0 9) → Good c.protection → Fits (at pc x c) → Next (at pc x c) (at (pc + 4) x (record c { other_sp = low_register c from / 4 * 4 }))
    unfolding act perform
    write_psp pc x c from h sp st g f =
        let p = special_parts c sp in
        let u = p.0 in
        let m = p.1 in
        let r = register_low (registers pc x c) from h in
        let d : Core = record c { other_sp = low_register c from / 4 * 4 } in
        let t : turn j i (at pc x c) ≡ calm (at (pc + 4) x d) = acts j i (registers pc x c) c.protection c.status c.ram queues (SpecialRegister 0 from 0 9) (SetsSpecial 9 (low_register c from) (registers (pc + 4) x c)) (st c.protection g) (rw r refl) ∙ rw (u, m) refl in
        next_by (at pc x c) (calm (at (pc + 4) x d)) t g f refl tt tt

    barrier : (pc : ℕ) (x : Scratch) (c : Core) (op : ℕ) → StandsWhileGood pc (Barrier op) → Good c.protection → Fits (at pc x c) → Next (at pc x c) (at (pc + 4) x c)
    unfolding act
    barrier pc x c op st g f = changes pc x c (Barrier op) (registers (pc + 4) x c) st g f refl

    picked : (b : Bool) (f : Core → Outcome) (S : Type 0) (n pc q : ℕ) (x : Scratch) (c : Core) → is_privileged_on_msp c ≡ b → Either b S (Unit {0}) → (is_privileged_on_msp c ≡ true → S → Has (1 + n) pc x c (f c) q) → Has (1 + either_ticks b n 0) pc x c (either b f (λ c. Unclaimed) c) q
    picked true f S n pc q x c e s r = r e s
    picked false f S n pc q x c e s r = stuck (1 + 0) (at pc x c) q

    control_run : (h b q : Bool) (f : Core → Outcome) (S : Core → Type 0) (n : Core → ℕ) (pc from v : ℕ) (r : ℕ) (x : Scratch) (c : Core) → c.protection.handler ≡ h → is_privileged_on_msp c ≡ b → nat_eq (v / 2 % 2) 1 ≡ q → low_register c from ≡ v → from < 8 →
        StandsWhileGood pc (SpecialRegister 0 from 0 20) → StandsWhileGood (pc + 4) (Barrier 1) → Good c.protection → Fits (at pc x c) → OnControl h b q v c (λ d. Good d.protection × S d) →
        ((d : Core) → S d → Good d.protection → Fits (at (pc + 4 + 4) x d) → Has (n d) (pc + 4 + 4) x d (f d) r) → Has (2 + control_ticks h b q v c n) pc x c (after_control h b q v c f) r
    unfolding act perform
    control_run true b q f S n pc from v r x c eh eb eq ev f8 st su g ft s k =
        let d : Core = record c { protection = record c.protection { unprivileged = nat_eq (v % 2) 1 } } in
        let re = register_low (registers pc x c) from f8 in
        let t : turn j i (at pc x c) ≡ calm (at (pc + 4) x d) = acts j i (registers pc x c) c.protection c.status c.ram queues (SpecialRegister 0 from 0 20) (SetsSpecial 20 v (registers (pc + 4) x c)) (st c.protection g) (rw (re, ev) refl) ∙ rw eh refl in
        let a = next_by (at pc x c) (calm (at (pc + 4) x d)) t g ft refl tt tt in
        more (1 + (1 + n d)) (2 + n d) (at pc x c) (Shows (f d) r) (omega arith) (quiet (1 + n d) pc (pc + 4) x x c d (Shows (f d) r) s.0 a (λ g1 f1.
        quiet (n d) (pc + 4) (pc + 4 + 4) x x d d (Shows (f d) r) g1 (barrier (pc + 4) x d 1 su g1 f1) (λ g2 f2. k d s.1 g2 f2)))
    control_run false true true f S n pc from v r x c eh eb eq ev f8 st su g ft s k =
        let p = special_parts c eb in
        let u = p.0 in
        let m = p.1 in
        let d : Core = record c { sp = c.other_sp; other_sp = c.sp; on_psp = true; protection = record c.protection { unprivileged = nat_eq (v % 2) 1 } } in
        let re = register_low (registers pc x c) from f8 in
        let t : turn j i (at pc x c) ≡ calm (at (pc + 4) x d) = acts j i (registers pc x c) c.protection c.status c.ram queues (SpecialRegister 0 from 0 20) (SetsSpecial 20 v (registers (pc + 4) x c)) (st c.protection g) (rw (re, ev) refl) ∙ rw (u, eh, eq, m) refl in
        let a = next_by (at pc x c) (calm (at (pc + 4) x d)) t g ft refl tt tt in
        more (1 + (1 + n d)) (2 + n d) (at pc x c) (Shows (f d) r) (omega arith) (quiet (1 + n d) pc (pc + 4) x x c d (Shows (f d) r) s.0 a (λ g1 f1.
        quiet (n d) (pc + 4) (pc + 4 + 4) x x d d (Shows (f d) r) g1 (barrier (pc + 4) x d 1 su g1 f1) (λ g2 f2. k d s.1 g2 f2)))
    control_run false true false f S n pc from v r x c eh eb eq ev f8 st su g ft s k = stuck (2 + 0) (at pc x c) r
    control_run false false q f S n pc from v r x c eh eb eq ev f8 st su g ft s k = stuck (2 + 0) (at pc x c) r

    -- ---- comparisons and branches

    compare : (pc : ℕ) (x : Scratch) (c : Core) (a b : ℕ) → StandsWhileGood pc (DataRegister 10 b a) → Good c.protection → Fits (at pc x c) → Next (at pc x c) (at (pc + 2) (record x { flags = compare_flags (low_register c a) (low_register c b) }) c)
    unfolding act
    compare pc x c a b st g f = changes pc x c (DataRegister 10 b a) (registers (pc + 2) (record x { flags = compare_flags (low_register c a) (low_register c b) }) c) st g f refl

    compare_zero : (pc : ℕ) (x : Scratch) (c : Core) (a : ℕ) → StandsWhileGood pc (DataImmediate 1 a 0) → Good c.protection → Fits (at pc x c) → Next (at pc x c) (at (pc + 2) (record x { flags = compare_flags (low_register c a) 0 }) c)
    unfolding act
    compare_zero pc x c a st g f = changes pc x c (DataImmediate 1 a 0) (registers (pc + 2) (record x { flags = compare_flags (low_register c a) 0 }) c) st g f refl

    take_one : (pc : ℕ) (x : Scratch) (c : Core) (a : ℕ) → StandsWhileGood pc (DataImmediate 3 a 1) → Good c.protection → Fits (at pc x c) → Next (at pc x c) (at (pc + 2) (record x { flags = compare_flags (low_register c a) 1 }) (with_one_less a c))
    unfolding act
    take_one pc x c a st g f =
        let e : low_register c a + (2 ^ 32 - 1 - 1) + 1 ≡ low_register c a + (2 ^ 32 - 1) = omega arith in
        changes pc x c (DataImmediate 3 a 1) (registers (pc + 2) (record x { flags = compare_flags (low_register c a) 1 }) (with_one_less a c)) st g f (rw e refl)

    branch_if : (pc : ℕ) (x : Scratch) (c : Core) (k : ℕ) (b : Bool) → holds k x.flags ≡ b → pc + 8 < 2 ^ 31 → StandsWhileGood pc (BranchConditional k (pos 2)) → Good c.protection → Fits (at pc x c) → Next (at pc x c) (at (if b then pc + 2 + 4 else pc + 2) x c)
    unfolding act
    branch_if pc x c k true e h st g f =
        let z : moved (pc + 2 + 2) (pos 2) ≡ pc + 2 + 4 = forward (pc + 2 + 2) 2 (omega arith) ∙ omega arith in
        changes pc x c (BranchConditional k (pos 2)) (registers (pc + 2 + 4) x c) st g f (rw (e, z) refl)
    branch_if pc x c k false e h st g f = changes pc x c (BranchConditional k (pos 2)) (registers (pc + 2) x c) st g f (rw e refl)

    branch : (pc to : ℕ) (x : Scratch) (c : Core) (o : ℤ) → moved (pc + 4) o ≡ to → StandsWhileGood pc (BranchWide o) → Good c.protection → Fits (at pc x c) → Next (at pc x c) (at to x c)
    unfolding act
    branch pc to x c o e st g f = changes pc x c (BranchWide o) (registers to x c) st g f (rw e refl)

    condition_holds : (t : PrivilegedCond) (u v : ℕ) → u < 2 ^ 32 → v < 2 ^ 32 → holds (condition_number t) (compare_flags u v) ≡ compared t u v
    condition_holds Eq u v a b = laws.equal u v a b
    condition_holds Ult u v a b = laws.below u v a b
    condition_holds Ule u v a b = laws.at_most u v a b

    -- a branch past what doesn't run
    skip : (n pc p q : ℕ) (x : Scratch) (c : Core) (o : Outcome) (z : ℤ) → moved (p + 4) z ≡ q → StandsWhileGood p (BranchWide z) → Has n pc x c o p → Has (n + 1) pc x c o q
    skip n pc p q x c (Went d) z e st l = go_on n 1 pc x c d p (Shows (Went d) q) l (λ y g f. went p q y y d d g (branch p q y d z e st g f))
    skip n pc p q x c (Halted a d) z e st l = more n (n + 1) _ (Shows (Halted a d) q) (omega arith) l
    skip n pc p q x c (AtReturn d) z e st l = more n (n + 1) _ (Shows (AtReturn d) q) (omega arith) l
    skip n pc p q x c (AtBranch a b d) z e st l = more n (n + 1) _ (Shows (AtBranch a b d) q) (omega arith) l
    skip n pc p q x c (Stopped a d) z e st l = more n (n + 1) _ (Shows (Stopped a d) q) (omega arith) l
    skip n pc p q x c Unclaimed z e st l = more n (n + 1) _ (Shows Unclaimed q) (omega arith) l

    -- a choice, behind the comparison
    choice : (b : Bool) (f h : Core → Outcome) (S T : Type 0) (n k pc ly end : ℕ) (x : Scratch) (c : Core) (cd : ℕ) → holds cd x.flags ≡ b → pc + 20 + ly < 2 ^ 31 →
        StandsWhileGood pc (BranchConditional cd (pos 2)) → StandsWhileGood (pc + 2) (BranchWide (pos (ly + 4))) → Good c.protection → Fits (at pc x c) → Either b S T →
        (S → Fits (at (pc + 2 + 4) x c) → Has n (pc + 2 + 4) x c (f c) end) → (T → Fits (at (pc + 2 + 4 + ly + 4) x c) → Has k (pc + 2 + 4 + ly + 4) x c (h c) end) → Has (2 + either_ticks b n k) pc x c (either b f h c) end
    choice true f h S T n k pc ly end x c cd e hi st su g ft s l r =
        more (1 + n) (2 + n) (at pc x c) _ (omega arith) (quiet n pc (pc + 2 + 4) x x c c (Shows (f c) end) g (branch_if pc x c cd true e (omega arith) st g ft) (λ g1 f1. l s f1))
    choice false f h S T n k pc ly end x c cd e hi st su g ft s l r =
        let z : moved (pc + 2 + 4) (pos (ly + 4)) ≡ pc + 2 + 4 + ly + 4 = forward (pc + 2 + 4) (ly + 4) (omega arith) ∙ omega arith in
        more (1 + (1 + k)) (2 + k) (at pc x c) _ (omega arith) (quiet (1 + k) pc (pc + 2) x x c c (Shows (h c) end) g (branch_if pc x c cd false e (omega arith) st g ft) (λ g1 f1.
        quiet k (pc + 2) (pc + 2 + 4 + ly + 4) x x c c (Shows (h c) end) g1 (branch (pc + 2) (pc + 2 + 4 + ly + 4) x c (pos (ly + 4)) z su g1 f1) (λ g2 f2. r s f2)))

    -- ---- loops

    module _ (left pc m : ℕ) (body : Core → Outcome) (S : Core → Type 0) (hi : pc + 20 + m < 2 ^ 31)
        (test : StandsWhileGood pc (DataImmediate 1 left 0)) (enter : StandsWhileGood (pc + 2) (BranchConditional 1 (pos 2))) (leave : StandsWhileGood (pc + 2 + 2) (BranchWide (pos (m + 6))))
        (n : Core → ℕ) (runs_body : (x : Scratch) (c : Core) → Good c.protection → Fits (at (pc + 2 + 2 + 4) x c) → S c → Has (n c) (pc + 2 + 2 + 4) x c (body c) (pc + 2 + 2 + 4 + m))
        (takes_one : StandsWhileGood (pc + 2 + 2 + 4 + m) (DataImmediate 3 left 1)) (turns_back : StandsWhileGood (pc + 2 + 2 + 4 + m + 2) (BranchWide (negsuc (m + 13)))) where
      end : ℕ
      end = pc + 2 + 2 + 4 + m + 2 + 4

      -- where none is left
      out_at : (h : Core → Outcome) (T : Type 0) (k : ℕ) (x : Scratch) (c : Core) (v : ℕ) → low_register c left ≡ v → v < 2 ^ 32 → Good c.protection → Fits (at pc x c) → UnlessZero v T →
          ((w : ℕ) (y : Scratch) → v ≡ suc w → T → Fits (at (pc + 2 + 2 + 4) y c) → Has k (pc + 2 + 2 + 4) y c (h c) (pc + 2 + 2 + 4 + m + 2 + 4)) → Has (zero_ticks v 3 (2 + k)) pc x c (by_zero v Went h c) (pc + 2 + 2 + 4 + m + 2 + 4)
      out_at h T k x c zero e lt g f s r =
          let y : Scratch = record x { flags = compare_flags (low_register c left) 0 } in
          let q : holds 1 y.flags ≡ false = ap (λ u. holds 1 (compare_flags u 0)) e ∙ laws.unequal 0 0 (omega arith) (omega arith) in
          let z : moved (pc + 2 + 2 + 4) (pos (m + 6)) ≡ pc + 2 + 2 + 4 + m + 2 + 4 = forward (pc + 2 + 2 + 4) (m + 6) (omega arith) ∙ omega arith in
          let p : ℕ = pc + 2 + 2 + 4 + m + 2 + 4 in
          more (1 + (1 + 1)) 3 (at pc x c) (Shows (Went c) p) (omega arith) (quiet (1 + 1) pc (pc + 2) x y c c (Shows (Went c) p) g (compare_zero pc x c left test g f) (λ g1 f1.
          quiet 1 (pc + 2) (pc + 2 + 2) y y c c (Shows (Went c) p) g1 (branch_if (pc + 2) y c 1 false q (omega arith) enter g1 f1) (λ g2 f2.
          went (pc + 2 + 2) p y y c c g2 (branch (pc + 2 + 2) p y c (pos (m + 6)) z leave g2 f2))))
      out_at h T k x c (suc v) e lt g f s r =
          let y : Scratch = record x { flags = compare_flags (low_register c left) 0 } in
          let ne : nat_eq (suc v) 0 ≡ false = search (nat_tests, arith) in
          let q : holds 1 y.flags ≡ true = ap (λ u. holds 1 (compare_flags u 0)) e ∙ laws.unequal (suc v) 0 lt (omega arith) ∙ ap not ne in
          let p : ℕ = pc + 2 + 2 + 4 + m + 2 + 4 in
          more (1 + (1 + k)) (2 + k) (at pc x c) (Shows (h c) p) (omega arith) (quiet (1 + k) pc (pc + 2) x y c c (Shows (h c) p) g (compare_zero pc x c left test g f) (λ g1 f1.
          quiet k (pc + 2) (pc + 2 + 2 + 4) y y c c (Shows (h c) p) g1 (branch_if (pc + 2) y c 1 true q (omega arith) enter g1 f1) (λ g2 f2. r v y refl s f2)))

      nothing_left : (v : ℕ) → UnlessZero v (Unit {0})
      nothing_left zero = tt
      nothing_left (suc v) = tt

      -- the turns that are left, and one more
      abbrev pub left_ticks : (most : ℕ) → Core → ℕ
      left_ticks most d = turn_ticks most left body n (with_one_less left d)

      two_more : (most : ℕ) (o : Outcome) → then_ticks o (λ d. 1 + (1 + left_ticks most d)) ≤ 2 + then_ticks o (λ d. left_ticks most d)
      two_more most (Went d) = omega arith
      two_more most (Halted a d) = omega arith
      two_more most (AtReturn d) = omega arith
      two_more most (AtBranch a b d) = omega arith
      two_more most (Stopped a d) = omega arith
      two_more most Unclaimed = omega arith

      turn_fits : (v a b : ℕ) → a ≤ b → zero_ticks v 3 a ≤ zero_ticks v 3 b
      turn_fits zero a b h = omega arith
      turn_fits (suc v) a b h = h

      any_ticks : (v : ℕ) → zero_ticks v 3 (2 + 1) ≤ 3
      any_ticks zero = omega arith
      any_ticks (suc v) = omega arith

      turns_run : (most : ℕ) (x : Scratch) (c : Core) → Good c.protection → Fits (at pc x c) → AreTurnsSafe most left body S c → Has (turn_ticks most left body n c) pc x c (turns most left body c) (pc + 2 + 2 + 4 + m + 2 + 4)
      turns_run zero x c g f s =
          let p : ℕ = pc + 2 + 2 + 4 + m + 2 + 4 in
          more (zero_ticks (low_register c left) 3 (2 + 1)) 3 (at pc x c) (Shows (turns 0 left body c) p) (any_ticks (low_register c left))
          (out_at (λ c. Unclaimed) (Unit {0}) 1 x c (low_register c left) refl (f.core.low_words left) g f (nothing_left (low_register c left)) (λ w y e u f1. stuck 1 (at (pc + 2 + 2 + 4) y c) p))
      turns_run (suc most) x c g f s = turn_at most x c (low_register c left) refl g f s (λ y d g f s. turns_run most y d g f s)
        where
          rest : (most : ℕ) → ((y : Scratch) (d : Core) → Good d.protection → Fits (at pc y d) → AreTurnsSafe most left body S d → Has (turn_ticks most left body n d) pc y d (turns most left body d) (pc + 2 + 2 + 4 + m + 2 + 4)) →
              (y : Scratch) (d : Core) → Good d.protection → Fits (at (pc + 2 + 2 + 4 + m) y d) → AreTurnsSafe most left body S (with_one_less left d) → Has (1 + (1 + left_ticks most d)) (pc + 2 + 2 + 4 + m) y d (turns most left body (with_one_less left d)) (pc + 2 + 2 + 4 + m + 2 + 4)
          rest most ih y d g f s =
              let a : ℕ = pc + 2 + 2 + 4 + m in
              let e : Core = with_one_less left d in
              let w : Scratch = record y { flags = compare_flags (low_register d left) 1 } in
              let z : moved (a + 2 + 4) (negsuc (m + 13)) ≡ pc = backward (a + 2 + 4) (m + 13) pc (omega arith) (omega arith) in
              quiet (1 + left_ticks most d) a (a + 2) y w d e (Shows (turns most left body e) (pc + 2 + 2 + 4 + m + 2 + 4)) g (take_one a y d left takes_one g f) (λ g1 f1.
              quiet (left_ticks most d) (a + 2) pc w w e e (Shows (turns most left body e) (pc + 2 + 2 + 4 + m + 2 + 4)) g1 (branch (a + 2) pc w e (negsuc (m + 13)) z turns_back g1 f1) (λ g2 f2. ih w e g2 f2 s))

          turn_at : (most : ℕ) (x : Scratch) (c : Core) (v : ℕ) → low_register c left ≡ v → Good c.protection → Fits (at pc x c) → UnlessZero v (S c × OnWent (body c) (λ d. AreTurnsSafe most left body S (with_one_less left d))) →
              ((y : Scratch) (d : Core) → Good d.protection → Fits (at pc y d) → AreTurnsSafe most left body S d → Has (turn_ticks most left body n d) pc y d (turns most left body d) (pc + 2 + 2 + 4 + m + 2 + 4)) →
              Has (zero_ticks v 3 (n c + 4 + then_ticks (body c) (λ d. left_ticks most d))) pc x c (by_zero v Went (λ c. then_do (body c) (λ d. turns most left body (with_one_less left d))) c) (pc + 2 + 2 + 4 + m + 2 + 4)
          turn_at most x c v e g f s ih =
              let k : ℕ = n c + then_ticks (body c) (λ d. 1 + (1 + left_ticks most d)) in
              let le : 2 + k ≤ n c + 4 + then_ticks (body c) (λ d. left_ticks most d) = omega (arith, two_more most (body c)) in
              more (zero_ticks v 3 (2 + k)) (zero_ticks v 3 (n c + 4 + then_ticks (body c) (λ d. left_ticks most d))) (at pc x c) _ (turn_fits v (2 + k) (n c + 4 + then_ticks (body c) (λ d. left_ticks most d)) le)
              (out_at (λ c. then_do (body c) (λ d. turns most left body (with_one_less left d))) (S c × OnWent (body c) (λ d. AreTurnsSafe most left body S (with_one_less left d))) k x c v e (let w = f.core.low_words left in omega arith) g f s
              (λ u y q t f1. seq (body c) (λ d. turns most left body (with_one_less left d)) (λ d. AreTurnsSafe most left body S (with_one_less left d)) (n c) (λ d. 1 + (1 + left_ticks most d)) (pc + 2 + 2 + 4) y c (pc + 2 + 2 + 4 + m) (pc + 2 + 2 + 4 + m + 2 + 4) (runs_body y c g f1 t.0) t.1
              (λ y d g f s. rest most ih y d g f s)))

    -- ---- whole lists

    low_parts : (a b c : Bool) → ((a && b) && c) ≡ true → (a ≡ true) × (b ≡ true) × (c ≡ true)
    low_parts a b c h = let p = both (a && b) c h in let q = both a b p.0 in (q.0, q.1, p.1)

    halt_run : (n l pc : ℕ) (x : Scratch) (c : Core) → StandsWhileGood pc (BreakpointNop 0 n) → Good c.protection → Fits (at pc x c) → Has 1 pc x c (Halted n c) (pc + (2 + l))
    unfolding act perform
    halt_run n l pc x c st g f =
        let a = next_by (at pc x c) (ends (Ended n) (at pc x c)) (acts j i (registers pc x c) c.protection c.status c.ram queues (BreakpointNop 0 n) (HaltsAt n) (st c.protection g) refl) g f refl tt tt in
        single (at pc x c) (ended (Ended n) (at pc x c)) (Shows (Halted n c) (pc + (2 + l))) a.fine a.leads (pc, x, refl)

    pick_more : (b : Bool) (m n : ℕ) → either_ticks b (m + 1) n ≤ 1 + either_ticks b m n
    pick_more true m n = omega arith
    pick_more false m n = omega arith

    pub code_has_effect : (s : PrivilegedSteps) (pc : ℕ) (x : Scratch) (c : Core) → names_low s ≡ true → pc + code_length s < 2 ^ 30 → HasCode pc (code s) → Good c.protection → Fits (at pc x c) → IsSafe j i Good Allowed s c → Has (ticks j i s c) pc x c (effect j i s c) (pc + code_length s)
    code_has_effect End pc x c lo hi h g f sf = none (at pc x c) (Shows (Went c) (pc + 0)) (let e : pc ≡ pc + 0 = omega arith in subst (λ p. Shows (Went c) p (at pc x c)) e (x, refl, g, f))
    code_has_effect (Const to n k) pc x c lo hi h g f sf =
        let p = both _ _ lo in
        ends_at (2 + ticks j i k (with_low c to n)) pc x c (effect j i k (with_low c to n)) (pc + 4 + 4 + code_length k) (pc + (8 + code_length k)) (omega arith)
        (go_on 2 (ticks j i k (with_low c to n)) pc x c (with_low c to n) (pc + 4 + 4) (Shows (effect j i k (with_low c to n)) (pc + 4 + 4 + code_length k)) (const_run pc x c to n (ltb-true to 8 p.0) h.0 h.1.0 g f)
        (λ y g1 f1. code_has_effect k (pc + 4 + 4) y (with_low c to n) p.1 (omega arith) h.1.1 g1 f1 sf))
    code_has_effect (Copy to from k) pc x c lo hi h g f sf =
        let p = low_parts (nat_lt to 8) (nat_lt from 8) _ lo in
        let d : Core = with_low c to (low_register c from) in
        ends_at (1 + ticks j i k d) pc x c (effect j i k d) (pc + 2 + code_length k) (pc + (2 + code_length k)) (omega arith)
        (quiet (ticks j i k d) pc (pc + 2) x x c d (Shows (effect j i k d) (pc + 2 + code_length k)) g (move_step pc x c to from (ltb-true to 8 p.0) (ltb-true from 8 p.1) h.0 g f)
        (λ g1 f1. code_has_effect k (pc + 2) x d p.2 (omega arith) h.1 g1 f1 sf))
    code_has_effect (Load z to base off k) pc x c lo hi h g f sf =
        let w = byte_count z in
        let a = address_of c w base off in
        ends_at (ticks j i (Load z to base off k) c) pc x c (effect j i (Load z to base off k) c) (pc + 2 + code_length k) (pc + (2 + code_length k)) (omega arith)
        (load_run (verdict j c.protection Read w a) (location i a) (effect j i k) (λ v. IsSafe j i Good Allowed k (with_low c to v)) (λ v. ticks j i k (with_low c to v)) pc w a to (pc + 2 + code_length k) x c refl g f sf.0
        (load_turn pc x c z to base off (h.0 c.protection g)) sf.1 (λ u s f1. code_has_effect k (pc + 2) x (with_low c to u) (both _ _ lo).1 (omega arith) h.1 g f1 s))
    code_has_effect (Store z from base off k) pc x c lo hi h g f sf =
        let w = byte_count z in
        let a = address_of c w base off in
        ends_at (ticks j i (Store z from base off k) c) pc x c (effect j i (Store z from base off k) c) (pc + 2 + code_length k) (pc + (2 + code_length k)) (omega arith)
        (store_run (verdict j c.protection Write w a) (location i a) (effect j i k) (λ d. IsSafe j i Good Allowed k d) (λ d. ticks j i k d) pc w a (low_register c from) (pc + 2 + code_length k) x c refl g f sf.0
        (store_turn pc x c z from base off (h.0 c.protection g)) sf.1 (λ d s g1 f1. code_has_effect k (pc + 2) x d (both _ _ lo).1 (omega arith) h.1 g1 f1 s))
    code_has_effect (Alu op to a b k) pc x c lo hi h g f sf =
        let p = both _ _ lo in
        let q = low_parts (nat_lt to 8) (nat_lt a 8) (nat_lt b 8) p.0 in
        let d : Core = with_low c to (operation op (low_register c a) (low_register c b)) in
        let l : ℕ = operation_length op (nat_eq to a) (nat_eq to b) in
        let front = has_front j i Good pc (operation_code op to a b) (code k) h in
        let back : HasCode (pc + l) (code k) = subst (λ n. HasCode (pc + n) (code k)) (operation_has_its_length op to a b) (has_back j i Good pc (operation_code op to a b) (code k) h) in
        ends_at (4 + ticks j i k d) pc x c (effect j i k d) (pc + l + code_length k) (pc + (l + code_length k)) (omega arith)
        (go_on 4 (ticks j i k d) pc x c d (pc + l) (Shows (effect j i k d) (pc + l + code_length k)) (alu_run op pc x c to a b (ltb-true to 8 q.0) (ltb-true a 8 q.1) (ltb-true b 8 q.2) front g f)
        (λ y g1 f1. code_has_effect k (pc + l) y d p.1 (omega arith) back g1 f1 sf))
    code_has_effect (ReadPsp to k) pc x c lo hi h g f sf =
        let p = both _ _ lo in
        let d : Core = with_low c to c.other_sp in
        ends_at (ticks j i (ReadPsp to k) c) pc x c (effect j i (ReadPsp to k) c) (pc + 4 + code_length k) (pc + (4 + code_length k)) (omega arith)
        (picked (is_privileged_on_msp c) (λ c. effect j i k (with_low c to c.other_sp)) (IsSafe j i Good Allowed k d) (ticks j i k d) pc (pc + 4 + code_length k) x c refl sf
        (λ sp s. quiet (ticks j i k d) pc (pc + 4) x x c d (Shows (effect j i k d) (pc + 4 + code_length k)) g (read_psp pc x c to (ltb-true to 8 p.0) sp h.0 g f) (λ g1 f1. code_has_effect k (pc + 4) x d p.1 (omega arith) h.1 g1 f1 s)))
    code_has_effect (WritePsp from k) pc x c lo hi h g f sf =
        let p = both _ _ lo in
        let d : Core = record c { other_sp = low_register c from / 4 * 4 } in
        ends_at (ticks j i (WritePsp from k) c) pc x c (effect j i (WritePsp from k) c) (pc + 4 + code_length k) (pc + (4 + code_length k)) (omega arith)
        (picked (is_privileged_on_msp c) (λ c. effect j i k (record c { other_sp = low_register c from / 4 * 4 })) (IsSafe j i Good Allowed k d) (ticks j i k d) pc (pc + 4 + code_length k) x c refl sf
        (λ sp s. quiet (ticks j i k d) pc (pc + 4) x x c d (Shows (effect j i k d) (pc + 4 + code_length k)) g (write_psp pc x c from (ltb-true from 8 p.0) sp h.0 g f) (λ g1 f1. code_has_effect k (pc + 4) x d p.1 (omega arith) h.1 g1 f1 s)))
    code_has_effect (WriteControl from k) pc x c lo hi h g f sf =
        let p = both _ _ lo in
        ends_at (ticks j i (WriteControl from k) c) pc x c (effect j i (WriteControl from k) c) (pc + 4 + 4 + code_length k) (pc + (8 + code_length k)) (omega arith)
        (control_run c.protection.handler (is_privileged_on_msp c) (nat_eq (low_register c from / 2 % 2) 1) (effect j i k) (λ d. IsSafe j i Good Allowed k d) (λ d. ticks j i k d) pc from (low_register c from) (pc + 4 + 4 + code_length k) x c refl refl refl refl (ltb-true from 8 p.0) h.0 h.1.0 g f sf
        (λ d s g1 f1. code_has_effect k (pc + 4 + 4) x d p.1 (omega arith) h.1.1 g1 f1 s))
    code_has_effect (Test t a b ys ns k) pc x c lo hi h g f sf =
        let named = both (is_low a && is_low b) ((names_low ys && names_low ns) && names_low k) lo in
        let lp = low_parts (names_low ys) (names_low ns) (names_low k) named.1 in
        let ly = code_length ys in
        let ln = code_length ns in
        let y0 = pc + 2 + 2 + 4 in
        let n0 = y0 + ly + 4 in
        let end = n0 + ln in
        let u = low_register c a in
        let v = low_register c b in
        let x1 : Scratch = record x { flags = compare_flags u v } in
        let e = effect j i in
        let hy = has_front j i Good y0 (code ys) _ h.1.1.1 in
        let hb = behind j i Good ys y0 _ h.1.1.1 in
        let hn = has_front j i Good n0 (code ns) _ hb.1 in
        let hk = behind j i Good ns n0 _ hb.1 in
        let dec : holds (condition_number t) x1.flags ≡ compared t u v = condition_holds t u v (f.core.low_words a) (f.core.low_words b) in
        let over : moved (y0 + ly + 4) (pos ln) ≡ end = forward (y0 + ly + 4) ln (omega arith) in
        let O = either (compared t u v) (e ys) (e ns) c in
        let pk : ℕ = either_ticks (compared t u v) (ticks j i ys c + 1) (ticks j i ns c) in
        let tk : ℕ = then_ticks O (λ d. ticks j i k d) in
        let sides : Fits (at (pc + 2) x1 c) → Has (2 + pk) (pc + 2) x1 c O end = λ f0.
        choice (compared t u v) (e ys) (e ns) (IsSafe j i Good Allowed ys c) (IsSafe j i Good Allowed ns c) (ticks j i ys c + 1) (ticks j i ns c) (pc + 2) ly end x1 c (condition_number t) dec (omega arith) h.1.0 h.1.1.0 g f0 sf.0
        (λ s f1. skip (ticks j i ys c) y0 (y0 + ly) end x1 c (e ys c) (pos ln) over hb.0 (code_has_effect ys y0 x1 c lp.0 (omega arith) hy g f1 s))
        (λ s f1. code_has_effect ns n0 x1 c lp.1 (omega arith) hn g f1 s) in
        let all : Fits (at (pc + 2) x1 c) → Has (2 + pk + tk) (pc + 2) x1 c (then_do O (e k)) (end + code_length k) = λ f0.
        seq O (e k) (λ d. IsSafe j i Good Allowed k d) (2 + pk) (λ d. ticks j i k d) (pc + 2) x1 c end (end + code_length k) (sides f0) sf.1 (λ y d g1 f1 s. code_has_effect k end y d lp.2 (omega arith) hk g1 f1 s) in
        ends_at (ticks j i (Test t a b ys ns k) c) pc x c (then_do O (e k)) (end + code_length k) (pc + (12 + ly + ln + code_length k)) (omega arith)
        (more (1 + (2 + pk + tk)) (ticks j i (Test t a b ys ns k) c) (at pc x c) (Shows (then_do O (e k)) (end + code_length k)) (omega (arith, pick_more (compared t u v) (ticks j i ys c) (ticks j i ns c)))
        (quiet (2 + pk + tk) pc (pc + 2) x x1 c c (Shows (then_do O (e k)) (end + code_length k)) g (compare pc x c a b h.0 g f) (λ g0 f0. all f0)))
    code_has_effect (Repeat left most body k) pc x c lo hi h g f sf =
        let named = both (is_low left) (names_low body && names_low k) lo in
        let lp = both (names_low body) (names_low k) named.1 in
        let m = code_length body in
        let q = pc + 2 + 2 + 4 in
        let end = q + m + 2 + 4 in
        let e = effect j i in
        let hb = has_front j i Good q (code body) _ h.1.1.1 in
        let ht = behind j i Good body q _ h.1.1.1 in
        let loop = turns_run left pc m (e body) (λ d. IsSafe j i Good Allowed body d) (omega arith) h.0 h.1.0 h.1.1.0 (λ d. ticks j i body d) (λ x c g f s. code_has_effect body q x c lp.0 (omega arith) hb g f s) ht.0 ht.1.0 most x c g f sf.0 in
        let all = seq (turns most left (e body) c) (e k) (λ d. IsSafe j i Good Allowed k d) (turn_ticks most left (e body) (λ d. ticks j i body d) c) (λ d. ticks j i k d) pc x c end (end + code_length k) loop sf.1 (λ y d g1 f1 s. code_has_effect k end y d lp.1 (omega arith) ht.1.1 g1 f1 s) in
        ends_at (ticks j i (Repeat left most body k) c) pc x c (effect j i (Repeat left most body k) c) (end + code_length k) (pc + (14 + m + code_length k)) (omega arith) all
    code_has_effect (Halt n k) pc x c lo hi h g f sf = halt_run n (code_length k) pc x c h.0 g f
    code_has_effect (Return k) pc x c lo hi h g f sf =
        let p = pc + (10 + code_length k) in
        quiet 1 pc (pc + 4) x x c c (Shows (AtReturn c) p) g (barrier pc x c 0 h.0 g f) (λ g1 f1.
        quiet 0 (pc + 4) (pc + 4 + 4) x x c c (Shows (AtReturn c) p) g1 (barrier (pc + 4) x c 1 h.1.0 g1 f1) (λ g2 f2.
        none (at (pc + 4 + 4) x c) (Shows (AtReturn c) p) (pc + 4 + 4, x, refl, g2, f2, h.1.1.0 c.protection g2)))
    code_has_effect (Go to link k) pc x c lo hi h g f sf = none (at pc x c) (Shows (AtBranch to link c) (pc + (4 + code_length k))) (pc, x, refl, g, f, h.0, h.1.0)

-- the theorem as it is stated
pub effect_of_code : (j : PermissionTest) (i : Image) (Good : ProtectionState → Type 0) (Allowed : Rule) → Laws → CodeHasEffect j i Good Allowed
effect_of_code j i Good Allowed laws lr queues s pc x c rules m =
    code_has_effect j i lr queues Good Allowed laws rules s pc x c m.registers_are_low m.below m.code_stands m.good m.fits m.safe
