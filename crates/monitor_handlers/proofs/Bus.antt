-- SVC 0 whose halfword would lie behind flash: the load of it stops the machine. The language has the effect of what stands before the
-- test of the number; the test, its branch and the load are single steps.
use Rattle.std.proofs.Common.{◌≡◌, ℕ, pos, ◌+◌, ◌-◌, ◌*◌, ◌%◌, ◌^◌, ◌<◌, ◌≤◌, ◌⊎◌, inl, inr, ⊎_elim, true, false, List, [], ◌++◌, nat_eq, refl, sym, ap, ap₂, ◌∙◌, subst, arith}
use Rattle.std.proofs.lemmas.Bool.Decides.{nat_tests}
use Rattle.std.proofs.lemmas.Int.{ints}
use Rattle.base_words.specs.Arithmetic.{word, moved}
use Rattle.base_words.specs.Flags.{holds, compare_flags}
use Rattle.base_words.specs.Bytes.{read}
use Rattle.base_words.specs.Runs.{run}
use Rattle.base_words.proofs.Runs.{run-add}
use Rattle.machine_thumb.specs.declared.table.Instr.TheVariants.{DataRegister, BranchConditional, TransferImmediate}
use Rattle.machine_protection.specs.declared.region.Access.TheVariants.{Read}
use Rattle.machine_protection.specs.declared.TheConstants.{MPU_CTRL}
use Rattle.machine_devices.specs.declared.image.Image.{Image}
use Rattle.machine_devices.specs.Rules.{block_size}
use Rattle.machine_bus.specs.Locations.{Nowhere, location}
use Rattle.machine_model.specs.declared.state.ProtectionState.{ProtectionState}
use Rattle.machine_model.specs.declared.state.StopReason.TheVariants.{Bus}
use Rattle.machine_model.specs.declared.answers.Verdict.TheVariants.{ToBus}
use Rattle.machine_model.specs.State.{State, Turn, by_mpu, calm, stops}
use Rattle.machine_model.specs.Instructions.{act, load_into}
use Rattle.machine_model.specs.System.{in_system}
use Rattle.machine_model.specs.Tests.{verdict}
use Rattle.machine_model.specs.Exceptions.{return_on_psp}
use Rattle.machine_model.specs.Step.{turn, step}
use Rattle.machine_model.specs.Accessed.{NothingStops}
use Rattle.machine_model.specs.Code.{size, CodeIn, CodeAt}
use Rattle.machine_model.specs.Running.{code_size}
use Rattle.machine_model.proofs.Exec.{code_may_run, stepped}
use Rattle.machine_model.proofs.Transfers.{loads_halves}
use Rattle.machine_model.proofs.Turns.{changes_turn}
use Rattle.machine_model.specs.Perform.{perform}
use Rattle.monitor_steps.specs.Steps.{PrivilegedSteps, End, Const, Test, Halt, ◌▸◌}
use Rattle.monitor_steps.specs.declared.steps.PrivilegedCond.TheVariants.{Eq}
use Rattle.monitor_steps.specs.Core.{Core}
use Rattle.monitor_steps.specs.Effect.{Outcome as PrivilegedOutcome, Went}
use Rattle.monitor_steps.specs.Code.{code}
use Rattle.monitor_steps.specs.Runs.{Scratch, registers, at}
use Rattle.monitor_steps.proofs.Within.{const_within, at_within, no_within, next_within, end_within}
use Rattle.monitor_model.specs.declared.tables.Tables.{Tables}
use Rattle.monitor_model.specs.Block.{MonitorBlock}
use Rattle.monitor_model.specs.Handlers.{Handles, Leads, LoadFor}
use Rattle.monitor_model.specs.Outcomes.{Halts, StopsAtBus}
use Rattle.monitor_model.specs.MonitorLaw.{Shows}
use Rattle.monitor_model.specs.Halts.{halt_number}
use Rattle.monitor_model.specs.Reach.{AllBytes, StoreKind, LoadKind}
use Rattle.monitor_program.specs.Constants.{Constants, constants_with}
use Rattle.monitor_program.specs.Svc.{enter, leave, lend, unlend, on_number, svc}
use Rattle.monitor_laws.proofs.Off.{core, IsOff, open_while_off}
use Rattle.monitor_laws.proofs.Appended.{followed_by, code_followed}
use Rattle.monitor_laws.proofs.Opened.{FrameIsOpen}
use Rattle.monitor_laws.proofs.SvcNumber.{Called, numbered as up_to_number, numbered_within}
use Rattle.monitor_handlers.proofs.Calling.{Calling, off, is_off, halted, same, top_word, top_word_below, word_before, offset_low}
use Rattle.monitor_handlers.proofs.Numbers.{W, Q, at_first, premises}
use Rattle.monitor_handlers.proofs.Mode.{good_while_off}
use Rattle.monitor_handlers.proofs.Returned.{is_before, left_of}
use Rattle.base_laws.specs.Lists.{Each}

-- a load outside the system's part of the memory map goes to the bus
to_bus : (q : ProtectionState) (w a : ℕ) → a % w ≡ 0 → a < 0xE0000000 → by_mpu q Read a ≡ true → verdict by_mpu q Read w a ≡ ToBus
unfolding verdict
to_bus q w a aligned low may =
    let e : nat_eq (a % w) 0 ≡ true = search (nat_tests, arith) in
    let z : in_system a ≡ false = search (nat_tests, arith) in
    rw (e, z, may)

-- a step more
pub further : (i : Image) (t : Tables) (s : State) (most : ℕ) (from v w : State) → Leads i t s most from (λ u. u ≡ v) → Handles i t s v → step i v ≡ w → Leads i t s (most + 1) from (λ u. u ≡ w)
unfolding run
further i t s most from v w l h e = record {
  count = l.count + 1;
  within = let x = l.within in omega (arith, x);
  each = λ k lt. ⊎_elim (λ x. l.each k x) (λ x. subst (λ u. Handles i t s u) (sym (ap (λ n. run (step i) n from) x ∙ l.holds)) h) (is_before k l.count lt);
  holds = run-add (step i) l.count 1 from ∙ ap (λ u. step i u) l.holds ∙ e;
}

-- a step without accesses
calm_handles : (i : Image) (t : Tables) (s v w : State) → v.protection.handler ≡ true → turn by_mpu i v ≡ calm w → Handles i t s v
calm_handles i t s v w h e = record {
  handler = h;
  quiet = ap (λ (u : Turn). u.event) e;
  stores = subst (λ l. Each (AllBytes (StoreKind i t v)) l) (sym (ap (λ (u : Turn). u.stores) e)) tt;
  loads = λ closed. subst (λ l. Each (AllBytes (LoadKind i t v)) l) (sym (ap (λ (u : Turn). u.loads) e)) tt;
  loads_for = λ closed. subst (λ l. Each (AllBytes (LoadFor i t s)) l) (sym (ap (λ (u : Turn). u.loads) e)) tt;
}

module _ (nothing : NothingStops) (equal : holds 0 (compare_flags 0 0) ≡ true) (i : Image) (t : Tables) (stub : ℕ) (s : State) (m : MonitorBlock) (psp o : ℕ) (memory : List ℕ) (c : Calling i t s m psp o memory) (ret : ℕ) (return_is : read 4 (o + 24) memory ≡ ret) (called : Called i ret 0) (even : ret % 2 ≡ 0) (low_ret : ret < 0x20000000) (none : location i ret ≡ Nowhere) where
  abbrev k : Constants
  k = constants_with stub t

  abbrev msp : ℕ
  msp = t.monitor + block_size

  abbrev here : ProtectionState
  here = off i t stub s m psp o memory c

  here_off : IsOff true here
  here_off = is_off i t stub s m psp o memory c

  -- ---- the list in two parts

  abbrev pub before : PrivilegedSteps
  before = up_to_number (premises i t stub s m psp o memory c) (on_number 3 unlend ▸ on_number 2 (lend k) ▸ Const 6 0 ▸ End)

  abbrev pub others : PrivilegedSteps
  others = on_number 1 (leave k) ▸ Halt halt_number ▸ End

  abbrev pub the_test : PrivilegedSteps
  the_test = Test Eq 5 6 (enter k) End others

  parts : followed_by before the_test ≡ svc k
  parts = refl

  pub code_parts_are : code (svc k) ≡ code before ++ code the_test
  code_parts_are = ap code (sym parts) ∙ code_followed before the_test

  -- ---- before the test

  abbrev pub at_test : Core
  at_test = core msp psp here s.status memory psp k.block k.stack m.top ret 0 0 0

  abbrev pub Ends : PrivilegedOutcome → Type 0
  Ends z = ((Q i t stub s m psp o memory c (Halts 4) z) × (FrameIsOpen i t o memory → ⊥)) ⊎ ((z ≡ Went at_test) × FrameIsOpen i t o memory)

  pub before_within : (a0 a1 a2 a3 a4 a5 a6 a7 : ℕ) → W i t stub s m psp o memory c 68 before [] (at_first i t stub s m psp o memory c a0 a1 a2 a3 a4 a5 a6 a7) Ends
  before_within a0 a1 a2 a3 a4 a5 a6 a7 =
      numbered_within (premises i t stub s m psp o memory c) o 0 refl refl c.at c.aligned (offset_low i t stub s m psp o memory c) (top_word_below i t stub s m psp o memory c) (word_before i t stub s m psp o memory c) (subst (λ r. Called i r 0) (sym return_is) called)
      (λ d r shut. inl (halted i t stub s m psp o memory c 4 d r, shut))
      (λ q1 eq off1 f.
      at_within (ap (λ q. core msp psp q s.status memory psp k.block k.stack (read 4 (t.monitor - i.ram_base + 4) memory) (read 4 (o + 24) memory) 0 MPU_CTRL 0) eq ∙ ap₂ (λ x y. core msp psp here s.status memory psp k.block k.stack x y 0 MPU_CTRL 0) (top_word i t stub s m psp o memory c) return_is)
      (const_within (no_within refl (next_within (const_within (no_within refl (next_within (const_within (end_within (inr (refl, f)))))))))))

  -- ---- the three steps

  module _ (pc : ℕ) (has : CodeIn i pc (code the_test)) (from_flash : i.flash_base ≤ pc) (in_page : pc + code_size (code the_test) ≤ i.flash_base + 4096) (queues : List (List ℕ)) (x : Scratch) where
    stands : CodeAt by_mpu i here pc (code the_test)
    stands = code_may_run by_mpu i here (code the_test) pc has (λ a lo hi. (good_while_off i c.placed.rules here here_off).fetched a (omega (arith, lo, from_flash)) (omega (arith, hi, in_page)))

    abbrev y : Scratch
    y = record x { flags = compare_flags 0 0 }

    abbrev pub v0 : State
    v0 = at return_on_psp queues pc x at_test

    abbrev v1 : State
    v1 = at return_on_psp queues (pc + 2) y at_test

    abbrev v2 : State
    v2 = at return_on_psp queues (pc + 2 + 2 + 4) y at_test

    abbrev v3 : State
    v3 = (stops Bus v2).to

    low_pc : pc < 2 ^ 30
    low_pc = let h = c.placed.rules.flash_highest in let z = in_page in omega (arith, h, z)

    first_turn : turn by_mpu i v0 ≡ calm v1
    unfolding act
    first_turn = changes_turn by_mpu i (registers return_on_psp queues pc x at_test) here s.status memory queues (DataRegister 10 6 5) stands.0 (registers return_on_psp queues (pc + 2) y at_test) refl

    second_turn : turn by_mpu i v1 ≡ calm v2
    unfolding act
    second_turn =
        let z : moved (pc + 2 + 2 + 2) (pos 2) ≡ pc + 2 + 2 + 4 = (let l = low_pc in omega (arith, ints, l)) in
        let e = equal in
        changes_turn by_mpu i (registers return_on_psp queues (pc + 2) y at_test) here s.status memory queues (BranchConditional 0 (pos 2)) stands.1.0 (registers return_on_psp queues (pc + 2 + 2 + 4) y at_test) (rw (e, z) refl)

    bus : verdict by_mpu here Read 2 ret ≡ ToBus
    bus = to_bus here 2 ret even (omega (arith, low_ret)) ((open_while_off here here_off.control).reads ret)

    asks : act (TransferImmediate 5 0 4 5) (pc + 2 + 2 + 4 + size (TransferImmediate 5 0 4 5)) (registers return_on_psp queues (pc + 2 + 2 + 4) y at_test) ≡ load_into 5 2 ret (pc + 2 + 2 + 4 + 2) (registers return_on_psp queues (pc + 2 + 2 + 4) y at_test)
    unfolding act
    asks =
        loads_halves 0 ret 5 (pc + 2 + 2 + 4 + 2) (registers return_on_psp queues (pc + 2 + 2 + 4) y at_test)
        ∙ (let z : word (ret + 2 * 0) ≡ ret = omega (arith, low_ret) in ap (λ a. load_into 5 2 a (pc + 2 + 2 + 4 + 2) (registers return_on_psp queues (pc + 2 + 2 + 4) y at_test)) z)

    third_turn : turn by_mpu i v2 ≡ stops Bus v2
    third_turn =
        stepped by_mpu i (registers return_on_psp queues (pc + 2 + 2 + 4) y at_test) here s.status memory queues (TransferImmediate 5 0 4 5) stands.1.1.1.0
        ∙ ap (λ a. perform by_mpu i a v2) asks
        ∙ (nothing by_mpu i v2 ret none).loads 2 _ bus

    ended_there : Shows i t StopsAtBus s m memory v3
    ended_there = (pc + 2 + 2 + 4, record { ended = record { ending = refl; handler = refl }; is_left = left_of i t m m memory v3 (same i t stub s m psp o memory c) })

    pub stopped : (most : ℕ) (from : State) → Leads i t s most from (λ u. u ≡ v0) → Leads i t s (most + 3) from (Shows i t StopsAtBus s m memory)
    stopped most from l =
        let l1 = further i t s most from v0 v1 l (calm_handles i t s v0 v1 refl first_turn) (ap (λ (u : Turn). u.to) first_turn) in
        let l2 = further i t s (most + 1) from v1 v2 l1 (calm_handles i t s v1 v2 refl second_turn) (ap (λ (u : Turn). u.to) second_turn) in
        let l3 = further i t s (most + 1 + 1) from v2 v3 l2 (calm_handles i t s v2 v3 refl third_turn) (ap (λ (u : Turn). u.to) third_turn) in
        record { count = l3.count; within = let w = l3.within in omega (arith, w); each = l3.each; holds = subst (λ u. Shows i t StopsAtBus s m memory u) (sym l3.holds) ended_there }
