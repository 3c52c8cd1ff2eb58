-- Accesses that need no loan: what is in reach the unit permits, and then the step is the one without protection.
use Rattle.std.specs.Prelude.{if◌then◌else◌}
use Rattle.std.proofs.Common.{◌≡◌, ℕ, zero, suc, ◌+◌, ◌%◌, ◌<◌, ◌≤◌, inl, inr, ⊎_elim, Bool, true, false, List, [], ◌∷◌, length, Some, None, nat_eq, nat_lt, refl, sym, ap, ap₂, ◌∙◌, subst, arith}
use Rattle.std.proofs.lemmas.Bool.{false≢true}
use Rattle.base_words.specs.Arithmetic.{word}
use Rattle.machine_thumb.specs.declared.table.Code.{Code}
use Rattle.machine_thumb.specs.declared.table.Code.TheVariants.{Half, Pair}
use Rattle.machine_thumb.specs.declared.table.Instr.{Instr}
use Rattle.machine_thumb.specs.declared.table.Instr.TheVariants.{ShiftImmediate, AddSubRegister, AddSubImmediate, DataImmediate, DataRegister, HighRegister, BranchExchange, LoadLiteral, TransferRegister, TransferImmediate, StackRelative, AdjustStack, PushPop, BreakpointNop, TransferMultiple, BranchConditional, CallBranch, BranchLink, BranchWide, MoveWide, MoveTop, Divide, SpecialRegister, Barrier}
use Rattle.machine_thumb.specs.Table.{encode}
use Rattle.machine_thumb.specs.Decoded.{decoded, decoded_code}
use Rattle.machine_thumb.proofs.Relation.{round_trip}
use Rattle.machine_protection.specs.declared.region.Access.{Access}
use Rattle.machine_protection.specs.declared.region.Access.TheVariants.{Read, Write, Fetch}
use Rattle.machine_devices.specs.declared.image.Image.{Image}
use Rattle.machine_bus.specs.Locations.{location}
use Rattle.machine_bus.specs.Bus.{fetch_at}
use Rattle.machine_model.specs.declared.state.FaultStatus.{FaultStatus}
use Rattle.machine_model.specs.declared.state.ProtectionState.{ProtectionState}
use Rattle.machine_model.specs.declared.state.CoreRegisters.{CoreRegisters}
use Rattle.machine_model.specs.declared.answers.Fetched.TheVariants.{Took}
use Rattle.machine_model.specs.State.{State, Touched, Turn, by_mpu, register}
use Rattle.machine_model.specs.Act.{Act, Changes, Loads, Stores, LoadsMany, StoresMany, GetsSpecial, SetsSpecial, Exchanges, Calls, Halts, Stops}
use Rattle.machine_model.specs.AccessLaw.{free, IsAllowed, AreAllowed}
use Rattle.machine_model.specs.Instructions.{act}
use Rattle.machine_model.specs.Exceptions.{words_from, entered, supervisor_call, mem_manage}
use Rattle.machine_model.specs.Code.{size, HoldsCode, MayFetch, Lies}
use Rattle.machine_model.specs.Step.{turn}
use Rattle.machine_model.specs.Asked.{asked_loads, asked_stores, IsFirstRefused, DoesAct, Stopped, Completed, Called, Faulted}
use Rattle.machine_model.specs.ThreadStep.{ThreadStep, Ends as StepEnds, Goes as StepGoes, Calls as StepCalls, Faults as StepFaults}
use Rattle.machine_model.proofs.Exec.{HasForm, encode_form, taken_of, fetches as fetches_halves}
use Rattle.monitor_model.specs.declared.tables.Tables.{Tables}
use Rattle.monitor_model.specs.Placed.{Placed}
use Rattle.monitor_model.specs.Block.{MonitorBlock}
use Rattle.monitor_model.specs.Invariant.{InvariantHolds, context_of}
use Rattle.monitor_model.specs.Setting.{has_code}
use Rattle.monitor_model.specs.AccessLaw.{InStack, StoresTo, LoadsFrom, InReach, WordsInReach, IsInReach}
use Rattle.monitor_model.proofs.Invariants.{runs_unprivileged}
use Rattle.monitor_confined.specs.ThreadSteps.{LeadsOn, Ends as LeadsToEnd, Goes as LeadsToThread, Calls as LeadsToSvc, Faults as LeadsToFault}
use Rattle.monitor_sound.proofs.ThreadLaws.{ThreadLaws, done_at}
use Rattle.monitor_sound.proofs.Permits.{reads_stack, writes_stack, fetches, loads, stores}

-- ---- what is fetched of an instruction that lies there

taken_is : (c : Code) (n : ℕ) (x : Instr) → HasForm c n → decoded_code c 0 ≡ Some x → (h k m : ℕ) (y : Instr) → taken_of c ≡ Took h k m → decoded h k ≡ Some y → (x ≡ y) × (n ≡ m)
taken_is (Half g) n x f d h k m y e q =
    let a : g ≡ h = cc in
    let b : 0 ≡ k = cc in
    let c : 2 ≡ m = cc in
    let same : Some x ≡ Some y = sym d ∙ ap₂ decoded a b ∙ q in
    let z : x ≡ y = cc in
    (z, f.1 ∙ c)
taken_is (Pair g l) n x f d h k m y e q =
    let a : g ≡ h = cc in
    let b : l ≡ k = cc in
    let c : 4 ≡ m = cc in
    let same : Some x ≡ Some y = sym d ∙ ap₂ decoded a b ∙ q in
    let z : x ≡ y = cc in
    (z, f.1 ∙ c)

pub free_fetch : (p : ProtectionState) (pc : ℕ) (c : Code) → MayFetch free p pc c
free_fetch p pc (Half h) = refl
free_fetch p pc (Pair h k) = (refl, refl)

abbrev Fetchable : State → ℕ → Type 0
Fetchable s n = (a : ℕ) → s.core.pc ≤ a → a < s.core.pc + n → by_mpu s.protection Fetch a ≡ true

may_fetch : (s : State) (c : Code) (n : ℕ) → HasForm c n → Fetchable s n → MayFetch by_mpu s.protection s.core.pc c
may_fetch s (Half h) n f m = let e = f.1 in m s.core.pc (omega arith) (omega (arith, e))
may_fetch s (Pair h k) n f m = let e = f.1 in (m s.core.pc (omega arith) (omega (arith, e)), m (s.core.pc + 2) (omega arith) (omega (arith, e)))

first_byte : (s : State) (c : Code) (n : ℕ) → HasForm c n → Fetchable s n → by_mpu s.protection Fetch s.core.pc ≡ true
first_byte s (Half h) n f m = let e = f.1 in m s.core.pc (omega arith) (omega (arith, e))
first_byte s (Pair h k) n f m = let e = f.1 in m s.core.pc (omega arith) (omega (arith, e))

second_half : (i : Image) (s : State) (c : Code) (n : ℕ) → HasForm c n → HoldsCode i s.core.pc c → Fetchable s n →
    (h : ℕ) → fetch_at (location i s.core.pc) i s.ram ≡ Some h → nat_lt h 0xE800 ≡ false → by_mpu s.protection Fetch (s.core.pc + 2) ≡ true
second_half i s (Half g) n f c m h e long =
    let p = c.is_in_flash in
    let r = c.is_half in
    let there : fetch_at (location i s.core.pc) i s.ram ≡ Some g = rw (p, r) refl in
    let same : Some g ≡ Some h = sym there ∙ e in
    let z : g ≡ h = cc in
    absurd (false≢true (sym long ∙ ap (λ a. nat_lt a 0xE800) (sym z) ∙ f.0))
second_half i s (Pair g k) n f c m h e long = let z = f.1 in m (s.core.pc + 2) (omega arith) (omega (arith, z))

-- ---- no instruction asks for an access of no bytes

abbrev HasWidth : Act → Type 0
HasWidth (Loads w a go) = 0 < w
HasWidth (Stores w a v c) = 0 < w
HasWidth _ = Unit {0}

some : (n : ℕ) → 0 < suc n
some n = omega arith

pick : (b : Bool) (x y : Act) → HasWidth x → HasWidth y → HasWidth (if b then x else y)
pick true x y f g = f
pick false x y f g = g

act_width : (x : Instr) (next : ℕ) (c : CoreRegisters) → HasWidth (act x next c)
unfolding act
act_width (ShiftImmediate op imm5 m d) next c = tt
act_width (AddSubRegister op m n d) next c = tt
act_width (AddSubImmediate op imm3 n d) next c = tt
act_width (DataImmediate op d imm8) next c = tt
act_width (DataRegister op m d) next c = tt
act_width (HighRegister op m d) next c = tt
act_width (BranchExchange op m) next c = pick (nat_eq op 0) _ _ tt (pick (nat_eq (register c m % 2) 1) _ _ tt tt)
act_width (LoadLiteral t imm8) next c = some 3
act_width (TransferRegister op m n t) next c =
    pick (nat_eq op 0) _ _ (some 3) (pick (nat_eq op 1) _ _ (some 1) (pick (nat_eq op 2) _ _ (some 0) (pick (nat_eq op 3) _ _ (some 0) (pick (nat_eq op 4) _ _ (some 3) (pick (nat_eq op 5) _ _ (some 1) (pick (nat_eq op 6) _ _ (some 0) (some 1)))))))
act_width (TransferImmediate op imm5 n t) next c =
    pick (nat_eq op 0) _ _ (some 3) (pick (nat_eq op 1) _ _ (some 3) (pick (nat_eq op 2) _ _ (some 0) (pick (nat_eq op 3) _ _ (some 0) (pick (nat_eq op 4) _ _ (some 1) (some 1)))))
act_width (StackRelative op t d imm8) next c = pick (nat_eq op 0) _ _ (some 3) (pick (nat_eq op 1) _ _ (some 3) tt)
act_width (AdjustStack op imm7) next c = tt
act_width (PushPop op m p list) next c = pick (nat_eq op 0) _ _ tt tt
act_width (BreakpointNop op imm8) next c = pick (nat_eq op 0) _ _ tt tt
act_width (TransferMultiple op n list) next c = pick (nat_eq op 0) _ _ tt tt
act_width (BranchConditional cond offset) next c = tt
act_width (CallBranch op imm8 offset) next c = pick (nat_eq op 0) _ _ tt tt
act_width (BranchLink offset) next c = tt
act_width (BranchWide offset) next c = tt
act_width (MoveWide d value) next c = tt
act_width (MoveTop d value) next c = tt
act_width (Divide op n d m) next c = tt
act_width (SpecialRegister op n d s) next c = pick (nat_eq op 0) _ _ tt tt
act_width (Barrier op) next c = tt

-- ---- what an entry does is nothing that an instruction asks for

not_entry : (y : Act) (s : State) (a : ℕ) (v : Touched) → asked_stores y ≡ words_from a 8 → asked_loads s y ≡ v ∷ [] → ⊥
unfolding words_from
not_entry (Changes c) s a v e f = cc
not_entry (Loads w b go) s a v e f = cc
not_entry (Stores w b u c) s a v e f = cc
not_entry (LoadsMany b n go) s a v e f = cc
not_entry (StoresMany b vs c) s a v e f = cc
not_entry (GetsSpecial n d c) s a v e f = cc
not_entry (SetsSpecial n u c) s a v e f = cc
not_entry (Exchanges u) s a v e f = cc
not_entry (Calls next) s a v e f = cc
not_entry (Halts n) s a v e f = cc
not_entry (Stops r) s a v e f = cc

never_refused : (i : Image) (p : ProtectionState) (kind : Access) (xs : List Touched) (y : ℕ) → IsFirstRefused free i p kind xs y → ⊥
never_refused i p kind [] y h = h
never_refused i p kind (x ∷ xs) y (inl h) = false≢true (sym h.1.refused)
never_refused i p kind (x ∷ xs) y (inr h) = never_refused i p kind xs y h.1

module _ (i : Image) (t : Tables) (m : MonitorBlock) (s : State) where
  no_entry : (y : Act) (tn : Turn) → DoesAct free i s y tn → IsInReach i t m y → (n ret : ℕ) (u : FaultStatus) → tn ≡ entered true i n ret u s → ⊥
  no_entry y tn (Stopped e q) r n ret u z = let w : [] ≡ (entered true i n ret u s).loads = ap (λ (x : Turn). x.loads) (sym q ∙ z) in cc
  no_entry y tn (Completed a b c) r n ret u z = not_entry y s _ _ (sym a ∙ ap (λ (x : Turn). x.stores) z) (sym b ∙ ap (λ (x : Turn). x.loads) z)
  no_entry y tn (Called next e a b c) r n ret u z = subst (IsInReach i t m) e r
  no_entry y tn (Faulted a f b c d e) r n ret u z = ⊎_elim (λ x. never_refused i s.protection Read (asked_loads s y) a x) (λ x. never_refused i s.protection Write (asked_stores y) a x) f

module _ (laws : ThreadLaws) (i : Image) (t : Tables) (p : Placed i t) (m : MonitorBlock) (s : State) (h : InvariantHolds i t m s) (live : s.ending ≡ None) where
  -- ---- what is in reach is permitted

  stack_reads : (a : ℕ) → InStack i t m a → by_mpu s.protection Read a ≡ true
  stack_reads a f = reads_stack laws.unit i t p m (context_of s) s.ram h.inv a f.0 f.1

  stack_writes : (a : ℕ) → InStack i t m a → by_mpu s.protection Write a ≡ true
  stack_writes a f = writes_stack laws.unit i t p m (context_of s) s.ram h.inv a f.0 f.1

  read_from : (a : ℕ) → LoadsFrom i t m a → by_mpu s.protection Read a ≡ true
  read_from a (inl f) = stack_reads a f
  read_from a (inr f) = loads laws.unit i t p m (context_of s) s.ram h.inv a f

  written_to : (a : ℕ) → StoresTo i t m a → by_mpu s.protection Write a ≡ true
  written_to a (inl f) = stack_writes a f
  written_to a (inr f) = stores laws.unit i t p m (context_of s) s.ram h.inv a f

  -- of the first byte
  first_of : (P : ℕ → Type 0) (w a : ℕ) → 0 < w → InReach i t m P w a → P a
  first_of P w a some r = let z : a + 0 ≡ a = omega arith in subst P z (r.bytes 0 some)

  words_read : (n a : ℕ) → WordsInReach i t m a n → AreAllowed by_mpu s.protection Read a n
  words_read zero a f = tt
  words_read (suc n) a f = (stack_reads a (first_of (InStack i t m) 4 a (omega arith) f.0), words_read n (word (a + 4)) f.1)

  words_written : (n a : ℕ) → WordsInReach i t m a n → AreAllowed by_mpu s.protection Write a n
  words_written zero a f = tt
  words_written (suc n) a f = (stack_writes a (first_of (InStack i t m) 4 a (omega arith) f.0), words_written n (word (a + 4)) f.1)

  act_allowed : (y : Act) → HasWidth y → IsInReach i t m y → IsAllowed by_mpu s y
  act_allowed (Changes c) w f = tt
  act_allowed (Loads n a go) w f = read_from a (first_of (LoadsFrom i t m) n a w f)
  act_allowed (Stores n a v c) w f = written_to a (first_of (StoresTo i t m) n a w f)
  act_allowed (LoadsMany a n go) w f = words_read n a f
  act_allowed (StoresMany a vs c) w f = words_written (length vs) a f
  act_allowed (GetsSpecial n d c) w f = tt
  act_allowed (SetsSpecial n v c) w f = tt
  act_allowed (Exchanges v) w f = λ psp r. absurd (false≢true (sym h.inv.thread ∙ r.0))
  act_allowed (Calls next) w f = absurd f
  act_allowed (Halts n) w f = tt
  act_allowed (Stops r) w f = tt

  -- ---- the step

  pub same_turn : (x : Instr) → Lies i s.core.pc x → Fetchable s (size x) → IsAllowed by_mpu s (act x (s.core.pc + size x) s.core) → turn by_mpu i s ≡ turn free i s
  same_turn x lies may ok =
      let f = encode_form x lies.in_table in
      laws.allowed by_mpu i s (record {
        first = first_byte s (encode x) (size x) f may;
        second = second_half i s (encode x) (size x) f lies.code may;
        data_accesses = λ a b n y took dec.
            let g = fetches_halves free i s (encode x) (size x) lies.code (free_fetch s.protection s.core.pc (encode x)) f in
            let z = taken_is (encode x) (size x) x f (round_trip x 0 lies.in_table) a b n y (sym g ∙ took) dec in
            subst (λ (q : Instr). IsAllowed by_mpu s (act q (s.core.pc + n) s.core)) z.0 (subst (λ (k : ℕ). IsAllowed by_mpu s (act x (s.core.pc + k) s.core)) z.1 ok);
      })

  -- where the machine has not ended it has gone on
  pub by_lead : (tn : Turn) → tn ≡ turn by_mpu i s → tn.to.protection ≡ s.protection → tn.to.ending ≡ None → LeadsOn i t m s → InvariantHolds i t m (turn by_mpu i s).to
  by_lead tn q same on (LeadsToEnd e z) = let w : None ≡ Some e = sym on ∙ ap (λ (x : Turn). x.to.ending) (q ∙ z) in cc
  by_lead tn q same on (LeadsToThread g z) = g
  by_lead tn q same on (LeadsToSvc n few is fr z) = absurd (false≢true (sym (ap (λ (x : ProtectionState). x.handler) same ∙ h.inv.thread) ∙ ap (λ (x : Turn). x.to.protection.handler) q ∙ ap (λ (x : State). x.protection.handler) z))
  by_lead tn q same on (LeadsToFault u f fr z) = absurd (false≢true (sym (ap (λ (x : ProtectionState). x.handler) same ∙ h.inv.thread) ∙ ap (λ (x : Turn). x.to.protection.handler) q ∙ ap (λ (x : State). x.protection.handler) z))

  by_step : ThreadStep i s (turn by_mpu i s) → (y : Act) → DoesAct free i s y (turn by_mpu i s) → IsInReach i t m y → (turn by_mpu i s).to.ending ≡ None → InvariantHolds i t m (turn by_mpu i s).to
  by_step (StepEnds e z) y d r on = let w : None ≡ Some e = sym on ∙ ap (λ (x : Turn). x.to.ending) z in cc
  by_step (StepGoes x next tk plain) y d r on = by_lead (turn by_mpu i s) refl plain.protection on (laws.lead i t m s p h live)
  by_step (StepCalls n few f fr z) y d r on = absurd (no_entry i t m s y (turn by_mpu i s) d r supervisor_call (s.core.pc + 2) s.status z)
  by_step (StepFaults u f en fr z) y d r on = absurd (no_entry i t m s y (turn by_mpu i s) d r mem_manage s.core.pc u z)

  -- the bytes of an instruction of CUR may be fetched
  pub code_fetches : (x : Instr) → ((a : ℕ) → s.core.pc ≤ a → a < s.core.pc + size x → has_code t m.current a ≡ true) → Fetchable s (size x)
  code_fetches x code a lo hi = fetches laws.unit i t p m (context_of s) s.ram h.inv a (code a lo hi)

  pub direct : (x : Instr) → Lies i s.core.pc x → ((a : ℕ) → s.core.pc ≤ a → a < s.core.pc + size x → has_code t m.current a ≡ true) → IsInReach i t m (act x (s.core.pc + size x) s.core) →
      (turn by_mpu i s ≡ turn free i s) × ((turn by_mpu i s).to.ending ≡ None → InvariantHolds i t m (turn by_mpu i s).to)
  direct x lies code r =
      let may = code_fetches x code in
      let same = same_turn x lies may (act_allowed (act x (s.core.pc + size x) s.core) (act_width x (s.core.pc + size x) s.core) r) in
      let d : DoesAct free i s (act x (s.core.pc + size x) s.core) (turn free i s) = done_at laws.done free i s x live (record { lies = lies; may_fetch = free_fetch s.protection s.core.pc (encode x) }) in (
        same,
        λ on. by_step (laws.steps i s (runs_unprivileged h.inv) live) (act x (s.core.pc + size x) s.core)
            (subst (λ (tn : Turn). DoesAct free i s (act x (s.core.pc + size x) s.core) tn) (sym same) d) r on,
      )
