-- A call of the monitor behind the entry, and the answers of lend and unlend.
use Rattle.std.specs.Prelude.{if◌then◌else◌, nat_le}
use Rattle.std.proofs.Common.{◌≡◌, ◌≢◌, ℕ, suc, ◌+◌, ◌-◌, ◌*◌, ◌/◌, ◌%◌, ◌^◌, ◌<◌, ◌≤◌, ◌⊎◌, inl, inr, ⊎_elim, Bool, true, false, ◌&&◌, List, [], ◌∷◌, length, nat_eq, nat_lt, refl, sym, ap, ap₂, ◌∙◌, subst, arith}
use Rattle.std.specs.Int.{bit_at}
use Rattle.std.proofs.lemmas.Bool.{ltb-true, eqb-true, leb-true, lt-ltb, eq-eqb, ne_eqb, le-leb, and_from, and_parts as both}
use Rattle.base_words.specs.Arithmetic.{subtract}
use Rattle.base_words.specs.Bytes.{read, write}
use Rattle.machine_devices.specs.declared.image.Image.{Image}
use Rattle.machine_devices.specs.Rules.{block_size}
use Rattle.machine_model.specs.declared.state.ProtectionState.{ProtectionState}
use Rattle.machine_model.specs.State.{State}
use Rattle.monitor_steps.specs.Core.{Core}
use Rattle.monitor_steps.specs.Effect.{Outcome as PrivilegedOutcome, Halted, AtReturn}
use Rattle.monitor_steps.proofs.Gives.{word_same, word_fits}
use Rattle.monitor_model.specs.declared.tables.Tables.{Tables}
use Rattle.monitor_model.specs.Records.{site_at, stack_end, eighth, lend_size}
use Rattle.monitor_model.specs.Layout.{tables_size}
use Rattle.monitor_model.specs.Area.{HasTables}
use Rattle.monitor_model.specs.Regions.{regions_for}
use Rattle.monitor_model.specs.Placed.{Placed}
use Rattle.monitor_model.specs.Block.{Loan, MonitorBlock, lent, unlent}
use Rattle.monitor_model.specs.BlockWords.{block_word, top as top_of, IsBlock, HasLoans}
use Rattle.monitor_model.specs.Invariant.{IsTop, InvariantHolds}
use Rattle.monitor_model.specs.Handlers.{LoadFor, ForStack}
use Rattle.monitor_model.specs.Outcomes.{Outcome, Halts, Resumes, stacked, is_open, status_place}
use Rattle.monitor_model.specs.SvcOutcome.{word, new_loan, may_lend, lend, unlend_to, by_number, svc_outcome}
use Rattle.monitor_model.proofs.Invariants.{few_callers}
use Rattle.monitor_laws.proofs.Off.{core, with_unit, IsOff}
use Rattle.monitor_laws.proofs.Fetched.{UnitLaws, page_is_fetched}
use Rattle.monitor_laws.proofs.Opened.{FrameIsOpen}
use Rattle.monitor_laws.proofs.HandlerWords.{InStack, Changed, changed_write}
use Rattle.monitor_laws.proofs.LeaveWords.{beside, stored}
use Rattle.monitor_laws.proofs.Lend.{MayLend, with_loan}
use Rattle.monitor_handlers.proofs.Frames.{stacked_is}
use Rattle.monitor_handlers.proofs.Blocks.{saved_stay, loans_stay}
use Rattle.monitor_handlers.proofs.Returned.{LeavesRam, Resuming, Answers}
use Rattle.monitor_handlers.proofs.Mode.{IsGood}
use Rattle.monitor_handlers.proofs.Targets.{SiteFits}
use Rattle.monitor_laws.proofs.Placement.{Installed}

-- what is known behind the entry, from a thread's state s with block m: the frame at psp, and RAM
pub record Calling (i : Image) (t : Tables) (s : State) (m : MonitorBlock) (psp o : ℕ) (memory : List ℕ) : Type 0 where
  pub placed : Placed i t
  pub tables : HasTables i t
  pub room : 4096 ≤ tables_size t
  pub sites : (n : ℕ) → n < length t.sites → SiteFits t (site_at t n)
  pub invariant : InvariantHolds i t m s
  pub at : psp ≡ i.ram_base + o
  pub aligned : o % 4 ≡ 0
  pub fits : o + 32 ≤ i.ram_size
  pub is_block : IsBlock i t memory m
  pub as_long : length memory ≡ i.ram_size

-- the monitor in the image of a call
abbrev pub installed_at : {i : Image} {t : Tables} {s : State} {m : MonitorBlock} {psp o : ℕ} {memory : List ℕ} → Calling i t s m psp o memory → (stub : ℕ) → Installed
installed_at {i} {t} c stub = record { image = i; tables = t; placed = c.placed; has_tables = c.tables; stub = stub }

module _ (i : Image) (t : Tables) (stub : ℕ) (s : State) (m : MonitorBlock) (psp o : ℕ) (memory : List ℕ) (c : Calling i t s m psp o memory) where
  abbrev b : ℕ
  b = t.monitor - i.ram_base

  -- in the handler, and with the unit off
  abbrev pub in_handler : ProtectionState
  in_handler = record s.protection { handler = true }

  abbrev pub off : ProtectionState
  off = with_unit in_handler (record s.protection.mpu { control = 0 })

  pub is_off : IsOff true off
  is_off = record { mode = refl; privileged = refl; control = refl }

  abbrev pub A : Outcome → PrivilegedOutcome → Type 0
  A h z = Answers i t s m memory h z

  -- ---- which code may be fetched

  pub good_on : UnitLaws → (q : ProtectionState) (cur top : ℕ) → cur < length t.comps → q.handler ≡ true → q.mpu.control ≡ 5 → q.mpu.regions ≡ regions_for i t cur top → IsGood i q
  good_on laws q cur top lt h e r = record { mode = h; fetched = λ a lo hi. page_is_fetched laws i t c.placed c.room cur top lt a lo hi q e r }

  pub good_entry : UnitLaws → IsGood i in_handler
  good_entry laws = good_on laws in_handler m.current m.top c.invariant.inv.orderly.current_in refl c.invariant.inv.control c.invariant.inv.regions

  pub good_again : UnitLaws → IsGood i (with_unit off (record off.mpu { control = 5 }))
  good_again laws = good_on laws (with_unit off (record off.mpu { control = 5 })) m.current m.top c.invariant.inv.orderly.current_in refl refl c.invariant.inv.regions

  -- ---- the unit on again

  same_unit : (q : ProtectionState) → q ≡ with_unit off (record off.mpu { control = 5 }) → q.mpu ≡ s.protection.mpu
  same_unit q e = ap (λ q. q.mpu) e ∙ ap (λ n. record s.protection.mpu { control = n }) (sym c.invariant.inv.control)

  -- ---- RAM as it was

  pub same : LeavesRam i t m m memory memory
  same = record { is_block = c.is_block; is_memory = record { reads = λ w a h. refl; as_long = refl }; words_stay = λ e. record { reads = λ w a h. refl; as_long = refl } }

  pub halted : (n : ℕ) (d : Core) → d.ram ≡ memory → A (Halts n) (Halted n d)
  halted n d e = (d, refl, subst (λ r. LeavesRam i t m m memory r) (sym e) same)

  -- ---- the frame in the open stack

  pub top_below : m.top ≤ stack_end t
  top_below =
      let z = c.invariant.inv.orderly.is_top in
      let few : z.0 ≤ 8 = (let x = z.3 in omega (arith, x)) in
      let most : z.0 * eighth t ≤ 8 * eighth t = grind (arith, few) in
      let at = z.1 in
      omega (arith, most, at)

  pub top_word : read 4 (b + 4) memory ≡ m.top
  top_word = c.is_block.top_is

  pub top_word_below : read 4 (b + 4) memory ≤ stack_end t
  top_word_below = let e = top_word in let h = top_below in omega (arith, e, h)

  pub frame : FrameIsOpen i t o memory → InStack i t o m.top
  frame f = record {
    aligned = c.aligned;
    low = f.low;
    high = let h = f.high in let e = top_word in omega (arith, h, e);
    ends = top_below;
  }

  -- below the TOP of the thread's state
  pub top_before : m.top ≤ top_of i t s.ram
  top_before = let e = c.invariant.inv.is_block.top_is in omega (arith, e)

  pub word_before : read 4 (b + 4) memory ≤ top_of i t s.ram
  word_before = let e = top_word in let h = top_before in omega (arith, e, h)

  pub frame_before : FrameIsOpen i t o memory → i.ram_base + (o + 32) ≤ top_of i t s.ram
  frame_before f = let h = f.high in let e = word_before in omega (arith, h, e)

  -- the test of both handlers
  open_true : FrameIsOpen i t o memory → is_open i t m psp memory ≡ true
  open_true f =
      and_from (nat_le t.stack.base psp) (nat_le (psp + 32) m.top && nat_eq (bit_at (stacked i psp memory status_place) 9) 0)
      (le-leb t.stack.base psp (let l = f.low in let e = c.at in omega (arith, l, e)))
      (and_from (nat_le (psp + 32) m.top) (nat_eq (bit_at (stacked i psp memory status_place) 9) 0)
      (le-leb (psp + 32) m.top (let h = f.high in let e = top_word in let x = c.at in omega (arith, h, e, x)))
      (eq-eqb (bit_at (stacked i psp memory status_place) 9) 0 (ap (λ n. n / 2 ^ 9 % 2) (stacked_is i psp o 7 memory c.at (omega arith)) ∙ f.no_pad)))

  open_from : is_open i t m psp memory ≡ true → FrameIsOpen i t o memory
  open_from e =
      let x = both (nat_le t.stack.base psp) (nat_le (psp + 32) m.top && nat_eq (bit_at (stacked i psp memory status_place) 9) 0) e in
      let y = both (nat_le (psp + 32) m.top) (nat_eq (bit_at (stacked i psp memory status_place) 9) 0) x.1 in
      record {
        low = let l = leb-true t.stack.base psp x.0 in let z = c.at in omega (arith, l, z);
        high = let l = leb-true (psp + 32) m.top y.0 in let z = c.at in let w = top_word in omega (arith, l, z, w);
        no_pad = ap (λ n. n / 2 ^ 9 % 2) (sym (stacked_is i psp o 7 memory c.at (omega arith))) ∙ eqb-true (bit_at (stacked i psp memory status_place) 9) 0 y.1;
      }

  pub outcome_open : (n : ℕ) → FrameIsOpen i t o memory → svc_outcome i t stub m psp memory n ≡ by_number i t stub m psp memory n
  unfolding svc_outcome
  outcome_open n f = ap (λ x. if x then by_number i t stub m psp memory n else Halts 4) (open_true f)

  pub outcome_shut : (n : ℕ) → (FrameIsOpen i t o memory → ⊥) → svc_outcome i t stub m psp memory n ≡ Halts 4
  unfolding svc_outcome
  outcome_shut n shut = by (is_open i t m psp memory) refl
    where
      by : (x : Bool) → is_open i t m psp memory ≡ x → (if is_open i t m psp memory then by_number i t stub m psp memory n else Halts 4) ≡ Halts 4
      by true e = absurd (shut (open_from e))
      by false e = ap (λ x. if x then by_number i t stub m psp memory n else Halts 4) e

  -- ---- the thread goes on as it was, with another list of loans

  resuming : (x : MonitorBlock) → x.current ≡ m.current → x.top ≡ m.top → FrameIsOpen i t o memory → (q : ProtectionState) → q ≡ with_unit off (record off.mpu { control = 5 }) → (new : List ℕ) → LeavesRam i t m x memory new → (a0 a1 a2 a3 a4 a5 a6 a7 : ℕ) →
      Resuming i t s m x psp memory (core (t.monitor + block_size) psp q s.status new a0 a1 a2 a3 a4 a5 a6 a7)
  resuming x ec et f q e new left a0 a1 a2 a3 a4 a5 a6 a7 = record {
    msp = refl;
    psp_is = refl;
    unprivileged = ap (λ q. q.unprivileged) e ∙ c.invariant.inv.unprivileged;
    control = ap (λ q. q.mpu.control) e;
    regions = ap (λ q. q.mpu.regions) e ∙ c.invariant.inv.regions ∙ ap₂ (λ a b. regions_for i t a b) (sym ec) (sym et);
    unit_stays = λ z. same_unit q e;
    no_fault = c.invariant.inv.no_fault;
    enabled = refl;
    ram = left;
    offset = o;
    at = c.at;
    frame = subst (λ z. InStack i t o z) (sym et) (frame f);
    may_load = may_load;
    current_in = subst (λ z. z < length t.comps) (sym ec) c.invariant.inv.orderly.current_in;
    saved = length m.saved;
    is_top = subst (λ z. IsTop t (length m.saved) z) (sym et) c.invariant.inv.orderly.is_top;
  }
    where
      may_load : (a : ℕ) → psp ≤ a → a < psp + 32 → LoadFor i t s a
      may_load a lo hi = let e = c.at in let l = f.low in let h = frame_before f in ForStack (omega (arith, lo, e, l), omega (arith, hi, e, h))

  -- the frame lies in RAM
  pub offset_low : o < 2 ^ 31
  offset_low = let x = c.fits in let y = c.placed.rules.ram_most in omega (arith, x, y)

  block_room : b + 1024 ≤ length memory
  block_room = let a = c.placed.block_inside.0 in let z = c.placed.block_inside.1 in let l = c.as_long in omega (arith, a, z, l)

  -- ---- unlend

  unlent_ram : (l : Loan) (ls : List Loan) (new : List ℕ) → m.loans ≡ l ∷ ls → new ≡ write 4 (b + 12) (length ls) memory → LeavesRam i t m (unlent m ls) memory new
  unlent_ram l ls new e w = record {
    is_block = record {
      current_is = at 0 (inl (omega arith)) ∙ c.is_block.current_is;
      top_is = at 4 (inl (omega arith)) ∙ c.is_block.top_is;
      depth_is = at 8 (inl (omega arith)) ∙ c.is_block.depth_is;
      loan_count_is = ap (λ n. read 4 (b + 12) n) w ∙ word_same (b + 12) (length ls) memory (let r = block_room in omega (arith, r)) (let f = few in omega (arith, f));
      mark_is = at 16 (inr (omega arith)) ∙ c.is_block.mark_is;
      has_saved = saved_stay i t memory new m.saved (λ x lo hi. at x (inr (omega (arith, lo)))) c.is_block.has_saved;
      has_loans = loans_stay i t memory new ls (λ x lo hi. at x (inr (omega (arith, lo)))) (subst (λ z. HasLoans i t memory z) e c.is_block.has_loans).1;
    };
    is_memory = record { reads = λ w a h. ch.reads w a (⊎_elim (λ x. inl (omega (arith, x))) (λ x. inr (omega (arith, x))) h); as_long = ch.as_long };
    words_stay = λ z. absurd (let y : ls ≡ l ∷ ls = ap (λ (z : MonitorBlock). z.loans) z ∙ e in let n : length ls ≡ suc (length ls) = ap (λ l. length l) y in omega (arith, n));
  }
    where
      ch : Changed (t.monitor - i.ram_base + 12) (t.monitor - i.ram_base + 12 + 4) memory new
      ch = changed_write (t.monitor - i.ram_base + 12) (length ls) memory new w

      few : suc (length ls) ≤ 32
      few = let f = c.invariant.inv.orderly.few in let n : length m.loans ≡ suc (length ls) = ap (λ l. length l) e in omega (arith, f, n)

      at : (x : ℕ) → (x + 4 ≤ 12) ⊎ (16 ≤ x) → block_word i t new x ≡ block_word i t memory x
      at x h = ch.reads 4 (t.monitor - i.ram_base + x) (⊎_elim (λ y. inl (omega (arith, y))) (λ y. inr (omega (arith, y))) h)

  pub unlend_halts : (ls : List Loan) → m.loans ≡ ls → (d : Core) → d.ram ≡ memory → read 4 (b + 12) memory ≡ read 4 (b + 16) memory → A (unlend_to i t stub m psp memory ls) (Halted 6 d)
  unlend_halts [] e d r h = halted 6 d r
  unlend_halts (l ∷ ls) e d r h =
      let x : suc (length ls) ≡ m.mark = sym (ap (λ l. length l) e) ∙ sym c.is_block.loan_count_is ∙ h ∙ c.is_block.mark_is in
      subst (λ z. A (if z then Halts 6 else Resumes (unlent m ls) psp memory) (Halted 6 d)) (sym (eq-eqb (suc (length ls)) m.mark x)) (halted 6 d r)

  pub unlend_goes : (ls : List Loan) → m.loans ≡ ls → FrameIsOpen i t o memory → (q : ProtectionState) (new : List ℕ) (a0 a1 a2 a3 a4 a5 a6 a7 : ℕ) → q ≡ with_unit off (record off.mpu { control = 5 }) → read 4 (b + 12) memory ≢ read 4 (b + 16) memory → new ≡ write 4 (b + 12) (subtract (read 4 (b + 12) memory) 1) memory →
      A (unlend_to i t stub m psp memory ls) (AtReturn (core (t.monitor + block_size) psp q s.status new a0 a1 a2 a3 a4 a5 a6 a7))
  unlend_goes [] e f q new a0 a1 a2 a3 a4 a5 a6 a7 eq h w =
      let x = c.is_block.loan_count_is in
      let y = c.is_block.mark_is in
      let z = c.invariant.inv.orderly.marks in
      let n : length m.loans ≡ 0 = ap (λ l. length l) e in
      absurd (h (x ∙ n ∙ (let v : 0 ≡ m.mark = omega (arith, z, n) in v) ∙ sym y))
  unlend_goes (l ∷ ls) e f q new a0 a1 a2 a3 a4 a5 a6 a7 eq h w =
      let n : read 4 (b + 12) memory ≡ suc (length ls) = c.is_block.loan_count_is ∙ ap (λ l. length l) e in
      let few : suc (length ls) ≤ 32 = (let x = c.invariant.inv.orderly.few in let y : length m.loans ≡ suc (length ls) = ap (λ l. length l) e in omega (arith, x, y)) in
      let less : subtract (read 4 (b + 12) memory) 1 ≡ length ls = omega (arith, n, few) in
      let other : suc (length ls) ≢ m.mark = λ z. h (n ∙ z ∙ sym c.is_block.mark_is) in
      subst (λ z. A (if z then Halts 6 else Resumes (unlent m ls) psp memory) (AtReturn (core (t.monitor + block_size) psp q s.status new a0 a1 a2 a3 a4 a5 a6 a7))) (sym (ne_eqb (suc (length ls)) m.mark other))
      (core (t.monitor + block_size) psp q s.status new a0 a1 a2 a3 a4 a5 a6 a7, refl, resuming (unlent m ls) refl refl f q eq new (unlent_ram l ls new e (w ∙ ap (λ v. write 4 (b + 12) v memory) less)) a0 a1 a2 a3 a4 a5 a6 a7)

  -- ---- lend

  abbrev pub address : ℕ
  address = word i t stub m psp memory 0

  abbrev pub number : ℕ
  number = word i t stub m psp memory 1

  abbrev pub live : ℕ
  live = length m.loans

  pub address_is : read 4 o memory ≡ address
  address_is = sym (stacked_is i psp o 0 memory c.at (omega arith) ∙ (let z : o + 4 * 0 ≡ o = omega arith in ap (λ o. read 4 o memory) z))

  pub number_is : read 4 (o + 4) memory ≡ number
  number_is = sym (stacked_is i psp o 1 memory c.at (omega arith))

  may_true : MayLend t psp m.top live address number → may_lend i t stub m psp memory ≡ true
  may_true x =
      and_from (nat_lt live 32) _ (lt-ltb live 32 x.room)
      (and_from (nat_lt number (length t.lends)) _ (lt-ltb number (length t.lends) x.number_in)
      (and_from (nat_eq (address % 4) 0) _ (eq-eqb (address % 4) 0 x.aligned)
      (and_from (nat_le (psp + 32) address) (nat_le (address + lend_size t number) m.top) (le-leb (psp + 32) address x.low) (le-leb (address + lend_size t number) m.top x.high))))

  may_from : may_lend i t stub m psp memory ≡ true → MayLend t psp m.top live address number
  may_from e =
      let x1 = both (nat_lt live 32) (nat_lt number (length t.lends) && (nat_eq (address % 4) 0 && (nat_le (psp + 32) address && nat_le (address + lend_size t number) m.top))) e in
      let x2 = both (nat_lt number (length t.lends)) (nat_eq (address % 4) 0 && (nat_le (psp + 32) address && nat_le (address + lend_size t number) m.top)) x1.1 in
      let x3 = both (nat_eq (address % 4) 0) (nat_le (psp + 32) address && nat_le (address + lend_size t number) m.top) x2.1 in
      let x4 = both (nat_le (psp + 32) address) (nat_le (address + lend_size t number) m.top) x3.1 in
      record { room = ltb-true live 32 x1.0; number_in = ltb-true number (length t.lends) x2.0; aligned = eqb-true (address % 4) 0 x3.0; low = leb-true (psp + 32) address x4.0; high = leb-true (address + lend_size t number) m.top x4.1 }

  pub lend_halts : (d : Core) → d.ram ≡ memory → (MayLend t psp m.top live address number → ⊥) → A (lend i t stub m psp memory) (Halted 6 d)
  lend_halts d r refused = by (may_lend i t stub m psp memory) refl
    where
      by : (x : Bool) → may_lend i t stub m psp memory ≡ x → A (lend i t stub m psp memory) (Halted 6 d)
      by true e = absurd (refused (may_from e))
      by false e = subst (λ z. A (if z then Resumes (lent m (new_loan i t stub m psp memory)) psp memory else Halts 6) (Halted 6 d)) (sym e) (halted 6 d r)

  lent_words : (a z x : ℕ) (m1 m2 m3 new : List ℕ) → live < 32 → a < 2 ^ 32 → z < 2 ^ 32 → x < 2 ^ 32 → m1 ≡ write 4 (b + (160 + 12 * live)) a memory → m2 ≡ write 4 (b + (160 + 12 * live + 4)) z m1 → m3 ≡ write 4 (b + (160 + 12 * live + 8)) x m2 → new ≡ write 4 (b + 12) (live + 1) m3 →
      LeavesRam i t m (lent m (record { address = a; end = z; number = x })) memory new
  lent_words a z x m1 m2 m3 new few la lz lx g1 g2 g3 g4 = record {
    is_block = record {
      current_is = at 0 (inl (omega arith)) ∙ c.is_block.current_is;
      top_is = at 4 (inl (omega arith)) ∙ c.is_block.top_is;
      depth_is = at 8 (inl (omega arith)) ∙ c.is_block.depth_is;
      loan_count_is = stored (b + 12) (live + 1) m3 new g4 (let r = block_room in let l = long3 in omega (arith, r, l)) (omega (arith, few)) ∙ (let y : live + 1 ≡ suc live = omega arith in y);
      mark_is = at 16 (inr (inl (omega arith, omega arith))) ∙ c.is_block.mark_is;
      has_saved = saved_stay i t memory new m.saved (λ y lo hi. at y (inr (inl (let h = few_callers c.invariant.inv.orderly in (omega (arith, lo), omega (arith, hi, h)))))) c.is_block.has_saved;
      has_loans = (
        record {
          address = beside (b + (160 + 12 * live)) (b + 12) (live + 1) m3 new g4 (inr (omega arith)) ∙ beside (b + (160 + 12 * live)) (b + (160 + 12 * live + 8)) x m2 m3 g3 (inl (omega arith)) ∙ beside (b + (160 + 12 * live)) (b + (160 + 12 * live + 4)) z m1 m2 g2 (inl (omega arith)) ∙ stored (b + (160 + 12 * live)) a memory m1 g1 (let r = block_room in omega (arith, r, few)) la;
          end = beside (b + (160 + 12 * live + 4)) (b + 12) (live + 1) m3 new g4 (inr (omega arith)) ∙ beside (b + (160 + 12 * live + 4)) (b + (160 + 12 * live + 8)) x m2 m3 g3 (inl (omega arith)) ∙ stored (b + (160 + 12 * live + 4)) z m1 m2 g2 (let r = block_room in let l = ch1.as_long in omega (arith, r, few, l)) lz;
          number = beside (b + (160 + 12 * live + 8)) (b + 12) (live + 1) m3 new g4 (inr (omega arith)) ∙ stored (b + (160 + 12 * live + 8)) x m2 m3 g3 (let r = block_room in let l = long2 in omega (arith, r, few, l)) lx;
        },
        loans_stay i t memory new m.loans (λ y lo hi. at y (inr (inr (omega (arith, lo), omega (arith, hi))))) c.is_block.has_loans,
      );
    };
    is_memory = record {
      reads = λ u y h. ch4.reads u y (⊎_elim (λ e. inl (omega (arith, e))) (λ e. inr (omega (arith, e))) h)
          ∙ ch3.reads u y (⊎_elim (λ e. inl (omega (arith, e))) (λ e. inr (omega (arith, e, few))) h)
          ∙ ch2.reads u y (⊎_elim (λ e. inl (omega (arith, e))) (λ e. inr (omega (arith, e, few))) h)
          ∙ ch1.reads u y (⊎_elim (λ e. inl (omega (arith, e))) (λ e. inr (omega (arith, e, few))) h);
      as_long = ch4.as_long ∙ long3;
    };
    words_stay = λ e. absurd (let n : suc (length m.loans) ≡ length m.loans = ap (λ (z : MonitorBlock). length z.loans) e in omega (arith, n));
  }
    where
      ch1 : Changed (t.monitor - i.ram_base + (160 + 12 * live)) (t.monitor - i.ram_base + (160 + 12 * live) + 4) memory m1
      ch1 = changed_write (t.monitor - i.ram_base + (160 + 12 * live)) a memory m1 g1

      ch2 : Changed (t.monitor - i.ram_base + (160 + 12 * live + 4)) (t.monitor - i.ram_base + (160 + 12 * live + 4) + 4) m1 m2
      ch2 = changed_write (t.monitor - i.ram_base + (160 + 12 * live + 4)) z m1 m2 g2

      ch3 : Changed (t.monitor - i.ram_base + (160 + 12 * live + 8)) (t.monitor - i.ram_base + (160 + 12 * live + 8) + 4) m2 m3
      ch3 = changed_write (t.monitor - i.ram_base + (160 + 12 * live + 8)) x m2 m3 g3

      ch4 : Changed (t.monitor - i.ram_base + 12) (t.monitor - i.ram_base + 12 + 4) m3 new
      ch4 = changed_write (t.monitor - i.ram_base + 12) (live + 1) m3 new g4

      long2 : length m2 ≡ length memory
      long2 = ch2.as_long ∙ ch1.as_long

      long3 : length m3 ≡ length memory
      long3 = ch3.as_long ∙ ch2.as_long ∙ ch1.as_long

      -- the other words
      at : (y : ℕ) → (y + 4 ≤ 12) ⊎ (((16 ≤ y) × (y + 4 ≤ 160)) ⊎ ((160 ≤ y) × (y + 4 ≤ 160 + 12 * live))) → block_word i t new y ≡ block_word i t memory y
      at y (inl h) =
          ch4.reads 4 (t.monitor - i.ram_base + y) (inl (omega (arith, h))) ∙ ch3.reads 4 (t.monitor - i.ram_base + y) (inl (omega (arith, h)))
          ∙ ch2.reads 4 (t.monitor - i.ram_base + y) (inl (omega (arith, h))) ∙ ch1.reads 4 (t.monitor - i.ram_base + y) (inl (omega (arith, h)))
      at y (inr (inl h)) =
          let lo = h.0 in let hi = h.1 in
          ch4.reads 4 (t.monitor - i.ram_base + y) (inr (omega (arith, lo))) ∙ ch3.reads 4 (t.monitor - i.ram_base + y) (inl (omega (arith, hi)))
          ∙ ch2.reads 4 (t.monitor - i.ram_base + y) (inl (omega (arith, hi))) ∙ ch1.reads 4 (t.monitor - i.ram_base + y) (inl (omega (arith, hi)))
      at y (inr (inr h)) =
          let lo = h.0 in let hi = h.1 in
          ch4.reads 4 (t.monitor - i.ram_base + y) (inr (omega (arith, lo))) ∙ ch3.reads 4 (t.monitor - i.ram_base + y) (inl (omega (arith, hi)))
          ∙ ch2.reads 4 (t.monitor - i.ram_base + y) (inl (omega (arith, hi))) ∙ ch1.reads 4 (t.monitor - i.ram_base + y) (inl (omega (arith, hi)))

  pub lend_goes : FrameIsOpen i t o memory → (q : ProtectionState) (new : List ℕ) (a0 a1 a2 a3 a4 a5 a6 a7 : ℕ) → q ≡ with_unit off (record off.mpu { control = 5 }) → MayLend t psp m.top live address number → new ≡ with_loan b live address (address + lend_size t number) number memory →
      A (lend i t stub m psp memory) (AtReturn (core (t.monitor + block_size) psp q s.status new a0 a1 a2 a3 a4 a5 a6 a7))
  lend_goes f q new a0 a1 a2 a3 a4 a5 a6 a7 eq may w =
      subst (λ z. A (if z then Resumes (lent m (new_loan i t stub m psp memory)) psp memory else Halts 6) (AtReturn (core (t.monitor + block_size) psp q s.status new a0 a1 a2 a3 a4 a5 a6 a7))) (sym (may_true may)) (
        core (t.monitor + block_size) psp q s.status new a0 a1 a2 a3 a4 a5 a6 a7,
        refl,
        resuming (lent m (new_loan i t stub m psp memory)) refl refl f q eq new
            (lent_words address (address + lend_size t number) number (write 4 (b + (160 + 12 * live)) address memory) (write 4 (b + (160 + 12 * live + 4)) (address + lend_size t number) (write 4 (b + (160 + 12 * live)) address memory)) (write 4 (b + (160 + 12 * live + 8)) number (write 4 (b + (160 + 12 * live + 4)) (address + lend_size t number) (write 4 (b + (160 + 12 * live)) address memory))) new
            may.room address_small end_small number_small refl refl refl w) a0 a1 a2 a3 a4 a5 a6 a7,
      )
    where
      end_small : address + lend_size t number < 2 ^ 32
      end_small = let h = may.high in let e = top_word in let f = word_fits (t.monitor - i.ram_base + 4) memory in omega (arith, h, e, f)

      address_small : address < 2 ^ 32
      address_small = let h = end_small in omega (arith, h)

      number_small : number < 2 ^ 32
      number_small = let e = number_is in let f = word_fits (o + 4) memory in omega (arith, e, f)
