-- Behind the handler of MemManage: it has made an access that a loan allows.
use Rattle.std.proofs.Common.{◌≡◌, ℕ, ◌+◌, ◌-◌, ◌*◌, ◌%◌, ◌^◌, ◌<◌, ◌≤◌, inl, inr, Bool, true, false, ◌&&◌, List, length, nat_eq, refl, sym, ap, ◌∙◌, subst, arith}
use Rattle.std.proofs.lemmas.Bool.{eqb-true}
use Rattle.base_words.specs.Bytes.{read, write}
use Rattle.base_words.proofs.Bytes.{length-write, read_above}
use Rattle.machine_protection.specs.Protection.{IsAccessWidth}
use Rattle.machine_devices.specs.declared.image.Image.{Image}
use Rattle.machine_model.specs.declared.state.FaultStatus.{FaultStatus}
use Rattle.machine_model.specs.State.{State, by_mpu, low_register}
use Rattle.machine_model.specs.Code.{HoldsHalf}
use Rattle.machine_model.specs.Exceptions.{frame_at, is_frame_open, mem_manage}
use Rattle.machine_model.specs.Step.{step, turn}
use Rattle.machine_model.specs.ThreadStep.{ThreadStep}
use Rattle.monitor_model.specs.declared.tables.Tables.{Tables}
use Rattle.monitor_model.specs.Records.{compartment_at}
use Rattle.monitor_model.specs.Placed.{Placed}
use Rattle.monitor_model.specs.Block.{MonitorBlock}
use Rattle.monitor_model.specs.Invariant.{InvariantHolds}
use Rattle.monitor_model.specs.Handlers.{Change, Emulates, IsFault, at_memfault}
use Rattle.monitor_model.specs.Outcomes.{Outcome, Halts, StopsUnaligned, Resumes, with_stacked, moved_on, is_open}
use Rattle.monitor_model.specs.FaultOutcome.{value, address, is_lent, if_aligned, emulated_store, emulated_load, by_half, is_data_fault, fault_outcome}
use Rattle.monitor_model.specs.MonitorLaw.{GoesOn}
use Rattle.monitor_confined.proofs.EntryWords.{FrameLaws, flash_low}
use Rattle.monitor_confined.proofs.EnterLaw.{same_parts}
use Rattle.monitor_runs.specs.Moves.{Moves, Stores, Loads, IsLent}
use Rattle.monitor_runs.proofs.Tests.{either_way, lent_found, lent_from_base}
use Rattle.monitor_runs.proofs.RefusedStores.{IsStore, OfWord, OfByte, OfHalf, refused_off}
use Rattle.base_laws.proofs.Multiples.{even_back}
use Rattle.monitor_runs.proofs.Waiting.{IsOff, moved_pc, second_pushed, store_keeps, core_by}

module _ (laws : FrameLaws) (i : Image) (t : Tables) (p : Placed i t) (s u : State) (m : MonitorBlock) (h : InvariantHolds i t m s) (z : FaultStatus) (fault : IsFault i s z) (opened : is_frame_open by_mpu i s ≡ true)
    (leads : ThreadStep i s (turn by_mpu i s)) (enters : step i s ≡ at_memfault i z s) (n : MonitorBlock) (q : ℕ) (after : List ℕ) (on : GoesOn i t s u m n q after) where
  abbrev psp : ℕ
  psp = frame_at s.core.sp

  abbrev memory : List ℕ
  memory = (at_memfault i z s).ram

  abbrev done : Outcome
  done = Resumes n q after

  pc_word : s.core.pc < 2 ^ 32
  pc_word = h.fits.core.pc_word

  -- behind the instruction
  goes_behind : s.core.pc + 2 < 2 ^ 32 → (changed : List ℕ) → length changed ≡ length memory → read 4 (psp - i.ram_base + 24) changed ≡ read 4 (psp - i.ram_base + 24) memory → psp ≡ q → moved_on i psp changed ≡ after → u.core.pc ≡ s.core.pc + 2
  goes_behind few changed long same e f =
      moved_pc laws i t p s u m h opened mem_manage s.core.pc z pc_word on.handler changed long same few (core_by on psp (moved_on i psp changed) e f) ∙ even_back s.core.pc h.fits.core.pc_even

  abbrev r1 : ℕ
  r1 = low_register s.core 1

  at_r1 : address i t m psp memory ≡ r1
  at_r1 = second_pushed laws i t p s u m h opened mem_manage s.core.pc z pc_word

  found : (mask w : ℕ) → is_lent mask (address i t m psp memory) w m.loans ≡ true → IsLent mask r1 w m.loans
  found mask w e = lent_found mask r1 w m.loans (ap (λ (a : ℕ). is_lent mask a w m.loans) (sym at_r1) ∙ e)

  halts : (k : ℕ) → Halts k ≡ done → Moves i t s u m n
  halts k e = cc

  stops : StopsUnaligned ≡ done → Moves i t s u m n
  stops e = cc

  stored : s.core.pc + 2 < 2 ^ 32 → (w : ℕ) → IsAccessWidth w → IsOff psp r1 w → emulated_store i t m psp memory w ≡ done → Moves i t s u m n
  stored few w wide off e =
      let a : ℕ = address i t m psp memory in
      let v : ℕ = value i t m psp memory in
      let changed : List ℕ = write w (a - i.ram_base) v memory in
      let r : Outcome = Resumes m psp (moved_on i psp changed) in
      either_way (Moves i t s u m n) (is_lent (compartment_at t m.current).mask a w m.loans) (if_aligned i t m psp memory w r) (Halts 7) done
      (λ is x.
      let l = found (compartment_at t m.current).mask w is in
      let base = lent_from_base t (compartment_at t m.current).mask r1 w m.loans h.inv.orderly.loans l in
      either_way (Moves i t s u m n) (nat_eq (a % w) 0) r StopsUnaligned done
      (λ al y.
      let o = same_parts m n psp q (moved_on i psp changed) after y in
      subst (λ (b : MonitorBlock). Moves i t s u m b) o.0 (Stores w wide l
      (goes_behind few changed (length-write w (a - i.ram_base) v memory) (store_keeps laws i t p s u m h opened mem_manage s.core.pc z pc_word w a v (in_ram base) (subst (λ (x : ℕ). IsOff psp x w) (sym at_r1) off)) o.1 o.2)))
      (λ al y. stops y) x)
      (λ is x. halts 7 x) e
    where
      in_ram : t.stack.base ≤ r1 → i.ram_base ≤ address i t m psp memory
      in_ram base = let at = at_r1 in let b = p.stack_base in let from = p.stack.place.0 in omega (arith, base, at, b, from)

  loaded : s.core.pc + 2 < 2 ^ 32 → t.closed ≡ true → (w : ℕ) → IsAccessWidth w → emulated_load i t m psp memory w ≡ done → Moves i t s u m n
  loaded few closed w wide e =
      let a : ℕ = address i t m psp memory in
      let v : ℕ = read w (a - i.ram_base) memory in
      let changed : List ℕ = with_stacked i psp 0 v memory in
      let r : Outcome = Resumes m psp (moved_on i psp changed) in
      either_way (Moves i t s u m n) (is_lent (compartment_at t m.current).reads a w m.loans) (if_aligned i t m psp memory w r) (Halts 9) done
      (λ is x. either_way (Moves i t s u m n) (nat_eq (a % w) 0) r StopsUnaligned done
      (λ al y.
      let o = same_parts m n psp q (moved_on i psp changed) after y in
      subst (λ (b : MonitorBlock). Moves i t s u m b) o.0 (Loads w wide closed (found (compartment_at t m.current).reads w is)
      (goes_behind few changed (length-write 4 (psp - i.ram_base + 4 * 0) v memory) (read_above 4 (psp - i.ram_base + 24) 4 (psp - i.ram_base + 4 * 0) v memory (omega arith)) o.1 o.2)))
      (λ al y. stops y) x)
      (λ is x. halts 9 x) e

  -- a store that the unit refused misses the frame
  misses : z.cfsr ≡ 0x82 → (half k w : ℕ) → HoldsHalf i s.core.pc half → nat_eq half k ≡ true → IsStore k w → IsOff psp r1 w
  misses c half k w stands e is = refused_off laws i t p s m h opened z leads enters c k w is (subst (HoldsHalf i s.core.pc) (eqb-true half k e) stands)

  half_move : s.core.pc + 2 < 2 ^ 32 → z.cfsr ≡ 0x82 → (half : ℕ) → HoldsHalf i s.core.pc half → by_half i t m psp memory half ≡ done → Moves i t s u m n
  half_move few c half stands e =
      either_way (Moves i t s u m n) (nat_eq half 0x6008) _ _ done (λ b. stored few 4 (inr (inr refl)) (misses c half 0x6008 4 stands b OfWord)) (λ b0.
      either_way (Moves i t s u m n) (nat_eq half 0x7008) _ _ done (λ b. stored few 1 (inl refl) (misses c half 0x7008 1 stands b OfByte)) (λ b1.
      either_way (Moves i t s u m n) (nat_eq half 0x8008) _ _ done (λ b. stored few 2 (inr (inl refl)) (misses c half 0x8008 2 stands b OfHalf)) (λ b2.
      either_way (Moves i t s u m n) (t.closed && nat_eq half 0x6808) _ _ done (λ b. loaded few (left_of t.closed (nat_eq half 0x6808) b) 4 (inr (inr refl))) (λ b3.
      either_way (Moves i t s u m n) (t.closed && nat_eq half 0x7808) _ _ done (λ b. loaded few (left_of t.closed (nat_eq half 0x7808) b) 1 (inl refl)) (λ b4.
      either_way (Moves i t s u m n) (t.closed && nat_eq half 0x8808) _ _ done (λ b. loaded few (left_of t.closed (nat_eq half 0x8808) b) 2 (inr (inl refl))) (λ b5. halts 8)))))) e
    where
      left_of : (x y : Bool) → x && y ≡ true → x ≡ true
      left_of true y e = refl
      left_of false y e = cc

  -- the fault is that of a data access, whose instruction was fetched from flash and therefore lies low
  data_fault : IsFault i s z → is_data_fault i t m psp memory z.cfsr ≡ true → (s.core.pc + 2 < 2 ^ 32) × (z.cfsr ≡ 0x82)
  data_fault (inl e) d = absurd (let c : is_data_fault i t m psp memory 1 ≡ true = subst (λ (x : FaultStatus). is_data_fault i t m psp memory x.cfsr ≡ true) e d in no c)
    where
      no : is_data_fault i t m psp memory 1 ≡ true → ⊥
      no c = cc
  data_fault (inr e) d = let l = flash_low i p.rules s.core.pc e.3.offset e.3.is_in_flash in (omega (arith, l), ap (λ (x : FaultStatus). x.cfsr) e.4)

  pub fault_move : (half : ℕ) → (z.cfsr ≡ 0x82 → HoldsHalf i s.core.pc half) → fault_outcome i t m psp memory z.cfsr half ≡ done → Moves i t s u m n
  unfolding fault_outcome
  fault_move half stands e =
      either_way (Moves i t s u m n) (is_open i t m psp memory) _ _ done
      (λ o. either_way (Moves i t s u m n) (is_data_fault i t m psp memory z.cfsr) _ _ done (λ d. let x = data_fault fault d in half_move x.0 x.1 half (stands x.1)) (λ d. halts 8))
      (λ o. halts 4) e

-- the block is the same where the thread goes on: by the move, whichever it is
same_block : (i : Image) (t : Tables) (s u : State) (m n : MonitorBlock) → m ≡ n → Change i t s u m n
same_block i t s u m n e = subst (λ (b : MonitorBlock). Change i t s u m b) e Emulates

pub fault_change : (i : Image) (t : Tables) (s u : State) (m : MonitorBlock) (memory : List ℕ) (cfsr half : ℕ) (n : MonitorBlock) (q : ℕ) (after : List ℕ) → fault_outcome i t m (frame_at s.core.sp) memory cfsr half ≡ Resumes n q after → Change i t s u m n
unfolding fault_outcome
fault_change i t s u m memory c h n q after e = same_block i t s u m n
    (either_way (m ≡ n) (is_open i t m (frame_at s.core.sp) memory) _ _ (Resumes n q after)
    (λ o. either_way (m ≡ n) (is_data_fault i t m (frame_at s.core.sp) memory c) _ _ (Resumes n q after)
    (λ d. either_way (m ≡ n) (nat_eq h 0x6008) _ _ (Resumes n q after) (λ b. store 4) (λ b0.
    either_way (m ≡ n) (nat_eq h 0x7008) _ _ (Resumes n q after) (λ b. store 1) (λ b1.
    either_way (m ≡ n) (nat_eq h 0x8008) _ _ (Resumes n q after) (λ b. store 2) (λ b2.
    either_way (m ≡ n) (t.closed && nat_eq h 0x6808) _ _ (Resumes n q after) (λ b. load 4) (λ b3.
    either_way (m ≡ n) (t.closed && nat_eq h 0x7808) _ _ (Resumes n q after) (λ b. load 1) (λ b4.
    either_way (m ≡ n) (t.closed && nat_eq h 0x8808) _ _ (Resumes n q after) (λ b. load 2) (λ b5. halts_at 8)))))))
    (λ d. halts_at 8)) (λ o. halts_at 4) e)
  where
    halts_at : (k : ℕ) → Halts k ≡ (Resumes n q after) → m ≡ n
    halts_at k e = cc

    resumes : (r : List ℕ) → Resumes m (frame_at s.core.sp) r ≡ (Resumes n q after) → m ≡ n
    resumes r e = cc

    stops_there : StopsUnaligned ≡ (Resumes n q after) → m ≡ n
    stops_there e = cc

    aligned : (w : ℕ) (r : List ℕ) → if_aligned i t m (frame_at s.core.sp) memory w (Resumes m (frame_at s.core.sp) r) ≡ (Resumes n q after) → m ≡ n
    aligned w r e = either_way (m ≡ n) (nat_eq (address i t m (frame_at s.core.sp) memory % w) 0) _ _ (Resumes n q after) (λ b. resumes r) (λ b. stops_there) e

    store : (w : ℕ) → emulated_store i t m (frame_at s.core.sp) memory w ≡ (Resumes n q after) → m ≡ n
    store w e = either_way (m ≡ n) (is_lent (compartment_at t m.current).mask (address i t m (frame_at s.core.sp) memory) w m.loans) _ _ (Resumes n q after) (λ b. aligned w _) (λ b. halts_at 7) e

    load : (w : ℕ) → emulated_load i t m (frame_at s.core.sp) memory w ≡ (Resumes n q after) → m ≡ n
    load w e = either_way (m ≡ n) (is_lent (compartment_at t m.current).reads (address i t m (frame_at s.core.sp) memory) w m.loans) _ _ (Resumes n q after) (λ b. aligned w _) (λ b. halts_at 9) e
