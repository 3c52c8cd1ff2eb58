-- The handler of SVC makes a change of the block, or ends the machine.
use Rattle.std.specs.Prelude.{if◌then◌else◌, nat_le}
use Rattle.std.proofs.Common.{◌≡◌, ℕ, suc, ◌+◌, ◌%◌, ◌<◌, ◌≤◌, Bool, true, false, ◌&&◌, List, [], ◌∷◌, length, nat_eq, nat_lt, refl, subst, arith}
use Rattle.std.proofs.lemmas.Bool.Decides.{nat_tests}
use Rattle.base_words.specs.Runs.{run}
use Rattle.machine_devices.specs.declared.image.Image.{Image}
use Rattle.machine_bus.specs.Locations.{location}
use Rattle.machine_model.specs.State.{State}
use Rattle.machine_model.specs.Step.{step}
use Rattle.machine_model.specs.Exceptions.{frame_at}
use Rattle.monitor_model.specs.declared.tables.Tables.{Tables}
use Rattle.monitor_model.specs.Block.{Loan, Saved, MonitorBlock, lent}
use Rattle.monitor_model.specs.Confined.{IsSvc}
use Rattle.monitor_model.specs.Handlers.{FrameIsOpen, Change, Leaves, Lends, Unlends, at_svc}
use Rattle.monitor_model.specs.Outcomes.{Halts, Resumes, stacked, status_place, return_place}
use Rattle.std.specs.Int.{bit_at}
use Rattle.monitor_model.specs.SvcOutcome.{word, enter_at, leave_to, new_loan, lend, unlend_to, by_number, svc_outcome}
use Rattle.monitor_confined.specs.FromLaw.{FaultsAreHandled, CallsAreHandled, PlacedLawsConfine}
use Rattle.monitor_confined.proofs.EntryWords.{FrameLaws}
use Rattle.monitor_confined.proofs.EnterLaw.{if_resumes, both, enter_change}
use Rattle.monitor_confined.proofs.Changes.{top_below}
use Rattle.monitor_confined.proofs.FaultLaw.{same_block, by_outcome}

pub few_steps : (b : Bool) (k : ℕ) → k ≤ (if b then 4000 else 250) → k ≤ 16000
few_steps true k h = omega (arith, h)
few_steps false k h = omega (arith, h)

module _ (i : Image) (t : Tables) (stub : ℕ) (s u : State) (m : MonitorBlock) (memory : List ℕ) (n : MonitorBlock) (q : ℕ) (after : List ℕ) (marks : m.mark ≤ length m.loans) where
  abbrev psp : ℕ
  psp = frame_at s.core.sp

  leave_change : (es : List Saved) → m.saved ≡ es → IsSvc i t 1 s → leave_to i t stub m psp memory es ≡ Resumes n q after → Change i t s u m n
  leave_change [] is svc e = cc
  leave_change (x ∷ es) is svc e = subst (λ (b : MonitorBlock). Change i t s u m b) (same_block _ n _ q _ after e) (Leaves x es is svc)

  lend_change : FrameIsOpen i t m psp → lend i t stub m psp memory ≡ Resumes n q after → Change i t s u m n
  lend_change opened e =
      let l : Loan = new_loan i t stub m psp memory in
      let b1 : Bool = nat_lt (length m.loans) 32 in
      let b2 : Bool = nat_lt l.number (length t.lends) in
      let b3 : Bool = nat_eq (l.address % 4) 0 in
      let b4 : Bool = nat_le (psp + 32) l.address in
      let b5 : Bool = nat_le l.end m.top in
      let a = if_resumes (b1 && (b2 && (b3 && (b4 && b5)))) (Resumes (lent m l) psp memory) 6 n q after e in
      let b = both b1 (b2 && (b3 && (b4 && b5))) a.0 in
      let c = both b2 (b3 && (b4 && b5)) b.1 in
      let d = both b3 (b4 && b5) c.1 in
      let f = both b4 b5 d.1 in
      let x1 : length m.loans < 32 = let z = b.0 in search (nat_tests, arith) in
      let x2 : l.number < length t.lends = let z = c.0 in search (nat_tests, arith) in
      let x3 : l.address % 4 ≡ 0 = let z = d.0 in search (nat_tests, arith) in
      let x4 : psp + 32 ≤ l.address = let z = f.0 in search (nat_tests, arith) in
      let x5 : l.end ≤ m.top = let z = f.1 in search (nat_tests, arith) in
      subst (λ (b : MonitorBlock). Change i t s u m b) (same_block (lent m l) n psp q memory after a.1) (Lends l opened x1 x2 x3 refl x4 x5)

  unlend_by : (l : Loan) (ls : List Loan) → m.loans ≡ l ∷ ls → m.mark ≤ suc (length ls) → (b : Bool) → nat_eq (suc (length ls)) m.mark ≡ b →
      (if b then Halts 6 else Resumes (record m { loans = ls }) psp memory) ≡ Resumes n q after → Change i t s u m n
  unlend_by l ls is le true z e = cc
  unlend_by l ls is le false z e =
      let x : m.mark ≤ length ls = search (nat_tests, arith) in
      subst (λ (b : MonitorBlock). Change i t s u m b) (same_block _ n _ q _ after e) (Unlends l ls is x)

  unlend_change : (ls : List Loan) → m.loans ≡ ls → unlend_to i t stub m psp memory ls ≡ Resumes n q after → Change i t s u m n
  unlend_change [] is e = cc
  unlend_change (l ∷ ls) is e = unlend_by l ls is (subst (λ (k : List Loan). m.mark ≤ length k) is marks) (nat_eq (suc (length ls)) m.mark) refl e

  numbered : (k : ℕ) → IsSvc i t k s → FrameIsOpen i t m psp → by_number i t stub m psp memory k ≡ Resumes n q after →
      (IsSvc i t 0 s → FrameIsOpen i t m psp → enter_at i t stub m psp memory (location i (word i t stub m psp memory return_place)) ≡ Resumes n q after → Change i t s u m n) →
      Change i t s u m n
  numbered k svc opened e enters = by (nat_eq k 0) (nat_eq k 1) (nat_eq k 2) (nat_eq k 3) refl refl e
    where
      by : (b0 b1 b2 b3 : Bool) → nat_eq k 0 ≡ b0 → nat_eq k 1 ≡ b1 →
          (if b0 then enter_at i t stub m psp memory (location i (word i t stub m psp memory return_place)) else if b1 then leave_to i t stub m psp memory m.saved else if b2 then lend i t stub m psp memory else if b3 then unlend_to i t stub m psp memory m.loans else Halts 1) ≡ Resumes n q after →
          Change i t s u m n
      by true b1 b2 b3 z0 z1 e = let z : k ≡ 0 = search (nat_tests, arith) in enters (subst (λ (a : ℕ). IsSvc i t a s) z svc) opened e
      by false true b2 b3 z0 z1 e = let z : k ≡ 1 = search (nat_tests, arith) in leave_change m.saved refl (subst (λ (a : ℕ). IsSvc i t a s) z svc) e
      by false false true b3 z0 z1 e = lend_change opened e
      by false false false true z0 z1 e = unlend_change m.loans refl e
      by false false false false z0 z1 e = cc

  -- with the answer of enter
  pub svc_change : (k : ℕ) → IsSvc i t k s → svc_outcome i t stub m psp memory k ≡ Resumes n q after →
      (IsSvc i t 0 s → FrameIsOpen i t m psp → enter_at i t stub m psp memory (location i (word i t stub m psp memory return_place)) ≡ Resumes n q after → Change i t s u m n) →
      Change i t s u m n
  unfolding svc_outcome
  svc_change k svc e enters =
      let b1 : Bool = nat_le t.stack.base psp in
      let b2 : Bool = nat_le (psp + 32) m.top in
      let b3 : Bool = nat_eq (bit_at (stacked i psp memory status_place) 9) 0 in
      let a = if_resumes (b1 && (b2 && b3)) (by_number i t stub m psp memory k) 4 n q after e in
      let b = both b1 (b2 && b3) a.0 in
      let c = both b2 b3 b.1 in
      let x1 : t.stack.base ≤ psp = let z = b.0 in search (nat_tests, arith) in
      let x2 : psp + 32 ≤ m.top = let z = c.0 in search (nat_tests, arith) in
      numbered k svc (record { from_base = x1; below_top = x2 }) a.1 enters

pub calls_are_handled : FrameLaws → CallsAreHandled
calls_are_handled laws i t stub p law s m n h live few is frame =
    let from : State = at_svc i s in
    let l = law.svc s m n h live few is frame in
    let end : State = run (step i) l.count from in
    record {
      count = l.count;
      within = few_steps (nat_lt n 2) l.count l.within;
      each = l.each;
      holds = by_outcome i t s end m (svc_outcome i t stub m (frame_at s.core.sp) from.ram n) from.ram
          (λ b psp after e on. svc_change i t stub s end m from.ram b psp after h.inv.orderly.marks n is e
          (λ zero opened x. enter_change laws i t p stub s end m h frame zero opened (top_below t (length m.saved) m.top h.inv.orderly.is_top) b psp after on x)) l.holds;
    }

pub laws_confine : FaultsAreHandled → CallsAreHandled → PlacedLawsConfine
laws_confine faults calls i t stub p law = record { svc = λ s m n. calls i t stub p law s m n; memfault = λ s m u. faults i t stub law s m u }
