-- The outcomes of the handlers, by the answers to their tests.
use Rattle.std.specs.Prelude.{if◌then◌else◌, nat_le}
use Rattle.std.specs.Int.{bit_at}
use Rattle.std.proofs.Common.{◌≡◌, ℕ, zero, suc, ◌+◌, ◌-◌, ◌*◌, ◌/◌, ◌%◌, ◌^◌, ◌<◌, ◌≤◌, ◌⊎◌, inl, inr, Bool, true, false, ◌&&◌, List, [], ◌∷◌, length, Option, Some, nat_eq, nat_lt, refl, sym, ap, ◌∙◌, subst, arith}
use Rattle.std.proofs.lemmas.Bool.Decides.{nat_tests}
use Rattle.std.proofs.lemmas.Bool.{or_right}
use Rattle.base_words.specs.Arithmetic.{word as word_of}
use Rattle.base_words.specs.Bytes.{read, write, write_all}
use Rattle.machine_devices.specs.declared.image.Image.{Image}
use Rattle.machine_bus.specs.Locations.{Location, InFlash, location}
use Rattle.machine_model.specs.declared.state.CoreRegisters.{CoreRegisters}
use Rattle.machine_model.specs.Act.{Stores, Loads}
use Rattle.machine_model.specs.Instructions.{transfer_immediate, store_from, load_into}
use Rattle.machine_model.specs.Confinement.{AnyOf}
use Rattle.base_laws.specs.Lists.{Each}
use Rattle.machine_model.specs.RunningCode.{IsStore, IsLoad}
use Rattle.monitor_model.specs.declared.tables.TargetRecord.{TargetRecord}
use Rattle.monitor_model.specs.declared.tables.Tables.{Tables}
use Rattle.monitor_model.specs.Records.{compartment_at, site_at, targets_of, last_with_entry}
use Rattle.monitor_model.specs.Block.{Loan, Saved, MonitorBlock, entered, left, lent, unlent}
use Rattle.monitor_model.specs.Invariant.{IsLoan}
use Rattle.monitor_model.specs.Outcomes.{Outcome, Halts, Resumes, r12_place, return_place, status_place, stacked, with_stacked, moved_on, is_open}
use Rattle.monitor_model.specs.SvcOutcome.{word, callee_frame, new_top, enter_to, enter_by, enter_at, new_loan, by_number, svc_outcome}
use Rattle.monitor_model.specs.FaultOutcome.{value, address, covers, is_lent, emulated_store, emulated_load, by_half, fault_outcome}

-- ---- the forms of emulated accesses, by the number of the operation and the width

abbrev pub IsStoreForm : (op width : ℕ) → Type 0
IsStoreForm op w = ((op ≡ 0) × (w ≡ 4)) ⊎ (((op ≡ 2) × (w ≡ 1)) ⊎ ((op ≡ 4) × (w ≡ 2)))

abbrev pub IsLoadForm : (op width : ℕ) → Type 0
IsLoadForm op w = ((op ≡ 1) × (w ≡ 4)) ⊎ (((op ≡ 3) × (w ≡ 1)) ⊎ ((op ≡ 5) × (w ≡ 2)))

-- the halfword, of r0 at r1
abbrev pub half_of : ℕ → ℕ
half_of op = 0x6000 + op * 2048 + 0 * 64 + 1 * 8 + 0

abbrev IsBelowSix : ℕ → Type 0
IsBelowSix op = (op ≡ 0) ⊎ ((op ≡ 1) ⊎ ((op ≡ 2) ⊎ ((op ≡ 3) ⊎ ((op ≡ 4) ⊎ (op ≡ 5)))))

below_six : (op : ℕ) → op < 6 → IsBelowSix op
below_six zero h = inl refl
below_six (suc zero) h = inr (inl refl)
below_six (suc (suc zero)) h = inr (inr (inl refl))
below_six (suc (suc (suc zero))) h = inr (inr (inr (inl refl)))
below_six (suc (suc (suc (suc zero)))) h = inr (inr (inr (inr (inl refl))))
below_six (suc (suc (suc (suc (suc zero))))) h = inr (inr (inr (inr (inr refl))))
below_six (suc (suc (suc (suc (suc (suc n)))))) h = absurd (omega (arith, h))

-- of their acts at a core
store_width : (w u a b v x : ℕ) (c d : CoreRegisters) → Stores w a v c ≡ Stores u b x d → w ≡ u
store_width w u a b v x c d e = cc

load_width : (w u a b : ℕ) (f g : ℕ → CoreRegisters) → Loads w a f ≡ Loads u b g → w ≡ u
load_width w u a b f g e = cc

no_store : (w u a b v : ℕ) (f : ℕ → CoreRegisters) (c : CoreRegisters) → Loads w a f ≡ Stores u b v c → ⊥
no_store w u a b v f c e = cc

no_load : (w u a b v : ℕ) (f : ℕ → CoreRegisters) (c : CoreRegisters) → Stores u b v c ≡ Loads w a f → ⊥
no_load w u a b v f c e = cc

pub store_form : (op w : ℕ) (c : CoreRegisters) → op < 6 → IsStore op w → IsStoreForm op w
store_form op w c h is = by (below_six op h)
  where
    at : (n : ℕ) → op ≡ n → transfer_immediate n 0 0 0 0 c ≡ store_from 0 w (word_of (0 + w * 0)) 0 c
    at n e = ap (λ (o : ℕ). transfer_immediate o 0 0 0 0 c) (sym e) ∙ is 0 0 0 0 c

    by : IsBelowSix op → IsStoreForm op w
    by (inl e) = inl (e, sym (store_width 4 w _ _ _ _ _ _ (at 0 e)))
    by (inr (inl e)) = absurd (no_store _ _ _ _ _ _ _ (at 1 e))
    by (inr (inr (inl e))) = inr (inl (e, sym (store_width 1 w _ _ _ _ _ _ (at 2 e))))
    by (inr (inr (inr (inl e)))) = absurd (no_store _ _ _ _ _ _ _ (at 3 e))
    by (inr (inr (inr (inr (inl e))))) = inr (inr (e, sym (store_width 2 w _ _ _ _ _ _ (at 4 e))))
    by (inr (inr (inr (inr (inr e))))) = absurd (no_store _ _ _ _ _ _ _ (at 5 e))

pub load_form : (op w : ℕ) (c : CoreRegisters) → op < 6 → IsLoad op w → IsLoadForm op w
load_form op w c h is = by (below_six op h)
  where
    at : (n : ℕ) → op ≡ n → transfer_immediate n 0 0 0 0 c ≡ load_into 0 w (word_of (0 + w * 0)) 0 c
    at n e = ap (λ (o : ℕ). transfer_immediate o 0 0 0 0 c) (sym e) ∙ is 0 0 0 0 c

    by : IsBelowSix op → IsLoadForm op w
    by (inl e) = absurd (no_load _ _ _ _ _ _ _ (at 0 e))
    by (inr (inl e)) = inl (e, sym (load_width 4 w _ _ _ _ (at 1 e)))
    by (inr (inr (inl e))) = absurd (no_load _ _ _ _ _ _ _ (at 2 e))
    by (inr (inr (inr (inl e)))) = inr (inl (e, sym (load_width 1 w _ _ _ _ (at 3 e))))
    by (inr (inr (inr (inr (inl e))))) = absurd (no_load _ _ _ _ _ _ _ (at 4 e))
    by (inr (inr (inr (inr (inr e))))) = inr (inr (e, sym (load_width 2 w _ _ _ _ (at 5 e))))

-- ---- loans

-- of an aligned access the loan that holds the last byte holds all of it, as loans begin at multiples of 4
abbrev pub IsWidth : ℕ → Type 0
IsWidth w = (w ≡ 4) ⊎ ((w ≡ 1) ⊎ (w ≡ 2))

from_first : (l a w : ℕ) → l % 4 ≡ 0 → a % w ≡ 0 → l ≤ a + (w - 1) → IsWidth w → l ≤ a
from_first l a w al aw le (inl e) = let z : a % 4 ≡ 0 = subst (λ (n : ℕ). a % n ≡ 0) e aw in omega (arith, al, z, le, e)
from_first l a w al aw le (inr (inl e)) = omega (arith, le, e)
from_first l a w al aw le (inr (inr e)) = let z : a % 2 ≡ 0 = subst (λ (n : ℕ). a % n ≡ 0) e aw in omega (arith, al, z, le, e)

to_last : (a w end : ℕ) → a + (w - 1) < end → IsWidth w → a + w ≤ end
to_last a w end lt (inl e) = omega (arith, lt, e)
to_last a w end lt (inr (inl e)) = omega (arith, lt, e)
to_last a w end lt (inr (inr e)) = omega (arith, lt, e)

abbrev pub HoldsByte : (has : ℕ → Bool) → (address : ℕ) → Loan → Type 0
HoldsByte has a l = (has l.number ≡ true) × (l.address ≤ a) × (a < l.end)

-- the loan, what all loans are, and that the monitor's test finds it
pub record IsCovered (t : Tables) (has : ℕ → Bool) (mask a w : ℕ) (ls : List Loan) : Type 0 where
  pub loan : Loan
  pub placed : IsLoan t loan
  pub mine : has loan.number ≡ true
  pub from : loan.address ≤ a
  pub to : a + w ≤ loan.end
  pub is_lent : is_lent mask a w ls ≡ true

pub covered : (t : Tables) (has : ℕ → Bool) (mask a w : ℕ) (ls : List Loan) → ((n : ℕ) → has n ≡ true → bit_at mask n ≡ 1) → IsWidth w → a % w ≡ 0 → Each (IsLoan t) ls → AnyOf (HoldsByte has (a + (w - 1))) ls → IsCovered t has mask a w ls
covered t has mask a w [] in_mask width al h f = absurd f
covered t has mask a w (l ∷ ls) in_mask width al h (inr f) =
    let r = covered t has mask a w ls in_mask width al h.1 f in
    record { loan = r.loan; placed = r.placed; mine = r.mine; from = r.from; to = r.to; is_lent = or_right (covers mask a w l) (is_lent mask a w ls) r.is_lent }
covered t has mask a w (l ∷ ls) in_mask width al h (inl f) =
    let from = from_first l.address a w h.0.aligned al f.1 width in
    let to = to_last a w l.end f.2 width in
    let one = in_mask l.number f.0 in
    let x : nat_eq (bit_at mask l.number) 1 ≡ true = search (nat_tests, arith) in
    let y : nat_le l.address a ≡ true = search (nat_tests, arith) in
    let z : nat_le (a + w) l.end ≡ true = search (nat_tests, arith) in
    record { loan = l; placed = h.0; mine = f.0; from = from; to = to; is_lent = rw (x, y, z) refl }

module _ (i : Image) (t : Tables) (stub : ℕ) (m : MonitorBlock) (psp : ℕ) (memory : List ℕ) (lo : t.stack.base ≤ psp) (hi : psp + 32 ≤ m.top) (no_pad : stacked i psp memory status_place / 2 ^ 9 % 2 ≡ 0) where
  opened : is_open i t m psp memory ≡ true
  opened =
      let a : nat_le t.stack.base psp ≡ true = search (nat_tests, arith) in
      let b : nat_le (psp + 32) m.top ≡ true = search (nat_tests, arith) in
      let c : nat_eq (stacked i psp memory status_place / 2 ^ 9 % 2) 0 ≡ true = search (nat_tests, arith) in
      rw (a, b, c) refl

  -- ---- SVC

  numbered : (n : ℕ) → svc_outcome i t stub m psp memory n ≡ by_number i t stub m psp memory n
  unfolding svc_outcome
  numbered n = let e = opened in rw e refl

  pub lends : length m.loans < 32 → (new_loan i t stub m psp memory).number < length t.lends → (new_loan i t stub m psp memory).address % 4 ≡ 0 →
      psp + 32 ≤ (new_loan i t stub m psp memory).address → (new_loan i t stub m psp memory).end ≤ m.top →
      svc_outcome i t stub m psp memory 2 ≡ Resumes (lent m (new_loan i t stub m psp memory)) psp memory
  lends few known al from to =
      let l : Loan = new_loan i t stub m psp memory in
      let d : nat_lt (length m.loans) 32 ≡ true = search (nat_tests, arith) in
      let e : nat_lt l.number (length t.lends) ≡ true = search (nat_tests, arith) in
      let f : nat_eq (l.address % 4) 0 ≡ true = search (nat_tests, arith) in
      let g : nat_le (psp + 32) l.address ≡ true = search (nat_tests, arith) in
      let h : nat_le l.end m.top ≡ true = search (nat_tests, arith) in
      numbered 2 ∙ rw (d, e, f, g, h) refl

  pub unlends : (l : Loan) (ls : List Loan) → m.loans ≡ l ∷ ls → m.mark ≤ length ls → svc_outcome i t stub m psp memory 3 ≡ Resumes (unlent m ls) psp memory
  unlends l ls q marks =
      let d : nat_eq (suc (length ls)) m.mark ≡ false = search (nat_tests, arith) in
      numbered 3 ∙ rw (q, d) refl

  pub leaves : (e : Saved) (es : List Saved) → m.saved ≡ e ∷ es →
      svc_outcome i t stub m psp memory 1 ≡ Resumes (left m e es) e.psp (with_stacked i e.psp 0 (word i t stub m psp memory 0) memory)
  leaves e es q = numbered 1 ∙ rw q refl

  pub ends : m.saved ≡ [] → svc_outcome i t stub m psp memory 1 ≡ Halts 0
  ends q = numbered 1 ∙ rw q refl

  pub enters_at : (g : TargetRecord) (number offset : ℕ) → location i (word i t stub m psp memory return_place) ≡ InFlash offset → read 2 offset i.flash ≡ number → number < length t.sites →
      (site_at t number).ret ≡ word i t stub m psp memory return_place → last_with_entry (word i t stub m psp memory r12_place) (targets_of t (site_at t number)) ≡ Some g →
      t.stack.base < new_top i t stub m psp memory →
      enter_at i t stub m psp memory (location i (word i t stub m psp memory return_place))
      ≡ Resumes (entered m g.compartment (new_top i t stub m psp memory) psp) (new_top i t stub m psp memory - 32)
      (write_all 4 (new_top i t stub m psp memory - 32 - i.ram_base) (callee_frame i t stub m psp memory g) (moved_on i psp memory))
  enters_at g number offset here half known returns found some =
      let d : nat_lt number (length t.sites) ≡ true = search (nat_tests, arith) in
      let e : nat_eq (site_at t number).ret (word i t stub m psp memory return_place) ≡ true = search (nat_tests, arith) in
      let f : nat_lt t.stack.base (new_top i t stub m psp memory) ≡ true = search (nat_tests, arith) in
      let both : (nat_lt number (length t.sites) && nat_eq (site_at t number).ret (word i t stub m psp memory return_place)) ≡ true = rw (d, e) refl in
      let o : Option TargetRecord = last_with_entry (word i t stub m psp memory r12_place) (targets_of t (site_at t number)) in
      let second : enter_at i t stub m psp memory (location i (word i t stub m psp memory return_place)) ≡ enter_by i t stub m psp memory (read 2 offset i.flash) = ap (λ (l : Location). enter_at i t stub m psp memory l) here in
      let third : enter_by i t stub m psp memory (read 2 offset i.flash) ≡ enter_by i t stub m psp memory number = ap (λ (n : ℕ). enter_by i t stub m psp memory n) half in
      let fourth : enter_by i t stub m psp memory number ≡ enter_to i t stub m psp memory o = ap (λ (b : Bool). if b then enter_to i t stub m psp memory o else Halts 2) both in
      let fifth : enter_to i t stub m psp memory o ≡ enter_to i t stub m psp memory (Some g) = ap (λ (x : Option TargetRecord). enter_to i t stub m psp memory x) found in
      let to : Outcome = Resumes (entered m g.compartment (new_top i t stub m psp memory) psp) (new_top i t stub m psp memory - 32) (write_all 4 (new_top i t stub m psp memory - 32 - i.ram_base) (callee_frame i t stub m psp memory g) (moved_on i psp memory)) in
      let sixth : enter_to i t stub m psp memory (Some g) ≡ to = ap (λ (b : Bool). if b then to else Halts 5) f in
      second ∙ third ∙ fourth ∙ fifth ∙ sixth

  -- a callee that has no whole eighth
  pub enter_refused : (g : TargetRecord) (number offset : ℕ) → location i (word i t stub m psp memory return_place) ≡ InFlash offset → read 2 offset i.flash ≡ number → number < length t.sites →
      (site_at t number).ret ≡ word i t stub m psp memory return_place → last_with_entry (word i t stub m psp memory r12_place) (targets_of t (site_at t number)) ≡ Some g →
      new_top i t stub m psp memory ≡ t.stack.base → svc_outcome i t stub m psp memory 0 ≡ Halts 5
  enter_refused g number offset here half known returns found lowest =
      let d : nat_lt number (length t.sites) ≡ true = search (nat_tests, arith) in
      let e : nat_eq (site_at t number).ret (word i t stub m psp memory return_place) ≡ true = search (nat_tests, arith) in
      let f : nat_lt t.stack.base (new_top i t stub m psp memory) ≡ false = search (nat_tests, arith) in
      let both : (nat_lt number (length t.sites) && nat_eq (site_at t number).ret (word i t stub m psp memory return_place)) ≡ true = rw (d, e) refl in
      let o : Option TargetRecord = last_with_entry (word i t stub m psp memory r12_place) (targets_of t (site_at t number)) in
      let second : enter_at i t stub m psp memory (location i (word i t stub m psp memory return_place)) ≡ enter_by i t stub m psp memory (read 2 offset i.flash) = ap (λ (l : Location). enter_at i t stub m psp memory l) here in
      let third : enter_by i t stub m psp memory (read 2 offset i.flash) ≡ enter_by i t stub m psp memory number = ap (λ (n : ℕ). enter_by i t stub m psp memory n) half in
      let fourth : enter_by i t stub m psp memory number ≡ enter_to i t stub m psp memory o = ap (λ (b : Bool). if b then enter_to i t stub m psp memory o else Halts 2) both in
      let fifth : enter_to i t stub m psp memory o ≡ enter_to i t stub m psp memory (Some g) = ap (λ (x : Option TargetRecord). enter_to i t stub m psp memory x) found in
      let to : Outcome = Resumes (entered m g.compartment (new_top i t stub m psp memory) psp) (new_top i t stub m psp memory - 32) (write_all 4 (new_top i t stub m psp memory - 32 - i.ram_base) (callee_frame i t stub m psp memory g) (moved_on i psp memory)) in
      let sixth : enter_to i t stub m psp memory (Some g) ≡ Halts 5 = ap (λ (b : Bool). if b then to else Halts 5) f in
      numbered 0 ∙ second ∙ third ∙ fourth ∙ fifth ∙ sixth

  -- a lend while as many loans live as the monitor keeps
  pub lend_refused : length m.loans ≡ 32 → svc_outcome i t stub m psp memory 2 ≡ Halts 6
  lend_refused full =
      let d : nat_lt (length m.loans) 32 ≡ false = search (nat_tests, arith) in
      numbered 2 ∙ rw d refl

  pub enters : svc_outcome i t stub m psp memory 0 ≡ enter_at i t stub m psp memory (location i (word i t stub m psp memory return_place))
  enters = numbered 0

  -- ---- MemManage, behind a refused access of data

  faulted : (half : ℕ) → fault_outcome i t m psp memory 0x82 half ≡ by_half i t m psp memory half
  unfolding fault_outcome
  faulted half = let e = opened in rw e refl

  store_done : (w : ℕ) → is_lent (compartment_at t m.current).mask (address i t m psp memory) w m.loans ≡ true → address i t m psp memory % w ≡ 0 →
      emulated_store i t m psp memory w ≡ Resumes m psp (moved_on i psp (write w (address i t m psp memory - i.ram_base) (value i t m psp memory) memory))
  store_done w e a = rw e (rw a refl)

  load_done : (w : ℕ) → is_lent (compartment_at t m.current).reads (address i t m psp memory) w m.loans ≡ true → address i t m psp memory % w ≡ 0 →
      emulated_load i t m psp memory w ≡ Resumes m psp (moved_on i psp (with_stacked i psp 0 (read w (address i t m psp memory - i.ram_base) memory) memory))
  load_done w e a = rw e (rw a refl)

  pub stores : (op w : ℕ) → IsStoreForm op w → is_lent (compartment_at t m.current).mask (address i t m psp memory) w m.loans ≡ true → address i t m psp memory % w ≡ 0 →
      fault_outcome i t m psp memory 0x82 (half_of op) ≡ Resumes m psp (moved_on i psp (write w (address i t m psp memory - i.ram_base) (value i t m psp memory) memory))
  stores op w (inl f) e a = ap (λ (o : ℕ). fault_outcome i t m psp memory 0x82 (half_of o)) f.0 ∙ faulted 0x6008 ∙ ap (λ (n : ℕ). emulated_store i t m psp memory n) (sym f.1) ∙ store_done w e a
  stores op w (inr (inl f)) e a = ap (λ (o : ℕ). fault_outcome i t m psp memory 0x82 (half_of o)) f.0 ∙ faulted 0x7008 ∙ ap (λ (n : ℕ). emulated_store i t m psp memory n) (sym f.1) ∙ store_done w e a
  stores op w (inr (inr f)) e a = ap (λ (o : ℕ). fault_outcome i t m psp memory 0x82 (half_of o)) f.0 ∙ faulted 0x8008 ∙ ap (λ (n : ℕ). emulated_store i t m psp memory n) (sym f.1) ∙ store_done w e a

  closed : (half w : ℕ) → by_half i t m psp memory half ≡ emulated_load i t m psp memory w → by_half i t m psp memory half ≡ emulated_load i t m psp memory w
  closed half w e = e

  pub loads : (op w : ℕ) → IsLoadForm op w → t.closed ≡ true → is_lent (compartment_at t m.current).reads (address i t m psp memory) w m.loans ≡ true → address i t m psp memory % w ≡ 0 →
      fault_outcome i t m psp memory 0x82 (half_of op)
      ≡ Resumes m psp (moved_on i psp (with_stacked i psp 0 (read w (address i t m psp memory - i.ram_base) memory) memory))
  loads op w (inl f) c e a = ap (λ (o : ℕ). fault_outcome i t m psp memory 0x82 (half_of o)) f.0 ∙ faulted 0x6808 ∙ closed 0x6808 4 (rw c refl) ∙ ap (λ (n : ℕ). emulated_load i t m psp memory n) (sym f.1) ∙ load_done w e a
  loads op w (inr (inl f)) c e a = ap (λ (o : ℕ). fault_outcome i t m psp memory 0x82 (half_of o)) f.0 ∙ faulted 0x7808 ∙ closed 0x7808 1 (rw c refl) ∙ ap (λ (n : ℕ). emulated_load i t m psp memory n) (sym f.1) ∙ load_done w e a
  loads op w (inr (inr f)) c e a = ap (λ (o : ℕ). fault_outcome i t m psp memory 0x82 (half_of o)) f.0 ∙ faulted 0x8808 ∙ closed 0x8808 2 (rw c refl) ∙ ap (λ (n : ℕ). emulated_load i t m psp memory n) (sym f.1) ∙ load_done w e a
