-- What the handlers' outcomes write: each byte lies below TOP, in a loan that the compartment may write, or is one of the result
-- that a return hands back.
use Rattle.std.specs.Prelude.{nat_le}
use Rattle.std.specs.Int.{bit_at}
use Rattle.std.proofs.Common.{◌≡◌, ℕ, zero, suc, ◌||◌, ◌+◌, ◌-◌, ◌*◌, ◌/◌, ◌%◌, ◌<◌, ◌≤◌, ◌⊎◌, inl, inr, ⊎_elim, Bool, true, false, ◌&&◌, List, [], ◌∷◌, length, nat_eq, refl, ap, ◌∙◌, subst, arith}
use Rattle.std.proofs.lemmas.Bool.{cases_lt, false≢true, and_parts, eqb-true, leb-true}
use Rattle.std.proofs.lemmas.Bool.Decides.{nat_tests}
use Rattle.base_words.specs.Bytes.{read, write, write_all}
use Rattle.base_words.proofs.Bytes.{read_below, read_above, read_below_all, read_above_all}
use Rattle.machine_devices.specs.declared.image.Image.{Image}
use Rattle.machine_model.specs.State.{State}
use Rattle.monitor_model.specs.declared.tables.Tables.{Tables}
use Rattle.monitor_model.specs.Records.{compartment_at, stack_end}
use Rattle.monitor_model.specs.Placed.{Placed}
use Rattle.monitor_model.specs.Block.{Loan, MonitorBlock}
use Rattle.monitor_model.specs.BlockWords.{loan_address, loan_end, loan_number, HasLoans}
use Rattle.monitor_model.specs.Invariant.{IsLoan, InvariantHolds}
use Rattle.base_laws.specs.Lists.{Each}
use Rattle.monitor_model.specs.Handlers.{FrameIsOpen}
use Rattle.monitor_model.specs.Outcomes.{Halts, StopsUnaligned, Resumes, stacked, with_stacked, moved_on, is_open, return_place, status_place}
use Rattle.monitor_model.specs.FaultOutcome.{value, address, covers, is_lent, emulated_store, emulated_load, by_half, is_data_fault, fault_outcome}
use Rattle.monitor_confined.proofs.Changes.{top_below}
use Rattle.monitor_confined.proofs.EnterLaw.{both, same_parts}
use Rattle.monitor_runs.proofs.Tests.{either_way}
use Rattle.monitor_runs.specs.Acts.{OnStack, MayChange, BelowTop, InLoan}

-- an address that is not in the open stack
abbrev pub IsClosed : Tables → MonitorBlock → (address : ℕ) → Type 0
IsClosed t m a = (a < t.stack.base) ⊎ (m.top ≤ a)

pub open_or_closed : (t : Tables) (m : MonitorBlock) (a : ℕ) → ((t.stack.base ≤ a) × (a < m.top)) ⊎ IsClosed t m a
open_or_closed t m a = ⊎_elim (λ lt. inr (inl lt)) (λ ge. ⊎_elim (λ lt. inl (ge, lt)) (λ le. inr (inr le)) (cases_lt a m.top)) (cases_lt a t.stack.base)

-- an eighth of the stack is a frame at least, so the callee's frame does not begin below the stack
pub frame_from_base : (base size e p : ℕ) → 32 ≤ e → base < base + (p - base) / e * e → base + 32 ≤ base + (p - base) / e * e
frame_from_base base size e p le lt = least ((p - base) / e) (let z = lt in omega (arith, z))
  where
    least : (k : ℕ) → 0 < k * e → base + 32 ≤ base + k * e
    least k some = by k some
      where
        by : (k : ℕ) → 0 < k * e → base + 32 ≤ base + k * e
        by zero h = absurd (omega (arith, h))
        by (suc k) h = let x : e ≤ suc k * e = omega arith in omega (arith, x, le)

module _ (i : Image) (t : Tables) (low : i.ram_base ≤ t.stack.base) (m : MonitorBlock) (psp : ℕ) (inside : FrameIsOpen i t m psp) (memory : List ℕ) (a : ℕ) (above : i.ram_base ≤ a) where
  -- the bytes of the memory and of another are the same there
  abbrev Same : List ℕ → List ℕ → Type 0
  Same new old = read 1 (a - i.ram_base) new ≡ read 1 (a - i.ram_base) old

  -- a word of the frame is written
  pub stacked_apart : (k v : ℕ) (old : List ℕ) → k < 8 → IsClosed t m a → Same (with_stacked i psp k v old) old
  stacked_apart k v old lt c =
      let lo = inside.from_base in
      let hi = inside.below_top in
      ⊎_elim (λ b. read_below 1 (a - i.ram_base) 4 (psp - i.ram_base + 4 * k) v old (omega (arith, low, lo, b, above)))
      (λ e. read_above 1 (a - i.ram_base) 4 (psp - i.ram_base + 4 * k) v old (omega (arith, low, lo, hi, e, lt))) c

  pub moved_apart : (old : List ℕ) → IsClosed t m a → Same (moved_on i psp old) old
  moved_apart old c = stacked_apart return_place (stacked i psp old return_place + 2) old (omega arith) c

  -- the callee's frame is written
  pub entered_apart : (top : ℕ) (vs old : List ℕ) → length vs ≡ 8 → t.stack.base + 32 ≤ top → top ≤ psp → IsClosed t m a → Same (write_all 4 (top - 32 - i.ram_base) vs old) old
  entered_apart top vs old eight least most c =
      let hi = inside.below_top in
      ⊎_elim (λ b. read_below_all 1 (a - i.ram_base) 4 (top - 32 - i.ram_base) vs old (omega (arith, low, least, b, above)))
      (λ e. read_above_all 1 (a - i.ram_base) 4 (top - 32 - i.ram_base) vs old (omega (arith, low, least, most, hi, e, eight))) c

-- ---- loans

-- some loan of the list, by its words, holds all bytes of an access
pub record IsLentBy (i : Image) (t : Tables) (ram : List ℕ) (mask a w count : ℕ) : Type 0 where
  pub number : ℕ
  pub live : number < count
  pub in_mask : bit_at mask (loan_number i t ram number) ≡ 1
  pub from_address : loan_address i t ram number ≤ a
  pub below_end : a + w ≤ loan_end i t ram number
  pub from_base : t.stack.base ≤ a
  pub in_stack : a + w ≤ stack_end t

pub lent_by : (i : Image) (t : Tables) (ram : List ℕ) (mask a w : ℕ) (ls : List Loan) → HasLoans i t ram ls → Each (IsLoan t) ls → is_lent mask a w ls ≡ true → IsLentBy i t ram mask a w (length ls)
lent_by i t ram mask a w [] h e x = absurd (false≢true x)
lent_by i t ram mask a w (l ∷ ls) h e x = pick (covers mask a w l) refl (lent_by i t ram mask a w ls h.1 e.1) x
  where
    pick : (b : Bool) → covers mask a w l ≡ b → (is_lent mask a w ls ≡ true → IsLentBy i t ram mask a w (length ls)) → (b || is_lent mask a w ls) ≡ true → IsLentBy i t ram mask a w (length (l ∷ ls))
    pick true y ih z =
        let p = and_parts (nat_eq (bit_at mask l.number) 1) (nat_le l.address a && nat_le (a + w) l.end) y in
        let q = and_parts (nat_le l.address a) (nat_le (a + w) l.end) p.1 in
        let from = leb-true l.address a q.0 in
        let below = leb-true (a + w) l.end q.1 in
        record {
          number = length ls;
          live = omega arith;
          in_mask = ap (λ n. bit_at mask n) h.0.number ∙ eqb-true (bit_at mask l.number) 1 p.0;
          from_address = (let n = h.0.address in omega (arith, n, from));
          below_end = (let n = h.0.end in omega (arith, n, below));
          from_base = (let b = e.0.from_base in omega (arith, b, from));
          in_stack = (let b = e.0.below_end in omega (arith, b, below));
        }
    pick false y ih z =
        let k = ih z in
        record { number = k.number; live = (let n = k.live in omega (arith, n)); in_mask = k.in_mask; from_address = k.from_address; below_end = k.below_end; from_base = k.from_base; in_stack = k.in_stack }

-- ---- outcomes

-- from a thread's state of the invariant, over RAM behind the entry
module _ (i : Image) (t : Tables) (p : Placed i t) (s : State) (m : MonitorBlock) (h : InvariantHolds i t m s) (memory : List ℕ) (psp : ℕ) (a : ℕ) (above : i.ram_base ≤ a) where
  pub low : i.ram_base ≤ t.stack.base
  low = let x = p.stack.place.0 in let e = p.stack_base in omega (arith, x, e)

  -- what is written is what the compartment may change, in the stack
  abbrev pub Kept : List ℕ → Type 0
  Kept after = (read 1 (a - i.ram_base) after ≡ read 1 (a - i.ram_base) memory) ⊎ (MayChange i t s a × OnStack t a)

  pub below : (t.stack.base ≤ a) × (a < m.top) → MayChange i t s a × OnStack t a
  below x =
      let hi = x.1 in
      let e = h.inv.is_block.top_is in
      let most = top_below t (length m.saved) m.top h.inv.orderly.is_top in
      (BelowTop (x.0, omega (arith, hi, e)), (x.0, omega (arith, hi, most)))

  -- where it stays if the address is in no open stack
  pub by_closed : (after : List ℕ) → (IsClosed t m a → read 1 (a - i.ram_base) after ≡ read 1 (a - i.ram_base) memory) → Kept after
  by_closed after f = ⊎_elim (λ o. inr (below o)) (λ c. inl (f c)) (open_or_closed t m a)

  -- ---- of MemManage

  module _ (inside : FrameIsOpen i t m psp) where
    loaded : (v : ℕ) → Kept (moved_on i psp (with_stacked i psp 0 v memory))
    loaded v = by_closed (moved_on i psp (with_stacked i psp 0 v memory)) (λ c.
        moved_apart i t low m psp inside memory a above (with_stacked i psp 0 v memory) c ∙ stacked_apart i t low m psp inside memory a above 0 v memory (omega arith) c)

    -- the loan holds what was written
    in_loan : (w d : ℕ) → is_lent (compartment_at t m.current).mask d w m.loans ≡ true → d ≤ a → a < d + w → MayChange i t s a × OnStack t a
    in_loan w d x from to =
        let l = lent_by i t s.ram (compartment_at t m.current).mask d w m.loans h.inv.is_block.has_loans h.inv.orderly.loans x in
        let few = l.live in
        let lo = l.from_address in
        let hi = l.below_end in
        let count = h.inv.is_block.loan_count_is in
        let cur = h.inv.is_block.current_is in
        let b = l.from_base in
        let end = l.in_stack in (
          InLoan l.number (record {
            live = omega (arith, few, count);
            in_mask = ap (λ c. bit_at (compartment_at t c).mask (loan_number i t s.ram l.number)) cur ∙ l.in_mask;
            from_address = omega (arith, lo, from);
            below_end = omega (arith, hi, to);
          }),
          (omega (arith, b, from), omega (arith, end, to)),
        )

    -- a store by a loan
    stored : (w d v : ℕ) → is_lent (compartment_at t m.current).mask d w m.loans ≡ true → Kept (moved_on i psp (write w (d - i.ram_base) v memory))
    stored w d v x =
        let l = lent_by i t s.ram (compartment_at t m.current).mask d w m.loans h.inv.is_block.has_loans h.inv.orderly.loans x in
        let b = l.from_base in
        let n = low in
        let moved = moved_apart i t low m psp inside memory a above (write w (d - i.ram_base) v memory) in
        ⊎_elim (λ o. inr (below o)) (λ c.
        ⊎_elim (λ lt. inl (moved c ∙ read_below 1 (a - i.ram_base) w (d - i.ram_base) v memory (omega (arith, lt, b, n, above)))) (λ ge.
        ⊎_elim (λ lt. inr (in_loan w d x ge lt)) (λ le. inl (moved c ∙ read_above 1 (a - i.ram_base) w (d - i.ram_base) v memory (omega (arith, le, b, n, above))))
        (cases_lt a (d + w))) (cases_lt a d)) (open_or_closed t m a)

    module _ (n : MonitorBlock) (q : ℕ) (after : List ℕ) where
      abbrev Goal : Type 0
      Goal = Kept after

      halts : (k : ℕ) → Halts k ≡ Resumes n q after → Goal
      halts k e = cc

      stops : StopsUnaligned ≡ Resumes n q after → Goal
      stops e = cc

      resumes : (o : ℕ) (r : List ℕ) → Kept r → Resumes m o r ≡ Resumes n q after → Goal
      resumes o r f e = subst Kept (same_parts m n o q r after e).2 f

      store : (w : ℕ) → emulated_store i t m psp memory w ≡ Resumes n q after → Goal
      store w e =
          let d : ℕ = address i t m psp memory in
          either_way Goal (is_lent (compartment_at t m.current).mask d w m.loans) _ _ (Resumes n q after)
          (λ x e. either_way Goal (nat_eq (d % w) 0) _ _ (Resumes n q after) (λ y e. resumes _ _ (stored w d (value i t m psp memory) x) e) (λ z. stops) e) (λ z. halts 7) e

      load : (w : ℕ) → emulated_load i t m psp memory w ≡ Resumes n q after → Goal
      load w e =
          let d : ℕ = address i t m psp memory in
          either_way Goal (is_lent (compartment_at t m.current).reads d w m.loans) _ _ (Resumes n q after)
          (λ x e. either_way Goal (nat_eq (d % w) 0) _ _ (Resumes n q after) (λ y e. resumes _ _ (loaded (read w (d - i.ram_base) memory)) e) (λ z. stops) e) (λ z. halts 9) e

      by_halfword : (k : ℕ) → by_half i t m psp memory k ≡ Resumes n q after → Goal
      by_halfword k e =
          either_way Goal (nat_eq k 0x6008) _ _ (Resumes n q after) (λ x e. store 4 e)
          (λ z e. either_way Goal (nat_eq k 0x7008) _ _ (Resumes n q after) (λ x e. store 1 e)
          (λ z e. either_way Goal (nat_eq k 0x8008) _ _ (Resumes n q after) (λ x e. store 2 e)
          (λ z e. either_way Goal (t.closed && nat_eq k 0x6808) _ _ (Resumes n q after) (λ x e. load 4 e)
          (λ z e. either_way Goal (t.closed && nat_eq k 0x7808) _ _ (Resumes n q after) (λ x e. load 1 e)
          (λ z e. either_way Goal (t.closed && nat_eq k 0x8808) _ _ (Resumes n q after) (λ x e. load 2 e) (λ z. halts 8) e) e) e) e) e) e

  -- the frame is open where the handler goes on
  pub opened : is_open i t m psp memory ≡ true → FrameIsOpen i t m psp
  opened e =
      let b1 : Bool = nat_le t.stack.base psp in
      let b2 : Bool = nat_le (psp + 32) m.top in
      let b3 : Bool = nat_eq (bit_at (stacked i psp memory status_place) 9) 0 in
      let b = both b1 (b2 && b3) e in
      let c = both b2 b3 b.1 in
      let x1 : t.stack.base ≤ psp = let z = b.0 in search (nat_tests, arith) in
      let x2 : psp + 32 ≤ m.top = let z = c.0 in search (nat_tests, arith) in
      record { from_base = x1; below_top = x2 }

  pub fault_writes : (cfsr half : ℕ) (n : MonitorBlock) (q : ℕ) (after : List ℕ) → fault_outcome i t m psp memory cfsr half ≡ Resumes n q after → FrameIsOpen i t m psp × Kept after
  unfolding fault_outcome
  fault_writes cfsr half n q after e =
      either_way (FrameIsOpen i t m psp × Kept after) (is_open i t m psp memory) _ _ (Resumes n q after)
      (λ x e. let f = opened x in (f, either_way (Goal f n q after) (is_data_fault i t m psp memory cfsr) _ _ (Resumes n q after) (λ y e. by_halfword f n q after half e) (λ z. halts f n q after 8) e))
      (λ z e. cc) e
