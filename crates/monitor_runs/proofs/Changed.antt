-- What an act may change off the slots lies in the stack.
use Rattle.std.proofs.Common.{◌≡◌, ℕ, zero, suc, ◌+◌, ◌-◌, ◌*◌, ◌/◌, ◌^◌, ◌<◌, ◌≤◌, ◌⊎◌, inl, inr, ⊎_elim, true, List, [], ◌∷◌, length, refl, sym, ap, ◌∙◌, subst, arith}
use Rattle.std.proofs.lemmas.Bool.{cases_lt}
use Rattle.std.proofs.lemmas.Nat.{pow_below}
use Rattle.machine_protection.specs.declared.region.Region.{Region}
use Rattle.machine_protection.specs.Regions.{holds, permission}
use Rattle.machine_devices.specs.declared.image.Image.{Image}
use Rattle.base_ranges.specs.Ranges.{AreApart}
use Rattle.machine_model.specs.Confinement.{AnyOf}
use Rattle.machine_model.specs.State.{State}
use Rattle.base_laws.specs.Lists.{Each}
use Rattle.base_laws.proofs.Lists.{each_at}
use Rattle.monitor_model.specs.declared.tables.Tables.{Tables}
use Rattle.monitor_model.specs.Records.{compartment_at, nobody, eighth, stack_end}
use Rattle.monitor_model.specs.Placed.{Placed, IsCompartment, IsSlot}
use Rattle.monitor_model.specs.Block.{Loan, Saved, MonitorBlock}
use Rattle.monitor_model.specs.BlockWords.{current, top, depth, saved_psp, loan_count, loan_address, loan_end, HasSaved, HasLoans}
use Rattle.monitor_model.specs.Invariant.{AreSaved, IsLoan, InvariantHolds}
use Rattle.monitor_model.specs.Handlers.{InWaitingFrame}
use Rattle.monitor_confined.proofs.Changes.{top_below}
use Rattle.monitor_runs.specs.Acts.{IsOutside, OnStack, IsWritable, IsResult, MayChange, InSlot, BelowTop, InLoan, InResult}
use Rattle.monitor_runs.specs.Stays.{IsBounded}

slot_off : (i : Image) (t : Tables) (gs : List Region) (a : ℕ) → Each (IsSlot i t) gs → AnyOf (λ (g : Region). (holds g a ≡ true) × (permission g ≡ 3)) gs → AreApart a 1 t.stack.base t.stack.size
slot_off i t [] a h f = absurd f
slot_off i t (g ∷ gs) a h (inl f) = (h.0 a f.0).off_stack
slot_off i t (g ∷ gs) a h (inr f) = slot_off i t gs a h.1 f

-- the stack's size is some power of two
stack_power : (k : ℕ) → 9 ≤ k → k ≤ 16 → (2 ^ 8 ≤ 2 ^ k) × (2 ^ k < 2 ^ 32) × (32 ≤ 2 ^ k / 8)
stack_power k lo hi =
    let more = pow_below 8 k (omega (arith, lo)) in
    let less = pow_below k 17 (omega (arith, hi)) in
    (omega (arith, more), omega (arith, less), omega (arith, more))

pub stack_some : (i : Image) (t : Tables) → Placed i t → (2 ^ 8 ≤ t.stack.size) × (t.stack.size < 2 ^ 32) × (32 ≤ eighth t)
stack_some i t p =
    let k = p.stack.size in
    subst (λ (z : ℕ). (2 ^ 8 ≤ z) × (z < 2 ^ 32) × (32 ≤ z / 8)) (sym (p.stack_size ∙ k.3)) (stack_power k.0 k.1 k.2)

some_open : (base e top k : ℕ) → top ≡ base + k * e → 0 < k → 0 < e → base < top
some_open base e top zero at some wide = absurd (omega (arith, some))
some_open base e top (suc k) at some wide = let x : e ≤ suc k * e = omega arith in omega (arith, at, x, wide)

module _ (i : Image) (t : Tables) (p : Placed i t) (s : State) (m : MonitorBlock) (h : InvariantHolds i t m s) where
  -- a loan by its words is one of the list
  lent_at : (ls : List Loan) → HasLoans i t s.ram ls → Each (IsLoan t) ls → (k a : ℕ) → k < length ls → loan_address i t s.ram k ≤ a → a < loan_end i t s.ram k → OnStack t a
  lent_at [] w e k a lt from to = absurd (omega (arith, lt))
  lent_at (l ∷ ls) w e k a lt from to =
      ⊎_elim (λ less. lent_at ls w.1 e.1 k a less from to)
      (λ ge. let z : length ls ≡ k = omega (arith, ge, lt) in
      let lo = ap (λ (n : ℕ). loan_address i t s.ram n) (sym z) ∙ w.0.address in
      let hi = ap (λ (n : ℕ). loan_end i t s.ram n) (sym z) ∙ w.0.end in
      let b = e.0.from_base in
      let c = e.0.below_end in
      (omega (arith, lo, from, b), omega (arith, hi, to, c))) (cases_lt k (length ls))

  pub lent_on_stack : (k a : ℕ) → k < loan_count i t s.ram → loan_address i t s.ram k ≤ a → a < loan_end i t s.ram k → OnStack t a
  lent_on_stack k a lt from to = let n = h.inv.is_block.loan_count_is in lent_at m.loans h.inv.is_block.has_loans h.inv.orderly.loans k a (omega (arith, lt, n)) from to

  -- the frame that waits lies on the stack too
  frame_at : (es : List Saved) → m.saved ≡ es → (a : ℕ) → InWaitingFrame i t s a → OnStack t a
  frame_at [] is a r = absurd (let d = h.inv.is_block.depth_is ∙ ap (λ (l : List Saved). length l) is in let z = r.0 in omega (arith, d, z))
  frame_at (e ∷ es) is a r =
      let saved = subst (λ (l : List Saved). AreSaved t m.top m.mark l) is h.inv.orderly.saved in
      let words = subst (λ (l : List Saved). HasSaved i t s.ram l) is h.inv.is_block.has_saved in
      let d : depth i t s.ram ≡ suc (length es) = h.inv.is_block.depth_is ∙ ap (λ (l : List Saved). length l) is in
      let one : depth i t s.ram - 1 ≡ length es = omega (arith, d) in
      let at : saved_psp i t s.ram (depth i t s.ram - 1) ≡ e.psp = ap (λ k. saved_psp i t s.ram k) one ∙ words.0.psp in
      let lo = saved.0.from_base in
      let hi = saved.0.inside in
      let most = top_below t (length es) e.top saved.0.is_top in
      let x = r.1 in
      let y = r.2 in
      (omega (arith, lo, x, at), omega (arith, hi, most, y, at))

  result_at : (a : ℕ) → IsResult i t s a → OnStack t a
  result_at a r = frame_at m.saved refl a (r.0, r.1, let x = r.2 in omega (arith, x))

  top_most : top i t s.ram ≤ stack_end t
  top_most = let x = top_below t (length m.saved) m.top h.inv.orderly.is_top in let e = h.inv.is_block.top_is in omega (arith, x, e)

  pub runs : current i t s.ram < length t.comps
  runs = let x = h.inv.orderly.current_in in let e = h.inv.is_block.current_is in omega (arith, x, e)

  pub changed_kind : (a : ℕ) → MayChange i t s a → IsWritable t (current i t s.ram) a ⊎ OnStack t a
  changed_kind a (InSlot f) = inl f
  changed_kind a (BelowTop f) = inr (f.0, let x = f.1 in let y = top_most in omega (arith, x, y))
  changed_kind a (InLoan k f) = inr (lent_on_stack k a f.live f.from_address f.below_end)
  changed_kind a (InResult v f) = inr (result_at a f)

  -- no slot holds an address of the stack
  pub slots_off : (a : ℕ) → OnStack t a → IsWritable t (current i t s.ram) a → ⊥
  slots_off a on f =
      let c = each_at (IsCompartment i t) t.comps nobody (current i t s.ram) p.comps runs in
      let x = on.0 in
      let y = on.1 in
      ⊎_elim (λ b. omega (arith, b, x)) (λ b. omega (arith, b, y)) (slot_off i t (compartment_at t (current i t s.ram)).slots a c.slots f)

  pub bounded : IsBounded i t s
  bounded =
      let is = h.inv.orderly.is_top in
      let e = h.inv.is_block.top_is in
      let d = h.inv.is_block.depth_is in
      let k = is.3 in
      let z = is.2 in
      record {
        runs = runs;
        waiting = omega (arith, d, k, z);
        some_open = (let x = some_open t.stack.base (eighth t) m.top is.0 is.1 is.2 (let w = (stack_some i t p).2 in omega (arith, w)) in omega (arith, x, e));
        most_open = top_most;
        few_lent = (let f = h.inv.orderly.few in let n = h.inv.is_block.loan_count_is in omega (arith, f, n));
        lent = lent_on_stack;
        frame = frame_at m.saved refl;
      }

-- the stack is apart from the monitor's block
pub stack_outside : (i : Image) (t : Tables) → Placed i t → (a : ℕ) → OnStack t a → IsOutside i t a
stack_outside i t p a on =
    let x = on.0 in
    let y = on.1 in
    let b = p.stack_base in
    let c = p.stack.place.0 in
    record {
      from_base = omega (arith, x, b, c);
      off_block = λ o. let lo = o.0 in let hi = o.1 in ⊎_elim (λ d. omega (arith, d, hi, x)) (λ d. omega (arith, d, lo, y)) p.apart;
    }
