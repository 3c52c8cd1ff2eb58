-- The block stays orderly through enter, leave, lend, unlend and emulated accesses.
use Rattle.std.proofs.Common.{◌≡◌, ℕ, zero, suc, ◌+◌, ◌-◌, ◌*◌, ◌/◌, ◌%◌, ◌<◌, ◌≤◌, List, [], ◌∷◌, length, drop, length-drop, refl, subst, arith, div-mul-le_self}
use Rattle.machine_devices.specs.declared.image.Image.{Image}
use Rattle.machine_model.specs.State.{State}
use Rattle.machine_model.specs.Exceptions.{frame_at}
use Rattle.base_laws.specs.Lists.{Each}
use Rattle.machine_model.proofs.Tested.{frame_aligned}
use Rattle.monitor_model.specs.declared.tables.Tables.{Tables}
use Rattle.monitor_model.specs.Records.{eighth, rounded}
use Rattle.monitor_model.specs.Placed.{Placed}
use Rattle.monitor_model.specs.Block.{Loan, Saved, MonitorBlock, entered, left}
use Rattle.monitor_model.specs.Invariant.{IsTop, AreSaved, IsLoan, IsOrderly}
use Rattle.monitor_model.specs.Handlers.{FrameIsOpen, Change, Emulates, Enters, Leaves, Lends, Unlends}
use Rattle.monitor_confined.specs.WholeRuns.{ChangesKeepOrder}

dropped : (t : Tables) (n : ℕ) (ls : List Loan) → Each (IsLoan t) ls → Each (IsLoan t) (drop n ls)
dropped t zero ls h = h
dropped t (suc n) [] h = tt
dropped t (suc n) (l ∷ ls) h = dropped t n ls h.1

-- TOP lies in the stack
pub top_below : (t : Tables) (n a : ℕ) → IsTop t n a → a ≤ t.stack.base + t.stack.size
top_below t n a h =
    let few : h.0 ≤ 8 = (let z = h.3 in omega (arith, z)) in
    let most : h.0 * eighth t ≤ 8 * eighth t = grind (arith, few) in
    let at = h.1 in
    omega (arith, at, most)

module _ (i : Image) (t : Tables) (p : Placed i t) (s u : State) (m : MonitorBlock) (x : IsOrderly t m) (aligned : s.core.sp % 4 ≡ 0) where
  entered_orderly : (c : ℕ) → FrameIsOpen i t m (frame_at s.core.sp) → t.stack.base < rounded t (frame_at s.core.sp) → c < length t.comps →
      IsOrderly t (entered m c (rounded t (frame_at s.core.sp)) (frame_at s.core.sp))
  entered_orderly c o some inside =
      let f : ℕ = frame_at s.core.sp in
      let e : ℕ = eighth t in
      let k : ℕ = (f - t.stack.base) / e in
      let lo = o.from_base in
      let hi = o.below_top in
      let h = x.is_top in
      let at = h.1 in
      let few = h.3 in
      let under : k * e ≤ f - t.stack.base = div-mul-le_self (f - t.stack.base) e in
      let above : t.stack.base + k * e ≤ f = omega (arith, under, lo) in
      let not_none : 0 < k * e = omega (arith, some) in
      let first : 0 < k = grind (arith, not_none) in
      let products : k * e < h.0 * e = omega (arith, above, hi, at) in
      let less : k < h.0 = grind (arith, products) in
      record {
        current_in = inside;
        is_top = (k, refl, first, omega (arith, few, less));
        saved = (record { is_top = h; aligned = frame_aligned s.core.sp aligned; from_base = lo; inside = hi; above = above; marks_rise = x.marks; current_in = x.current_in }, x.saved);
        marks = omega arith;
        few = x.few;
        loans = x.loans;
      }

  left_orderly : (e : Saved) (es : List Saved) → m.saved ≡ e ∷ es → IsOrderly t (left m e es)
  left_orderly e es q =
      let a = subst (λ (l : List Saved). AreSaved t m.top m.mark l) q x.saved in
      let f = a.0 in
      let l : length (drop (length m.loans - m.mark) m.loans) ≡ length m.loans - (length m.loans - m.mark) = length-drop (length m.loans - m.mark) m.loans in
      let marks = x.marks in
      let few = x.few in
      let rise = f.marks_rise in
      record {
        current_in = f.current_in;
        is_top = f.is_top;
        saved = a.1;
        marks = omega (arith, rise, l, marks);
        few = omega (arith, l, few);
        loans = dropped t (length m.loans - m.mark) m.loans x.loans;
      }

  pub change_orderly : (n : MonitorBlock) → Change i t s u m n → IsOrderly t n
  change_orderly _ Emulates = x
  change_orderly _ (Enters c o some inside crosses) = entered_orderly c o some inside
  change_orderly _ (Leaves e es q v) = left_orderly e es q
  change_orderly _ (Lends l o room in_list al size from to) =
      let low = o.from_base in
      let inside = top_below t (length m.saved) m.top x.is_top in
      let marks = x.marks in
      record {
        current_in = x.current_in;
        is_top = x.is_top;
        saved = x.saved;
        marks = omega (arith, marks);
        few = omega (arith, room);
        loans = (record { aligned = al; from_base = omega (arith, low, from); below_end = omega (arith, to, inside); number_in = in_list; size = size }, x.loans);
      }
  change_orderly _ (Unlends l ls q marks) =
      let a = subst (λ (k : List Loan). Each (IsLoan t) k) q x.loans in
      let few : suc (length ls) ≤ 32 = subst (λ (k : List Loan). length k ≤ 32) q x.few in
      record {
        current_in = x.current_in;
        is_top = x.is_top;
        saved = x.saved;
        marks = marks;
        few = omega (arith, few);
        loans = a.1;
      }

pub changes_keep_order : ChangesKeepOrder
changes_keep_order i t s u m n p aligned x c = change_orderly i t p s u m x aligned n c
