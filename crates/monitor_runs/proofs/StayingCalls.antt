-- What the outcome of SVC writes: frames below TOP, and the result that a return hands back.
use Rattle.std.specs.Prelude.{if◌then◌else◌}
use Rattle.std.proofs.Common.{◌≡◌, ℕ, suc, ◌+◌, ◌-◌, ◌*◌, ◌<◌, ◌≤◌, inl, inr, ⊎_elim, Bool, true, false, ◌&&◌, List, [], ◌∷◌, length, nat_eq, nat_lt, Option, Some, None, refl, ap, ◌∙◌, subst, arith}
use Rattle.std.proofs.lemmas.Bool.{cases_lt}
use Rattle.std.proofs.lemmas.Bool.Decides.{nat_tests}
use Rattle.base_words.specs.Bytes.{read, write_all}
use Rattle.base_words.proofs.Bytes.{read_below, read_above}
use Rattle.machine_devices.specs.declared.image.Image.{Image}
use Rattle.machine_bus.specs.Locations.{Location, InRam, InFlash, InWindow, Nowhere, location}
use Rattle.machine_model.specs.State.{State}
use Rattle.monitor_model.specs.declared.tables.TargetRecord.{TargetRecord}
use Rattle.monitor_model.specs.declared.tables.Tables.{Tables}
use Rattle.monitor_model.specs.Records.{eighth, site_at, targets_of, last_with_entry}
use Rattle.monitor_model.specs.Placed.{Placed}
use Rattle.monitor_model.specs.Block.{Loan, Saved, MonitorBlock, unlent}
use Rattle.monitor_model.specs.BlockWords.{depth, block_word, saved_offset, HasSaved}
use Rattle.monitor_model.specs.Invariant.{AreSaved, InvariantHolds}
use Rattle.monitor_model.specs.Confined.{IsSvc}
use Rattle.monitor_model.specs.Handlers.{FrameIsOpen}
use Rattle.monitor_model.specs.Outcomes.{Halts, Resumes, with_stacked, moved_on, is_open, r12_place, return_place}
use Rattle.monitor_model.specs.SvcOutcome.{word, callee_frame, new_top, enter_to, enter_by, enter_at, leave_to, may_lend, lend, unlend_to, by_number, svc_outcome}
use Rattle.monitor_confined.proofs.Changes.{top_below}
use Rattle.monitor_confined.proofs.EnterLaw.{same_parts, rounded_below}
use Rattle.monitor_runs.proofs.Tests.{either_way}
use Rattle.monitor_runs.specs.Acts.{InResult}
use Rattle.monitor_runs.proofs.Writes.{Kept, moved_apart, entered_apart, by_closed, opened, low, frame_from_base}

module _ (i : Image) (t : Tables) (p : Placed i t) (wide : 32 ≤ eighth t) (stub : ℕ) (s : State) (m : MonitorBlock) (h : InvariantHolds i t m s) (memory : List ℕ) (psp : ℕ) (a : ℕ) (above : i.ram_base ≤ a) (n : MonitorBlock) (q : ℕ) (after : List ℕ) where
  abbrev Goal : Type 0
  Goal = Kept i t p s m h memory psp a above after

  same : (b : MonitorBlock) (o : ℕ) (r : List ℕ) → Kept i t p s m h memory psp a above r → Resumes b o r ≡ Resumes n q after → Goal
  same b o r f e = subst (λ (x : List ℕ). Kept i t p s m h memory psp a above x) (same_parts b n o q r after e).2 f

  halts : (k : ℕ) → Halts k ≡ Resumes n q after → Goal
  halts k e = cc

  stays : Kept i t p s m h memory psp a above memory
  stays = inl refl

  -- ---- enter

  module _ (inside : FrameIsOpen i t m psp) where
    enters : (top : ℕ) (vs : List ℕ) → length vs ≡ 8 → t.stack.base + 32 ≤ top → top ≤ psp → Kept i t p s m h memory psp a above (write_all 4 (top - 32 - i.ram_base) vs (moved_on i psp memory))
    enters top vs eight least most =
        let l = low i t p s m h memory psp a above in
        by_closed i t p s m h memory psp a above (write_all 4 (top - 32 - i.ram_base) vs (moved_on i psp memory)) (λ c.
        entered_apart i t l m psp inside memory a above top vs (moved_on i psp memory) eight least most c ∙ moved_apart i t l m psp inside memory a above memory c)

    enter_to_writes : (o : Option TargetRecord) → enter_to i t stub m psp memory o ≡ Resumes n q after → Goal
    enter_to_writes None e = halts 3 e
    enter_to_writes (Some g) e =
        either_way Goal (nat_lt t.stack.base (new_top i t stub m psp memory)) _ _ (Resumes n q after)
        (λ z e.
        let some : t.stack.base < new_top i t stub m psp memory = search (nat_tests, arith) in
        let lo = inside.from_base in
        same _ _ _ (enters (new_top i t stub m psp memory) (callee_frame i t stub m psp memory g) refl (frame_from_base t.stack.base t.stack.size (eighth t) psp wide some) (rounded_below t.stack.base (eighth t) psp lo)) e)
        (λ z. halts 5) e

    enter_by_writes : (k : ℕ) → enter_by i t stub m psp memory k ≡ Resumes n q after → Goal
    enter_by_writes k e =
        either_way Goal (nat_lt k (length t.sites) && nat_eq (site_at t k).ret (word i t stub m psp memory return_place)) _ _ (Resumes n q after)
        (λ z e. enter_to_writes (last_with_entry (word i t stub m psp memory r12_place) (targets_of t (site_at t k))) e) (λ z. halts 2) e

    enter_writes : (l : Location) → enter_at i t stub m psp memory l ≡ Resumes n q after → Goal
    enter_writes (InRam o) e = cc
    enter_writes (InFlash o) e = enter_by_writes (read 2 o i.flash) e
    enter_writes (InWindow k o) e = cc
    enter_writes Nowhere e = cc

  -- ---- leave: the word of the result

  result : (e : Saved) (es : List Saved) → m.saved ≡ e ∷ es → IsSvc i t 1 s → (v : ℕ) → Kept i t p s m h memory psp a above (with_stacked i e.psp 0 v memory)
  result e es is svc v =
      let saved = subst (λ (l : List Saved). AreSaved t m.top m.mark l) is h.inv.orderly.saved in
      let words = subst (λ (l : List Saved). HasSaved i t s.ram l) is h.inv.is_block.has_saved in
      let d : depth i t s.ram ≡ suc (length es) = h.inv.is_block.depth_is ∙ ap (λ (l : List Saved). length l) is in
      let one : depth i t s.ram - 1 ≡ length es = omega (arith, d) in
      let at : block_word i t s.ram (saved_offset (depth i t s.ram - 1)) ≡ e.psp = ap (λ k. block_word i t s.ram (saved_offset k)) one ∙ words.0.psp in
      let lo = saved.0.from_base in
      let hi = saved.0.inside in
      let most = top_below t (length es) e.top saved.0.is_top in
      let l = low i t p s m h memory psp a above in
      ⊎_elim (λ lt. inl (read_below 1 (a - i.ram_base) 4 (e.psp - i.ram_base + 4 * 0) v memory (omega (arith, lt, lo, l, above)))) (λ ge.
      ⊎_elim (λ lt. inr (InResult svc (omega (arith, d), omega (arith, at, ge), omega (arith, at, lt)), (omega (arith, lo, ge), omega (arith, hi, most, lt)))) (λ le. inl (read_above 1 (a - i.ram_base) 4 (e.psp - i.ram_base + 4 * 0) v memory (omega (arith, le, lo, l, above))))
      (cases_lt a (e.psp + 4))) (cases_lt a e.psp)

  leave_writes : (es : List Saved) → m.saved ≡ es → IsSvc i t 1 s → leave_to i t stub m psp memory es ≡ Resumes n q after → Goal
  leave_writes [] is svc e = halts 0 e
  leave_writes (x ∷ es) is svc e = same _ _ _ (result x es is svc (word i t stub m psp memory 0)) e

  -- ---- lend and unlend

  lend_writes : lend i t stub m psp memory ≡ Resumes n q after → Goal
  lend_writes e = either_way Goal (may_lend i t stub m psp memory) _ _ (Resumes n q after) (λ z e. same _ _ _ stays e) (λ z. halts 6) e

  unlend_writes : (ls : List Loan) → unlend_to i t stub m psp memory ls ≡ Resumes n q after → Goal
  unlend_writes [] e = halts 6 e
  unlend_writes (l ∷ ls) e = by (nat_eq (length (l ∷ ls)) m.mark) e
    where
      by : (b : Bool) → (if b then Halts 6 else Resumes (unlent m ls) psp memory) ≡ Resumes n q after → Goal
      by true e = cc
      by false e = same _ _ _ stays e

  -- ---- all of them

  svc_by_number : (k : ℕ) → IsSvc i t k s → FrameIsOpen i t m psp → by_number i t stub m psp memory k ≡ Resumes n q after → Goal
  svc_by_number k svc inside e =
      either_way Goal (nat_eq k 0) _ _ (Resumes n q after) (λ z e. enter_writes inside (location i (word i t stub m psp memory return_place)) e)
      (λ z e. either_way Goal (nat_eq k 1) _ _ (Resumes n q after) (λ z e. let y : k ≡ 1 = search (nat_tests, arith) in leave_writes m.saved refl (subst (λ (x : ℕ). IsSvc i t x s) y svc) e)
      (λ z e. either_way Goal (nat_eq k 2) _ _ (Resumes n q after) (λ z e. lend_writes e)
      (λ z e. either_way Goal (nat_eq k 3) _ _ (Resumes n q after) (λ z e. unlend_writes m.loans e) (λ z. halts 1) e) e) e) e

  pub svc_writes : (k : ℕ) → IsSvc i t k s → svc_outcome i t stub m psp memory k ≡ Resumes n q after → FrameIsOpen i t m psp × Goal
  unfolding svc_outcome
  svc_writes k svc e =
      either_way (FrameIsOpen i t m psp × Goal) (is_open i t m psp memory) _ _ (Resumes n q after)
      (λ x e. let f = opened i t p s m h memory psp a above x in (f, svc_by_number k svc f e))
      (λ z e. cc) e
