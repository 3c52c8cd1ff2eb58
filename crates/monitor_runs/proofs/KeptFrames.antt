-- The frame at which a caller waits stays, where no live loan of a compartment that acts meanwhile meets it.
use Rattle.std.proofs.Common.{◌≡◌, ℕ, zero, suc, ◌+◌, ◌-◌, ◌<◌, ◌≤◌, ◌⊎◌, inl, inr, ⊎_elim, false, List, [], ◌∷◌, ◌++◌, length, ap, ◌∙◌, subst, arith}
use Rattle.base_words.specs.Bytes.{read}
use Rattle.machine_devices.specs.declared.image.Image.{Image}
use Rattle.machine_bus.proofs.WordBytes.{word_bytes}
use Rattle.machine_model.specs.State.{State}
use Rattle.machine_model.specs.Exceptions.{frame_at}
use Rattle.monitor_model.specs.declared.tables.Tables.{Tables}
use Rattle.monitor_model.specs.Records.{stack_end}
use Rattle.monitor_model.specs.Placed.{Placed}
use Rattle.monitor_model.specs.Block.{Saved}
use Rattle.monitor_model.specs.BlockWords.{block_word, saved_offset}
use Rattle.monitor_model.specs.Invariant.{AreSaved}
use Rattle.monitor_model.specs.Reach.{running, IsInLoan}
use Rattle.monitor_model.specs.Confined.{HasStarted, AreNext, later}
use Rattle.monitor_confined.proofs.Changes.{top_below}
use Rattle.monitor_runs.specs.BlockInRam.{saved_entries}
use Rattle.monitor_runs.specs.WhoRuns.{WhoRuns, WhoRunsComesBack, block_at, depth_at, HasKeptFrame}
use Rattle.monitor_runs.proofs.MovingCalls.{IsAbove, entry_of, above_at, Deep}
use Rattle.monitor_runs.specs.Acts.{IsResult, waiting_at, Acts}
use Rattle.monitor_runs.specs.Stays.{IsClosedTo, ClosedStackStays, FramesAreKept}

-- a word is its bytes
word_alike : (a : ℕ) (m n : List ℕ) → ((k : ℕ) → k < 4 → read 1 (a + k) m ≡ read 1 (a + k) n) → read 4 a m ≡ read 4 a n
word_alike a m n h =
    let x = word_bytes a m in
    let y = word_bytes a n in
    let h0 = (let z : a + 0 ≡ a = omega arith in subst (λ (b : ℕ). read 1 b m ≡ read 1 b n) z (h 0 (omega arith))) in
    let h1 = h 1 (omega arith) in
    let h2 = h 2 (omega arith) in
    let h3 = h 3 (omega arith) in
    omega (arith, x, y, h0, h1, h2, h3)

-- ---- the entry behind others

-- its frame lies in the stack, from TOP on
record LiesAbove (t : Tables) (top : ℕ) (e : Saved) : Type 0 where
  above : top ≤ e.psp
  from_base : t.stack.base ≤ e.psp
  below_end : e.psp + 32 ≤ stack_end t

lies_above : (t : Tables) (calls : List Saved) (e : Saved) (es : List Saved) (top mark : ℕ) → AreSaved t top mark (calls ++ (e ∷ es)) → LiesAbove t top e
lies_above t [] e es top mark h =
    let most = top_below t (length es) e.top h.0.is_top in
    let inside = h.0.inside in
    record { above = h.0.above; from_base = h.0.from_base; below_end = omega (arith, most, inside) }
lies_above t (x ∷ xs) e es top mark h =
    let y = lies_above t xs e es x.top x.mark h.1 in
    let z = y.above in
    let above = h.0.above in
    let inside = h.0.inside in
    record { above = omega (arith, z, above, inside); from_base = y.from_base; below_end = y.below_end }

abbrev first_psp : List Saved → ℕ
first_psp [] = 0
first_psp (x ∷ xs) = x.psp

-- the last frame is that one, or lies below it
last_lies : (i : Image) (t : Tables) (ram : List ℕ) (n : ℕ) → 0 < n → (calls : List Saved) (e : Saved) (es : List Saved) (top mark : ℕ) → saved_entries i t ram n ≡ calls ++ (e ∷ es) → AreSaved t top mark (calls ++ (e ∷ es))
    → (block_word i t ram (saved_offset (n - 1)) ≡ e.psp) ⊎ (block_word i t ram (saved_offset (n - 1)) + 32 ≤ e.psp)
last_lies i t ram zero some calls e es top mark is h = absurd (omega (arith, some))
last_lies i t ram (suc n) some [] e es top mark is h =
    let z : suc n - 1 ≡ n = omega arith in
    let y : block_word i t ram (saved_offset n) ≡ e.psp = ap first_psp is in
    inl (ap (λ k. block_word i t ram (saved_offset k)) z ∙ y)
last_lies i t ram (suc n) some (x ∷ xs) e es top mark is h =
    let z : suc n - 1 ≡ n = omega arith in
    let y : block_word i t ram (saved_offset n) ≡ x.psp = ap first_psp is in
    let at = ap (λ k. block_word i t ram (saved_offset k)) z ∙ y in
    let inside = h.0.inside in
    let above = (lies_above t xs e es x.top x.mark h.1).above in
    inr (omega (arith, at, inside, above))

module _ (i : Image) (t : Tables) (p : Placed i t) (first : State) (who : WhoRuns i t first) (back : WhoRunsComesBack) (stack : ClosedStackStays i t first) where
  abbrev at : ℕ → State
  at n = later i t first n

  module _ (a b c : ℕ) (started : HasStarted i t first a) (entry : AreNext i t first a b) (le : b ≤ c) (deep : Deep i t first who a b started entry c) where
    abbrev f : ℕ
    f = frame_at (at a).core.sp

    abbrev entry_a : Saved
    entry_a = entry_of (block_at i t first a) f

    acts_at : (k : ℕ) → b ≤ k → (at k).protection.handler ≡ false → Acts i t first k
    acts_at k lo th = record { started = (started.0, (let x = started.1 in let y = entry.earlier in omega (arith, x, y, lo)), started.2); thread = th }

    above : (k : ℕ) → b ≤ k → k ≤ c → (at k).protection.handler ≡ false → IsAbove (block_at i t first a) f (block_at i t first k)
    above k lo hi th = above_at i t first who a b started entry k lo (λ j x y. deep j x (omega (arith, y, hi))) th

    ordered : (k : ℕ) → (x : Acts i t first k) → (y : IsAbove (block_at i t first a) f (block_at i t first k)) → AreSaved t (block_at i t first k).top (block_at i t first k).mark (y.calls ++ (entry_a ∷ (block_at i t first a).saved))
    ordered k x y = subst (λ (l : List Saved). AreSaved t (block_at i t first k).top (block_at i t first k).mark l) y.saved (who.orderly k x.started x.thread).saved

    lies : (k : ℕ) → (x : Acts i t first k) → (y : IsAbove (block_at i t first a) f (block_at i t first k)) → LiesAbove t (block_at i t first k).top entry_a
    lies k x y = lies_above t y.calls entry_a (block_at i t first a).saved (block_at i t first k).top (block_at i t first k).mark (ordered k x y)

    module _ (off : (k l o : ℕ) → b ≤ k → k < c → Acts i t first k → f ≤ o → o < f + 32 → IsInLoan i t (at k) (running i t (at k)).mask l o → ⊥) where
      closed : (o : ℕ) → f + 24 ≤ o → o < f + 32 → (k : ℕ) → b ≤ k → k < c → Acts i t first k → IsClosedTo i t (at k) o
      closed o from to k lo hi x =
          let y = above k lo (omega (arith, hi)) x.thread in
          let up = (lies k x y).above in
          record {
            above = omega (arith, up, from);
            not_lent = λ l z. off k l o lo hi x (omega (arith, from)) to z;
            no_result = λ v r. no_word y r;
          }
        where
          no_word : IsAbove (block_at i t first a) f (block_at i t first k) → IsResult i t (at k) o → ⊥
          no_word y r =
              let z = last_lies i t (at k).ram (depth_at i t first k) r.0 y.calls entry_a (block_at i t first a).saved (block_at i t first k).top (block_at i t first k).mark y.saved (ordered k x y) in
              let end = r.2 in
              ⊎_elim (λ (e : waiting_at i t (at k) ≡ f). omega (arith, e, end, from)) (λ (e : waiting_at i t (at k) + 32 ≤ f). omega (arith, e, end, from)) z

      word_stays : (o : ℕ) → 24 ≤ o → o ≤ 28 → (at c).protection.handler ≡ false → read 4 (f - i.ram_base + o) (at c).ram ≡ read 4 (f - i.ram_base + o) (at b).ram
      word_stays o least most th =
          let x = acts_at b (omega arith) entry.to_thread in
          let y = above b (omega arith) le entry.to_thread in
          let l = lies b x y in
          let lo = l.from_base in
          let hi = l.below_end in
          let q = p.stack.place.0 in
          let e = p.stack_base in
          word_alike (f - i.ram_base + o) (at c).ram (at b).ram (λ k lt.
          let z : f + o + k - i.ram_base ≡ f - i.ram_base + o + k = omega (arith, q, e, lo) in
          subst (λ (n : ℕ). read 1 n (at c).ram ≡ read 1 n (at b).ram) z
          (stack b c (f + o + k) (record { started = x.started; none_works = inl x.thread }) (record { started = (acts_at c le th).started; none_works = inl th }) le
          (omega (arith, lo), omega (arith, hi, lt, most)) (closed (f + o + k) (omega (arith, least)) (omega (arith, lt, most)))))

  pub frames_are_kept : FramesAreKept i t first
  frames_are_kept a b c d started entry le exit deep shallow off =
      let kept : HasKeptFrame i t first a b c = (λ o x. ⊎_elim (λ e. word_stays a b c started entry le deep off o (omega (arith, e)) (omega (arith, e)) exit.from_thread) (λ e. word_stays a b c started entry le deep off o (omega (arith, e)) (omega (arith, e)) exit.from_thread) x) in
      (kept, (back i t first who a b c d started entry le exit deep shallow).2 kept)
