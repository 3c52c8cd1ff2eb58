-- From a call to its return.
use Rattle.std.proofs.Common.{◌≡◌, ℕ, zero, suc, ◌+◌, ◌-◌, ◌*◌, ◌/◌, ◌%◌, ◌^◌, ◌<◌, ◌≤◌, nat_eq, Bool, true, false, ◌⊎◌, inl, inr, ⊎_elim, List, [], ◌∷◌, ◌++◌, length, length-append, drop, refl, sym, ap, ap₂, ◌∙◌, subst, arith}
use Rattle.std.proofs.lemmas.Bool.{false≢true, cases_lt}
use Rattle.machine_devices.specs.declared.image.Image.{Image}
use Rattle.machine_model.specs.State.{State}
use Rattle.base_words.specs.Arithmetic.{word}
use Rattle.machine_model.specs.Exceptions.{frame_at, with_pad}
use Rattle.monitor_model.specs.declared.tables.Tables.{Tables}
use Rattle.monitor_model.specs.Block.{MonitorBlock, Loan, Saved, left}
use Rattle.monitor_model.specs.BlockWords.{depth}
use Rattle.monitor_model.specs.Confined.{HasStarted, AreNext, later}
use Rattle.monitor_runs.specs.BlockInRam.{saved_entries, live_loans}
use Rattle.monitor_runs.specs.Moves.{Moves, Executes, Stores, Loads, Enters, Leaves, Lends, Unlends, GoesOnAt, Waits, frame}
use Rattle.monitor_runs.specs.WhoRuns.{WhoRuns, WhoRunsComesBack, block_at, depth_at, HasKeptFrame, IsBehindCall}
use Rattle.monitor_runs.proofs.OneBlock.{one_block}

-- ---- lists

drop_front : (k : ℕ) (ls ms : List Loan) → k ≤ length ls → drop k (ls ++ ms) ≡ drop k ls ++ ms
drop_front zero ls ms h = refl
drop_front (suc k) [] ms h = absurd (omega (arith, h))
drop_front (suc k) (l ∷ ls) ms h = drop_front k ls ms (omega (arith, h))

drop_whole : (ls ms : List Loan) → drop (length ls) (ls ++ ms) ≡ ms
drop_whole [] ms = refl
drop_whole (l ∷ ls) ms = drop_whole ls ms

-- there are as many entries, and as many loans, as their counts say
pub count_saved : (i : Image) (t : Tables) (ram : List ℕ) (k : ℕ) → length (saved_entries i t ram k) ≡ k
count_saved i t ram zero = refl
count_saved i t ram (suc k) = ap suc (count_saved i t ram k)

pub count_loans : (i : Image) (t : Tables) (ram : List ℕ) (k : ℕ) → length (live_loans i t ram k) ≡ k
count_loans i t ram zero = refl
count_loans i t ram (suc k) = ap suc (count_loans i t ram k)

-- ---- a block above another

-- what a call leaves behind
abbrev pub entry_of : MonitorBlock → (psp : ℕ) → Saved
entry_of m f = record { psp = f; current = m.current; top = m.top; mark = m.mark }

-- the marks of what was called since: none is below so many, and the first of them, which is the last of the list, is exactly that
abbrev Marks : (least mark : ℕ) → List Saved → Type 0
Marks n k [] = k ≡ n
Marks n k (x ∷ xs) = (n ≤ k) × Marks n x.mark xs

marks_from : (n k : ℕ) (xs : List Saved) → Marks n k xs → n ≤ k
marks_from n k [] h = omega (arith, h)
marks_from n k (x ∷ xs) h = h.0

-- calls wait that were made since, and loans are live that were made since
pub record IsAbove (m : MonitorBlock) (f : ℕ) (b : MonitorBlock) : Type 0 where
  pub calls : List Saved
  pub saved : b.saved ≡ calls ++ (entry_of m f ∷ m.saved)
  lent : List Loan
  loans : b.loans ≡ lent ++ m.loans
  marks : Marks (length m.loans) b.mark calls

above_deep : (m b : MonitorBlock) (f : ℕ) → IsAbove m f b → length m.saved < length b.saved
above_deep m b f x =
    let l : length b.saved ≡ length x.calls + suc (length m.saved) = ap (λ (es : List Saved). length es) x.saved ∙ length-append x.calls (entry_of m f ∷ m.saved) in
    omega (arith, l)

module _ (i : Image) (t : Tables) (s u : State) (m : MonitorBlock) (f : ℕ) where
  -- the return to the call itself
  record IsReturn (n : MonitorBlock) : Type 0 where
    same : n ≡ m
    goes : GoesOnAt i s.ram f u

  leave : (b : MonitorBlock) (e : Saved) (es : List Saved) → b.saved ≡ e ∷ es → GoesOnAt i s.ram e.psp u → (calls : List Saved) → b.saved ≡ calls ++ (entry_of m f ∷ m.saved) →
      (lent : List Loan) → b.loans ≡ lent ++ m.loans → Marks (length m.loans) b.mark calls → IsAbove m f (left b e es) ⊎ IsReturn (left b e es)
  leave b e es is goes [] saved lent loans marks =
      let z : e ∷ es ≡ entry_of m f ∷ m.saved = sym is ∙ saved in
      let first : e ≡ entry_of m f = cc in
      let rest : es ≡ m.saved = cc in
      let l : length b.loans ≡ length lent + length m.loans = ap (λ (ls : List Loan). length ls) loans ∙ length-append lent m.loans in
      let count : length b.loans - b.mark ≡ length lent = omega (arith, l, marks) in
      inr (record {
        same = one_block e.current e.top e.mark es (drop (length b.loans - b.mark) b.loans) m (ap (λ (x : Saved). x.current) first) (ap (λ (x : Saved). x.top) first) (ap (λ (x : Saved). x.mark) first) rest
            (ap₂ (λ (k : ℕ) (ls : List Loan). drop k ls) count loans ∙ drop_whole lent m.loans);
        goes = subst (λ (a : ℕ). GoesOnAt i s.ram a u) (ap (λ (x : Saved). x.psp) first) goes;
      })
  leave b e es is goes (x ∷ calls) saved lent loans marks =
      let z : e ∷ es ≡ x ∷ (calls ++ (entry_of m f ∷ m.saved)) = sym is ∙ saved in
      let first : e ≡ x = cc in
      let rest : es ≡ calls ++ (entry_of m f ∷ m.saved) = cc in
      let l : length b.loans ≡ length lent + length m.loans = ap (λ (ls : List Loan). length ls) loans ∙ length-append lent m.loans in
      let low = marks.0 in
      let count : length b.loans - b.mark ≤ length lent = omega (arith, l, low) in
      inl (record {
        calls = calls;
        saved = rest;
        lent = drop (length b.loans - b.mark) lent;
        loans = ap (λ (ls : List Loan). drop (length b.loans - b.mark) ls) loans ∙ drop_front (length b.loans - b.mark) lent m.loans count;
        marks = subst (λ (y : Saved). Marks (length m.loans) y.mark calls) (sym first) marks.1;
      })

  unlend : (b : MonitorBlock) (l : Loan) (ls : List Loan) → b.loans ≡ l ∷ ls → b.mark ≤ length ls → (calls : List Saved) → b.saved ≡ calls ++ (entry_of m f ∷ m.saved) →
      (lent : List Loan) → b.loans ≡ lent ++ m.loans → Marks (length m.loans) b.mark calls → IsAbove m f (record b { loans = ls })
  unlend b l ls is le calls saved [] loans marks =
      let n : length m.loans ≡ suc (length ls) = ap (λ (xs : List Loan). length xs) (sym loans ∙ is) in
      let low = marks_from (length m.loans) b.mark calls marks in
      absurd (omega (arith, n, low, le))
  unlend b l ls is le calls saved (y ∷ lent) loans marks =
      let z : l ∷ ls ≡ y ∷ (lent ++ m.loans) = sym is ∙ loans in
      record { calls = calls; saved = saved; lent = lent; loans = cc; marks = marks }

  -- each move leaves a block above, or is the return
  moved : (b n : MonitorBlock) → IsAbove m f b → Moves i t s u b n → IsAbove m f n ⊎ IsReturn n
  moved b _ x (Executes e) = inl x
  moved b _ x (Stores w wide l g) = inl x
  moved b _ x (Loads w wide c l g) = inl x
  moved b _ x (Enters c crosses o some sp waits) =
      let l : length b.loans ≡ length x.lent + length m.loans = ap (λ (ls : List Loan). length ls) x.loans ∙ length-append x.lent m.loans in
      inl (record { calls = entry_of b (frame i t s u b) ∷ x.calls; saved = ap (λ (es : List Saved). entry_of b (frame i t s u b) ∷ es) x.saved; lent = x.lent; loans = x.loans; marks = (omega (arith, l), x.marks) })
  moved b _ x (Leaves e es is one goes) = leave b e es is goes x.calls x.saved x.lent x.loans x.marks
  moved b _ x (Lends l two o few number size from to pc) = inl (record { calls = x.calls; saved = x.saved; lent = l ∷ x.lent; loans = ap (λ (ls : List Loan). l ∷ ls) x.loans; marks = x.marks })
  moved b _ x (Unlends l ls is marks three pc) = inl (unlend b l ls is marks x.calls x.saved x.lent x.loans x.marks)

  -- the call
  called : (n : MonitorBlock) → Moves i t s u m n → length m.saved < length n.saved → IsAbove m (frame_at s.core.sp) n × Waits i u.ram (frame_at s.core.sp) s
  called _ (Executes e) lt = absurd (omega (arith, lt))
  called _ (Stores w wide l g) lt = absurd (omega (arith, lt))
  called _ (Loads w wide c l g) lt = absurd (omega (arith, lt))
  called _ (Enters c crosses o some sp waits) lt = (record { calls = []; saved = refl; lent = []; loans = refl; marks = refl }, waits)
  called _ (Leaves e es is one goes) lt = absurd (let z : length m.saved ≡ suc (length es) = ap (λ (x : List Saved). length x) is in omega (arith, lt, z))
  called _ (Lends l two o few number size from to pc) lt = absurd (omega (arith, lt))
  called _ (Unlends l ls is marks three pc) lt = absurd (omega (arith, lt))

-- ---- the run

module _ (i : Image) (t : Tables) (first : State) (who : WhoRuns i t first) (a b : ℕ) (started : HasStarted i t first a) (entry : AreNext i t first a b) where
  abbrev at : ℕ → State
  at n = later i t first n

  abbrev base : MonitorBlock
  base = block_at i t first a

  abbrev f : ℕ
  f = frame_at (at a).core.sp

  depth_is : (n : ℕ) → length (block_at i t first n).saved ≡ depth_at i t first n
  depth_is n = count_saved i t (at n).ram (depth i t (at n).ram)

  started_at : (n : ℕ) → a ≤ n → HasStarted i t first n
  started_at n le = let l = started.1 in (started.0, omega (arith, l, le), started.2)

  -- the last step of a thread up to this one, and its block
  record Last (k : ℕ) : Type 0 where
    step : ℕ
    from : b ≤ step
    to : step ≤ k
    thread : (at step).protection.handler ≡ false
    handlers : (j : ℕ) → step < j → j ≤ k → (at j).protection.handler ≡ true
    above : IsAbove base f (block_at i t first step)

  abbrev pub Deep : ℕ → Type 0
  Deep c = (k : ℕ) → b ≤ k → k ≤ c → (at k).protection.handler ≡ false → depth_at i t first a < depth_at i t first k

  begins : depth_at i t first a < depth_at i t first b → IsAbove base f (block_at i t first b) × Waits i (at b).ram f (at a)
  begins lt =
      let x = depth_is a in
      let y = depth_is b in
      called i t (at a) (at b) base f (block_at i t first b) (who.moves a b started entry) (omega (arith, lt, x, y))

  next_of : (k n : ℕ) → (l : Last k) → k < n → ((j : ℕ) → k < j → j < n → (at j).protection.handler ≡ true) → (at n).protection.handler ≡ false → AreNext i t first l.step n
  next_of k n l lt between th =
      let le = l.to in
      record {
        earlier = omega (arith, le, lt);
        from_thread = l.thread;
        to_thread = th;
        between = λ j x y. ⊎_elim (λ z. between j z y) (λ z. l.handlers j x z) (cases_lt k j);
      }

  after_step : (k n : ℕ) (l : Last k) → AreNext i t first l.step n → IsAbove base f (block_at i t first n) ⊎ IsReturn i t (at l.step) (at n) base f (block_at i t first n)
  after_step k n l next =
      let lt = entry.earlier in
      let from = l.from in
      moved i t (at l.step) (at n) base f (block_at i t first l.step) (block_at i t first n) l.above (who.moves l.step n (started_at l.step (omega (arith, lt, from))) next)

  stays_above : (n : ℕ) → depth_at i t first a < depth_at i t first n → (s u : State) → IsAbove base f (block_at i t first n) ⊎ IsReturn i t s u base f (block_at i t first n) → IsAbove base f (block_at i t first n)
  stays_above n lt s u (inl x) = x
  stays_above n lt s u (inr r) =
      let x = depth_is a in
      let y = depth_is n in
      let z : length (block_at i t first n).saved ≡ length base.saved = ap (λ (m : MonitorBlock). length m.saved) r.same in
      absurd (omega (arith, lt, x, y, z))

  -- the steps behind the call, by how many they are
  reach : (d : ℕ) → Deep (b + d) → Last (b + d)
  reach zero deep =
      let z : b ≡ b + 0 = omega arith in
      record {
        step = b;
        from = omega arith;
        to = omega arith;
        thread = entry.to_thread;
        handlers = λ j x y. absurd (omega (arith, x, y));
        above = (begins (deep b (omega arith) (omega arith) entry.to_thread)).0;
      }
  reach (suc d) deep = by (reach d (λ k x y. deep k x (omega (arith, y)))) (at (b + suc d)).protection.handler refl
    where
      by : Last (b + d) → (h : Bool) → (at (b + suc d)).protection.handler ≡ h → Last (b + suc d)
      by l true h =
          let le = l.to in
          record {
            step = l.step;
            from = l.from;
            to = omega (arith, le);
            thread = l.thread;
            handlers = λ j x y. ⊎_elim (λ z. l.handlers j x (omega (arith, z))) (λ z. let e : b + suc d ≡ j = omega (arith, z, y) in subst (λ (n : ℕ). (at n).protection.handler ≡ true) e h) (cases_lt j (b + suc d));
            above = l.above;
          }
      by l false h =
          let n : ℕ = b + suc d in
          let next = next_of (b + d) (b + suc d) l (omega arith) (λ j x y. absurd (omega (arith, x, y))) h in
          record {
            step = b + suc d;
            from = omega arith;
            to = omega arith;
            thread = h;
            handlers = λ j x y. absurd (omega (arith, x, y));
            above = stays_above (b + suc d) (deep (b + suc d) (omega arith) (omega arith) h) (at l.step) (at (b + suc d)) (after_step (b + d) (b + suc d) l next);
          }

  -- at each step of a thread behind the call
  pub above_at : (k : ℕ) → b ≤ k → Deep k → (at k).protection.handler ≡ false → IsAbove base f (block_at i t first k)
  above_at k le deep th = by (let e : b + (k - b) ≡ k = omega (arith, le) in subst Last e (reach (k - b) (subst Deep (sym e) deep)))
    where
      by : Last k → IsAbove base f (block_at i t first k)
      by l =
          let to = l.to in
          let is : l.step ≡ k = ⊎_elim (λ lt. absurd (false≢true (sym th ∙ l.handlers k lt (omega arith)))) (λ ge. omega (arith, ge, to)) (cases_lt l.step k) in
          subst (λ (n : ℕ). IsAbove base f (block_at i t first n)) is l.above

  module _ (c d : ℕ) (le : b ≤ c) (exit : AreNext i t first c d) (deep : Deep c) (back : depth_at i t first d ≤ depth_at i t first a) where
    returned : IsReturn i t (at c) (at d) base f (block_at i t first d)
    returned =
        let x = depth_is a in
        let y = depth_is d in
        let above = above_at c le deep exit.from_thread in
        let lt = entry.earlier in
        ⊎_elim (λ (z : IsAbove base f (block_at i t first d)). absurd (let deeper = above_deep base (block_at i t first d) f z in omega (arith, deeper, x, y, back)))
        (λ (r : IsReturn i t (at c) (at d) base f (block_at i t first d)). r)
        (moved i t (at c) (at d) base f (block_at i t first c) (block_at i t first d) above (who.moves c d (started_at c (omega (arith, lt, le))) exit))

    behind_call : HasKeptFrame i t first a b c → IsBehindCall i t first a d
    behind_call kept =
        let w = (begins (deep b (omega arith) le entry.to_thread)).1 in
        let g = returned.goes in (
          g.pc ∙ ap (λ (x : ℕ). x / 2 * 2) (kept 24 (inl refl) ∙ w.pc) ∙ even_back2 (at a).core.pc (who.even a started entry.from_thread),
          g.sp ∙ ap (λ (x : ℕ). with_pad (nat_eq (x / 2 ^ 9 % 2) 1) (word (f + 32))) (kept 28 (inr refl)) ∙ w.sp,
        )
      where
        even_back2 : (n : ℕ) → n % 2 ≡ 0 → (n + 4) / 2 * 2 ≡ n + 4
        even_back2 n e = omega (arith, e)

    pub comes_back : (block_at i t first d ≡ base) × GoesOnAt i (at c).ram f (at d) × (HasKeptFrame i t first a b c → IsBehindCall i t first a d)
    comes_back = (returned.same, returned.goes, behind_call)

pub calls_come_back : WhoRunsComesBack
calls_come_back i t first who a b c d started entry le exit deep back = comes_back i t first who a b started entry c d le exit deep back
