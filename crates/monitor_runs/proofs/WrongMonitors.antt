-- No move of a thread does what monitors do that do not isolate.
use Rattle.std.proofs.Common.{◌≡◌, ℕ, zero, suc, ◌+◌, ◌-◌, ◌<◌, ◌≤◌, inl, inr, ⊎_elim, List, [], ◌∷◌, length, length-drop, Some, None, sym, ap, ◌∙◌, refl, subst, arith}
use Rattle.std.proofs.lemmas.Bool.{false≢true, cases_lt}
use Rattle.base_words.specs.Runs.{run}
use Rattle.base_words.proofs.Runs.{run-add}
use Rattle.machine_protection.specs.Protection.{IsAccessWidth}
use Rattle.machine_devices.specs.declared.image.Image.{Image}
use Rattle.machine_model.specs.declared.state.End.{End}
use Rattle.machine_model.specs.State.{State, low_register}
use Rattle.machine_model.specs.Exceptions.{frame_at}
use Rattle.machine_model.specs.Step.{step}
use Rattle.monitor_model.specs.declared.tables.Tables.{Tables}
use Rattle.monitor_model.specs.Records.{compartment_at, eighth, stack_end}
use Rattle.monitor_model.specs.Block.{MonitorBlock, Loan, Saved}
use Rattle.monitor_model.specs.BlockWords.{loan_count, loan_address, loan_end, depth, saved_current, saved_top}
use Rattle.monitor_model.specs.Reach.{running, IsInLoan}
use Rattle.monitor_model.specs.Confined.{later}
use Rattle.monitor_confined.proofs.EnterLaw.{rounded_below}
use Rattle.monitor_runs.specs.BlockInRam.{saved_entries, live_loans}
use Rattle.monitor_runs.specs.Moves.{Moves, Executes, Stores, Loads, Enters, Leaves, Lends, Unlends, IsLent}
use Rattle.monitor_runs.specs.WhoRuns.{IsBack, WhoRuns, block_at}
use Rattle.monitor_runs.proofs.MovingCalls.{count_saved, count_loans}
use Rattle.monitor_runs.specs.Refused.{StoresForAnybody, CallsAtFullStack, LendsAnything, StartsBeyondTheStack, RewritesCalls, SkipsRefusedAccess, LoopsInHandler, TellsOfNone, KeepsFromNone}

pub not_for_anybody : KeepsFromNone StoresForAnybody
not_for_anybody i t first w keeps = w.not_its_own (keeps.own_steps w.two.before w.two.after w.address w.two.acts w.two.next w.outside w.off_stack w.changes).1

-- ---- of two steps of a thread that follow each other

module _ (i : Image) (t : Tables) (s u : State) where
  same_depth : (m b : MonitorBlock) → b.saved ≡ m.saved → length b.saved ≡ suc (length m.saved) → ⊥
  same_depth m b e lt = let n = ap (λ (es : List Saved). length es) e in omega (arith, n, lt)

  -- a call lowers TOP
  lowers : (m b : MonitorBlock) → Moves i t s u m b → length b.saved ≡ suc (length m.saved) → b.top < m.top
  lowers m _ (Executes e) deep = absurd (omega (arith, deep))
  lowers m _ (Stores w wide l pc) deep = absurd (omega (arith, deep))
  lowers m _ (Loads w wide c l pc) deep = absurd (omega (arith, deep))
  lowers m _ (Enters c crosses o some sp waits) deep =
      let under = rounded_below t.stack.base (eighth t) (frame_at s.core.sp) o.from_base in
      let hi = o.below_top in
      omega (arith, under, hi)
  lowers m _ (Leaves e es is one goes) deep = absurd (let z = ap (λ (x : List Saved). length x) is in omega (arith, deep, z))
  lowers m _ (Lends l two o few number size from to pc) deep = absurd (omega (arith, deep))
  lowers m _ (Unlends l ls is marks three pc) deep = absurd (omega (arith, deep))

  -- a loan more lies between the frame and TOP
  abbrev IsThere : (top : ℕ) → List Loan → Type 0
  IsThere top [] = ⊥
  IsThere top (l ∷ ls) = (frame_at s.core.sp + 32 ≤ l.address) × (l.end ≤ top)

  lends : (m b : MonitorBlock) → Moves i t s u m b → length b.loans ≡ suc (length m.loans) → IsThere m.top b.loans
  lends m _ (Executes e) more = absurd (omega (arith, more))
  lends m _ (Stores w wide l pc) more = absurd (omega (arith, more))
  lends m _ (Loads w wide c l pc) more = absurd (omega (arith, more))
  lends m _ (Enters c crosses o some sp waits) more = absurd (omega (arith, more))
  lends m _ (Leaves e es is one goes) more = absurd (let z = length-drop (length m.loans - m.mark) m.loans in omega (arith, more, z))
  lends m _ (Lends l two o few number size from to pc) more = (from, to)
  lends m _ (Unlends l ls is marks three pc) more = absurd (let z = ap (λ (x : List Loan). length x) is in omega (arith, more, z))

  -- the calls that wait are the same, where as many wait
  same_calls : (m b : MonitorBlock) → Moves i t s u m b → length b.saved ≡ length m.saved → b.saved ≡ m.saved
  same_calls m _ (Executes e) deep = refl
  same_calls m _ (Stores w wide l pc) deep = refl
  same_calls m _ (Loads w wide c l pc) deep = refl
  same_calls m _ (Enters c crosses o some sp waits) deep = absurd (omega (arith, deep))
  same_calls m _ (Leaves e es is one goes) deep = absurd (let z = ap (λ (x : List Saved). length x) is in omega (arith, deep, z))
  same_calls m _ (Lends l two o few number size from to pc) deep = refl
  same_calls m _ (Unlends l ls is marks three pc) deep = refl

-- ---- the words of a list's elements

last_loan : (i : Image) (t : Tables) (s u : State) (n k top : ℕ) → k ≡ suc n → IsThere i t s u top (live_loans i t u.ram k) → (frame_at s.core.sp + 32 ≤ loan_address i t u.ram n) × (loan_end i t u.ram n ≤ top)
last_loan i t s u n zero top e h = absurd h
last_loan i t s u n (suc k) top e h = let z : k ≡ n = omega (arith, e) in subst (λ (j : ℕ). (frame_at s.core.sp + 32 ≤ loan_address i t u.ram j) × (loan_end i t u.ram j ≤ top)) z h

abbrev behind_first : List Saved → List Saved
behind_first [] = []
behind_first (x ∷ xs) = xs

abbrev first_current : List Saved → ℕ
first_current [] = 0
first_current (x ∷ xs) = x.current

abbrev first_top : List Saved → ℕ
first_top [] = 0
first_top (x ∷ xs) = x.top

-- the words of a saved entry are those of the list
entry_words : (i : Image) (t : Tables) (old new : List ℕ) (n k : ℕ) → saved_entries i t new n ≡ saved_entries i t old n → k < n → (saved_current i t new k ≡ saved_current i t old k) × (saved_top i t new k ≡ saved_top i t old k)
entry_words i t old new zero k e lt = absurd (omega (arith, lt))
entry_words i t old new (suc n) k e lt =
    ⊎_elim (λ less. entry_words i t old new n k (ap behind_first e) less)
    (λ ge. let z : n ≡ k = omega (arith, lt, ge) in subst (λ (j : ℕ). (saved_current i t new j ≡ saved_current i t old j) × (saved_top i t new j ≡ saved_top i t old j)) z (ap first_current e, ap first_top e)) (cases_lt k n)

some_width : (w : ℕ) → IsAccessWidth w → 0 < w
some_width w h = grind arith

-- a loan of the list is live
lent_live : (i : Image) (t : Tables) (s : State) (mask a w n : ℕ) → 0 < w → n ≤ loan_count i t s.ram → IsLent mask a w (live_loans i t s.ram n) → (k : ℕ) × IsInLoan i t s mask k a
lent_live i t s mask a w zero some le h = absurd h
lent_live i t s mask a w (suc n) some le (inl h) =
    let end = h.2 in
    (n, record { live = omega (arith, le); in_mask = h.0; from_address = h.1; below_end = omega (arith, end, some) })
lent_live i t s mask a w (suc n) some le (inr h) = lent_live i t s mask a w n some (omega (arith, le)) h

-- ---- the monitors

pub not_at_full_stack : TellsOfNone CallsAtFullStack
not_at_full_stack i t first w who =
    let m = w.two.before in
    let n = w.two.after in
    let x = count_saved i t (later i t first m).ram (depth i t (later i t first m).ram) in
    let y = count_saved i t (later i t first n).ram (depth i t (later i t first n).ram) in
    let d = w.calls in
    let lower = lowers i t (later i t first m) (later i t first n) (block_at i t first m) (block_at i t first n) (who.moves m n w.two.acts.started w.two.next) (omega (arith, x, y, d)) in
    let keeps = w.keeps_top in
    omega (arith, lower, keeps)

pub not_anything : TellsOfNone LendsAnything
not_anything i t first w who =
    let m = w.two.before in
    let n = w.two.after in
    let x = count_loans i t (later i t first m).ram (loan_count i t (later i t first m).ram) in
    let y = count_loans i t (later i t first n).ram (loan_count i t (later i t first n).ram) in
    let d = w.lends in
    let there = lends i t (later i t first m) (later i t first n) (block_at i t first m) (block_at i t first n) (who.moves m n w.two.acts.started w.two.next) (omega (arith, x, y, d)) in
    let z = last_loan i t (later i t first m) (later i t first n) (loan_count i t (later i t first m).ram) (loan_count i t (later i t first n).ram) (block_at i t first m).top (omega (arith, d)) there in
    let lo = z.0 in
    let hi = z.1 in
    ⊎_elim (λ q. omega (arith, q, lo)) (λ q. omega (arith, q, hi)) w.not_there

pub not_beyond_the_stack : TellsOfNone StartsBeyondTheStack
not_beyond_the_stack i t first w who =
    let s = who.start_up in
    let is : s.count ≡ w.count =
    ⊎_elim (λ lt. absurd (false≢true (sym (w.privileged s.count lt) ∙ s.over)))
    (λ le. ⊎_elim (λ lt. absurd (false≢true (sym (s.privileged w.count lt) ∙ w.over))) (λ ge. omega (arith, le, ge)) (cases_lt w.count s.count)) (cases_lt s.count w.count) in
    let top_is : (block_at i t first s.count).top ≡ stack_end t = ap (λ (b : MonitorBlock). b.top) who.begins in
    let at : (block_at i t first w.count).top ≡ stack_end t = subst (λ (n : ℕ). (block_at i t first n).top ≡ stack_end t) is top_is in
    let far = w.beyond in
    omega (arith, at, far)

pub not_rewritten : TellsOfNone RewritesCalls
not_rewritten i t first w who =
    let m = w.two.before in
    let n = w.two.after in
    let x = count_saved i t (later i t first m).ram (depth i t (later i t first m).ram) in
    let y = count_saved i t (later i t first n).ram (depth i t (later i t first n).ram) in
    let d = w.same_depth in
    let same = same_calls i t (later i t first m) (later i t first n) (block_at i t first m) (block_at i t first n) (who.moves m n w.two.acts.started w.two.next) (omega (arith, x, y, d)) in
    let entries = subst (λ (k : ℕ). saved_entries i t (later i t first n).ram k ≡ saved_entries i t (later i t first m).ram (depth i t (later i t first m).ram)) d same in
    let z = entry_words i t (later i t first m).ram (later i t first n).ram (depth i t (later i t first m).ram) w.number entries w.waits in
    ⊎_elim (λ q. q z.0) (λ q. q z.1) w.changes

module _ (i : Image) (t : Tables) (first : State) (w : SkipsRefusedAccess i t first) (who : WhoRuns i t first) where
  abbrev s : State
  s = later i t first w.two.before

  abbrev u : State
  u = later i t first w.two.after

  own_step : u ≡ step i s → ⊥
  unfolding run
  own_step e =
      let next : later i t first (w.two.before + 1) ≡ step i s = run-add (step i) w.two.before 1 first in
      false≢true (sym w.two.next.to_thread ∙ ap (λ (x : State). x.protection.handler) (e ∙ sym next) ∙ w.two.next.between (w.two.before + 1) (omega arith) w.handled)

  lent : (mask : ℕ) → ((k : ℕ) → IsInLoan i t s mask k (low_register s.core 1) → ⊥) → (width : ℕ) → IsAccessWidth width → IsLent mask (low_register s.core 1) width (block_at i t first w.two.before).loans → ⊥
  lent mask none width wide l = let x = lent_live i t s mask (low_register s.core 1) width (loan_count i t s.ram) (some_width width wide) (omega arith) l in none x.0 x.1

  skipped : (m b : MonitorBlock) → block_at i t first w.two.before ≡ m → Moves i t s u m b → ⊥
  skipped m _ is (Executes e) = own_step e
  skipped m _ is (Stores width wide l pc) =
      lent (running i t s).mask w.not_written width wide (subst (λ (c : MonitorBlock). IsLent (compartment_at t c.current).mask (low_register s.core 1) width c.loans) (sym is) l)
  skipped m _ is (Loads width wide closed l pc) =
      lent (running i t s).reads w.not_read width wide (subst (λ (c : MonitorBlock). IsLent (compartment_at t c.current).reads (low_register s.core 1) width c.loans) (sym is) l)
  skipped m _ is (Enters c crosses o some sp waits) = w.no_call 0 crosses.is_svc
  skipped m _ is (Leaves e es entry one goes) = w.no_call 1 one
  skipped m _ is (Lends l two o few number size from to pc) = w.no_call 2 two
  skipped m _ is (Unlends l ls loans marks three pc) = w.no_call 3 three

pub not_skipped : TellsOfNone SkipsRefusedAccess
not_skipped i t first w who =
    skipped i t first w who (block_at i t first w.two.before) (block_at i t first w.two.after) refl (who.moves w.two.before w.two.after w.two.acts.started w.two.next)

pub not_for_ever : TellsOfNone LoopsInHandler
not_for_ever i t first w who = by (who.returns w.from w.started)
  where
    by : (k : ℕ) × (k ≤ 16000) × IsBack (later i t first (w.from + k)) → ⊥
    by x = ⊎_elim (λ th. false≢true (sym th ∙ w.works x.0)) (λ (e : (z : End) × ((later i t first (w.from + x.0)).ending ≡ Some z)). let z : None ≡ Some e.0 = sym (w.live x.0) ∙ e.1 in cc) x.2
