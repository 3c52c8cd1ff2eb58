-- A block's words have one block.
use Rattle.std.proofs.Common.{◌≡◌, ℕ, List, [], ◌∷◌, length, refl, sym, ap, ap₂, ◌∙◌}
use Rattle.machine_devices.specs.declared.image.Image.{Image}
use Rattle.monitor_model.specs.declared.tables.Tables.{Tables}
use Rattle.monitor_model.specs.Block.{Loan, Saved, MonitorBlock}
use Rattle.monitor_model.specs.BlockWords.{current, top, depth, loan_count, mark_offset, HasSaved, HasLoans}
use Rattle.monitor_runs.specs.BlockInRam.{word, saved_entries, live_loans}
use Rattle.monitor_runs.specs.WhoRuns.{BlocksAreOne}

one_saved : (a b c d : ℕ) (e : Saved) → a ≡ e.psp → b ≡ e.current → c ≡ e.top → d ≡ e.mark → (let x : Saved = record { psp = a; current = b; top = c; mark = d } in x) ≡ e
one_saved a b c d e p q r s = rw (p, q, r, s) refl

one_loan : (a b c : ℕ) (l : Loan) → a ≡ l.address → b ≡ l.end → c ≡ l.number → (let x : Loan = record { address = a; end = b; number = c } in x) ≡ l
one_loan a b c l p q r = rw (p, q, r) refl

pub one_block : (a b c : ℕ) (es : List Saved) (ls : List Loan) (m : MonitorBlock) → a ≡ m.current → b ≡ m.top → c ≡ m.mark → es ≡ m.saved → ls ≡ m.loans → (let x : MonitorBlock = record { current = a; top = b; mark = c; saved = es; loans = ls } in x) ≡ m
one_block a b c es ls m p q r s u = rw (p, q, r, s, u) refl

module _ (i : Image) (t : Tables) (ram : List ℕ) where
  saved_are : (es : List Saved) → HasSaved i t ram es → saved_entries i t ram (length es) ≡ es
  saved_are [] h = refl
  saved_are (e ∷ es) h = ap₂ (λ (x : Saved) (xs : List Saved). x ∷ xs) (one_saved _ _ _ _ e h.0.psp h.0.current h.0.top h.0.mark) (saved_are es h.1)

  loans_are : (ls : List Loan) → HasLoans i t ram ls → live_loans i t ram (length ls) ≡ ls
  loans_are [] h = refl
  loans_are (l ∷ ls) h = ap₂ (λ (x : Loan) (xs : List Loan). x ∷ xs) (one_loan _ _ _ l h.0.address h.0.end h.0.number) (loans_are ls h.1)

pub blocks_are_one : BlocksAreOne
blocks_are_one i t ram m b =
    sym (one_block (current i t ram) (top i t ram) (word i t ram mark_offset) (saved_entries i t ram (depth i t ram)) (live_loans i t ram (loan_count i t ram)) m
    b.current_is b.top_is b.mark_is
    (ap (saved_entries i t ram) b.depth_is ∙ saved_are i t ram m.saved b.has_saved)
    (ap (live_loans i t ram) b.loan_count_is ∙ loans_are i t ram m.loans b.has_loans))
