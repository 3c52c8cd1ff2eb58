-- The words of saved entries and of loans, as stores leave them.
use Rattle.std.proofs.Common.{◌≡◌, ℕ, zero, suc, ◌+◌, ◌*◌, ◌≤◌, List, [], ◌∷◌, length, drop, ◌∙◌, arith}
use Rattle.machine_devices.specs.declared.image.Image.{Image}
use Rattle.monitor_model.specs.declared.tables.Tables.{Tables}
use Rattle.monitor_model.specs.Block.{Loan, Saved, MonitorBlock}
use Rattle.monitor_model.specs.BlockWords.{block_word, HasSaved, HasLoans, IsBlock}

module _ (i : Image) (t : Tables) (old new : List ℕ) where
  abbrev pub Same : ℕ → Type 0
  Same o = block_word i t new o ≡ block_word i t old o

  pub saved_stay : (es : List Saved) → ((o : ℕ) → 32 ≤ o → o + 4 ≤ 32 + 16 * length es → Same o) → HasSaved i t old es → HasSaved i t new es
  saved_stay [] f h = tt
  saved_stay (e ∷ es) f h =
      let n : ℕ = length es in (
        record {
          psp = f (32 + 16 * n) (omega arith) (omega arith) ∙ h.0.psp;
          current = f (32 + 16 * n + 4) (omega arith) (omega arith) ∙ h.0.current;
          top = f (32 + 16 * n + 8) (omega arith) (omega arith) ∙ h.0.top;
          mark = f (32 + 16 * n + 12) (omega arith) (omega arith) ∙ h.0.mark;
        },
        saved_stay es (λ o a b. f o a (omega (arith, b))) h.1,
      )

  pub loans_stay : (ls : List Loan) → ((o : ℕ) → 160 ≤ o → o + 4 ≤ 160 + 12 * length ls → Same o) → HasLoans i t old ls → HasLoans i t new ls
  loans_stay [] f h = tt
  loans_stay (l ∷ ls) f h =
      let n : ℕ = length ls in (
        record {
          address = f (160 + 12 * n) (omega arith) (omega arith) ∙ h.0.address;
          end = f (160 + 12 * n + 4) (omega arith) (omega arith) ∙ h.0.end;
          number = f (160 + 12 * n + 8) (omega arith) (omega arith) ∙ h.0.number;
        },
        loans_stay ls (λ o a b. f o a (omega (arith, b))) h.1,
      )

  -- all stays
  pub block_stays : (m : MonitorBlock) → length m.saved ≤ 8 → length m.loans ≤ 32 → ((o : ℕ) → o + 4 ≤ 544 → Same o) → IsBlock i t old m → IsBlock i t new m
  block_stays m few_saved few_loans same h = record {
    current_is = same 0 (omega arith) ∙ h.current_is;
    top_is = same 4 (omega arith) ∙ h.top_is;
    depth_is = same 8 (omega arith) ∙ h.depth_is;
    loan_count_is = same 12 (omega arith) ∙ h.loan_count_is;
    mark_is = same 16 (omega arith) ∙ h.mark_is;
    has_saved = saved_stay m.saved (λ o a b. same o (omega (arith, b, few_saved))) h.has_saved;
    has_loans = loans_stay m.loans (λ o a b. same o (omega (arith, b, few_loans))) h.has_loans;
  }

-- older loans alone
pub loans_dropped : (i : Image) (t : Tables) (ram : List ℕ) (k : ℕ) (ls : List Loan) → HasLoans i t ram ls → HasLoans i t ram (drop k ls)
loans_dropped i t ram zero ls h = h
loans_dropped i t ram (suc k) [] h = tt
loans_dropped i t ram (suc k) (l ∷ ls) h = loans_dropped i t ram k ls h.1
