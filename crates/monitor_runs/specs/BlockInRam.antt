-- The monitor's block as the words of RAM have it.
use Rattle.std.specs.Prelude.{ℕ, zero, suc, ◌+◌, List, [], ◌∷◌}
use Rattle.machine_devices.specs.declared.image.Image.{Image}
use Rattle.monitor_model.specs.declared.tables.Tables.{Tables}
use Rattle.monitor_model.specs.Block.{Loan, Saved, MonitorBlock}
use Rattle.monitor_model.specs.BlockWords.{current, top, depth, loan_count, block_word, mark_offset, saved_offset, loan_offset}

module _ (i : Image) (t : Tables) (ram : List ℕ) where
  abbrev pub word : ℕ → ℕ
  word o = block_word i t ram o

  -- so many saved entries, and so many loans, the last one first
  abbrev pub saved_entries : ℕ → List Saved
  saved_entries zero = []
  saved_entries (suc k) =
      record { psp = word (saved_offset k); current = word (saved_offset k + 4); top = word (saved_offset k + 8); mark = word (saved_offset k + 12) } ∷ saved_entries k

  abbrev pub live_loans : ℕ → List Loan
  live_loans zero = []
  live_loans (suc k) = record { address = word (loan_offset k); end = word (loan_offset k + 4); number = word (loan_offset k + 8) } ∷ live_loans k

  -- who runs, up to where the stack is open, which calls wait, and what is lent
  abbrev pub block_of : MonitorBlock
  block_of = record { current = current i t ram; top = top i t ram; mark = word mark_offset; saved = saved_entries (depth i t ram); loans = live_loans (loan_count i t ram) }
