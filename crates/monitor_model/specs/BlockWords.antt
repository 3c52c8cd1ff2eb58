-- The monitor's block as words of RAM, and the one relation that ties them to its lists.
use Rattle.std.specs.Prelude.{◌≡◌, ℕ, ◌+◌, ◌-◌, ◌*◌, List, [], ◌∷◌, length}
use Rattle.base_words.specs.Bytes.{read}
use Rattle.machine_devices.specs.declared.image.Image.{Image}
use Rattle.monitor_model.specs.declared.tables.Tables.{Tables}
use Rattle.monitor_model.specs.Block.{Loan, Saved, MonitorBlock}
use Rattle.monitor_model.specs.Offsets as offsets

-- CUR, TOP, DEPTH, LOANS and MARK, in bytes from the block's beginning
abbrev pub current_offset : ℕ
current_offset = 4 * offsets.cur

abbrev pub top_offset : ℕ
top_offset = 4 * offsets.top

abbrev pub depth_offset : ℕ
depth_offset = 4 * offsets.depth

abbrev pub loan_count_offset : ℕ
loan_count_offset = 4 * offsets.loans

abbrev pub mark_offset : ℕ
mark_offset = 4 * offsets.mark

-- eight saved entries of four words, and thirty-two loans of three, counted from the oldest
abbrev pub saved_offset : (number : ℕ) → ℕ
saved_offset k = 4 * offsets.saved_psp + 16 * k

abbrev pub loan_offset : (number : ℕ) → ℕ
loan_offset k = offsets.loans_offset + 12 * k

-- behind all of them the monitor has its own stack, up to the block's end
abbrev pub words_end : ℕ
words_end = loan_offset 32

module _ (i : Image) (t : Tables) (ram : List ℕ) where
  -- the word at an offset of the block
  abbrev pub block_word : (offset : ℕ) → ℕ
  block_word o = read 4 (t.monitor - i.ram_base + o) ram

  abbrev pub current : ℕ
  current = block_word current_offset

  abbrev pub top : ℕ
  top = block_word top_offset

  abbrev pub depth : ℕ
  depth = block_word depth_offset

  abbrev pub loan_count : ℕ
  loan_count = block_word loan_count_offset

  -- of the saved entry, and of the loan, with this number
  abbrev pub saved_psp : ℕ → ℕ
  saved_psp k = block_word (saved_offset k)

  abbrev pub saved_current : ℕ → ℕ
  saved_current k = block_word (saved_offset k + 4)

  abbrev pub saved_top : ℕ → ℕ
  saved_top k = block_word (saved_offset k + 8)

  abbrev pub loan_address : ℕ → ℕ
  loan_address k = block_word (loan_offset k)

  abbrev pub loan_end : ℕ → ℕ
  loan_end k = block_word (loan_offset k + 4)

  abbrev pub loan_number : ℕ → ℕ
  loan_number k = block_word (loan_offset k + 8)

  -- these are the words of an entry, of a loan
  pub record IsSavedAt (offset : ℕ) (e : Saved) : Type 0 where
    pub psp : block_word offset ≡ e.psp
    pub current : block_word (offset + 4) ≡ e.current
    pub top : block_word (offset + 8) ≡ e.top
    pub mark : block_word (offset + 12) ≡ e.mark

  pub record IsLoanAt (offset : ℕ) (l : Loan) : Type 0 where
    pub address : block_word offset ≡ l.address
    pub end : block_word (offset + 4) ≡ l.end
    pub number : block_word (offset + 8) ≡ l.number

  -- as many older ones as stand behind it in the list are its number
  abbrev pub HasSaved : List Saved → Type 0
  HasSaved [] = Unit {0}
  HasSaved (e ∷ es) = IsSavedAt (saved_offset (length es)) e × HasSaved es

  abbrev pub HasLoans : List Loan → Type 0
  HasLoans [] = Unit {0}
  HasLoans (l ∷ ls) = IsLoanAt (loan_offset (length ls)) l × HasLoans ls

  pub record IsBlock (m : MonitorBlock) : Type 0 where
    pub current_is : block_word current_offset ≡ m.current
    pub top_is : block_word top_offset ≡ m.top
    pub depth_is : block_word depth_offset ≡ length m.saved
    pub loan_count_is : block_word loan_count_offset ≡ length m.loans
    pub mark_is : block_word mark_offset ≡ m.mark
    pub has_saved : HasSaved m.saved
    pub has_loans : HasLoans m.loans
