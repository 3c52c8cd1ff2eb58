-- The monitor's block as lists: who runs, how much of the stack is open, which calls wait, and which locals are lent. Of the
-- saved entries and of the loans the last stands first.
use Rattle.std.specs.Prelude.{ℕ, ◌-◌, List, [], ◌∷◌, length, drop}
use Rattle.monitor_model.specs.declared.tables.Tables.{Tables}
use Rattle.monitor_model.specs.Records.{stack_end}

-- a lent range of the stack, from its address to the address behind it, under the number of a lendable local
pub record Loan : Type 0 where
  pub address : ℕ
  pub end : ℕ
  pub number : ℕ

-- what a crossing call leaves behind: the stack pointer behind its exception's entry, and CUR, TOP and MARK of its caller
pub record Saved : Type 0 where
  pub psp : ℕ
  pub current : ℕ
  pub top : ℕ
  pub mark : ℕ

pub record MonitorBlock : Type 0 where
  -- CUR, the running compartment
  pub current : ℕ
  -- TOP, the address behind the open stack
  pub top : ℕ
  -- MARK, how many of the loans are older than the running call
  pub mark : ℕ
  -- DEPTH is how many entries there are, LOANS how many loans
  pub saved : List Saved
  pub loans : List Loan

-- before `main`
abbrev pub first_block : Tables → MonitorBlock
first_block t = record { current = t.main_comp; top = stack_end t; mark = 0; saved = []; loans = [] }

-- after enter, leave, lend and unlend
abbrev pub entered : MonitorBlock → (compartment top psp : ℕ) → MonitorBlock
entered m c t p = record {
  current = c;
  top = t;
  mark = length m.loans;
  saved = record { psp = p; current = m.current; top = m.top; mark = m.mark } ∷ m.saved;
  loans = m.loans;
}

-- the loans from MARK on are gone
abbrev pub left : MonitorBlock → (last : Saved) → (older : List Saved) → MonitorBlock
left m e es = record { current = e.current; top = e.top; mark = e.mark; saved = es; loans = drop (length m.loans - m.mark) m.loans }

abbrev pub lent : MonitorBlock → Loan → MonitorBlock
lent m l = record m { loans = l ∷ m.loans }

abbrev pub unlent : MonitorBlock → (older : List Loan) → MonitorBlock
unlent m ls = record m { loans = ls }
