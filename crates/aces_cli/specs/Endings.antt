-- What a call did to the outside, by the status with which it ended.
use Rattle.std.specs.Prelude.{◌≡◌, ◌≢◌, ℕ, ◌⊎◌, List, All}
use Rattle.base_outside.specs.Calls.{Call}
use Rattle.base_outside.specs.Reading.{EndsUnread}
use Rattle.plan_model.specs.declared.policy.Policy.{Policy}
use Rattle.aces_words.specs.Requests.{Request, Source, Asks, Origin}
use Rattle.aces_files.specs.Known.{WasRead, WasTooLarge, IsCallOf}
use Rattle.aces_reports.specs.FaultLines.{unread_line, unwritten_line, unprinted_line, memory_line}
use Rattle.base_outside.specs.Sinks.{PutsLine}
use Rattle.aces_files.specs.Effects.{IsUnread, IsUnwritten, IsUnprinted, IsOutOfMemory, IsCarriedOut, IsBrokenOff}
use Rattle.aces_files.specs.Outcomes.{Outcome}
use Rattle.aces_cli.specs.Answer.{Answers}
use Rattle.aces_cli.specs.Seen.{Seen}

-- a status that comes by no failing call and no want of memory
pub record IsPlain (status : ℕ) : Type 0 where
  pub no_read_fault : status ≢ 4
  pub no_write_fault : status ≢ 5
  pub no_want_of_memory : status ≢ 6

-- the call did what the words ask: its status, what is printed and written, and the line that tells of a fault
pub record IsAnswered (Has : Origin → List ℕ → Type 0) (Exceeds : Origin → Type 0) (words : List (List ℕ))
    (s : Seen) (status : ℕ) : Type 0 where
  pub outcome : Outcome
  pub answer : Answers Has Exceeds words outcome
  pub ended : outcome.status ≡ status
  pub all : IsCarriedOut s.old s.new outcome
  pub says : PutsLine s.err_old s.err_new outcome.line

-- the call was broken off in the midst of what the words ask
pub record IsPartly (Has : Origin → List ℕ → Type 0) (Exceeds : Origin → Type 0) (words : List (List ℕ))
    (s : Seen) : Type 0 where
  pub outcome : Outcome
  pub answer : Answers Has Exceeds words outcome
  pub part : IsBrokenOff s.old s.new outcome

-- a file that the words name for reading was not read: it is the one that the last of these calls was to read, which failed, and the line
-- tells it
pub record TellsUnread (calls : List Call) (words : List (List ℕ)) (s : Seen) : Type 0 where
  pub request : Request
  pub asks : Asks words request
  pub name : List ℕ
  pub unread : IsUnread request s.old s.new name
  pub last : EndsUnread name calls
  pub says : PutsLine s.err_old s.err_new (unread_line name)

-- what was done by the answers of these calls, all of which read a file that the words name for reading or write the one that they name
-- for writing: what the words ask, and the first part of it after status 5 or 6; and after status 4, which file was not read
pub record IsByCalls (calls : List Call) (words : List (List ℕ)) (s : Seen) (status : ℕ) : Type 0 where
  pub asked : All (λ call. (r : Request) × Asks words r × IsCallOf r call) calls
  pub unread : status ≡ 4 → TellsUnread calls words s
  pub answered : IsPlain status → IsAnswered (WasRead calls) (WasTooLarge calls) words s status
  pub partly : status ≡ 5 → IsPartly (WasRead calls) (WasTooLarge calls) words s
  pub printed_in_part : status ≡ 6 → (s.new.out ≡ s.old.out) ⊎ IsPartly (WasRead calls) (WasTooLarge calls) words s

-- the file that the words name for writing was not written, and the line tells it
pub record TellsUnwritten (words : List (List ℕ)) (s : Seen) : Type 0 where
  pub request : Request
  pub asks : Asks words request
  pub name : List ℕ
  pub unwritten : IsUnwritten request s.old s.new name
  pub says : PutsLine s.err_old s.err_new (unwritten_line name)

pub record TellsUnprinted (s : Seen) : Type 0 where
  pub unprinted : IsUnprinted s.old s.new
  pub says : PutsLine s.err_old s.err_new unprinted_line

-- the words ask for a run of the source
pub record AsksForSource (words : List (List ℕ)) : Type 0 where
  pub firmware : List ℕ
  pub policy : Policy
  pub tape : List ℕ
  pub steps : ℕ
  pub asks : Asks words (Source firmware policy tape steps)

-- memory ran out: nothing was printed, unless the words ask for a run of the source
pub record TellsOutOfMemory (words : List (List ℕ)) (s : Seen) : Type 0 where
  pub out_of_memory : IsOutOfMemory s.old s.new
  pub quiet : (s.new.out ≡ s.old.out) ⊎ AsksForSource words
  pub says : PutsLine s.err_old s.err_new memory_line
