-- What a call of the program says of how it ended, clause by clause.
use Rattle.std.specs.Prelude.{◌≡◌, ◌≢◌, ◌↔◌, ℕ, ◌⊎◌, List, IsTrue}
use Rattle.base_outside.specs.Calls.{Call}
use Rattle.aces_words.specs.Requests.{Request, Asks, IsUsage}
use Rattle.aces_files.specs.Known.{HoldsWithin, Exceeds}
use Rattle.aces_cli.specs.Bounded.{FollowsBounded}
use Rattle.aces_cli.specs.Complete.{NoneFailed, HasFiles, IsGood, IsDoneBy}
use Rattle.aces_cli.specs.Endings.{IsPlain, IsAnswered, IsPartly, IsByCalls, TellsUnwritten, TellsUnprinted, TellsOutOfMemory}
use Rattle.aces_cli.specs.Seen.{Seen}

-- a call with these words, which made these calls on files, in order, found and left this outside, and ended with this status
pub record Clauses (calls : List Call) (words : List (List ℕ)) (s : Seen) (status : ℕ) : Type 0 where
  -- the status is 2 exactly where the words are those of no request
  pub usage : (status ≡ 2) ↔ IsUsage words
  -- it did what the words ask, of the contents where these are told, and else of the bytes that its own calls gave. Where a file was not read, the
  -- last of its calls was to read it, and failed. So the status is 3 exactly where a plan was asked for, what it is made of is read, no limit is
  -- passed, and the board denies an address that the firmware reaches, or a memory of it has no room (`PlanAnswer`, and `IsPlanTold` of `explain`)
  pub answer : IsTrue s.old.told → IsPlain status → IsAnswered (HoldsWithin s.old.held) (Exceeds s.old.held) words s status
  pub by_calls : IsByCalls calls words s status
  pub read_faults : (status ≡ 4) ⊎ (s.new.read_faults ≡ s.old.read_faults)
  pub unwritten : status ≡ 5 → TellsUnwritten words s ⊎ TellsUnprinted s
  pub write_faults : (status ≡ 5) ⊎ ((s.new.write_faults ≡ s.old.write_faults) × (s.new.out.faults ≡ s.old.out.faults))
  -- what was printed and written before a fault is a prefix of what the words ask
  pub partly : IsTrue s.old.told → status ≡ 5 → IsPartly (HoldsWithin s.old.held) (Exceeds s.old.held) words s
  -- after want of memory nothing was printed but the first lines of a run of the source
  pub memory : status ≡ 6 → TellsOutOfMemory words s
  pub printed_in_part : IsTrue s.old.told → status ≡ 6 → (s.new.out ≡ s.old.out) ⊎ IsPartly (HoldsWithin s.old.held) (Exceeds s.old.held) words s
  -- where contents are told and no call failed, a command whose files are there ends by what they hold, or for want of memory; and where what
  -- they hold is good, all was done or memory ran out
  pub settled : IsTrue s.old.told → NoneFailed s → HasFiles s.old.held words → IsPlain status ⊎ (status ≡ 6)
  pub complete : IsTrue s.old.told → NoneFailed s → (r : Request) → Asks words r → IsGood (HoldsWithin s.old.held) r → IsDoneBy r status ⊎ (status ≡ 6)
  -- where the words ask to compile and the status is 0, and what the files held has an answer of `stack` with status 0 too, the image file holds an
  -- image that does what the source does wherever that meets no fault, with no premise on the stack
  pub bounded : IsTrue s.old.told → status ≡ 0 → FollowsBounded words s.old.held s.new.held
  pub kept : status ≢ 0 → status ≢ 5 → s.new.held ≡ s.old.held
