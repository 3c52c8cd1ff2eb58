-- What a command did to the outside, by how it ended.
use Rattle.std.specs.Prelude.{◌≡◌, ◌≢◌, ℕ, ◌⊎◌, List, [], ◌++◌, take, Bool, Option, Some, None, Result, Ok, Err, IsTrue}
use Rattle.base_outside.specs.declared.files.Files as files
use Rattle.base_outside.specs.Counts.{Rose}
use Rattle.base_outside.specs.Contents.{AddsPrefix}
use Rattle.aces_reports.specs.declared.failure.Done.{Done}
use Rattle.aces_reports.specs.declared.failure.Done.TheVariants.{Completed, RunFailed, Negative, FaultTold, NoRoomTold}
use Rattle.aces_reports.specs.declared.failure.Failure.{Failure}
use Rattle.aces_reports.specs.declared.failure.Failure.TheVariants.{Refused, PastLimit, Denied, NoRoom, Unread, Unwritten, Unprinted, NoMemory}
use Rattle.aces_words.specs.Requests.{Request, Source, origins, target}
use Rattle.aces_files.specs.Known.{Held, IsMissing, IsNamed}
use Rattle.base_outside.specs.Sinks.{SinkState}
use Rattle.aces_files.specs.Outcomes.{Written, Outcome, refused, past_limit, denied, no_room}

-- the files as they are seen, and the sink of what is printed
pub record World : Type 0 where
  pub told : Bool
  pub held : Held
  pub read_faults : ℕ
  pub write_faults : ℕ
  pub out : SinkState

abbrev pub world : {F : Type 0} → files.Ghosts F → F → SinkState → World
world of fs out =
    record { told = of.told; held = of.held fs; read_faults = of.read_faults fs; write_faults = of.write_faults fs; out = out }

-- names hold what they held, but for what was to be written
abbrev pub IsRewritten : (told : Bool) → Option Written → (old new : Held) → Type 0
IsRewritten told None old new = new ≡ old
IsRewritten told (Some w) old new =
    ((other : List ℕ) → other ≢ w.name → new other ≡ old other) × (IsTrue told → new w.name ≡ Some w.bytes)

-- the same of a write that was broken off: the name holds what it held, or a prefix of the bytes
abbrev pub IsCutShort : (told : Bool) → Option Written → (old new : Held) → Type 0
IsCutShort told None old new = new ≡ old
IsCutShort told (Some w) old new =
    ((other : List ℕ) → other ≢ w.name → new other ≡ old other)
    × (IsTrue told → (new w.name ≡ old w.name) ⊎ ((n : ℕ) × (new w.name ≡ Some (take n w.bytes))))

-- nothing was written or printed
pub record Quiet (old new : World) : Type 0 where
  pub held : new.held ≡ old.held
  pub write_faults : new.write_faults ≡ old.write_faults
  pub out : new.out ≡ old.out

-- a file was not read: a read fault rose, or contents are told and it is the first that isn't there
pub record IsUnread (request : Request) (old new : World) (name : List ℕ) : Type 0 where
  pub named : IsNamed (origins request) name
  pub cause : Rose old.read_faults new.read_faults ⊎ (IsTrue old.told × IsMissing old.held (origins request) name)
  pub quiet : Quiet old new

-- a file was not written: a write fault rose
pub record IsUnwritten (request : Request) (old new : World) (name : List ℕ) : Type 0 where
  pub named : target request ≡ Some name
  pub rose : Rose old.write_faults new.write_faults
  pub read_faults : new.read_faults ≡ old.read_faults
  pub out : new.out ≡ old.out

-- what was to be printed was not: a fault of the sink rose
pub record IsUnprinted (old new : World) : Type 0 where
  pub rose : Rose old.out.faults new.out.faults
  pub held : new.held ≡ old.held
  pub read_faults : new.read_faults ≡ old.read_faults
  pub write_faults : new.write_faults ≡ old.write_faults

-- memory ran out: every name holds what it held, and no fault rose
pub record IsOutOfMemory (old new : World) : Type 0 where
  pub held : new.held ≡ old.held
  pub read_faults : new.read_faults ≡ old.read_faults
  pub write_faults : new.write_faults ≡ old.write_faults
  pub faults : new.out.faults ≡ old.out.faults

-- all that is to be printed and written is there, and no fault rose
pub record IsCarriedOut (old new : World) (o : Outcome) : Type 0 where
  pub printed : IsTrue old.out.told → new.out.written ≡ old.out.written ++ o.printed
  pub held : IsRewritten old.told o.written old.held new.held
  pub read_faults : new.read_faults ≡ old.read_faults
  pub write_faults : new.write_faults ≡ old.write_faults
  pub faults : new.out.faults ≡ old.out.faults

-- a prefix of what is to be printed, and of what is to be written
pub record IsBrokenOff (old new : World) (o : Outcome) : Type 0 where
  pub printed : IsTrue old.out.told → AddsPrefix old.out.written new.out.written o.printed
  pub held : IsCutShort old.told o.written old.held new.held

-- `Answer` says which outcomes the request has
module _ (Answer : Outcome → Type 0) (request : Request) (old new : World) where
  -- it ended with this status, and no line tells of a fault
  pub record IsDone (status : ℕ) : Type 0 where
    pub outcome : Outcome
    pub answer : Answer outcome
    pub ended : outcome.status ≡ status
    pub silent : outcome.line ≡ []
    pub all : IsCarriedOut old new outcome

  -- it was refused with this outcome, and nothing was printed or written
  pub record IsRefused (outcome : Outcome) : Type 0 where
    pub answer : Answer outcome
    pub quiet : Quiet old new
    pub read_faults : new.read_faults ≡ old.read_faults

  -- it was broken off by a fault of what it writes or prints
  pub record IsPart : Type 0 where
    pub outcome : Outcome
    pub answer : Answer outcome
    pub part : IsBrokenOff old new outcome

  -- where memory ran out nothing was printed but the first lines of a run of the source
  abbrev pub IsPrintedInPart : Request → Type 0
  IsPrintedInPart (Source firmware policy tape steps) = (new.out ≡ old.out) ⊎ IsPart
  IsPrintedInPart r = new.out ≡ old.out

  -- what a command did, by how it ended
  abbrev pub Does : Result Done Failure → Type 0
  Does (Ok Completed) = IsDone 0
  Does (Ok RunFailed) = IsDone 7
  Does (Ok Negative) = IsDone 8
  Does (Ok FaultTold) = IsDone 1
  Does (Ok NoRoomTold) = IsDone 3
  Does (Err (Refused name fault)) = IsRefused (refused name.now fault)
  Does (Err (PastLimit which count)) = IsRefused (past_limit which count)
  Does (Err (Denied said)) = IsRefused (denied said)
  Does (Err (NoRoom lack)) = IsRefused (no_room lack)
  Does (Err (Unread name)) = IsUnread request old new name.now
  Does (Err (Unwritten name)) = IsUnwritten request old new name.now × IsPart
  Does (Err Unprinted) = IsUnprinted old new × IsPart
  Does (Err NoMemory) = IsOutOfMemory old new × IsPrintedInPart request
