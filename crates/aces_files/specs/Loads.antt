-- Beyond the program's claim: only laws, proofs and functions inside the tool cite this file.
-- What the steps of a command answer before it ends.
use Rattle.std.specs.Prelude.{◌≡◌, ℕ, ◌⊎◌, List, All, Bool, IsTrue, IsNone}
use Rattle.base_outside.specs.declared.files.Files as files
use Rattle.base_outside.specs.Calls.{Call, Calls}
use Rattle.base_outside.specs.Counts.{Rose}
use Rattle.base_outside.specs.Reading.{Reads}
use Rattle.aces_reports.specs.declared.failure.Fault.{Fault}
use Rattle.aces_reports.specs.declared.failure.Fault.TheVariants.{TooLarge}
use Rattle.aces_reports.specs.declared.failure.Failure.{Failure}
use Rattle.aces_reports.specs.declared.failure.Failure.TheVariants.{Refused, PastLimit, Denied, NoRoom, Unread, Unwritten, Unprinted, NoMemory}
use Rattle.aces_words.specs.Requests.{Origin}
use Rattle.ir_model.specs.Plain.{PlainFirmware}
use Rattle.plan_model.specs.declared.plan.Board.{Board}
use Rattle.plan_report.specs.Lines.{meeting_text}
use Rattle.plan.specs.declared.refusal.PlanningRefusal.{PlanningRefusal}
use Rattle.plan.specs.declared.refusal.PlanningRefusal.TheVariants as planning
use Rattle.aces_files.specs.Known.{Held}
use Rattle.aces_files.specs.CarriesOut.{IsKnown, IsKnownLarge, NamesLast}
use Rattle.aces_files.specs.Outcomes.{Outcome, refused, past_limit, denied, no_room}

-- a file's content is refused by such a fault, or memory ran out
abbrev pub IsContentFailure : (IsFault : Fault → Type 0) → (name : List ℕ) → Failure → Type 0
IsContentFailure IsFault name (Refused n f) = (n.now ≡ name) × IsFault f
IsContentFailure IsFault name (PastLimit which count) = ⊥
IsContentFailure IsFault name (Denied said) = ⊥
IsContentFailure IsFault name (NoRoom lack) = ⊥
IsContentFailure IsFault name (Unread n) = ⊥
IsContentFailure IsFault name (Unwritten n) = ⊥
IsContentFailure IsFault name Unprinted = ⊥
IsContentFailure IsFault name NoMemory = Unit {0}

-- an outcome that `Answer` has, or memory ran out
abbrev pub IsRefusal : (Answer : Outcome → Type 0) → Failure → Type 0
IsRefusal A (Refused n f) = A (refused n.now f)
IsRefusal A (PastLimit which count) = A (past_limit which count)
IsRefusal A (Denied said) = A (denied said)
IsRefusal A (NoRoom lack) = A (no_room lack)
IsRefusal A (Unread n) = ⊥
IsRefusal A (Unwritten n) = ⊥
IsRefusal A Unprinted = ⊥
IsRefusal A NoMemory = Unit {0}

-- the failure that a refusal of planning is, of a firmware for a board
abbrev pub of_planning : PlainFirmware → Board → PlanningRefusal → Failure
of_planning w b planning.NoMemory = NoMemory
of_planning w b (planning.Limit which count) = PastLimit which count
of_planning w b (planning.Denied m) = Denied (meeting_text w b m)
of_planning w b (planning.Room lack) = NoRoom lack

-- the failure is that one, or memory ran out for its line
abbrev pub IsPlanningFailure : PlainFirmware → Board → PlanningRefusal → Failure → Type 0
IsPlanningFailure w b r f = (f ≡ of_planning w b r) ⊎ (f ≡ NoMemory)

-- why a source was not read whole; `Exceeds` says that it is larger than its limit
module _ (Exceeds : Origin → Type 0) (told : Bool) (held : Held) (s : Origin) (faults_before faults_after : ℕ) where
  abbrev pub IsLoadFailure : Failure → Type 0
  IsLoadFailure (Refused name f) = (name.now ≡ s.name) × (f ≡ TooLarge s.limit) × Exceeds s × (faults_after ≡ faults_before)
  IsLoadFailure (PastLimit which count) = ⊥
  IsLoadFailure (Denied said) = ⊥
  IsLoadFailure (NoRoom lack) = ⊥
  IsLoadFailure (Unread name) = (name.now ≡ s.name) × (Rose faults_before faults_after ⊎ (IsTrue told × IsNone (held s.name)))
  IsLoadFailure (Unwritten name) = ⊥
  IsLoadFailure Unprinted = ⊥
  IsLoadFailure NoMemory = faults_after ≡ faults_before

-- a call that reads one of two files
abbrev pub ReadsEither : (first second : List ℕ) → Call → Type 0
ReadsEither first second call = Reads first call ⊎ Reads second call

-- what reading did
module _ {F : Type 0} (of : files.Ghosts F) (old new : F) where
  -- a file was read whole, and nothing else was done
  pub record IsRead (s : Origin) (bytes : List ℕ) : Type 0 where
    pub calls : List Call
    pub are : Calls of.called old calls new
    pub reads : All (Reads s.name) calls
    pub known : IsKnown of.told (of.held old) calls s bytes
    pub same : of.held new ≡ of.held old
    pub read_faults : of.read_faults new ≡ of.read_faults old
    pub write_faults : of.write_faults new ≡ of.write_faults old

  -- it was not, and why
  pub record IsNotRead (s : Origin) (e : Failure) : Type 0 where
    pub calls : List Call
    pub are : Calls of.called old calls new
    pub reads : All (Reads s.name) calls
    pub cause : IsLoadFailure (IsKnownLarge of.told (of.held old) calls) of.told (of.held old) s (of.read_faults old) (of.read_faults new) e
    pub last : NamesLast calls e
    pub same : of.held new ≡ of.held old
    pub write_faults : of.write_faults new ≡ of.write_faults old

  -- two files were read whole, the second behind the first, and nothing else was done
  pub record AreRead (s t : Origin) (bytes text : List ℕ) : Type 0 where
    pub calls : List Call
    pub are : Calls of.called old calls new
    pub reads : All (ReadsEither s.name t.name) calls
    pub first_known : IsKnown of.told (of.held old) calls s bytes
    pub second_known : IsKnown of.told (of.held old) calls t text
    pub same : of.held new ≡ of.held old
    pub read_faults : of.read_faults new ≡ of.read_faults old
    pub write_faults : of.write_faults new ≡ of.write_faults old

  -- one of them was not, and why: the first, or the first holds these bytes and it was the second
  pub record AreNotRead (s t : Origin) (e : Failure) : Type 0 where
    pub calls : List Call
    pub are : Calls of.called old calls new
    pub reads : All (ReadsEither s.name t.name) calls
    pub cause :
        IsLoadFailure (IsKnownLarge of.told (of.held old) calls) of.told (of.held old) s (of.read_faults old) (of.read_faults new) e
        ⊎ (((bytes : List ℕ) × IsKnown of.told (of.held old) calls s bytes)
        × IsLoadFailure (IsKnownLarge of.told (of.held old) calls) of.told (of.held old) t (of.read_faults old) (of.read_faults new) e)
    pub last : NamesLast calls e
    pub same : of.held new ≡ of.held old
    pub write_faults : of.write_faults new ≡ of.write_faults old
