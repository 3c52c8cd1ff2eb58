-- Beyond the program's claim: only laws, proofs and functions inside the tool cite this file.
-- What a command did, by the calls that it made on files.
use Rattle.std.specs.Prelude.{◌≡◌, ℕ, List, All, Bool, Result, IsTrue, IfErr}
use Rattle.base_outside.specs.declared.files.Files as files
use Rattle.base_outside.specs.Calls.{Call, Calls, Size, Read, Create, Append}
use Rattle.base_outside.specs.Reading.{EndsUnread}
use Rattle.aces_reports.specs.declared.failure.Done.{Done}
use Rattle.aces_reports.specs.declared.failure.Failure.{Failure}
use Rattle.aces_reports.specs.declared.failure.Failure.TheVariants.{Refused, PastLimit, Denied, NoRoom, Unread, Unwritten, Unprinted, NoMemory}
use Rattle.base_outside.specs.Sinks.{SinkState}
use Rattle.aces_words.specs.Requests.{Request, Origin}
use Rattle.aces_files.specs.Known.{Held, HoldsWithin, Exceeds, WasRead, WasTooLarge, IsCallOf}
use Rattle.aces_files.specs.Outcomes.{Outcome}
use Rattle.aces_files.specs.Effects.{Does, world}

-- what these calls answered, and what the files held where that is told
abbrev pub IsKnown : (told : Bool) → Held → List Call → Origin → List ℕ → Type 0
IsKnown told held calls s bytes = WasRead calls s bytes × (IsTrue told → HoldsWithin held s bytes)

abbrev pub IsKnownLarge : (told : Bool) → Held → List Call → Origin → Type 0
IsKnownLarge told held calls s = WasTooLarge calls s × (IsTrue told → Exceeds held s)

-- where a file was not read, the last of these calls was to read it, and failed
abbrev pub NamesLast : List Call → Failure → Type 0
NamesLast calls (Refused name fault) = Unit {0}
NamesLast calls (PastLimit which count) = Unit {0}
NamesLast calls (Denied said) = Unit {0}
NamesLast calls (NoRoom lack) = Unit {0}
NamesLast calls (Unread name) = EndsUnread name.now calls
NamesLast calls (Unwritten name) = Unit {0}
NamesLast calls Unprinted = Unit {0}
NamesLast calls NoMemory = Unit {0}

-- a command that made these calls did what the request asks, by what is known; `Answer` is the answer to the request
abbrev pub CarriesOut : ((Has : Origin → List ℕ → Type 0) (Exceeds : Origin → Type 0) → Outcome → Type 0)
    → {F : Type 0} → files.Ghosts F → (old new : F) → Request → (out_old out_new : SinkState) → Result Done Failure → Type 0
CarriesOut Answer of old new r out_old out_new result =
    (calls : List Call) × Calls of.called old calls new × All (IsCallOf r) calls
    × Does (Answer (IsKnown of.told (of.held old) calls) (IsKnownLarge of.told (of.held old) calls)) r (world of old out_old) (world of new out_new) result
    × IfErr result (NamesLast calls)

-- a call that writes these bytes under a name, or makes the name hold none, whether or not it fails
abbrev pub Writes : (name bytes : List ℕ) → Call → Type 0
Writes name bytes (Size n size) = ⊥
Writes name bytes (Read n place piece) = ⊥
Writes name bytes (Create n made) = n ≡ name
Writes name bytes (Append n piece made) = (n ≡ name) × (piece ≡ bytes)
