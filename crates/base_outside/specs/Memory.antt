-- Beyond the program's claim: only laws, proofs and functions inside the tool cite this file.
-- Files and a sink in memory, whose calls are numbered from 0 and fail by their numbers.
use Rattle.std.specs.Prelude.{◌≡◌, ◌≢◌, ◌⊎◌, ℕ, ◌+◌, ◌-◌, ◌^◌, ◌<◌, min, List, [], length, take, drop, Option, Some, None, Result, Ok, Err, IsSomeAnd, Contains, unwrap_or, Bool, true, not, ◌&&◌, ◌∷◌}
use Rattle.std.specs.Option.{option_map, option_and_then}
use Rattle.std.specs.List.{find, list_all}
use Rattle.std.specs.Str.{bytes_eq}
use Rattle.base_outside.specs.Calls.{Call, Size, Read, Create, Append}

-- a counter of 64 bits after one more, which stays at its last value
abbrev pub next : ℕ → ℕ
next n = min (n + 1) (2 ^ 64 - 1)

-- a count of faults after a call on a name that is there, or not: one more where it is there and the
-- call failed
abbrev pub faults_after : {T E : Type 0} → ℕ → Result T E → Option (List ℕ) → ℕ
faults_after faults (Ok value) bytes = faults
faults_after faults (Err error) None = faults
faults_after faults (Err error) (Some bytes) = next faults

-- a sink: what was written, how much may be, the numbers of the calls that fail, the number of the next
-- call, and how many calls have failed
pub record SinkState : Type 0 where
  pub bytes : List ℕ
  pub room : ℕ
  pub fails : List ℕ
  pub calls : ℕ
  pub faults : ℕ

-- a piece isn't written: it isn't empty, and the call is one of those that fail or room is lacking
abbrev pub Refuses : SinkState → List ℕ → Type 0
Refuses sink piece =
    (piece ≢ []) × (Contains sink.fails sink.calls ⊎ (sink.room < length sink.bytes + length piece))

-- a name that files in memory have: the bytes that it holds, or None where it isn't there, and how many
-- it may hold
pub record Entry : Type 0 where
  pub name : List ℕ
  pub held : Option (List ℕ)
  pub room : ℕ

-- the first entry of a name
abbrev pub entry_of : List Entry → List ℕ → Option Entry
entry_of entries name = find (λ entry. bytes_eq entry.name name) entries

-- the bytes that are held under a name, or None where it isn't there
abbrev pub held_in : List Entry → List ℕ → Option (List ℕ)
held_in entries name = option_and_then (λ entry. entry.held) (entry_of entries name)

-- how many bytes a name may hold, or None where it is no entry
abbrev pub room_in : List Entry → List ℕ → Option ℕ
room_in entries name = option_map (λ entry. entry.room) (entry_of entries name)

-- how many more bytes a name may hold, or None where it isn't there
abbrev pub room_left_in : List Entry → List ℕ → Option ℕ
room_left_in entries name =
    option_and_then (λ entry. option_map (λ bytes. entry.room - length bytes) entry.held) (entry_of entries name)

-- no two entries have one name: none after an entry has its name
abbrev pub names_differ : List Entry → Bool
names_differ [] = true
names_differ (entry ∷ entries) =
    list_all (λ other. not (bytes_eq other.name entry.name)) entries && names_differ entries

-- files: the entries, the numbers of the calls that fail, how much of a piece a failing append adds, the
-- number of the next call, and how many calls have failed on a name that is there
pub record FilesState : Type 0 where
  pub entries : List Entry
  pub fails : List ℕ
  pub keep : ℕ
  pub calls : ℕ
  pub read_faults : ℕ
  pub write_faults : ℕ

-- the number of the next call is one of those that fail
abbrev pub IsFailing : FilesState → Type 0
IsFailing files = Contains files.fails files.calls

-- the bytes that are held under a name
abbrev pub held : FilesState → List ℕ → Option (List ℕ)
held files name = held_in files.entries name

-- how many bytes a name may hold
abbrev pub room : FilesState → List ℕ → Option ℕ
room files name = room_in files.entries name

-- how many more bytes a name may hold, or None where it isn't there
abbrev pub room_left : FilesState → List ℕ → Option ℕ
room_left files name = room_left_in files.entries name

-- the piece would pass the room of a name that is there
abbrev pub PassesRoom : FilesState → List ℕ → List ℕ → Type 0
PassesRoom files name piece = IsSomeAnd (room_left files name) (λ left. left < length piece)

-- what a failing append adds: `keep` bytes from the piece's front on, or as many as it has and the room takes, if those are fewer
abbrev pub kept : FilesState → List ℕ → List ℕ → List ℕ
kept files name piece = take (min files.keep (unwrap_or (room_left files name) 0)) piece

-- what a call keeps, whatever it does, and the number of the call after it
pub record Passes (old new : FilesState) : Type 0 where
  pub fails : new.fails ≡ old.fails
  pub keep : new.keep ≡ old.keep
  pub rooms : (name : List ℕ) → room new name ≡ room old name
  pub calls : new.calls ≡ next old.calls

-- other bytes stand under a name, and nothing else has changed in the entries
pub record Rewrites (old new : List Entry) (name : List ℕ) (bytes : List ℕ) : Type 0 where
  pub there : held_in new name ≡ Some bytes
  pub elsewhere : (other : List ℕ) → other ≢ name → held_in new other ≡ held_in old other
  pub rooms : (other : List ℕ) → room_in new other ≡ room_in old other

-- what a call that did not fail answers, by what is held
abbrev pub IsAnswered : FilesState → Call → Type 0
IsAnswered files (Size name (Some size)) = option_map length (held files name) ≡ Some size
IsAnswered files (Size name None) = Unit {0}
IsAnswered files (Read name place (Some piece)) =
    option_map (λ bytes. take (length piece) (drop place bytes)) (held files name) ≡ Some piece
IsAnswered files (Read name place None) = Unit {0}
IsAnswered files (Create name done) = Unit {0}
IsAnswered files (Append name piece done) = Unit {0}

-- this call left these files: it answered by what was held, and it was counted
abbrev pub IsCalled : FilesState → Call → FilesState → Type 0
IsCalled before call after = IsAnswered before call × (after.calls ≡ next before.calls)
