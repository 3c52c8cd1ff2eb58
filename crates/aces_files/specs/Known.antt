-- What is known of the files that a command reads: what a name holds, where the contents are told, and what its calls answered.
use Rattle.std.specs.Prelude.{◌≡◌, ℕ, ◌<◌, ◌≤◌, ◌⊎◌, List, [], ◌∷◌, ◌++◌, length, Option, Some, IsNone, IsSomeAnd}
use Rattle.base_outside.specs.Calls.{Call, Size, Read, Create, Append}
use Rattle.base_outside.specs.Reading.{ReadsWhole}
use Rattle.aces_words.specs.Requests.{Request, Origin, origins, target}

-- the bytes that are held under each name that is there
abbrev pub Held : Type 0
Held = List ℕ → Option (List ℕ)

-- the source holds these bytes, which are within its limit
pub record HoldsWithin (held : Held) (s : Origin) (bytes : List ℕ) : Type 0 where
  pub there : held s.name ≡ Some bytes
  pub within : length bytes ≤ s.limit

-- the source holds more bytes than its limit
abbrev pub Exceeds : Held → Origin → Type 0
Exceeds held s = IsSomeAnd (held s.name) (λ bytes. s.limit < length bytes)

-- the source isn't there, and each one before it is, within its limit
abbrev pub IsMissing : Held → List Origin → (name : List ℕ) → Type 0
IsMissing held [] name = ⊥
IsMissing held (s ∷ more) name =
    ((s.name ≡ name) × IsNone (held name)) ⊎ (((bytes : List ℕ) × HoldsWithin held s bytes) × IsMissing held more name)

-- a name is that of a source
abbrev pub IsNamed : List Origin → (name : List ℕ) → Type 0
IsNamed [] name = ⊥
IsNamed (s ∷ more) name = (s.name ≡ name) ⊎ IsNamed more name

-- among these calls are those that read the source whole, one behind another, within its limit
pub record WasRead (calls : List Call) (s : Origin) (bytes : List ℕ) : Type 0 where
  pub before : List Call
  pub reads : List Call
  pub after : List Call
  pub among : calls ≡ before ++ reads ++ after
  pub whole : ReadsWhole s.name s.limit reads bytes

-- the last of these calls asked for the source's size, and the answer was above the limit
pub record WasTooLarge (calls : List Call) (s : Origin) : Type 0 where
  pub before : List Call
  pub size : ℕ
  pub last : calls ≡ before ++ Size s.name (Some size) ∷ []
  pub exceeds : s.limit < size

-- a call that a request makes reads one of its sources, or writes its target
abbrev pub IsCallOf : Request → Call → Type 0
IsCallOf r (Size name size) = IsNamed (origins r) name
IsCallOf r (Read name place bytes) = IsNamed (origins r) name
IsCallOf r (Create name made) = target r ≡ Some name
IsCallOf r (Append name piece made) = target r ≡ Some name
