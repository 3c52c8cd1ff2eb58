-- Calls on files, and the calls that lead from one state of files to another.
use Rattle.std.specs.Prelude.{◌≡◌, ℕ, Bool, List, [], ◌∷◌, Option}

-- a call by a name, and what it answered: the size, the bytes that were read, or nothing where it failed; whether what was to be
-- written was written
pub data Call : Type 0 where
  Size : (name : List ℕ) (size : Option ℕ) → Call
  Read : (name : List ℕ) (place : ℕ) (bytes : Option (List ℕ)) → Call
  Create : (name : List ℕ) (done : Bool) → Call
  Append : (name piece : List ℕ) (done : Bool) → Call

-- these calls and no others lead from the first files to the last, one after another. `called` is that of `Files`
abbrev pub Calls : {F : Type 0} → (called : F → Call → F → Type 0) → (first : F) → List Call → (last : F) → Type 0
Calls called first [] last = first ≡ last
Calls {F} called first (call ∷ calls) last = (next : F) × called first call next × Calls called next calls last
