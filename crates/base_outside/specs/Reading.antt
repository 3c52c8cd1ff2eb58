-- Reading a file whole, by calls that each give some bytes.
use Rattle.std.specs.Prelude.{◌≡◌, ◌<◌, ◌≤◌, ℕ, List, [], ◌∷◌, ◌++◌, length, Some, None}
use Rattle.base_outside.specs.Calls.{Call, Size, Read, Create, Append}

-- a call that reads this name, whether or not it fails
abbrev pub Reads : (name : List ℕ) → Call → Type 0
Reads name (Size n size) = n ≡ name
Reads name (Read n place bytes) = n ≡ name
Reads name (Create n done) = ⊥
Reads name (Append n piece done) = ⊥

-- Calls that gave these bytes of a name, each from the place where the call before it ended, from the front on, and each at least one.
pub data Pieces (name : List ℕ) : List Call → List ℕ → Type 0 where
  none : Pieces name [] []
  more : (calls : List Call) (bytes piece : List ℕ) → Pieces name calls bytes → 0 < length piece →
      Pieces name (calls ++ Read name (length bytes) (Some piece) ∷ []) (bytes ++ piece)

-- They end where there are as many bytes as were asked for, or where a call gave none.
pub data AllPieces (name : List ℕ) (size : ℕ) : List Call → List ℕ → Type 0 where
  full : (calls : List Call) (bytes : List ℕ) → Pieces name calls bytes → length bytes ≡ size → AllPieces name size calls bytes
  ended : (calls : List Call) (bytes : List ℕ) → Pieces name calls bytes →
      AllPieces name size (calls ++ Read name (length bytes) (Some []) ∷ []) bytes

-- The calls that read a file whole: one that asked for its size, which was within the limit, and those that gave its bytes, that many or
-- fewer.
pub record ReadsWhole (name : List ℕ) (limit : ℕ) (calls : List Call) (bytes : List ℕ) : Type 0 where
  pub size : ℕ
  pub reads : List Call
  pub are : calls ≡ Size name (Some size) ∷ reads
  pub within : size ≤ limit
  pub pieces : AllPieces name size reads bytes
  pub few : length bytes ≤ size

-- The last of these calls was to read this name, and failed: it asked for the size, or for bytes from some place on.
pub data EndsUnread (name : List ℕ) : List Call → Type 0 where
  no_size : (before : List Call) → EndsUnread name (before ++ Size name None ∷ [])
  no_bytes : (before : List Call) (place : ℕ) → EndsUnread name (before ++ Read name place None ∷ [])

-- The one call that asked for a file's size, and answered this much.
abbrev pub AsksSize : (name : List ℕ) → (size : ℕ) → List Call → Type 0
AsksSize name size calls = calls ≡ Size name (Some size) ∷ []
