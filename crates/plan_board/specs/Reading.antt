-- Which board a text describes, or why it describes none.
use Rattle.std.specs.Prelude.{◌≡◌, ◌≢◌, ℕ, List, Option, Some, None, Result, Ok, Err, IsUtf8}
use Rattle.plan_model.specs.declared.plan.Board.{Board}
use Rattle.toml.specs.Data.{Members}
use Rattle.toml.specs.Parse.{parse_document}
use Rattle.plan_board.specs.declared.document.KeyFault.{KeyFault}
use Rattle.plan_board.specs.declared.document.KeyFault.TheVariants as at_key
use Rattle.plan_board.specs.declared.fault.BoardFault.{BoardFault}
use Rattle.plan_board.specs.declared.fault.BoardFault.TheVariants.{NoMemory, NotToml, Missing, Kind, Range, DeniedKind, DeniedRange, Extra}
use Rattle.plan_model.specs.declared.denied_ranges.Denied.{Denied}
use Rattle.plan_board.specs.Fields.{board_of}
use Rattle.plan_board.specs.Denied.{denied_of}
use Rattle.plan_board.specs.Extra.{extra_of}

-- the fault of a key
abbrev pub board_fault : KeyFault → BoardFault
board_fault (at_key.Missing k) = Missing k
board_fault (at_key.Kind k) = Kind k
board_fault (at_key.Range k) = Range k

-- what is denied is tested behind the other fields
abbrev pub with_denied : Result Board KeyFault → Result (List Denied) BoardFault → Result Board BoardFault
with_denied (Err e) denied = Err (board_fault e)
with_denied (Ok b) (Err e) = Err e
with_denied (Ok b) (Ok ds) = Ok (record b { denied = ds })

-- and further keys are refused behind all tests
abbrev pub reading_by : Result Board BoardFault → Option (List ℕ) → Result Board BoardFault
reading_by (Err e) path = Err e
reading_by (Ok b) None = Ok b
reading_by (Ok b) (Some path) = Err (Extra path)

-- what comes of a document
unfoldable pub reading : Members → Result Board BoardFault
reading ms = reading_by (with_denied (board_of ms) (denied_of ms)) (extra_of ms)

-- a refusal of a further key, but for want of memory
abbrev pub IsFurther : Members → BoardFault → Type 0
IsFurther ms f = f ≢ NoMemory → (path : List ℕ) × (extra_of ms ≡ Some path) × (f ≡ Extra path)

abbrev pub IsReadIn : Members → Board → Type 0
IsReadIn ms b = reading ms ≡ Ok b

-- a refusal for want of memory says nothing of the document
abbrev pub IsFaultIn : Members → BoardFault → Type 0
IsFaultIn ms NoMemory = Unit {0}
IsFaultIn ms NotToml = ⊥
IsFaultIn ms (Missing k) = reading ms ≡ Err (Missing k)
IsFaultIn ms (Kind k) = reading ms ≡ Err (Kind k)
IsFaultIn ms (Range k) = reading ms ≡ Err (Range k)
IsFaultIn ms (DeniedKind path) = reading ms ≡ Err (DeniedKind path)
IsFaultIn ms (DeniedRange path) = reading ms ≡ Err (DeniedRange path)
IsFaultIn ms (Extra path) = reading ms ≡ Err (Extra path)

-- ---- texts

-- a text is one of a document
abbrev pub IsDocument : (text : List ℕ) → Members → Type 0
IsDocument text ms = IsUtf8 text × (parse_document text ≡ Some ms)

-- the board of a text
abbrev pub IsRead : (text : List ℕ) → Board → Type 0
IsRead text b = (ms : Members) × IsDocument text ms × IsReadIn ms b

-- the text is one of a document that is refused for this fault
abbrev pub IsRefused : (text : List ℕ) → BoardFault → Type 0
IsRefused text e = (ms : Members) × IsDocument text ms × (reading ms ≡ Err e)

-- why it is none
abbrev pub IsFault : (text : List ℕ) → BoardFault → Type 0
IsFault text NoMemory = Unit {0}
IsFault text NotToml = (ms : Members) → IsDocument text ms → ⊥
IsFault text (Missing k) = IsRefused text (Missing k)
IsFault text (Kind k) = IsRefused text (Kind k)
IsFault text (Range k) = IsRefused text (Range k)
IsFault text (DeniedKind path) = IsRefused text (DeniedKind path)
IsFault text (DeniedRange path) = IsRefused text (DeniedRange path)
IsFault text (Extra path) = IsRefused text (Extra path)
