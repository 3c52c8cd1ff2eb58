-- The premises by which a command does all that it was asked for, unless memory runs out: no call on the outside fails, and what its files hold is good.
use Rattle.std.specs.Prelude.{◌≡◌, ℕ, ◌⊎◌, List, [], ◌∷◌, Some, None}
use Rattle.base_outside.specs.Counts.{Stayed}
use Rattle.machine_devices.specs.declared.image.Image.{Image}
use Rattle.machine_devices.specs.Tape as tapes
use Rattle.machine_image.specs.Text.{IsText}
use Rattle.ir_model.specs.Plain.{PlainFirmware}
use Rattle.ir_program.specs.Windows.{windows_of}
use Rattle.plan_model.specs.declared.plan.Board.{Board}
use Rattle.plan_board.specs.Reading as boards
use Rattle.plan_firmwares.specs.Plannable.{IsPlannable}
use Rattle.aces_stack.specs.Limited.{KeepsLimitsBy}
use Rattle.plan_model.specs.declared.policy.Policy.{Policy}
use Rattle.plan_model.specs.declared.policy.Policy.TheVariants.{Filename}
use Rattle.aces_words.specs.Requests.{Request, Run, Bin, Compile, Check, Source, Where, Listing, Stack, Audit, Tables, Who, Symbols, Help, Selftest, Watch, State, Why, Explain, ExplainPlan, Asks, Origin, origins, file_origin, firmware_origin}
use Rattle.aces_files.specs.Known.{Held, HoldsWithin, Exceeds}
use Rattle.aces_files.specs.Outcomes.{Outcome}
use Rattle.aces_firmwares.specs.Firmwares.{IsFirmware}
use Rattle.ir_generator.specs.Made.{made}
use Rattle.aces_selftest.specs.TestBoard.{test_board}
use Rattle.aces_cli.specs.Answer.{Answer}
use Rattle.aces_cli.specs.Seen.{Seen}

-- no call on files or on what is printed failed
pub record NoneFailed (s : Seen) : Type 0 where
  pub read_faults : Stayed s.old.read_faults s.new.read_faults
  pub write_faults : Stayed s.old.write_faults s.new.write_faults
  pub out_faults : Stayed s.old.out.faults s.new.out.faults

-- each of these files is there
abbrev pub AreThere : Held → List Origin → Type 0
AreThere held [] = Unit {0}
AreThere held (s ∷ more) = ((bytes : List ℕ) × (held s.name ≡ Some bytes)) × AreThere held more

-- each file that the words name for reading is there
abbrev pub HasFiles : Held → (words : List (List ℕ)) → Type 0
HasFiles held words = (r : Request) → Asks words r → AreThere held (origins r)

-- bytes are the text of an image, and a text is a tape for it
pub record IsRunnable (bytes text : List ℕ) : Type 0 where
  pub image : Image
  pub is_text : IsText image bytes
  pub tape : tapes.first_fault text image.windows ≡ None

-- bytes are a text of a typed firmware, and a text is a tape for it
pub record IsSourceRunnable (bytes text : List ℕ) : Type 0 where
  pub firmware : PlainFirmware
  pub is_firmware : IsFirmware firmware bytes
  pub tape : tapes.first_fault text (windows_of firmware) ≡ None

-- bytes are a text of a typed firmware and a text is one of a board, where the firmware has a plan by the policy
pub record IsCompilable (policy : Policy) (bytes text : List ℕ) : Type 0 where
  pub firmware : PlainFirmware
  pub board : Board
  pub is_firmware : IsFirmware firmware bytes
  pub is_board : boards.IsRead text board
  pub plannable : IsPlannable policy firmware board

-- the same where no limit of what is compiled is passed
pub record IsBoundable (policy : Policy) (bytes text : List ℕ) : Type 0 where
  pub firmware : PlainFirmware
  pub board : Board
  pub is_firmware : IsFirmware firmware bytes
  pub is_board : boards.IsRead text board
  pub limits : KeepsLimitsBy policy firmware board

-- what the files of a request hold is what it takes, and a self-test, which reads none, has a plan on its board: `Has` says which bytes a source within its limit holds
module _ (Has : Origin → List ℕ → Type 0) where
  pub data IsGood : Request → Type 0 where
    run : (image tape : List ℕ) (steps : ℕ) (bytes text : List ℕ) → Has (file_origin image) bytes → Has (file_origin tape) text →
        IsRunnable bytes text → IsGood (Run image tape steps)
    bin : (image file : List ℕ) (bytes : List ℕ) (i : Image) → Has (file_origin image) bytes → IsText i bytes → IsGood (Bin image file)
    compile : (firmware board : List ℕ) (policy : Policy) (image : List ℕ) (bytes text : List ℕ) → Has (firmware_origin firmware) bytes → Has (file_origin board) text →
        IsCompilable policy bytes text → IsGood (Compile firmware board policy image)
    check : (firmware : List ℕ) (bytes : List ℕ) (w : PlainFirmware) → Has (firmware_origin firmware) bytes → IsFirmware w bytes → IsGood (Check firmware)
    source : (firmware : List ℕ) (policy : Policy) (tape : List ℕ) (steps : ℕ) (bytes text : List ℕ) → Has (firmware_origin firmware) bytes → Has (file_origin tape) text →
        IsSourceRunnable bytes text → IsGood (Source firmware policy tape steps)
    where_it_is : (firmware : List ℕ) (policy : Policy) (tape : List ℕ) (steps : ℕ) (bytes text : List ℕ) → Has (firmware_origin firmware) bytes → Has (file_origin tape) text →
        IsSourceRunnable bytes text → IsGood (Where firmware policy tape steps)
    list : (firmware board : List ℕ) (policy : Policy) (bytes text : List ℕ) → Has (firmware_origin firmware) bytes → Has (file_origin board) text →
        IsCompilable policy bytes text → IsGood (Listing firmware board policy)
    stack : (firmware board : List ℕ) (policy : Policy) (bytes text : List ℕ) → Has (firmware_origin firmware) bytes → Has (file_origin board) text →
        IsBoundable policy bytes text → IsGood (Stack firmware board policy)
    audit : (image : List ℕ) (bytes : List ℕ) (i : Image) → Has (file_origin image) bytes → IsText i bytes → IsGood (Audit image)
    tables : (image : List ℕ) (bytes : List ℕ) (i : Image) → Has (file_origin image) bytes → IsText i bytes → IsGood (Tables image)
    who : (firmware board : List ℕ) (policy : Policy) (bytes text : List ℕ) → Has (firmware_origin firmware) bytes → Has (file_origin board) text →
        IsCompilable policy bytes text → IsGood (Who firmware board policy)
    symbols : (firmware board : List ℕ) (policy : Policy) (bytes text : List ℕ) → Has (firmware_origin firmware) bytes → Has (file_origin board) text →
        IsCompilable policy bytes text → IsGood (Symbols firmware board policy)
    help : IsGood Help
    selftest : (seed size : ℕ) → IsPlannable Filename (made seed size) test_board → IsGood (Selftest seed size)
    watch : (image tape : List ℕ) (steps : ℕ) (address : List ℕ) (bytes text : List ℕ) → Has (file_origin image) bytes → Has (file_origin tape) text →
        IsRunnable bytes text → IsGood (Watch image tape steps address)
    state : (image tape : List ℕ) (steps : ℕ) (bytes text : List ℕ) → Has (file_origin image) bytes → Has (file_origin tape) text →
        IsRunnable bytes text → IsGood (State image tape steps)
    why : (firmware : List ℕ) (bytes : List ℕ) (w : PlainFirmware) → Has (firmware_origin firmware) bytes → IsFirmware w bytes → IsGood (Why firmware)
    explain : (firmware : List ℕ) (bytes : List ℕ) (w : PlainFirmware) → Has (firmware_origin firmware) bytes → IsFirmware w bytes → IsGood (Explain firmware)
    explain_plan : (firmware board : List ℕ) (policy : Policy) (bytes text : List ℕ) → Has (firmware_origin firmware) bytes → Has (file_origin board) text →
        IsCompilable policy bytes text → IsGood (ExplainPlan firmware board policy)

-- the status says that all was done: 0; where a run was asked for also 7, which says that it ended badly, or that a self-test differs; where a
-- bound was asked for also 8, which says that there is none or that the stack is smaller; and where an image was to be checked also 8, which says
-- that it fails
abbrev pub IsDoneBy : Request → (status : ℕ) → Type 0
IsDoneBy (Run image tape steps) status = (status ≡ 0) ⊎ (status ≡ 7)
IsDoneBy (Bin image file) status = status ≡ 0
IsDoneBy (Compile firmware board policy image) status = status ≡ 0
IsDoneBy (Check firmware) status = status ≡ 0
IsDoneBy (Source firmware policy tape steps) status = (status ≡ 0) ⊎ (status ≡ 7)
IsDoneBy (Where firmware policy tape steps) status = status ≡ 0
IsDoneBy (Listing firmware board policy) status = status ≡ 0
IsDoneBy (Stack firmware board policy) status = (status ≡ 0) ⊎ (status ≡ 8)
IsDoneBy (Audit image) status = (status ≡ 0) ⊎ (status ≡ 8)
IsDoneBy (Tables image) status = (status ≡ 0) ⊎ (status ≡ 8)
IsDoneBy (Who firmware board policy) status = status ≡ 0
IsDoneBy (Symbols firmware board policy) status = status ≡ 0
IsDoneBy Help status = status ≡ 0
IsDoneBy (Selftest seed size) status = (status ≡ 0) ⊎ (status ≡ 7)
IsDoneBy (Watch image tape steps address) status = (status ≡ 0) ⊎ (status ≡ 7)
IsDoneBy (State image tape steps) status = status ≡ 0
IsDoneBy (Why firmware) status = status ≡ 0
IsDoneBy (Explain firmware) status = status ≡ 0
IsDoneBy (ExplainPlan firmware board policy) status = status ≡ 0

-- a good request has no outcome but one that says that all was done
abbrev pub GoodRequestsAreDone : Type 0
GoodRequestsAreDone = (held : Held) (r : Request) (o : Outcome) → IsGood (HoldsWithin held) r → Answer r (HoldsWithin held) (Exceeds held) o → IsDoneBy r o.status
