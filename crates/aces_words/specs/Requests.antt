-- What the words behind the program's name ask for.
use Rattle.std.specs.Prelude.{◌≡◌, ℕ, ◌^◌, ◌<◌, ◌≤◌, List, [], ◌∷◌, Option, Some, None, codes}
use Rattle.std.specs.Fmt.{decimal}
use Rattle.base_numerals.specs.Numerals.{magnitude, positive}
use Rattle.base_numerals.specs.declared.Numeral.{Numeral}
use Rattle.base_numerals.specs.declared.Numeral.TheVariants.{Malformed, TooWide, Value}
use Rattle.ir_model.specs.TextLimits.{text_limit}
use Rattle.plan_model.specs.declared.policy.Policy.{Policy}
use Rattle.plan_model.specs.PolicyWords.{policy_word}

pub data Request : Type 0 where
  -- run an image on a tape for at most so many machine steps
  Run : (image tape : List ℕ) → (steps : ℕ) → Request
  -- write the flash bytes of an image to a file
  Bin : (image file : List ℕ) → Request
  -- run an image on a tape for at most so many machine steps, up to the first access of an address, which is kept as it is written
  Watch : (image tape : List ℕ) → (steps : ℕ) → (address : List ℕ) → Request
  -- tell what the machine holds after at most so many steps of an image on a tape
  State : (image tape : List ℕ) → (steps : ℕ) → Request
  -- check an image from anyone
  Audit : (image : List ℕ) → Request
  -- tell what the tables of an image say, where it passes that check
  Tables : (image : List ℕ) → Request
  -- read and check a firmware
  Check : (firmware : List ℕ) → Request
  -- tell what each access and call of a firmware may reach
  Why : (firmware : List ℕ) → Request
  -- run the source of a firmware on a tape for at most so many steps, in the compartments of a policy
  Source : (firmware : List ℕ) → Policy → (tape : List ℕ) → (steps : ℕ) → Request
  -- tell where the source of a firmware stands after at most so many steps on a tape, in the compartments of a policy
  Where : (firmware : List ℕ) → Policy → (tape : List ℕ) → (steps : ℕ) → Request
  -- write the image of a firmware for a board, in the compartments of a policy
  Compile : (firmware board : List ℕ) → Policy → (image : List ℕ) → Request
  -- list the compartments of a firmware on a board, by a policy
  Listing : (firmware board : List ℕ) → Policy → Request
  -- bound what the calls of a firmware take of a board's stack, in the compartments of a policy
  Stack : (firmware board : List ℕ) → Policy → Request
  -- tell by which compartments each object of a firmware may be reached on a board, by a policy, and which need it
  Who : (firmware board : List ℕ) → Policy → Request
  -- tell what lies where in the image of a firmware on a board, in the compartments of a policy
  Symbols : (firmware board : List ℕ) → Policy → Request
  -- tell why a firmware is refused and what to do, or that it is not
  Explain : (firmware : List ℕ) → Request
  -- tell why a firmware has no plan for a board by a policy and what to do, or that it has one
  ExplainPlan : (firmware board : List ℕ) → Policy → Request
  -- tell the commands with their words, and the statuses
  Help : Request
  -- compile the firmware that is made of a seed and a size, and compare a run of its image with one of its source
  Selftest : (seed size : ℕ) → Request

-- the words of a request; a number is written by its decimal digits, without a leading zero
abbrev pub words_of : Request → List (List ℕ)
words_of (Run image tape steps) = codes "run" ∷ image ∷ tape ∷ decimal steps ∷ []
words_of (Bin image file) = codes "bin" ∷ image ∷ file ∷ []
words_of (Watch image tape steps address) = codes "watch" ∷ image ∷ tape ∷ decimal steps ∷ address ∷ []
words_of (State image tape steps) = codes "state" ∷ image ∷ tape ∷ decimal steps ∷ []
words_of (Audit image) = codes "audit" ∷ image ∷ []
words_of (Tables image) = codes "tables" ∷ image ∷ []
words_of (Check firmware) = codes "check" ∷ firmware ∷ []
words_of (Why firmware) = codes "why" ∷ firmware ∷ []
words_of (Source firmware policy tape steps) = codes "source" ∷ firmware ∷ policy_word policy ∷ tape ∷ decimal steps ∷ []
words_of (Where firmware policy tape steps) = codes "where" ∷ firmware ∷ policy_word policy ∷ tape ∷ decimal steps ∷ []
words_of (Compile firmware board policy image) = codes "compile" ∷ firmware ∷ board ∷ policy_word policy ∷ image ∷ []
words_of (Listing firmware board policy) = codes "list" ∷ firmware ∷ board ∷ policy_word policy ∷ []
words_of (Stack firmware board policy) = codes "stack" ∷ firmware ∷ board ∷ policy_word policy ∷ []
words_of (Who firmware board policy) = codes "who" ∷ firmware ∷ board ∷ policy_word policy ∷ []
words_of (Symbols firmware board policy) = codes "symbols" ∷ firmware ∷ board ∷ policy_word policy ∷ []
words_of (Explain firmware) = codes "explain" ∷ firmware ∷ []
words_of (ExplainPlan firmware board policy) = codes "explain" ∷ firmware ∷ board ∷ policy_word policy ∷ []
words_of Help = codes "help" ∷ []
words_of (Selftest seed size) = codes "selftest" ∷ decimal seed ∷ decimal size ∷ []

-- the address that a word writes: a number as firmware texts have it, without a sign, of at most 32 bits
abbrev pub value_of : Numeral → Option ℕ
value_of Malformed = None
value_of TooWide = None
value_of (Value n) = Some n

abbrev pub address_of : List ℕ → Option ℕ
address_of word = value_of (positive (magnitude word))

abbrev pub IsAddress : List ℕ → Type 0
IsAddress word = (n : ℕ) × (address_of word ≡ Some n)

-- its numbers have at most 32 bits, and a size is from 1 to 200
abbrev pub IsWithin : Request → Type 0
IsWithin (Run image tape steps) = steps < 2 ^ 32
IsWithin (Bin image file) = Unit {0}
IsWithin (Watch image tape steps address) = (steps < 2 ^ 32) × IsAddress address
IsWithin (State image tape steps) = steps < 2 ^ 32
IsWithin (Audit image) = Unit {0}
IsWithin (Tables image) = Unit {0}
IsWithin (Check firmware) = Unit {0}
IsWithin (Why firmware) = Unit {0}
IsWithin (Source firmware policy tape steps) = steps < 2 ^ 32
IsWithin (Where firmware policy tape steps) = steps < 2 ^ 32
IsWithin (Compile firmware board policy image) = Unit {0}
IsWithin (Listing firmware board policy) = Unit {0}
IsWithin (Stack firmware board policy) = Unit {0}
IsWithin (Who firmware board policy) = Unit {0}
IsWithin (Symbols firmware board policy) = Unit {0}
IsWithin (Explain firmware) = Unit {0}
IsWithin (ExplainPlan firmware board policy) = Unit {0}
IsWithin Help = Unit {0}
IsWithin (Selftest seed size) = (seed < 2 ^ 32) × (1 ≤ size) × (size ≤ 200)

-- these words are those of the request
pub record Asks (words : List (List ℕ)) (request : Request) : Type 0 where
  pub within : IsWithin request
  pub spelled : words_of request ≡ words

-- the words are those of no request
abbrev pub IsUsage : List (List ℕ) → Type 0
IsUsage words = (request : Request) → Asks words request → ⊥

-- how many bytes an image, a tape or a board may have
abbrev pub file_limit : ℕ
file_limit = 16777216

-- how many bytes a firmware may have
abbrev pub firmware_limit : ℕ
firmware_limit = text_limit

-- a file that is read, and how many bytes it may have
pub record Origin : Type 0 where
  pub name : List ℕ
  pub limit : ℕ

abbrev pub file_origin : List ℕ → Origin
file_origin name = record { name = name; limit = file_limit }

abbrev pub firmware_origin : List ℕ → Origin
firmware_origin name = record { name = name; limit = firmware_limit }

-- the files that a request reads, in order
abbrev pub origins : Request → List Origin
origins (Run image tape steps) = file_origin image ∷ file_origin tape ∷ []
origins (Bin image file) = file_origin image ∷ []
origins (Watch image tape steps address) = file_origin image ∷ file_origin tape ∷ []
origins (State image tape steps) = file_origin image ∷ file_origin tape ∷ []
origins (Audit image) = file_origin image ∷ []
origins (Tables image) = file_origin image ∷ []
origins (Check firmware) = firmware_origin firmware ∷ []
origins (Why firmware) = firmware_origin firmware ∷ []
origins (Source firmware policy tape steps) = firmware_origin firmware ∷ file_origin tape ∷ []
origins (Where firmware policy tape steps) = firmware_origin firmware ∷ file_origin tape ∷ []
origins (Compile firmware board policy image) = firmware_origin firmware ∷ file_origin board ∷ []
origins (Listing firmware board policy) = firmware_origin firmware ∷ file_origin board ∷ []
origins (Stack firmware board policy) = firmware_origin firmware ∷ file_origin board ∷ []
origins (Who firmware board policy) = firmware_origin firmware ∷ file_origin board ∷ []
origins (Symbols firmware board policy) = firmware_origin firmware ∷ file_origin board ∷ []
origins (Explain firmware) = firmware_origin firmware ∷ []
origins (ExplainPlan firmware board policy) = firmware_origin firmware ∷ file_origin board ∷ []
origins Help = []
origins (Selftest seed size) = []

-- the file that it writes
abbrev pub target : Request → Option (List ℕ)
target (Run image tape steps) = None
target (Bin image file) = Some file
target (Watch image tape steps address) = None
target (State image tape steps) = None
target (Audit image) = None
target (Tables image) = None
target (Check firmware) = None
target (Why firmware) = None
target (Source firmware policy tape steps) = None
target (Where firmware policy tape steps) = None
target (Compile firmware board policy image) = Some image
target (Listing firmware board policy) = None
target (Stack firmware board policy) = None
target (Who firmware board policy) = None
target (Symbols firmware board policy) = None
target (Explain firmware) = None
target (ExplainPlan firmware board policy) = None
target Help = None
target (Selftest seed size) = None
