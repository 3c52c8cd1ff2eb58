-- Beyond the program's claim: only laws, proofs and functions inside the tool cite this file.
-- Commands as the code names them.
use Rattle.std.specs.Prelude.{ℕ, List}
use Rattle.plan_model.specs.declared.policy.Policy.{Policy}
use Rattle.aces_words.specs.declared.command.Command.{Command}
use Rattle.aces_words.specs.declared.command.Command.TheVariants as commands
use Rattle.aces_words.specs.declared.firmwares.FirmwareCommand.{FirmwareCommand}
use Rattle.aces_words.specs.declared.firmwares.FirmwareCommand.TheVariants as firmwares
use Rattle.aces_words.specs.declared.images.ImageCommand.{ImageCommand}
use Rattle.aces_words.specs.declared.images.ImageCommand.TheVariants as images
use Rattle.aces_words.specs.declared.plans.PlanCommand.{PlanCommand}
use Rattle.aces_words.specs.declared.plans.PlanCommand.TheVariants as plans
use Rattle.aces_words.specs.Requests.{Request, Run, Bin, Watch, State, Audit, Tables, Check, Why, Source, Where, Compile, Listing, Stack, Who, Symbols, Explain, ExplainPlan, Help, Selftest, Asks}

abbrev pub image_request : ImageCommand → Request
image_request (images.Run image tape steps) = Run image.now tape.now steps
image_request (images.Bin image file) = Bin image.now file.now
image_request (images.Watch image tape steps address) = Watch image.now tape.now steps address.now
image_request (images.State image tape steps) = State image.now tape.now steps
image_request (images.Audit image) = Audit image.now
image_request (images.Tables image) = Tables image.now

abbrev pub firmware_request : FirmwareCommand → Request
firmware_request (firmwares.Check firmware) = Check firmware.now
firmware_request (firmwares.Why firmware) = Why firmware.now
firmware_request (firmwares.Source firmware policy tape steps) = Source firmware.now policy tape.now steps
firmware_request (firmwares.Where firmware policy tape steps) = Where firmware.now policy tape.now steps
firmware_request (firmwares.Explain firmware) = Explain firmware.now

abbrev pub plan_request : PlanCommand → Request
plan_request (plans.Compile firmware board policy image) = Compile firmware.now board.now policy image.now
plan_request (plans.List firmware board policy) = Listing firmware.now board.now policy
plan_request (plans.Stack firmware board policy) = Stack firmware.now board.now policy
plan_request (plans.Who firmware board policy) = Who firmware.now board.now policy
plan_request (plans.Symbols firmware board policy) = Symbols firmware.now board.now policy
plan_request (plans.Explain firmware board policy) = ExplainPlan firmware.now board.now policy

abbrev pub request_of : Command → Request
request_of (commands.Image c) = image_request c
request_of (commands.Firmware c) = firmware_request c
request_of (commands.Plan c) = plan_request c
request_of commands.Help = Help
request_of (commands.Selftest seed size) = Selftest seed size

-- the words are those of no request that takes an image
pub record AsksOfNoImage (words : List (List ℕ)) : Type 0 where
  pub no_run : (image tape : List ℕ) (steps : ℕ) → Asks words (Run image tape steps) → ⊥
  pub no_bin : (image file : List ℕ) → Asks words (Bin image file) → ⊥
  pub no_watch : (image tape : List ℕ) (steps : ℕ) (address : List ℕ) → Asks words (Watch image tape steps address) → ⊥
  pub no_state : (image tape : List ℕ) (steps : ℕ) → Asks words (State image tape steps) → ⊥
  pub no_audit : (image : List ℕ) → Asks words (Audit image) → ⊥
  pub no_tables : (image : List ℕ) → Asks words (Tables image) → ⊥

-- the words are those of no request that takes a firmware and no board
pub record AsksOfNoFirmware (words : List (List ℕ)) : Type 0 where
  pub no_check : (firmware : List ℕ) → Asks words (Check firmware) → ⊥
  pub no_why : (firmware : List ℕ) → Asks words (Why firmware) → ⊥
  pub no_source : (firmware : List ℕ) (policy : Policy) (tape : List ℕ) (steps : ℕ) → Asks words (Source firmware policy tape steps) → ⊥
  pub no_where : (firmware : List ℕ) (policy : Policy) (tape : List ℕ) (steps : ℕ) → Asks words (Where firmware policy tape steps) → ⊥
  pub no_explain : (firmware : List ℕ) → Asks words (Explain firmware) → ⊥

-- the words are those of no request that takes a firmware and a board
pub record AsksOfNoPlan (words : List (List ℕ)) : Type 0 where
  pub no_compile : (firmware board : List ℕ) (policy : Policy) (image : List ℕ) → Asks words (Compile firmware board policy image) → ⊥
  pub no_list : (firmware board : List ℕ) (policy : Policy) → Asks words (Listing firmware board policy) → ⊥
  pub no_stack : (firmware board : List ℕ) (policy : Policy) → Asks words (Stack firmware board policy) → ⊥
  pub no_who : (firmware board : List ℕ) (policy : Policy) → Asks words (Who firmware board policy) → ⊥
  pub no_symbols : (firmware board : List ℕ) (policy : Policy) → Asks words (Symbols firmware board policy) → ⊥
  pub no_explain : (firmware board : List ℕ) (policy : Policy) → Asks words (ExplainPlan firmware board policy) → ⊥
