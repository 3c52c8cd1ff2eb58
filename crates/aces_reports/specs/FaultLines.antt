-- The one line that tells why a call was refused.
use Rattle.std.specs.Prelude.{ℕ, List, [], ◌∷◌, ◌++◌, Option, Some, None, codes}
use Rattle.std.specs.Fmt.{decimal}
use Rattle.ir_model.specs.declared.token.Pos.{Pos}
use Rattle.ir_model.specs.declared.token.TextLimit.{TextLimit}
use Rattle.ir_model.specs.declared.token.TextLimit.TheVariants as limit
use Rattle.ir_model.specs.declared.check.CheckKind.{CheckKind}
use Rattle.ir_model.specs.declared.check.CheckKind.TheVariants as kind
use Rattle.ir_model.specs.declared.check.CheckPlace.{CheckPlace}
use Rattle.ir_model.specs.declared.check.CheckPlace.TheVariants as place
use Rattle.machine_image.specs.declared.fault.ImageFault.{ImageFault}
use Rattle.machine_image.specs.declared.fault.ImageFault.TheVariants as image
use Rattle.machine_devices.specs.declared.tape.TapeFault.{TapeFault}
use Rattle.machine_devices.specs.declared.tape.TapeFault.TheVariants as tape
use Rattle.ir_reader.specs.declared.fault.TextFault.{TextFault}
use Rattle.ir_reader.specs.declared.fault.TextFault.TheVariants as text
use Rattle.ir_check_scopes.specs.declared.fault.CheckFault.{CheckFault}
use Rattle.ir_check_scopes.specs.declared.fault.CheckFault.TheVariants as check
use Rattle.plan_board.specs.declared.fault.BoardFault.{BoardFault}
use Rattle.plan_board.specs.declared.fault.BoardFault.TheVariants as board
use Rattle.aces_reports.specs.declared.failure.Fault.{Fault}
use Rattle.aces_reports.specs.declared.failure.Fault.TheVariants.{TooLarge, Image, Tape, Text, Check, Board}
use Rattle.plan_layout.specs.declared.refusal.Lack.{Lack}
use Rattle.plan_layout.specs.declared.refusal.Memory.{Memory}
use Rattle.plan_layout.specs.declared.refusal.Memory.TheVariants as memory
use Rattle.plan_board.specs.Keys.{path_of}
use Rattle.plan_model.specs.declared.limits.LimitKind.{LimitKind}
use Rattle.plan_model.specs.declared.limits.LimitKind.TheVariants as compiled

-- what closes a line
abbrev pub line_feed : List ℕ
line_feed = 10 ∷ []

-- a file's name, and a text behind it
abbrev pub about : (name text : List ℕ) → List ℕ
about name text = codes "aces: " ++ name ++ text

-- a file's name, and a number between two texts behind it
abbrev pub counted : (name before : List ℕ) → (number : ℕ) → (after : List ℕ) → List ℕ
counted name before n after = codes "aces: " ++ name ++ before ++ decimal n ++ after

-- a file's name, a line and a column of it, and a text behind them
abbrev pub placed : (name : List ℕ) → Pos → (text : List ℕ) → List ℕ
placed name pos text = codes "aces: " ++ name ++ codes ":" ++ decimal pos.line ++ codes ":" ++ decimal pos.col ++ text

-- a file's name, and a key of it behind a text
abbrev pub keyed : (name text key : List ℕ) → List ℕ
keyed name text key = codes "aces: " ++ name ++ text ++ key ++ line_feed

-- what passes a limit of texts
abbrev pub limit_word : TextLimit → List ℕ
limit_word limit.Name = codes "name"
limit_word limit.Struct = codes "struct"
limit_word limit.Field = codes "field"
limit_word limit.Depth = codes "depth"
limit_word limit.Array = codes "array"
limit_word limit.Cell = codes "cell"
limit_word limit.Periph = codes "periph"
limit_word limit.Global = codes "global"
limit_word limit.File = codes "file"
limit_word limit.Function = codes "function"
limit_word limit.Param = codes "param"
limit_word limit.Register = codes "register"
limit_word limit.Local = codes "local"
limit_word limit.Block = codes "block"
limit_word limit.Instruction = codes "instruction"

-- which check fails
abbrev pub kind_text : CheckKind → List ℕ
kind_text (kind.Unknown name) = codes "unknown " ++ name
kind_text (kind.Twice name) = codes "twice " ++ name
kind_text kind.IllTyped = codes "type"
kind_text kind.NoMain = codes "no main"
kind_text kind.BadWindow = codes "bad window"
kind_text kind.WindowOverlap = codes "windows overlap"
kind_text kind.BadInit = codes "bad init"
kind_text kind.ObjectTooLarge = codes "object too large"
kind_text (kind.FrameTooLarge bytes) = codes "frame of " ++ decimal bytes ++ codes " bytes"

-- where it fails
abbrev pub place_text : CheckPlace → List ℕ
place_text (place.Struct name) = codes "struct " ++ name
place_text (place.Periph name) = codes "peripheral " ++ name
place_text (place.Global name) = codes "global " ++ name
place_text (place.File name) = codes "file " ++ name
place_text (place.Func name) = codes "function " ++ name
place_text (place.Inst func block inst) = func ++ codes " block " ++ block ++ codes " instruction " ++ decimal inst
place_text place.Whole = codes "firmware"

-- memory ran out, of whatever was read or made
abbrev pub memory_line : List ℕ
memory_line = codes "aces: out of memory" ++ line_feed

-- the lines on what is wrong with a file, by what it is to hold

abbrev pub image_line : (name : List ℕ) → ImageFault → List ℕ
image_line name image.NoMemory = memory_line
image_line name (image.Short at) = counted name (codes ": short at ") at line_feed
image_line name image.Magic = about name (codes ": bad magic" ++ line_feed)
image_line name (image.Version found) = counted name (codes ": version ") found line_feed
image_line name (image.Field at) = counted name (codes ": bad field at ") at line_feed
image_line name (image.Trailing at) = counted name (codes ": trailing at ") at line_feed

abbrev pub tape_line : (name : List ℕ) → TapeFault → List ℕ
tape_line name tape.NoMemory = memory_line
tape_line name (tape.BadLine line) = counted name (codes ":") line (codes ": bad line" ++ line_feed)
tape_line name (tape.UnknownPeripheral line) = counted name (codes ":") line (codes ": unknown peripheral" ++ line_feed)

abbrev pub text_line : (name : List ℕ) → TextFault → List ℕ
text_line name text.NoMemory = memory_line
text_line name (text.Utf8 at) = counted name (codes ": byte ") at (codes ": not UTF-8" ++ line_feed)
text_line name (text.Syntax pos) = placed name pos (codes ": syntax" ++ line_feed)
text_line name (text.NumberTooWide pos) = placed name pos (codes ": number too wide" ++ line_feed)
text_line name (text.Limit which pos) = placed name pos (codes ": limit " ++ limit_word which ++ line_feed)

abbrev pub check_line : (name : List ℕ) → CheckFault → List ℕ
check_line name check.NoMemory = memory_line
check_line name (check.At kind place) = about name (codes ": " ++ kind_text kind ++ codes " in " ++ place_text place ++ line_feed)

abbrev pub board_line : (name : List ℕ) → BoardFault → List ℕ
board_line name board.NoMemory = memory_line
board_line name board.NotToml = about name (codes ": not TOML" ++ line_feed)
board_line name (board.Missing key) = keyed name (codes ": missing ") (path_of key)
board_line name (board.Kind key) = keyed name (codes ": kind ") (path_of key)
board_line name (board.Range key) = keyed name (codes ": range ") (path_of key)
board_line name (board.DeniedKind path) = keyed name (codes ": kind ") path
board_line name (board.DeniedRange path) = keyed name (codes ": range ") path
board_line name (board.Extra path) = keyed name (codes ": extra ") path

abbrev pub fault_line : (name : List ℕ) → Fault → List ℕ
fault_line name (TooLarge limit) = counted name (codes ": larger than ") limit (codes " bytes" ++ line_feed)
fault_line name (Image f) = image_line name f
fault_line name (Tape f) = tape_line name f
fault_line name (Text f) = text_line name f
fault_line name (Check f) = check_line name f
fault_line name (Board f) = board_line name f

-- what a firmware has too much of to be compiled
abbrev pub compiled_word : LimitKind → List ℕ
compiled_word compiled.Compartments = codes "compartments"
compiled_word compiled.Lent = codes "lent"
compiled_word compiled.Sites = codes "sites"
compiled_word compiled.Targets = codes "targets"

-- how much there is of something, behind its word
abbrev pub count_text : (count : ℕ) → List ℕ
count_text count = codes " " ++ decimal count ++ line_feed

-- a limit of what is compiled is passed
abbrev pub limit_line : LimitKind → (count : ℕ) → List ℕ
limit_line which count = codes "aces: limit " ++ compiled_word which ++ count_text count

-- a range of addresses that a firmware asks for meets one that the board denies
abbrev pub denied_line : (text : List ℕ) → List ℕ
denied_line text = codes "aces: deny: " ++ text ++ line_feed

abbrev pub memory_word : Memory → List ℕ
memory_word memory.Flash = codes "flash"
memory_word memory.Ram = codes "ram"

-- a compartment, or `-` where there is none
abbrev pub compartment_word : Option ℕ → List ℕ
compartment_word None = codes "-"
compartment_word (Some c) = decimal c

-- how many bytes are needed, and how many there are
abbrev pub bytes_text : (needed available : ℕ) → List ℕ
bytes_text needed available = codes ": needs " ++ decimal needed ++ codes " of " ++ decimal available ++ codes " bytes" ++ line_feed

-- a memory has no room: the compartment that takes most of it, what is needed, and what there is
abbrev pub room_line : Lack → List ℕ
room_line lack =
    codes "aces: " ++ memory_word lack.memory ++ codes ": compartment " ++ compartment_word lack.compartment ++ bytes_text lack.needed lack.available

abbrev pub usage_line : List ℕ
usage_line = codes "aces: usage" ++ line_feed

abbrev pub unread_line : (name : List ℕ) → List ℕ
unread_line name = codes "aces: cannot read " ++ name ++ line_feed

abbrev pub unwritten_line : (name : List ℕ) → List ℕ
unwritten_line name = codes "aces: cannot write " ++ name ++ line_feed

abbrev pub unprinted_line : List ℕ
unprinted_line = codes "aces: cannot write output" ++ line_feed
