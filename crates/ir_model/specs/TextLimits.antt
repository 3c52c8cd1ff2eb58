-- The limits of a firmware's text: how much of each there may be at most.
use Rattle.std.specs.Prelude.{ℕ}

-- bytes of the text
abbrev pub text_limit : ℕ
text_limit = 4194304

-- bytes of a word
abbrev pub word_limit : ℕ
word_limit = 64

abbrev pub struct_limit : ℕ
struct_limit = 256

-- fields of a struct
abbrev pub field_limit : ℕ
field_limit = 64

abbrev pub periph_limit : ℕ
periph_limit = 64

abbrev pub global_limit : ℕ
global_limit = 1024

-- cells of a global
abbrev pub cell_limit : ℕ
cell_limit = 65536

-- elements of an array
abbrev pub array_limit : ℕ
array_limit = 65536

-- types of which each stands in the one before
abbrev pub depth_limit : ℕ
depth_limit = 8

abbrev pub file_limit : ℕ
file_limit = 1024

-- functions of all files
abbrev pub function_limit : ℕ
function_limit = 1024

-- parameters of a function, and arguments of a call
abbrev pub parameter_limit : ℕ
parameter_limit = 4

-- registers of a function, together with its parameters
abbrev pub register_limit : ℕ
register_limit = 120

-- locals of a function
abbrev pub local_limit : ℕ
local_limit = 64

-- blocks of a function
abbrev pub block_limit : ℕ
block_limit = 1024

-- instructions of a function
abbrev pub instruction_limit : ℕ
instruction_limit = 16384
