-- Beyond the program's claim: only laws, proofs and functions inside the tool cite this file.
-- The widths of an access.
use Rattle.std.specs.Prelude.{ℕ}
use Rattle.base_words.specs.declared.memory.Width.{Width}
use Rattle.base_words.specs.declared.memory.Width.TheVariants.{Byte, Half, Word}

-- how many bytes
abbrev pub byte_count : Width → ℕ
byte_count Byte = 1
byte_count Half = 2
byte_count Word = 4
