-- Rows that were worked out by hand: where keys stand, and what is told of faults.
use Rattle.std.proofs.Common.{◌≡◌, ℕ, List, [], ◌∷◌, ◌++◌, refl, codes, decimal, Some, None}
use Rattle.plan_board.specs.declared.key.Key.TheVariants.{FlashBase, RamStack, RamSize}
use Rattle.plan_board.specs.declared.fault.BoardFault.TheVariants.{NotToml, Missing, Kind, Range}
use Rattle.aces_explain.specs.KeyLines.{lines_of, key_line}
use Rattle.aces_explain.specs.BoardTold.{board_told}

-- a line with its end
abbrev row : List ℕ → List ℕ
row text = text ++ 10 ∷ []

-- the same words stand in two tables
abbrev board : List ℕ
board =
    row (codes "[ flash ]") ++ row (codes "base = 0x08000020") ++ row (codes "size = 262144") ++ row (codes "  [ram] # of the main chip")
    ++ row (codes "size_of_all = 1") ++ row (codes "  size\t= 65535") ++ row (codes "stack = 1000")

flash_base : board_told (codes "b.toml") board (Range FlashBase)
    ≡ codes "b.toml:" ++ decimal 2 ++ codes ": " ++ codes "range flash.base" ++ 10 ∷ [] ++ row (codes "base = 0x08000020") ++ row (codes "rule a multiple of 0x100000 from 0 to 0x1FE00000")
unfolding board_told lines_of key_line
flash_base = refl

ram_size : board_told (codes "b.toml") board (Range RamSize)
    ≡ codes "b.toml:" ++ decimal 6 ++ codes ": " ++ codes "range ram.size" ++ 10 ∷ [] ++ row (codes "  size\t= 65535") ++ row (codes "rule a multiple of 32 from 1024 to 1048576")
unfolding board_told lines_of key_line
ram_size = refl

ram_stack : board_told (codes "b.toml") board (Kind RamStack)
    ≡ codes "b.toml:" ++ decimal 7 ++ codes ": " ++ codes "kind ram.stack" ++ 10 ∷ [] ++ row (codes "stack = 1000") ++ row (codes "rule an integer: a power of two from 512 to 65536")
unfolding board_told lines_of key_line
ram_stack = refl

-- what is not there has no line; the words are those of `list`
missing_stack : board_told (codes "b.toml") board (Missing RamStack)
    ≡ row (codes "b.toml: missing ram.stack") ++ row (codes "rule has to be there, an integer: a power of two from 512 to 65536")
unfolding board_told lines_of key_line
missing_stack = refl

no_toml : board_told (codes "b.toml") board NotToml ≡ row (codes "b.toml: not TOML") ++ row (codes "rule a TOML document in UTF-8, in which no key stands twice")
unfolding board_told lines_of key_line
no_toml = refl

-- a table, a key in quotation marks, and a key of the document
further_table : key_line (codes "zone") (lines_of (row (codes "[ram]") ++ row (codes "zone = 1") ++ codes "[zone]")) ≡ Some 2
unfolding lines_of key_line
further_table = refl

quoted : key_line (codes "deny.1a") (lines_of (row (codes "[deny]") ++ codes "\"1a\" = [1, 2]")) ≡ None
unfolding lines_of key_line
quoted = refl

outside : key_line (codes "ram.stack") (lines_of (row (codes "# a board") ++ row (codes "ram.stack = 5") ++ codes "[flash]")) ≡ Some 1
unfolding lines_of key_line
outside = refl
