-- Where a key stands in the bytes of a board's text: the first line that looks like the key's. The text need not be a document for it.
use Rattle.std.specs.Prelude.{ℕ, ◌+◌, List, [], ◌∷◌, length, take, drop, get_or, reverse, find, position, Option, Some, None, option_map, Bool, false, ◌&&◌, ◌||◌, if◌then◌else◌, nat_eq, bytes_eq}
use Rattle.std.specs.List.{prefix_len}
use Rattle.machine_devices.specs.Tape.{before_first}
use Rattle.plan_model.specs.Lists.{numbers_below}

-- ---- lines

-- the lines of a text without their line feeds; what follows the last one is a line too
unfoldable pub lines_of : List ℕ → List (List ℕ)
lines_of [] = [] ∷ []
lines_of (b ∷ bs) = if nat_eq b 10 then [] ∷ lines_of bs else before_first b (lines_of bs)

-- a space or a tab
abbrev pub is_blank : ℕ → Bool
is_blank b = nat_eq b 32 || nat_eq b 9

-- what stands behind the blanks in front
abbrev pub unindented : List ℕ → List ℕ
unindented line = drop (prefix_len is_blank line) line

-- the first byte is this one
abbrev pub begins_with : ℕ → List ℕ → Bool
begins_with b [] = false
begins_with b (c ∷ cs) = nat_eq c b

-- blanks aside, a line begins with a word and this byte
abbrev pub begins_with_word : (word : List ℕ) → ℕ → (line : List ℕ) → Bool
begins_with_word w b line =
    bytes_eq (take (length w) (unindented line)) w && begins_with b (unindented (drop (length w) (unindented line)))

-- ---- headers

-- blanks aside, a line begins with `[`
abbrev pub is_header : (line : List ℕ) → Bool
is_header line = begins_with 91 (unindented line)

-- blanks aside, a line begins with `[`, this path and `]`
abbrev pub is_header_of : (path line : List ℕ) → Bool
is_header_of p line = is_header line && begins_with_word p 93 (drop 1 (unindented line))

-- the header below which the line of a number stands: the nearest before it
abbrev pub header_over : List (List ℕ) → (number : ℕ) → Option (List ℕ)
header_over lines k = find is_header (reverse (take k lines))

-- ---- keys

-- the table and the word of a path: what stands before and behind its first point
abbrev pub parts_of : (path : List ℕ) → Option (List ℕ × List ℕ)
parts_of p = option_map (λ k. (take k p, drop (k + 1) p)) (position (λ b. nat_eq b 46) p)

-- a line below this header begins with the word and `=`, and the header is the table's
abbrev pub is_word_line : Option (List ℕ × List ℕ) → (header line : List ℕ) → Bool
is_word_line None header line = false
is_word_line (Some x) header line = is_header_of x.0 header && begins_with_word x.1 61 line

-- outside of tables it is the whole path that stands before `=`
abbrev pub is_value_line : (path : List ℕ) → (header : Option (List ℕ)) → (line : List ℕ) → Bool
is_value_line p None line = begins_with_word p 61 line
is_value_line p (Some header) line = is_word_line (parts_of p) header line

-- a table's line is its header
abbrev pub is_key_line : (path : List ℕ) → (header : Option (List ℕ)) → (line : List ℕ) → Bool
is_key_line p header line = is_header_of p line || is_value_line p header line

-- the number of the first line of a path, from 0
unfoldable pub key_line : (path : List ℕ) → List (List ℕ) → Option ℕ
key_line p lines = find (λ k. is_key_line p (header_over lines k) (get_or lines k [])) (numbers_below (length lines))
