-- Which bytes are a word, and which words are names.
use Rattle.std.specs.Prelude.{ℕ, List, [], ◌∷◌, ◌++◌, length, Bool, false, not, ◌&&◌, ◌||◌, nat_eq, nat_lt, nat_le, map, IsTrue}
use Rattle.std.specs.List.{list_any, list_all}
use Rattle.std.specs.Str.{bytes_eq}
use Rattle.base_names.specs.declared.TheConstants.{NAME_LIMIT}
use Rattle.base_names.specs.declared.reserved.TheConstants.{DECLARATION_WORDS, INSTRUCTION_WORDS, TYPE_WORDS, OPERATION_WORDS, COMPARISON_WORDS}

abbrev pub is_between : ℕ → ℕ → ℕ → Bool
is_between low high b = not (nat_lt b low) && not (nat_lt high b)

-- a letter or `_`
abbrev pub begins_word : ℕ → Bool
begins_word b = is_between 65 90 b || (is_between 97 122 b || nat_eq b 95)

-- a letter, `_`, a digit or `.`
abbrev pub continues_word : ℕ → Bool
continues_word b = begins_word b || (is_between 48 57 b || nat_eq b 46)

-- each byte may stand behind the first of a word
abbrev pub all_continue : List ℕ → Bool
all_continue bs = list_all continues_word bs

-- a word of any length
abbrev pub is_word : List ℕ → Bool
is_word [] = false
is_word (b ∷ bs) = begins_word b && all_continue bs

-- the words that open a declaration
unfoldable pub declaration_words : List (List ℕ)
declaration_words = map (λ word. word.now) DECLARATION_WORDS

-- the words that open an instruction or stand in one
unfoldable pub instruction_words : List (List ℕ)
instruction_words = map (λ word. word.now) INSTRUCTION_WORDS

unfoldable pub type_words : List (List ℕ)
type_words = map (λ word. word.now) TYPE_WORDS

unfoldable pub operation_words : List (List ℕ)
operation_words = map (λ word. word.now) OPERATION_WORDS

unfoldable pub comparison_words : List (List ℕ)
comparison_words = map (λ word. word.now) COMPARISON_WORDS

-- the words that no name may be
unfoldable pub reserved : List (List ℕ)
reserved = declaration_words ++ (instruction_words ++ (type_words ++ (operation_words ++ comparison_words)))

abbrev pub is_one_of : List (List ℕ) → List ℕ → Bool
is_one_of texts word = list_any (bytes_eq word) texts

unfoldable pub is_reserved : List ℕ → Bool
is_reserved word = is_one_of reserved word

-- a word of at most 64 bytes that is not reserved
unfoldable pub is_name : List ℕ → Bool
is_name bytes = is_word bytes && (nat_le (length bytes) NAME_LIMIT && not (is_reserved bytes))

abbrev pub IsName : List ℕ → Type 0
IsName bytes = IsTrue (is_name bytes)
