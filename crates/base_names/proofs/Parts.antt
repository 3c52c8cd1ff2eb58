-- What each part of a test says of the whole.
use Rattle.std.proofs.Common.{◌≡◌, ℕ, ◌<◌, List, [], ◌∷◌, ◌&&◌, ◌||◌, length, get_or, drop, refl, arith}
use Rattle.std.specs.List.{list_any}
use Rattle.std.specs.Str.{bytes_eq}
use Rattle.std.proofs.lemmas.List.Folds.{list_any-append}
use Rattle.base_names.specs.declared.reserved.TheConstants.{DECLARATION_WORDS, INSTRUCTION_WORDS, TYPE_WORDS, OPERATION_WORDS, COMPARISON_WORDS}
use Rattle.base_names.specs.Names.{begins_word, all_continue, is_word, is_reserved, reserved, declaration_words, instruction_words, type_words, operation_words, comparison_words}

-- a word that is not empty, by its first byte and the rest
pub is_word_at : (bytes : List ℕ) → 0 < length bytes → is_word bytes ≡ (begins_word (get_or bytes 0 0) && all_continue (drop 1 bytes))
is_word_at [] p = absurd (omega arith)
is_word_at (b ∷ bs) p = refl

-- the reserved words go by their tables
pub is_reserved_tables : (w : List ℕ)
    → is_reserved w
    ≡ (list_any (λ text. bytes_eq w text.now) DECLARATION_WORDS
    || (list_any (λ text. bytes_eq w text.now) INSTRUCTION_WORDS
    || (list_any (λ text. bytes_eq w text.now) TYPE_WORDS
    || (list_any (λ text. bytes_eq w text.now) OPERATION_WORDS || list_any (λ text. bytes_eq w text.now) COMPARISON_WORDS))))
unfolding is_reserved reserved declaration_words instruction_words type_words operation_words comparison_words
is_reserved_tables w = simp list_any-append
