-- Which reserved word bytes are.
use Rattle.std.specs.Prelude.{ℕ, List, Option, Some, None, find}
use Rattle.std.specs.Str.{bytes_eq}
use Rattle.ir_grammar.specs.declared.vocabulary.TheConstants.{KEYWORDS, OPERATIONS, COMPARISONS}
use Rattle.ir_model.specs.declared.firmware.BinOp.{BinOp}
use Rattle.ir_model.specs.declared.firmware.CmpOp.{CmpOp}
use Rattle.ir_model.specs.declared.token.Keyword.{Keyword}
use Rattle.ir_model.specs.Tokens.{Token, Name, Key, Operation, Comparison, keyword_bytes, operation_bytes, comparison_bytes}

-- the first thing whose word this is
abbrev pub spelled_so : {A : Type 0} → (A → List ℕ) → List A → List ℕ → Option A
spelled_so spelling things w = find (λ x. bytes_eq w (spelling x)) things

abbrev pub keyword_of : List ℕ → Option Keyword
keyword_of w = spelled_so keyword_bytes KEYWORDS w

abbrev pub operation_of : List ℕ → Option BinOp
operation_of w = spelled_so operation_bytes OPERATIONS w

abbrev pub comparison_of : List ℕ → Option CmpOp
comparison_of w = spelled_so comparison_bytes COMPARISONS w

-- the token that a word is
abbrev pub word_token : List ℕ → Token
word_token w =
    elim (keyword_of w) [
      | Some k ↦ Key k
      | None ↦ elim (operation_of w) [ Some o ↦ Operation o | None ↦ elim (comparison_of w) [ Some c ↦ Comparison c | None ↦ Name w ] ]
    ]
