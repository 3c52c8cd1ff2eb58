-- The types between brackets, as the code holds them and as texts.
use Rattle.std.proofs.Common.{◌≡◌, ◌≤◌, ℕ, length, take, ◌++◌, List, map, ap, append_assoc}
use Rattle.std.proofs.lemmas.List.{take_all}
use Rattle.ir_model.specs.declared.types.Ty as code
use Rattle.ir_model.specs.declared.types.Ty.{Ty}
use Rattle.ir_model.specs.declared.types.Signature.{Signature}
use Rattle.ir_model.specs.declared.token.Keyword.TheVariants as key
use Rattle.ir_model.specs.declared.token.Mark.TheVariants.{Open, Close}
use Rattle.ir_model.specs.Types.{type_of, types_from, boxed_result_of}
use Rattle.ir_model.specs.Tokens.{Key, Sign}
use Rattle.ir_grammar.specs.Spelling.{separated, spell_type, spell_row, spell_gives}
use Rattle.ir_grammar.proofs.Separated.{spell_types}
use Rattle.ir_printer.specs.Pieces.{next, as_bytes}
use Rattle.ir_model.proofs.SameTypes.{callee_is}

pub callee_text : (s : Signature) → spell_type as_bytes (type_of (code.Callee s))
    ≡ next (Key key.Fn) ++ (next (Sign Open) ++ (spell_row as_bytes (types_from (map type_of s.params)) ++ spell_gives as_bytes (boxed_result_of s.«result»)))
callee_text s = ap (spell_type as_bytes) (callee_is s)

pub row_end : (ts : List Ty) (i : ℕ) (start before after : List ℕ) → length ts ≤ i → before ≡ start ++ separated as_bytes (spell_type as_bytes) (map type_of (take i ts)) → after ≡ before ++ next (Sign Close)
    → after ≡ start ++ spell_row as_bytes (types_from (map type_of ts))
row_end ts i start before after l b a =
    rw (a, b, take_all i ts l, spell_types as_bytes (map type_of ts)) (append_assoc start (separated as_bytes (spell_type as_bytes) (map type_of ts)) (next (Sign Close)))
