-- Every array of a firmware within the limits has an element.
use Rattle.std.proofs.Common.{◌≡◌, ℕ, zero, suc, ◌+◌, ◌<◌, List, [], ◌∷◌, ◌++◌, Option, None, arith}
use Rattle.ir_model.specs.declared.token.Keyword.TheVariants.{Struct}
use Rattle.ir_model.specs.declared.token.Mark.TheVariants.{OpenBrace, CloseBrace, Comma}
use Rattle.ir_model.specs.declared.token.TextLimit.{TextLimit}
use Rattle.ir_model.specs.declared.token.TextLimit.TheVariants as limit
use Rattle.ir_model.specs.Types.{PlainType, U8, U16, U32, Pointer, Array, Named, Callee}
use Rattle.ir_model.specs.Plain.{PlainBinding, PlainStruct, PlainFirmware}
use Rattle.ir_model.specs.declared.token.Excess.{Excess}
use Rattle.ir_model.specs.Tokens.{Key, Sign}
use Rattle.ir_model.specs.Lines.{Line, marked, plain, name, counted, length_excess, type_tokens, binding_tokens, more_bindings, bindings_tokens, struct_lines, periph_lines, global_lines, file_lines, lines_of}
use Rattle.ir_model.specs.Canonical.{PassesNothing, IsWithinLimits}
use Rattle.base_laws.specs.Lists.{Each}
use Rattle.ir_model.specs.Extents.{HasElements, EachHasElements, AllHaveElements}
use Rattle.base_laws.proofs.Lists.{each_left, each_right}

length_passes : (n : ℕ) → length_excess n ≡ None → 0 < n
length_passes zero h = cc
length_passes (suc n) h = omega arith

pub type_elements : (x : Option Excess) (d : ℕ) (t : PlainType) → Each PassesNothing (type_tokens x d t) → HasElements t
type_elements x d U8 h = tt
type_elements x d U16 h = tt
type_elements x d U32 h = tt
type_elements x d (Pointer t) h = tt
type_elements x d (Array n t) h = (length_passes n h.1.0, type_elements None (d + 1) t h.1.1.1)
type_elements x d (Named n) h = tt
type_elements x d (Callee a r) h = tt

more_elements : (l : TextLimit) (k most : ℕ) (ss : List PlainBinding) → Each PassesNothing (more_bindings l k most ss) → EachHasElements ss
more_elements l k most [] h = tt
more_elements l k most (s ∷ ss) h =
    let binding : Line = plain (Sign Comma) ∷ binding_tokens (counted k most l None) s in
    let first = each_left PassesNothing binding (more_bindings l (k + 1) most ss) h in
    (type_elements None 0 s.ty first.1.1.1, more_elements l (k + 1) most ss (each_right PassesNothing binding (more_bindings l (k + 1) most ss) h))

bindings_elements : (l : TextLimit) (most : ℕ) (ss : List PlainBinding) → Each PassesNothing (bindings_tokens l most ss) → EachHasElements ss
bindings_elements l most [] h = tt
bindings_elements l most (s ∷ ss) h =
    let first = each_left PassesNothing (binding_tokens None s) (more_bindings l 1 most ss) h in
    (type_elements None 0 s.ty first.1.1, more_elements l 1 most ss (each_right PassesNothing (binding_tokens None s) (more_bindings l 1 most ss) h))

structs_elements : (k : ℕ) (ss : List PlainStruct) → Each (Each PassesNothing) (struct_lines k ss) → AllHaveElements ss
structs_elements k [] h = tt
structs_elements k (s ∷ ss) h =
    let front : Line = marked (Key Struct) (counted k 256 limit.Struct None) ∷ name s.name ∷ plain (Sign OpenBrace) ∷ bindings_tokens limit.Field 64 s.fields in
    let line = each_left PassesNothing front (plain (Sign CloseBrace) ∷ []) h.0 in
    (bindings_elements limit.Field 64 s.fields line.1.1.1, structs_elements (k + 1) ss h.1)

pub firmware_elements : (w : PlainFirmware) → IsWithinLimits w → AllHaveElements w.structs
unfolding lines_of
firmware_elements w h =
    structs_elements 0 w.structs
    (each_left (Each PassesNothing) (struct_lines 0 w.structs) (periph_lines 0 w.periphs)
    (each_left (Each PassesNothing) (struct_lines 0 w.structs ++ periph_lines 0 w.periphs) (global_lines 0 w.globals)
    (each_left (Each PassesNothing) (struct_lines 0 w.structs ++ periph_lines 0 w.periphs ++ global_lines 0 w.globals) (file_lines 0 0 w.files) h.tokens)))
