-- No global of a firmware has the alignment 0.
use Rattle.std.proofs.Common.{ℕ, zero, suc, ◌<◌, List, [], ◌∷◌, ◌++◌, map, get_or, bytes_eq, arith}
use Rattle.ir_model.specs.Types.{PlainType, U8, U16, U32, Pointer, Array, Named, Callee}
use Rattle.ir_model.specs.Plain.{PlainBinding, PlainStruct, PlainGlobal, PlainFirmware}
use Rattle.ir_model.specs.Layout.{Shape, Known, empty, shape_named, shape, with_field, laid_out, with_struct, known_behind, known}
use Rattle.ir_model.specs.Resolved.{no_global}
use Rattle.ir_model.specs.Resolve.{Scope, scope_of, resolved_global, resolve}
use Rattle.plan_layout_laws.specs.GlobalLaws.{HasAlignments}
use Rattle.ir_model.proofs.Alignments.{positive_first as one_of}

abbrev AllAligned : List Known → Type 0
AllAligned [] = Unit {0}
AllAligned (k ∷ ks) = (0 < k.shape.align) × AllAligned ks

named : (ks : List Known) (n : List ℕ) → AllAligned ks → 0 < (shape_named ks n).align
named [] n h = omega arith
named (k ∷ ks) n h = one_of (bytes_eq k.name n) k.shape (shape_named ks n) h.0 (named ks n h.1)

aligned : (ks : List Known) (t : PlainType) → AllAligned ks → 0 < (shape ks t).align
aligned ks U8 h = omega arith
aligned ks U16 h = omega arith
aligned ks U32 h = omega arith
aligned ks (Pointer t) h = omega arith
aligned ks (Array n t) h = aligned ks t h
aligned ks (Named n) h = named ks n h
aligned ks (Callee a r) h = omega arith

laid : (ks : List Known) (s : Shape) (fs : List PlainBinding) → 0 < s.align → 0 < (laid_out ks s fs).align
laid ks s [] h = h
laid ks s (f ∷ fs) h = laid ks (with_field ks s f.ty) fs (omega (arith, h))

one_more : (ks : List Known) (k : Known) → AllAligned ks → 0 < k.shape.align → AllAligned (ks ++ k ∷ [])
one_more [] k h g = (g, tt)
one_more (j ∷ ks) k h g = (h.0, one_more ks k h.1 g)

behind : (ks : List Known) (ss : List PlainStruct) → AllAligned ks → AllAligned (known_behind ks ss)
behind ks [] h = h
behind ks (s ∷ ss) h = behind (with_struct ks s) ss (one_more ks _ h (laid ks empty s.fields (omega arith)))

all_known : (ss : List PlainStruct) → AllAligned (known ss)
unfolding known
all_known ss = behind [] ss tt

global_aligned : (s : Scope) (gs : List PlainGlobal) (x : ℕ) → AllAligned s.known → 0 < (get_or (map (resolved_global s) gs) x no_global).shape.align
global_aligned s [] x h = omega arith
global_aligned s (g ∷ gs) zero h = aligned s.known g.ty h
global_aligned s (g ∷ gs) (suc x) h = global_aligned s gs x h

pub has_alignments : (w : PlainFirmware) → HasAlignments (resolve w)
unfolding resolve
has_alignments w x = global_aligned (scope_of w) w.globals x (all_known w.structs)
