-- What walks down types go down by: the arrays round what a type holds, and the fields of the structs before it.
use Rattle.std.proofs.Common.{◌≡◌, ℕ, zero, suc, ◌+◌, ◌<◌, List, [], ◌∷◌, take, get_or, length, sym, ap, subst, ◌∙◌, arith, Some}
use Rattle.std.specs.List.{slice_get}
use Rattle.std.proofs.lemmas.List.{get_or-map, length-map}
use Rattle.ir_model.specs.declared.firmware.StructDecl.{StructDecl}
use Rattle.ir_model.specs.Types.{type_of}
use Rattle.ir_model.specs.Plain.{PlainBinding, PlainStruct, struct_of}
use Rattle.ir_model.specs.Layout.{FieldPlace, Shape, Known, empty, with_field, field_places, known}
use Rattle.ir_model.proofs.Arrays.{arrays}
use Rattle.ir_layouts.specs.declared.struct_layout.Field.{Field}
use Rattle.ir_layouts.specs.declared.struct_layout.StructLayout.{StructLayout}
use Rattle.ir_layouts.specs.Fields.{place_of}
use Rattle.ir_layouts.specs.Tables.{IsLaid}

abbrev fields_weight : List PlainBinding → ℕ
fields_weight [] = 0
fields_weight (f ∷ fs) = suc (arrays f.ty) + fields_weight fs

abbrev pub structs_weight : List StructDecl → ℕ
structs_weight [] = 0
structs_weight (s ∷ ss) = suc (fields_weight (struct_of s).fields) + structs_weight ss

place_weighs : (ks : List Known) (s : Shape) (fs : List PlainBinding) (k : ℕ) (d : FieldPlace) → k < length (field_places ks s fs)
    → arrays (get_or (field_places ks s fs) k d).ty < fields_weight fs
place_weighs ks s [] k d l = absurd (omega arith)
place_weighs ks s (f ∷ fs) zero d l = omega arith
place_weighs ks s (f ∷ fs) (suc k) d l = let r = place_weighs ks (with_field ks s f.ty) fs k d (omega arith) in omega (arith, r)

pub field_weighs : (ss : List PlainStruct) (l : StructLayout) (j : ℕ) (f : Field) → IsLaid ss l → j < length l.fields.items → f ≡ get_or l.fields.items j f
    → arrays (type_of f.ty.now) < fields_weight (struct_of l.declaration.now).fields
field_weighs ss l j f h m e =
    let n : length l.fields.items ≡ length (field_places (known ss) empty (struct_of l.declaration.now).fields) = sym (length-map l.fields.items place_of) ∙ ap length h.fields in
    let p : get_or (field_places (known ss) empty (struct_of l.declaration.now).fields) j (place_of f) ≡ place_of f =
    ap (λ ps. get_or ps j (place_of f)) (sym h.fields) ∙ (get_or-map place_of l.fields.items j f (place_of f) m ∙ ap place_of (sym e)) in
    subst (λ (x : FieldPlace). arrays x.ty < fields_weight (struct_of l.declaration.now).fields) p
    (place_weighs (known ss) empty (struct_of l.declaration.now).fields j (place_of f) (omega (arith, n)))

pub struct_weighs : (ss : List StructDecl) (b k : ℕ) (s : StructDecl) → k < b → slice_get ss k ≡ Some s
    → structs_weight (take k ss) + fields_weight (struct_of s).fields < structs_weight (take b ss)
struct_weighs [] b k s l e = cc
struct_weighs (x ∷ ss) zero k s l e = absurd (omega arith)
struct_weighs (x ∷ ss) (suc b) zero s l e =
    let q : x ≡ s = cc in
    subst (λ (y : StructDecl). 0 + fields_weight (struct_of y).fields < structs_weight (take (suc b) (x ∷ ss))) q (omega arith)
struct_weighs (x ∷ ss) (suc b) (suc k) s l e = let r = struct_weighs ss b k s (omega arith) e in omega (arith, r)
