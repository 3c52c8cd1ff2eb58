-- Each field of a firmware that passes the checks lies in its struct.
use Rattle.std.proofs.Common.{◌≡◌, ℕ, ◌+◌, ◌<◌, ◌≤◌, Bool, true, false, max, List, [], ◌∷◌, ◌++◌, Option, Some, nat_le, refl, sym, ap, ◌∙◌, subst, map, append_assoc, append-nil, arith}
use Rattle.std.specs.Prelude.{bytes_eq, if◌then◌else◌}
use Rattle.std.proofs.lemmas.Bool.{leb-true}
use Rattle.std.proofs.lemmas.List.{map-append}
use Rattle.ir_model.specs.declared.check.CheckKind.TheVariants.{Unknown, ObjectTooLarge}
use Rattle.ir_model.specs.declared.check.CheckPlace.{CheckPlace}
use Rattle.ir_model.specs.declared.check.CheckPlace.TheVariants as place
use Rattle.ir_model.specs.Types.{PlainType, U8, U16, U32, Pointer, Array, Named, Callee}
use Rattle.ir_model.specs.Plain.{PlainBinding, PlainStruct}
use Rattle.ir_model.specs.Layout.{Shape, Known, FieldPlace, empty, shape_named, fields_named, array_of, shape, rounded_up, with_field, laid_out, field_places, with_struct, known_behind, known, names_of_known}
use Rattle.base_names.specs.Numbers.{has}
use Rattle.ir_model.specs.Resolve.{offset_named}
use Rattle.base_laws.specs.Lists.{Each}
use Rattle.ir_model.specs.Rules.{field_type}
use Rattle.ir_model.specs.Typing.{Checks, check, is_new, type_checks, object_limit, field_checks, struct_checks, structs_checks}
use Rattle.ir_model.proofs.Passing.{Pass, left, right, holds}
use Rattle.ir_model.proofs.Counting.{rounded_at_least}
use Rattle.ir_laws.proofs.Layouts.{AreSound, sound, sound_empty, sound_more, sound_fields}
use Rattle.base_laws.proofs.Lists.{each_both}

more_aligned : (m n : ℕ) → 0 < m → 0 < max m n
more_aligned m n h = omega arith

-- a struct is as large as what is laid out first
grows : (ks : List Known) (s : Shape) (fs : List PlainBinding) → AreSound ks → 0 < s.align → s.size ≤ (laid_out ks s fs).size
grows ks s [] a h = rounded_at_least s.size s.align h
grows ks s (f ∷ fs) a h =
    let r = grows ks (with_field ks s f.ty) fs a (more_aligned s.align (shape ks f.ty).align h) in
    let q = rounded_at_least s.size (shape ks f.ty).align (sound ks f.ty a).aligned in
    omega arith

-- a field lies in its struct
abbrev LiesIn : (ks : List Known) → List FieldPlace → (n : List ℕ) → (size : ℕ) → Type 0
LiesIn ks fs n size = (u : PlainType) → field_type fs n ≡ Some u → offset_named fs n + (shape ks u).size ≤ size

lies_by : (ks : List Known) (b : Bool) (f : FieldPlace) (fs : List FieldPlace) (n : List ℕ) (size : ℕ) → f.at + (shape ks f.ty).size ≤ size → LiesIn ks fs n size
    → (u : PlainType) → (if b then Some f.ty else field_type fs n) ≡ Some u → (if b then f.at else offset_named fs n) + (shape ks u).size ≤ size
lies_by ks true f fs n size h r u e = let q : f.ty ≡ u = cc in subst (λ (v : PlainType). f.at + (shape ks v).size ≤ size) q h
lies_by ks false f fs n size h r u e = r u e

lies_in : (ks : List Known) (s : Shape) (fs : List PlainBinding) (n : List ℕ) → AreSound ks → 0 < s.align → LiesIn ks (field_places ks s fs) n (laid_out ks s fs).size
lies_in ks s [] n a h u e = cc
lies_in ks s (f ∷ fs) n a h u e =
    let next : Shape = with_field ks s f.ty in
    let m = more_aligned s.align (shape ks f.ty).align h in
    lies_by ks (bytes_eq f.name n) (record { name = f.name; at = rounded_up s.size (shape ks f.ty).align; ty = f.ty }) (field_places ks next fs) n (laid_out ks next fs).size
    (grows ks next fs a m) (lies_in ks next fs n a m) u e

-- an offset is within the struct, also of a field that is not there
offset_by : (b : Bool) (m n size : ℕ) → m ≤ size → n ≤ size → (if b then m else n) ≤ size
offset_by true m n size h g = h
offset_by false m n size h g = g

offset_in : (ks : List Known) (s : Shape) (fs : List PlainBinding) (n : List ℕ) → AreSound ks → 0 < s.align → offset_named (field_places ks s fs) n ≤ (laid_out ks s fs).size
offset_in ks s [] n a h = omega arith
offset_in ks s (f ∷ fs) n a h =
    let next : Shape = with_field ks s f.ty in
    let m = more_aligned s.align (shape ks f.ty).align h in
    let r = grows ks next fs a m in
    let q : rounded_up s.size (shape ks f.ty).align ≤ (laid_out ks next fs).size = omega arith in
    offset_by (bytes_eq f.name n) (rounded_up s.size (shape ks f.ty).align) (offset_named (field_places ks next fs) n) (laid_out ks next fs).size q (offset_in ks next fs n a m)

-- ---- a type of structs that are declared keeps its shape

stays_by : (b : Bool) (s t u : Shape) (c : Bool) → (if b then true else c) ≡ true → (c ≡ true → t ≡ u) → (if b then s else t) ≡ (if b then s else u)
stays_by true s t u c h r = refl
stays_by false s t u c h r = r h

named_stays : (ks more : List Known) (n : List ℕ) → has (names_of_known ks) n ≡ true → shape_named (ks ++ more) n ≡ shape_named ks n
named_stays [] more n h = cc
named_stays (k ∷ ks) more n h = stays_by (bytes_eq k.name n) k.shape (shape_named (ks ++ more) n) (shape_named ks n) (has (names_of_known ks) n) h (named_stays ks more n)

shape_stays : (ds : List (List ℕ)) (p : CheckPlace) (ks more : List Known) (t : PlainType) → Pass (type_checks ds (names_of_known ks) p t) → shape (ks ++ more) t ≡ shape ks t
shape_stays ds p ks more U8 h = refl
shape_stays ds p ks more U16 h = refl
shape_stays ds p ks more U32 h = refl
shape_stays ds p ks more (Pointer t) h = refl
shape_stays ds p ks more (Array n t) h = ap (array_of n) (shape_stays ds p ks more t h)
shape_stays ds p ks more (Named n) h = named_stays ks more n (holds (has (names_of_known ks) n) (Unknown n) p [] h)
shape_stays ds p ks more (Callee a r) h = refl

-- the type of a field passes
field_by : (ds es : List (List ℕ)) (p : CheckPlace) (b : Bool) (t : PlainType) (o : Option PlainType) → Pass (type_checks ds es p t) → ((u : PlainType) → o ≡ Some u → Pass (type_checks ds es p u))
    → (u : PlainType) → (if b then Some t else o) ≡ Some u → Pass (type_checks ds es p u)
field_by ds es p true t o h r u e = let q : t ≡ u = cc in subst (λ (v : PlainType). Pass (type_checks ds es p v)) q h
field_by ds es p false t o h r u e = r u e

field_passes : (ds es : List (List ℕ)) (p : CheckPlace) (seen : List (List ℕ)) (ks : List Known) (s : Shape) (fs : List PlainBinding) (n : List ℕ) → Pass (field_checks ds es p seen fs)
    → (u : PlainType) → field_type (field_places ks s fs) n ≡ Some u → Pass (type_checks ds es p u)
field_passes ds es p seen ks s [] n h u e = cc
field_passes ds es p seen ks s (f ∷ fs) n h u e =
    let front : Checks = is_new seen f.name p ∷ type_checks ds es p f.ty in
    let rest : Checks = field_checks ds es p (seen ++ f.name ∷ []) fs in
    field_by ds es p (bytes_eq f.name n) f.ty (field_type (field_places ks (with_field ks s f.ty) fs) n)
    (right (is_new seen f.name p ∷ []) (type_checks ds es p f.ty) (left front rest h))
    (field_passes ds es p (seen ++ f.name ∷ []) ks (with_field ks s f.ty) fs n (right front rest h)) u e

-- ---- the table

-- a struct in a table, whose fields lie in it by the sizes of the table `all`
pub record IsGood (all : List Known) (shape : Shape) (fields : List FieldPlace) : Type 0 where
  pub parts : (n : List ℕ) → LiesIn all fields n shape.size
  pub offsets : (n : List ℕ) → offset_named fields n ≤ shape.size
  pub small : shape.size ≤ 65536

abbrev GoodIn : List Known → Known → Type 0
GoodIn all k = IsGood all k.shape k.fields

with_more : (ks : List Known) (ss : List PlainStruct) → (more : List Known) × (known_behind ks ss ≡ ks ++ more)
with_more ks [] = ([], sym (append-nil ks))
with_more ks (s ∷ ss) =
    let k : List Known = record { name = s.name; shape = laid_out ks empty s.fields; fields = field_places ks empty s.fields } ∷ [] in
    let r = with_more (with_struct ks s) ss in
    (k ++ r.0, r.1 ∙ append_assoc ks k r.0)

names_last : (ks : List Known) (k : Known) (es : List PlainStruct) (s : PlainStruct) → names_of_known ks ≡ map (λ (e : PlainStruct). e.name) es → k.name ≡ s.name
    → names_of_known (ks ++ k ∷ []) ≡ map (λ (e : PlainStruct). e.name) (es ++ s ∷ [])
names_last ks k es s h g =
    map-append (λ (j : Known). j.name) ks (k ∷ [])
    ∙ (ap (λ (x : List (List ℕ)). x ++ k.name ∷ []) h
    ∙ (ap (λ (n : List ℕ). map (λ (e : PlainStruct). e.name) es ++ n ∷ []) g ∙ sym (map-append (λ (e : PlainStruct). e.name) es (s ∷ []))))

behind_last : (ks : List Known) (ss : List PlainStruct) (s : PlainStruct) → known_behind ks (ss ++ s ∷ []) ≡ with_struct (known_behind ks ss) s
behind_last ks [] s = refl
behind_last ks (d ∷ ds) s = behind_last (with_struct ks d) ds s

goods : (all : List Known) (ds : List (List ℕ)) (es : List PlainStruct) (ks : List Known) (ss : List PlainStruct)
    → known_behind [] es ≡ ks → names_of_known ks ≡ map (λ (e : PlainStruct). e.name) es → AreSound ks → known_behind ks ss ≡ all → Pass (structs_checks ds es ss)
    → Each (GoodIn all) ks → Each (GoodIn all) all
unfolding known
goods all ds es ks [] b n a e h g = subst (λ (x : List Known). Each (GoodIn all) x) e g
goods all ds es ks (s ∷ ss) b n a e h g =
    let p : CheckPlace = place.Struct s.name in
    let before : List (List ℕ) = map (λ (d : PlainStruct). d.name) es in
    let k : Known = record { name = s.name; shape = laid_out ks empty s.fields; fields = field_places ks empty s.fields } in
    let own = left (struct_checks ds es s) (structs_checks ds (es ++ s ∷ []) ss) h in
    let front : Checks = is_new before s.name p ∷ field_checks ds before p [] s.fields in
    let big : Checks = check (nat_le (laid_out (known es) empty s.fields).size object_limit) ObjectTooLarge p ∷ [] in
    let fs = right (is_new before s.name p ∷ []) (field_checks ds before p [] s.fields) (left front big own) in
    let sm = leb-true (laid_out (known es) empty s.fields).size object_limit (holds (nat_le (laid_out (known es) empty s.fields).size object_limit) ObjectTooLarge p [] (right front big own)) in
    let m = with_more ks (s ∷ ss) in
    let one : 0 < empty.align = omega arith in
    let passes = field_passes ds before p [] ks empty s.fields in
    let good : GoodIn all k = record {
      parts = λ x u q.
          (let y : shape all u ≡ shape ks u = ap (λ (z : List Known). shape z u) (sym e ∙ m.1) ∙ shape_stays ds p ks m.0 u (subst (λ (z : List (List ℕ)). Pass (type_checks ds z p u)) (sym n) (passes x fs u q)) in
          subst (λ (z : Shape). offset_named (field_places ks empty s.fields) x + z.size ≤ (laid_out ks empty s.fields).size) (sym y) (lies_in ks empty s.fields x a one u q));
      offsets = λ x. offset_in ks empty s.fields x a one;
      small = subst (λ (z : List Known). (laid_out z empty s.fields).size ≤ 65536) b sm;
    } in
    goods all ds (es ++ s ∷ []) (with_struct ks s) ss (behind_last [] es s ∙ ap (λ (z : List Known). with_struct z s) b) (names_last ks k es s n refl)
    (sound_more ks k a (sound_fields ks empty s.fields a sound_empty)) e (right (struct_checks ds es s) (structs_checks ds (es ++ s ∷ []) ss) h) (each_both (GoodIn all) ks (k ∷ []) g (good, tt))

pub all_good : (ss : List PlainStruct) → Pass (structs_checks (map (λ (s : PlainStruct). s.name) ss) [] ss) → Each (GoodIn (known ss)) (known ss)
unfolding known
all_good ss h = goods (known ss) (map (λ (s : PlainStruct). s.name) ss) [] [] ss refl refl tt refl h tt

-- ---- by the name of a struct

good_by : (all : List Known) (b : Bool) (s t : Shape) (fs gs : List FieldPlace) → IsGood all s fs → IsGood all t gs → IsGood all (if b then s else t) (if b then fs else gs)
good_by all true s t fs gs h g = h
good_by all false s t fs gs h g = g

pub good_named : (all ks : List Known) (n : List ℕ) → Each (GoodIn all) ks → IsGood all (shape_named ks n) (fields_named ks n)
good_named all [] n h = record { parts = λ x u e. cc; offsets = λ x. omega arith; small = omega arith }
good_named all (k ∷ ks) n h = good_by all (bytes_eq k.name n) k.shape (shape_named ks n) k.fields (fields_named ks n) h.0 (good_named all ks n h.1)
