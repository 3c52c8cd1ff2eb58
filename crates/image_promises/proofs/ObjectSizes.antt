-- Each global and each local of a firmware that passes the checks and is within the limits has a byte at least.
use Rattle.std.proofs.Common.{◌≡◌, ℕ, zero, suc, ◌<◌, Bool, true, false, List, [], ◌∷◌, ◌++◌, length, map, get_or, refl, sym, ap, ◌∙◌, subst, bytes_eq, if◌then◌else◌, append_assoc, append-nil, nat_le, arith}
use Rattle.std.proofs.lemmas.List.{map-append, length-map}
use Rattle.ir_model.specs.declared.check.CheckKind.TheVariants.{Unknown, ObjectTooLarge, BadInit}
use Rattle.ir_model.specs.declared.check.CheckPlace.{CheckPlace}
use Rattle.ir_model.specs.declared.check.CheckPlace.TheVariants as place
use Rattle.ir_model.specs.Types.{PlainType, U8, U16, U32, Pointer, Array, Named, Callee}
use Rattle.ir_model.specs.Plain.{PlainBinding, PlainStruct, PlainGlobal, PlainFunc, PlainFirmware, funcs_of, names_of}
use Rattle.ir_model.specs.Layout.{Shape, Known, empty, shape_named, shape, with_field, laid_out, field_places, with_struct, known_behind, known, names_of_known}
use Rattle.ir_model.specs.Resolved.{no_global, no_func, func_at, global_at, local_at}
use Rattle.base_names.specs.Numbers.{has}
use Rattle.ir_model.specs.Resolve.{scope_of, resolved_func, resolved_global, resolve}
use Rattle.ir_model.specs.Canonical.{IsWithinLimits}
use Rattle.base_laws.specs.Lists.{Each}
use Rattle.ir_model.specs.Extents.{HasElements, EachHasElements, AllHaveElements}
use Rattle.ir_model.specs.Typing.{Checks, check, is_new, type_checks, field_checks, struct_checks, structs_checks, object_limit, init_checks, global_checks, globals_checks, local_checks, func_checks, funcs_checks, IsTyped}
use Rattle.ir_model.proofs.Passing.{Pass, left, right, holds}
use Rattle.ir_model.proofs.Counting.{many_at_least, rounded_at_least}
use Rattle.ir_model.proofs.Elements.{firmware_elements}
use Rattle.ir_model.proofs.Limits.{HasParts, Limited, global_elements, limited}
use Rattle.ir_model.proofs.Typed.{structs_named, periphs_named, parts_pass, by_parts}
use Rattle.base_laws.proofs.Lists.{each_both}

-- ---- types

abbrev AreLarge : List Known → Type 0
AreLarge ks = Each (λ (k : Known). 0 < k.shape.size) ks

by_name : (b c : Bool) (s t : Shape) → (if b then true else c) ≡ true → 0 < s.size → (c ≡ true → 0 < t.size) → 0 < (if b then s else t).size
by_name true c s t h g r = g
by_name false c s t h g r = r h

named_large : (ks : List Known) (n : List ℕ) → AreLarge ks → has (names_of_known ks) n ≡ true → 0 < (shape_named ks n).size
named_large [] n a h = absurd (let e : false ≡ true = h in cc)
named_large (k ∷ ks) n a h = by_name (bytes_eq k.name n) (has (names_of_known ks) n) k.shape (shape_named ks n) h a.0 (named_large ks n a.1)

-- a type whose structs are known and whose arrays have elements has a byte at least
type_large : (ds : List (List ℕ)) (p : CheckPlace) (ks : List Known) (t : PlainType) → AreLarge ks → Pass (type_checks ds (names_of_known ks) p t) → HasElements t → 0 < (shape ks t).size
type_large ds p ks U8 a h e = omega arith
type_large ds p ks U16 a h e = omega arith
type_large ds p ks U32 a h e = omega arith
type_large ds p ks (Pointer t) a h e = omega arith
type_large ds p ks (Array n t) a h e = let s = type_large ds p ks t a h e.1 in let m = many_at_least n (shape ks t).size e.0 in omega (arith, s, m)
type_large ds p ks (Named n) a h e = named_large ks n a (holds (has (names_of_known ks) n) (Unknown n) p [] h)
type_large ds p ks (Callee b r) a h e = omega arith

-- ---- structs

-- fields behind what has a byte already
behind_large : (ds : List (List ℕ)) (p : CheckPlace) (seen : List (List ℕ)) (ks : List Known) (s : Shape) (fs : List PlainBinding) → AreLarge ks → 0 < s.size → 0 < s.align
    → Pass (field_checks ds (names_of_known ks) p seen fs) → EachHasElements fs → 0 < (laid_out ks s fs).size
behind_large ds p seen ks s [] a some align h e = let r = rounded_at_least s.size s.align align in omega (arith, r, some)
behind_large ds p seen ks s (f ∷ fs) a some align h e =
    let front : Checks = is_new seen f.name p ∷ type_checks ds (names_of_known ks) p f.ty in
    let rest : Checks = field_checks ds (names_of_known ks) p (seen ++ f.name ∷ []) fs in
    let own = type_large ds p ks f.ty a (right (is_new seen f.name p ∷ []) (type_checks ds (names_of_known ks) p f.ty) (left front rest h)) e.0 in
    behind_large ds p (seen ++ f.name ∷ []) ks (with_field ks s f.ty) fs a (omega (arith, own)) (omega (arith, align)) (right front rest h) e.1

fields_large : (ds : List (List ℕ)) (p : CheckPlace) (ks : List Known) (fs : List PlainBinding) → AreLarge ks → 0 < length fs
    → Pass (field_checks ds (names_of_known ks) p [] fs) → EachHasElements fs → 0 < (laid_out ks empty fs).size
fields_large ds p ks [] a some h e = absurd (omega (arith, some))
fields_large ds p ks (f ∷ fs) a some h e =
    let front : Checks = is_new [] f.name p ∷ type_checks ds (names_of_known ks) p f.ty in
    let rest : Checks = field_checks ds (names_of_known ks) p (f.name ∷ []) fs in
    let own = type_large ds p ks f.ty a (right (is_new [] f.name p ∷ []) (type_checks ds (names_of_known ks) p f.ty) (left front rest h)) e.0 in
    behind_large ds p (f.name ∷ []) ks (with_field ks empty f.ty) fs a (omega (arith, own)) (omega arith) (right front rest h) e.1

names_behind : (ks : List Known) (ss : List PlainStruct) → names_of_known (known_behind ks ss) ≡ names_of_known ks ++ map (λ (s : PlainStruct). s.name) ss
names_behind ks [] = sym (append-nil (names_of_known ks))
names_behind ks (s ∷ ss) =
    let k : Known = record { name = s.name; shape = laid_out ks empty s.fields; fields = field_places ks empty s.fields } in
    names_behind (with_struct ks s) ss
    ∙ (ap (λ (x : List (List ℕ)). x ++ map (λ (d : PlainStruct). d.name) ss) (map-append (λ (j : Known). j.name) ks (k ∷ []))
    ∙ append_assoc (names_of_known ks) (s.name ∷ []) (map (λ (d : PlainStruct). d.name) ss))

structs_large : (ds : List (List ℕ)) (es : List PlainStruct) (ks : List Known) (ss : List PlainStruct) → names_of_known ks ≡ map (λ (d : PlainStruct). d.name) es → AreLarge ks
    → Pass (structs_checks ds es ss) → AllHaveElements ss → Each (λ (s : PlainStruct). 0 < length s.fields) ss → AreLarge (known_behind ks ss)
structs_large ds es ks [] n a h e some = a
structs_large ds es ks (s ∷ ss) n a h e some =
    let p : CheckPlace = place.Struct s.name in
    let before : List (List ℕ) = map (λ (d : PlainStruct). d.name) es in
    let k : Known = record { name = s.name; shape = laid_out ks empty s.fields; fields = field_places ks empty s.fields } in
    let own = left (struct_checks ds es s) (structs_checks ds (es ++ s ∷ []) ss) h in
    let front : Checks = is_new before s.name p ∷ field_checks ds before p [] s.fields in
    let big : Checks = check (nat_le (laid_out (known es) empty s.fields).size object_limit) ObjectTooLarge p ∷ [] in
    let fields : Pass (field_checks ds before p [] s.fields) = right (is_new before s.name p ∷ []) (field_checks ds before p [] s.fields) (left front big own) in
    let large : 0 < (laid_out ks empty s.fields).size =
    fields_large ds p ks s.fields a some.0 (subst (λ (z : List (List ℕ)). Pass (field_checks ds z p [] s.fields)) (sym n) fields) e.0 in
    let named : names_of_known (with_struct ks s) ≡ map (λ (d : PlainStruct). d.name) (es ++ s ∷ []) =
    map-append (λ (j : Known). j.name) ks (k ∷ [])
    ∙ (ap (λ (x : List (List ℕ)). x ++ s.name ∷ []) n ∙ sym (map-append (λ (d : PlainStruct). d.name) es (s ∷ []))) in
    structs_large ds (es ++ s ∷ []) (with_struct ks s) ss named (each_both (λ (j : Known). 0 < j.shape.size) ks (k ∷ []) a (large, tt))
    (right (struct_checks ds es s) (structs_checks ds (es ++ s ∷ []) ss) h) e.1 some.1

module _ (w : PlainFirmware) (typed : IsTyped w) (within : IsWithinLimits w) where
  known_large : AreLarge (known w.structs)
  unfolding known
  known_large = structs_large (structs_named w) [] [] w.structs refl tt (parts_pass w typed).structs (firmware_elements w within) within.structs

  known_names : names_of_known (known w.structs) ≡ structs_named w
  unfolding known
  known_names = names_behind [] w.structs

  -- a type that passes the checks behind all structs
  pub declared_large : (p : CheckPlace) (t : PlainType) → Pass (type_checks (structs_named w) (structs_named w) p t) → HasElements t → 0 < (shape (known w.structs) t).size
  declared_large p t h e =
      type_large (structs_named w) p (known w.structs) t known_large (subst (λ (z : List (List ℕ)). Pass (type_checks (structs_named w) z p t)) (sym known_names) h) e

  -- ---- globals

  globals_large : (seen : List (List ℕ)) (gs : List PlainGlobal) → Pass (globals_checks w seen gs) → Each (λ (g : PlainGlobal). HasElements g.ty) gs
      → (x : ℕ) → x < length gs → 0 < (get_or (map (resolved_global (scope_of w)) gs) x no_global).shape.size
  globals_large seen [] h e x lt = absurd (omega (arith, lt))
  globals_large seen (g ∷ gs) h e zero lt =
      let p : CheckPlace = place.Global g.name in
      let names : Checks = type_checks (structs_named w) (structs_named w) p g.ty in
      let sizes : Checks = check (nat_le (shape (known w.structs) g.ty).size object_limit) ObjectTooLarge p ∷ check (nat_le (length g.init) (length (shape (known w.structs) g.ty).cells)) BadInit p ∷ [] in
      let inits : Checks = init_checks w p g.init (shape (known w.structs) g.ty).cells in
      let own : Pass ((is_new seen g.name p ∷ names) ++ sizes ++ inits) = left (global_checks w seen g) (globals_checks w (seen ++ g.name ∷ []) gs) h in
      declared_large p g.ty (right (is_new seen g.name p ∷ []) names (left (is_new seen g.name p ∷ names) sizes (left ((is_new seen g.name p ∷ names) ++ sizes) inits own))) e.0
  globals_large seen (g ∷ gs) h e (suc x) lt =
      globals_large (seen ++ g.name ∷ []) gs (right (global_checks w seen g) (globals_checks w (seen ++ g.name ∷ []) gs) h) e.1 x (omega (arith, lt))

  -- a global has a byte at least
  pub global_is_large : (x : ℕ) → x < length (resolve w).globals → 0 < (global_at (resolve w) x).shape.size
  unfolding resolve
  global_is_large x lt =
      let m = length-map w.globals (resolved_global (scope_of w)) in
      globals_large (periphs_named w) w.globals (parts_pass w typed).globals (global_elements w within) x (omega (arith, lt, m))

  -- ---- locals

  locals_large : (p : CheckPlace) (seen : List (List ℕ)) (ls : List PlainBinding) → Pass (local_checks w (structs_named w) p seen ls) → Each HasParts ls
      → (l : ℕ) → l < length ls → 0 < (get_or (map (λ (s : PlainBinding). shape (known w.structs) s.ty) ls) l empty).size
  locals_large p seen [] h e l lt = absurd (omega (arith, lt))
  locals_large p seen (s ∷ ls) h e zero lt =
      let names : Checks = type_checks (structs_named w) (structs_named w) p s.ty in
      let size : Checks = check (nat_le (shape (known w.structs) s.ty).size object_limit) ObjectTooLarge p ∷ [] in
      let rest : Checks = local_checks w (structs_named w) p (seen ++ s.name ∷ []) ls in
      let own : Pass ((is_new seen s.name p ∷ names) ++ size) = left ((is_new seen s.name p ∷ names) ++ size) rest h in
      declared_large p s.ty (right (is_new seen s.name p ∷ []) names (left (is_new seen s.name p ∷ names) size own)) e.0
  locals_large p seen (s ∷ ls) h e (suc l) lt =
      let names : Checks = type_checks (structs_named w) (structs_named w) p s.ty in
      let size : Checks = check (nat_le (shape (known w.structs) s.ty).size object_limit) ObjectTooLarge p ∷ [] in
      let rest : Checks = local_checks w (structs_named w) p (seen ++ s.name ∷ []) ls in
      locals_large p (seen ++ s.name ∷ []) ls (right ((is_new seen s.name p ∷ names) ++ size) rest h) e.1 l (omega (arith, lt))

  local_in : (fs : List PlainFunc) → Pass (funcs_checks w fs) → Each Limited fs → (f l : ℕ)
      → l < length (get_or (map (resolved_func (scope_of w)) fs) f no_func).locals → 0 < (get_or (get_or (map (resolved_func (scope_of w)) fs) f no_func).locals l empty).size
  local_in [] h e f l lt = absurd (omega (arith, lt))
  local_in (g ∷ fs) h e zero l lt =
      let m = length-map g.locals (λ (s : PlainBinding). shape (known w.structs) s.ty) in
      locals_large (place.Func g.name) (names_of g.params) g.locals (by_parts w g (left (func_checks w g) (funcs_checks w fs) h)).locals e.0.locals l (omega (arith, lt, m))
  local_in (g ∷ fs) h e (suc f) l lt = local_in fs (right (func_checks w g) (funcs_checks w fs) h) e.1 f l lt

  -- a local has a byte at least
  pub local_is_large : (f l : ℕ) → l < length (func_at (resolve w) f).locals → 0 < (local_at (resolve w) f l).size
  unfolding resolve
  local_is_large f l lt = local_in (funcs_of w) (parts_pass w typed).funcs (limited w within) f l lt
