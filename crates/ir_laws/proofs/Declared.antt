-- Every struct of a firmware that passes the checks counts as declared, so the types of globals and locals have layouts.
use Rattle.std.proofs.Common.{◌≡◌, ℕ, ◌≤◌, Bool, true, false, List, [], ◌∷◌, ◌++◌, map, length, Option, Some, nat_le, refl, sym, ap, ◌∙◌, subst, append_assoc, append-nil}
use Rattle.std.specs.Prelude.{bytes_eq, if◌then◌else◌}
use Rattle.std.specs.Cmp.Derive.{both_true}
use Rattle.std.proofs.lemmas.Bool.{leb-true}
use Rattle.std.proofs.lemmas.List.{map-append}
use Rattle.ir_model.specs.declared.check.CheckKind.TheVariants.{Unknown, ObjectTooLarge, BadInit}
use Rattle.ir_model.specs.declared.check.CheckPlace.{CheckPlace}
use Rattle.ir_model.specs.declared.check.CheckPlace.TheVariants as place
use Rattle.ir_model.specs.declared.firmware.Peripheral.{Peripheral}
use Rattle.ir_model.specs.declared.extent.Extent.{Extent}
use Rattle.ir_model.specs.Types.{PlainType, U8, U16, U32, Pointer, Array, Named, Callee}
use Rattle.ir_model.specs.Plain.{PlainBinding, PlainStruct, PlainGlobal, PlainFunc, PlainFirmware, funcs_of, names_of}
use Rattle.ir_model.specs.Layout.{Shape, known, shape, laid_out, empty}
use Rattle.base_names.specs.Numbers.{has}
use Rattle.ir_model.specs.Extents.{Counted, counted_named, is_counted, are_counted, counted_behind, counted, HasElements, extent, sized, pair_of}
use Rattle.ir_model.specs.Canonical.{IsWithinLimits}
use Rattle.base_laws.specs.Lists.{Each}
use Rattle.ir_model.specs.Typing.{Checks, check, is_new, type_checks, object_limit, field_checks, struct_checks, structs_checks, local_checks, init_checks, global_checks, globals_checks, func_checks, funcs_checks, IsTyped}
use Rattle.ir_model.proofs.Passing.{Pass, left, right, holds}
use Rattle.ir_model.proofs.Counting.{Tied, extent_tied}
use Rattle.ir_model.proofs.Elements.{firmware_elements}
use Rattle.ir_model.proofs.Limits.{Limited, HasParts, limited, global_elements}
use Rattle.ir_model.proofs.Typed.{structs_named, parts_pass, by_parts}
use Rattle.ir_laws.specs.Limits.{HasLayout, HasLayouts}
use Rattle.base_laws.proofs.Lists.{each_both}

abbrev Counts : Counted → Type 0
Counts k = k.counts ≡ true

abbrev names_in : List Counted → List (List ℕ)
names_in ks = map (λ (k : Counted). k.name) ks

named_by : (b x y h : Bool) → x ≡ true → (if b then true else h) ≡ true → (h ≡ true → y ≡ true) → (if b then x else y) ≡ true
named_by true x y h e g r = e
named_by false x y h e g r = r g

named_counts : (ks : List Counted) (n : List ℕ) → Each Counts ks → has (names_in ks) n ≡ true → counted_named ks n ≡ true
named_counts [] n c h = cc
named_counts (k ∷ ks) n c h = named_by (bytes_eq k.name n) k.counts (counted_named ks n) (has (names_in ks) n) c.0 h (named_counts ks n c.1)

type_counts : (ds : List (List ℕ)) (p : CheckPlace) (ks : List Counted) (t : PlainType) → Each Counts ks → Pass (type_checks ds (names_in ks) p t) → is_counted ks t ≡ true
type_counts ds p ks U8 c h = refl
type_counts ds p ks U16 c h = refl
type_counts ds p ks U32 c h = refl
type_counts ds p ks (Pointer t) c h = refl
type_counts ds p ks (Array n t) c h = type_counts ds p ks t c h
type_counts ds p ks (Named n) c h = named_counts ks n c (holds (has (names_in ks) n) (Unknown n) p [] h)
type_counts ds p ks (Callee a r) c h = refl

fields_count : (ds : List (List ℕ)) (p : CheckPlace) (seen : List (List ℕ)) (ks : List Counted) (fs : List PlainBinding) → Each Counts ks
    → Pass (field_checks ds (names_in ks) p seen fs) → are_counted ks fs ≡ true
fields_count ds p seen ks [] c h = refl
fields_count ds p seen ks (f ∷ fs) c h =
    let own : Checks = is_new seen f.name p ∷ type_checks ds (names_in ks) p f.ty in
    let rest : Checks = field_checks ds (names_in ks) p (seen ++ f.name ∷ []) fs in
    both_true
    (type_counts ds p ks f.ty c (right (is_new seen f.name p ∷ []) (type_checks ds (names_in ks) p f.ty) (left own rest h)))
    (fields_count ds p (seen ++ f.name ∷ []) ks fs c (right own rest h))

-- ---- the list of structs

abbrev the_names : List PlainStruct → List (List ℕ)
the_names ss = map (λ (s : PlainStruct). s.name) ss

names_more : (ks : List Counted) (k : Counted) → names_in (ks ++ k ∷ []) ≡ names_in ks ++ k.name ∷ []
names_more ks k = map-append (λ (j : Counted). j.name) ks (k ∷ [])

record AreCounted (ks : List Counted) (es : List PlainStruct) : Type 0 where
  each : Each Counts ks
  names : names_in ks ≡ the_names es

counted_more : (ks : List Counted) (es : List PlainStruct) (s : PlainStruct) (b : Bool) → b ≡ true → AreCounted ks es → AreCounted (ks ++ record { name = s.name; counts = b } ∷ []) (es ++ s ∷ [])
counted_more ks es s b e t =
    let k : Counted = record { name = s.name; counts = b } in
    record {
      each = each_both Counts ks (k ∷ []) t.each (e, tt);
      names = names_more ks k ∙ (ap (λ (x : List (List ℕ)). x ++ s.name ∷ []) t.names ∙ sym (map-append (λ (d : PlainStruct). d.name) es (s ∷ [])));
    }

structs_counted : (ds : List (List ℕ)) (ks : List Counted) (es ss : List PlainStruct) → AreCounted ks es → Pass (structs_checks ds es ss) → AreCounted (counted_behind ks ss) (es ++ ss)
structs_counted ds ks es [] t h = subst (λ (x : List PlainStruct). AreCounted ks x) (sym (append-nil es)) t
structs_counted ds ks es (s ∷ ss) t h =
    let p : CheckPlace = place.Struct s.name in
    let own : Checks = is_new (the_names es) s.name p ∷ field_checks ds (the_names es) p [] s.fields in
    let size : Checks = check (nat_le (laid_out (known es) empty s.fields).size object_limit) ObjectTooLarge p ∷ [] in
    let mine = left (struct_checks ds es s) (structs_checks ds (es ++ s ∷ []) ss) h in
    let fields = right (is_new (the_names es) s.name p ∷ []) (field_checks ds (the_names es) p [] s.fields) (left own size mine) in
    let passes = subst (λ (x : List (List ℕ)). Pass (field_checks ds x p [] s.fields)) (sym t.names) fields in
    subst (λ (x : List PlainStruct). AreCounted (counted_behind ks (s ∷ ss)) x) (append_assoc es (s ∷ []) ss)
    (structs_counted ds (ks ++ record { name = s.name; counts = are_counted ks s.fields } ∷ []) (es ++ s ∷ []) ss
    (counted_more ks es s (are_counted ks s.fields) (fields_count ds p [] ks s.fields t.each passes) t)
    (right (struct_checks ds es s) (structs_checks ds (es ++ s ∷ []) ss) h))

-- ---- layouts

tied_pair : (o : Option Extent) (s : Shape) (c : Bool) → c ≡ true → Tied o s c → s.size ≤ object_limit → pair_of o ≡ Some (s.size, s.align)
tied_pair o s true e t h = ap pair_of (t.0 h)
tied_pair o s false e t h = cc

module _ (w : PlainFirmware) (typed : IsTyped w) (limits : IsWithinLimits w) where
  abbrev declared : List (List ℕ)
  declared = structs_named w

  declared_counts : (p : CheckPlace) (t : PlainType) → Pass (type_checks declared declared p t) → is_counted (counted w.structs) t ≡ true
  unfolding counted
  declared_counts p t h =
      let list = structs_counted declared [] [] w.structs (record { each = tt; names = refl }) (parts_pass w typed).structs in
      type_counts declared p (counted w.structs) t list.each (subst (λ (x : List (List ℕ)). Pass (type_checks declared x p t)) (sym list.names) h)

  laid : (p : CheckPlace) (t : PlainType) → Pass (type_checks declared declared p t) → HasElements t → (shape (known w.structs) t).size ≤ object_limit → HasLayout w t
  laid p t h e s =
      tied_pair (extent (sized w.structs) t) (shape (known w.structs) t) (is_counted (counted w.structs) t) (declared_counts p t h)
      (extent_tied w.structs t (firmware_elements w limits) e) s

  laid_locals : (p : CheckPlace) (seen : List (List ℕ)) (ss : List PlainBinding) → Each HasParts ss → Pass (local_checks w declared p seen ss) → Each (λ (s : PlainBinding). HasLayout w s.ty) ss
  laid_locals p seen [] e h = tt
  laid_locals p seen (s ∷ ss) e h =
      let front : Checks = is_new seen s.name p ∷ type_checks declared declared p s.ty in
      let size : Checks = check (nat_le (shape (known w.structs) s.ty).size object_limit) ObjectTooLarge p ∷ [] in
      let rest : Checks = local_checks w declared p (seen ++ s.name ∷ []) ss in
      let own = left (front ++ size) rest h in (
        laid p s.ty (right (is_new seen s.name p ∷ []) (type_checks declared declared p s.ty) (left front size own)) e.0
            (leb-true (shape (known w.structs) s.ty).size object_limit
            (holds (nat_le (shape (known w.structs) s.ty).size object_limit) ObjectTooLarge p [] (right front size own))),
        laid_locals p (seen ++ s.name ∷ []) ss e.1 (right (front ++ size) rest h),
      )

  laid_funcs : (fs : List PlainFunc) → Each Limited fs → Pass (funcs_checks w fs) → Each (λ (f : PlainFunc). Each (λ (s : PlainBinding). HasLayout w s.ty) f.locals) fs
  laid_funcs [] l h = tt
  laid_funcs (f ∷ fs) l h =
      let q = by_parts w f (left (func_checks w f) (funcs_checks w fs) h) in
      (laid_locals (place.Func f.name) (names_of f.params) f.locals l.0.locals q.locals, laid_funcs fs l.1 (right (func_checks w f) (funcs_checks w fs) h))

  laid_globals : (seen : List (List ℕ)) (gs : List PlainGlobal) → Each (λ (g : PlainGlobal). HasElements g.ty) gs → Pass (globals_checks w seen gs)
      → Each (λ (g : PlainGlobal). HasLayout w g.ty) gs
  laid_globals seen [] e h = tt
  laid_globals seen (g ∷ gs) e h =
      let p : CheckPlace = place.Global g.name in
      let it : Shape = shape (known w.structs) g.ty in
      let front : Checks = is_new seen g.name p ∷ type_checks declared declared p g.ty in
      let init : Checks = check (nat_le (length g.init) (length it.cells)) BadInit p ∷ [] in
      let size : Checks = check (nat_le it.size object_limit) ObjectTooLarge p ∷ init in
      let own = left (front ++ size) (init_checks w p g.init it.cells) (left (global_checks w seen g) (globals_checks w (seen ++ g.name ∷ []) gs) h) in (
        laid p g.ty (right (is_new seen g.name p ∷ []) (type_checks declared declared p g.ty) (left front size own)) e.0
            (leb-true it.size object_limit (holds (nat_le it.size object_limit) ObjectTooLarge p init (right front size own))),
        laid_globals (seen ++ g.name ∷ []) gs e.1 (right (global_checks w seen g) (globals_checks w (seen ++ g.name ∷ []) gs) h),
      )

  pub has_layouts : HasLayouts w
  has_layouts =
      let q = parts_pass w typed in
      record {
        globals = laid_globals (map (λ (q : Peripheral). q.name) w.periphs) w.globals (global_elements w limits) q.globals;
        locals = laid_funcs (funcs_of w) (limited w limits) q.funcs;
      }
