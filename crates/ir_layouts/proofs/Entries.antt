-- Entries of a table by their places.
use Rattle.std.proofs.Common.{◌≡◌, ℕ, zero, suc, ◌<◌, ◌≤◌, Bool, true, false, List, [], ◌∷◌, map, take, get_or, length, refl, sym, ap, subst, ◌∙◌, arith, Option, Some, ◌++◌, length-append, ◌⊎◌, inl, inr, ◌-◌, bytes_eq, if◌then◌else◌, None, option_map, MatchOption}
use Rattle.std.specs.List.{slice_get}
use Rattle.std.proofs.lemmas.List.{take-map, length-map, map-append, take-append-le, get_or_append_left, get_or-map}
use Rattle.std.proofs.Math.Seq.{take-append_seam, get_or-append_seam}
use Rattle.std.proofs.lemmas.Bool.{false≢true, cases_lt}
use Rattle.ir_model.specs.declared.firmware.StructDecl.{StructDecl}
use Rattle.ir_model.specs.Plain.{struct_of}
use Rattle.ir_model.specs.Layout.{FieldPlace, known, empty, fields_named}
use Rattle.ir_model.specs.Rules.{field_type}
use Rattle.ir_model.specs.Types.{type_of}
use Rattle.ir_layouts.specs.declared.struct_layout.Field.{Field}
use Rattle.ir_layouts.specs.Fields.{place_of, place_named}
use Rattle.base_names.specs.Numbers.{has, number_of}
use Rattle.ir_model.specs.Resolve.{offset_named}
use Rattle.ir_layouts.specs.declared.struct_layout.StructLayout.{StructLayout}
use Rattle.ir_layouts.specs.Tables.{IsLaid, AreLaid, IsPlaceBelow, declared_by}
use Rattle.ir_layouts.proofs.Places.{Gives, FirstAt, struct_names, first_at, first_has, there, not_there}

pub slice_mapped : {A B : Type 0} (f : A → B) (xs : List A) (k : ℕ) (d : A) → k < length xs → slice_get (map f xs) k ≡ Some (f (get_or xs k d))
slice_mapped f [] k d l = absurd (omega arith)
slice_mapped f (x ∷ xs) zero d l = refl
slice_mapped f (x ∷ xs) (suc k) d l = slice_mapped f xs k d (omega arith)

pub entry_laid : (ns : List (List ℕ)) (ls : List StructLayout) (ss : List StructDecl) (k : ℕ) (l : StructLayout) → AreLaid ns ls → declared_by ls ≡ ss → k < length ls
    → get_or ls k l ≡ l → IsLaid (map struct_of (take k ss)) l
entry_laid ns ls ss k l a v b e =
    let h = a.each k l b in
    let g = subst (λ x. IsLaid (map struct_of (declared_by (take k ls))) x) e h in
    subst (λ (x : List StructDecl). IsLaid (map struct_of x) l) (sym (take-map (λ (l : StructLayout). l.declaration.now) k ls) ∙ ap (take k) v) g

pub entry_same : (ls : List StructLayout) (ss : List StructDecl) (k : ℕ) (l : StructLayout) → declared_by ls ≡ ss → k < length ls → get_or ls k l ≡ l
    → slice_get ss k ≡ Some l.declaration.now
entry_same ls ss k l v b e =
    ap (λ x. slice_get x k) (sym v) ∙ (slice_mapped (λ (l : StructLayout). l.declaration.now) ls k l b ∙ ap (λ (x : StructLayout). Some x.declaration.now) e)

names_same : (ns : List (List ℕ)) (ls : List StructLayout) (ss : List StructDecl) → AreLaid ns ls → declared_by ls ≡ ss → ns ≡ struct_names ss
names_same ns ls ss a v = a.names ∙ ap struct_names v

pub place_found : (ns : List (List ℕ)) (ls : List StructLayout) (ss : List StructDecl) (b : ℕ) (n : List ℕ) (k : ℕ) → AreLaid ns ls → declared_by ls ≡ ss
    → has ns n ≡ true → k ≡ number_of ns n → k < length ns → k < b → IsPlaceBelow ss b n k
place_found ns ls ss b n k a v h e m l =
    let q = names_same ns ls ss a v in
    let f : FirstAt n ss k = subst (FirstAt n ss) (sym (e ∙ ap (λ ms. number_of ms n) q)) (first_at ss n (ap (λ ms. has ms n) (sym q) ∙ h)) in
    let c : length ns ≡ length ss = ap length q ∙ length-map ss (λ (s : StructDecl). s.name) in
    record { earlier = l; there = omega (arith, c); shape = λ s g. (there ss b n k s f l g).shape }

pub place_missing : (ns : List (List ℕ)) (ls : List StructLayout) (ss : List StructDecl) (b : ℕ) (n : List ℕ) → AreLaid ns ls → declared_by ls ≡ ss
    → has ns n ≡ false → Gives (known (map struct_of (take b ss))) n empty []
place_missing ns ls ss b n a v h =
    let q = names_same ns ls ss a v in
    not_there ss b n (λ k f. let t = (first_has n ss k f).0 in let e = ap (λ ms. has ms n) q in let z : false ≡ true = cc in absurd (false≢true z))

pub place_late : (ns : List (List ℕ)) (ls : List StructLayout) (ss : List StructDecl) (b : ℕ) (n : List ℕ) (k : ℕ) → AreLaid ns ls → declared_by ls ≡ ss
    → k ≡ number_of ns n → b ≤ k → Gives (known (map struct_of (take b ss))) n empty []
place_late ns ls ss b n k a v e l =
    let q = names_same ns ls ss a v in
    not_there ss b n (λ j f. let t = (first_has n ss j f).1 in let m : number_of ns n ≡ number_of (struct_names ss) n = ap (λ ms. number_of ms n) q in omega (arith, t, m, e))

-- one more entry
pub laid_push : (ns ms : List (List ℕ)) (ls ks : List StructLayout) (l : StructLayout) (n : List ℕ) → AreLaid ns ls → IsLaid (map struct_of (declared_by ls)) l → n ≡ l.declaration.now.name
    → ks ≡ ls ++ l ∷ [] → ms ≡ ns ++ n ∷ [] → AreLaid ms ks
laid_push ns ms ls ks l n a h q e f = record {
  names = f ∙ (ap (λ x. ns ++ x ∷ []) q ∙ (ap (λ x. x ++ l.declaration.now.name ∷ []) a.names
      ∙ (sym (map-append (λ (s : StructDecl). s.name) (declared_by ls) (l.declaration.now ∷ []))
      ∙ (ap (map (λ (s : StructDecl). s.name)) (sym (map-append (λ (x : StructLayout). x.declaration.now) ls (l ∷ []))) ∙ ap (λ x. struct_names (declared_by x)) (sym e)))));
  each = subst (λ (x : List StructLayout). (k : ℕ) (d : StructLayout) → k < length x → IsLaid (map struct_of (declared_by (take k x))) (get_or x k d)) (sym e)
      (λ k d m. by_place k d m (cases_lt k (length ls)));
}
  where
    by_place : (k : ℕ) (d : StructLayout) → k < length (ls ++ l ∷ []) → (k < length ls) ⊎ (length ls ≤ k) → IsLaid (map struct_of (declared_by (take k (ls ++ l ∷ [])))) (get_or (ls ++ l ∷ []) k d)
    by_place k d m (inl b) =
        subst (λ (x : List StructLayout). IsLaid (map struct_of (declared_by x)) (get_or (ls ++ l ∷ []) k d)) (sym (take-append-le k ls (l ∷ []) (omega arith)))
        (subst (IsLaid (map struct_of (declared_by (take k ls)))) (sym (get_or_append_left ls (l ∷ []) d k b)) (a.each k d b))
    by_place k d m (inr b) =
        let n = length-append ls (l ∷ []) in
        let j : k ≡ length ls = omega (arith, n) in
        subst (λ (x : ℕ). IsLaid (map struct_of (declared_by (take x (ls ++ l ∷ [])))) (get_or (ls ++ l ∷ []) x d)) (sym j)
        (subst (λ (x : List StructLayout). IsLaid (map struct_of (declared_by x)) (get_or (ls ++ l ∷ []) (length ls) d)) (sym (take-append_seam ls (l ∷ [])))
        (subst (IsLaid (map struct_of (declared_by ls))) (sym (get_or-append_seam ls l [] d)) h))

pub laid_pop : (ns ms : List (List ℕ)) (ls ks js : List StructLayout) (l : StructLayout) (count : ℕ) → AreLaid ns ls → ks ≡ ls ++ l ∷ [] → count ≡ length ks → js ≡ take (count - 1) ks → ms ≡ ns → AreLaid ms js
laid_pop ns ms ls ks js l count a e c f g =
    let n : count - 1 ≡ length ls = let m = length-append ls (l ∷ []) in let k : length ks ≡ length (ls ++ l ∷ []) = ap length e in omega (arith, m, k) in
    let h : js ≡ ls = f ∙ (ap (λ x. take x ks) n ∙ (ap (take (length ls)) e ∙ take-append_seam ls (l ∷ []))) in
    subst (λ x. AreLaid x js) (sym g) (subst (AreLaid ns) (sym h) a)

take_whole : {A : Type 0} (xs : List A) → take (length xs) xs ≡ xs
take_whole [] = refl
take_whole (x ∷ xs) = ap (λ ys. x ∷ ys) (take_whole xs)

-- the fields of the struct that a name means
pub fields_found : (ns : List (List ℕ)) (ls : List StructLayout) (ss : List StructDecl) (n : List ℕ) (k : ℕ) (l : StructLayout) → AreLaid ns ls → declared_by ls ≡ ss
    → has ns n ≡ true → k ≡ number_of ns n → k < length ns → l ≡ get_or ls k l → fields_named (known (map struct_of ss)) n ≡ map place_of l.fields.items
fields_found ns ls ss n k l a v h e m g =
    let q = names_same ns ls ss a v in
    let f : FirstAt n ss k = subst (FirstAt n ss) (sym (e ∙ ap (λ ms. number_of ms n) q)) (first_at ss n (ap (λ ms. has ms n) (sym q) ∙ h)) in
    let c : length ns ≡ length ss = ap length q ∙ length-map ss (λ (s : StructDecl). s.name) in
    let d : length ss ≡ length ls = ap length (sym v) ∙ length-map ls (λ (l : StructLayout). l.declaration.now) in
    let laid = entry_laid ns ls ss k l a v (omega (arith, c, d)) (sym g) in
    let same = entry_same ls ss k l v (omega (arith, c, d)) (sym g) in
    let t = there ss (length ss) n k l.declaration.now f (omega (arith, c)) same in
    ap (λ (x : List StructDecl). fields_named (known (map struct_of x)) n) (sym (take_whole ss)) ∙ (t.fields ∙ sym laid.fields)

pub fields_missing : (ns : List (List ℕ)) (ls : List StructLayout) (ss : List StructDecl) (n : List ℕ) → AreLaid ns ls → declared_by ls ≡ ss → has ns n ≡ false → fields_named (known (map struct_of ss)) n ≡ []
fields_missing ns ls ss n a v h = ap (λ (x : List StructDecl). fields_named (known (map struct_of x)) n) (sym (take_whole ss)) ∙ (place_missing ns ls ss (length ss) n a v h).fields

place_step : (p : FieldPlace) (ps : List FieldPlace) (n : List ℕ) (b : Bool) → (has (map (λ (p : FieldPlace). p.name) ps) n ≡ true → (d : FieldPlace) → place_named ps n ≡ Some (get_or ps (number_of (map (λ (p : FieldPlace). p.name) ps) n) d))
    → (if b then true else has (map (λ (p : FieldPlace). p.name) ps) n) ≡ true → (d : FieldPlace)
    → (if b then Some p else place_named ps n) ≡ Some (get_or (p ∷ ps) (if b then zero else suc (number_of (map (λ (p : FieldPlace). p.name) ps) n)) d)
place_step p ps n true r h d = refl
place_step p ps n false r h d = r h d

pub place_there : (ps : List FieldPlace) (n : List ℕ) → has (map (λ (p : FieldPlace). p.name) ps) n ≡ true → (d : FieldPlace) → place_named ps n ≡ Some (get_or ps (number_of (map (λ (p : FieldPlace). p.name) ps) n) d)
place_there [] n h d = cc
place_there (p ∷ ps) n h d = place_step p ps n (bytes_eq p.name n) (place_there ps n) h d

none_step : (p : FieldPlace) (ps : List FieldPlace) (n : List ℕ) (b : Bool) → (has (map (λ (p : FieldPlace). p.name) ps) n ≡ false → place_named ps n ≡ None)
    → (if b then true else has (map (λ (p : FieldPlace). p.name) ps) n) ≡ false → (if b then Some p else place_named ps n) ≡ None
none_step p ps n true r h = cc
none_step p ps n false r h = r h

pub place_none : (ps : List FieldPlace) (n : List ℕ) → has (map (λ (p : FieldPlace). p.name) ps) n ≡ false → place_named ps n ≡ None
place_none [] n h = refl
place_none (p ∷ ps) n h = none_step p ps n (bytes_eq p.name n) (place_none ps n) h

-- what a field's place tells of its offset and its type
abbrev option_or_zero : Option FieldPlace → ℕ
option_or_zero None = 0
option_or_zero (Some p) = p.at

offset_step : (p : FieldPlace) (ps : List FieldPlace) (n : List ℕ) (b : Bool) → offset_named ps n ≡ (option_or_zero (place_named ps n)) → (if b then p.at else offset_named ps n) ≡ option_or_zero (if b then Some p else place_named ps n)
offset_step p ps n true e = refl
offset_step p ps n false e = e

type_step : (p : FieldPlace) (ps : List FieldPlace) (n : List ℕ) (b : Bool) → field_type ps n ≡ option_map (λ (p : FieldPlace). p.ty) (place_named ps n)
    → (if b then Some p.ty else field_type ps n) ≡ option_map (λ (p : FieldPlace). p.ty) (if b then Some p else place_named ps n)
type_step p ps n true e = refl
type_step p ps n false e = e

offset_by : (ps : List FieldPlace) (n : List ℕ) → offset_named ps n ≡ option_or_zero (place_named ps n)
offset_by [] n = refl
offset_by (p ∷ ps) n = offset_step p ps n (bytes_eq p.name n) (offset_by ps n)

type_by : (ps : List FieldPlace) (n : List ℕ) → field_type ps n ≡ option_map (λ (p : FieldPlace). p.ty) (place_named ps n)
type_by [] n = refl
type_by (p ∷ ps) n = type_step p ps n (bytes_eq p.name n) (type_by ps n)

pub offset_told : (ps : List FieldPlace) (n : List ℕ) (r : Option Field) → option_map place_of r ≡ place_named ps n → MatchOption r (offset_named ps n ≡ 0) (λ f. offset_named ps n ≡ f.at)
offset_told ps n None e = offset_by ps n ∙ ap option_or_zero (sym e)
offset_told ps n (Some f) e = offset_by ps n ∙ ap option_or_zero (sym e)

pub type_told : (ps : List FieldPlace) (n : List ℕ) (r : Option Field) → option_map place_of r ≡ place_named ps n → MatchOption r (field_type ps n ≡ None) (λ f. field_type ps n ≡ Some (type_of f.ty.now))
type_told ps n None e = type_by ps n ∙ ap (option_map (λ (p : FieldPlace). p.ty)) (sym e)
type_told ps n (Some f) e = type_by ps n ∙ ap (option_map (λ (p : FieldPlace). p.ty)) (sym e)

pub field_found : (fs : List Field) (names : List (List ℕ)) (n : List ℕ) (k : ℕ) (f : Field) → names ≡ map (λ (p : FieldPlace). p.name) (map place_of fs) → has names n ≡ true → k ≡ number_of names n
    → k < length names → f ≡ get_or fs k f → Some (place_of f) ≡ place_named (map place_of fs) n
field_found fs names n k f e h q l g =
    let m : length names ≡ length fs = ap length e ∙ (length-map (map place_of fs) (λ (p : FieldPlace). p.name) ∙ length-map fs place_of) in
    let p = place_there (map place_of fs) n (ap (λ ns. has ns n) (sym e) ∙ h) (place_of f) in
    let r : k ≡ number_of (map (λ (p : FieldPlace). p.name) (map place_of fs)) n = q ∙ ap (λ ns. number_of ns n) e in
    ap (λ (x : Field). Some (place_of x)) g ∙ (ap Some (sym (get_or-map place_of fs k f (place_of f) (omega (arith, m)))) ∙ (ap (λ x. Some (get_or (map place_of fs) x (place_of f))) r ∙ sym p))
