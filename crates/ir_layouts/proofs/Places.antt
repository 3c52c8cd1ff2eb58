-- What a name means among structs that are laid out: the first struct that has it, laid out by those before it.
use Rattle.std.proofs.Common.{◌≡◌, ℕ, zero, suc, ◌<◌, ◌≤◌, Bool, true, false, List, [], ◌∷◌, ◌++◌, map, take, refl, sym, ap, subst, ◌∙◌, arith, Some, bytes_eq, if◌then◌else◌}
use Rattle.std.specs.List.{slice_get}
use Rattle.ir_model.specs.declared.firmware.StructDecl.{StructDecl}
use Rattle.ir_model.specs.Plain.{PlainStruct, binding_of, struct_of}
use Rattle.ir_model.specs.Layout.{Shape, Known, FieldPlace, empty, shape_named, fields_named, laid_out, field_places, known_behind, known}
use Rattle.base_names.specs.Numbers.{has, number_of}
use Rattle.ir_layouts.specs.Measures.{struct_shape}
use Rattle.ir_layouts.proofs.Cases.{by_case}

-- what a table has for a name
pub record Gives (ks : List Known) (n : List ℕ) (s : Shape) (fs : List FieldPlace) : Type 0 where
  pub shape : shape_named ks n ≡ s
  pub fields : fields_named ks n ≡ fs

abbrev Lacks : List Known → List ℕ → Type 0
Lacks [] n = Unit {0}
Lacks (k ∷ ks) n = (bytes_eq k.name n ≡ false) × Lacks ks n

lacks_more : (ks : List Known) (n : List ℕ) (k : Known) → Lacks ks n → bytes_eq k.name n ≡ false → Lacks (ks ++ k ∷ []) n
lacks_more [] n k h e = (e, tt)
lacks_more (j ∷ ks) n k h e = (h.0, lacks_more ks n k h.1 e)

gives_later : (k : Known) (ks : List Known) (n : List ℕ) (s : Shape) (fs : List FieldPlace) → bytes_eq k.name n ≡ false → Gives ks n s fs → Gives (k ∷ ks) n s fs
gives_later k ks n s fs e g = record {
  shape = ap (λ b. if b then k.shape else shape_named ks n) e ∙ g.shape;
  fields = ap (λ b. if b then k.fields else fields_named ks n) e ∙ g.fields;
}

lacks_gives : (ks : List Known) (n : List ℕ) → Lacks ks n → Gives ks n empty []
lacks_gives [] n h = record { shape = refl; fields = refl }
lacks_gives (k ∷ ks) n h = gives_later k ks n empty [] h.0 (lacks_gives ks n h.1)

-- the first entry of the name is this one
data FirstIs (n : List ℕ) (v : Known) : List Known → Type 0 where
  here : (ks : List Known) → bytes_eq v.name n ≡ true → FirstIs n v (v ∷ ks)
  later : (k : Known) (ks : List Known) → bytes_eq k.name n ≡ false → FirstIs n v ks → FirstIs n v (k ∷ ks)

first_gives : (n : List ℕ) (v : Known) (ks : List Known) → FirstIs n v ks → Gives ks n v.shape v.fields
first_gives n v _ (here ks e) = record {
  shape = ap (λ b. if b then v.shape else shape_named ks n) e;
  fields = ap (λ b. if b then v.fields else fields_named ks n) e;
}
first_gives n v _ (later k ks e f) = gives_later k ks n v.shape v.fields e (first_gives n v ks f)

first_more : (n : List ℕ) (v : Known) (ks ms : List Known) → FirstIs n v ks → FirstIs n v (ks ++ ms)
first_more n v _ ms (here ks e) = here (ks ++ ms) e
first_more n v _ ms (later k ks e f) = later k (ks ++ ms) e (first_more n v ks ms f)

first_last : (n : List ℕ) (ks : List Known) (v : Known) → Lacks ks n → bytes_eq v.name n ≡ true → FirstIs n v (ks ++ v ∷ [])
first_last n [] v h e = here [] e
first_last n (j ∷ ks) v h e = later j (ks ++ v ∷ []) h.0 (first_last n ks v h.1 e)

abbrev entry : List Known → PlainStruct → Known
entry ks s = record { name = s.name; shape = laid_out ks empty s.fields; fields = field_places ks empty s.fields }

first_behind : (n : List ℕ) (v : Known) (ks : List Known) (ss : List PlainStruct) → FirstIs n v ks → FirstIs n v (known_behind ks ss)
first_behind n v ks [] f = f
first_behind n v ks (s ∷ ss) f = first_behind n v (ks ++ entry ks s ∷ []) ss (first_more n v ks _ f)

-- the names of structs
abbrev pub struct_names : List StructDecl → List (List ℕ)
struct_names ss = map (λ (s : StructDecl). s.name) ss

-- the place of the first struct of a name
pub data FirstAt (n : List ℕ) : List StructDecl → ℕ → Type 0 where
  first : (x : StructDecl) (ss : List StructDecl) → bytes_eq x.name n ≡ true → FirstAt n (x ∷ ss) zero
  next : (x : StructDecl) (ss : List StructDecl) (k : ℕ) → bytes_eq x.name n ≡ false → FirstAt n ss k → FirstAt n (x ∷ ss) (suc k)

first_step : (x : StructDecl) (ss : List StructDecl) (n : List ℕ) (b : Bool) → bytes_eq x.name n ≡ b → (if b then true else has (struct_names ss) n) ≡ true
    → (has (struct_names ss) n ≡ true → FirstAt n ss (number_of (struct_names ss) n)) → FirstAt n (x ∷ ss) (if b then zero else suc (number_of (struct_names ss) n))
first_step x ss n true e h r = first x ss e
first_step x ss n false e h r = next x ss (number_of (struct_names ss) n) e (r h)

pub first_at : (ss : List StructDecl) (n : List ℕ) → has (struct_names ss) n ≡ true → FirstAt n ss (number_of (struct_names ss) n)
first_at [] n h = cc
first_at (x ∷ ss) n h = first_step x ss n (bytes_eq x.name n) refl h (first_at ss n)

pub first_has : (n : List ℕ) (ss : List StructDecl) (k : ℕ) → FirstAt n ss k → (has (struct_names ss) n ≡ true) × (k ≡ number_of (struct_names ss) n)
first_has n _ _ (first x ss e) = (
  ap (λ b. if b then true else has (struct_names ss) n) e,
  sym (ap (λ b. if b then zero else suc (number_of (struct_names ss) n)) e),
)
first_has n _ _ (next x ss k e f) =
    let r = first_has n ss k f in (
      ap (λ b. if b then true else has (struct_names ss) n) e ∙ r.0,
      ap suc r.1 ∙ sym (ap (λ b. if b then zero else suc (number_of (struct_names ss) n)) e),
    )

abbrev before : List Known → List StructDecl → ℕ → List Known
before ks ss k = known_behind ks (map struct_of (take k ss))

there_from : (ks : List Known) (ss : List StructDecl) (b : ℕ) (n : List ℕ) (k : ℕ) (s : StructDecl) → Lacks ks n → FirstAt n ss k → k < b → slice_get ss k ≡ Some s
    → Gives (before ks ss b) n (laid_out (before ks ss k) empty (map binding_of s.fields)) (field_places (before ks ss k) empty (map binding_of s.fields))
there_from ks _ zero n k s l f h g = absurd (omega arith)
there_from ks _ (suc b) n _ s l (first x ss e) h g =
    let same : x ≡ s = cc in
    first_gives n (entry ks (struct_of s)) _
    (first_behind n _ _ (map struct_of (take b ss)) (subst_last same (first_last n ks (entry ks (struct_of x)) l e)))
  where
    subst_last : {s : StructDecl} → x ≡ s → FirstIs n (entry ks (struct_of x)) (ks ++ entry ks (struct_of x) ∷ []) → FirstIs n (entry ks (struct_of s)) (ks ++ entry ks (struct_of x) ∷ [])
    subst_last q f = subst (λ (y : StructDecl). FirstIs n (entry ks (struct_of y)) (ks ++ entry ks (struct_of x) ∷ [])) q f
there_from ks _ (suc b) n _ s l (next x ss k e f) h g =
    there_from (ks ++ entry ks (struct_of x) ∷ []) ss b n k s (lacks_more ks n _ l e) f (omega arith) g

-- among the first so many a name means the first struct that has it
pub there : (ss : List StructDecl) (b : ℕ) (n : List ℕ) (k : ℕ) (s : StructDecl) → FirstAt n ss k → k < b → slice_get ss k ≡ Some s
    → Gives (known (map struct_of (take b ss))) n (struct_shape (map struct_of (take k ss)) (struct_of s)) (field_places (known (map struct_of (take k ss))) empty (map binding_of s.fields))
unfolding known
there ss b n k s f h g = there_from [] ss b n k s tt f h g

not_there_from : (ks : List Known) (ss : List StructDecl) (b : ℕ) (n : List ℕ) → Lacks ks n → ((k : ℕ) → FirstAt n ss k → b ≤ k) → Gives (before ks ss b) n empty []
not_there_from ks ss zero n l h = lacks_gives ks n l
not_there_from ks [] (suc b) n l h = lacks_gives ks n l
not_there_from ks (x ∷ ss) (suc b) n l h =
    by_case (bytes_eq x.name n) (λ e. let r = h zero (first x ss e) in absurd (omega arith))
    (λ e. not_there_from (ks ++ entry ks (struct_of x) ∷ []) ss b n (lacks_more ks n _ l e) (λ k f. let r = h (suc k) (next x ss k e f) in omega arith))

-- and has nothing where none of them has it
pub not_there : (ss : List StructDecl) (b : ℕ) (n : List ℕ) → ((k : ℕ) → FirstAt n ss k → b ≤ k) → Gives (known (map struct_of (take b ss))) n empty []
unfolding known
not_there ss b n h = not_there_from [] ss b n tt h
