-- A spelling is the spelling of one firmware.
use Rattle.std.proofs.Common.{◌≡◌, ℕ, [], ◌∷◌, ◌++◌, List, Bool, true, false, refl, sym, ap, ◌∙◌, subst, append_assoc, append-nil, Option, Some, None, flat_map}
use Rattle.ir_model.specs.declared.firmware.Block.{Block}
use Rattle.ir_model.specs.declared.firmware.Cell.{Cell}
use Rattle.ir_model.specs.declared.firmware.Cell.TheVariants as cell
use Rattle.ir_model.specs.declared.firmware.Inst.{Inst}
use Rattle.ir_model.specs.declared.firmware.Inst.TheVariants as inst
use Rattle.ir_model.specs.declared.firmware.Term.{Term}
use Rattle.ir_model.specs.declared.firmware.Term.TheVariants as term
use Rattle.ir_model.specs.declared.firmware.Peripheral.{Peripheral}
use Rattle.ir_model.specs.declared.token.Keyword.TheVariants as key
use Rattle.ir_model.specs.declared.token.Mark.{Mark}
use Rattle.ir_model.specs.declared.token.Mark.TheVariants as mark
use Rattle.ir_model.specs.Types.{U8, U16, U32, Pointer, Array, Named, Callee, PlainTypes, none, more, nothing, gives}
use Rattle.ir_model.specs.Plain.{PlainBinding, PlainStruct, PlainGlobal, PlainFunc, PlainFile, PlainFirmware}
use Rattle.ir_model.specs.Tokens as model
use Rattle.ir_reader.specs.Found.{Found, Is, End}
use Rattle.ir_reader.specs.Reading.{is_found_key}
use Rattle.ir_grammar.specs.Spelling.{spell_type, spell_row, spell_more_row, spell_gives, separated, spell_binding, spell_fields, spell_struct, spell_structs, spell_periph, spell_periphs, spell_cell, spell_cells, spell_init, spell_constant, spell_global, spell_globals, spell_word, spell_args, spell_inst, spell_term, spell_block, spell_blocks, spell_local, spell_reg, spell_locals, spell_regs, spell_head, spell_body, spell_func, spell_funcs, spell_file, spell_files, spell_firmware}
use Rattle.ir_reader.specs.Spelling.{Spelling, Name, Key, Sign, as_found}

-- the first of a spelling passes a test
abbrev first_is : (Found → Bool) → Spelling → Bool
first_is p [] = false
first_is p (f ∷ fs) = p f

-- spellings of two things, with something behind each, are of one thing, and what stands behind them is one
abbrev One : {A : Type 0} → A → A → Spelling → Spelling → Type 0
One a b x y = (a ≡ b) × (x ≡ y)

-- a spelling, where what stands behind it is as it has to be, is that of one thing
abbrev Unique : {A : Type 0} → (Spelling → Type 0) → (A → Spelling) → Type 0
Unique {A} Q f = (a b : A) (x y : Spelling) → Q x → Q y → f a ++ x ≡ f b ++ y → One a b x y

-- each has a first token that passes the test, and may stand behind another
abbrev Starts : {A : Type 0} → (Found → Bool) → (Spelling → Type 0) → (A → Spelling) → Type 0
Starts {A} p Q f = (a : A) (x : Spelling) → (first_is p (f a ++ x) ≡ true) × Q (f a ++ x)

clash : (p : Found → Bool) (x y : Spelling) → x ≡ y → first_is p x ≡ false → first_is p y ≡ true → ⊥
clash p x y e h i = let j : first_is p y ≡ false = subst (λ (z : Spelling). first_is p z ≡ false) e h in cc

list_behind : {A : Type 0} (p : Found → Bool) (Q : Spelling → Type 0) (f : A → Spelling) (as_ : List A) (x : Spelling) → Starts p Q f → Q x → Q (flat_map f as_ ++ x)
list_behind p Q f [] x s q = q
list_behind p Q f (a ∷ as_) x s q = rw (append_assoc (f a) (flat_map f as_) x) ((s a (flat_map f as_ ++ x)).1)

-- things one behind another, up to something else
list_unique : {A : Type 0} (p : Found → Bool) (Q : Spelling → Type 0) (f : A → Spelling) → Starts p Q f → Unique Q f → (as_ bs : List A) (x y : Spelling) → first_is p x ≡ false → first_is p y ≡ false → Q x → Q y
    → flat_map f as_ ++ x ≡ flat_map f bs ++ y → One as_ bs x y
list_unique p Q f s u [] [] x y h i q r e = (refl, e)
list_unique p Q f s u [] (b ∷ bs) x y h i q r e = absurd (clash p x _ (e ∙ append_assoc (f b) (flat_map f bs) y) h (s b _).0)
list_unique p Q f s u (a ∷ as_) [] x y h i q r e = absurd (clash p y _ (sym e ∙ append_assoc (f a) (flat_map f as_) x) i (s a _).0)
list_unique p Q f s u (a ∷ as_) (b ∷ bs) x y h i q r e =
    let o = u a b (flat_map f as_ ++ x) (flat_map f bs ++ y) (list_behind p Q f as_ x s q) (list_behind p Q f bs y s r) (sym (append_assoc (f a) (flat_map f as_) x) ∙ (e ∙ append_assoc (f b) (flat_map f bs) y)) in
    let m = list_unique p Q f s u as_ bs x y h i q r o.1 in
    (cc (o.0, m.0), m.1)

-- behind one of a list with commas
abbrev more_of : {A : Type 0} → (A → Spelling) → List A → Spelling
more_of f [] = []
more_of f (a ∷ as_) = Sign mark.Comma ∷ separated as_found f (a ∷ as_)

separated_more : {A : Type 0} (f : A → Spelling) (a : A) (as_ : List A) (x : Spelling) → separated as_found f (a ∷ as_) ++ x ≡ f a ++ (more_of f as_ ++ x)
separated_more f a [] x = refl
separated_more f a (b ∷ bs) x = append_assoc (f a) (Sign mark.Comma ∷ separated as_found f (b ∷ bs)) x

more_unique : {A : Type 0} (Q : Spelling → Type 0) (f : A → Spelling) (c : Found) → Unique Q f → ((z : Spelling) → Q (Sign mark.Comma ∷ z)) → ((z : Spelling) → Q (c ∷ z)) → (Sign mark.Comma ≡ c → ⊥) → (as_ bs : List A) (x y : Spelling)
    → more_of f as_ ++ c ∷ x ≡ more_of f bs ++ c ∷ y → One as_ bs x y
more_unique Q f c u k l n [] [] x y e = (refl, cc)
more_unique Q f c u k l n [] (b ∷ bs) x y e = let h : Sign mark.Comma ≡ c = cc in absurd (n h)
more_unique Q f c u k l n (a ∷ as_) [] x y e = let h : Sign mark.Comma ≡ c = cc in absurd (n h)
more_unique {A = A} Q f c u k l n (a ∷ as_) (b ∷ bs) x y e =
    let h : (separated as_found) f (a ∷ as_) ++ c ∷ x ≡ separated as_found f (b ∷ bs) ++ c ∷ y = cc in
    let o = u a b _ _ (behind as_ x) (behind bs y) (sym (separated_more f a as_ (c ∷ x)) ∙ (h ∙ separated_more f b bs (c ∷ y))) in
    let m = more_unique Q f c u k l n as_ bs x y o.1 in
    (cc (o.0, m.0), m.1)
  where
    behind : (ds : List A) (z : Spelling) → Q (more_of f ds ++ c ∷ z)
    behind [] z = l z
    behind (d ∷ ds) z = k _

-- things with commas between them, up to a mark
separated_unique : {A : Type 0} (p : Found → Bool) (Q : Spelling → Type 0) (f : A → Spelling) (c : Found) → Unique Q f → ((a : A) (x : Spelling) → first_is p (f a ++ x) ≡ true) → ((z : Spelling) → Q (Sign mark.Comma ∷ z)) → ((z : Spelling) → Q (c ∷ z))
    → (Sign mark.Comma ≡ c → ⊥) → p c ≡ false → (as_ bs : List A) (x y : Spelling) → separated as_found f as_ ++ c ∷ x ≡ separated as_found f bs ++ c ∷ y → One as_ bs x y
separated_unique p Q f c u s k l n h [] [] x y e = (refl, cc)
separated_unique p Q f c u s k l n h [] (b ∷ bs) x y e = absurd (clash p (c ∷ x) _ (e ∙ separated_more f b bs (c ∷ y)) h (s b _))
separated_unique p Q f c u s k l n h (a ∷ as_) [] x y e = absurd (clash p (c ∷ y) _ (sym e ∙ separated_more f a as_ (c ∷ x)) h (s a _))
separated_unique p Q f c u s k l n h (a ∷ as_) (b ∷ bs) x y e =
    let m = more_unique Q f c u k l n (a ∷ as_) (b ∷ bs) x y (ap (λ z. Sign mark.Comma ∷ z) e) in
    m

abbrev is_arrow : Found → Bool
is_arrow (Is (model.Sign mark.Arrow)) = true
is_arrow _ = false

-- no arrow is next, which might give a function type its result
abbrev NoArrow : Spelling → Type 0
NoArrow x = first_is is_arrow x ≡ false

row_behind : (ts : PlainTypes) (x : Spelling) → NoArrow (spell_more_row as_found ts ++ x)
row_behind none x = refl
row_behind (more t ts) x = refl

mutual
  type_unique : Unique NoArrow (spell_type as_found)
  type_unique U8 U8 x y h i e = (refl, cc)
  type_unique U16 U16 x y h i e = (refl, cc)
  type_unique U32 U32 x y h i e = (refl, cc)
  type_unique (Pointer t) (Pointer u) x y h i e =
      let r : (spell_type as_found) t ++ x ≡ spell_type as_found u ++ y = cc in
      let o = type_unique t u x y h i r in
      (ap Pointer o.0, o.1)
  type_unique (Array n t) (Array m u) x y h i e =
      let r : (spell_type as_found) t ++ x ≡ spell_type as_found u ++ y = cc in
      let o = type_unique t u x y h i r in
      let k : n ≡ m = cc in
      (cc (k, o.0), o.1)
  type_unique (Named v) (Named w) x y h i e = (cc, cc)
  type_unique (Callee a r) (Callee b s) x y h i e =
      let g : (spell_row as_found a ++ spell_gives as_found r) ++ x ≡ (spell_row as_found b ++ spell_gives as_found s) ++ y = cc in
      let k = row_unique a b (spell_gives as_found r ++ x) (spell_gives as_found s ++ y) (sym (append_assoc (spell_row as_found a) (spell_gives as_found r) x) ∙ (g ∙ append_assoc (spell_row as_found b) (spell_gives as_found s) y)) in
      let o = gives_unique r s x y h i k.1 in
      (cc (k.0, o.0), o.1)
  type_unique _ _ x y _ _ e = cc

  row_unique : (a b : PlainTypes) (x y : Spelling) → spell_row as_found a ++ x ≡ spell_row as_found b ++ y → One a b x y
  row_unique none none x y e = (refl, cc)
  row_unique none (more U8 us) x y e = cc
  row_unique none (more _ us) x y e = cc
  row_unique (more U8 ts) none x y e = cc
  row_unique (more _ ts) none x y e = cc
  row_unique (more t ts) (more u us) x y e =
      let o = type_unique t u (spell_more_row as_found ts ++ x) (spell_more_row as_found us ++ y) (row_behind ts x) (row_behind us y) (sym (append_assoc (spell_type as_found t) (spell_more_row as_found ts) x) ∙ (e ∙ append_assoc (spell_type as_found u) (spell_more_row as_found us) y)) in
      let m = more_row_unique ts us x y o.1 in
      (cc (o.0, m.0), m.1)

  more_row_unique : (a b : PlainTypes) (x y : Spelling) → spell_more_row as_found a ++ x ≡ spell_more_row as_found b ++ y → One a b x y
  more_row_unique none none x y e = (refl, cc)
  more_row_unique none (more u us) x y e = cc
  more_row_unique (more t ts) none x y e = cc
  more_row_unique (more t ts) (more u us) x y e =
      let g : (spell_type as_found t ++ spell_more_row as_found ts) ++ x ≡ (spell_type as_found u ++ spell_more_row as_found us) ++ y = cc in
      let o = type_unique t u (spell_more_row as_found ts ++ x) (spell_more_row as_found us ++ y) (row_behind ts x) (row_behind us y) (sym (append_assoc (spell_type as_found t) (spell_more_row as_found ts) x) ∙ (g ∙ append_assoc (spell_type as_found u) (spell_more_row as_found us) y)) in
      let m = more_row_unique ts us x y o.1 in
      (cc (o.0, m.0), m.1)

  gives_unique : Unique NoArrow (spell_gives as_found)
  gives_unique nothing nothing x y h i e = (refl, e)
  gives_unique nothing (gives u) x y h i e = absurd (clash is_arrow x _ e h refl)
  gives_unique (gives t) nothing x y h i e = absurd (clash is_arrow y _ (sym e) i refl)
  gives_unique (gives t) (gives u) x y h i e =
      let r : (spell_type as_found) t ++ x ≡ spell_type as_found u ++ y = cc in
      let o = type_unique t u x y h i r in
      (ap gives o.0, o.1)

abbrev is_name_found : Found → Bool
is_name_found (Is (model.Name w)) = true
is_name_found _ = false

abbrev Any : Spelling → Type 0
Any x = Unit {0}

binding_unique : Unique NoArrow (spell_binding as_found)
binding_unique s r x y h i e =
    let g : (spell_type as_found) s.ty ++ x ≡ spell_type as_found r.ty ++ y = cc in
    let o = type_unique s.ty r.ty x y h i g in
    let n : s.name ≡ r.name = cc in
    (same_binding s r n o.0, o.1)
  where
    same_binding : (s r : PlainBinding) → s.name ≡ r.name → s.ty ≡ r.ty → s ≡ r
    same_binding s r n t = let e : ◌≡◌ {A = PlainBinding} (record { name = s.name; ty = s.ty }) (record { name = r.name; ty = r.ty }) = rw (n, t) refl in e

bindings_unique : (m : Mark) → (Sign mark.Comma ≡ Sign m → ⊥) → is_arrow (Sign m) ≡ false → (as_ bs : List PlainBinding) (x y : Spelling) → separated as_found (spell_binding as_found) as_ ++ Sign m ∷ x ≡ separated as_found (spell_binding as_found) bs ++ Sign m ∷ y → One as_ bs x y
bindings_unique m n a = separated_unique is_name_found NoArrow (spell_binding as_found) (Sign m) binding_unique (λ a x. refl) (λ z. refl) (λ z. a) n refl

-- declarations

struct_unique : Unique Any (spell_struct as_found)
struct_unique s r x y h i e =
    let g : (spell_fields as_found) s.fields ++ x ≡ spell_fields as_found r.fields ++ y = cc in
    let o = bindings_unique mark.CloseBrace (λ h. cc) refl s.fields r.fields x y (sym (append_assoc (separated as_found (spell_binding as_found) s.fields) (Sign mark.CloseBrace ∷ []) x) ∙ (g ∙ append_assoc (separated as_found (spell_binding as_found) r.fields) (Sign mark.CloseBrace ∷ []) y)) in
    let n : s.name ≡ r.name = cc in
    (same_struct s r n o.0, o.1)
  where
    same_struct : (s r : PlainStruct) → s.name ≡ r.name → s.fields ≡ r.fields → s ≡ r
    same_struct s r n t = let e : ◌≡◌ {A = PlainStruct} (record { name = s.name; fields = s.fields }) (record { name = r.name; fields = r.fields }) = rw (n, t) refl in e

structs_unique : (as_ bs : List PlainStruct) (x y : Spelling) → first_is (is_found_key key.Struct) x ≡ false → first_is (is_found_key key.Struct) y ≡ false → spell_structs as_found as_ ++ x ≡ spell_structs as_found bs ++ y → One as_ bs x y
structs_unique as_ bs x y h i e = list_unique (is_found_key key.Struct) Any (spell_struct as_found) (λ a x. (refl, tt)) struct_unique as_ bs x y h i tt tt e

periph_unique : Unique Any (spell_periph as_found)
periph_unique p q x y h i e =
    let n : p.name ≡ q.name = cc in
    let b : p.base ≡ q.base = cc in
    let s : p.size ≡ q.size = cc in
    (same_periph p q n b s, cc)
  where
    same_periph : (p q : Peripheral) → p.name ≡ q.name → p.base ≡ q.base → p.size ≡ q.size → p ≡ q
    same_periph p q n b s = let e : ◌≡◌ {A = Peripheral} (record { name = p.name; base = p.base; size = p.size }) (record { name = q.name; base = q.base; size = q.size }) = rw (n, b, s) refl in e

periphs_unique : (as_ bs : List Peripheral) (x y : Spelling) → first_is (is_found_key key.Periph) x ≡ false → first_is (is_found_key key.Periph) y ≡ false → spell_periphs as_found as_ ++ x ≡ spell_periphs as_found bs ++ y → One as_ bs x y
periphs_unique as_ bs x y h i e = list_unique (is_found_key key.Periph) Any (spell_periph as_found) (λ a x. (refl, tt)) periph_unique as_ bs x y h i tt tt e

cell_unique : Unique Any (spell_cell as_found)
cell_unique (cell.Word n) (cell.Word m) x y h i e = (cc, cc)
cell_unique (cell.Function f) (cell.Function g) x y h i e = (cc, cc)
cell_unique (cell.Address f) (cell.Address g) x y h i e = (cc, cc)
cell_unique _ _ x y _ _ e = cc

abbrev is_cell_start : Found → Bool
is_cell_start (Is (model.Number n)) = true
is_cell_start (Is (model.Key w)) = true
is_cell_start _ = false

cell_starts : (c : Cell) (x : Spelling) → first_is is_cell_start (spell_cell as_found c ++ x) ≡ true
cell_starts (cell.Word n) x = refl
cell_starts (cell.Function f) x = refl
cell_starts (cell.Address f) x = refl

abbrev is_equal : Found → Bool
is_equal (Is (model.Sign mark.Equal)) = true
is_equal _ = false

abbrev NoEqual : Spelling → Type 0
NoEqual x = first_is is_equal x ≡ false

init_unique : Unique NoEqual (spell_init as_found)
init_unique [] [] x y h i e = (refl, e)
init_unique [] (d ∷ ds) x y h i e = absurd (clash is_equal x _ e h refl)
init_unique (c ∷ cs) [] x y h i e = absurd (clash is_equal y _ (sym e) i refl)
init_unique (c ∷ cs) (d ∷ ds) x y h i e =
    let g : (spell_cells as_found) (c ∷ cs) ++ x ≡ spell_cells as_found (d ∷ ds) ++ y = cc in
    separated_unique is_cell_start Any (spell_cell as_found) (Sign mark.CloseBrace) cell_unique cell_starts (λ z. tt) (λ z. tt) (λ h. cc) refl (c ∷ cs) (d ∷ ds) x y
    (sym (append_assoc (separated as_found (spell_cell as_found) (c ∷ cs)) (Sign mark.CloseBrace ∷ []) x) ∙ (g ∙ append_assoc (separated as_found (spell_cell as_found) (d ∷ ds)) (Sign mark.CloseBrace ∷ []) y))

-- behind a global
abbrev BehindGlobal : Spelling → Type 0
BehindGlobal x = NoArrow x × NoEqual x

init_behind : (cs : List Cell) (x : Spelling) → BehindGlobal x → NoArrow (spell_init as_found cs ++ x)
init_behind [] x h = h.0
init_behind (c ∷ cs) x h = refl

parts : (a b c x : Spelling) → (a ++ b ++ c) ++ x ≡ a ++ (b ++ (c ++ x))
parts a b c x = simp append_assoc

name_behind_constant : (c d : Bool) (x y : Spelling) (v w : List ℕ) → spell_constant as_found c ++ (Name v ∷ x) ≡ spell_constant as_found d ++ (Name w ∷ y) → One c d (Name v ∷ x) (Name w ∷ y)
name_behind_constant true true x y v w e = (refl, cc)
name_behind_constant false false x y v w e = (refl, cc)
name_behind_constant true false x y v w e = cc
name_behind_constant false true x y v w e = cc

global_unique : Unique BehindGlobal (spell_global as_found)
global_unique g d x y h i e =
    let k = sym (parts (spell_constant as_found g.constant) (spell_binding as_found (record { name = g.name; ty = g.ty })) (spell_init as_found g.init) x) ∙ (e ∙ parts (spell_constant as_found d.constant) (spell_binding as_found (record { name = d.name; ty = d.ty })) (spell_init as_found d.init) y) in
    let c = name_behind_constant g.constant d.constant _ _ g.name d.name k in
    let s = binding_unique (record { name = g.name; ty = g.ty }) (record { name = d.name; ty = d.ty }) (spell_init as_found g.init ++ x) (spell_init as_found d.init ++ y) (init_behind g.init x h) (init_behind d.init y i) c.1 in
    let j = init_unique g.init d.init x y h.1 i.1 s.1 in
    let n : g.name ≡ d.name = ap (λ (z : PlainBinding). z.name) s.0 in
    let t : g.ty ≡ d.ty = ap (λ (z : PlainBinding). z.ty) s.0 in
    (same_global g d n c.0 t j.0, j.1)
  where
    same_global : (g d : PlainGlobal) → g.name ≡ d.name → g.constant ≡ d.constant → g.ty ≡ d.ty → g.init ≡ d.init → g ≡ d
    same_global g d n c t i =
        let e : ◌≡◌ {A = PlainGlobal} (record { name = g.name; constant = g.constant; ty = g.ty; init = g.init }) (record { name = d.name; constant = d.constant; ty = d.ty; init = d.init }) = rw (n, c, t, i) refl in
        e

abbrev is_global_start : Found → Bool
is_global_start (Is (model.Key key.Const)) = true
is_global_start (Is (model.Key key.Global)) = true
is_global_start _ = false

global_starts : Starts is_global_start BehindGlobal (spell_global as_found)
global_starts g x = by_constant g.constant
  where
    by_constant : (c : Bool) → (first_is is_global_start ((spell_constant as_found c ++ spell_binding as_found (record { name = g.name; ty = g.ty }) ++ spell_init as_found g.init) ++ x) ≡ true)
        × BehindGlobal ((spell_constant as_found c ++ spell_binding as_found (record { name = g.name; ty = g.ty }) ++ spell_init as_found g.init) ++ x)
    by_constant true = (refl, (refl, refl))
    by_constant false = (refl, (refl, refl))

globals_unique : (as_ bs : List PlainGlobal) (x y : Spelling) → first_is is_global_start x ≡ false → first_is is_global_start y ≡ false → BehindGlobal x → BehindGlobal y → spell_globals as_found as_ ++ x ≡ spell_globals as_found bs ++ y → One as_ bs x y
globals_unique as_ bs x y h i q r e = list_unique is_global_start BehindGlobal (spell_global as_found) global_starts global_unique as_ bs x y h i q r e

-- instructions and blocks

word_unique : Unique Any (spell_word as_found)
word_unique v w x y h i e = (cc, cc)

args_unique : (as_ bs : List (List ℕ)) (x y : Spelling) → spell_args as_found as_ ++ x ≡ spell_args as_found bs ++ y → One as_ bs x y
args_unique as_ bs x y e =
    separated_unique is_name_found Any (spell_word as_found) (Sign mark.Close) word_unique (λ a x. refl) (λ z. tt) (λ z. tt) (λ h. cc) refl as_ bs x y
    (sym (append_assoc (separated as_found (spell_word as_found) as_) (Sign mark.Close ∷ []) x) ∙ (e ∙ append_assoc (separated as_found (spell_word as_found) bs) (Sign mark.Close ∷ []) y))

-- what stands behind the first, behind the first two, three, and so on
abbrev behind_1 : Spelling → Spelling
behind_1 [] = []
behind_1 (f ∷ x) = x

abbrev behind_2 : Spelling → Spelling
behind_2 x = behind_1 (behind_1 x)

abbrev behind_3 : Spelling → Spelling
behind_3 x = behind_1 (behind_2 x)

-- the name that is the first
abbrev first_word : Spelling → List ℕ
first_word (Is (model.Name w) ∷ x) = w
first_word _ = []

-- the instruction that gives a register what this spells, where no call does, and what stands behind it
abbrev value_back : List ℕ → Spelling → Inst × Spelling
value_back to (Is (model.Number v) ∷ x) = (inst.Const to v, x)
value_back to (Is (model.Name a) ∷ x) = (inst.Move to a, x)
value_back to (Is (model.Operation op) ∷ x) = (inst.Bin op to (first_word x) (first_word (behind_2 x)), behind_3 x)
value_back to (Is (model.Comparison op) ∷ x) = (inst.Cmp op to (first_word x) (first_word (behind_2 x)), behind_3 x)
value_back to (Is (model.Key key.Addr) ∷ x) = (inst.Addr to (first_word x), behind_1 x)
value_back to (Is (model.Key key.Faddr) ∷ x) = (inst.FAddr to (first_word x), behind_1 x)
value_back to (Is (model.Key key.Elem) ∷ x) = (inst.Elem to (first_word x) (first_word (behind_2 x)), behind_3 x)
value_back to (Is (model.Key key.Field) ∷ x) = (inst.Field to (first_word x) (first_word (behind_2 x)), behind_3 x)
value_back to x = (inst.Load to (first_word (behind_1 x)), behind_2 x)

-- the instruction that this spells, where it is no call, and what stands behind it
abbrev inst_back : Spelling → Inst × Spelling
inst_back (Is (model.Name to) ∷ x) = value_back to (behind_1 x)
inst_back x = (inst.Store (first_word (behind_1 x)) (first_word (behind_3 x)), behind_2 (behind_2 x))

-- the register, the function and what stands behind the bracket, where this spells a call
abbrev call_back : Spelling → Option (List ℕ) × List ℕ × Spelling
call_back (Is (model.Name to) ∷ x) = (Some to, first_word (behind_2 x), behind_2 (behind_2 x))
call_back x = (None, first_word (behind_1 x), behind_3 x)

-- 1 for a call, 2 for one by an address
abbrev word_kind : Spelling → ℕ
word_kind (Is (model.Key key.Call) ∷ x) = 1
word_kind (Is (model.Key key.Icall) ∷ x) = 2
word_kind _ = 0

abbrev call_kind : Spelling → ℕ
call_kind (Is (model.Name to) ∷ x) = word_kind (behind_1 x)
call_kind x = word_kind x

-- how an instruction is read back
data Form (a : Inst) : Type 0 where
  plain : ((x : Spelling) → call_kind (spell_inst as_found a ++ x) ≡ 0) → ((x : Spelling) → inst_back (spell_inst as_found a ++ x) ≡ (a, x)) → Form a
  call : (to : Option (List ℕ)) (f : List ℕ) (as_ : List (List ℕ)) → a ≡ inst.Call to f as_ → ((x : Spelling) → call_kind (spell_inst as_found a ++ x) ≡ 1)
      → ((x : Spelling) → call_back (spell_inst as_found a ++ x) ≡ (to, f, spell_args as_found as_ ++ x)) → Form a
  by_address : (to : Option (List ℕ)) (f : List ℕ) (as_ : List (List ℕ)) → a ≡ inst.ICall to f as_ → ((x : Spelling) → call_kind (spell_inst as_found a ++ x) ≡ 2)
      → ((x : Spelling) → call_back (spell_inst as_found a ++ x) ≡ (to, f, spell_args as_found as_ ++ x)) → Form a

form : (a : Inst) → Form a
form (inst.Call None f as_) = call None f as_ refl (λ x. refl) (λ x. refl)
form (inst.Call (Some to) f as_) = call (Some to) f as_ refl (λ x. refl) (λ x. refl)
form (inst.ICall None f as_) = by_address None f as_ refl (λ x. refl) (λ x. refl)
form (inst.ICall (Some to) f as_) = by_address (Some to) f as_ refl (λ x. refl) (λ x. refl)
form (inst.Const to v) = plain (λ x. refl) (λ x. refl)
form (inst.Move to b) = plain (λ x. refl) (λ x. refl)
form (inst.Bin op to b c) = plain (λ x. refl) (λ x. refl)
form (inst.Cmp op to b c) = plain (λ x. refl) (λ x. refl)
form (inst.Addr to b) = plain (λ x. refl) (λ x. refl)
form (inst.FAddr to b) = plain (λ x. refl) (λ x. refl)
form (inst.Elem to b c) = plain (λ x. refl) (λ x. refl)
form (inst.Field to b c) = plain (λ x. refl) (λ x. refl)
form (inst.Load to b) = plain (λ x. refl) (λ x. refl)
form (inst.Store to b) = plain (λ x. refl) (λ x. refl)

-- the parts of two calls that are read back
same_parts : (to ot : Option (List ℕ)) (f g : List ℕ) (as_ bs : List (List ℕ)) (x y : Spelling) → ◌≡◌ {A = Option (List ℕ) × List ℕ × Spelling} (to, f, spell_args as_found as_ ++ x) (ot, g, spell_args as_found bs ++ y)
    → (to ≡ ot) × (f ≡ g) × One as_ bs x y
same_parts to ot f g as_ bs x y e =
    let r : (spell_args as_found) as_ ++ x ≡ spell_args as_found bs ++ y = ap (λ (z : Option (List ℕ) × List ℕ × Spelling). z.2) e in
    (ap (λ (z : Option (List ℕ) × List ℕ × Spelling). z.0) e, ap (λ (z : Option (List ℕ) × List ℕ × Spelling). z.1) e, args_unique as_ bs x y r)

by_form : (a b : Inst) (x y : Spelling) → spell_inst as_found a ++ x ≡ spell_inst as_found b ++ y → Form a → Form b → One a b x y
by_form a b x y e (plain k c) (plain l d) =
    let o : ◌≡◌ {A = Inst × Spelling} (a, x) (b, y) = sym (c x) ∙ (ap inst_back e ∙ d y) in
    (ap (λ (z : Inst × Spelling). z.0) o, ap (λ (z : Inst × Spelling). z.1) o)
by_form a b x y e (call to f as_ i k c) (call ot g bs j l d) =
    let o = same_parts to ot f g as_ bs x y (sym (c x) ∙ (ap call_back e ∙ d y)) in
    let m : ◌≡◌ {A = Inst} (inst.Call to f as_) (inst.Call ot g bs) = rw (o.0, o.1, o.2.0) refl in
    (i ∙ (m ∙ sym j), o.2.1)
by_form a b x y e (by_address to f as_ i k c) (by_address ot g bs j l d) =
    let o = same_parts to ot f g as_ bs x y (sym (c x) ∙ (ap call_back e ∙ d y)) in
    let m : ◌≡◌ {A = Inst} (inst.ICall to f as_) (inst.ICall ot g bs) = rw (o.0, o.1, o.2.0) refl in
    (i ∙ (m ∙ sym j), o.2.1)
by_form a b x y e (plain k c) (call ot g bs j l d) = let n : 0 ≡ 1 = sym (k x) ∙ (ap call_kind e ∙ l y) in cc n
by_form a b x y e (plain k c) (by_address ot g bs j l d) = let n : 0 ≡ 2 = sym (k x) ∙ (ap call_kind e ∙ l y) in cc n
by_form a b x y e (call to f as_ i k c) (plain l d) = let n : 1 ≡ 0 = sym (k x) ∙ (ap call_kind e ∙ l y) in cc n
by_form a b x y e (call to f as_ i k c) (by_address ot g bs j l d) = let n : 1 ≡ 2 = sym (k x) ∙ (ap call_kind e ∙ l y) in cc n
by_form a b x y e (by_address to f as_ i k c) (plain l d) = let n : 2 ≡ 0 = sym (k x) ∙ (ap call_kind e ∙ l y) in cc n
by_form a b x y e (by_address to f as_ i k c) (call ot g bs j l d) = let n : 2 ≡ 1 = sym (k x) ∙ (ap call_kind e ∙ l y) in cc n

inst_unique : Unique Any (spell_inst as_found)
inst_unique a b x y h i e = by_form a b x y e (form a) (form b)

abbrev is_inst_start : Found → Bool
is_inst_start (Is (model.Name w)) = true
is_inst_start (Is (model.Key key.Store)) = true
is_inst_start (Is (model.Key key.Call)) = true
is_inst_start (Is (model.Key key.Icall)) = true
is_inst_start _ = false

inst_starts : Starts is_inst_start Any (spell_inst as_found)
inst_starts (inst.Call None f as_) x = (refl, tt)
inst_starts (inst.Call (Some to) f as_) x = (refl, tt)
inst_starts (inst.ICall None f as_) x = (refl, tt)
inst_starts (inst.ICall (Some to) f as_) x = (refl, tt)
inst_starts _ x = (refl, tt)

-- a label or the closing brace
abbrev BehindBlock : Spelling → Type 0
BehindBlock (Is (model.Sign mark.CloseBrace) ∷ x) = Unit {0}
BehindBlock (Is (model.Name w) ∷ Is (model.Sign mark.Colon) ∷ x) = Unit {0}
BehindBlock _ = ⊥

label_clash : (r : List ℕ) (x : Spelling) → BehindBlock (Name r ∷ x) → BehindBlock x → ⊥
label_clash r [] h i = h
label_clash r (Is (model.Sign mark.Colon) ∷ x) h i = i
label_clash r (Is (model.Sign _) ∷ x) h i = h
label_clash r (Is (model.Name w) ∷ x) h i = h
label_clash r (f ∷ x) h i = h

no_register : (r : List ℕ) (x y : Spelling) → BehindBlock x → BehindBlock y → x ≡ Name r ∷ y → ⊥
no_register r x y h i e = label_clash r y (subst BehindBlock e h) i

term_unique : Unique BehindBlock (spell_term as_found)
term_unique (term.Jump a) (term.Jump b) x y h i e = (cc, cc)
term_unique (term.Branch on a b) (term.Branch to c d) x y h i e = (cc, cc)
term_unique (term.Ret None) (term.Ret None) x y h i e = (refl, cc)
term_unique (term.Ret None) (term.Ret (Some r)) x y h i e = let g : x ≡ Name r ∷ y = cc in absurd (no_register r x y h i g)
term_unique (term.Ret (Some r)) (term.Ret None) x y h i e = let g : y ≡ Name r ∷ x = cc in absurd (no_register r y x i h g)
term_unique (term.Ret (Some r)) (term.Ret (Some s)) x y h i e = (cc, cc)
term_unique _ _ x y _ _ e = cc

term_no_inst : (t : Term) (x : Spelling) → first_is is_inst_start (spell_term as_found t ++ x) ≡ false
term_no_inst (term.Jump a) x = refl
term_no_inst (term.Branch on a b) x = refl
term_no_inst (term.Ret r) x = refl

block_unique : Unique BehindBlock (spell_block as_found)
block_unique b d x y h i e =
    let g : (flat_map (spell_inst as_found) b.insts ++ spell_term as_found b.term) ++ x ≡ (flat_map (spell_inst as_found) d.insts ++ spell_term as_found d.term) ++ y = cc in
    let l : b.label ≡ d.label = cc in
    let o = list_unique is_inst_start Any (spell_inst as_found) inst_starts inst_unique b.insts d.insts (spell_term as_found b.term ++ x) (spell_term as_found d.term ++ y) (term_no_inst b.term x) (term_no_inst d.term y) tt tt
    (sym (append_assoc (flat_map (spell_inst as_found) b.insts) (spell_term as_found b.term) x) ∙ (g ∙ append_assoc (flat_map (spell_inst as_found) d.insts) (spell_term as_found d.term) y)) in
    let t = term_unique b.term d.term x y h i o.1 in
    (same_block b d l o.0 t.0, t.1)
  where
    same_block : (b d : Block) → b.label ≡ d.label → b.insts ≡ d.insts → b.term ≡ d.term → b ≡ d
    same_block b d l i t = let e : ◌≡◌ {A = Block} (record { label = b.label; insts = b.insts; term = b.term }) (record { label = d.label; insts = d.insts; term = d.term }) = rw (l, i, t) refl in e

blocks_unique : (as_ bs : List Block) (x y : Spelling) → spell_blocks as_found as_ ++ x ≡ spell_blocks as_found bs ++ y → One as_ bs x y
blocks_unique as_ bs x y e =
    let o = list_unique is_name_found BehindBlock (spell_block as_found) (λ a x. (refl, tt)) block_unique as_ bs (Sign mark.CloseBrace ∷ x) (Sign mark.CloseBrace ∷ y) refl refl tt tt
    (sym (append_assoc (flat_map (spell_block as_found) as_) (Sign mark.CloseBrace ∷ []) x) ∙ (e ∙ append_assoc (flat_map (spell_block as_found) bs) (Sign mark.CloseBrace ∷ []) y)) in
    (o.0, cc (o.1))

-- functions and files

keyed_unique : (f : Found) → Unique NoArrow (λ (s : PlainBinding). f ∷ (spell_binding as_found s ++ []))
keyed_unique f s r x y h i e =
    let g : (spell_binding as_found s ++ []) ++ x ≡ (spell_binding as_found r ++ []) ++ y = cc in
    binding_unique s r x y h i (sym (ap (λ z. z ++ x) (append-nil (spell_binding as_found s))) ∙ (g ∙ ap (λ z. z ++ y) (append-nil (spell_binding as_found r))))

blocks_first : (p : Found → Bool) (bs : List Block) (x : Spelling) → p (Sign mark.CloseBrace) ≡ false → ((w : List ℕ) → p (Name w) ≡ false) → first_is p (spell_blocks as_found bs ++ x) ≡ false
blocks_first p [] x h i = h
blocks_first p (b ∷ bs) x h i = i b.label

regs_first : (p : Found → Bool) (rs : List PlainBinding) (bs : List Block) (x : Spelling) → p (Sign mark.CloseBrace) ≡ false → ((w : List ℕ) → p (Name w) ≡ false) → p (Key key.Reg) ≡ false → first_is p (spell_regs as_found rs ++ (spell_blocks as_found bs ++ x)) ≡ false
regs_first p [] bs x h i j = blocks_first p bs x h i
regs_first p (r ∷ rs) bs x h i j = j

body_unique : (ls ms rs ss : List PlainBinding) (bs ds : List Block) (x y : Spelling) → spell_body as_found ls rs bs ++ x ≡ spell_body as_found ms ss ds ++ y → (ls ≡ ms) × (rs ≡ ss) × One bs ds x y
body_unique ls ms rs ss bs ds x y e =
    let g = sym (nested (spell_locals as_found ls) (spell_regs as_found rs) (spell_blocks as_found bs) x) ∙ (e ∙ nested (spell_locals as_found ms) (spell_regs as_found ss) (spell_blocks as_found ds) y) in
    let l = list_unique (is_found_key key.Local) NoArrow (spell_local as_found) (λ a x. (refl, refl)) (keyed_unique (Key key.Local)) ls ms (spell_regs as_found rs ++ (spell_blocks as_found bs ++ x)) (spell_regs as_found ss ++ (spell_blocks as_found ds ++ y))
    (regs_first (is_found_key key.Local) rs bs x refl (λ w. refl) refl) (regs_first (is_found_key key.Local) ss ds y refl (λ w. refl) refl)
    (regs_first is_arrow rs bs x refl (λ w. refl) refl) (regs_first is_arrow ss ds y refl (λ w. refl) refl) g in
    let r = list_unique (is_found_key key.Reg) NoArrow (spell_reg as_found) (λ a x. (refl, refl)) (keyed_unique (Key key.Reg)) rs ss (spell_blocks as_found bs ++ x) (spell_blocks as_found ds ++ y)
    (blocks_first (is_found_key key.Reg) bs x refl (λ w. refl)) (blocks_first (is_found_key key.Reg) ds y refl (λ w. refl))
    (blocks_first is_arrow bs x refl (λ w. refl)) (blocks_first is_arrow ds y refl (λ w. refl)) l.1 in
    let b = blocks_unique bs ds x y r.1 in
    (l.0, r.0, b)
  where
    nested : (a b c x : Spelling) → (a ++ (b ++ c)) ++ x ≡ a ++ (b ++ (c ++ x))
    nested a b c x = simp append_assoc

func_unique : Unique Any (spell_func as_found)
func_unique f g x y h i e =
    let k : (spell_head as_found f.name f.params f.outcome ++ spell_body as_found f.locals f.regs f.blocks) ++ x ≡ (spell_head as_found g.name g.params g.outcome ++ spell_body as_found g.locals g.regs g.blocks) ++ y = cc in
    let s = sym (flat (separated as_found (spell_binding as_found) f.params) (spell_gives as_found f.outcome) (spell_body as_found f.locals f.regs f.blocks) x f.name) ∙ (k ∙ flat (separated as_found (spell_binding as_found) g.params) (spell_gives as_found g.outcome) (spell_body as_found g.locals g.regs g.blocks) y g.name) in
    let n : f.name ≡ g.name = cc in
    let t : (separated as_found) (spell_binding as_found) f.params ++ (Sign mark.Close ∷ (spell_gives as_found f.outcome ++ (Sign mark.OpenBrace ∷ (spell_body as_found f.locals f.regs f.blocks ++ x))))
    ≡ separated as_found (spell_binding as_found) g.params ++ (Sign mark.Close ∷ (spell_gives as_found g.outcome ++ (Sign mark.OpenBrace ∷ (spell_body as_found g.locals g.regs g.blocks ++ y)))) = cc in
    let p = bindings_unique mark.Close (λ h. cc) refl f.params g.params _ _ t in
    let o = gives_unique f.outcome g.outcome _ _ refl refl p.1 in
    let b : (spell_body as_found) f.locals f.regs f.blocks ++ x ≡ spell_body as_found g.locals g.regs g.blocks ++ y = cc (o.1) in
    let d = body_unique f.locals g.locals f.regs g.regs f.blocks g.blocks x y b in
    (same_func f g n p.0 o.0 d.0 d.1 d.2.0, d.2.1)
  where
    flat : (s r b x : Spelling) (n : List ℕ) → ((Name n ∷ Sign mark.Open ∷ ((s ++ Sign mark.Close ∷ []) ++ (r ++ Sign mark.OpenBrace ∷ []))) ++ b) ++ x ≡ Name n ∷ Sign mark.Open ∷ (s ++ (Sign mark.Close ∷ (r ++ (Sign mark.OpenBrace ∷ (b ++ x)))))
    flat s r b x n = simp append_assoc

    same_func : (f g : PlainFunc) → f.name ≡ g.name → f.params ≡ g.params → f.outcome ≡ g.outcome → f.locals ≡ g.locals → f.regs ≡ g.regs → f.blocks ≡ g.blocks → f ≡ g
    same_func f g n p o l r b =
        let e : ◌≡◌ {A = PlainFunc} (record { name = f.name; params = f.params; outcome = f.outcome; locals = f.locals; regs = f.regs; blocks = f.blocks }) (record { name = g.name; params = g.params; outcome = g.outcome; locals = g.locals; regs = g.regs; blocks = g.blocks }) =
        rw (n, p, o, l, r, b) refl in
        e

funcs_unique : (as_ bs : List PlainFunc) (x y : Spelling) → spell_funcs as_found as_ ++ x ≡ spell_funcs as_found bs ++ y → One as_ bs x y
funcs_unique as_ bs x y e =
    let o = list_unique (is_found_key key.Func) Any (spell_func as_found) (λ a x. (refl, tt)) func_unique as_ bs (Sign mark.CloseBrace ∷ x) (Sign mark.CloseBrace ∷ y) refl refl tt tt
    (sym (append_assoc (flat_map (spell_func as_found) as_) (Sign mark.CloseBrace ∷ []) x) ∙ (e ∙ append_assoc (flat_map (spell_func as_found) bs) (Sign mark.CloseBrace ∷ []) y)) in
    (o.0, cc (o.1))

file_unique : Unique Any (spell_file as_found)
file_unique f g x y h i e =
    let k : (spell_funcs as_found) f.funcs ++ x ≡ spell_funcs as_found g.funcs ++ y = cc in
    let n : f.name ≡ g.name = cc in
    let o = funcs_unique f.funcs g.funcs x y k in
    (same_file f g n o.0, o.1)
  where
    same_file : (f g : PlainFile) → f.name ≡ g.name → f.funcs ≡ g.funcs → f ≡ g
    same_file f g n s = let e : ◌≡◌ {A = PlainFile} (record { name = f.name; funcs = f.funcs }) (record { name = g.name; funcs = g.funcs }) = rw (n, s) refl in e

files_unique : (as_ bs : List PlainFile) → spell_files as_found as_ ≡ spell_files as_found bs → as_ ≡ bs
files_unique as_ bs e = (list_unique (is_found_key key.File) Any (spell_file as_found) (λ a x. (refl, tt)) file_unique as_ bs (End ∷ []) (End ∷ []) refl refl tt tt e).0

-- the whole

files_first : (p : Found → Bool) (fs : List PlainFile) → p (Key key.File) ≡ false → p End ≡ false → first_is p (spell_files as_found fs) ≡ false
files_first p [] h i = i
files_first p (f ∷ fs) h i = h

globals_first : (p : Found → Bool) (gs : List PlainGlobal) (fs : List PlainFile) → p (Key key.File) ≡ false → p End ≡ false → p (Key key.Const) ≡ false → p (Key key.Global) ≡ false → first_is p (spell_globals as_found gs ++ spell_files as_found fs) ≡ false
globals_first p [] fs h i j k = files_first p fs h i
globals_first p (g ∷ gs) fs h i j k = by_constant g.constant
  where
    by_constant : (c : Bool) → first_is p (((spell_constant as_found c ++ spell_binding as_found (record { name = g.name; ty = g.ty }) ++ spell_init as_found g.init) ++ spell_globals as_found gs) ++ spell_files as_found fs) ≡ false
    by_constant true = j
    by_constant false = k

periphs_first : (p : Found → Bool) (ps : List Peripheral) (gs : List PlainGlobal) (fs : List PlainFile) → p (Key key.File) ≡ false → p End ≡ false → p (Key key.Const) ≡ false → p (Key key.Global) ≡ false → p (Key key.Periph) ≡ false
    → first_is p (spell_periphs as_found ps ++ (spell_globals as_found gs ++ spell_files as_found fs)) ≡ false
periphs_first p [] gs fs h i j k l = globals_first p gs fs h i j k
periphs_first p (q ∷ ps) gs fs h i j k l = l

pub firmware_unique : (v w : PlainFirmware) → spell_firmware as_found v ≡ spell_firmware as_found w → v ≡ w
firmware_unique v w e =
    let s = structs_unique v.structs w.structs _ _ (periphs_first (is_found_key key.Struct) v.periphs v.globals v.files refl refl refl refl refl) (periphs_first (is_found_key key.Struct) w.periphs w.globals w.files refl refl refl refl refl) e in
    let p = periphs_unique v.periphs w.periphs _ _ (globals_first (is_found_key key.Periph) v.globals v.files refl refl refl refl) (globals_first (is_found_key key.Periph) w.globals w.files refl refl refl refl) s.1 in
    let g = globals_unique v.globals w.globals _ _ (files_first is_global_start v.files refl refl) (files_first is_global_start w.files refl refl)
    (files_first is_arrow v.files refl refl, files_first is_equal v.files refl refl) (files_first is_arrow w.files refl refl, files_first is_equal w.files refl refl) p.1 in
    let f = files_unique v.files w.files g.1 in
    same_firmware v w s.0 p.0 g.0 f
  where
    same_firmware : (v w : PlainFirmware) → v.structs ≡ w.structs → v.periphs ≡ w.periphs → v.globals ≡ w.globals → v.files ≡ w.files → v ≡ w
    same_firmware v w s p g f =
        let e : ◌≡◌ {A = PlainFirmware} (record { structs = v.structs; periphs = v.periphs; globals = v.globals; files = v.files }) (record { structs = w.structs; periphs = w.periphs; globals = w.globals; files = w.files }) = rw (s, p, g, f) refl in
        e
