-- A fault names something that the firmware has: the place of each check that fails first is found by its names.
use Rattle.std.proofs.Common.{◌≡◌, ◌≤◌, inl, inr, ℕ, List, [], ◌∷◌, ◌++◌, length, map, flat_map, Bool, true, false, not, Some, None, refl, sym, ap, ◌∙◌, subst, append-nil, append_assoc, bytes_eq, if◌then◌else◌}
use Rattle.std.proofs.lemmas.Slice.Eq.{bytes_eq-Decides}
use Rattle.base_laws.specs.Lists.{Each}
use Rattle.base_laws.proofs.Lists.{each_both, each_to, each_left, each_right}
use Rattle.base_names.specs.Numbers.{has}
use Rattle.ir_model.specs.declared.check.CheckKind.{CheckKind}
use Rattle.ir_model.specs.declared.check.CheckKind.TheVariants.{NoMain}
use Rattle.ir_model.specs.declared.check.CheckPlace.{CheckPlace}
use Rattle.ir_model.specs.declared.check.CheckPlace.TheVariants as place
use Rattle.ir_model.specs.declared.firmware.Block.{Block}
use Rattle.ir_model.specs.declared.firmware.Peripheral.{Peripheral}
use Rattle.ir_model.specs.Plain.{PlainStruct, PlainGlobal, PlainFunc, PlainFile, PlainFirmware, funcs_of, func_names}
use Rattle.ir_model.specs.Typing.{Failing, Checks, check, first_failing, structs_checks, periph_checks, globals_checks, func_name_checks, file_checks, label_checks, func_checks, funcs_checks, has_main, checks, fault_of}
use Rattle.ir_model.proofs.Passing.{left, right}
use Rattle.ir_text_places.specs.Faulty.{Names, struct_row, periph_row, global_row, file_row}
use Rattle.ir_text_places.proofs.FaultPlaces.{either, Keeps, keeps_first, one, HasPlaces, structs_keep, periphs_keep, globals_keep, files_keep, func_keeps}

abbrev labels : List Block → Names
labels bs = map (λ (b : Block). b.label) bs

-- a place of the code of functions, found by its names
pub record FoundCode (fs : List PlainFunc) (f l : List ℕ) (i : ℕ) : Type 0 where
  pub funcs_before : List PlainFunc
  pub func : PlainFunc
  pub funcs_behind : List PlainFunc
  pub funcs : fs ≡ funcs_before ++ func ∷ funcs_behind
  pub new_func : has (func_names funcs_before) f ≡ false
  pub func_name : func.name ≡ f
  pub blocks_before : List Block
  pub block : Block
  pub blocks_behind : List Block
  pub blocks : func.blocks ≡ blocks_before ++ block ∷ blocks_behind
  pub new_label : has (map (λ (b : Block). b.label) blocks_before) l ≡ false
  pub label : block.label ≡ l
  pub in_block : i ≤ length block.insts

abbrev pub Found : PlainFirmware → CheckPlace → Type 0
Found w place.Whole = Unit {0}
Found w (place.Struct n) = has (struct_row w) n ≡ true
Found w (place.Periph n) = has (periph_row w) n ≡ true
Found w (place.Global n) = has (global_row w) n ≡ true
Found w (place.File n) = has (file_row w) n ≡ true
Found w (place.Func n) = has (func_names (funcs_of w)) n ≡ true
Found w (place.Inst f l i) = FoundCode (funcs_of w) f l i

-- ---- names that are there

has_self : (m : List ℕ) (ms : Names) → has (m ∷ ms) m ≡ true
has_self m ms = ap (λ (b : Bool). if b then true else has ms m) ((bytes_eq-Decides m m).1 refl)

has_more : (m n : List ℕ) (ms : Names) → has ms n ≡ true → has (m ∷ ms) n ≡ true
has_more m n ms h = by_test (bytes_eq m n)
  where
    by_test : (b : Bool) → (if b then true else has ms n) ≡ true
    by_test true = refl
    by_test false = h

each_has : {A : Type 0} (f : A → List ℕ) (xs : List A) → Each (λ (x : A). has (map f xs) (f x) ≡ true) xs
each_has f [] = tt
each_has {A} f (x ∷ xs) =
    (has_self (f x) (map f xs), each_to (λ (y : A). has (map f xs) (f y) ≡ true) (λ (y : A). has (f x ∷ map f xs) (f y) ≡ true) xs (λ y h. has_more (f x) (f y) (map f xs) h) (each_has f xs))

in_files : (P : PlainFunc → Type 0) (fs : List PlainFile) → Each P (flat_map (λ (f : PlainFile). f.funcs) fs) → Each (λ (f : PlainFile). Each P f.funcs) fs
in_files P [] h = tt
in_files P (f ∷ fs) h = (each_left P f.funcs (flat_map (λ (f : PlainFile). f.funcs) fs) h, in_files P fs (each_right P f.funcs (flat_map (λ (f : PlainFile). f.funcs) fs) h))

-- ---- names that are new

abbrev New : (seen ns : Names) → Type 0
New seen [] = Unit {0}
New seen (n ∷ ns) = (has seen n ≡ false) × New (seen ++ n ∷ []) ns

new_by : (b : Bool) (k : CheckKind) (p : CheckPlace) (cs : Checks) → first_failing (check (not b) k p ∷ cs) ≡ None → (b ≡ false) × (first_failing cs ≡ None)
new_by true k p cs h = cc
new_by false k p cs h = (refl, h)

new_both : (seen a b : Names) → New seen a → New (seen ++ a) b → New seen (a ++ b)
new_both seen [] b h g = subst (λ (s : Names). New s b) (append-nil seen) g
new_both seen (n ∷ a) b h g = (h.0, new_both (seen ++ n ∷ []) a b h.1 (subst (λ (s : Names). New s b) (sym (append_assoc seen (n ∷ []) a)) g))

func_names_new : (seen : Names) (fs : List PlainFunc) → first_failing (func_name_checks seen fs) ≡ None → New seen (func_names fs)
func_names_new seen [] h = tt
func_names_new seen (f ∷ fs) h =
    let r = new_by (has seen f.name) _ _ (func_name_checks (seen ++ f.name ∷ []) fs) h in
    (r.0, func_names_new (seen ++ f.name ∷ []) fs r.1)

both_names : (a b : List PlainFunc) → func_names (a ++ b) ≡ func_names a ++ func_names b
both_names [] b = refl
both_names (f ∷ a) b = ap (λ ns. f.name ∷ ns) (both_names a b)

file_names_new : (es seen : Names) (fs : List PlainFile) → first_failing (file_checks es seen fs) ≡ None → New seen (func_names (flat_map (λ (f : PlainFile). f.funcs) fs))
file_names_new es seen [] h = tt
file_names_new es seen (f ∷ fs) h =
    let own : Checks = check (not (has es f.name)) _ (place.File f.name) ∷ func_name_checks seen f.funcs in
    let more : Checks = file_checks (es ++ f.name ∷ []) (seen ++ func_names f.funcs) fs in
    let r = new_by (has es f.name) _ _ (func_name_checks seen f.funcs) (left own more (record { none = h })).none in
    subst (λ (ns : Names). New seen ns) (sym (both_names f.funcs (flat_map (λ (f : PlainFile). f.funcs) fs)))
    (new_both seen (func_names f.funcs) _ (func_names_new seen f.funcs r.1) (file_names_new (es ++ f.name ∷ []) (seen ++ func_names f.funcs) fs (right own more (record { none = h })).none))

labels_new : (p : CheckPlace) (seen : Names) (bs : List Block) → first_failing (label_checks p seen bs) ≡ None → New seen (labels bs)
labels_new p seen [] h = tt
labels_new p seen (b ∷ bs) h =
    let r = new_by (has seen b.label) _ _ (label_checks p (seen ++ b.label ∷ []) bs) h in
    (r.0, labels_new p (seen ++ b.label ∷ []) bs r.1)

not_right : (a b : Names) (n : List ℕ) → has (a ++ b) n ≡ false → has b n ≡ false
not_right [] b n h = h
not_right (m ∷ a) b n h = by_test (bytes_eq m n) (λ i. not_right a b n i) h
  where
    by_test : (t : Bool) → (has (a ++ b) n ≡ false → has b n ≡ false) → (if t then true else has (a ++ b) n) ≡ false → has b n ≡ false
    by_test true ih i = cc
    by_test false ih i = ih i

-- ---- code

one_more : {A : Type 0} (f : A → List ℕ) (xs : List A) (x : A) → map f (xs ++ x ∷ []) ≡ map f xs ++ f x ∷ []
one_more f [] x = refl
one_more f (y ∷ xs) x = ap (λ ns. f y ∷ ns) (one_more f xs x)

module _ (w : PlainFirmware) where
  block_places : (before : List PlainFunc) (f : PlainFunc) (behind : List PlainFunc) → funcs_of w ≡ before ++ f ∷ behind → has (func_names before) f.name ≡ false
      → (front bs : List Block) → f.blocks ≡ front ++ bs → New (labels front) (labels bs) → Each (HasPlaces (Found w) f) bs
  block_places before f behind e n front [] s h = tt
  block_places before f behind e n front (b ∷ bs) s h = (
    λ m l. record {
      funcs_before = before;
      func = f;
      funcs_behind = behind;
      funcs = e;
      new_func = n;
      func_name = refl;
      blocks_before = front;
      block = b;
      blocks_behind = bs;
      blocks = s;
      new_label = h.0;
      label = refl;
      in_block = l;
    },
    block_places before f behind e n (front ++ b ∷ []) bs (s ∙ sym (append_assoc front (b ∷ []) bs)) (subst (λ (ns : Names). New ns (labels bs)) (sym (one_more (λ (b : Block). b.label) front b)) h.1),
  )

  code_found : (seen : Names) (before fs : List PlainFunc) (e : Failing) → funcs_of w ≡ before ++ fs → New (seen ++ func_names before) (func_names fs)
      → Each (λ (f : PlainFunc). has (func_names (funcs_of w)) f.name ≡ true) fs → first_failing (funcs_checks w fs) ≡ Some e → Found w e.place
  code_found seen before [] e s n h x = cc
  code_found seen before (f ∷ fs) e s n h x =
      elim (either (func_checks w f) (funcs_checks w fs) e x) [
        | inl a ↦
            func_keeps (Found w) w f e h.0
            (λ i. block_places before f fs s (not_right seen (func_names before) f.name n.0) [] f.blocks refl (labels_new (place.Func f.name) [] f.blocks i)) a
        | inr b ↦
            code_found seen (before ++ f ∷ []) fs e (s ∙ sym (append_assoc before (f ∷ []) fs))
            (subst (λ (ns : Names). New ns (func_names fs)) (append_assoc seen (func_names before) (f.name ∷ []) ∙ ap (λ ns. seen ++ ns) (sym (one_more (λ (g : PlainFunc). g.name) before f))) n.1)
            h.1 b.1
      ]

  -- ---- the whole

  abbrev all_structs : Checks
  all_structs = structs_checks (struct_row w) [] w.structs

  abbrev all_globals : Checks
  all_globals = globals_checks w (periph_row w) w.globals

  abbrev all_files : Checks
  all_files = file_checks [] (periph_row w ++ global_row w) w.files

  declared : Checks
  declared = all_structs ++ periph_checks [] w.periphs ++ all_globals ++ all_files

  declared_keep : Each (Keeps (Found w)) declared
  unfolding declared
  declared_keep =
      each_both (Keeps (Found w)) _ all_files
      (each_both (Keeps (Found w)) _ all_globals
      (each_both (Keeps (Found w)) all_structs (periph_checks [] w.periphs)
      (structs_keep (Found w) (struct_row w) [] w.structs (each_has (λ (s : PlainStruct). s.name) w.structs))
      (periphs_keep (Found w) [] w.periphs (each_has (λ (q : Peripheral). q.name) w.periphs)))
      (globals_keep (Found w) w (periph_row w) w.globals (each_has (λ (g : PlainGlobal). g.name) w.globals)))
      (files_keep (Found w) [] (periph_row w ++ global_row w) w.files (each_has (λ (f : PlainFile). f.name) w.files)
      (in_files (λ (g : PlainFunc). has (func_names (funcs_of w)) g.name ≡ true) w.files (each_has (λ (g : PlainFunc). g.name) (funcs_of w))))

  files_pass : first_failing declared ≡ None → first_failing all_files ≡ None
  unfolding declared
  files_pass h = (right (all_structs ++ periph_checks [] w.periphs ++ all_globals) all_files (record { none = h })).none

  code_part : (e : Failing) → first_failing declared ≡ None → first_failing (funcs_checks w (funcs_of w)) ≡ Some e → Found w e.place
  code_part e h x =
      let seen : Names = periph_row w ++ global_row w in
      code_found seen [] (funcs_of w) e refl
      (subst (λ (ns : Names). New ns (func_names (funcs_of w))) (sym (append-nil seen)) (file_names_new [] seen w.files (files_pass h)))
      (each_has (λ (g : PlainFunc). g.name) (funcs_of w)) x

  found : (e : Failing) → first_failing (declared ++ funcs_checks w (funcs_of w) ++ check (has_main w) NoMain place.Whole ∷ []) ≡ Some e → Found w e.place
  found e x =
      elim (either (declared ++ funcs_checks w (funcs_of w)) (check (has_main w) NoMain place.Whole ∷ []) e x) [
        | inl a ↦
            elim (either declared (funcs_checks w (funcs_of w)) e a) [
              | inl c ↦ keeps_first (Found w) declared e declared_keep c
              | inr d ↦ code_part e d.0 d.1
            ]
        | inr b ↦ keeps_first (Found w) (check (has_main w) NoMain place.Whole ∷ []) e (one (Found w) (has_main w) NoMain place.Whole tt, tt) b.1
      ]

  -- what a fault names is there
  pub fault_found : (e : Failing) → fault_of w ≡ Some e → Found w e.place
  unfolding fault_of checks declared
  fault_found e x = found e x
