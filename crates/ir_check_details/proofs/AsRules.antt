-- What names mean here is what they mean in the rules of types: functions over all files, and fields of structs.
use Rattle.std.proofs.Common.{◌≡◌, ℕ, Bool, true, false, List, [], ◌∷◌, ◌++◌, flat_map, Option, Some, None, if◌then◌else◌, refl, bytes_eq, ap, ◌∙◌}
use Rattle.ir_model.specs.Types.{PlainType}
use Rattle.ir_model.specs.Plain.{PlainBinding, PlainStruct, PlainFunc, PlainFile, PlainFirmware, funcs_of}
use Rattle.ir_model.specs.Layout.{Known, Shape, FieldPlace, known, known_behind, with_struct, with_field, fields_named, field_places, laid_out, empty, names_of_known}
use Rattle.base_names.specs.Numbers.{has}
use Rattle.ir_model.specs.Rules.{binding_type, func_type, field_type}
use Rattle.ir_model.specs.Resolve.{signature_of}
use Rattle.ir_check_details.specs.Found.{func_named, func_in, or_else, struct_named}

-- ---- functions

abbrev signature_found : Option PlainFunc → Option PlainType
signature_found None = None
signature_found (Some f) = Some (signature_of f)

pick_func : (t : Bool) (f : PlainFunc) (a : Option PlainType) (b c : Option PlainFunc) → a ≡ signature_found (or_else b c)
    → (if t then Some (signature_of f) else a) ≡ signature_found (or_else (if t then Some f else b) c)
pick_func true f a b c e = refl
pick_func false f a b c e = e

func_behind : (fs gs : List PlainFunc) (o : Option PlainFunc) (n : List ℕ) → func_type gs n ≡ signature_found o → func_type (fs ++ gs) n ≡ signature_found (or_else (func_named fs n) o)
func_behind [] gs o n e = e
func_behind (f ∷ fs) gs o n e = pick_func (bytes_eq f.name n) f (func_type (fs ++ gs) n) (func_named fs n) o (func_behind fs gs o n e)

func_of_files : (ds : List PlainFile) (n : List ℕ) → func_type (flat_map (λ (d : PlainFile). d.funcs) ds) n ≡ signature_found (func_in ds n)
func_of_files [] n = refl
func_of_files (d ∷ ds) n = func_behind d.funcs (flat_map (λ (e : PlainFile). e.funcs) ds) (func_in ds n) n (func_of_files ds n)

pub same_func : (w : PlainFirmware) (n : List ℕ) → func_type (funcs_of w) n ≡ signature_found (func_in w.files n)
same_func w n = func_of_files w.files n

-- ---- fields of structs

abbrev field_found : Option PlainStruct → List ℕ → Option PlainType
field_found None f = None
field_found (Some s) f = binding_type s.fields f

places : (ks : List Known) (u : Shape) (ss : List PlainBinding) (f : List ℕ) → field_type (field_places ks u ss) f ≡ binding_type ss f
places ks u [] f = refl
places ks u (s ∷ ss) f = ap (λ o. if bytes_eq s.name f then Some s.ty else o) (places ks (with_field ks u s.ty) ss f)

pick_last : (b : Bool) (fs : List FieldPlace) (f : List ℕ) (o : Option PlainType) → (if (if b then true else false) then field_type (if b then fs else []) f else o) ≡ (if b then field_type fs f else o)
pick_last true fs f o = refl
pick_last false fs f o = refl

pick_more : (b h g : Bool) (fs us vs : List FieldPlace) (f : List ℕ) (o p : Option PlainType) → (if h then field_type us f else o) ≡ (if g then field_type vs f else p)
    → (if (if b then true else h) then field_type (if b then fs else us) f else o) ≡ (if (if b then true else g) then field_type (if b then fs else vs) f else p)
pick_more true h g fs us vs f o p e = refl
pick_more false h g fs us vs f o p e = e

one_more : (ks : List Known) (k : Known) (n f : List ℕ) (o : Option PlainType)
    → (if has (names_of_known (ks ++ k ∷ [])) n then field_type (fields_named (ks ++ k ∷ []) n) f else o)
    ≡ (if has (names_of_known ks) n then field_type (fields_named ks n) f else if bytes_eq k.name n then field_type k.fields f else o)
one_more [] k n f o = pick_last (bytes_eq k.name n) k.fields f o
one_more (j ∷ ks) k n f o =
    pick_more (bytes_eq j.name n) (has (names_of_known (ks ++ k ∷ [])) n) (has (names_of_known ks) n) j.fields (fields_named (ks ++ k ∷ []) n) (fields_named ks n) f o
    (if bytes_eq k.name n then field_type k.fields f else o) (one_more ks k n f o)

pick_none : (b h : Bool) (fs us : List FieldPlace) (f : List ℕ) → field_type us f ≡ (if h then field_type us f else None)
    → field_type (if b then fs else us) f ≡ (if (if b then true else h) then field_type (if b then fs else us) f else None)
pick_none true h fs us f e = refl
pick_none false h fs us f e = e

no_more : (ks : List Known) (n f : List ℕ) → field_type (fields_named ks n) f ≡ (if has (names_of_known ks) n then field_type (fields_named ks n) f else None)
no_more [] n f = refl
no_more (k ∷ ks) n f = pick_none (bytes_eq k.name n) (has (names_of_known ks) n) k.fields (fields_named ks n) f (no_more ks n f)

pick_struct : (b : Bool) (s : PlainStruct) (o : Option PlainStruct) (f : List ℕ) (a : Option PlainType) → a ≡ binding_type s.fields f
    → (if b then a else field_found o f) ≡ field_found (if b then Some s else o) f
pick_struct true s o f a e = e
pick_struct false s o f a e = refl

behind : (ks : List Known) (ss : List PlainStruct) (n f : List ℕ)
    → field_type (fields_named (known_behind ks ss) n) f ≡ (if has (names_of_known ks) n then field_type (fields_named ks n) f else field_found (struct_named ss n) f)
behind ks [] n f = no_more ks n f
behind ks (s ∷ ss) n f =
    let k : Known = record { name = s.name; shape = laid_out ks empty s.fields; fields = field_places ks empty s.fields } in
    behind (with_struct ks s) ss n f
    ∙ (one_more ks k n f (field_found (struct_named ss n) f)
    ∙ ap (λ o. if has (names_of_known ks) n then field_type (fields_named ks n) f else o)
    (pick_struct (bytes_eq s.name n) s (struct_named ss n) f (field_type (field_places ks empty s.fields) f) (places ks empty s.fields f)))

pub same_field : (ss : List PlainStruct) (n f : List ℕ) → field_type (fields_named (known ss) n) f ≡ field_found (struct_named ss n) f
unfolding known
same_field ss n f = behind [] ss n f
