-- The first of a name in lists behind one another.
use Rattle.std.proofs.Common.{◌≡◌, ℕ, zero, suc, Bool, true, false, List, [], ◌∷◌, ◌++◌, get_or, Option, Some, None, if◌then◌else◌, refl, bytes_eq, ap, ◌∙◌}
use Rattle.ir_model.specs.Types.{PlainType, U32, is_register_type}
use Rattle.ir_model.specs.Plain.{PlainBinding, PlainFunc, names_of, types_of, regs_of}
use Rattle.base_names.specs.Numbers.{number_of}
use Rattle.ir_model.specs.Resolve.{type_named}
use Rattle.ir_model.specs.Rules.{binding_type}
use Rattle.ir_check_details.specs.Functions.{no_register}

-- ---- registers

-- the type of the first binding of a name, or another
abbrev type_or : Option PlainType → PlainType → PlainType
type_or None t = t
type_or (Some u) t = u

pick_type : (b : Bool) (t : PlainType) (ts : List PlainType) (k : ℕ) (o : Option PlainType) → get_or ts k U32 ≡ type_or o U32
    → get_or (t ∷ ts) (if b then zero else suc k) U32 ≡ type_or (if b then Some t else o) U32
pick_type true t ts k o e = refl
pick_type false t ts k o e = e

named_in : (ss : List PlainBinding) (n : List ℕ) → get_or (types_of ss) (number_of (names_of ss) n) U32 ≡ type_or (binding_type ss n) U32
named_in [] n = refl
named_in (s ∷ ss) n = pick_type (bytes_eq s.name n) s.ty (types_of ss) (number_of (names_of ss) n) (binding_type ss n) (named_in ss n)

pick_binding : (b : Bool) (t : PlainType) (o p q : Option PlainType) → type_or o U32 ≡ type_or p (type_or q U32)
    → type_or (if b then Some t else o) U32 ≡ type_or (if b then Some t else p) (type_or q U32)
pick_binding true t o p q e = refl
pick_binding false t o p q e = e

bindings_behind : (ss ts : List PlainBinding) (n : List ℕ) → type_or (binding_type (ss ++ ts) n) U32 ≡ type_or (binding_type ss n) (type_or (binding_type ts n) U32)
bindings_behind [] ts n = refl
bindings_behind (s ∷ ss) ts n = pick_binding (bytes_eq s.name n) s.ty (binding_type (ss ++ ts) n) (binding_type ss n) (binding_type ts n) (bindings_behind ss ts n)

named : (f : PlainFunc) (n : List ℕ) → type_named f n ≡ type_or (binding_type f.params n) (type_or (binding_type f.regs n) U32)
named f n = named_in (regs_of f) n ∙ bindings_behind f.params f.regs n

pub is_param : (f : PlainFunc) (n : List ℕ) (t : PlainType) → binding_type f.params n ≡ Some t → type_named f n ≡ t
is_param f n t e = named f n ∙ ap (λ o. type_or o (type_or (binding_type f.regs n) U32)) e

pub is_register : (f : PlainFunc) (n : List ℕ) (t : PlainType) → binding_type f.params n ≡ None → binding_type f.regs n ≡ Some t → type_named f n ≡ t
is_register f n t e r = named f n ∙ (ap (λ o. type_or o (type_or (binding_type f.regs n) U32)) e ∙ ap (λ o. type_or o U32) r)

pub is_absent : (f : PlainFunc) (n : List ℕ) → binding_type f.params n ≡ None → binding_type f.regs n ≡ None → type_named f n ≡ U32
is_absent f n e r = named f n ∙ (ap (λ o. type_or o (type_or (binding_type f.regs n) U32)) e ∙ ap (λ o. type_or o U32) r)

-- ---- bindings of no register type

abbrev or_else : {A : Type 0} → Option A → Option A → Option A
or_else None b = b
or_else (Some a) b = Some a

pick_odd : (t : Bool) (s : PlainBinding) (a b c : Option PlainBinding) → a ≡ or_else b c → (if t then a else Some s) ≡ or_else (if t then b else Some s) c
pick_odd true s a b c e = e
pick_odd false s a b c e = refl

odd_behind : (ss ts : List PlainBinding) → no_register (ss ++ ts) ≡ or_else (no_register ss) (no_register ts)
odd_behind [] ts = refl
odd_behind (s ∷ ss) ts = pick_odd (is_register_type s.ty) s (no_register (ss ++ ts)) (no_register ss) (no_register ts) (odd_behind ss ts)

pub odd_first : (ss ts : List PlainBinding) (s : PlainBinding) → no_register ss ≡ Some s → no_register (ss ++ ts) ≡ Some s
odd_first ss ts s e = odd_behind ss ts ∙ ap (λ o. or_else o (no_register ts)) e

pub odd_later : (ss ts : List PlainBinding) → no_register ss ≡ None → no_register (ss ++ ts) ≡ no_register ts
odd_later ss ts e = odd_behind ss ts ∙ ap (λ o. or_else o (no_register ts)) e
