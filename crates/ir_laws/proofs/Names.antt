-- What a name that is there means.
use Rattle.std.proofs.Common.{◌≡◌, ℕ, zero, suc, ◌<◌, Bool, true, false, List, [], ◌∷◌, length, Some, subst, get_or, map, arith}
use Rattle.std.specs.Prelude.{bytes_eq, if◌then◌else◌}
use Rattle.std.proofs.lemmas.List.{length-map}
use Rattle.ir_model.specs.Types.{PlainType, Callee}
use Rattle.ir_model.specs.Plain.{PlainBinding, PlainFunc, PlainGlobal, names_of, func_names}
use Rattle.ir_model.specs.Resolved.{NumberedFunc, no_func}
use Rattle.base_names.specs.Numbers.{has, number_of}
use Rattle.ir_model.specs.Resolve.{Scope, resolved_func, row_from}
use Rattle.base_names.proofs.Below.{number_below}
use Rattle.ir_model.specs.Rules.{binding_type, global_type, func_type}

pub number_in : {A : Type 0} (f : A → List ℕ) (xs : List A) (n : List ℕ) → has (map f xs) n ≡ true → number_of (map f xs) n < length xs
number_in f xs n h = let a = number_below (map f xs) n h in let b = length-map xs f in omega arith

-- a function by its name
abbrev the_type : NumberedFunc → PlainType
the_type g = Callee g.params g.outcome

func_by : (s : Scope) (b : Bool) (f : PlainFunc) (fs : List PlainFunc) (n : List ℕ) (t : PlainType)
    → (if b then Some (Callee (row_from f.params) f.outcome) else func_type fs n) ≡ Some t
    → (func_type fs n ≡ Some t → (number_of (func_names fs) n < length fs) × (the_type (get_or (map (resolved_func s) fs) (number_of (func_names fs) n) no_func) ≡ t))
    → ((if b then zero else suc (number_of (func_names fs) n)) < suc (length fs)) × (the_type (get_or (map (resolved_func s) (f ∷ fs)) (if b then zero else suc (number_of (func_names fs) n)) no_func) ≡ t)
func_by s true f fs n t h ih = (omega arith, cc)
func_by s false f fs n t h ih = let i = ih h in let a = i.0 in (omega arith, i.1)

pub func_found : (s : Scope) (fs : List PlainFunc) (n : List ℕ) (t : PlainType) → func_type fs n ≡ Some t
    → (number_of (func_names fs) n < length fs) × (the_type (get_or (map (resolved_func s) fs) (number_of (func_names fs) n) no_func) ≡ t)
func_found s [] n t h = cc
func_found s (f ∷ fs) n t h = func_by s (bytes_eq f.name n) f fs n t h (func_found s fs n t)

-- a global and a binding by its name
global_by : (P : PlainType → Type 0) (b : Bool) (g : PlainGlobal) (gs : List PlainGlobal) (n : List ℕ) (t : PlainType)
    → (if b then Some g.ty else global_type gs n) ≡ Some t → P g.ty
    → (global_type gs n ≡ Some t → (number_of (map (λ (g : PlainGlobal). g.name) gs) n < length gs) × P t)
    → ((if b then zero else suc (number_of (map (λ (g : PlainGlobal). g.name) gs) n)) < suc (length gs)) × P t
global_by P true g gs n t h q ih = let e : g.ty ≡ t = cc in (omega arith, subst P e q)
global_by P false g gs n t h q ih = let i = ih h in let a = i.0 in (omega arith, i.1)

abbrev pub EachGlobal : (PlainType → Type 0) → List PlainGlobal → Type 0
EachGlobal P [] = Unit {0}
EachGlobal P (g ∷ gs) = P g.ty × EachGlobal P gs

pub global_found : (P : PlainType → Type 0) (gs : List PlainGlobal) (n : List ℕ) (t : PlainType) → EachGlobal P gs → global_type gs n ≡ Some t
    → (number_of (map (λ (g : PlainGlobal). g.name) gs) n < length gs) × P t
global_found P [] n t q h = cc
global_found P (g ∷ gs) n t q h = global_by P (bytes_eq g.name n) g gs n t h q.0 (global_found P gs n t q.1)

binding_by : (P : PlainType → Type 0) (b : Bool) (s : PlainBinding) (ss : List PlainBinding) (n : List ℕ) (t : PlainType)
    → (if b then Some s.ty else binding_type ss n) ≡ Some t → P s.ty
    → (binding_type ss n ≡ Some t → (number_of (names_of ss) n < length ss) × P t)
    → ((if b then zero else suc (number_of (names_of ss) n)) < suc (length ss)) × P t
binding_by P true s ss n t h q ih = let e : s.ty ≡ t = cc in (omega arith, subst P e q)
binding_by P false s ss n t h q ih = let i = ih h in let a = i.0 in (omega arith, i.1)

abbrev pub EachBinding : (PlainType → Type 0) → List PlainBinding → Type 0
EachBinding P [] = Unit {0}
EachBinding P (s ∷ ss) = P s.ty × EachBinding P ss

pub binding_found : (P : PlainType → Type 0) (ss : List PlainBinding) (n : List ℕ) (t : PlainType) → EachBinding P ss → binding_type ss n ≡ Some t
    → (number_of (names_of ss) n < length ss) × P t
binding_found P [] n t q h = cc
binding_found P (s ∷ ss) n t q h = binding_by P (bytes_eq s.name n) s ss n t h q.0 (binding_found P ss n t q.1)
