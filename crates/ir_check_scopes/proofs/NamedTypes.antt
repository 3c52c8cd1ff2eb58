-- What a name stands for, by its place in a list.
use Rattle.std.proofs.Common.{◌≡◌, ℕ, zero, suc, ◌+◌, ◌-◌, ◌<◌, ◌≤◌, Bool, true, false, List, [], ◌∷◌, ◌++◌, map, get_or, length, Option, Some, None, if◌then◌else◌, refl, sym, ap, ◌∙◌, arith, bytes_eq}
use Rattle.ir_model.specs.declared.firmware.Binding.{Binding}
use Rattle.ir_model.specs.declared.firmware.Global.{Global}
use Rattle.ir_model.specs.Types.{PlainType, U32, type_of}
use Rattle.ir_model.specs.Plain.{PlainBinding, PlainGlobal, PlainFunc, binding_of, global_of, names_of, types_of, func_names}
use Rattle.base_names.specs.Numbers.{has, number_of}
use Rattle.ir_model.specs.Resolve.{signature_of}
use Rattle.ir_model.specs.Rules.{binding_type, global_type, func_type}

absent_pick : (b : Bool) (t : PlainType) (ts : List PlainType) (k : ℕ) (h : Bool) → (if b then true else h) ≡ false → (h ≡ false → get_or ts k U32 ≡ U32) → get_or (t ∷ ts) (if b then zero else suc k) U32 ≡ U32
absent_pick true t ts k h e f = cc
absent_pick false t ts k h e f = f e

pub absent : (ss : List PlainBinding) (n : List ℕ) → has (names_of ss) n ≡ false → get_or (types_of ss) (number_of (names_of ss) n) U32 ≡ U32
absent [] n h = refl
absent (s ∷ ss) n h = absent_pick (bytes_eq s.name n) s.ty (types_of ss) (number_of (names_of ss) n) (has (names_of ss) n) h (absent ss n)

pub param_at : (ps : List Binding) (ss : List PlainBinding) (k : ℕ) (d : Binding) → k < length ps → get_or (types_of (map binding_of ps ++ ss)) k U32 ≡ type_of (get_or ps k d).ty
param_at [] ss k d l = absurd (omega arith)
param_at (p ∷ ps) ss zero d l = refl
param_at (p ∷ ps) ss (suc k) d l = param_at ps ss k d (omega arith)

reg_only : (rs : List Binding) (k : ℕ) (d : Binding) → k < length rs → get_or (types_of (map binding_of rs)) k U32 ≡ type_of (get_or rs k d).ty
reg_only [] k d l = absurd (omega arith)
reg_only (r ∷ rs) zero d l = refl
reg_only (r ∷ rs) (suc k) d l = reg_only rs k d (omega arith)

pub reg_at : (ps rs : List Binding) (k : ℕ) (d : Binding) → length ps ≤ k → k - length ps < length rs → get_or (types_of (map binding_of ps ++ map binding_of rs)) k U32 ≡ type_of (get_or rs (k - length ps) d).ty
reg_at [] rs k d l m = let q : k - 0 ≡ k = omega arith in reg_only rs k d (omega arith) ∙ ap (λ j. type_of (get_or rs j d).ty) (sym q)
reg_at (p ∷ ps) rs zero d l m = absurd (omega arith)
reg_at (p ∷ ps) rs (suc k) d l m = let q : suc k - suc (length ps) ≡ k - length ps = omega arith in reg_at ps rs k d (omega arith) (omega arith) ∙ ap (λ j. type_of (get_or rs j d).ty) (sym q)

pub counted : (ps rs : List Binding) → length (names_of (map binding_of ps ++ map binding_of rs)) ≡ length ps + length rs
counted [] [] = refl
counted [] (r ∷ rs) = let h = counted [] rs in omega arith
counted (p ∷ ps) rs = let h = counted ps rs in omega arith

there_pick : {A B : Type 0} (b h : Bool) (t : B) (o : Option B) (f : A → B) (x : A) (xs : List A) (k : ℕ) (d : A) → (if b then true else h) ≡ true → t ≡ f x → (h ≡ true → o ≡ Some (f (get_or xs k d)))
    → (if b then Some t else o) ≡ Some (f (get_or (x ∷ xs) (if b then zero else suc k) d))
there_pick true h t o f x xs k d i e g = ap Some e
there_pick false h t o f x xs k d i e g = g i

nowhere_pick : {B : Type 0} (b h : Bool) (t : B) (o : Option B) → (if b then true else h) ≡ false → (h ≡ false → o ≡ None) → (if b then Some t else o) ≡ None
nowhere_pick true h t o i g = cc
nowhere_pick false h t o i g = g i

binding_there : (ss : List Binding) (n : List ℕ) (d : Binding) → has (names_of (map binding_of ss)) n ≡ true → binding_type (map binding_of ss) n ≡ Some (type_of (get_or ss (number_of (names_of (map binding_of ss)) n) d).ty)
binding_there [] n d h = cc
binding_there (s ∷ ss) n d h = there_pick (bytes_eq s.name n) (has (names_of (map binding_of ss)) n) (type_of s.ty) (binding_type (map binding_of ss) n) (λ (x : Binding). type_of x.ty) s ss (number_of (names_of (map binding_of ss)) n) d h refl (binding_there ss n d)

pub binding_at : (ss : List Binding) (n : List ℕ) (k : ℕ) (d : Binding) → has (names_of (map binding_of ss)) n ≡ true → k ≡ number_of (names_of (map binding_of ss)) n → binding_type (map binding_of ss) n ≡ Some (type_of (get_or ss k d).ty)
binding_at ss n k d h e = binding_there ss n d h ∙ ap (λ j. Some (type_of (get_or ss j d).ty)) (sym e)

abbrev globals_named : List Global → List (List ℕ)
globals_named gs = map (λ (g : PlainGlobal). g.name) (map global_of gs)

global_there : (gs : List Global) (n : List ℕ) (d : Global) → has (globals_named gs) n ≡ true → global_type (map global_of gs) n ≡ Some (type_of (get_or gs (number_of (globals_named gs) n) d).ty)
global_there [] n d h = cc
global_there (g ∷ gs) n d h = there_pick (bytes_eq g.name n) (has (globals_named gs) n) (type_of g.ty) (global_type (map global_of gs) n) (λ (x : Global). type_of x.ty) g gs (number_of (globals_named gs) n) d h refl (global_there gs n d)

pub global_at : (gs : List Global) (n : List ℕ) (k : ℕ) (d : Global) → has (globals_named gs) n ≡ true → k ≡ number_of (globals_named gs) n → global_type (map global_of gs) n ≡ Some (type_of (get_or gs k d).ty)
global_at gs n k d h e = global_there gs n d h ∙ ap (λ j. Some (type_of (get_or gs j d).ty)) (sym e)

pub global_nowhere : (gs : List PlainGlobal) (n : List ℕ) → has (map (λ (g : PlainGlobal). g.name) gs) n ≡ false → global_type gs n ≡ None
global_nowhere [] n h = refl
global_nowhere (g ∷ gs) n h = nowhere_pick (bytes_eq g.name n) (has (map (λ (g : PlainGlobal). g.name) gs) n) g.ty (global_type gs n) h (global_nowhere gs n)

func_there : {A : Type 0} (p : A → PlainFunc) (fs : List A) (n : List ℕ) (d : A) → has (func_names (map p fs)) n ≡ true → func_type (map p fs) n ≡ Some (signature_of (p (get_or fs (number_of (func_names (map p fs)) n) d)))
func_there p [] n d h = cc
func_there p (f ∷ fs) n d h = there_pick (bytes_eq (p f).name n) (has (func_names (map p fs)) n) (signature_of (p f)) (func_type (map p fs) n) (λ x. signature_of (p x)) f fs (number_of (func_names (map p fs)) n) d h refl (func_there p fs n d)

pub func_at : {A : Type 0} (p : A → PlainFunc) (fs : List A) (all : List PlainFunc) (n : List ℕ) (k : ℕ) (d : A) → map p fs ≡ all → has (func_names all) n ≡ true → k ≡ number_of (func_names all) n → func_type all n ≡ Some (signature_of (p (get_or fs k d)))
func_at p fs all n k d q h e =
    ap (λ gs. func_type gs n) (sym q)
    ∙ (func_there p fs n d (ap (λ gs. has (func_names gs) n) q ∙ h)
    ∙ ap (λ j. Some (signature_of (p (get_or fs j d)))) (ap (λ gs. number_of (func_names gs) n) q ∙ sym e))

pub func_nowhere : (fs : List PlainFunc) (n : List ℕ) → has (func_names fs) n ≡ false → func_type fs n ≡ None
func_nowhere [] n h = refl
func_nowhere (f ∷ fs) n h = nowhere_pick (bytes_eq f.name n) (has (func_names fs) n) (signature_of f) (func_type fs n) h (func_nowhere fs n)
