-- The names of a firmware within the limits are few, and its objects and functions small.
use Rattle.std.proofs.Common.{◌≡◌, ◌≤◌, ℕ, suc, List, [], ◌∷◌, length, map, get_or, sym, subst, ap, arith, Bor}
use Rattle.std.proofs.lemmas.List.{length-map}
use Rattle.std.proofs.lemmas.List.Elements.{All-nil, All-cons}
use Rattle.ir_model.specs.declared.firmware.Func.{Func}
use Rattle.ir_model.specs.declared.firmware.Global.{Global}
use Rattle.ir_model.specs.declared.firmware.Peripheral.{Peripheral}
use Rattle.ir_model.specs.declared.firmware.Binding.{Binding}
use Rattle.ir_model.specs.Plain.{PlainBinding, PlainGlobal, PlainFunc, PlainFirmware, binding_of, global_of, func_of, funcs_of}
use Rattle.ir_model.specs.Layout.{shape, empty}
use Rattle.ir_model.specs.Canonical.{IsWithinLimits}
use Rattle.base_laws.specs.Lists.{Each}
use Rattle.ir_model.specs.Typing.{object_limit}
use Rattle.ir_model.specs.Resolved.{no_func, no_global}
use Rattle.ir_model.specs.Resolve.{Scope, scope_of, resolved_func, resolved_global, resolve}
use Rattle.ir_model.proofs.Limits.{Limited, limited, few_globals, few_periphs, few_functions}
use Rattle.ir_laws.specs.Limits.{HasSmallObjects}
use Rattle.ir_resolve.specs.declared.names.Scope as code
use Rattle.ir_resolve.specs.Scopes as scopes
use Rattle.ir_resolve.specs.Scopes.{AreFew, IsSmall, AreSmallGlobals, AreSmallBindings, IsSmallFunc, AreSmallFuncs}

module _ (w : PlainFirmware) where
  abbrev scope : Scope
  scope = scope_of w

  pub few_names : (s : code.Scope) → IsWithinLimits w → scopes.scope_of s ≡ scope → AreFew s
  few_names s h e =
      let g = ap (λ (z : Scope). length z.globals) e in
      let p = ap (λ (z : Scope). length z.periphs) e in
      let f = ap (λ (z : Scope). length z.funcs) e in
      let g0 = length-map w.globals (λ (x : PlainGlobal). x.name) in
      let p0 = length-map w.periphs (λ (x : Peripheral). x.name) in
      let f0 = length-map (funcs_of w) (λ (x : PlainFunc). x.name) in
      let g1 = few_globals w h in
      let p1 = few_periphs w h in
      let f1 = few_functions w h in
      record { funcs = omega arith; globals = omega arith; periphs = omega arith }

  globals_in : (gs : List Global) → ((g : ℕ) → (get_or (map (resolved_global scope) (map global_of gs)) g no_global).shape.size ≤ object_limit) → AreSmallGlobals scope.known gs
  globals_in [] h = All-nil (λ (x : Global). IsSmall scope.known x.ty)
  globals_in (g ∷ gs) h = All-cons (λ (x : Global). IsSmall scope.known x.ty) g gs (h 0) (globals_in gs (λ k. h (suc k)))

  bindings_in : (ss : List Binding) → ((l : ℕ) → (get_or (map (λ (s : PlainBinding). shape scope.known s.ty) (map binding_of ss)) l empty).size ≤ object_limit) → AreSmallBindings scope.known ss
  bindings_in [] h = All-nil (λ (x : Binding). IsSmall scope.known x.ty)
  bindings_in (s ∷ ss) h = All-cons (λ (x : Binding). IsSmall scope.known x.ty) s ss (h 0) (bindings_in ss (λ k. h (suc k)))

  func_in : (f : Func) → Limited (func_of f) → ((l : ℕ) → (get_or (resolved_func scope (func_of f)).locals l empty).size ≤ object_limit) → IsSmallFunc scope.known f
  func_in f b h =
      let n = length-map f.locals binding_of in
      let m = b.bindings.locals in
      record { few = omega arith; small = bindings_in f.locals h }

  funcs_in : (fs : List (Bor Func)) → Each Limited (map (λ f. func_of f.now) fs)
      → ((f l : ℕ) → (get_or (get_or (map (resolved_func scope) (map (λ f. func_of f.now) fs)) f no_func).locals l empty).size ≤ object_limit)
      → AreSmallFuncs scope.known fs
  funcs_in [] b h = All-nil (λ (x : Bor Func). IsSmallFunc scope.known x.now)
  funcs_in (f ∷ fs) b h = All-cons (λ (x : Bor Func). IsSmallFunc scope.known x.now) f fs (func_in f.now b.0 (h 0)) (funcs_in fs b.1 (λ k. h (suc k)))

  pub small_globals : (gs : List Global) → HasSmallObjects (resolve w) → w.globals ≡ map global_of gs → AreSmallGlobals scope.known gs
  unfolding resolve
  small_globals gs h e = globals_in gs (subst (λ xs. (g : ℕ) → (get_or (map (resolved_global scope) xs) g no_global).shape.size ≤ object_limit) e h.globals)

  pub small_funcs : (fs : List (Bor Func)) → IsWithinLimits w → HasSmallObjects (resolve w) → map (λ f. func_of f.now) fs ≡ funcs_of w → AreSmallFuncs scope.known fs
  unfolding resolve
  small_funcs fs b h e =
      funcs_in fs (subst (Each Limited) (sym e) (limited w b))
      (subst (λ xs. (f l : ℕ) → (get_or (get_or (map (resolved_func scope) xs) f no_func).locals l empty).size ≤ object_limit) (sym e) h.locals)
