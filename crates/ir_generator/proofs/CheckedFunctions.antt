-- The functions of a generated firmware pass their checks.
use Rattle.std.proofs.Common.{ℕ, zero, suc, ◌<◌, ◌≤◌, ◌+◌, ◌%◌, ◌≡◌, ◌∙◌, List, [], ◌∷◌, ◌++◌, refl, arith, true, false, map, None, Some}
use Rattle.std.specs.Prelude.{codes, nat_eq, flat_map}
use Rattle.std.specs.List.{range_with_len}
use Rattle.std.proofs.lemmas.List.Elements.{All-head, All-tail}
use Rattle.base_names.specs.Numbers.{has}
use Rattle.ir_check_scopes.proofs.Order.{first_append}
use Rattle.ir_model.specs.declared.firmware.Peripheral.{Peripheral}
use Rattle.ir_model.specs.declared.firmware.Inst.{Inst}
use Rattle.ir_model.specs.declared.firmware.Inst.TheVariants.{Store}
use Rattle.ir_model.specs.declared.firmware.Term.{Term}
use Rattle.ir_model.specs.declared.firmware.Term.TheVariants.{Jump}
use Rattle.ir_model.specs.Types.{U32, Pointer, Callee, none, more, nothing, gives}
use Rattle.ir_model.specs.Plain.{PlainFunc, PlainFile, PlainGlobal, PlainFirmware, funcs_of}
use Rattle.base_laws.specs.Lists.{Each}
use Rattle.ir_model.specs.Rules.{global_type, func_type, inst_fits, term_fits}
use Rattle.ir_model.specs.Typing.{first_failing, func_checks, funcs_checks, code_checks}
use Rattle.ir_generator.specs.declared.choices.Body.{Body}
use Rattle.ir_generator.specs.declared.choices.Body.TheVariants.{Adds, Stores, Calls, Lends}
use Rattle.ir_generator.specs.declared.choices.Choice.{Choice}
use Rattle.ir_generator.specs.Choices.{IsWithin, AreWithin}
use Rattle.ir_generator.specs.Names.{port_name, global_name, test_name}
use Rattle.ir_generator.specs.Functions.{test_func, support, main, call_test, turn}
use Rattle.ir_generator.specs.Made.{held_from, test_file, support_file}
use Rattle.ir_generator.proofs.Apart.{by_test}

-- what a firmware of this size has for its functions
pub record Offers (w : PlainFirmware) (size : ℕ) : Type 0 where
  pub ports : (k : ℕ) → k < 4 → has (map (λ (q : Peripheral). q.name) w.periphs) (port_name k) ≡ true
  pub apart : (k : ℕ) → has (map (λ (q : Peripheral). q.name) w.periphs) (global_name k) ≡ false
  pub globals : (k : ℕ) → k < size → has (map (λ (g : PlainGlobal). g.name) w.globals) (global_name k) ≡ true
  pub words : (k : ℕ) → k < size → global_type w.globals (global_name k) ≡ Some U32
  pub tests : (k : ℕ) → k < size → has (map (λ (f : PlainFunc). f.name) (funcs_of w)) (test_name k) ≡ true
  pub test_types : (k : ℕ) → k < size → func_type (funcs_of w) (test_name k) ≡ Some (Callee (more U32 none) (gives U32))
  pub support : has (map (λ (f : PlainFunc). f.name) (funcs_of w)) (codes "s0") ≡ true
  pub support_type : func_type (funcs_of w) (codes "s0") ≡ Some (Callee (more (Pointer U32) none) nothing)

abbrev pub Passes : PlainFirmware → PlainFunc → Type 0
Passes w f = first_failing (func_checks w f) ≡ None

module _ (w : PlainFirmware) (size : ℕ) (o : Offers w size) where
  pub test_passes : (n : ℕ) (b : Body) → IsWithin size b → Passes w (test_func n b)
  unfolding inst_fits term_fits
  test_passes n (Adds a) h = rw (o.apart a, o.globals a h, o.words a h) refl
  test_passes n (Stores a) h = rw (o.ports a h) refl
  test_passes n (Calls a) h = rw (o.tests a h, o.test_types a h) refl
  test_passes n Lends h = rw (o.support, o.support_type) refl

  support_passes : Passes w support
  unfolding inst_fits term_fits
  support_passes = refl

  call_passes : (l : List ℕ) (k n : ℕ) (is : List Inst) (t : Term) → n < size → first_failing (code_checks w (main size) l (suc k) is t) ≡ None
      → first_failing (code_checks w (main size) l k (call_test n ∷ is) t) ≡ None
  unfolding inst_fits
  call_passes l k n is t h p = rw (o.tests n h, o.test_types n h) p

  calls_pass : (l : List ℕ) (m k n : ℕ) (is : List Inst) (t : Term) → n + m ≤ size → ((i : ℕ) → first_failing (code_checks w (main size) l i is t) ≡ None)
      → first_failing (code_checks w (main size) l k (map call_test (range_with_len n m) ++ is) t) ≡ None
  calls_pass l zero k n is t u p = p k
  calls_pass l (suc m) k n is t u p = call_passes l k n (map call_test (range_with_len (n + 1) m) ++ is) t (omega arith) (calls_pass l m (suc k) (n + 1) is t (omega arith) p)

  -- the loop of `main`
  end_passes : (k : ℕ) → first_failing (code_checks w (main size) (codes "b1") k (Store (codes "q") (codes "v") ∷ []) (Jump (codes "b1"))) ≡ None
  unfolding inst_fits term_fits
  end_passes k = refl

  turn_passes : first_failing (code_checks w (main size) (codes "b1") 0 (turn size) (Jump (codes "b1"))) ≡ None
  unfolding inst_fits
  turn_passes = calls_pass (codes "b1") size 1 0 (Store (codes "q") (codes "v") ∷ []) (Jump (codes "b1")) (omega arith) end_passes

  main_passes : Passes w (main size)
  unfolding inst_fits term_fits
  main_passes = rw (o.ports 0 (omega arith), o.ports 1 (omega arith)) (first_append (code_checks w (main size) (codes "b1") 0 (turn size) (Jump (codes "b1"))) [] turn_passes)

  each_append : (xs ys : List PlainFunc) → Each (Passes w) xs → Each (Passes w) ys → Each (Passes w) (xs ++ ys)
  each_append [] ys h k = k
  each_append (x ∷ xs) ys h k = (h.0, each_append xs ys h.1 k)

  held_pass : (cs : List Choice) (k j : ℕ) → AreWithin size cs → Each (Passes w) (held_from k j cs)
  held_pass [] k j h = tt
  held_pass (c ∷ cs) k j h =
      let rest : Each (Passes w) (held_from (k + 1) j cs) = held_pass cs (k + 1) j (All-tail (λ x. IsWithin size x.body) c cs h) in
      by_test (λ (fs : List PlainFunc). Each (Passes w) (fs ++ held_from (k + 1) j cs)) (nat_eq (k % 16) j) (test_func k c.body ∷ []) []
      (λ t. (test_passes k c.body (All-head (λ x. IsWithin size x.body) c cs h), rest))
      (λ t. rest)

  files_pass : (cs : List Choice) (m j : ℕ) → AreWithin size cs → Each (Passes w) (flat_map (λ (f : PlainFile). f.funcs) (map (test_file cs) (range_with_len j m) ++ support_file ∷ []))
  files_pass cs zero j h = (support_passes, tt)
  files_pass cs (suc m) j h =
      each_append (held_from 0 j cs) (flat_map (λ (f : PlainFile). f.funcs) (map (test_file cs) (range_with_len (j + 1) m) ++ support_file ∷ [])) (held_pass cs 0 j h) (files_pass cs m (j + 1) h)

  all_pass : (fs : List PlainFunc) → Each (Passes w) fs → first_failing (funcs_checks w fs) ≡ None
  all_pass [] h = refl
  all_pass (f ∷ fs) h = first_append (func_checks w f) (funcs_checks w fs) h.0 ∙ all_pass fs h.1

  pub functions_pass : (cs : List Choice) (m : ℕ) → AreWithin size cs
      → first_failing (funcs_checks w (main size ∷ flat_map (λ (f : PlainFile). f.funcs) (map (test_file cs) (range_with_len 0 m) ++ support_file ∷ []))) ≡ None
  functions_pass cs m h = all_pass (main size ∷ flat_map (λ (f : PlainFile). f.funcs) (map (test_file cs) (range_with_len 0 m) ++ support_file ∷ [])) (main_passes, files_pass cs m 0 h)
