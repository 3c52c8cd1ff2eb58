-- A firmware within the limits has few items of each kind, over numbers.
use Rattle.std.proofs.Common.{length-append, ◌≡◌, ℕ, zero, suc, ◌+◌, ◌<◌, List, [], ◌∷◌, length, replicate, refl, get_or, map, arith}
use Rattle.std.proofs.lemmas.List.{length-map}
use Rattle.ir_model.specs.declared.firmware.Block.{Block}
use Rattle.ir_model.specs.Plain.{PlainBinding, PlainFunc, PlainFile, PlainFirmware, funcs_of, regs_of}
use Rattle.ir_model.specs.Layout.{known, shape}
use Rattle.ir_model.specs.Resolved.{no_func, file_of}
use Rattle.ir_model.specs.Resolve.{Scope, scope_of, resolved_func, resolved_global, resolved_block, resolved_inst, window_of, files_from, resolve}
use Rattle.ir_model.specs.Canonical.{IsWithinLimits}
use Rattle.base_laws.specs.Lists.{Each}
use Rattle.ir_model.proofs.Limits.{Limited, limited, insts_in, few_structs, few_periphs, few_globals, few_files, few_functions}
use Rattle.ir_laws.specs.Limits.{inst_count, IsFew, AreFew, CountsOf}
use Rattle.base_laws.proofs.Lists.{each_both, each_to}
use Rattle.ir_laws.proofs.Resolved.{files_count, rows_length}

-- ---- the files of functions

each_copy : (P : ℕ → Type 0) (n k : ℕ) → P k → Each P (replicate n k)
each_copy P zero k h = tt
each_copy P (suc n) k h = (h, each_copy P n k h)

files_below : (k : ℕ) (fs : List PlainFile) → Each (λ (n : ℕ). n < k + length fs) (files_from k fs)
files_below k [] = tt
files_below k (f ∷ fs) =
    each_both (λ (n : ℕ). n < k + length (f ∷ fs)) (replicate (length f.funcs) k) (files_from (suc k) fs)
    (each_copy (λ (n : ℕ). n < k + length (f ∷ fs)) (length f.funcs) k (omega arith))
    (each_to (λ (n : ℕ). n < suc k + length fs) (λ (n : ℕ). n < k + length (f ∷ fs)) (files_from (suc k) fs) (λ n h. omega arith) (files_below (suc k) fs))

at_or : (P : ℕ → Type 0) (xs : List ℕ) (n : ℕ) → P 0 → Each P xs → P (get_or xs n 0)
at_or P [] n d h = d
at_or P (x ∷ xs) zero d h = h.0
at_or P (x ∷ xs) (suc n) d h = at_or P xs n d h.1

at_below : (P : ℕ → Type 0) (xs : List ℕ) (n : ℕ) → n < length xs → Each P xs → P (get_or xs n 0)
at_below P [] n l h = absurd (omega arith)
at_below P (x ∷ xs) zero l h = h.0
at_below P (x ∷ xs) (suc n) l h = at_below P xs n (omega arith) h.1

-- ---- the items of functions

module _ (w : PlainFirmware) where
  abbrev scope : Scope
  scope = scope_of w

  insts_same : (f : PlainFunc) (bs : List Block) → inst_count (map (resolved_block scope f) bs) ≡ insts_in bs
  insts_same f [] = refl
  insts_same f (b ∷ bs) =
      let r = insts_same f bs in
      let n = length-map b.insts (resolved_inst scope f) in
      omega arith

  func_few : (f : PlainFunc) → Limited f → IsFew (resolved_func scope f)
  func_few f l =
      let a = rows_length f.params in
      let b = length-map (regs_of f) (λ (s : PlainBinding). s.ty) in
      let c = length-append f.params f.regs in
      let d = length-map f.locals (λ (s : PlainBinding). shape (known w.structs) s.ty) in
      let e = length-map f.blocks (resolved_block scope f) in
      let i = insts_same f f.blocks in
      let l0 = l.bindings.parameters in
      let l1 = l.bindings.registers in
      let l2 = l.bindings.locals in
      let l3 = l.blocks in
      let l4 = l.insts in
      record { params = omega arith; registers = omega arith; locals = omega arith; blocks = omega arith; insts = omega arith }

  funcs_few : (fs : List PlainFunc) → Each Limited fs → (k : ℕ) → IsFew (get_or (map (resolved_func scope) fs) k no_func)
  funcs_few [] l k = record { params = omega arith; registers = omega arith; locals = omega arith; blocks = omega arith; insts = omega arith }
  funcs_few (f ∷ fs) l zero = func_few f l.0
  funcs_few (f ∷ fs) l (suc k) = funcs_few fs l.1 k

  are_few : IsWithinLimits w → AreFew (resolve w)
  unfolding resolve
  are_few l =
      let x = length-map w.periphs window_of in
      let y = length-map w.globals (resolved_global scope) in
      let z = length-map (funcs_of w) (resolved_func scope) in
      let u = files_count 0 w.files in
      let p = few_periphs w l in
      let g = few_globals w l in
      let f = few_functions w l in
      let m = few_files w l in
      record {
        periphs = omega arith;
        globals = omega arith;
        funcs = omega arith;
        files = omega arith;
        each = funcs_few (funcs_of w) (limited w l);
        each_file = λ f. at_or (λ (n : ℕ). n < 1024) (files_from 0 w.files) f (omega arith)
            (each_to (λ (n : ℕ). n < 0 + length w.files) (λ (n : ℕ). n < 1024) (files_from 0 w.files) (λ n h. omega arith) (files_below 0 w.files));
      }

  in_files : (f : ℕ) → f < length (funcs_of w) → file_of (resolve w) f < length w.files
  unfolding resolve
  in_files f l =
      let u = files_count 0 w.files in
      at_below (λ (n : ℕ). n < length w.files) (files_from 0 w.files) f (omega arith)
      (each_to (λ (n : ℕ). n < 0 + length w.files) (λ (n : ℕ). n < length w.files) (files_from 0 w.files) (λ n h. omega arith) (files_below 0 w.files))

  pub counts_of : IsWithinLimits w → CountsOf w
  counts_of l = record { structs = few_structs w l; files = few_files w l; each_file = in_files; program = are_few l }
