-- What typed firmware and the linker give of every function's frame.
use Rattle.std.proofs.Common.{◌≡◌, ℕ, zero, suc, ◌+◌, ◌*◌, ◌%◌, ◌<◌, ◌≤◌, Bool, true, false, nat_lt, Option, Some, None, List, [], ◌∷◌, length, map, get_or, refl, sym, ap, ◌∙◌, subst, arith}
use Rattle.std.proofs.lemmas.Bool.Decides.{nat_tests}
use Rattle.std.proofs.lemmas.List.{length-map}
use Rattle.std.proofs.lemmas.List.Elements.{All-map}
use Rattle.std.proofs.lemmas.List.FromFn.{get_or-map-range_with_len}
use Rattle.std.specs.Prelude.{IfSome}
use Rattle.ir_model.specs.Plain.{PlainFirmware, PlainBinding, PlainGlobal, PlainFunc, funcs_of}
use Rattle.ir_model.specs.Layout.{Shape, empty, rounded_up, known, shape}
use Rattle.ir_model.specs.Resolved.{Program, NumberedFunc, NumberedGlobal, NumberedWindow, func_at, global_at, local_at, cells_of_global, cells_of_local, no_func, no_global}
use Rattle.ir_model.specs.Resolve.{resolve, scope_of, resolved_func, resolved_global}
use Rattle.ir_model.specs.Canonical.{IsWithinLimits}
use Rattle.ir_model.specs.Typing.{IsTyped}
use Rattle.ir_laws.specs.Laws.{IsLaidOut, CellsOfTypes}
use Rattle.plan_model.specs.Lending.{lend_number, lend_numbers_in, lend_count, lent}
use Rattle.code_model.specs.declared.places.Places.{Places}
use Rattle.code_model.specs.FrameShape.{local_size, locals_size, frame_size, starts_from, local_starts}
use Rattle.code_model.specs.Places.{lends_among}
use Rattle.code_lower_laws.specs.Fitting.{TypedFunctionsFit}
use Rattle.monitor_model.specs.Setting.{Setting}
use Rattle.refine.specs.Owned.{Lendable}
use Rattle.refine.specs.Builds.{Build, func, words_at, starts_at, lends_at, places_at}
use Rattle.refine.specs.Linked.{Linked}
use Rattle.refine.proofs.Facts.{GoodShape, Facts}
use Rattle.refine.proofs.Limits.{frame_bytes}
use Rattle.refine.proofs.Shapes.{Rows, frame_lies}
use Rattle.refine.proofs.Counts.{lends_counted}
use Rattle.code_model.proofs.Frames.{starts_length as count_starts}
use Rattle.ir_laws.proofs.Layouts.{longer as wider}

-- ---- cells lie inside their objects

module _ (cells : CellsOfTypes) (w : PlainFirmware) where
  pub laid_globals : (x : ℕ) → IsLaidOut 0 (global_at (resolve w) x).shape.size (cells_of_global (resolve w) x)
  unfolding resolve
  laid_globals x = by w.globals x
    where
      by : (gs : List PlainGlobal) (x : ℕ) → IsLaidOut 0 (get_or (map (resolved_global (scope_of w)) gs) x no_global).shape.size (get_or (map (resolved_global (scope_of w)) gs) x no_global).shape.cells
      by [] x = omega arith
      by (g ∷ gs) zero = cells w.structs g.ty
      by (g ∷ gs) (suc x) = by gs x

  laid_homes : (ls : List PlainBinding) (l : ℕ) → IsLaidOut 0 (get_or (map (λ (s : PlainBinding). shape (known w.structs) s.ty) ls) l empty).size (get_or (map (λ (s : PlainBinding). shape (known w.structs) s.ty) ls) l empty).cells
  laid_homes [] l = omega arith
  laid_homes (s ∷ ls) zero = cells w.structs s.ty
  laid_homes (s ∷ ls) (suc l) = laid_homes ls l

  laid_funcs : (fs : List PlainFunc) (f l : ℕ) → IsLaidOut 0 (get_or (get_or (map (resolved_func (scope_of w)) fs) f no_func).locals l empty).size (get_or (get_or (map (resolved_func (scope_of w)) fs) f no_func).locals l empty).cells
  laid_funcs [] f l = omega arith
  laid_funcs (x ∷ fs) zero l = laid_homes x.locals l
  laid_funcs (x ∷ fs) (suc f) l = laid_funcs fs f l

  pub laid_locals : (f l : ℕ) → IsLaidOut 0 (local_at (resolve w) f l).size (cells_of_local (resolve w) f l)
  unfolding resolve
  laid_locals f l = laid_funcs (funcs_of w) f l

-- ---- one function

in_words : (s : Shape) → s.size ≤ local_size s
in_words s = omega arith

rows : (n to : ℕ) (hs : List Shape) → ((l : ℕ) → IsLaidOut 0 (get_or hs l empty).size (get_or hs l empty).cells) → n + locals_size hs ≤ to → Rows n to (starts_from n hs) (map local_size hs) hs
rows n to [] each h = omega arith
rows n to (s ∷ ss) each h = (omega arith, wider 0 s.size (local_size s) s.cells (in_words s) (each 0), rows (n + local_size s) to ss (λ l. each (suc l)) (omega arith))

start_aligned : (n : ℕ) (hs : List Shape) (l : ℕ) → n % 4 ≡ 0 → l < length hs → get_or (starts_from n hs) l 0 % 4 ≡ 0
start_aligned n [] l a h = absurd (omega arith)
start_aligned n (s ∷ ss) zero a h = a
start_aligned n (s ∷ ss) (suc l) a h = start_aligned (n + local_size s) ss l (omega arith) (omega arith)

start_inside : (n : ℕ) (hs : List Shape) (l : ℕ) → l < length hs → get_or (starts_from n hs) l 0 + local_size (get_or hs l empty) ≤ n + locals_size hs
start_inside n [] l h = absurd (omega arith)
start_inside n (s ∷ ss) zero h = omega arith
start_inside n (s ∷ ss) (suc l) h = let r = start_inside (n + local_size s) ss l (omega arith) in omega arith

-- ---- the limit of frames

beyond_funcs : (fs : List NumberedFunc) (f : ℕ) → length fs ≤ f → get_or fs f no_func ≡ no_func
beyond_funcs [] f h = refl
beyond_funcs (x ∷ fs) zero h = absurd (omega arith)
beyond_funcs (x ∷ fs) (suc f) h = beyond_funcs fs f (omega arith)

pub frame_limited : TypedFunctionsFit → (w : PlainFirmware) → IsTyped w → IsWithinLimits w → (f : ℕ) → frame_size (func_at (resolve w) f) ≤ 992
frame_limited fit w t l f = by (nat_lt f (length (resolve w).funcs)) refl
  where
    by : (b : Bool) → nat_lt f (length (resolve w).funcs) ≡ b → frame_size (func_at (resolve w) f) ≤ 992
    by true e =
        let h : f < length (resolve w).funcs = grind (arith, nat_tests) in
        let p : Program = resolve w in
        let q : Places = record {
          globals = map (λ (g : NumberedGlobal). 0) p.globals;
          windows = map (λ (g : NumberedWindow). 0) p.periphs;
          entries = map (λ (g : NumberedFunc). 0) p.funcs;
          sites = [];
          lends = map (λ (s : Shape). None) (func_at p f).locals;
        } in
        (fit w t l f h q (record {
          globals = length-map p.globals (λ (g : NumberedGlobal). 0);
          windows = length-map p.periphs (λ (g : NumberedWindow). 0);
          entries = length-map p.funcs (λ (g : NumberedFunc). 0);
          sites = λ k d u. absurd (omega arith);
          lends = length-map (func_at p f).locals (λ (s : Shape). None);
          lend_numbers = All-map (λ (n : Option ℕ). IfSome n (λ k. k < 32)) (λ (s : Shape). None) (func_at p f).locals (λ k d u. tt);
        })).frame
    by false e =
        let h : length (resolve w).funcs ≤ f = grind (arith, nat_tests) in
        subst (λ (g : NumberedFunc). frame_size g ≤ 992) (sym (beyond_funcs (resolve w).funcs f h)) (omega arith)

-- ---- lent locals

each_lendable : (g : Setting) (words : ℕ) (ss : List ℕ) (ns : List (Option ℕ)) →
    ((l n : ℕ) → l < length ss → get_or ns l None ≡ Some n → (n < length g.sizes) × (get_or ss l 0 + get_or g.sizes n 0 ≤ 4 * words) × (get_or ss l 0 % 4 ≡ 0)) → Lendable g words (lends_among ss ns)
each_lendable g words [] ns e = tt
each_lendable g words (s ∷ ss) [] e = tt
each_lendable g words (s ∷ ss) (None ∷ ns) e = each_lendable g words ss ns (λ l n h q. e (suc l) n (omega arith) q)
each_lendable g words (s ∷ ss) (Some x ∷ ns) e =
    let a = e 0 x (omega arith) refl in
    let b = a.1 in
    let c = a.2 in
    ((a.0, omega arith), each_lendable g words ss ns (λ l n h q. e (suc l) n (omega arith) q))

-- ---- a build of a typed firmware

module _ (k : Build) (linked : Linked k) (limited : (f : ℕ) → frame_size (func k f) ≤ 992) (laid : (f l : ℕ) → IsLaidOut 0 (local_at k.program f l).size (cells_of_local k.program f l)) where
  -- its numbers by which locals are lent
  lend_is : (f l : ℕ) → f < length k.program.funcs → l < length (func k f).locals → get_or (places_at k f).lends l None ≡ lend_number k.needs k.groups f l
  unfolding places_at
  lend_is f l h m =
      let a = get_or-map-range_with_len (lend_numbers_in k.program k.needs k.groups) 0 (length k.program.funcs) f f [] h (omega arith) in
      let b = get_or-map-range_with_len (lend_number k.needs k.groups f) 0 (length (func k f).locals) l l None m (omega arith) in
      ap (λ (ns : List (Option ℕ)). get_or ns l None) a ∙ b

  lends_are : (f : ℕ) → f < length k.program.funcs → (places_at k f).lends ≡ lend_numbers_in k.program k.needs k.groups f
  unfolding places_at
  lends_are f h = get_or-map-range_with_len (lend_numbers_in k.program k.needs k.groups) 0 (length k.program.funcs) f f [] h (omega arith)

  counted : (f : ℕ) → length (lends_among (starts_at k f) (lend_numbers_in k.program k.needs k.groups f)) ≤ lend_count k.needs k.groups f
  unfolding lend_number
  counted f = lends_counted (starts_at k f) f (length (func k f).locals) (lent k.needs k.groups)

  lent_by : (f : ℕ) → (b : Bool) → nat_lt f (length k.program.funcs) ≡ b → length (lends_at k f) ≤ lend_count k.needs k.groups f
  lent_by f true e =
      let h : f < length k.program.funcs = grind (arith, nat_tests) in
      subst (λ (ns : List (Option ℕ)). length (lends_among (starts_at k f) ns) ≤ lend_count k.needs k.groups f) (sym (lends_are f h)) (counted f)
  lent_by f false e =
      let h : length k.program.funcs ≤ f = grind (arith, nat_tests) in
      subst (λ (g : NumberedFunc). length (lends_among (local_starts g) (places_at k f).lends) ≤ lend_count k.needs k.groups f) (sym (beyond_funcs k.program.funcs f h)) (omega arith)

  locals_fit : (f : ℕ) → 4 * length (func k f).regs + locals_size (func k f).locals ≤ 4 * words_at k f
  locals_fit f = let b = frame_bytes k f in omega arith

  aligned_local : (f l : ℕ) → l < length (func k f).locals → get_or (starts_at k f) l 0 % 4 ≡ 0
  aligned_local f l h = start_aligned (4 * length (func k f).regs) (func k f).locals l (omega arith) h

  inside_local : (f l : ℕ) → l < length (func k f).locals → get_or (starts_at k f) l 0 + rounded_up (local_at k.program f l).size 4 ≤ 4 * words_at k f
  inside_local f l h = let a = start_inside (4 * length (func k f).regs) (func k f).locals l h in let b = locals_fit f in omega arith

  lendable_by : (f : ℕ) → (b : Bool) → nat_lt f (length k.program.funcs) ≡ b → Lendable k.setting (words_at k f) (lends_at k f)
  lendable_by f true e =
      let h : f < length k.program.funcs = grind (arith, nat_tests) in
      let c = count_starts (4 * length (func k f).regs) (func k f).locals in
      each_lendable k.setting (words_at k f) (starts_at k f) (places_at k f).lends (λ l n m q.
      let u : l < length (func k f).locals = omega arith in
      let is = sym (lend_is f l h u) ∙ q in
      let most = linked.loans.most f l n u is in
      let ins = inside_local f l u in
      (linked.loans.there f l n u is, omega arith, aligned_local f l u))
  lendable_by f false e =
      let h : length k.program.funcs ≤ f = grind (arith, nat_tests) in
      subst (λ (g : NumberedFunc). Lendable k.setting (words_at k f) (lends_among (local_starts g) (places_at k f).lends)) (sym (beyond_funcs k.program.funcs f h)) tt

  shape_of : (f : ℕ) → GoodShape k f
  shape_of f =
      let b = frame_bytes k f in
      let lm = limited f in
      let lf = locals_fit f in
      let fl = λ (o : ℕ). frame_lies o (length (func k f).regs) (words_at k f) (starts_at k f) (map local_size (func k f).locals) (func k f).locals (rows (4 * length (func k f).regs) (4 * words_at k f) (func k f).locals (laid f) lf) in
      record {
        registers = omega arith;
        starts = count_starts (4 * length (func k f).regs) (func k f).locals;
        few = omega arith;
        even = omega arith;
        laid = λ o. (fl o).laid;
        inside = λ o. (fl o).inside;
        locals_inside = λ o. (fl o).locals_inside;
        local_aligned = aligned_local f;
        local_inside = inside_local f;
        lent = lent_by f (nat_lt f (length k.program.funcs)) refl;
        lendable = lendable_by f (nat_lt f (length k.program.funcs)) refl;
      }

  pub facts_of : Facts k
  facts_of = record {
    rules = linked.rules;
    shapes = shape_of;
    globals_laid = linked.globals.laid;
    globals_off = linked.globals.off;
    stub_even = linked.code.stub_even;
    stub_low = linked.code.stub_low;
  }
