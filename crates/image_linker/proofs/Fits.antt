-- Each function of the program in the making is one that code is made for.
use Rattle.std.proofs.Common.{ℕ, zero, suc, ◌<◌, List, [], ◌∷◌, length, get_or, All, IfSome, Option, ap, sym, ◌∙◌, subst, arith}
use Rattle.std.proofs.lemmas.List.{length-map}
use Rattle.std.proofs.lemmas.List.FromFn.{length-map-range_with_len}
use Rattle.std.proofs.lemmas.List.Elements.{All-nil, All-get_or}
use Rattle.ir_model.specs.Resolved.{Program, func_at}
use Rattle.ir_program.specs.Parts.{routine_of, variable_of, span_of}
use Rattle.ir_program.specs.Seen.{known_of}
use Rattle.code_model.specs.declared.places.CallSite.{CallSite}
use Rattle.code_model.specs.CompartmentCode.{entry_of}
use Rattle.code_model.specs.Fitting.{FuncFits}
use Rattle.code_lower_laws.specs.Fitting.{HasEach, TypedFunctionsFit}
use Rattle.image_entries.specs.declared.making.Making.{Making}
use Rattle.image_entries.specs.Grouped.{places_in}
use Rattle.image_entries.specs.Making.{program_in, grouped, places_at, IsReady}
use Rattle.plan_model.specs.CompileLimits.{site_limit}

all_at : {X : Type 0} (P : X → Type 0) (xs : List (List X)) (k : ℕ) → ((j : ℕ) → j < length xs → All P (get_or xs j [])) → All P (get_or xs k [])
all_at P [] k h = All-nil P
all_at P (x ∷ xs) zero h = h 0 (omega arith)
all_at P (x ∷ xs) (suc k) h = all_at P xs k (λ j l. h (suc j) (omega (arith, l)))

pub function_fits : (m : Making) (k : ℕ) → IsReady m → k < length m.program.now.funcs → TypedFunctionsFit → FuncFits (places_in m.addresses.now m.numbers.now k) (func_at (program_in m) k)
function_fits m k ready l fit =
    let p = program_in m in
    let q = places_in m.addresses.now m.numbers.now k in
    let ks = known_of m.program.now in
    let count = length-map m.program.now.funcs (routine_of ks) in
    let n : k < length p.funcs = omega (arith, l, count) in
    let IsSite : CallSite → Type 0 = λ s. s.number < site_limit in
    let IsLend : Option ℕ → Type 0 = λ o. IfSome o (λ j. j < 32) in
    let has : HasEach p k q = record {
      globals = ready.globals ∙ sym (length-map m.program.now.globals (variable_of ks));
      windows = ready.windows ∙ sym (length-map m.program.now.periphs span_of);
      entries = ap (λ xs. length xs) ready.entries ∙ length-map-range_with_len (entry_of p (grouped m) (places_at m)) 0 (length m.program.now.funcs) ∙ sym count;
      sites = all_at IsSite m.numbers.now.sites k (λ j lt. All-get_or (All IsSite) m.numbers.now.sites j [] lt ready.small.sites);
      lends = ready.lends k n;
      lend_numbers = all_at IsLend m.numbers.now.lends k (λ j lt. All-get_or (All IsLend) m.numbers.now.lends j [] lt ready.small.lends);
    } in
    subst (λ (x : Program). k < length x.funcs → HasEach x k q → FuncFits q (func_at x k)) (sym ready.program.is)
    (λ lt h. fit ready.program.firmware ready.program.typed ready.program.within k lt q h) n has
