use Rattle.std.proofs.Common.{◌≡◌, ◌<◌, ℕ, Bool, length, count_by, sym, ap, ◌∙◌}
use Rattle.std.specs.List.{list_any}
use Rattle.std.proofs.lemmas.List.{length-map}
use Rattle.std.proofs.lemmas.Option.{IfSome_then}
use Rattle.ir_model.specs.Resolved.{NumberedFunc, func_at}
use Rattle.ir_program.specs.Storages.{shape_of}
use Rattle.ir_program.specs.Seen.{known_of, program_of}
use Rattle.plan_model.specs.Lists.{numbers_below}
use Rattle.plan_model.specs.Lending.{is_local}
use Rattle.code_model.specs.Sizes.{function_size}
use Rattle.plan_sizes.specs.Parts.{size_with}
use Rattle.plan_sizes.proofs.functions.size_with.Goals as goal

pub returns : goal.returns
returns c =
    let ks = known_of c.args.program.now in
    let p = program_of c.args.program.now in
    let f = c.args.func in
    let r = c.routine_at-routine.result.now in
    let calls = c.args.calls.now in
    let lent = c.args.lent.now in
    let passes : ℕ → Bool = λ k. list_any (is_local f k) lent in
    let size : ℕ → ℕ = λ n. function_size (func_at p f) calls n in
    let long : c.len.result ≡ length (func_at p f).locals =
    c.len.ensures ∙ (sym (length-map r.locals (shape_of ks)) ∙ ap (λ (g : NumberedFunc). length g.locals) (sym c.routine_at-routine.ensures)) in
    let counted = c.in_ok-count.ensures ∙ ap (λ n. count_by passes (numbers_below n)) long in
    IfSome_then c.function_size.result {P = λ n. (f < length c.args.program.now.funcs) × (n ≡ size c.in_ok-count.count)} {Q = λ n. n ≡ size_with p calls lent f} c.function_size.ensures
    (λ n h. h.1 ∙ ap size counted)
