use Rattle.std.proofs.Common.{◌≡◌, ◌∙◌, ap, sym, rules, arith}
use Rattle.std.proofs.lemmas.Result.{IfOk-weaker}
use Rattle.ir_program.specs.Seen.{program_of}
use Rattle.plan_model.specs.declared.plan.Lowest.TheVariants.{Largest, Stack}
use Rattle.plan_model.specs.RamPlacement.{ram_by, ram_of}
use Rattle.plan_layout.proofs.place.whole_ram.Goals as goal

pub returns-in-Largest : goal.returns-in-Largest
unfolding ram_of
returns-in-Largest c =
    let b = c.args.board.now in
    let here : b.lowest ≡ Largest = first_of (cc, search rules, grind arith) in
    IfOk-weaker c.largest_lowest.result _ _ (λ m h. h ∙ ap (ram_by (program_of c.args.program.now) c.args.fin.now b) (sym here)) c.largest_lowest.ensures

pub returns-in-Stack : goal.returns-in-Stack
unfolding ram_of
returns-in-Stack c =
    let b = c.args.board.now in
    let here : b.lowest ≡ Stack = first_of (cc, search rules, grind arith) in
    IfOk-weaker c.stack_lowest.result _ _ (λ m h. h ∙ ap (ram_by (program_of c.args.program.now) c.args.fin.now b) (sym here)) c.stack_lowest.ensures
