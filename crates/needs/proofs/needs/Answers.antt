use Rattle.std.proofs.Common.{sym, subst}
use Rattle.std.proofs.lemmas.Result.{IfOk-weaker}
use Rattle.ir_model.specs.State.{FunctionObject}
use Rattle.ir_program.specs.Seen.{program_of}
use Rattle.ir_laws.specs.Limits.{AreFew}
use Rattle.ir_laws.specs.Sets.{Closed}
use Rattle.ir_laws.specs.Typed.{sizes_of, Typed}
use Rattle.need_sets.specs.Sets.{sets_of}
use Rattle.plan_model.specs.Needs.{AreNeeds}
use Rattle.need_laws.specs.Reached.{RunsStayInNeeds}
use Rattle.needs.proofs.Bounded.{small_numbers, registers_there}
use Rattle.needs.proofs.needs.Goals as goal

pub all_needs-requires-clause-numbers : goal.all_needs-requires-clause-numbers
all_needs-requires-clause-numbers c =
    let p = program_of c.args.program.now in
    let w = c.requires.program in
    small_numbers p (subst AreFew (sym w.is) (c.counts.ensures w.firmware w.within).program)

pub all_needs-requires-clause-registers : goal.all_needs-requires-clause-registers
all_needs-requires-clause-registers c =
    let p = program_of c.args.program.now in
    let w = c.requires.program in
    registers_there p (sizes_of w.firmware) (subst (λ q. Typed q (sizes_of w.firmware)) (sym w.is) (c.places.ensures w.firmware w.typed w.within))

pub all_needs-requires-clause-there : goal.all_needs-requires-clause-there
all_needs-requires-clause-there c = λ m f h. c.requires.sets.there m (FunctionObject f) h

pub returns-clause-kept : goal.returns-clause-kept
returns-clause-kept c =
    let w = c.requires.program in
    let S = sets_of c.args.pts.now in
    IfOk-weaker c.all_needs.result _ _
    (λ n e. subst (λ q. RunsStayInNeeds q n) (sym w.is)
    (c.runs.ensures w.firmware S c.args.closed n w.typed w.within (subst (λ q. Closed q S) w.is c.requires.sets.closed) (subst (λ q. AreNeeds q S c.args.closed n) w.is e)))
    c.all_needs.ensures
