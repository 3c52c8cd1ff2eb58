use Rattle.std.proofs.Common.{◌↔◌, sym, ap, subst, ◌∙◌}
use Rattle.std.specs.Prelude.{Contains}
use Rattle.ir_program.specs.Seen.{program_of}
use Rattle.needs.specs.Lent.{IsLentBy, IsOwnOf}
use Rattle.needs.proofs.Lendables.{put_if, put_none}
use Rattle.needs.proofs.lending.lendable_for.Goals as goal
use Rattle.needs.proofs.lending.lendable_for.Goals.{then-recursive+in_ok-own+in_ok-extend_from_slice, else-recursive}

pub returns : goal.returns
returns c = λ x.
    let p = program_of c.args.program.now in
    let P = IsLentBy p c.args.closed c.args.func c.args.need.now x in
    let Q = IsOwnOf p c.args.func x in
    elim c.if-recursive.branch [
      | then-recursive+in_ok-own+in_ok-extend_from_slice w ↦
          put_if c.in_ok-locals.locals.items w.as_slice.result.now c.if-recursive.locals.items c.args.recursive P Q x w.if-recursive.true
          (ap (λ l. l.items) w.locals-is ∙ w.in_ok-extend_from_slice.ensures.items) (c.in_ok-locals.ensures x)
          (subst (λ l. Contains l x ↔ Q) (sym w.as_slice.ensures.value) (w.in_ok-own.ensures x))
      | else-recursive w ↦ put_none c.in_ok-locals.locals.items c.if-recursive.locals.items c.args.recursive P Q x w.if-recursive.false (ap (λ l. l.items) w.locals-is) (c.in_ok-locals.ensures x)
    ]
