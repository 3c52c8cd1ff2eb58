use Rattle.std.proofs.Common.{◌↔◌, sym, ap, subst, ◌∙◌}
use Rattle.std.specs.Prelude.{Contains}
use Rattle.ir_program.specs.Seen.{program_of}
use Rattle.need_lists.specs.AnyOf.{AnyOf}
use Rattle.needs.specs.Lent.{Lends}
use Rattle.needs.proofs.Lendables.{put_if, put_none}
use Rattle.needs.proofs.lending.lent_by.Goals as goal
use Rattle.needs.proofs.lending.lent_by.Goals.{then-closed+in_ok-read+in_ok-extend_from_slice, else-closed}

pub returns : goal.returns
returns c = λ x.
    let L = Lends (program_of c.args.program.now) c.args.by x in
    let n = c.args.need.now in
    let first = subst (λ l. Contains c.in_ok-locals.locals.items x ↔ AnyOf L l) c.as_slice.ensures (c.in_ok-locals.ensures x) in
    elim c.if-closed.branch [
      | then-closed+in_ok-read+in_ok-extend_from_slice w ↦
          put_if c.in_ok-locals.locals.items w.as_slice-then-closed-2.result.now c.if-closed.locals.items c.args.closed (AnyOf L n.written) (AnyOf L n.read) x w.if-closed.true
          (ap (λ l. l.items) w.locals-is ∙ w.in_ok-extend_from_slice.ensures.items) first
          (subst (λ l. Contains l x ↔ AnyOf L n.read) (sym w.as_slice-then-closed-2.ensures.value) (subst (λ l. Contains w.in_ok-read.read.items x ↔ AnyOf L l) w.as_slice-then-closed.ensures (w.in_ok-read.ensures x)))
      | else-closed w ↦
          put_none c.in_ok-locals.locals.items c.if-closed.locals.items c.args.closed (AnyOf L n.written) (AnyOf L n.read) x w.if-closed.false (ap (λ l. l.items) w.locals-is) first
    ]
