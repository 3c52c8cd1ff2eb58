use Rattle.std.proofs.Common.{false, refl, sym, ◌∙◌, arith}
use Rattle.std.proofs.lemmas.List.{get_or_default}
use Rattle.aces_why.proofs.Marking.{marks_more}
use Rattle.aces_why.proofs.search.mark.Goals as goal

pub returns-in_ok-push-clause-marks : goal.returns-in_ok-push-clause-marks
returns-in_ok-push-clause-marks c =
    marks_more c.args.flags.now.items _ c.args.found.now.items _ c.args.number (omega arith) (sym (c.index.ensures ∙ get_or_default c.args.flags.now.items c.args.number c.index.result.now false (omega arith)) ∙ c.if-not-index.true) refl c.in_ok-push.ensures.items c.requires
