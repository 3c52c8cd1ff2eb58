use Rattle.std.proofs.Common.{refl}
use Rattle.base_outside.specs.Sinks.{sink}
use Rattle.aces_reports.proofs.Saying.{says_digit, says_digits}
use Rattle.aces_reports.proofs.telling.+say_number.Goals as goal
use Rattle.aces_reports.proofs.telling.+say_number.Goals.{then-number-ge10, else-number-ge10}

pub returns : goal.returns
returns g t c =
    elim c.if-number-ge10.branch [
      | then-number-ge10 w ↦ says_digits _ (sink g.E.Sink w.say_number.new.err) _ c.args.number w.if-number-ge10.true c.ranges.number.fits refl w.say_number.ensures (rw w.err-is at c.say.ensures)
      | else-number-ge10 w ↦ says_digit _ _ c.args.number w.if-number-ge10.false (rw w.err-is at c.say.ensures)
    ]
