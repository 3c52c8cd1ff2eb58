use Rattle.std.specs.Prelude.{codes}
use Rattle.std.proofs.Common.{◌++◌, refl}
use Rattle.aces_reports.specs.FaultLines as lines
use Rattle.base_outside.specs.Sinks.{sink}
use Rattle.aces_reports.proofs.Saying.{says_both}
use Rattle.aces_reports.proofs.telling.say_past_limit.Goals as goal

pub returns : goal.returns
returns g c =
    let begun = sink g.E.Sink c.args.err.now in
    let first = sink g.E.Sink c.say.new.err in
    let second = sink g.E.Sink c.say-2.new.err in
    let last = sink g.E.Sink c.say_count.new.err in
    let word = lines.compiled_word c.args.which in
    let count = lines.count_text c.args.count in
    says_both begun first last (codes "aces: limit ") (word ++ count) refl c.say.ensures
    (says_both first second last word count refl (rw c.compiled_word.ensures at c.say-2.ensures) c.say_count.ensures)
