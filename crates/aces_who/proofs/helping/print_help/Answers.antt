use Rattle.aces_reports.specs.declared.failure.Done.TheVariants.{Completed}
use Rattle.base_outside.specs.Sinks.{sink}
use Rattle.aces_words.specs.Requests.{Help}
use Rattle.aces_files.proofs.Printing.{printed, unprinted}
use Rattle.aces_who.specs.Answers.{AnswerToHelp, helped}
use Rattle.aces_who.specs.HelpText.{help_text}
use Rattle.aces_who.proofs.helping.print_help.Goals as goal

pub returns-in-Ok : goal.returns-in-Ok
returns-in-Ok g c =
    printed g.F.Files c.args.files.now Help AnswerToHelp (sink g.O.Sink c.args.out.now) (sink g.O.Sink c.put.new.self) help_text Completed helped
    (c.in-Ok.ensures.counts.only_failed, λ t. rw c.help_text.ensures at (c.in-Ok.ensures.bytes t))

pub returns-in-Err : goal.returns-in-Err
returns-in-Err g c =
    unprinted g.F.Files c.args.files.now Help AnswerToHelp (sink g.O.Sink c.args.out.now) (sink g.O.Sink c.put.new.self) help_text Completed helped
    (c.in-Err.ensures.cause, λ t. rw c.help_text.ensures at c.in-Err.ensures.failed)
