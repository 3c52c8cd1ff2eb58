use Rattle.std.proofs.Common.{subst}
use Rattle.monitor_audit.specs.Answers.{IsAudited}
use Rattle.aces_audit.proofs.Guarding.{sound_told, failure_told}
use Rattle.aces_audit.proofs.asking.tables_output.Goals as goal

pub returns-in_ok-table_lines-in-Sound : goal.returns-in_ok-table_lines-in-Sound
returns-in_ok-table_lines-in-Sound c =
    let i = c.args.image.now in
    sound_told c.sound_images_are_guarded.ensures i c.in-Sound.tables c.in_ok-table_lines-in-Sound.field-0.items
    (subst (IsAudited i) c.in-Sound.is c.in_ok-tables.ensures) c.in_ok-table_lines-in-Sound.ensures

pub returns-in_ok-answer_line-in-Unsound : goal.returns-in_ok-answer_line-in-Unsound
returns-in_ok-answer_line-in-Unsound c =
    let i = c.args.image.now in
    failure_told i c.in-Unsound.failed.check c.in-Unsound.failed.at c.in_ok-answer_line-in-Unsound.field-0.items
    (subst (IsAudited i) c.in-Unsound.is c.in_ok-tables.ensures) c.in_ok-answer_line-in-Unsound.ensures
