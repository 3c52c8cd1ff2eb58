use Rattle.std.proofs.Common.{subst}
use Rattle.monitor_audit.specs.Answers.{IsAudited}
use Rattle.monitor_audit.proofs.Counted.{few_compartments, few_sites, yes_is, yes_confined}
use Rattle.monitor_audit.proofs.auditing.audit.Goals as goal

pub yes-requires-clause-compartments : goal.yes-requires-clause-compartments
yes-requires-clause-compartments c =
    let i = c.args.image.now in
    few_compartments i c.in-Sound.tables (subst (IsAudited i) c.in-Sound.is c.in_ok-tables.ensures)

pub yes-requires-clause-sites : goal.yes-requires-clause-sites
yes-requires-clause-sites c =
    let i = c.args.image.now in
    few_sites i c.in-Sound.tables c.requires (subst (IsAudited i) c.in-Sound.is c.in_ok-tables.ensures)

pub returns-in-Sound-clause-answer : goal.returns-in-Sound-clause-answer
returns-in-Sound-clause-answer c =
    let i = c.args.image.now in
    yes_is i c.in-Sound.tables c.yes.result c.yes.ensures (subst (IsAudited i) c.in-Sound.is c.in_ok-tables.ensures)

pub returns-in-Sound-clause-confined : goal.returns-in-Sound-clause-confined
returns-in-Sound-clause-confined c =
    let i = c.args.image.now in
    yes_confined c.sound_images_are_confined.ensures i c.in-Sound.tables c.yes.result c.requires c.yes.ensures (subst (IsAudited i) c.in-Sound.is c.in_ok-tables.ensures)

pub returns-in-Unsound-clause-answer : goal.returns-in-Unsound-clause-answer
returns-in-Unsound-clause-answer c = subst (IsAudited c.args.image.now) c.in-Unsound.is c.in_ok-tables.ensures
