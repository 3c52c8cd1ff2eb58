use Rattle.std.proofs.Common.{drop, ap, ◌∙◌}
use Rattle.std.proofs.lemmas.List.{take_rest}
use Rattle.monitor_audit.proofs.tables.behind_page.Goals as goal

pub returns : goal.returns
returns c = take_rest c.as_slice.result.now 4096 ∙ ap (drop 4096) c.as_slice.ensures
