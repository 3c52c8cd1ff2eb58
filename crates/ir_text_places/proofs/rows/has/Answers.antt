use Rattle.std.proofs.Common.{◌∙◌, ap, is_some}
use Rattle.ir_text_places.proofs.Numbered.{has_position}
use Rattle.ir_text_places.proofs.rows.has.Goals as goal

pub returns : goal.returns
returns c = c.is_some.ensures ∙ (ap is_some c.first.ensures ∙ has_position c.args.row.now c.args.name.now)
