use Rattle.machine_model.proofs.Accessed.{transfers_have_widths}
use Rattle.machine_model.proofs.running.transfers.Goals as goal

pub returns : goal.returns
returns c = transfers_have_widths
