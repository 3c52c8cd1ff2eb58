use Rattle.aces_audit.proofs.SlotsTold.{slots_are_told}
use Rattle.aces_audit.proofs.table_laws.slots.Goals as goal

pub returns : goal.returns
returns c = slots_are_told
