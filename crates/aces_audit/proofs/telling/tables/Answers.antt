use Rattle.aces_audit.proofs.telling.tables.Goals as goal

pub returns : goal.returns
returns g c = c.print_asked.ensures
