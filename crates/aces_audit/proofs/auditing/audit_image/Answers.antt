use Rattle.aces_audit.proofs.auditing.audit_image.Goals as goal

pub returns : goal.returns
returns g c = c.print_asked.ensures
