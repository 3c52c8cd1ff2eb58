use Rattle.machine_protection.proofs.Configured.{kept_lists_decide, kept_lists_permit, kept_units_permit_the_same}
use Rattle.machine_protection.proofs.laws.kept_lists_decide.Goals as goal

pub returns-clause-deciding : goal.returns-clause-deciding
returns-clause-deciding c = kept_lists_decide

pub returns-clause-unprivileged : goal.returns-clause-unprivileged
returns-clause-unprivileged c = kept_lists_permit

pub returns-clause-alike : goal.returns-clause-alike
returns-clause-alike c = kept_units_permit_the_same
