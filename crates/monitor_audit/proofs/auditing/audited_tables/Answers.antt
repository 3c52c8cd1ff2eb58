use Rattle.std.proofs.Common.{◌≡◌, None, sym, ◌∙◌, subst}
use Rattle.monitor_program.specs.TheCode.{monitor_code}
use Rattle.monitor_model.specs.Checks.{header_fails}
use Rattle.monitor_audit.specs.Findings.{IsFound}
use Rattle.monitor_audit.specs.Answers.{own_tables}
use Rattle.monitor_audit.proofs.AuditTurns.{at_header, at_tables}
use Rattle.monitor_audit.proofs.auditing.audited_tables.Goals as goal

pub returns-in-Some : goal.returns-in-Some
returns-in-Some c =
    let i = c.args.image.now in
    at_header monitor_code i (own_tables i) c.in-Some.at (sym c.header_fault.ensures ∙ c.in-Some.is)

pub returns-in-Fault : goal.returns-in-Fault
returns-in-Fault c =
    let i = c.args.image.now in
    let h : header_fails i ≡ None = sym c.header_fault.ensures ∙ c.in_default.is in
    at_tables monitor_code i (own_tables i) c.in-Fault.at h (subst (IsFound i) c.in-Fault.is c.in_ok-tables.ensures)
