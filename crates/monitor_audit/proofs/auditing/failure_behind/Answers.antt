use Rattle.std.proofs.Common.{◌≡◌, None, sym, ap, ◌∙◌}
use Rattle.monitor_program.specs.TheCode.{monitor_code}
use Rattle.monitor_model.specs.Checks.{code_fails, regions_fail, sites_fail, lends_fail, inits_fail}
use Rattle.monitor_model.specs.Sound.{first_failure}
use Rattle.monitor_audit.proofs.AuditTurns.{at_code, at_regions, at_sites, at_lends, at_inits, none_fails}
use Rattle.monitor_audit.proofs.Reached.{is_in_reach, code_is}
use Rattle.monitor_audit.proofs.auditing.failure_behind.Goals as goal

pub returns-in-Some : goal.returns-in-Some
returns-in-Some c =
    let i = c.args.image.now in
    let t = c.args.tables.now in
    let own = c.requires.own in
    let code = code_is i t c.code_fault.result c.deref.result.now c.as_slice.result.now c.in_ok-page.page.items own c.code_fault.ensures c.deref.ensures.value c.in_ok-page.ensures.bytes c.as_slice.ensures in
    ap (first_failure monitor_code i) (sym own) ∙ at_code monitor_code i t c.requires.header c.requires.tables c.in-Some.at (code ∙ c.in-Some.is)

pub regions_fault-requires-clause-reach : goal.regions_fault-requires-clause-reach
regions_fault-requires-clause-reach c = is_in_reach c.args.image.now c.args.tables.now c.requires.rules c.requires.header c.requires.own c.requires.tables

pub returns-in-Some-regions_fault : goal.returns-in-Some-regions_fault
returns-in-Some-regions_fault c =
    let i = c.args.image.now in
    let t = c.args.tables.now in
    let own = c.requires.own in
    let code = code_is i t c.code_fault.result c.deref.result.now c.as_slice.result.now c.in_ok-page.page.items own c.code_fault.ensures c.deref.ensures.value c.in_ok-page.ensures.bytes c.as_slice.ensures in
    let code_none : code_fails monitor_code.page i t ≡ None = code ∙ c.in_default.is in
    ap (first_failure monitor_code i) (sym own) ∙ at_regions monitor_code i t c.requires.header c.requires.tables code_none c.in-Some-regions_fault.at (sym c.regions_fault.ensures ∙ c.in-Some-regions_fault.is)

pub sites_fault-requires : goal.sites_fault-requires
sites_fault-requires c = is_in_reach c.args.image.now c.args.tables.now c.requires.rules c.requires.header c.requires.own c.requires.tables

pub returns-in-Some-sites_fault : goal.returns-in-Some-sites_fault
returns-in-Some-sites_fault c =
    let i = c.args.image.now in
    let t = c.args.tables.now in
    let own = c.requires.own in
    let code = code_is i t c.code_fault.result c.deref.result.now c.as_slice.result.now c.in_ok-page.page.items own c.code_fault.ensures c.deref.ensures.value c.in_ok-page.ensures.bytes c.as_slice.ensures in
    let code_none : code_fails monitor_code.page i t ≡ None = code ∙ c.in_default.is in
    let regions_none : regions_fail i t ≡ None = sym c.regions_fault.ensures ∙ c.in_default-regions_fault.is in
    ap (first_failure monitor_code i) (sym own) ∙ at_sites monitor_code i t c.requires.header c.requires.tables code_none regions_none c.in-Some-sites_fault.at (sym c.sites_fault.ensures ∙ c.in-Some-sites_fault.is)

pub lends_fault-requires : goal.lends_fault-requires
lends_fault-requires c = is_in_reach c.args.image.now c.args.tables.now c.requires.rules c.requires.header c.requires.own c.requires.tables

pub returns-in-Some-lends_fault : goal.returns-in-Some-lends_fault
returns-in-Some-lends_fault c =
    let i = c.args.image.now in
    let t = c.args.tables.now in
    let own = c.requires.own in
    let code = code_is i t c.code_fault.result c.deref.result.now c.as_slice.result.now c.in_ok-page.page.items own c.code_fault.ensures c.deref.ensures.value c.in_ok-page.ensures.bytes c.as_slice.ensures in
    let code_none : code_fails monitor_code.page i t ≡ None = code ∙ c.in_default.is in
    let regions_none : regions_fail i t ≡ None = sym c.regions_fault.ensures ∙ c.in_default-regions_fault.is in
    let sites_none : sites_fail t ≡ None = sym c.sites_fault.ensures ∙ c.in_default-sites_fault.is in
    ap (first_failure monitor_code i) (sym own) ∙ at_lends monitor_code i t c.requires.header c.requires.tables code_none regions_none sites_none c.in-Some-lends_fault.at (sym c.lends_fault.ensures ∙ c.in-Some-lends_fault.is)

pub inits_fault-requires : goal.inits_fault-requires
inits_fault-requires c = is_in_reach c.args.image.now c.args.tables.now c.requires.rules c.requires.header c.requires.own c.requires.tables

pub returns-in-Some-inits_fault : goal.returns-in-Some-inits_fault
returns-in-Some-inits_fault c =
    let i = c.args.image.now in
    let t = c.args.tables.now in
    let own = c.requires.own in
    let code = code_is i t c.code_fault.result c.deref.result.now c.as_slice.result.now c.in_ok-page.page.items own c.code_fault.ensures c.deref.ensures.value c.in_ok-page.ensures.bytes c.as_slice.ensures in
    let code_none : code_fails monitor_code.page i t ≡ None = code ∙ c.in_default.is in
    let regions_none : regions_fail i t ≡ None = sym c.regions_fault.ensures ∙ c.in_default-regions_fault.is in
    let sites_none : sites_fail t ≡ None = sym c.sites_fault.ensures ∙ c.in_default-sites_fault.is in
    let lends_none : lends_fail t ≡ None = sym c.lends_fault.ensures ∙ c.in_default-lends_fault.is in
    ap (first_failure monitor_code i) (sym own) ∙ at_inits monitor_code i t c.requires.header c.requires.tables code_none regions_none sites_none lends_none c.in-Some-inits_fault.at (sym c.inits_fault.ensures ∙ c.in-Some-inits_fault.is)

pub returns : goal.returns
returns c =
    let i = c.args.image.now in
    let t = c.args.tables.now in
    let own = c.requires.own in
    let code = code_is i t c.code_fault.result c.deref.result.now c.as_slice.result.now c.in_ok-page.page.items own c.code_fault.ensures c.deref.ensures.value c.in_ok-page.ensures.bytes c.as_slice.ensures in
    let code_none : code_fails monitor_code.page i t ≡ None = code ∙ c.in_default.is in
    let regions_none : regions_fail i t ≡ None = sym c.regions_fault.ensures ∙ c.in_default-regions_fault.is in
    let sites_none : sites_fail t ≡ None = sym c.sites_fault.ensures ∙ c.in_default-sites_fault.is in
    let lends_none : lends_fail t ≡ None = sym c.lends_fault.ensures ∙ c.in_default-lends_fault.is in
    let inits_none : inits_fail i t ≡ None = sym c.inits_fault.ensures ∙ c.in_default-inits_fault.is in
    let none = none_fails monitor_code i t c.requires.header c.requires.tables code_none regions_none sites_none lends_none inits_none in
    ap (first_failure monitor_code i) (sym own) ∙ none
