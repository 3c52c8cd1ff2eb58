-- There is no first failure, where none of the seven checks fails on its own.
use Rattle.std.proofs.Common.{◌≡◌, ℕ, Option, None, refl, ap, ◌∙◌}
use Rattle.machine_devices.specs.declared.image.Image.{Image}
use Rattle.monitor_model.specs.declared.sound.AuditCheck.{AuditCheck}
use Rattle.monitor_model.specs.declared.sound.AuditCheck.TheVariants as check
use Rattle.monitor_model.specs.declared.tables.Tables.{Tables}
use Rattle.monitor_model.specs.MonitorCode.{MonitorCode}
use Rattle.monitor_model.specs.Sound.{Failure, unless, first_failure}
use Rattle.monitor_model.specs.Checks.{header_fails, tables_fail, code_fails, regions_fail, sites_fail, lends_fail, inits_fail}

-- each of them passes
pub record Passes (code : MonitorCode) (i : Image) (t : Tables) : Type 0 where
  pub header : header_fails i ≡ None
  pub tables : tables_fail i t ≡ None
  pub page : code_fails code.page i t ≡ None
  pub regions : regions_fail i t ≡ None
  pub sites : sites_fail t ≡ None
  pub lends : lends_fail t ≡ None
  pub inits : inits_fail i t ≡ None

then_later : (c : AuditCheck) (at : Option ℕ) (later : Option Failure) → at ≡ None → later ≡ None → unless c at later ≡ None
then_later c at later e h = ap (λ a. unless c a later) e ∙ h

pub none_fails : (code : MonitorCode) (i : Image) (t : Tables) → Passes code i t → first_failure code i t ≡ None
unfolding first_failure
none_fails code i t p =
    let inits = then_later check.Inits (inits_fail i t) None p.inits refl in
    let lends = then_later check.Lends (lends_fail t) (unless check.Inits (inits_fail i t) None) p.lends inits in
    let sites = then_later check.Sites (sites_fail t) (unless check.Lends (lends_fail t) (unless check.Inits (inits_fail i t) None)) p.sites lends in
    let regions =
    then_later check.Regions (regions_fail i t) (unless check.Sites (sites_fail t) (unless check.Lends (lends_fail t) (unless check.Inits (inits_fail i t) None)))
    p.regions sites
    in
    let page =
    then_later check.Code (code_fails code.page i t)
    (unless check.Regions (regions_fail i t) (unless check.Sites (sites_fail t) (unless check.Lends (lends_fail t) (unless check.Inits (inits_fail i t) None))))
    p.page regions
    in
    let tables =
    then_later check.Tables (tables_fail i t)
    (unless check.Code (code_fails code.page i t)
    (unless check.Regions (regions_fail i t) (unless check.Sites (sites_fail t) (unless check.Lends (lends_fail t) (unless check.Inits (inits_fail i t) None)))))
    p.tables page
    in
    then_later check.Header (header_fails i)
    (unless check.Tables (tables_fail i t)
    (unless check.Code (code_fails code.page i t)
    (unless check.Regions (regions_fail i t) (unless check.Sites (sites_fail t) (unless check.Lends (lends_fail t) (unless check.Inits (inits_fail i t) None))))))
    p.header tables
