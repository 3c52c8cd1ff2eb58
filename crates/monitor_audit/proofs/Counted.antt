-- How many records the tables of a sound image have, and the yes by them.
use Rattle.std.proofs.Common.{◌≡◌, ◌<◌, ◌^◌, length, sym, ap, subst, arith}
use Rattle.machine_devices.specs.declared.image.Image.{Image}
use Rattle.machine_devices.specs.Rules.{ObeysRules}
use Rattle.monitor_model.specs.declared.tables.Tables.{Tables}
use Rattle.monitor_program.specs.TheCode.{monitor_code}
use Rattle.monitor_model.specs.Sound.{Sound}
use Rattle.monitor_model.specs.Confined.{Confined}
use Rattle.monitor_model.specs.Promises.{SoundImagesAreConfined}
use Rattle.monitor_laws.proofs.Checked.{none_fails, head_is}
use Rattle.monitor_audit.specs.declared.answer.Audit.{Audit}
use Rattle.monitor_audit.specs.declared.answer.Audit.TheVariants.{Yes}
use Rattle.monitor_audit.specs.Answers.{IsAudit, IsConfinedWhereYes}

pub few_compartments : (i : Image) (t : Tables) → Sound monitor_code i t → length t.comps < 2 ^ 32
few_compartments i t sound = let most = (head_is i t (none_fails monitor_code i t sound).tables).most in omega (arith, most)

pub few_sites : (i : Image) (t : Tables) → ObeysRules i → Sound monitor_code i t → length t.sites < 2 ^ 32
few_sites i t rules sound =
    let head = head_is i t (none_fails monitor_code i t sound).tables in
    let area = head.area in
    let inside = head.inside.1 in
    let most = rules.flash_most in
    let highest = rules.flash_highest in
    omega (arith, area, inside, most, highest)

-- the yes by the tables of a sound image is its answer, and tells that it is confined
pub yes_is : (i : Image) (t : Tables) (a : Audit) → a ≡ Yes (length t.comps) (length t.sites) → Sound monitor_code i t → IsAudit i a
yes_is i t a e sound =
    let own = sound.tables in
    subst (IsAudit i) (sym e) (subst (Sound monitor_code i) own sound, ap (λ (t : Tables). length t.comps) own, ap (λ (t : Tables). length t.sites) own)

pub yes_confined : SoundImagesAreConfined monitor_code → (i : Image) (t : Tables) (a : Audit) → ObeysRules i → a ≡ Yes (length t.comps) (length t.sites) → Sound monitor_code i t
    → IsConfinedWhereYes i a
yes_confined confined i t a rules e sound = subst (IsConfinedWhereYes i) (sym e) (subst (Confined i) sound.tables (confined i t rules sound))
