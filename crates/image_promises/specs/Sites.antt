-- Beyond the program's claim: only laws, proofs and functions inside the tool cite this file.
-- What holds of the sites, the targets and the lent locals in the tables of every planned firmware: statements of laws.
use Rattle.std.specs.Prelude.{◌≡◌, ℕ, ◌<◌, length, true, Some, None}
use Rattle.ir_model.specs.Plain.{PlainFirmware}
use Rattle.plan_model.specs.declared.needs.Needs.{Needs}
use Rattle.plan_model.specs.declared.graph.Final.{Final}
use Rattle.plan_model.specs.declared.plan.Board.{Board}
use Rattle.need_laws.specs.Reached.{HasTarget}
use Rattle.monitor_model.specs.Checks.{sites_fail, lends_fail}
use Rattle.monitor_model.specs.MonitorCode.{MonitorCode}
use Rattle.refine.specs.Builds.{Build, compartment_of, entry_at, half_at, site_at}
use Rattle.plan.specs.PlannedFirmwares.{IsPlanned}
use Rattle.image_promises.specs.Laws.{OfPlanned}
use Rattle.image_promises.specs.Parts.{linked_build}

-- ---- checks of an image that do not fail

-- each lent local has 1 to 65,536 bytes
abbrev pub LendsPass : Type 0
LendsPass = OfPlanned (λ i t. lends_fail t ≡ None)

-- each site has 1 to 64 targets, all of them in the list; each target, and `main`, is an odd entry in the code of its compartment
abbrev pub SitesPass : Type 0
SitesPass = OfPlanned (λ i t. sites_fail t ≡ None)

-- ---- what calls need

-- the record of a crossing site has each function that may be called there
abbrev pub HasTargets : Build → Type 0
HasTargets k =
    (f b p s h : ℕ) → f < length k.program.funcs → site_at k f b p ≡ Some s → HasTarget k.needs f b p h
    → k.setting.has_target s (half_at k f b p) (entry_at k h) (compartment_of k h) ≡ true

abbrev pub TargetsAreThere : Type 0
TargetsAreThere = (code : MonitorCode) (w : PlainFirmware) (n : Needs) (f : Final) (b : Board) → IsPlanned w n f b → HasTargets (linked_build code w n f b)
