-- What the bound asks of the program and of the needs of a checked firmware.
use Rattle.std.proofs.Common.{◌≡◌, Bool, refl, sym, subst}
use Rattle.ir_model.specs.Plain.{PlainFirmware}
use Rattle.ir_model.specs.Resolve.{resolve}
use Rattle.ir_model.specs.Resolved.{Program}
use Rattle.ir_model.specs.Canonical.{IsWithinLimits}
use Rattle.ir_model.specs.Typing.{IsTyped}
use Rattle.ir_laws.specs.Typed.{TypedOverNumbers, sizes_of}
use Rattle.need_laws.specs.Checked.{LeastSetsServe}
use Rattle.plan_model.specs.declared.needs.Needs.{Needs}
use Rattle.plan_compartments.specs.Analyses.{AreNeedsOf}
use Rattle.refine_stack.specs.Paths.{SitesAreThere}
use Rattle.aces_stack.specs.StackLaws.{NeedsHaveFunctions}

pub sites_there : (p : Program) (w : PlainFirmware) (closed : Bool) (n : Needs) → TypedOverNumbers → LeastSetsServe → NeedsHaveFunctions → p ≡ resolve w → IsTyped w → IsWithinLimits w
    → AreNeedsOf w closed n → SitesAreThere p n
sites_there p w closed n typed serve there e t l are =
    subst (λ (q : Program). SitesAreThere q n) (sym e)
    (there (resolve w) (sizes_of w) are.sets closed n (typed w t l) (serve (resolve w) are.sets (record { firmware = w; typed = t; within = l; is = refl }) are.least) are.needs)
