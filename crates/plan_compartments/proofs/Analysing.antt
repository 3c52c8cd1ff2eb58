-- Programs of checked firmwares, their least sets, and their needs.
use Rattle.std.proofs.Common.{◌≡◌, length, Bool, subst, ap, ◌∙◌}
use Rattle.ir_model.specs.Plain.{PlainFirmware, funcs_of}
use Rattle.ir_model.specs.Canonical.{IsWithinLimits}
use Rattle.ir_model.specs.Typing.{IsTyped}
use Rattle.ir_model.specs.Resolved.{Program}
use Rattle.ir_model.specs.Resolve.{resolve}
use Rattle.ir_model.specs.Checked.{IsChecked}
use Rattle.ir_laws.specs.Sets.{ObjectSets}
use Rattle.plan_model.specs.declared.needs.Needs.{Needs}
use Rattle.plan_model.specs.Needs.{AreNeeds}
use Rattle.plan_model.specs.PointsTo.{IsLeast}
use Rattle.plan_compartments.specs.Analyses.{AreNeedsOf}
use Rattle.ir_laws.proofs.Resolved.{as_many}

pub checked : (p : Program) (w : PlainFirmware) → IsTyped w → IsWithinLimits w → p ≡ resolve w → IsChecked p
checked p w t l e = record { firmware = w; typed = t; within = l; is = e }

pub needs_of : (p : Program) (w : PlainFirmware) (S : ObjectSets) (closed : Bool) (n : Needs) → p ≡ resolve w → IsLeast p S → AreNeeds p S closed n
    → AreNeedsOf w closed n
needs_of p w S closed n e h k = record { sets = S; least = subst (λ q. IsLeast q S) e h; needs = subst (λ q. AreNeeds q S closed n) e k }

pub each_need : (p : Program) (w : PlainFirmware) (S : ObjectSets) (closed : Bool) (n : Needs) → p ≡ resolve w → AreNeeds p S closed n
    → length n.funcs ≡ length (funcs_of w)
each_need p w S closed n e k = k.count ∙ (ap (λ (q : Program). length q.funcs) e ∙ as_many w)
