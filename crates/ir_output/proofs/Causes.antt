-- A put that failed is the cause of a run that was broken off.
use Rattle.std.proofs.Common.{◌≡◌, ℕ, Result, Ok, Err, IfErr, sym, subst}
use Rattle.std.specs.Result.{IsErrAnd}
use Rattle.base_outside.specs.Counts.{Rose}
use Rattle.ir_output.specs.declared.Broken.{Broken}
use Rattle.ir_output.specs.declared.Broken.TheVariants.{Unprinted}
use Rattle.ir_output.specs.Ends.{IsCause}

pub unprinted : {T : Type 0} (r : Result T Broken) (first before after : ℕ) → IsErrAnd r (λ e. e ≡ Unprinted) → Rose before after
    → before ≡ first → IfErr r (IsCause first after)
unprinted (Ok x) f b a is rose same = tt
unprinted (Err e) f b a is rose same =
    subst (IsCause f a) (sym is) (subst (λ n. Rose n a) same rose)

-- a cause that is passed on
pub same_cause : {T : Type 0} (r : Result T Broken) (e : Broken) (first after : ℕ) → IsErrAnd r (λ d. d ≡ e) → IsCause first after e
    → IfErr r (IsCause first after)
same_cause (Ok x) e f a is cause = tt
same_cause (Err d) e f a is cause = subst (IsCause f a) (sym is) cause
