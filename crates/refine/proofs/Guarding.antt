-- The guard below the stack is refused to threads.
use Rattle.std.proofs.Common.{◌≡◌, ℕ, ◌+◌, ◌-◌, ◌/◌, ◌%◌, ◌^◌, ◌<◌, ◌≤◌, Bool, true, false, List, length, nat_eq, refl, ap, ◌∙◌, subst, arith, ⊎_elim}
use Rattle.machine_protection.specs.declared.region.Access.TheVariants.{Write}
use Rattle.machine_protection.specs.Protection.{permits}
use Rattle.machine_model.specs.State.{by_mpu, is_unprivileged}
use Rattle.machine_model.specs.RunningCode.{Context}
use Rattle.monitor_model.specs.Block.{MonitorBlock}
use Rattle.monitor_model.specs.Invariant.{Invariant}
use Rattle.monitor_model.proofs.Invariants.{runs_unprivileged}
use Rattle.monitor_confined.specs.Reaches.{ThreadsReach}
use Rattle.monitor_confined.proofs.Reaches.{UnitLaws, stack_some, current_word, writes}
use Rattle.monitor_sound.specs.HaltingCalls.{PlacedCallsRunShort}
use Rattle.refine.specs.Guard.{GuardsRefuse, GuardsServe}
use Rattle.refine.specs.Ends.{guard_bytes}

pub guards_refuse : ThreadsReach → GuardsRefuse
unfolding by_mpu
guards_refuse reach i t m s a p guarded h below near = by (permits s.protection.mpu true Write a) refl
  where
    none : permits s.protection.mpu true Write a ≡ true → ⊥
    none e = ⊎_elim (λ slot. guarded _ a (current_word i t m s h) below near slot) (λ o. let lo = o.0 in absurd (omega (arith, lo, below))) ((reach i t m s p h).stores a e)

    by : (b : Bool) → permits s.protection.mpu true Write a ≡ b → permits s.protection.mpu (is_unprivileged s.protection) Write a ≡ false
    by true e = absurd (none e)
    by false e = ap (λ (u : Bool). permits s.protection.mpu u Write a) (runs_unprivileged h.inv) ∙ e

pub guards_serve : UnitLaws → PlacedCallsRunShort → GuardsServe
unfolding by_mpu
guards_serve unit short code i t p stands law guarded = record {
  refuses = λ m x ram a h below near. refuse m x ram a h (subst (λ (b : ℕ). a < b) (base_is) below) (subst (λ (b : ℕ). b ≤ a + guard_bytes) (base_is) near);
  thread = λ m x ram h. h.thread;
  enabled = λ m x ram h. ap (λ (k : ℕ). nat_eq (k / 2 ^ 16 % 2) 1) h.enabled;
  calls = short code i t p stands law;
  deep = let z = stack_some unit i t p in omega (arith, z.0);
}
  where
    base_is : i.ram_base + (t.stack.base - i.ram_base) ≡ t.stack.base
    base_is = let e = p.stack_base in let x = p.stack.place.0 in omega (arith, e, x)

    none : (m : MonitorBlock) (x : Context) (ram : List ℕ) (a : ℕ) → Invariant i t m x ram → a < t.stack.base → t.stack.base ≤ a + guard_bytes → permits x.protection.mpu true Write a ≡ true → ⊥
    none m x ram a h below near e =
        ⊎_elim (λ slot. guarded m.current a h.orderly.current_in below near slot) (λ o. let lo = o.0 in absurd (omega (arith, lo, below)))
        (writes unit i t p m.current m.top (length m.saved) h.orderly.is_top h.orderly.current_in x.protection.mpu h.control h.regions a e)

    refuse : (m : MonitorBlock) (x : Context) (ram : List ℕ) (a : ℕ) → Invariant i t m x ram → a < t.stack.base → t.stack.base ≤ a + guard_bytes → by_mpu x.protection Write a ≡ false
    refuse m x ram a h below near = by (permits x.protection.mpu true Write a) refl
      where
        by : (b : Bool) → permits x.protection.mpu true Write a ≡ b → permits x.protection.mpu (is_unprivileged x.protection) Write a ≡ false
        by true e = absurd (none m x ram a h below near e)
        by false e = ap (λ (u : Bool). permits x.protection.mpu u Write a) (runs_unprivileged h) ∙ e
