-- Where the stack and the monitor's block lie in RAM.
use Rattle.std.proofs.Common.{◌≡◌, ℕ, ◌≤◌, ◌+◌, ◌-◌, ◌*◌, ◌/◌, ◌%◌, ◌^◌, inl, inr, ap, sym, ◌∙◌, subst, lit<, arith}
use Rattle.std.proofs.Math.Nat.{mul-mod_left}
use Rattle.std.proofs.lemmas.Nat.{div-add-mod', mod_below, pow-add}
use mathlib.Core.Logic.{⊎_elim}
use Rattle.image_model.specs.LinkedImage.{linked}
use Rattle.image_model.specs.LinkedTables.{tables_of}
use Rattle.plan.specs.PlannedFirmwares.{plan}
use Rattle.image_promises.proofs.PlannedPremises.{planned_of}
use Rattle.image_promises.proofs.Facts.{PlanLaws, stack_in, stack_size_is, stack_least, monitor_in, monitor_size_is, stack_apart}
use Rattle.base_laws.proofs.Powers.{multiple_of_power}
use Rattle.image_promises.specs.Parts.{MemoryIsLaid}

apart_eights : (x y : ℕ) → x % 8 ≡ 0 → y % 8 ≡ 0 → (x - y) % 8 ≡ 0
apart_eights x y e g =
    let d = div-add-mod' x 8 in
    let c = div-add-mod' y 8 in
    let whole : x - y ≡ (x / 8 - y / 8) * 8 = omega (arith, d, c, e, g) in
    ap (λ z. z % 8) whole ∙ mul-mod_left (x / 8 - y / 8) 8

-- an eighth of a power of two from 64 on
an_eighth : (x k : ℕ) → 6 ≤ k → x ≡ 2 ^ k → (x / 8 * 8 ≡ x) × (x / 8 % 8 ≡ 0)
an_eighth x k l e =
    let split : 2 ^ (k - 6) * 64 ≡ 2 ^ k = sym (pow-add 2 (k - 6) 6) ∙ ap (λ j. 2 ^ j) (let s : k - 6 + 6 ≡ k = omega (arith, l) in s) in
    let d = div-add-mod' x 8 in
    let m = mod_below x 8 (lit< tt) in
    let eighth : x / 8 ≡ 2 ^ (k - 6) * 8 = omega (arith, d, m, split, e) in (omega (arith, eighth, split, e), ap (λ y. y % 8) eighth ∙ mul-mod_left (2 ^ (k - 6)) 8)

pub memory_is_laid : PlanLaws → MemoryIsLaid
unfolding linked tables_of
memory_is_laid law code w n f b is =
    let stack = stack_in law (planned_of is) in
    let size = stack_size_is law (planned_of is) in
    let least = stack_least law (planned_of is) in
    let monitor = monitor_in law (planned_of is) in
    let apart = stack_apart law (planned_of is) in
    let power = is.board.stack in
    let low = stack.0.0 in
    let high = stack.0.1 in
    let mlow = monitor.0.0 in
    let mhigh = monitor.0.1 in
    let l = plan w n f b in
    let six = power.1 in
    let eight = an_eighth l.stack.size power.0 (omega (arith, six)) (size ∙ power.3) in
    let whole = eight.0 in
    let ram : b.ram_base % 8 ≡ 0 = multiple_of_power b.ram_base 3 20 (omega arith) is.board.ram_aligned in
    let base : l.stack.base % 8 ≡ 0 = multiple_of_power l.stack.base 3 power.0 (omega (arith, six)) (subst (λ s. l.stack.base % s ≡ 0) (size ∙ power.3) stack.1) in
    record {
      stack_aligned = apart_eights l.stack.base b.ram_base base ram;
      eighth_aligned = eight.1;
      some = omega (arith, whole, size, least);
      fits = omega (arith, low, high, whole);
      block_fits = let ms = monitor_size_is law (planned_of is) in omega (arith, mlow, mhigh, ms);
      apart = ⊎_elim (λ le. inl (omega (arith, le, mlow, low))) (λ le. inr (omega (arith, le, mlow, low, whole))) apart;
    }
