-- The steps from a core are at most the list's bound.
use Rattle.std.proofs.Common.{◌≡◌, ℕ, zero, suc, ◌+◌, ◌*◌, ◌/◌, ◌%◌, ◌≤◌, max, Bool, true, false, nat_eq, arith}
use Rattle.machine_devices.specs.declared.image.Image.{Image}
use Rattle.machine_model.specs.State.{PermissionTest}
use Rattle.monitor_steps.specs.Steps.{PrivilegedSteps, End, Const, Copy, Load, Store, Alu, ReadPsp, WritePsp, WriteControl, Test, Repeat, Halt, Return, Go}
use Rattle.monitor_steps.specs.Core.{Core, low_register, with_low, with_psp, is_privileged_on_msp}
use Rattle.monitor_steps.specs.Accesses.{LoadResult, Value, LoadStops, LoadUnclaimed, StoreResult, Written, StoreStops, StoreUnclaimed, load, store}
use Rattle.monitor_steps.specs.Effect.{Outcome, Went, Halted, AtReturn, AtBranch, Stopped, Unclaimed, operation, compared, either, with_one_less, turns, effect}
use Rattle.monitor_steps.specs.Ticks.{load_ticks, store_ticks, then_ticks, either_ticks, zero_ticks, control_ticks, turn_ticks, ticks, most_ticks}

module _ (j : PermissionTest) (i : Image) where
  then_most : (o : Outcome) (f : Core → ℕ) (m : ℕ) → ((d : Core) → f d ≤ m) → then_ticks o f ≤ m
  then_most (Went d) f m h = h d
  then_most (Halted n d) f m h = omega arith
  then_most (AtReturn d) f m h = omega arith
  then_most (AtBranch a b d) f m h = omega arith
  then_most (Stopped r d) f m h = omega arith
  then_most Unclaimed f m h = omega arith

  value_most : (g : LoadResult) (f : ℕ → ℕ) (m : ℕ) → ((v : ℕ) → f v ≤ m) → load_ticks g f ≤ m
  value_most (Value v) f m h = h v
  value_most (LoadStops r) f m h = omega arith
  value_most LoadUnclaimed f m h = omega arith

  done_most : (g : StoreResult) (f : Core → ℕ) (m : ℕ) → ((d : Core) → f d ≤ m) → store_ticks g f ≤ m
  done_most (Written d) f m h = h d
  done_most (StoreStops r) f m h = omega arith
  done_most StoreUnclaimed f m h = omega arith

  pick_most : (b : Bool) (x y m n : ℕ) → x ≤ m → y ≤ n → either_ticks b x y ≤ max m n
  pick_most true x y m n h k = omega arith
  pick_most false x y m n h k = omega arith

  zero_most : (v a b m : ℕ) → a ≤ m → b ≤ m → zero_ticks v a b ≤ m
  zero_most zero a b m h k = h
  zero_most (suc v) a b m h k = k

  control_most : (a b q : Bool) (v : ℕ) (c : Core) (f : Core → ℕ) (m : ℕ) → ((d : Core) → f d ≤ m) → control_ticks a b q v c f ≤ m
  control_most true b q v c f m h = h _
  control_most false true true v c f m h = h _
  control_most false true false v c f m h = omega arith
  control_most false false q v c f m h = omega arith

  turns_most : (most left : ℕ) (body : Core → Outcome) (count : Core → ℕ) (b : ℕ) → ((d : Core) → count d ≤ b) → (c : Core) → turn_ticks most left body count c ≤ most * (b + 4) + 3
  turns_most zero left body count b h c = omega arith
  turns_most (suc most) left body count b h c =
      let one = h c in
      let rest = then_most (body c) (λ d. turn_ticks most left body count (with_one_less left d)) (most * (b + 4) + 3) (λ d. turns_most most left body count b h (with_one_less left d)) in
      let e : suc most * (b + 4) ≡ most * (b + 4) + (b + 4) = grind arith in
      zero_most (low_register c left) 3 (count c + 4 + then_ticks (body c) (λ d. turn_ticks most left body count (with_one_less left d))) (suc most * (b + 4) + 3) (omega arith) (omega (arith, one, rest, e))

  pub ticks_are_bounded : (s : PrivilegedSteps) (c : Core) → ticks j i s c ≤ most_ticks s
  ticks_are_bounded End c = omega arith
  ticks_are_bounded (Const to n k) c = omega (arith, ticks_are_bounded k (with_low c to n))
  ticks_are_bounded (Copy to from k) c = omega (arith, ticks_are_bounded k (with_low c to (low_register c from)))
  ticks_are_bounded (Load z to base off k) c = omega (arith, value_most (load j i z base off c) (λ v. ticks j i k (with_low c to v)) (most_ticks k) (λ v. ticks_are_bounded k (with_low c to v)))
  ticks_are_bounded (Store z from base off k) c = omega (arith, done_most (store j i z from base off c) (λ d. ticks j i k d) (most_ticks k) (λ d. ticks_are_bounded k d))
  ticks_are_bounded (Alu op to a b k) c = omega (arith, ticks_are_bounded k (with_low c to (operation op (low_register c a) (low_register c b))))
  ticks_are_bounded (ReadPsp to k) c = omega (arith, pick_most (is_privileged_on_msp c) (ticks j i k (with_low c to c.other_sp)) 0 (most_ticks k) 0 (ticks_are_bounded k (with_low c to c.other_sp)) (omega arith))
  ticks_are_bounded (WritePsp from k) c = let d : Core = with_psp c (low_register c from) in omega (arith, pick_most (is_privileged_on_msp c) (ticks j i k d) 0 (most_ticks k) 0 (ticks_are_bounded k d) (omega arith))
  ticks_are_bounded (WriteControl from k) c = omega (arith, control_most c.protection.handler (is_privileged_on_msp c) (nat_eq (low_register c from / 2 % 2) 1) (low_register c from) c (λ d. ticks j i k d) (most_ticks k) (λ d. ticks_are_bounded k d))
  ticks_are_bounded (Test t a b ys ns k) c =
      let p = pick_most (compared t (low_register c a) (low_register c b)) (ticks j i ys c) (ticks j i ns c) (most_ticks ys) (most_ticks ns) (ticks_are_bounded ys c) (ticks_are_bounded ns c) in
      let r = then_most (either (compared t (low_register c a) (low_register c b)) (effect j i ys) (effect j i ns) c) (λ d. ticks j i k d) (most_ticks k) (λ d. ticks_are_bounded k d) in
      omega (arith, p, r)
  ticks_are_bounded (Repeat left most body k) c =
      let p = turns_most most left (effect j i body) (λ d. ticks j i body d) (most_ticks body) (λ d. ticks_are_bounded body d) c in
      let r = then_most (turns most left (effect j i body) c) (λ d. ticks j i k d) (most_ticks k) (λ d. ticks_are_bounded k d) in
      omega (arith, p, r)
  ticks_are_bounded (Halt n k) c = omega arith
  ticks_are_bounded (Return k) c = omega arith
  ticks_are_bounded (Go to link k) c = omega arith
