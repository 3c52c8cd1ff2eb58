-- Accesses of every width, those among them that stop the machine, and tests with both answers, as rules with a bound on the steps.
use Rattle.std.proofs.Common.{◌≡◌, ℕ, ◌+◌, ◌%◌, ◌^◌, ◌<◌, Bool, true, false, List, [], ◌∷◌, length, nat_eq, refl, sym, ap, subst, arith}
use Rattle.base_words.specs.declared.memory.Width.{Width}
use Rattle.base_words.specs.Width.{byte_count}
use Rattle.base_words.specs.Bytes.{read, write}
use Rattle.base_words.proofs.Bytes.{length-write}
use Rattle.machine_protection.specs.declared.region.Access.{Access}
use Rattle.machine_protection.specs.declared.region.Access.TheVariants.{Read, Write}
use Rattle.machine_devices.specs.declared.image.Image.{Image}
use Rattle.machine_devices.specs.Rules.{ObeysRules}
use Rattle.machine_bus.specs.Locations.{InRam}
use Rattle.machine_model.specs.declared.state.ProtectionState.{ProtectionState}
use Rattle.machine_model.specs.declared.state.StopReason.{StopReason}
use Rattle.machine_model.specs.declared.state.StopReason.TheVariants.{Unaligned}
use Rattle.machine_model.specs.declared.answers.Verdict.TheVariants.{Bad}
use Rattle.machine_model.specs.State.{PermissionTest}
use Rattle.machine_model.specs.Tests.{verdict}
use Rattle.monitor_steps.specs.declared.steps.PrivilegedCond.{PrivilegedCond}
use Rattle.monitor_steps.specs.Steps.{PrivilegedSteps, Load, Store, Test}
use Rattle.monitor_steps.specs.Core.{Core, low_register, with_low, with_ram}
use Rattle.monitor_steps.specs.Accesses.{LoadStops, StoreStops, address_of, load, store}
use Rattle.monitor_steps.specs.Effect.{Outcome, Stopped, then_do, compared, after_load, after_store, effect}
use Rattle.monitor_steps.specs.Ticks.{load_ticks, store_ticks, then_ticks, ticks}
use Rattle.monitor_steps.specs.Safe.{Rule, OnValue, OnWritten, OnWent, IsSafe}
use Rattle.monitor_steps.proofs.Gives.{Open, in_ram, load_is_at, store_is_at, all, safe_all}
use Rattle.monitor_steps.proofs.Within.{GivesWithin, ticks_all, yes_within, no_within, value_within, wrote_within}

bad_verdict : (j : PermissionTest) (p : ProtectionState) (kind : Access) (w a : ℕ) → nat_eq (a % w) 0 ≡ false → verdict j p kind w a ≡ Bad Unaligned
unfolding verdict
bad_verdict j p kind w a e = rw e refl

module _ {j : PermissionTest} {i : Image} {Good : ProtectionState → Type 0} {Allowed : Rule} where
  -- both answers
  pub test_within : {m : ℕ} {t : PrivilegedCond} {a b : ℕ} {ys ns k : PrivilegedSteps} {ks : List PrivilegedSteps} {c : Core} {Q : Outcome → Type 0} → (compared t (low_register c a) (low_register c b) ≡ true → GivesWithin j i Good Allowed m ys (k ∷ ks) c Q) →
      (compared t (low_register c a) (low_register c b) ≡ false → GivesWithin j i Good Allowed m ns (k ∷ ks) c Q) → GivesWithin j i Good Allowed (4 + m) (Test t a b ys ns k) ks c Q
  test_within {m} {t} {a} {b} {ys} {ns} {k} {ks} {c} {Q} y n = pick (compared t (low_register c a) (low_register c b)) refl
    where
      pick : (v : Bool) → compared t (low_register c a) (low_register c b) ≡ v → GivesWithin j i Good Allowed (4 + m) (Test t a b ys ns k) ks c Q
      pick true e = yes_within e (y e)
      pick false e = no_within e (n e)

  -- a load that stops the machine, and a store
  pub load_stops_within : (r : StopReason) {z : Width} {to base off : ℕ} {k : PrivilegedSteps} {ks : List PrivilegedSteps} {c : Core} {Q : Outcome → Type 0} → load j i z base off c ≡ LoadStops r → Allowed Read c (byte_count z) (address_of c (byte_count z) base off) → Q (Stopped r c) → GivesWithin j i Good Allowed 1 (Load z to base off k) ks c Q
  unfolding ticks_all all safe_all
  load_stops_within r {z} {to} {base} {off} {k} {ks = []} {c} {Q} e ok q = record {
    gives = record {
      holds = subst Q (sym (ap (λ g. after_load g c to (effect j i k)) e)) q;
      sound = (ok, subst (λ g. OnValue g (λ v. IsSafe j i Good Allowed k (with_low c to v))) (sym e) tt);
    };
    spent = let s : 1 + load_ticks (load j i z base off c) (λ v. ticks j i k (with_low c to v)) ≡ 1 = ap (λ g. 1 + load_ticks g (λ v. ticks j i k (with_low c to v))) e in omega (arith, s);
  }
  load_stops_within r {z} {to} {base} {off} {k} {ks = l ∷ ls} {c} {Q} e ok q = record {
    gives = record {
      holds = subst Q (sym (ap (λ g. then_do (after_load g c to (effect j i k)) (λ c. all j i Good Allowed l ls c)) e)) q;
      sound = ((ok, subst (λ g. OnValue g (λ v. IsSafe j i Good Allowed k (with_low c to v))) (sym e) tt), subst (λ g. OnWent (after_load g c to (effect j i k)) (λ d. safe_all j i Good Allowed l ls d)) (sym e) tt);
    };
    spent =
        let s : 1 + load_ticks (load j i z base off c) (λ v. ticks j i k (with_low c to v)) + then_ticks (after_load (load j i z base off c) c to (effect j i k)) (λ d. ticks_all j i Good Allowed l ls d) ≡ 1 =
        ap (λ g. 1 + load_ticks g (λ v. ticks j i k (with_low c to v)) + then_ticks (after_load g c to (effect j i k)) (λ d. ticks_all j i Good Allowed l ls d)) e in
        omega (arith, s);
  }

  pub store_stops_within : (r : StopReason) {z : Width} {from base off : ℕ} {k : PrivilegedSteps} {ks : List PrivilegedSteps} {c : Core} {Q : Outcome → Type 0} → store j i z from base off c ≡ StoreStops r → Allowed Write c (byte_count z) (address_of c (byte_count z) base off) → Q (Stopped r c) → GivesWithin j i Good Allowed 1 (Store z from base off k) ks c Q
  unfolding ticks_all all safe_all
  store_stops_within r {z} {from} {base} {off} {k} {ks = []} {c} {Q} e ok q = record {
    gives = record {
      holds = subst Q (sym (ap (λ g. after_store g c (effect j i k)) e)) q;
      sound = (ok, subst (λ g. OnWritten g (λ d. Good d.protection × IsSafe j i Good Allowed k d)) (sym e) tt);
    };
    spent = let s : 1 + store_ticks (store j i z from base off c) (λ d. ticks j i k d) ≡ 1 = ap (λ g. 1 + store_ticks g (λ d. ticks j i k d)) e in omega (arith, s);
  }
  store_stops_within r {z} {from} {base} {off} {k} {ks = l ∷ ls} {c} {Q} e ok q = record {
    gives = record {
      holds = subst Q (sym (ap (λ g. then_do (after_store g c (effect j i k)) (λ c. all j i Good Allowed l ls c)) e)) q;
      sound = ((ok, subst (λ g. OnWritten g (λ d. Good d.protection × IsSafe j i Good Allowed k d)) (sym e) tt), subst (λ g. OnWent (after_store g c (effect j i k)) (λ d. safe_all j i Good Allowed l ls d)) (sym e) tt);
    };
    spent =
        let s : 1 + store_ticks (store j i z from base off c) (λ d. ticks j i k d) + then_ticks (after_store (store j i z from base off c) c (effect j i k)) (λ d. ticks_all j i Good Allowed l ls d) ≡ 1 =
        ap (λ g. 1 + store_ticks g (λ d. ticks j i k d) + then_ticks (after_store g c (effect j i k)) (λ d. ticks_all j i Good Allowed l ls d)) e in
        omega (arith, s);
  }

  module _ (rules : ObeysRules i) where
    -- a load from RAM at an offset, of any width, where the address is its multiple; and one that is none
    pub load_wide_within : {n : ℕ} (o : ℕ) (z : Width) {to base : ℕ} {k : PrivilegedSteps} {ks : List PrivilegedSteps} {c : Core} {Q : Outcome → Type 0} → Open j c.protection → low_register c base ≡ i.ram_base + o → (i.ram_base + o) % byte_count z ≡ 0 → o < i.ram_size → Allowed Read c (byte_count z) (i.ram_base + o) →
        ((v : ℕ) → v ≡ read (byte_count z) o c.ram → GivesWithin j i Good Allowed n k ks (with_low c to v) Q) → GivesWithin j i Good Allowed (1 + n) (Load z to base 0 k) ks c Q
    load_wide_within o z {to} {base} {k} {ks} {c} {Q} f e al hi ok w =
        let a : ℕ = i.ram_base + o in
        let r : address_of c (byte_count z) base 0 ≡ a = omega (arith, e, hi, rules.ram_highest, rules.ram_most) in
        let l = load_is_at j i c z base 0 a (InRam o) f r al (omega (arith, hi, rules.ram_highest, rules.ram_most)) (in_ram i a o refl hi) in
        value_within (read (byte_count z) o c.ram) {z = z} l (subst (λ a. Allowed Read c (byte_count z) a) (sym r) ok) (w _ refl)

    pub store_wide_within : {n : ℕ} (o : ℕ) (z : Width) {from base : ℕ} {k : PrivilegedSteps} {ks : List PrivilegedSteps} {c : Core} {Q : Outcome → Type 0} → Open j c.protection → Good c.protection → low_register c base ≡ i.ram_base + o → (i.ram_base + o) % byte_count z ≡ 0 → o < i.ram_size → Allowed Write c (byte_count z) (i.ram_base + o) →
        ((m : List ℕ) → m ≡ write (byte_count z) o (low_register c from) c.ram → length m ≡ length c.ram → GivesWithin j i Good Allowed n k ks (with_ram c m) Q) → GivesWithin j i Good Allowed (1 + n) (Store z from base 0 k) ks c Q
    store_wide_within o z {from} {base} {k} {ks} {c} {Q} f g e al hi ok w =
        let a : ℕ = i.ram_base + o in
        let r : address_of c (byte_count z) base 0 ≡ a = omega (arith, e, hi, rules.ram_highest, rules.ram_most) in
        let l = store_is_at j i c z from base 0 a (InRam o) f r al (omega (arith, hi, rules.ram_highest, rules.ram_most)) (in_ram i a o refl hi) in
        wrote_within (with_ram c (write (byte_count z) o (low_register c from) c.ram)) {z = z} l (subst (λ a. Allowed Write c (byte_count z) a) (sym r) ok) g (w _ refl (length-write (byte_count z) o (low_register c from) c.ram))

  pub load_unaligned_within : (a : ℕ) (z : Width) {to base : ℕ} {k : PrivilegedSteps} {ks : List PrivilegedSteps} {c : Core} {Q : Outcome → Type 0} → low_register c base ≡ a → a < 2 ^ 32 → nat_eq (a % byte_count z) 0 ≡ false → Allowed Read c (byte_count z) a → Q (Stopped Unaligned c) → GivesWithin j i Good Allowed 1 (Load z to base 0 k) ks c Q
  load_unaligned_within a z {to} {base} {k} {ks} {c} {Q} e lt off ok q =
      let r : address_of c (byte_count z) base 0 ≡ a = omega (arith, e, lt) in
      let v = bad_verdict j c.protection Read (byte_count z) a off in
      let l : load j i z base 0 c ≡ LoadStops Unaligned = rw (r, v) refl in
      load_stops_within Unaligned {z = z} l (subst (λ a. Allowed Read c (byte_count z) a) (sym r) ok) q

  pub store_unaligned_within : (a : ℕ) (z : Width) {from base : ℕ} {k : PrivilegedSteps} {ks : List PrivilegedSteps} {c : Core} {Q : Outcome → Type 0} → low_register c base ≡ a → a < 2 ^ 32 → nat_eq (a % byte_count z) 0 ≡ false → Allowed Write c (byte_count z) a → Q (Stopped Unaligned c) → GivesWithin j i Good Allowed 1 (Store z from base 0 k) ks c Q
  store_unaligned_within a z {from} {base} {k} {ks} {c} {Q} e lt off ok q =
      let r : address_of c (byte_count z) base 0 ≡ a = omega (arith, e, lt) in
      let v = bad_verdict j c.protection Write (byte_count z) a off in
      let l : store j i z from base 0 c ≡ StoreStops Unaligned = rw (r, v) refl in
      store_stops_within Unaligned {z = z} l (subst (λ a. Allowed Write c (byte_count z) a) (sym r) ok) q
