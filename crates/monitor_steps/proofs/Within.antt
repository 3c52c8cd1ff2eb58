-- The rules with a bound on the steps: what of a list runs from this core takes at most so many.
use Rattle.std.proofs.Common.{◌≡◌, ℕ, zero, suc, ◌+◌, ◌*◌, ◌%◌, ◌^◌, ◌<◌, ◌≤◌, Bool, true, false, List, [], ◌∷◌, length, refl, sym, ap, subst, arith}
use Rattle.base_words.specs.declared.memory.Width.{Width}
use Rattle.base_words.specs.declared.memory.Width.TheVariants.{Word}
use Rattle.base_words.specs.Width.{byte_count}
use Rattle.base_words.specs.Bytes.{read, write}
use Rattle.base_words.proofs.Bytes.{length-write}
use Rattle.machine_protection.specs.declared.region.Access.TheVariants.{Read, Write}
use Rattle.machine_devices.specs.declared.image.Image.{Image}
use Rattle.machine_devices.specs.Rules.{ObeysRules}
use Rattle.machine_bus.specs.Locations.{InRam, InFlash}
use Rattle.machine_model.specs.declared.state.ProtectionState.{ProtectionState}
use Rattle.machine_model.specs.State.{PermissionTest, is_unprivileged}
use Rattle.machine_model.specs.System.{in_system, is_system_register}
use Rattle.monitor_steps.specs.declared.steps.PrivilegedOp.{PrivilegedOp}
use Rattle.monitor_steps.specs.declared.steps.PrivilegedCond.{PrivilegedCond}
use Rattle.monitor_steps.specs.Steps.{PrivilegedSteps, End, Const, Copy, Load, Store, Alu, ReadPsp, Test, Repeat, Halt, Return}
use Rattle.monitor_steps.specs.Core.{Core, low_register, with_low, with_ram, with_system, is_privileged_on_msp}
use Rattle.monitor_steps.specs.Accesses.{Value, Written, address_of, load, store}
use Rattle.monitor_steps.specs.Effect.{Outcome, Went, Halted, AtReturn, AtBranch, Stopped, Unclaimed, then_do, operation, compared, either, after_load, after_store, with_one_less, turns, effect}
use Rattle.monitor_steps.specs.Ticks.{load_ticks, store_ticks, then_ticks, either_ticks, zero_ticks, turn_ticks, ticks}
use Rattle.monitor_steps.specs.Safe.{Rule, AreTurnsSafe, IsSafe}
use Rattle.monitor_steps.proofs.Gives.{Open, Gives, gives_effect, end_gives, next_gives, const_gives, copy_gives, alu_gives, yes_gives, no_gives, must_gives, must_not_gives, halt_gives, return_gives, loop_gives, looped, load_is_at, store_is_at, in_ram, in_flash, value_gives, wrote_gives, psp_gives}
use Rattle.machine_model.proofs.ToSystem.{to_system}

module _ (j : PermissionTest) (i : Image) (Good : ProtectionState → Type 0) (Allowed : Rule) where
  unfoldable pub ticks_all : PrivilegedSteps → List PrivilegedSteps → Core → ℕ
  ticks_all s [] c = ticks j i s c
  ticks_all s (k ∷ ks) c = ticks j i s c + then_ticks (effect j i s c) (λ d. ticks_all k ks d)

  -- and what of them runs takes at most so many steps
  pub record GivesWithin (n : ℕ) (s : PrivilegedSteps) (ks : List PrivilegedSteps) (c : Core) (Q : Outcome → Type 0) : Type 0 where
    pub gives : Gives j i Good Allowed s ks c Q
    pub spent : ticks_all s ks c ≤ n

  -- a step in front
  goes_spent : (s k : PrivilegedSteps) (ks : List PrivilegedSteps) (c d : Core) (m n : ℕ) → effect j i s c ≡ effect j i k d → ticks j i s c ≡ m + ticks j i k d → ticks_all k ks d ≤ n → ticks_all s ks c ≤ m + n
  unfolding ticks_all
  goes_spent s k [] c d m n e t h = omega (arith, t, h)
  goes_spent s k (l ∷ ks) c d m n e t h = let f = ap (λ o. then_ticks o (λ d. ticks_all l ks d)) e in omega (arith, t, h, f)

  -- two in a row
  then_both : (o : Outcome) (f : Core → Outcome) (a b : Core → ℕ) → then_ticks o a + then_ticks (then_do o f) b ≡ then_ticks o (λ d. a d + then_ticks (f d) b)
  then_both (Went c) f a b = refl
  then_both (Halted n c) f a b = refl
  then_both (AtReturn c) f a b = refl
  then_both (AtBranch x y c) f a b = refl
  then_both (Stopped r c) f a b = refl
  then_both Unclaimed f a b = refl

  split_spent : (s k : PrivilegedSteps) (ks : List PrivilegedSteps) (c : Core) (o : Outcome) (a n : ℕ) → effect j i s c ≡ then_do o (effect j i k) → ticks j i s c ≡ a + then_ticks o (λ d. ticks j i k d) → a + then_ticks o (λ d. ticks_all k ks d) ≤ n → ticks_all s ks c ≤ n
  unfolding ticks_all
  split_spent s k [] c o a n e t h = omega (arith, t, h)
  split_spent s k (l ∷ ks) c o a n e t h =
      let f = ap (λ o. then_ticks o (λ d. ticks_all l ks d)) e in
      let g = then_both o (effect j i k) (λ d. ticks j i k d) (λ d. ticks_all l ks d) in
      omega (arith, t, h, f, g)

  yes_spent : (t : PrivilegedCond) (a b : ℕ) (ys ns k : PrivilegedSteps) (ks : List PrivilegedSteps) (c : Core) (n : ℕ) (v : Bool) → compared t (low_register c a) (low_register c b) ≡ v → (v ≡ true → ticks_all ys (k ∷ ks) c ≤ n) → (v ≡ false → ticks_all ns (k ∷ ks) c ≤ n) → ticks_all (Test t a b ys ns k) ks c ≤ 4 + n
  unfolding ticks_all
  yes_spent t a b ys ns k ks c n v e y f =
      let z = sides v y f in
      split_spent (Test t a b ys ns k) k ks c (either (compared t (low_register c a) (low_register c b)) (effect j i ys) (effect j i ns) c) (4 + either_ticks (compared t (low_register c a) (low_register c b)) (ticks j i ys c) (ticks j i ns c)) (4 + n) refl refl
      (subst (λ v. 4 + either_ticks v (ticks j i ys c) (ticks j i ns c) + then_ticks (either v (effect j i ys) (effect j i ns) c) (λ d. ticks_all k ks d) ≤ 4 + n) (sym e) (omega (arith, z)))
    where
      sides : (v : Bool) → (v ≡ true → ticks_all ys (k ∷ ks) c ≤ n) → (v ≡ false → ticks_all ns (k ∷ ks) c ≤ n) → either_ticks v (ticks j i ys c) (ticks j i ns c) + then_ticks (either v (effect j i ys) (effect j i ns) c) (λ d. ticks_all k ks d) ≤ n
      sides true y f = y refl
      sides false y f = f refl

  looped_spent : (left : ℕ) (body : PrivilegedSteps) (P : ℕ → Core → Type 0) (b B : ℕ → ℕ) → 3 ≤ B 0 → ((n : ℕ) → b n + 4 + B n ≤ B (suc n)) → ((n : ℕ) (c : Core) → P n c → low_register c left ≡ n) → ((n : ℕ) (c : Core) → P (suc n) c → GivesWithin (b n) body [] c (λ o. (d : Core) × (o ≡ Went d) × P n (with_one_less left d))) →
      (most n : ℕ) (c : Core) → n ≤ most → P n c → turn_ticks most left (effect j i body) (λ d. ticks j i body d) c ≤ B n
  unfolding ticks_all
  looped_spent left body P b B z step counts turn zero zero c le p = z
  looped_spent left body P b B z step counts turn zero (suc n) c le p = absurd (omega arith)
  looped_spent left body P b B z step counts turn (suc most) zero c le p =
      subst (λ v. zero_ticks v 3 (ticks j i body c + 4 + then_ticks (effect j i body c) (λ d. turn_ticks most left (effect j i body) (λ d. ticks j i body d) (with_one_less left d))) ≤ B 0) (sym (counts zero c p)) z
  looped_spent left body P b B z step counts turn (suc most) (suc n) c le p =
      let w = turn n c p in
      let t = gives_effect w.gives in
      let l = looped_spent left body P b B z step counts turn most n (with_one_less left t.0.0) (omega arith) t.0.2 in
      let f = ap (λ o. then_ticks o (λ d. turn_ticks most left (effect j i body) (λ d. ticks j i body d) (with_one_less left d))) t.0.1 in
      let s = step n in
      let sp = w.spent in
      subst (λ v. zero_ticks v 3 (ticks j i body c + 4 + then_ticks (effect j i body c) (λ d. turn_ticks most left (effect j i body) (λ d. ticks j i body d) (with_one_less left d))) ≤ B (suc n)) (sym (counts (suc n) c p)) (omega (arith, sp, f, l, s))

module _ {j : PermissionTest} {i : Image} {Good : ProtectionState → Type 0} {Allowed : Rule} where
  pub end_within : {c : Core} {Q : Outcome → Type 0} → Q (Went c) → GivesWithin j i Good Allowed 0 End [] c Q
  unfolding ticks_all
  end_within q = record { gives = end_gives q; spent = omega arith }

  pub next_within : {n : ℕ} {k : PrivilegedSteps} {ks : List PrivilegedSteps} {c : Core} {Q : Outcome → Type 0} → GivesWithin j i Good Allowed n k ks c Q → GivesWithin j i Good Allowed n End (k ∷ ks) c Q
  unfolding ticks_all
  next_within w = record { gives = next_gives w.gives; spent = let h = w.spent in omega (arith, h) }

  pub halt_within : {n : ℕ} {k : PrivilegedSteps} {ks : List PrivilegedSteps} {c : Core} {Q : Outcome → Type 0} → Q (Halted n c) → GivesWithin j i Good Allowed 1 (Halt n k) ks c Q
  unfolding ticks_all
  halt_within {ks = []} q = record { gives = halt_gives q; spent = omega arith }
  halt_within {ks = k ∷ ks} q = record { gives = halt_gives q; spent = omega arith }

  pub return_within : {k : PrivilegedSteps} {ks : List PrivilegedSteps} {c : Core} {Q : Outcome → Type 0} → Q (AtReturn c) → GivesWithin j i Good Allowed 2 (Return k) ks c Q
  unfolding ticks_all
  return_within {ks = []} q = record { gives = return_gives q; spent = omega arith }
  return_within {ks = k ∷ ks} q = record { gives = return_gives q; spent = omega arith }

  -- a larger bound
  pub more_within : {m n : ℕ} {s : PrivilegedSteps} {ks : List PrivilegedSteps} {c : Core} {Q : Outcome → Type 0} → GivesWithin j i Good Allowed m s ks c Q → m ≤ n → GivesWithin j i Good Allowed n s ks c Q
  more_within w h = record { gives = w.gives; spent = let s = w.spent in omega (arith, s, h) }

  pub const_within : {m to n : ℕ} {k : PrivilegedSteps} {ks : List PrivilegedSteps} {c : Core} {Q : Outcome → Type 0} → GivesWithin j i Good Allowed m k ks (with_low c to n) Q → GivesWithin j i Good Allowed (2 + m) (Const to n k) ks c Q
  const_within {m} {to} {n} {k} {ks} {c} w = record { gives = const_gives w.gives; spent = goes_spent j i Good Allowed (Const to n k) k ks c (with_low c to n) 2 m refl refl w.spent }

  pub copy_within : {m to from : ℕ} {k : PrivilegedSteps} {ks : List PrivilegedSteps} {c : Core} {Q : Outcome → Type 0} → GivesWithin j i Good Allowed m k ks (with_low c to (low_register c from)) Q → GivesWithin j i Good Allowed (1 + m) (Copy to from k) ks c Q
  copy_within {m} {to} {from} {k} {ks} {c} w = record { gives = copy_gives w.gives; spent = goes_spent j i Good Allowed (Copy to from k) k ks c (with_low c to (low_register c from)) 1 m refl refl w.spent }

  pub alu_within : {m : ℕ} {op : PrivilegedOp} {to a b : ℕ} {k : PrivilegedSteps} {ks : List PrivilegedSteps} {c : Core} {Q : Outcome → Type 0} → ((v : ℕ) → v ≡ operation op (low_register c a) (low_register c b) → GivesWithin j i Good Allowed m k ks (with_low c to v) Q) → GivesWithin j i Good Allowed (4 + m) (Alu op to a b k) ks c Q
  alu_within {m} {op} {to} {a} {b} {k} {ks} {c} w = record { gives = alu_gives (λ v e. (w v e).gives); spent = goes_spent j i Good Allowed (Alu op to a b k) k ks c (with_low c to (operation op (low_register c a) (low_register c b))) 4 m refl refl (w _ refl).spent }

  pub at_within : {m : ℕ} {s : PrivilegedSteps} {ks : List PrivilegedSteps} {c d : Core} {Q : Outcome → Type 0} → c ≡ d → GivesWithin j i Good Allowed m s ks d Q → GivesWithin j i Good Allowed m s ks c Q
  at_within {m} {s} {ks} {c} {d} {Q} e w = subst (λ c. GivesWithin j i Good Allowed m s ks c Q) (sym e) w

  pub must_within : {m : ℕ} {t : PrivilegedCond} {a b n : ℕ} {k : PrivilegedSteps} {ks : List PrivilegedSteps} {c : Core} {Q : Outcome → Type 0} → (compared t (low_register c a) (low_register c b) ≡ false → Q (Halted n c)) → (compared t (low_register c a) (low_register c b) ≡ true → GivesWithin j i Good Allowed m k ks c Q) → GivesWithin j i Good Allowed (4 + (1 + m)) (Test t a b End (Halt n End) k) ks c Q
  unfolding ticks_all
  must_within {m} {t} {a} {b} {n} {k} {ks} {c} {Q} h w = record {
    gives = must_gives h (λ e. (w e).gives);
    spent = yes_spent j i Good Allowed t a b End (Halt n End) k ks c (1 + m) (compared t (low_register c a) (low_register c b)) refl (λ e. let s = (w e).spent in omega (arith, s)) (λ e. omega arith);
  }

  pub must_not_within : {m : ℕ} {t : PrivilegedCond} {a b n : ℕ} {k : PrivilegedSteps} {ks : List PrivilegedSteps} {c : Core} {Q : Outcome → Type 0} → (compared t (low_register c a) (low_register c b) ≡ true → Q (Halted n c)) → (compared t (low_register c a) (low_register c b) ≡ false → GivesWithin j i Good Allowed m k ks c Q) → GivesWithin j i Good Allowed (4 + (1 + m)) (Test t a b (Halt n End) End k) ks c Q
  unfolding ticks_all
  must_not_within {m} {t} {a} {b} {n} {k} {ks} {c} {Q} h w = record {
    gives = must_not_gives h (λ e. (w e).gives);
    spent = yes_spent j i Good Allowed t a b (Halt n End) End k ks c (1 + m) (compared t (low_register c a) (low_register c b)) refl (λ e. omega arith) (λ e. let s = (w e).spent in omega (arith, s));
  }

  pub yes_within : {m : ℕ} {t : PrivilegedCond} {a b : ℕ} {ys ns k : PrivilegedSteps} {ks : List PrivilegedSteps} {c : Core} {Q : Outcome → Type 0} → compared t (low_register c a) (low_register c b) ≡ true → GivesWithin j i Good Allowed m ys (k ∷ ks) c Q → GivesWithin j i Good Allowed (4 + m) (Test t a b ys ns k) ks c Q
  yes_within {m} {t} {a} {b} {ys} {ns} {k} {ks} {c} e w = record { gives = yes_gives e w.gives; spent = yes_spent j i Good Allowed t a b ys ns k ks c m true e (λ h. w.spent) (λ h. absurd (let z : ⊥ = cc in z)) }

  pub no_within : {m : ℕ} {t : PrivilegedCond} {a b : ℕ} {ys ns k : PrivilegedSteps} {ks : List PrivilegedSteps} {c : Core} {Q : Outcome → Type 0} → compared t (low_register c a) (low_register c b) ≡ false → GivesWithin j i Good Allowed m ns (k ∷ ks) c Q → GivesWithin j i Good Allowed (4 + m) (Test t a b ys ns k) ks c Q
  no_within {m} {t} {a} {b} {ys} {ns} {k} {ks} {c} e w = record { gives = no_gives e w.gives; spent = yes_spent j i Good Allowed t a b ys ns k ks c m false e (λ h. absurd (let z : ⊥ = cc in z)) (λ h. w.spent) }

  -- a loop: b n steps for the turn that leaves n, B n for n turns and the end
  pub loop_within : {m left most : ℕ} {body k : PrivilegedSteps} {ks : List PrivilegedSteps} {c : Core} {Q : Outcome → Type 0} (P : ℕ → Core → Type 0) (b B : ℕ → ℕ) (n : ℕ) → 3 ≤ B 0 → ((n : ℕ) → b n + 4 + B n ≤ B (suc n)) → ((n : ℕ) (c : Core) → P n c → low_register c left ≡ n) →
      ((n : ℕ) (c : Core) → P (suc n) c → GivesWithin j i Good Allowed (b n) body [] c (λ o. (d : Core) × (o ≡ Went d) × P n (with_one_less left d))) → n ≤ most → P n c → ((d : Core) → P 0 d → GivesWithin j i Good Allowed m k ks d Q) → GivesWithin j i Good Allowed (B n + m) (Repeat left most body k) ks c Q
  loop_within {m} {left} {most} {body} {k} {ks} {c} {Q} P b B n z step counts turn le p after = record {
    gives = loop_gives P n counts (λ n c p. (turn n c p).gives) le p (λ d p. (after d p).gives);
    spent = spent_is;
  }
    where
      l : (d : Core) × (turns most left (effect j i body) c ≡ Went d) × P 0 d × AreTurnsSafe most left (effect j i body) (λ d. IsSafe j i Good Allowed body d) c
      l = looped {j = j} {i = i} {Good = Good} {Allowed = Allowed} left body P counts (λ n c p. (turn n c p).gives) most n c le p

      spent_is : ticks_all j i Good Allowed (Repeat left most body k) ks c ≤ B n + m
      spent_is =
          let a = looped_spent j i Good Allowed left body P b B z step counts turn most n c le p in
          let w = (after l.0 l.2).spent in
          let f = ap (λ o. then_ticks o (λ d. ticks_all j i Good Allowed k ks d)) l.1 in
          split_spent j i Good Allowed (Repeat left most body k) k ks c (turns most left (effect j i body) c) (turn_ticks most left (effect j i body) (λ d. ticks j i body d) c) (B n + m) refl refl (omega (arith, a, w, f))

  pub value_within : {m : ℕ} (v : ℕ) {z : Width} {to base off : ℕ} {k : PrivilegedSteps} {ks : List PrivilegedSteps} {c : Core} {Q : Outcome → Type 0} → load j i z base off c ≡ Value v → Allowed Read c (byte_count z) (address_of c (byte_count z) base off) → GivesWithin j i Good Allowed m k ks (with_low c to v) Q → GivesWithin j i Good Allowed (1 + m) (Load z to base off k) ks c Q
  value_within {m} v {z} {to} {base} {off} {k} {ks} {c} e ok w = record {
    gives = value_gives v {z = z} e ok w.gives;
    spent = goes_spent j i Good Allowed (Load z to base off k) k ks c (with_low c to v) 1 m (ap (λ g. after_load g c to (effect j i k)) e) (ap (λ g. 1 + load_ticks g (λ v. ticks j i k (with_low c to v))) e) w.spent;
  }

  pub wrote_within : {m : ℕ} (d : Core) {z : Width} {from base off : ℕ} {k : PrivilegedSteps} {ks : List PrivilegedSteps} {c : Core} {Q : Outcome → Type 0} → store j i z from base off c ≡ Written d → Allowed Write c (byte_count z) (address_of c (byte_count z) base off) → Good d.protection → GivesWithin j i Good Allowed m k ks d Q → GivesWithin j i Good Allowed (1 + m) (Store z from base off k) ks c Q
  wrote_within {m} d {z} {from} {base} {off} {k} {ks} {c} e ok g w = record {
    gives = wrote_gives d {z = z} e ok g w.gives;
    spent = goes_spent j i Good Allowed (Store z from base off k) k ks c d 1 m (ap (λ g. after_store g c (effect j i k)) e) (ap (λ g. 1 + store_ticks g (λ d. ticks j i k d)) e) w.spent;
  }

  module _ (rules : ObeysRules i) where
    pub load_flash_within : {m : ℕ} (o : ℕ) {z : Width} {to base off : ℕ} {k : PrivilegedSteps} {ks : List PrivilegedSteps} {c : Core} {Q : Outcome → Type 0} → Open j c.protection → low_register c base + byte_count z * off ≡ i.flash_base + o → (i.flash_base + o) % byte_count z ≡ 0 → o < length i.flash → Allowed Read c (byte_count z) (i.flash_base + o) →
        ((v : ℕ) → v ≡ read (byte_count z) o i.flash → GivesWithin j i Good Allowed m k ks (with_low c to v) Q) → GivesWithin j i Good Allowed (1 + m) (Load z to base off k) ks c Q
    load_flash_within o {z} {to} {base} {off} {k} {ks} {c} {Q} f e al hi ok w =
        let a : ℕ = i.flash_base + o in
        let r : address_of c (byte_count z) base off ≡ a = omega (arith, rules.flash_highest, rules.flash_most) in
        let l = load_is_at j i c z base off a (InFlash o) f r al (omega (arith, rules.flash_highest, rules.flash_most)) (in_flash i a o rules refl hi) in
        value_within (read (byte_count z) o i.flash) {z = z} l (subst (λ a. Allowed Read c (byte_count z) a) (sym r) ok) (w _ refl)

    pub store_within : {n : ℕ} (o : ℕ) {from base off : ℕ} {k : PrivilegedSteps} {ks : List PrivilegedSteps} {c : Core} {Q : Outcome → Type 0} → Open j c.protection → Good c.protection → low_register c base + 4 * off ≡ i.ram_base + o → o % 4 ≡ 0 → o + 4 ≤ i.ram_size → Allowed Write c 4 (i.ram_base + o) →
        ((m : List ℕ) → m ≡ write 4 o (low_register c from) c.ram → length m ≡ length c.ram → GivesWithin j i Good Allowed n k ks (with_ram c m) Q) → GivesWithin j i Good Allowed (1 + n) (Store Word from base off k) ks c Q
    store_within o {from} {base} {off} {k} {ks} {c} {Q} f g e al hi ok w =
        let a : ℕ = i.ram_base + o in
        let r : address_of c 4 base off ≡ a = omega (arith, rules.ram_highest, rules.ram_most) in
        let l = store_is_at j i c Word from base off a (InRam o) f r (omega (arith, rules.ram_aligned)) (omega (arith, rules.ram_highest, rules.ram_most)) (in_ram i a o refl (omega arith)) in
        wrote_within (with_ram c (write 4 o (low_register c from) c.ram)) {z = Word} l (subst (λ a. Allowed Write c 4 a) (sym r) ok) g (w _ refl (length-write 4 o (low_register c from) c.ram))

    pub load_within : {n : ℕ} (o : ℕ) {to base off : ℕ} {k : PrivilegedSteps} {ks : List PrivilegedSteps} {c : Core} {Q : Outcome → Type 0} → Open j c.protection → low_register c base + 4 * off ≡ i.ram_base + o → o % 4 ≡ 0 → o + 4 ≤ i.ram_size → Allowed Read c 4 (i.ram_base + o) →
        ((v : ℕ) → v ≡ read 4 o c.ram → GivesWithin j i Good Allowed n k ks (with_low c to v) Q) → GivesWithin j i Good Allowed (1 + n) (Load Word to base off k) ks c Q
    load_within o {to} {base} {off} {k} {ks} {c} {Q} f e al hi ok w =
        let a : ℕ = i.ram_base + o in
        let r : address_of c 4 base off ≡ a = omega (arith, rules.ram_highest, rules.ram_most) in
        let l = load_is_at j i c Word base off a (InRam o) f r (omega (arith, rules.ram_aligned)) (omega (arith, rules.ram_highest, rules.ram_most)) (in_ram i a o refl (omega arith)) in
        value_within (read 4 o c.ram) {z = Word} l (subst (λ a. Allowed Read c 4 a) (sym r) ok) (w _ refl)

  pub psp_within : {n to : ℕ} {k : PrivilegedSteps} {ks : List PrivilegedSteps} {c : Core} {Q : Outcome → Type 0} → is_privileged_on_msp c ≡ true → GivesWithin j i Good Allowed n k ks (with_low c to c.other_sp) Q → GivesWithin j i Good Allowed (1 + n) (ReadPsp to k) ks c Q
  psp_within {n} {to} {k} {ks} {c} {Q} e w = record {
    gives = psp_gives e w.gives;
    spent = goes_spent j i Good Allowed (ReadPsp to k) k ks c (with_low c to c.other_sp) 1 n (ap (λ b. either b (λ c. effect j i k (with_low c to c.other_sp)) (λ c. Unclaimed) c) e) (ap (λ b. 1 + either_ticks b (ticks j i k (with_low c to c.other_sp)) 0) e) w.spent;
  }

  pub system_within : {n : ℕ} (a : ℕ) {from base off : ℕ} {k : PrivilegedSteps} {ks : List PrivilegedSteps} {c : Core} {Q : Outcome → Type 0} → is_unprivileged c.protection ≡ false → low_register c base + 4 * off ≡ a → a % 4 ≡ 0 → a < 2 ^ 32 → in_system a ≡ true → is_system_register a ≡ true → Allowed Write c 4 a → Good (with_system c a (low_register c from)).protection →
      GivesWithin j i Good Allowed n k ks (with_system c a (low_register c from)) Q → GivesWithin j i Good Allowed (1 + n) (Store Word from base off k) ks c Q
  system_within {n} a {from} {base} {off} {k} {ks} {c} {Q} u e al lt s r ok g w =
      let q : address_of c 4 base off ≡ a = omega arith in
      let v = to_system j c.protection Write a al s u r in
      let l : store j i Word from base off c ≡ Written (with_system c a (low_register c from)) = rw (q, v) refl in
      wrote_within (with_system c a (low_register c from)) {z = Word} l (subst (λ a. Allowed Write c 4 a) (sym q) ok) g w
