-- Reasoning about a list, step by step: its end, and what each of its accesses reaches. Loaded values and new memories get names.
use Rattle.std.proofs.Common.{◌≡◌, ℕ, zero, suc, ◌+◌, ◌-◌, ◌%◌, ◌^◌, ◌<◌, ◌≤◌, ◌⊎◌, ⊎_elim, Bool, true, false, List, [], ◌∷◌, length, nat_lt, refl, sym, ap, ◌∙◌, subst, arith}
use Rattle.std.proofs.lemmas.Bool.Decides.{nat_tests}
use Rattle.base_words.specs.declared.memory.Width.{Width}
use Rattle.base_words.specs.Width.{byte_count}
use Rattle.base_words.specs.Bytes.{read, write}
use Rattle.base_words.proofs.Bytes.{read_below, read_above, read_same, read_fits, cut_small}
use Rattle.machine_protection.specs.declared.region.Access.TheVariants.{Read, Write}
use Rattle.machine_devices.specs.declared.image.Image.{Image}
use Rattle.machine_devices.specs.Rules.{ObeysRules}
use Rattle.machine_bus.specs.Locations.{Location, InRam, InFlash, location}
use Rattle.machine_model.specs.declared.state.ProtectionState.{ProtectionState}
use Rattle.machine_model.specs.declared.answers.Verdict.TheVariants.{ToBus}
use Rattle.machine_model.specs.State.{PermissionTest}
use Rattle.monitor_steps.specs.declared.steps.PrivilegedOp.{PrivilegedOp}
use Rattle.monitor_steps.specs.declared.steps.PrivilegedCond.{PrivilegedCond}
use Rattle.monitor_steps.specs.Steps.{PrivilegedSteps, End, Const, Copy, Load, Store, Alu, ReadPsp, WritePsp, Test, Repeat, Halt, Return}
use Rattle.monitor_steps.specs.Core.{Core, low_register, with_low, with_psp, is_privileged_on_msp}
use Rattle.monitor_steps.specs.Accesses.{Value, Written, address_of, load_by, store_by, load, store}
use Rattle.monitor_steps.specs.Effect.{Outcome, Went, Halted, AtReturn, AtBranch, Stopped, Unclaimed, then_do, operation, compared, either, by_zero, after_load, after_store, with_one_less, turns, effect}
use Rattle.monitor_steps.specs.Safe.{Rule, OnValue, OnWritten, OnWent, Either, UnlessZero, AreTurnsSafe, IsSafe}
use Rattle.machine_model.proofs.ToSystem.{to_bus}

-- ---- memory

pub word_same : (a v : ℕ) (mem : List ℕ) → a + 4 ≤ length mem → v < 2 ^ 32 → read 4 a (write 4 a v mem) ≡ v
word_same a v mem h l = read_same 4 a v mem h ∙ cut_small 4 v (omega arith)

pub word_apart : (b a v : ℕ) (mem : List ℕ) → (b + 4 ≤ a) ⊎ (a + 4 ≤ b) → read 4 b (write 4 a v mem) ≡ read 4 b mem
word_apart b a v mem h = ⊎_elim (λ x. read_below 4 b 4 a v mem x) (λ x. read_above 4 b 4 a v mem x) h

pub word_fits : (a : ℕ) (mem : List ℕ) → read 4 a mem < 2 ^ 32
word_fits a mem = let e = read_fits 4 a mem in omega arith

pub in_ram : (i : Image) (a o : ℕ) → a ≡ i.ram_base + o → o < i.ram_size → location i a ≡ InRam o
unfolding location
in_ram i a o e h =
    let l : nat_lt a i.ram_base ≡ false = search (nat_tests, arith) in
    let u : nat_lt a (i.ram_base + i.ram_size) ≡ true = search (nat_tests, arith) in
    let d : a - i.ram_base ≡ o = omega arith in
    rw (l, u, d) refl

pub in_flash : (i : Image) (a o : ℕ) → ObeysRules i → a ≡ i.flash_base + o → o < length i.flash → location i a ≡ InFlash o
unfolding location
in_flash i a o r e h =
    let z : a < i.ram_base = omega (arith, r.flash_highest, r.flash_most, r.ram_lowest) in
    let l : nat_lt a i.ram_base ≡ true = search (nat_tests, arith) in
    let m : nat_lt a i.flash_base ≡ false = search (nat_tests, arith) in
    let u : nat_lt a (i.flash_base + length i.flash) ≡ true = search (nat_tests, arith) in
    let d : a - i.flash_base ≡ o = omega arith in
    rw (l, m, u, d) refl

-- data accesses are permitted
pub record Open (j : PermissionTest) (p : ProtectionState) : Type 0 where
  pub reads : (a : ℕ) → j p Read a ≡ true
  pub writes : (a : ℕ) → j p Write a ≡ true

pub load_is_at : (j : PermissionTest) (i : Image) (c : Core) (z : Width) (base off a : ℕ) (q : Location) → Open j c.protection → address_of c (byte_count z) base off ≡ a → a % byte_count z ≡ 0 → a < 0xE0000000 → location i a ≡ q → load j i z base off c ≡ load_by ToBus q i (byte_count z) a c
load_is_at j i c z base off a q f e al lt p =
    let v = to_bus j c.protection Read (byte_count z) a al lt (f.reads a) in
    rw (e, v, p) refl

pub store_is_at : (j : PermissionTest) (i : Image) (c : Core) (z : Width) (from base off a : ℕ) (q : Location) → Open j c.protection → address_of c (byte_count z) base off ≡ a → a % byte_count z ≡ 0 → a < 0xE0000000 → location i a ≡ q → store j i z from base off c ≡ store_by ToBus q (byte_count z) a (low_register c from) c
store_is_at j i c z from base off a q f e al lt p =
    let v = to_bus j c.protection Write (byte_count z) a al lt (f.writes a) in
    rw (e, v, p) refl

-- two compositions are one
pub then_then : (o : Outcome) (f g : Core → Outcome) → then_do (then_do o f) g ≡ then_do o (λ c. then_do (f c) g)
then_then (Went c) f g = refl
then_then (Halted n c) f g = refl
then_then (AtReturn c) f g = refl
then_then (AtBranch a b c) f g = refl
then_then (Stopped r c) f g = refl
then_then Unclaimed f g = refl

pub on_then : (o : Outcome) (f : Core → Outcome) (A B : Core → Type 0) → OnWent o (λ d. A d × OnWent (f d) B) → OnWent o A × OnWent (then_do o f) B
on_then (Went c) f A B h = (h.0, h.1)
on_then (Halted n c) f A B h = (tt, tt)
on_then (AtReturn c) f A B h = (tt, tt)
on_then (AtBranch a b c) f A B h = (tt, tt)
on_then (Stopped r c) f A B h = (tt, tt)
on_then Unclaimed f A B h = (tt, tt)

module _ (j : PermissionTest) (i : Image) (Good : ProtectionState → Type 0) (Allowed : Rule) where
  -- a list, and the lists that follow it
  unfoldable pub all : PrivilegedSteps → List PrivilegedSteps → Core → Outcome
  all s [] c = effect j i s c
  all s (k ∷ ks) c = then_do (effect j i s c) (λ c. all k ks c)

  unfoldable pub safe_all : PrivilegedSteps → List PrivilegedSteps → Core → Type 0
  safe_all s [] c = IsSafe j i Good Allowed s c
  safe_all s (k ∷ ks) c = IsSafe j i Good Allowed s c × OnWent (effect j i s c) (λ d. safe_all k ks d)

  -- a list with the lists that follow it is safe, and its outcome has the property
  pub record Gives (s : PrivilegedSteps) (ks : List PrivilegedSteps) (c : Core) (Q : Outcome → Type 0) : Type 0 where
    pub holds : Q (all s ks c)
    pub sound : safe_all s ks c

  -- a loop, by what holds with n turns left
  abbrev pub Looped : (left most : ℕ) (body : PrivilegedSteps) (P : ℕ → Core → Type 0) → Core → Type 0
  Looped left most body P c = (d : Core) × (turns most left (effect j i body) c ≡ Went d) × P 0 d × AreTurnsSafe most left (effect j i body) (λ d. IsSafe j i Good Allowed body d) c

module _ {j : PermissionTest} {i : Image} {Good : ProtectionState → Type 0} {Allowed : Rule} where
  pub gives_effect : {s : PrivilegedSteps} {c : Core} {Q : Outcome → Type 0} → Gives j i Good Allowed s [] c Q → Q (effect j i s c) × IsSafe j i Good Allowed s c
  unfolding all safe_all
  gives_effect w = (w.holds, w.sound)

  pub end_gives : {c : Core} {Q : Outcome → Type 0} → Q (Went c) → Gives j i Good Allowed End [] c Q
  unfolding all safe_all
  end_gives q = record { holds = q; sound = tt }

  pub next_gives : {k : PrivilegedSteps} {ks : List PrivilegedSteps} {c : Core} {Q : Outcome → Type 0} → Gives j i Good Allowed k ks c Q → Gives j i Good Allowed End (k ∷ ks) c Q
  unfolding all safe_all
  next_gives w = record { holds = w.holds; sound = (tt, w.sound) }

  -- a step whose effect is that of the rest at another core
  goes_gives : {s k : PrivilegedSteps} {ks : List PrivilegedSteps} {c d : Core} {Q : Outcome → Type 0} → effect j i s c ≡ effect j i k d → (IsSafe j i Good Allowed k d → IsSafe j i Good Allowed s c) → Gives j i Good Allowed k ks d Q → Gives j i Good Allowed s ks c Q
  unfolding all safe_all
  goes_gives {s} {k} {ks = []} {c} {d} {Q} e h w = record { holds = subst Q (sym e) w.holds; sound = h w.sound }
  goes_gives {s} {k} {ks = l ∷ ks} {c} {d} {Q} e h w = record { holds = subst Q (sym (ap (λ o. then_do o (λ c. all j i Good Allowed l ks c)) e)) w.holds; sound = (h w.sound.0, subst (λ o. OnWent o (λ d. safe_all j i Good Allowed l ks d)) (sym e) w.sound.1) }

  pub const_gives : {to n : ℕ} {k : PrivilegedSteps} {ks : List PrivilegedSteps} {c : Core} {Q : Outcome → Type 0} → Gives j i Good Allowed k ks (with_low c to n) Q → Gives j i Good Allowed (Const to n k) ks c Q
  const_gives {to} {n} {k} {ks} {c} {Q} w = goes_gives {s = Const to n k} refl (λ s. s) w

  pub copy_gives : {to from : ℕ} {k : PrivilegedSteps} {ks : List PrivilegedSteps} {c : Core} {Q : Outcome → Type 0} → Gives j i Good Allowed k ks (with_low c to (low_register c from)) Q → Gives j i Good Allowed (Copy to from k) ks c Q
  copy_gives {to} {from} {k} {ks} {c} {Q} w = goes_gives {s = Copy to from k} refl (λ s. s) w

  -- the value gets a name
  pub alu_gives : {op : PrivilegedOp} {to a b : ℕ} {k : PrivilegedSteps} {ks : List PrivilegedSteps} {c : Core} {Q : Outcome → Type 0} → ((v : ℕ) → v ≡ operation op (low_register c a) (low_register c b) → Gives j i Good Allowed k ks (with_low c to v) Q) → Gives j i Good Allowed (Alu op to a b k) ks c Q
  alu_gives {op} {to} {a} {b} {k} {ks} {c} {Q} w = goes_gives {s = Alu op to a b k} refl (λ s. s) (w _ refl)

  pub psp_gives : {to : ℕ} {k : PrivilegedSteps} {ks : List PrivilegedSteps} {c : Core} {Q : Outcome → Type 0} → is_privileged_on_msp c ≡ true → Gives j i Good Allowed k ks (with_low c to c.other_sp) Q → Gives j i Good Allowed (ReadPsp to k) ks c Q
  psp_gives {to} {k} {ks} {c} {Q} e w =
      goes_gives {s = ReadPsp to k} (ap (λ b. either b (λ c. effect j i k (with_low c to c.other_sp)) (λ c. Unclaimed) c) e) (λ s. subst (λ b. Either b (IsSafe j i Good Allowed k (with_low c to c.other_sp)) (Unit {0})) (sym e) s) w

  pub set_psp_gives : {from : ℕ} {k : PrivilegedSteps} {ks : List PrivilegedSteps} {c : Core} {Q : Outcome → Type 0} → is_privileged_on_msp c ≡ true → Gives j i Good Allowed k ks (with_psp c (low_register c from)) Q → Gives j i Good Allowed (WritePsp from k) ks c Q
  set_psp_gives {from} {k} {ks} {c} {Q} e w =
      goes_gives {s = WritePsp from k} (ap (λ b. either b (λ c. effect j i k (with_psp c (low_register c from))) (λ c. Unclaimed) c) e) (λ s. subst (λ b. Either b (IsSafe j i Good Allowed k (with_psp c (low_register c from))) (Unit {0})) (sym e) s) w

  -- a load that gives this value
  pub value_gives : (v : ℕ) {z : Width} {to base off : ℕ} {k : PrivilegedSteps} {ks : List PrivilegedSteps} {c : Core} {Q : Outcome → Type 0} → load j i z base off c ≡ Value v → Allowed Read c (byte_count z) (address_of c (byte_count z) base off) → Gives j i Good Allowed k ks (with_low c to v) Q → Gives j i Good Allowed (Load z to base off k) ks c Q
  value_gives v {z} {to} {base} {off} {k} {ks} {c} {Q} e ok w =
      goes_gives {s = Load z to base off k} (ap (λ g. after_load g c to (effect j i k)) e) (λ s. (ok, subst (λ g. OnValue g (λ v. IsSafe j i Good Allowed k (with_low c to v))) (sym e) s)) w

  pub wrote_gives : (d : Core) {z : Width} {from base off : ℕ} {k : PrivilegedSteps} {ks : List PrivilegedSteps} {c : Core} {Q : Outcome → Type 0} → store j i z from base off c ≡ Written d → Allowed Write c (byte_count z) (address_of c (byte_count z) base off) → Good d.protection → Gives j i Good Allowed k ks d Q → Gives j i Good Allowed (Store z from base off k) ks c Q
  wrote_gives d {z} {from} {base} {off} {k} {ks} {c} {Q} e ok g w =
      goes_gives {s = Store z from base off k} (ap (λ g. after_store g c (effect j i k)) e) (λ s. (ok, subst (λ g. OnWritten g (λ d. Good d.protection × IsSafe j i Good Allowed k d)) (sym e) (g, s))) w

  -- a compound step s, whose own part has the outcome o and is safe by A, and then the rest
  splits_gives : (s k : PrivilegedSteps) (ks : List PrivilegedSteps) (c : Core) (o : Outcome) (A : Type 0) {Q : Outcome → Type 0} → effect j i s c ≡ then_do o (effect j i k) → (A × OnWent o (λ d. IsSafe j i Good Allowed k d) → IsSafe j i Good Allowed s c) → A → Q (then_do o (λ d. all j i Good Allowed k ks d)) → OnWent o (λ d. safe_all j i Good Allowed k ks d) → Gives j i Good Allowed s ks c Q
  unfolding all safe_all
  splits_gives s k [] c o A {Q} e h a q g = record { holds = subst Q (sym e) q; sound = h (a, g) }
  splits_gives s k (l ∷ ks) c o A {Q} e h a q g =
      let t = on_then o (effect j i k) (λ d. IsSafe j i Good Allowed k d) (λ d. safe_all j i Good Allowed l ks d) g in
      record {
        holds = subst Q (sym (ap (λ o. then_do o (λ c. all j i Good Allowed l ks c)) e ∙ then_then o (effect j i k) (λ c. all j i Good Allowed l ks c))) q;
        sound = (h (a, t.0), subst (λ o. OnWent o (λ d. safe_all j i Good Allowed l ks d)) (sym e) t.1);
      }

  pub test_gives : {t : PrivilegedCond} {a b : ℕ} {ys ns k : PrivilegedSteps} {ks : List PrivilegedSteps} {c : Core} {Q : Outcome → Type 0} → (compared t (low_register c a) (low_register c b) ≡ true → Gives j i Good Allowed ys (k ∷ ks) c Q) → (compared t (low_register c a) (low_register c b) ≡ false → Gives j i Good Allowed ns (k ∷ ks) c Q) → Gives j i Good Allowed (Test t a b ys ns k) ks c Q
  unfolding all safe_all
  test_gives {t} {a} {b} {ys} {ns} {k} {ks} {c} {Q} y n =
      let w = go (compared t (low_register c a) (low_register c b)) y n in
      splits_gives (Test t a b ys ns k) k ks c (either (compared t (low_register c a) (low_register c b)) (effect j i ys) (effect j i ns) c) (Either (compared t (low_register c a) (low_register c b)) (IsSafe j i Good Allowed ys c) (IsSafe j i Good Allowed ns c)) refl (λ h. h) w.0 w.1 w.2
    where
      go : (v : Bool) → (v ≡ true → Gives j i Good Allowed ys (k ∷ ks) c Q) → (v ≡ false → Gives j i Good Allowed ns (k ∷ ks) c Q) → Either v (IsSafe j i Good Allowed ys c) (IsSafe j i Good Allowed ns c) × Q (then_do (either v (effect j i ys) (effect j i ns) c) (λ c. all j i Good Allowed k ks c)) × OnWent (either v (effect j i ys) (effect j i ns) c) (λ d. safe_all j i Good Allowed k ks d)
      go true y n = let w = y refl in (w.sound.0, w.holds, w.sound.1)
      go false y n = let w = n refl in (w.sound.0, w.holds, w.sound.1)

  pub halt_gives : {n : ℕ} {k : PrivilegedSteps} {ks : List PrivilegedSteps} {c : Core} {Q : Outcome → Type 0} → Q (Halted n c) → Gives j i Good Allowed (Halt n k) ks c Q
  unfolding all safe_all
  halt_gives {ks = []} q = record { holds = q; sound = tt }
  halt_gives {ks = k ∷ ks} q = record { holds = q; sound = (tt, tt) }

  -- a test that halts
  pub must_gives : {t : PrivilegedCond} {a b n : ℕ} {k : PrivilegedSteps} {ks : List PrivilegedSteps} {c : Core} {Q : Outcome → Type 0} → (compared t (low_register c a) (low_register c b) ≡ false → Q (Halted n c)) → (compared t (low_register c a) (low_register c b) ≡ true → Gives j i Good Allowed k ks c Q) → Gives j i Good Allowed (Test t a b End (Halt n End) k) ks c Q
  must_gives h w = test_gives (λ e. next_gives (w e)) (λ e. halt_gives (h e))

  pub must_not_gives : {t : PrivilegedCond} {a b n : ℕ} {k : PrivilegedSteps} {ks : List PrivilegedSteps} {c : Core} {Q : Outcome → Type 0} → (compared t (low_register c a) (low_register c b) ≡ true → Q (Halted n c)) → (compared t (low_register c a) (low_register c b) ≡ false → Gives j i Good Allowed k ks c Q) → Gives j i Good Allowed (Test t a b (Halt n End) End k) ks c Q
  must_not_gives h w = test_gives (λ e. halt_gives (h e)) (λ e. next_gives (w e))

  -- where the answer is known
  pub yes_gives : {t : PrivilegedCond} {a b : ℕ} {ys ns k : PrivilegedSteps} {ks : List PrivilegedSteps} {c : Core} {Q : Outcome → Type 0} → compared t (low_register c a) (low_register c b) ≡ true → Gives j i Good Allowed ys (k ∷ ks) c Q → Gives j i Good Allowed (Test t a b ys ns k) ks c Q
  yes_gives {t} {a} {b} {ys} {ns} {k} {ks} {c} {Q} e w = test_gives (λ h. w) (λ h. absurd (differ _ e h))
    where
      differ : (v : Bool) → v ≡ true → v ≡ false → ⊥
      differ true a b = cc
      differ false a b = cc

  pub no_gives : {t : PrivilegedCond} {a b : ℕ} {ys ns k : PrivilegedSteps} {ks : List PrivilegedSteps} {c : Core} {Q : Outcome → Type 0} → compared t (low_register c a) (low_register c b) ≡ false → Gives j i Good Allowed ns (k ∷ ks) c Q → Gives j i Good Allowed (Test t a b ys ns k) ks c Q
  no_gives {t} {a} {b} {ys} {ns} {k} {ks} {c} {Q} e w = test_gives (λ h. absurd (differ _ h e)) (λ h. w)
    where
      differ : (v : Bool) → v ≡ true → v ≡ false → ⊥
      differ true a b = cc
      differ false a b = cc

  pub return_gives : {k : PrivilegedSteps} {ks : List PrivilegedSteps} {c : Core} {Q : Outcome → Type 0} → Q (AtReturn c) → Gives j i Good Allowed (Return k) ks c Q
  unfolding all safe_all
  return_gives {ks = []} q = record { holds = q; sound = tt }
  return_gives {ks = k ∷ ks} q = record { holds = q; sound = (tt, tt) }

  pub looped : (left : ℕ) (body : PrivilegedSteps) (P : ℕ → Core → Type 0) → ((n : ℕ) (c : Core) → P n c → low_register c left ≡ n) → ((n : ℕ) (c : Core) → P (suc n) c → Gives j i Good Allowed body [] c (λ o. (d : Core) × (o ≡ Went d) × P n (with_one_less left d))) → (most n : ℕ) (c : Core) → n ≤ most → P n c → Looped j i Good Allowed left most body P c
  looped left body P counts turn zero zero c le p = (c, ap (λ v. by_zero v Went (λ c. Unclaimed) c) (counts zero c p), p, tt)
  looped left body P counts turn zero (suc n) c le p = absurd (omega arith)
  looped left body P counts turn (suc most) zero c le p =
      (c, ap (λ v. by_zero v Went (λ c. then_do (effect j i body c) (λ d. turns most left (effect j i body) (with_one_less left d))) c) (counts zero c p), p, subst (λ v. UnlessZero v (IsSafe j i Good Allowed body c × OnWent (effect j i body c) (λ d. AreTurnsSafe most left (effect j i body) (λ d. IsSafe j i Good Allowed body d) (with_one_less left d)))) (sym (counts zero c p)) tt)
  looped left body P counts turn (suc most) (suc n) c le p =
      let f = effect j i body in
      let w = gives_effect (turn n c p) in
      let t = w.0 in
      let l = looped left body P counts turn most n (with_one_less left t.0) (omega arith) t.2 in (
        l.0,
        ap (λ v. by_zero v Went (λ c. then_do (f c) (λ d. turns most left f (with_one_less left d))) c) (counts (suc n) c p) ∙ ap (λ o. then_do o (λ d. turns most left f (with_one_less left d))) t.1 ∙ l.1,
        l.2,
        subst (λ v. UnlessZero v (IsSafe j i Good Allowed body c × OnWent (effect j i body c) (λ d. AreTurnsSafe most left (effect j i body) (λ d. IsSafe j i Good Allowed body d) (with_one_less left d)))) (sym (counts (suc n) c p)) (w.1, subst (λ o. OnWent o (λ d. AreTurnsSafe most left f (λ d. IsSafe j i Good Allowed body d) (with_one_less left d))) (sym t.1) l.3),
      )

  pub loop_gives : {left most : ℕ} {body k : PrivilegedSteps} {ks : List PrivilegedSteps} {c : Core} {Q : Outcome → Type 0} (P : ℕ → Core → Type 0) (n : ℕ) → ((n : ℕ) (c : Core) → P n c → low_register c left ≡ n) → ((n : ℕ) (c : Core) → P (suc n) c → Gives j i Good Allowed body [] c (λ o. (d : Core) × (o ≡ Went d) × P n (with_one_less left d))) → n ≤ most → P n c → ((d : Core) → P 0 d → Gives j i Good Allowed k ks d Q) → Gives j i Good Allowed (Repeat left most body k) ks c Q
  loop_gives {left} {most} {body} {k} {ks} {c} {Q} P n counts turn le p after =
      let l = looped left body P counts turn most n c le p in
      let w = after l.0 l.2 in
      splits_gives (Repeat left most body k) k ks c (turns most left (effect j i body) c) (AreTurnsSafe most left (effect j i body) (λ d. IsSafe j i Good Allowed body d) c) refl (λ h. h) l.3 (subst Q (sym (ap (λ o. then_do o (λ c. all j i Good Allowed k ks c)) l.1)) w.holds) (subst (λ o. OnWent o (λ d. safe_all j i Good Allowed k ks d)) (sym l.1) w.sound)
