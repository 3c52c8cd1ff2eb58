-- The tests of an access, and the bytes that lie outside stores.
use Rattle.std.proofs.Common.{not, ◌-◌, ◌^◌, ◌<◌, ◌≤◌, ⊎_elim, get_or, ◌≡◌, ℕ, zero, suc, ◌+◌, ◌%◌, Bool, true, false, ◌&&◌, ◌⊎◌, inl, inr, List, [], ◌∷◌, length, nat_eq, refl, sym, ◌∙◌, arith}
use Rattle.std.proofs.lemmas.Bool.{false≢true, and_parts}
use Rattle.std.proofs.lemmas.Bool.Decides.{nat_tests}
use Rattle.base_words.specs.Arithmetic.{word}
use Rattle.base_words.proofs.Bytes.{byte_apart}
use Rattle.machine_model.specs.Confinement.{Misses}
use Rattle.base_laws.specs.Lists.{Each}
use Rattle.machine_protection.specs.declared.region.Access.{Access}
use Rattle.machine_devices.specs.declared.image.Image.{Image}
use Rattle.machine_bus.specs.Locations.{Location, InRam, InFlash, InWindow, Nowhere, location, is_memory, choose}
use Rattle.machine_bus.specs.Bus.{put_at}
use Rattle.machine_model.specs.declared.state.ProtectionState.{ProtectionState}
use Rattle.machine_model.specs.State.{PermissionTest, is_unprivileged}
use Rattle.machine_model.specs.System.{in_system, is_system_register}
use Rattle.machine_model.specs.declared.answers.Verdict.{Verdict}
use Rattle.machine_model.specs.declared.answers.Verdict.TheVariants.{ToBus, ToSystem, Refused, Bad}
use Rattle.machine_model.specs.declared.answers.Verdicts.{Verdicts}
use Rattle.machine_model.specs.declared.answers.Verdicts.TheVariants.{RefusedAt}
use Rattle.machine_model.specs.Tests.{tested, verdict, and_then, verdicts}
use Rattle.machine_model.specs.Exceptions.{push_words, words_from, frame_at}
use Rattle.machine_model.specs.Asked.{IsRefused, IsPrivilegedPlace, IsFirstRefused}

-- ---- the tests of an access

tested_refused : (aligned system unprivileged register allowed : Bool) → tested aligned system unprivileged register allowed ≡ Refused → (aligned ≡ true) × (system ≡ false) × (allowed ≡ false)
tested_refused false sy u r al e = cc
tested_refused true true true r al e = cc
tested_refused true true false true al e = cc
tested_refused true true false false al e = cc
tested_refused true false u r false e = (refl, refl, refl)
tested_refused true false u r true e = cc

tested_bus : (aligned system unprivileged register allowed : Bool) → tested aligned system unprivileged register allowed ≡ ToBus → (aligned ≡ true) × (system ≡ false) × (allowed ≡ true)
tested_bus false sy u r al e = cc
tested_bus true true true r al e = cc
tested_bus true true false true al e = cc
tested_bus true true false false al e = cc
tested_bus true false u r false e = cc
tested_bus true false u r true e = (refl, refl, refl)

tested_system : (aligned system unprivileged register allowed : Bool) → tested aligned system unprivileged register allowed ≡ ToSystem → (aligned ≡ true) × (system ≡ true) × (unprivileged ≡ false) × (register ≡ true)
tested_system false sy u r al e = cc
tested_system true true true r al e = cc
tested_system true true false true al e = (refl, refl, refl, refl)
tested_system true true false false al e = cc
tested_system true false u r false e = cc
tested_system true false u r true e = cc

-- the tests of a word of a frame that may be accessed
pub open_tests : (x y z : Bool) → (x && y) && z ≡ true → (x ≡ true) × (y ≡ true) × (z ≡ true)
open_tests true true z e = (refl, refl, e)
open_tests true false z e = absurd (false≢true e)
open_tests false y z e = absurd (false≢true e)

module _ (j : PermissionTest) (p : ProtectionState) (kind : Access) where
  aligned_by : (w a : ℕ) → nat_eq (a % w) 0 ≡ true → a % w ≡ 0
  aligned_by w a t = search (nat_tests, arith)

  pub verdict_refused : (w a : ℕ) → verdict j p kind w a ≡ Refused → IsRefused j p kind (record { width = w; address = a })
  unfolding verdict
  verdict_refused w a e =
      let t = tested_refused (nat_eq (a % w) 0) (in_system a) (is_unprivileged p) (nat_eq w 4 && is_system_register a) (j p kind a) e in
      record { aligned = aligned_by w a t.0; outside = t.1; refused = t.2 }

  -- the alignment, the space and the permission of an access that goes to the bus
  pub verdict_to_bus : (w a : ℕ) → verdict j p kind w a ≡ ToBus → (a % w ≡ 0) × (in_system a ≡ false) × (j p kind a ≡ true)
  unfolding verdict
  verdict_to_bus w a e =
      let t = tested_bus (nat_eq (a % w) 0) (in_system a) (is_unprivileged p) (nat_eq w 4 && is_system_register a) (j p kind a) e in
      (aligned_by w a t.0, t.1, t.2)

  -- and of one that goes to a system register
  pub verdict_to_system : (w a : ℕ) → verdict j p kind w a ≡ ToSystem → (a % w ≡ 0) × IsPrivilegedPlace p (record { width = w; address = a })
  unfolding verdict
  verdict_to_system w a e =
      let t = tested_system (nat_eq (a % w) 0) (in_system a) (is_unprivileged p) (nat_eq w 4 && is_system_register a) (j p kind a) e in
      (aligned_by w a t.0, record { within = t.1; privileged = t.2; register = (and_parts (nat_eq w 4) (is_system_register a) t.3).1 })

  -- no access of unprivileged code goes to the system
  pub verdict_system : (w a : ℕ) → is_unprivileged p ≡ true → verdict j p kind w a ≡ ToSystem → ⊥
  verdict_system w a user e =
      let privileged = (verdict_to_system w a e).1.privileged in
      false≢true (sym privileged ∙ user)

-- ---- the first refused word

module _ (j : PermissionTest) (i : Image) (p : ProtectionState) (kind : Access) where
  abbrev FirstOf : (a n y : ℕ) → Type 0
  FirstOf a n y = IsFirstRefused j i p kind (words_from a n) y

  first_of_words : (a n y : ℕ) (rest : Verdicts) → (rest ≡ RefusedAt y → FirstOf (word (a + 4)) n y) →
      (v : Verdict) (memory : Bool) → verdict j p kind 4 a ≡ v → is_memory kind (location i a) ≡ memory → and_then v memory a rest ≡ RefusedAt y → FirstOf a (suc n) y
  unfolding words_from
  first_of_words a n y rest ih ToBus true e m f =
      let b = verdict_to_bus j p kind 4 a e in
      inr (record { aligned = b.0; reached = inl (record { outside = b.1; permitted = b.2; memory = m }) }, ih f)
  first_of_words a n y rest ih ToBus false e m f = cc
  first_of_words a n y rest ih ToSystem memory e m f =
      let b = verdict_to_system j p kind 4 a e in
      inr (record { aligned = b.0; reached = inr b.1 }, ih f)
  first_of_words a n y rest ih Refused memory e m f =
      let same : y ≡ a = cc in
      inl (same, verdict_refused j p kind 4 a e)
  first_of_words a n y rest ih (Bad r) memory e m f = cc

  pub first_refused_word : (n a y : ℕ) → verdicts j i p kind a n ≡ RefusedAt y → FirstOf a n y
  unfolding verdicts
  first_refused_word zero a y e = cc
  first_refused_word (suc n) a y e =
      first_of_words a n y (verdicts j i p kind (word (a + 4)) n) (first_refused_word n (word (a + 4)) y)
      (verdict j p kind 4 a) (is_memory kind (location i a)) refl refl e

-- ---- bytes that lie outside stores

pub put_kept : (l : Location) (w v : ℕ) (ram : List ℕ) (k : ℕ) → ((o : ℕ) → l ≡ InRam o → (k < o) ⊎ (o + w ≤ k)) → get_or (put_at l w v ram) k 0 ≡ get_or ram k 0
put_kept (InRam o) w v ram k h = byte_apart w o v ram k (λ n lt e. ⊎_elim (λ x. omega arith) (λ x. omega arith) (h o refl))
put_kept (InFlash o) w v ram k h = refl
put_kept (InWindow p o) w v ram k h = refl
put_kept Nowhere w v ram k h = refl

pub push_kept : (i : Image) (vs : List ℕ) (a : ℕ) (ram : List ℕ) (k : ℕ) → Each (Misses i k) (words_from a (length vs)) → get_or (push_words i a vs ram) k 0 ≡ get_or ram k 0
unfolding push_words words_from
push_kept i [] a ram k h = refl
push_kept i (v ∷ vs) a ram k h = push_kept i vs (word (a + 4)) (put_at (location i a) 4 v ram) k h.1 ∙ put_kept (location i a) 4 v ram k h.0

-- ---- frames

-- an exception's frame lies at a multiple of 8
pub frame_aligned : (sp : ℕ) → sp % 4 ≡ 0 → frame_at sp % 8 ≡ 0
frame_aligned sp h = by (nat_eq (sp % 8) 0) refl
  where
    by : (b : Bool) → nat_eq (sp % 8) 0 ≡ b → word (sp + 2 ^ 32 - choose (not b) 36 32) % 8 ≡ 0
    by true e = let z : sp % 8 ≡ 0 = search (nat_tests, arith) in omega arith
    by false e = let z : sp % 8 ≡ 4 = search (nat_tests, arith) in omega arith
