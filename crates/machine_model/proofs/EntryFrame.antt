-- The frame that an entry pushes lies in RAM, with its words one behind the other.
use Rattle.std.proofs.Common.{◌≡◌, ℕ, zero, suc, ◌+◌, ◌*◌, ◌%◌, ◌≤◌, true, inr, refl, sym, ap, subst, arith}
use Rattle.std.proofs.lemmas.Bool.{false≢true}
use Rattle.base_words.specs.Arithmetic.{word}
use Rattle.machine_protection.specs.declared.region.Access.TheVariants.{Write}
use Rattle.machine_devices.specs.declared.image.Image.{Image}
use Rattle.machine_devices.specs.Rules.{ObeysRules}
use Rattle.machine_bus.specs.Access.{Fits}
use Rattle.machine_bus.specs.Locations.{Location, InRam, InFlash, InWindow, Nowhere, location, is_memory}
use Rattle.machine_bus.proofs.Placed.{place_fits}
use Rattle.machine_bus.proofs.Offsets.{ram_at}
use Rattle.machine_model.specs.declared.state.ProtectionState.{ProtectionState}
use Rattle.machine_model.specs.State.{PermissionTest}
use Rattle.machine_model.specs.Tests.{all_open}
use Rattle.machine_model.specs.Exceptions.{frame_at, frame_of, entry_core}
use Rattle.machine_model.specs.Code.{live}
use Rattle.machine_model.specs.Stack.{Words, May}
use Rattle.machine_model.specs.EntryFrame.{OpenFramesAreWords}
use Rattle.machine_model.proofs.Stack.{pushed_are}
use Rattle.machine_model.proofs.Tested.{open_tests, frame_aligned}

memory_ram : (l : Location) → is_memory Write l ≡ true → (o : ℕ) × (l ≡ InRam o)
memory_ram (InRam o) e = (o, refl)
memory_ram (InFlash o) e = absurd (false≢true e)
memory_ram (InWindow k o) e = absurd (false≢true e)
memory_ram Nowhere e = absurd (false≢true e)

module _ (j : PermissionTest) (i : Image) (rules : ObeysRules i) (p : ProtectionState) where
  -- the first word
  first_word : (n a : ℕ) → a % 4 ≡ 0 → all_open j i p Write a (suc n) ≡ true → (o : ℕ) × (i.ram_base + o ≡ a) × (o + 4 ≤ i.ram_size) × (j p Write a ≡ true) × (all_open j i p Write (word (a + 4)) n ≡ true)
  unfolding all_open
  first_word n a al e =
      let b = open_tests (j p Write a) (is_memory Write (location i a)) (all_open j i p Write (word (a + 4)) n) e in
      let r = memory_ram (location i a) b.1 in
      (r.0, (ram_at i a r.0 r.1).0, subst (λ (l : Location). Fits l 4 i) r.1 (place_fits i a 4 rules (inr (inr refl)) al), b.0, b.2)

  low : i.ram_base + i.ram_size ≤ 0x40000000
  low = let hi = rules.ram_highest in let much = rules.ram_most in omega arith

  -- so many open words from an address on lie one behind the other in RAM
  pub open_words : (n a : ℕ) → a % 4 ≡ 0 → all_open j i p Write a (suc n) ≡ true → (o : ℕ) × Words i a o (suc n)
  open_words zero a al e =
      let w = first_word 0 a al e in
      (w.0, record { is_at = w.1; aligned = al; fits = (let f = w.2 in omega arith); low = low })
  open_words (suc n) a al e =
      let w = first_word (suc n) a al e in
      let is = w.1 in
      let f = w.2 in
      let l = low in
      let next : word (a + 4) ≡ a + 4 = omega arith in
      let v = open_words n (a + 4) (let z : (a + 4) % 4 ≡ 0 = omega arith in z) (subst (λ (x : ℕ). all_open j i p Write x (suc n) ≡ true) next w.4) in
      let at = v.1.is_at in
      let g = v.1.fits in
      (w.0, record { is_at = is; aligned = al; fits = omega arith; low = l })

  pub open_writes : (n a : ℕ) → a % 4 ≡ 0 → all_open j i p Write a n ≡ true → May j p Write a n
  open_writes zero a al e k lt = absurd (omega arith)
  open_writes (suc n) a al e zero lt = let z : a + 4 * 0 ≡ a = omega arith in subst (λ (x : ℕ). j p Write x ≡ true) (sym z) (first_word n a al e).3
  open_writes (suc n) a al e (suc k) lt =
      let w = first_word n a al e in
      let is = w.1 in
      let f = w.2 in
      let l = low in
      let next : word (a + 4) ≡ a + 4 = omega arith in
      let z : a + 4 + 4 * k ≡ a + 4 * suc k = omega arith in
      subst (λ (x : ℕ). j p Write x ≡ true) z (open_writes n (a + 4) (let y : (a + 4) % 4 ≡ 0 = omega arith in y) (subst (λ (x : ℕ). all_open j i p Write x n ≡ true) next w.4) k (omega arith))

pub open_frame : OpenFramesAreWords
open_frame j i c p t ram queues rules al e =
    let eighth = frame_aligned c.sp al in
    let fourth : frame_at c.sp % 4 ≡ 0 = omega arith in
    let w = open_words j i rules p 7 (frame_at c.sp) fourth e in
    record {
      offset = w.0;
      frame = record { words = w.1; writes = open_writes j i rules p 8 (frame_at c.sp) fourth e };
      aligned = eighth;
      entry = λ n ret u. ap (λ m. live (entry_core i n c) (record p { handler = true }) u m queues) (pushed_are i (frame_of c ret) (frame_at c.sp) w.0 ram w.1);
    }
