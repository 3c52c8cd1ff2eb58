-- The location of an aligned access.
use Rattle.std.proofs.Common.{◌≡◌, ◌<◌, ◌≤◌, inl, inr, ℕ, ◌+◌, ◌-◌, ◌*◌, ◌%◌, ◌^◌, List, [], ◌∷◌, refl, ap, ◌∙◌, Bool, true, false, length, suc, arith}
use Rattle.std.specs.Prelude.{◌↔◌}
use Rattle.std.proofs.Math.Nat.{mul-mod_right}
use Rattle.machine_protection.specs.Protection.{IsAccessWidth}
use Rattle.machine_devices.specs.declared.image.Image.{Image}
use Rattle.machine_devices.specs.declared.image.Window.{Window}
use Rattle.machine_bus.specs.Locations.{Location, InRam, InFlash, InWindow, Nowhere, inside, choose, find_window, location}
use Rattle.machine_devices.specs.Rules.{ObeysRules, IsWindow, AreWindows}
use Rattle.machine_bus.proofs.Ranges.{inside_true, inside_yes}
use Rattle.machine_bus.specs.Access.{further, HasBytes, Fits, AnyWindowHolds, HoldsBytes}
use Rattle.base_laws.proofs.Tests.{same_tests}
use Rattle.base_laws.proofs.Multiples.{multiple_of}
use Rattle.base_laws.proofs.Powers.{power_split}

-- a range that begins and ends at multiples of 4
record IsAligned (b n : ℕ) : Type 0 where
  base : b % 4 ≡ 0
  size : n % 4 ≡ 0

-- an aligned access in an aligned range ends in it
inside_ends : (b s a w : ℕ) → IsAligned b s → IsAccessWidth w → a % w ≡ 0 → a < b + s → a + w ≤ b + s
inside_ends b s a w r (inl e) m l = omega arith
inside_ends b s a w r (inr (inl e)) m l = (let n : a % 2 ≡ 0 = rw e at m in omega arith)
inside_ends b s a w r (inr (inr e)) m l = (let n : a % 4 ≡ 0 = rw e at m in omega arith)

-- and begins in it
inside_begins : (b s a w j : ℕ) → IsAligned b s → IsAccessWidth w → a % w ≡ 0 → j < w → b ≤ a + j → b ≤ a
inside_begins b s a w j r (inl e) m l h = omega arith
inside_begins b s a w j r (inr (inl e)) m l h = (let n : a % 2 ≡ 0 = rw e at m in omega arith)
inside_begins b s a w j r (inr (inr e)) m l h = (let n : a % 4 ≡ 0 = rw e at m in omega arith)

-- all bytes of an aligned access pass the test of an aligned range, or none does
inside_further : (b s a w j : ℕ) → IsAligned b s → IsAccessWidth w → a % w ≡ 0 → j < w → inside b s (a + j) ≡ inside b s a
inside_further b s a w j r v m l =
    same_tests (inside b s (a + j)) (inside b s a)
    (λ h. (let t = inside_true b s (a + j) h in inside_yes b s a (inside_begins b s a w j r v m l t.0) (omega arith)))
    (λ h. (let t = inside_true b s a h in inside_yes b s (a + j) (omega arith) (omega (arith, inside_ends b s a w r v m t.1))))

window_aligned : (w : Window) → IsWindow w → IsAligned w.base w.size
window_aligned w h =
    let size : w.size ≡ 4 * 2 ^ (h.range.power.0 - 2) = h.range.power.3 ∙ power_split 2 h.range.power.0 (let five : 5 ≤ h.range.power.0 = h.range.power.1 in omega (arith, five)) in
    record {
      base = multiple_of w.base 4 (2 ^ (h.range.power.0 - 2)) w.size size h.range.aligned;
      size = rw size (mul-mod_right 4 (2 ^ (h.range.power.0 - 2)));
    }

ram_aligned : (i : Image) → ObeysRules i → IsAligned i.ram_base i.ram_size
ram_aligned i r = record { base = omega (arith, r.ram_aligned); size = omega (arith, r.ram_blocks) }

flash_aligned : (i : Image) → ObeysRules i → IsAligned i.flash_base (length i.flash)
flash_aligned i r = record { base = omega (arith, r.flash_aligned); size = r.flash_words }

-- ---- further bytes

further-choose : (t u : Bool) (p q r s : Location) (j : ℕ) → t ≡ u → (u ≡ true → p ≡ further j r) → q ≡ further j s
    → choose t p q ≡ further j (choose u r s)
further-choose true true p q r s j e h k = h refl
further-choose true false p q r s j e h k = cc
further-choose false true p q r s j e h k = cc
further-choose false false p q r s j e h k = k

window_further : (ws : List Window) (k a w j : ℕ) → AreWindows ws → IsAccessWidth w → a % w ≡ 0 → j < w
    → find_window ws k (a + j) ≡ further j (find_window ws k a)
unfolding find_window
window_further [] k a w j h v m l = refl
window_further (x ∷ xs) k a w j h v m l =
    further-choose (inside x.base x.size (a + j)) (inside x.base x.size a) (InWindow k (a + j - x.base)) _ (InWindow k (a - x.base)) _ j
    (inside_further x.base x.size a w j (window_aligned x h.0) v m l)
    (λ t. (let b = inside_true x.base x.size a t in let e : a + j - x.base ≡ a - x.base + j = omega arith in ap (InWindow k) e))
    (window_further xs (suc k) a w j h.2 v m l)

pub place_further : (i : Image) (a w j : ℕ) → ObeysRules i → IsAccessWidth w → a % w ≡ 0 → j < w → location i (a + j) ≡ further j (location i a)
unfolding location
place_further i a w j r v m l =
    further-choose (inside i.ram_base i.ram_size (a + j)) (inside i.ram_base i.ram_size a) (InRam (a + j - i.ram_base)) _ (InRam (a - i.ram_base)) _ j
    (inside_further i.ram_base i.ram_size a w j (ram_aligned i r) v m l)
    (λ t. (let b = inside_true i.ram_base i.ram_size a t in let e : a + j - i.ram_base ≡ a - i.ram_base + j = omega arith in ap InRam e))
    (further-choose (inside i.flash_base (length i.flash) (a + j)) (inside i.flash_base (length i.flash) a) (InFlash (a + j - i.flash_base)) _ (InFlash (a - i.flash_base)) _ j
    (inside_further i.flash_base (length i.flash) a w j (flash_aligned i r) v m l)
    (λ t. (let b = inside_true i.flash_base (length i.flash) a t in let e : a + j - i.flash_base ≡ a - i.flash_base + j = omega arith in ap InFlash e))
    (window_further i.windows 0 a w j r.windows v m l))

-- ---- all bytes fit

-- a location found among the later ones of some windows
abbrev FitsWindow : List Window → (first : ℕ) → Location → (width : ℕ) → Type 0
FitsWindow ws first (InRam o) w = ⊥
FitsWindow ws first (InFlash o) w = ⊥
FitsWindow ws first (InWindow k o) w = (first ≤ k) × HasBytes ws (k - first) o w
FitsWindow ws first Nowhere w = Unit {0}

fits-later : (x : Window) (xs : List Window) (k : ℕ) (p : Location) (w : ℕ) → FitsWindow xs (suc k) p w → FitsWindow (x ∷ xs) k p w
fits-later x xs k (InRam o) w h = h
fits-later x xs k (InFlash o) w h = h
fits-later x xs k (InWindow n o) w h =
    (let e : n - k ≡ suc (n - suc k) = omega (arith, h.0) in (omega (arith, h.0), rw e h.1))
fits-later x xs k Nowhere w h = tt

window_fits : (ws : List Window) (k a w : ℕ) → AreWindows ws → IsAccessWidth w → a % w ≡ 0 → FitsWindow ws k (find_window ws k a) w
unfolding find_window
window_fits [] k a w h v m = tt
window_fits (x ∷ xs) k a w h v m = by_test (inside x.base x.size a) refl (fits-later x xs k (find_window xs (suc k) a) w (window_fits xs (suc k) a w h.2 v m))
  where
    by_test : (t : Bool) → inside x.base x.size a ≡ t → FitsWindow (x ∷ xs) k (find_window xs (suc k) a) w
        → FitsWindow (x ∷ xs) k (choose t (InWindow k (a - x.base)) (find_window xs (suc k) a)) w
    by_test true e ih =
        (let b = inside_true x.base x.size a e in
        let zero_less : k - k ≡ 0 = omega arith in
        (omega arith, rw zero_less (x, refl, omega (arith, inside_ends x.base x.size a w (window_aligned x h.0) v m b.1))))
    by_test false e ih = ih

fits_window : (i : Image) (p : Location) (w : ℕ) → FitsWindow i.windows 0 p w → Fits p w i
fits_window i (InRam o) w h = absurd h
fits_window i (InFlash o) w h = absurd h
fits_window i (InWindow k o) w h = (let e : k - 0 ≡ k = omega arith in rw e at h.1)
fits_window i Nowhere w h = tt

pub place_fits : (i : Image) (a w : ℕ) → ObeysRules i → IsAccessWidth w → a % w ≡ 0 → Fits (location i a) w i
unfolding location
place_fits i a w r v m = by_ram (inside i.ram_base i.ram_size a) refl (by_flash (inside i.flash_base (length i.flash) a) refl)
  where
    by_flash : (t : Bool) → inside i.flash_base (length i.flash) a ≡ t
        → Fits (choose t (InFlash (a - i.flash_base)) (find_window i.windows 0 a)) w i
    by_flash true e =
        (let b = inside_true i.flash_base (length i.flash) a e in
        omega (arith, inside_ends i.flash_base (length i.flash) a w (flash_aligned i r) v m b.1))
    by_flash false e = fits_window i (find_window i.windows 0 a) w (window_fits i.windows 0 a w r.windows v m)

    by_ram : (t : Bool) → inside i.ram_base i.ram_size a ≡ t
        → Fits (choose (inside i.flash_base (length i.flash) a) (InFlash (a - i.flash_base)) (find_window i.windows 0 a)) w i
        → Fits (choose t (InRam (a - i.ram_base)) (choose (inside i.flash_base (length i.flash) a) (InFlash (a - i.flash_base)) (find_window i.windows 0 a))) w i
    by_ram true e h =
        (let b = inside_true i.ram_base i.ram_size a e in
        omega (arith, inside_ends i.ram_base i.ram_size a w (ram_aligned i r) v m b.1))
    by_ram false e h = h

-- ---- nowhere

positive : (w : ℕ) → IsAccessWidth w → 0 < w
positive w (inl e) = omega arith
positive w (inr (inl e)) = omega arith
positive w (inr (inr e)) = omega arith

windows_miss : (ws : List Window) (k a w : ℕ) → 0 < w → find_window ws k a ≡ Nowhere → AnyWindowHolds ws a w → ⊥
unfolding find_window
windows_miss [] k a w p e h = h
windows_miss (x ∷ xs) k a w p e (inl h) = (let t = inside_yes x.base x.size a h.0 (omega (arith, h.1)) in let f : InWindow k (a - x.base) ≡ Nowhere = rw t at e in cc)
windows_miss (x ∷ xs) k a w p e (inr h) = by_test (inside x.base x.size a) e (λ g. windows_miss xs (suc k) a w p g h)
  where
    by_test : (t : Bool) → choose t (InWindow k (a - x.base)) (find_window xs (suc k) a) ≡ Nowhere → (find_window xs (suc k) a ≡ Nowhere → ⊥) → ⊥
    by_test true g ih = cc
    by_test false g ih = ih g

misses_windows : (ws : List Window) (k a w : ℕ) → AreWindows ws → IsAccessWidth w → a % w ≡ 0 → (AnyWindowHolds ws a w → ⊥) → find_window ws k a ≡ Nowhere
unfolding find_window
misses_windows [] k a w h v m n = refl
misses_windows (x ∷ xs) k a w h v m n = by_test (inside x.base x.size a) refl (misses_windows xs (suc k) a w h.2 v m (λ g. n (inr g)))
  where
    by_test : (t : Bool) → inside x.base x.size a ≡ t → find_window xs (suc k) a ≡ Nowhere
        → choose t (InWindow k (a - x.base)) (find_window xs (suc k) a) ≡ Nowhere
    by_test true e ih =
        (let b = inside_true x.base x.size a e in
        absurd (n (inl (b.0, inside_ends x.base x.size a w (window_aligned x h.0) v m b.1))))
    by_test false e ih = ih

pub nowhere_holds : (i : Image) (a w : ℕ) → IsAccessWidth w → location i a ≡ Nowhere → HoldsBytes i a w → ⊥
unfolding location
nowhere_holds i a w v e (inl h) =
    (let n = positive w v in
    let t = inside_yes i.ram_base i.ram_size a h.0 (omega (arith, h.1)) in let f : InRam (a - i.ram_base) ≡ Nowhere = rw t at e in cc)
nowhere_holds i a w v e (inr (inl h)) =
    (let n = positive w v in
    let t = inside_yes i.flash_base (length i.flash) a h.0 (omega (arith, h.1)) in
    let f = rw t at e in by_test (inside i.ram_base i.ram_size a) f)
  where
    by_test : (t : Bool) → choose t (InRam (a - i.ram_base)) (InFlash (a - i.flash_base)) ≡ Nowhere → ⊥
    by_test true g = cc
    by_test false g = cc
nowhere_holds i a w v e (inr (inr h)) =
    by_tests (inside i.ram_base i.ram_size a) (inside i.flash_base (length i.flash) a) e (λ g. windows_miss i.windows 0 a w (positive w v) g h)
  where
    by_tests : (t u : Bool) → choose t (InRam (a - i.ram_base)) (choose u (InFlash (a - i.flash_base)) (find_window i.windows 0 a)) ≡ Nowhere
        → (find_window i.windows 0 a ≡ Nowhere → ⊥) → ⊥
    by_tests true u g ih = cc
    by_tests false true g ih = cc
    by_tests false false g ih = ih g

pub holds_nowhere : (i : Image) (a w : ℕ) → ObeysRules i → IsAccessWidth w → a % w ≡ 0 → (HoldsBytes i a w → ⊥) → location i a ≡ Nowhere
unfolding location
holds_nowhere i a w r v m n = by_tests (inside i.ram_base i.ram_size a) (inside i.flash_base (length i.flash) a) refl refl
  where
    by_tests : (t u : Bool) → inside i.ram_base i.ram_size a ≡ t → inside i.flash_base (length i.flash) a ≡ u
        → choose t (InRam (a - i.ram_base)) (choose u (InFlash (a - i.flash_base)) (find_window i.windows 0 a)) ≡ Nowhere
    by_tests true u e f =
        (let b = inside_true i.ram_base i.ram_size a e in
        absurd (n (inl (b.0, inside_ends i.ram_base i.ram_size a w (ram_aligned i r) v m b.1))))
    by_tests false true e f =
        (let b = inside_true i.flash_base (length i.flash) a f in
        absurd (n (inr (inl (b.0, inside_ends i.flash_base (length i.flash) a w (flash_aligned i r) v m b.1)))))
    by_tests false false e f = misses_windows i.windows 0 a w r.windows v m (λ g. n (inr (inr g)))

pub location-nowhere : (i : Image) (a w : ℕ) → ObeysRules i → IsAccessWidth w → a % w ≡ 0 → (location i a ≡ Nowhere) ↔ (HoldsBytes i a w → ⊥)
location-nowhere i a w r v m = (nowhere_holds i a w v, holds_nowhere i a w r v m)

pub ruleset access_rules = (place_fits)
