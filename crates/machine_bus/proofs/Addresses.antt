-- Where the addresses of RAM, of flash and of windows lead, on an image that obeys the rules.
use Rattle.std.proofs.Common.{◌≡◌, ◌<◌, ◌≤◌, ◌⊎◌, inl, inr, ℕ, zero, suc, ◌+◌, ◌-◌, ◌%◌, List, [], ◌∷◌, refl, ap, ◌∙◌, subst, false, length, arith, Some}
use Rattle.std.specs.Prelude.{slice_get}
use Rattle.machine_devices.specs.declared.image.Image.{Image}
use Rattle.machine_devices.specs.declared.image.Window.{Window}
use Rattle.base_ranges.specs.Ranges.{AreApart}
use Rattle.machine_devices.specs.Rules.{ObeysRules, IsWindow, IsApart, AreWindows, IsMonitor}
use Rattle.machine_bus.specs.Locations.{InRam, InFlash, InWindow, inside, find_window, location}
use Rattle.machine_bus.proofs.Ranges.{inside_yes, inside_no}

pub location-ram : (i : Image) (a : ℕ) → i.ram_base ≤ a → a < i.ram_base + i.ram_size → location i a ≡ InRam (a - i.ram_base)
unfolding location
location-ram i a l h = rw (inside_yes i.ram_base i.ram_size a l h) refl

pub location-flash : (i : Image) (a : ℕ) → ObeysRules i → i.flash_base ≤ a → a < i.flash_base + length i.flash → location i a ≡ InFlash (a - i.flash_base)
unfolding location
location-flash i a r l h =
    let apart : inside i.ram_base i.ram_size a ≡ false = inside_no i.ram_base i.ram_size a (inl (omega (arith, r.ram_lowest, r.flash_highest, r.flash_most))) in
    rw (apart, inside_yes i.flash_base (length i.flash) a l h) refl

-- ---- the addresses of a window

apart_at : (x : Window) (xs : List Window) (k : ℕ) (w : Window) → IsApart x xs → slice_get xs k ≡ Some w → AreApart x.base x.size w.base w.size
apart_at x [] k w h e = cc
apart_at x (y ∷ ys) zero w h e = (let same : y ≡ w = cc in subst (λ z. AreApart x.base x.size z.base z.size) same h.1)
apart_at x (y ∷ ys) (suc k) w h e = apart_at x ys k w h.2 e

-- a window of an image
pub window_at : (ws : List Window) (k : ℕ) (w : Window) → AreWindows ws → slice_get ws k ≡ Some w → IsWindow w
window_at [] k w h e = cc
window_at (x ∷ xs) zero w h e = (let same : x ≡ w = cc in subst IsWindow same h.0)
window_at (x ∷ xs) (suc k) w h e = window_at xs k w h.2 e

find_window-window : (ws : List Window) (first k a : ℕ) (w : Window) → AreWindows ws → slice_get ws k ≡ Some w → w.base ≤ a → a < w.base + w.size
    → find_window ws first a ≡ InWindow (first + k) (a - w.base)
unfolding find_window
find_window-window [] first k a w h e l g = cc
find_window-window (x ∷ xs) first zero a w h e l g =
    (let same : x ≡ w = cc in
    let none : first + 0 ≡ first = omega arith in
    rw (same, inside_yes w.base w.size a l g, none) refl)
find_window-window (x ∷ xs) first (suc k) a w h e l g =
    (let apart = apart_at x xs k w h.1 e in
    let past : suc first + k ≡ first + suc k = omega arith in
    rw (inside_no x.base x.size a (outside apart)) (find_window-window xs (suc first) k a w h.2 e l g ∙ ap (λ n. InWindow n (a - w.base)) past))
  where
    outside : AreApart x.base x.size w.base w.size → (a < x.base) ⊎ (x.base + x.size ≤ a)
    outside (inl p) = inr (omega arith)
    outside (inr p) = inl (omega arith)

pub location-window : (i : Image) (a k : ℕ) (w : Window) → ObeysRules i → slice_get i.windows k ≡ Some w → w.base ≤ a → a < w.base + w.size
    → location i a ≡ InWindow k (a - w.base)
unfolding location
location-window i a k w r e l g =
    let p = (window_at i.windows k w r.windows e).range.place in
    let ram = inside_no i.ram_base i.ram_size a (inr (omega (arith, p.0, r.ram_highest, r.ram_most))) in
    let flash = inside_no i.flash_base (length i.flash) a (inr (omega (arith, p.0, r.flash_highest, r.flash_most))) in
    let none : 0 + k ≡ k = omega arith in
    rw (ram, flash) (find_window-window i.windows 0 k a w r.windows e l g ∙ ap (λ n. InWindow n (a - w.base)) none)

pub location-monitor : (i : Image) → ObeysRules i → (i.monitor ≡ 0 → ⊥) → location i i.monitor ≡ InRam (i.monitor - i.ram_base)
location-monitor i r n = by_case r.monitor
  where
    by_case : IsMonitor i → location i i.monitor ≡ InRam (i.monitor - i.ram_base)
    by_case (inl e) = absurd (n e)
    by_case (inr m) = location-ram i i.monitor m.1.0 (omega (arith, m.1.1))

pub ruleset place_rules = (location-ram, location-flash, location-window, location-monitor)

pub monitor_aligned : (i : Image) → ObeysRules i → i.monitor % 4 ≡ 0
monitor_aligned i r = by_case r.monitor
  where
    by_case : IsMonitor i → i.monitor % 4 ≡ 0
    by_case (inl e) = omega arith
    by_case (inr m) = omega (arith, m.0)

pub ruleset monitor_rules = (location-monitor, monitor_aligned)
