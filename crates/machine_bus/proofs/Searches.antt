-- The search for the window of an address, one window after another.
use Rattle.std.proofs.Common.{◌≡◌, ◌<◌, ◌≤◌, ℕ, zero, suc, ◌+◌, ◌-◌, List, [], ◌∷◌, refl, true, false, length, arith, get_or, drop, drop-cons, add-one}
use Rattle.machine_devices.specs.declared.image.Window.{Window}
use Rattle.machine_bus.specs.Locations.{InWindow, Nowhere, inside, find_window}

pub find_window-at : (ws : List Window) (n k a : ℕ) (w : Window) → n < length ws → w ≡ get_or ws n w → inside w.base w.size a ≡ true
    → find_window (drop n ws) k a ≡ InWindow k (a - w.base)
unfolding find_window
find_window-at ws n k a w l e t = rw (drop-cons ws n w l, ← e, t) refl

pub find_window-next : (ws : List Window) (n k a : ℕ) (w : Window) → n < length ws → w ≡ get_or ws n w → inside w.base w.size a ≡ false
    → find_window (drop n ws) k a ≡ find_window (drop (n + 1) ws) (k + 1) a
unfolding find_window
find_window-next ws n k a w l e t = rw (drop-cons ws n w l, ← e, t, add-one n, add-one k) refl

pub find_window-end : (ws : List Window) (n k a : ℕ) → length ws ≤ n → find_window (drop n ws) k a ≡ Nowhere
unfolding find_window
find_window-end [] zero k a h = refl
find_window-end [] (suc n) k a h = refl
find_window-end (w ∷ ws) zero k a h = absurd (omega arith)
find_window-end (w ∷ ws) (suc n) k a h = find_window-end ws n k a (omega arith)

pub ruleset window_rules = (find_window-at, find_window-next, find_window-end)
