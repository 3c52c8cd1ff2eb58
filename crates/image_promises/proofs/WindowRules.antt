-- The windows of a firmware that passes the checks obey the rules of an image's windows.
use Rattle.std.proofs.Common.{◌≡◌, ◌≢◌, ℕ, suc, ◌<◌, Bool, true, false, not, List, [], ◌∷◌, ◌++◌, length, get_or, map, refl, arith}
use Rattle.std.specs.Prelude.{bytes_eq, if◌then◌else◌, IsTrue}
use Rattle.std.proofs.lemmas.Bool.Decides.{not_from_Decides}
use Rattle.std.proofs.lemmas.Bool.{and_parts}
use Rattle.std.proofs.lemmas.List.{length-map}
use Rattle.std.proofs.lemmas.Slice.Eq.{bytes_eq-Decides}
use Rattle.base_names.specs.Names.{is_name}
use Rattle.machine_devices.specs.declared.image.Window.{Window}
use Rattle.base_ranges.specs.Ranges.{are_apart}
use Rattle.base_ranges.proofs.Decisions.{decides_apart}
use Rattle.machine_devices.specs.Rules.{IsWindow, IsApart, AreWindows}
use Rattle.ir_model.specs.declared.check.CheckKind.TheVariants.{Twice, BadWindow, WindowOverlap}
use Rattle.ir_model.specs.declared.check.CheckPlace.TheVariants as place
use Rattle.ir_model.specs.declared.firmware.Peripheral.{Peripheral}
use Rattle.ir_model.specs.Plain.{PlainFirmware}
use Rattle.ir_model.specs.Resolved.{no_window}
use Rattle.ir_model.specs.Resolve as numbers
use Rattle.base_names.specs.Numbers.{has}
use Rattle.ir_model.specs.Resolve.{resolve}
use Rattle.ir_model.specs.Canonical.{IsWithinLimits}
use Rattle.base_laws.specs.Lists.{Each}
use Rattle.ir_model.specs.Typing.{Checks, check, is_new, is_window, periph_checks, IsTyped, is_apart}
use Rattle.base_laws.proofs.Lists.{each_left, each_right}
use Rattle.ir_model.proofs.Passing.{Pass, left, right, holds, behind}
use Rattle.ir_model.proofs.Typed.{parts_pass}
use Rattle.ir_model.proofs.Limits.{named_periphs}
use Rattle.ir_laws.specs.Limits.{WindowsLieApart}
use Rattle.ir_laws.proofs.Windows.{HasRange}
use Rattle.ir_program.specs.Windows.{window_of, windows_of}

-- ---- one window

window_rules : (q : Peripheral) → IsTrue (is_name q.name) → HasRange (numbers.window_of q) → IsWindow (window_of q)
window_rules q n i = record { named = n; range = i }

-- ---- two windows

not_either : (a b : Bool) → not (if a then true else b) ≡ true → (a ≡ false) × (not b ≡ true)
not_either true b h = cc
not_either false b h = (refl, h)

abbrev names : List Peripheral → List (List ℕ)
names es = map (λ (e : Peripheral). e.name) es

-- each of the earlier ones lies apart from the later ones
abbrev EachApart : (earlier : List Peripheral) → List Window → Type 0
EachApart es ws = Each (λ (e : Peripheral). IsApart (window_of e) ws) es

none_behind : (es : List Peripheral) → EachApart es []
none_behind [] = tt
none_behind (e ∷ es) = (tt, none_behind es)

one_more : (q : Peripheral) (ws : List Window) (es : List Peripheral) → not (has (names es) q.name) ≡ true → is_apart es q ≡ true → EachApart es ws → EachApart es (window_of q ∷ ws)
one_more q ws [] n o h = tt
one_more q ws (e ∷ es) n o h =
    let a = not_either (bytes_eq e.name q.name) (has (names es) q.name) n in
    let b = and_parts (are_apart e.base e.size q.base q.size) (is_apart es q) o in
    let differ : e.name ≢ q.name = not_from_Decides (bytes_eq e.name q.name) (bytes_eq-Decides e.name q.name) a.0 in
    let apart = (decides_apart e.base e.size q.base q.size).0 b.0 in
    ((differ, apart, h.0), one_more q ws es a.1 b.1 h.1)

-- ---- all windows

abbrev Are : (earlier : List Peripheral) → List Peripheral → Type 0
Are es qs = AreWindows (map window_of qs) × EachApart es (map window_of qs)

all_are : (es qs : List Peripheral) → Each (λ (q : Peripheral). IsWindow (window_of q)) qs → Pass (periph_checks es qs) → Are es qs
all_are es [] i h = (tt, none_behind es)
all_are es (q ∷ qs) i h =
    let c : Checks = check (is_apart es q) WindowOverlap (place.Periph q.name) ∷ [] in
    let b : Checks = check (is_window q) BadWindow (place.Periph q.name) ∷ c in
    let own : Checks = is_new (names es) q.name (place.Periph q.name) ∷ b in
    let rest : Checks = periph_checks (es ++ q ∷ []) qs in
    let f : Pass own = left own rest h in
    let new = holds (not (has (names es) q.name)) (Twice q.name) (place.Periph q.name) b f in
    let g = behind (not (has (names es) q.name)) (Twice q.name) (place.Periph q.name) b f in
    let off = holds (is_apart es q) WindowOverlap (place.Periph q.name) [] (behind (is_window q) BadWindow (place.Periph q.name) c g) in
    let r = all_are (es ++ q ∷ []) qs i.1 (right own rest h) in
    let P : Peripheral → Type 0 = λ (e : Peripheral). IsApart (window_of e) (map window_of qs) in
    let last = each_right P es (q ∷ []) r.1 in
    ((i.0, last.0, r.0), one_more q (map window_of qs) es new off (each_left P es (q ∷ []) r.1))

by_numbers : (qs : List Peripheral) → Each (λ (q : Peripheral). IsTrue (is_name q.name)) qs → ((k : ℕ) → k < length qs → HasRange (get_or (map numbers.window_of qs) k no_window)) → Each (λ (q : Peripheral). IsWindow (window_of q)) qs
by_numbers [] n h = tt
by_numbers (q ∷ qs) n h = (window_rules q n.0 (h 0 (omega arith)), by_numbers qs n.1 (λ k l. h (suc k) (omega (arith, l))))

pub are_windows : WindowsLieApart → (w : PlainFirmware) → IsTyped w → IsWithinLimits w → AreWindows (windows_of w)
unfolding resolve
are_windows law w t l =
    let size = length-map w.periphs numbers.window_of in
    (all_are [] w.periphs (by_numbers w.periphs (named_periphs w l) (λ k m. (law w t).each k (omega (arith, size, m)))) (parts_pass w t).periphs).0
