-- Rows of windows behind other windows: what the checks of each window say of the whole row, and back.
use Rattle.std.proofs.Common.{◌≡◌, ◌≢◌, ℕ, zero, suc, ◌+◌, ◌-◌, ◌<◌, ◌≤◌, ◌^◌, Bool, true, false, List, [], ◌∷◌, ◌++◌, length, drop, None, refl, sym, ap, ◌∙◌, subst, arith, append_assoc}
use Rattle.std.specs.Prelude.{◌||◌, not}
use Rattle.std.specs.List.{list_any, list_all, slice_range, flat_map}
use Rattle.std.specs.Str.{bytes_eq}
use Rattle.std.proofs.lemmas.Bool.{false≢true, and_parts, and_from}
use Rattle.std.proofs.lemmas.List.Edits.{length-between}
use Rattle.std.proofs.lemmas.List.Folds.{drop_split}
use Rattle.std.proofs.lemmas.Slice.Eq.{bytes_eq-Decides}
use Rattle.base_names.proofs.Lengths.{name_lengths}
use Rattle.base_ranges.specs.Ranges.{AreApart, are_apart}
use Rattle.base_ranges.proofs.Decisions.{decides_apart}
use Rattle.machine_devices.specs.declared.image.Window.{Window}
use Rattle.machine_devices.specs.Rules.{IsWindow, IsApart, AreWindows}
use Rattle.machine_image.specs.Text.{word_bytes, window_bytes}
use Rattle.machine_image.specs.Parts.{number, window_at, behind_window, windows_from, behind_windows}
use Rattle.machine_image.specs.Faults.{first_of, range_checks, name_checks, window_checks, windows_checks}
use Rattle.machine_image.proofs.Passing.{AllPass-from_first_of, first_of-from_AllPass, first_of-none_in, room, whole-none, kept, rule-none}
use Rattle.machine_image.proofs.Steps.{first_of-nil, first_of-pass_all}
use Rattle.machine_image.proofs.Decisions.{Decides-is_window_size, Decides-is_window_base, Decides-is_name_length, Decides-is_new_name}
use Rattle.machine_image.proofs.Bytes.{AreBytes, word_at, begins, begins_word}

-- a window shares neither name nor address with earlier ones
abbrev pub IsClear : List Window → Window → Type 0
IsClear [] x = Unit {0}
IsClear (w ∷ ws) x = (w.name ≢ x.name) × AreApart w.base w.size x.base x.size × IsClear ws x

-- nor do any of these windows
abbrev pub AreBehind : List Window → List Window → Type 0
AreBehind [] ws = Unit {0}
AreBehind (w ∷ seen) ws = IsApart w ws × AreBehind seen ws

neither : (a b : Bool) → not (a || b) ≡ true → (a ≡ false) × (not b ≡ true)
neither true b h = absurd (false≢true h)
neither false b h = (refl, h)

neither_join : (a b : Bool) → a ≡ false → not b ≡ true → not (a || b) ≡ true
neither_join true b h k = absurd (false≢true (sym h))
neither_join false b h k = k

differ : (xs ys : List ℕ) → bytes_eq xs ys ≡ false → xs ≢ ys
differ xs ys h e = false≢true (sym h ∙ (bytes_eq-Decides xs ys).1 e)

not_equal : (xs ys : List ℕ) (r : Bool) → bytes_eq xs ys ≡ r → xs ≢ ys → bytes_eq xs ys ≡ false
not_equal xs ys true e h = absurd (h ((bytes_eq-Decides xs ys).0 e))
not_equal xs ys false e h = e

pub IsClear-from_tests : (seen : List Window) (x : Window) → list_all (λ w. are_apart w.base w.size x.base x.size) seen ≡ true → not (list_any (λ w. bytes_eq w.name x.name) seen) ≡ true → IsClear seen x
IsClear-from_tests [] x apart new = tt
IsClear-from_tests (w ∷ seen) x apart new =
    let a = and_parts (are_apart w.base w.size x.base x.size) (list_all (λ w. are_apart w.base w.size x.base x.size) seen) apart in
    let n = neither (bytes_eq w.name x.name) (list_any (λ w. bytes_eq w.name x.name) seen) new in
    (differ w.name x.name n.0, (decides_apart w.base w.size x.base x.size).0 a.0, IsClear-from_tests seen x a.1 n.1)

pub tests_from_IsClear : (seen : List Window) (x : Window) → IsClear seen x → (list_all (λ w. are_apart w.base w.size x.base x.size) seen ≡ true) × (not (list_any (λ w. bytes_eq w.name x.name) seen) ≡ true)
tests_from_IsClear [] x h = (refl, refl)
tests_from_IsClear (w ∷ seen) x h =
    let more = tests_from_IsClear seen x h.2 in
    (and_from _ _ ((decides_apart w.base w.size x.base x.size).1 h.1) more.0, neither_join _ _ (not_equal w.name x.name _ refl h.0) more.1)

AreBehind-nil : (seen : List Window) → AreBehind seen []
AreBehind-nil [] = tt
AreBehind-nil (w ∷ seen) = (tt, AreBehind-nil seen)

AreBehind-cons : (seen : List Window) (x : Window) (ws : List Window) → IsClear seen x → AreBehind seen ws → AreBehind seen (x ∷ ws)
AreBehind-cons [] x ws clear behind = tt
AreBehind-cons (w ∷ seen) x ws clear behind =
    ((clear.0, clear.1, behind.0), AreBehind-cons seen x ws clear.2 behind.1)

AreBehind-first : (seen : List Window) (x : Window) (ws : List Window) → AreBehind seen (x ∷ ws) → IsClear seen x
AreBehind-first [] x ws h = tt
AreBehind-first (w ∷ seen) x ws h = (h.0.0, h.0.1, AreBehind-first seen x ws h.1)

AreBehind-rest : (seen : List Window) (x : Window) (ws : List Window) → AreBehind seen (x ∷ ws) → AreBehind seen ws
AreBehind-rest [] x ws h = tt
AreBehind-rest (w ∷ seen) x ws h = (h.0.2, AreBehind-rest seen x ws h.1)

AreBehind-split : (seen : List Window) (x : Window) (ws : List Window) → AreBehind (seen ++ x ∷ []) ws → AreBehind seen ws × IsApart x ws
AreBehind-split [] x ws h = (tt, h.0)
AreBehind-split (w ∷ seen) x ws h =
    let more = AreBehind-split seen x ws h.1 in
    ((h.0, more.0), more.1)

AreBehind-join : (seen : List Window) (x : Window) (ws : List Window) → AreBehind seen ws → IsApart x ws → AreBehind (seen ++ x ∷ []) ws
AreBehind-join [] x ws behind apart = (apart, tt)
AreBehind-join (w ∷ seen) x ws behind apart = (behind.0, AreBehind-join seen x ws behind.1 apart)

-- a window whose checks find nothing
record Passed (b : List ℕ) (at : ℕ) (seen : List Window) : Type 0 where
  window : IsWindow (window_at b at)
  clear : IsClear seen (window_at b at)
  within : behind_window b at ≤ length b

passed : (b : List ℕ) (at : ℕ) (seen : List Window) → first_of (window_checks b at seen) ≡ None → Passed b at seen
unfolding window_checks range_checks name_checks
passed b at seen h =
    let both = first_of-none_in (range_checks b at seen) (name_checks b at seen) h in
    let r = AllPass-from_first_of (range_checks b at seen) both.0 in
    let n = AllPass-from_first_of (name_checks b at seen) both.1 in
    let size = (Decides-is_window_size (number b (at + 4))).0 (kept _ (at + 4) r.1.1.0) in
    let base = (Decides-is_window_base (number b at) (number b (at + 4)) seen).0 (kept _ at r.1.1.1.0) in
    let name = (Decides-is_new_name (window_at b at).name seen).0 (kept _ (at + 12) n.1.1.1.0) in
    record {
      window = record { named = name.0; range = record { power = size; aligned = base.0.0; place = base.0.1 } };
      clear = IsClear-from_tests seen (window_at b at) base.1 name.1;
      within = room b (at + 12) (number b (at + 8)) n.1.1.0;
    }

-- the rules of a row whose checks find nothing
pub AreWindows-from_checks : (k : ℕ) (b : List ℕ) (at : ℕ) (seen : List Window) → first_of (windows_checks b at seen k) ≡ None → AreWindows (windows_from b at k) × AreBehind seen (windows_from b at k)
unfolding windows_checks windows_from
AreWindows-from_checks zero b at seen h = (tt, AreBehind-nil seen)
AreWindows-from_checks (suc k) b at seen h =
    let x = window_at b at in
    let both = first_of-none_in (window_checks b at seen) (windows_checks b (behind_window b at) (seen ++ x ∷ []) k) h in
    let first = passed b at seen both.0 in
    let more = AreWindows-from_checks k b (behind_window b at) (seen ++ x ∷ []) both.1 in
    let split = AreBehind-split seen x (windows_from b (behind_window b at) k) more.1 in
    ((first.window, split.1, more.0), AreBehind-cons seen x (windows_from b (behind_window b at) k) first.clear split.0)

pub length-windows_from : (k : ℕ) (b : List ℕ) (at : ℕ) → length (windows_from b at k) ≡ k
unfolding windows_from
length-windows_from zero b at = refl
length-windows_from (suc k) b at = ap suc (length-windows_from k b (behind_window b at))

-- the bytes of a window that is there whole
window_spelled : (b : List ℕ) (at : ℕ) → AreBytes b → behind_window b at ≤ length b → drop at b ≡ window_bytes (window_at b at) ++ drop (behind_window b at) b
unfolding word_bytes
window_spelled b at bytes within =
    let n = number b (at + 8) in
    let h0 : at + 4 ≤ length b = omega arith in
    let h1 : at + 4 + 4 ≤ length b = omega arith in
    let h2 : at + 8 + 4 ≤ length b = omega arith in
    let e1 : at + 4 + 4 ≡ at + 8 = omega arith in
    let e2 : at + 8 + 4 ≡ at + 12 = omega arith in
    let long : length (window_at b at).name ≡ n = length-between b (at + 12) (at + 12 + n) within ∙ (let d : at + 12 + n - (at + 12) ≡ n = omega arith in d) in
    let ordered : at + 12 ≤ at + 12 + n = omega arith in
    word_at b at bytes h0
    ∙ ap (λ t. word_bytes (number b at) ++ t) (word_at b (at + 4) bytes h1
    ∙ ap (λ t. word_bytes (number b (at + 4)) ++ t) (ap (λ k. drop k b) e1
    ∙ (word_at b (at + 8) bytes h2
    ∙ (ap (λ k. word_bytes k ++ drop (at + 8 + 4) b) (sym long)
    ∙ ap (λ t. word_bytes (length (window_at b at).name) ++ t) (ap (λ k. drop k b) e2
    ∙ drop_split b (at + 12) (at + 12 + n) ordered)))))

pub windows_spelled : (k : ℕ) (b : List ℕ) (at : ℕ) (seen : List Window) → AreBytes b → first_of (windows_checks b at seen k) ≡ None → drop at b ≡ flat_map window_bytes (windows_from b at k) ++ drop (behind_windows b at k) b
unfolding windows_checks windows_from behind_windows
windows_spelled zero b at seen bytes h = refl
windows_spelled (suc k) b at seen bytes h =
    let x = window_at b at in
    let next = behind_window b at in
    let both = first_of-none_in (window_checks b at seen) (windows_checks b next (seen ++ x ∷ []) k) h in
    let first = passed b at seen both.0 in
    window_spelled b at bytes first.within
    ∙ (ap (λ t. window_bytes x ++ t) (windows_spelled k b next (seen ++ x ∷ []) bytes both.1)
    ∙ sym (append_assoc (window_bytes x) (flat_map window_bytes (windows_from b next k)) (drop (behind_windows b next k) b)))

-- a row of windows that keep their rules, spelled from an offset on
pub record Found (b : List ℕ) (at : ℕ) (seen ws : List Window) (rest : List ℕ) : Type 0 where
  pub faultless : first_of (windows_checks b at seen (length ws)) ≡ None
  pub windows : windows_from b at (length ws) ≡ ws
  pub behind : drop (behind_windows b at (length ws)) b ≡ rest
  pub within : behind_windows b at (length ws) ≤ length b

same_window : (v w : Window) → v.name ≡ w.name → v.base ≡ w.base → v.size ≡ w.size → v ≡ w
same_window v w name base size =
    ap (λ (n : List ℕ). let x : Window = record { name = n; base = v.base; size = v.size } in x) name
    ∙ (ap (λ (n : ℕ). let x : Window = record { name = w.name; base = n; size = v.size } in x) base
    ∙ ap (λ (n : ℕ). let x : Window = record { name = w.name; base = w.base; size = n } in x) size)

-- one window that keeps its rules, spelled from an offset on
record FoundOne (b : List ℕ) (at : ℕ) (seen : List Window) (w : Window) (rest : List ℕ) : Type 0 where
  faultless : first_of (window_checks b at seen) ≡ None
  window : window_at b at ≡ w
  behind : drop (behind_window b at) b ≡ rest
  within : behind_window b at ≤ length b

pub window_fits : (w : Window) → IsWindow w → (w.base < 2 ^ 32) × (w.size < 2 ^ 32) × (1 ≤ length w.name) × (length w.name ≤ 64)
window_fits w h =
    let place = h.range.place in
    let name = name_lengths w.name h.named in
    (omega arith, omega arith, name.0, name.1)

window_parts : (w : Window) (rest : List ℕ) → window_bytes w ++ rest ≡ word_bytes w.base ++ (word_bytes w.size ++ (word_bytes (length w.name) ++ (w.name ++ rest)))
unfolding word_bytes
window_parts w rest = refl

window_checks-none : (b : List ℕ) (at : ℕ) (seen : List Window) (w : Window) → window_at b at ≡ w → number b (at + 8) ≡ length w.name → IsWindow w → IsClear seen w → behind_window b at ≤ length b → first_of (window_checks b at seen) ≡ None
unfolding window_checks range_checks name_checks
window_checks-none b at seen w same long rules clear within =
    let x = window_at b at in
    let window : IsWindow x = subst IsWindow (sym same) rules in
    let tests = tests_from_IsClear seen x (subst (IsClear seen) (sym same) clear) in
    let fits = window_fits w rules in
    let range = first_of-from_AllPass (range_checks b at seen) (whole-none b at 4 (omega arith), (whole-none b (at + 4) 4 (omega arith), (rule-none _ (at + 4) ((Decides-is_window_size (number b (at + 4))).1 window.range.power), (rule-none _ at ((Decides-is_window_base (number b at) (number b (at + 4)) seen).1 ((window.range.aligned, window.range.place), tests.0)), tt)))) in
    let name = first_of-from_AllPass (name_checks b at seen) (whole-none b (at + 8) 4 (omega arith), (rule-none _ (at + 8) ((Decides-is_name_length (number b (at + 8))).1 (omega arith, omega arith)), (whole-none b (at + 12) (number b (at + 8)) within, (rule-none _ (at + 12) ((Decides-is_new_name x.name seen).1 (window.named, tests.1)), tt)))) in
    first_of-pass_all (range_checks b at seen) (name_checks b at seen) range ∙ name

found_one : (b : List ℕ) (at : ℕ) (seen : List Window) (w : Window) (rest : List ℕ) → IsWindow w → IsClear seen w → at ≤ length b → drop at b ≡ window_bytes w ++ rest → FoundOne b at seen w rest
found_one b at seen w rest rules clear within e =
    let fits = window_fits w rules in
    let base = begins_word b at w.base _ fits.0 within (e ∙ window_parts w rest) in
    let size = begins_word b (at + 4) w.size _ fits.1 base.within base.behind in
    let e8 : at + 4 + 4 ≡ at + 8 = omega arith in
    let size_behind : drop (at + 8) b ≡ word_bytes (length w.name) ++ (w.name ++ rest) = ap (λ k. drop k b) (sym e8) ∙ size.behind in
    let size_within : at + 8 ≤ length b = let s = size.within in omega arith in
    let small : length w.name < 2 ^ 32 = omega (arith, fits.3) in
    let long = begins_word b (at + 8) (length w.name) (w.name ++ rest) small size_within size_behind in
    let e12 : at + 8 + 4 ≡ at + 12 = omega arith in
    let long_behind : drop (at + 12) b ≡ w.name ++ rest = ap (λ k. drop k b) (sym e12) ∙ long.behind in
    let long_within : at + 12 ≤ length b = let s = long.within in omega arith in
    let name = begins b (at + 12) w.name rest long_within long_behind in
    let place : at + 12 + number b (at + 8) ≡ at + 12 + length w.name = ap (λ n. at + 12 + n) long.value in
    let named : (window_at b at).name ≡ w.name = ap (λ k. slice_range b (at + 12) k) place ∙ name.part in
    let same : window_at b at ≡ w = same_window (window_at b at) w named base.value size.value in
    let inside : behind_window b at ≤ length b = let s = name.within in omega arith in
    record {
      faultless = window_checks-none b at seen w same long.value rules clear inside;
      window = same;
      behind = ap (λ k. drop k b) place ∙ name.behind;
      within = inside;
    }

pub found : (ws : List Window) (b : List ℕ) (at : ℕ) (seen : List Window) (rest : List ℕ) → AreWindows ws → AreBehind seen ws → at ≤ length b → drop at b ≡ flat_map window_bytes ws ++ rest → Found b at seen ws rest
unfolding windows_checks windows_from behind_windows
found [] b at seen rest rules behind within e = record { faultless = first_of-nil; windows = refl; behind = e; within = within }
found (w ∷ ws) b at seen rest rules behind within e =
    let one = found_one b at seen w (flat_map window_bytes ws ++ rest) rules.0 (AreBehind-first seen w ws behind) within (e ∙ append_assoc (window_bytes w) (flat_map window_bytes ws) rest) in
    let next = behind_window b at in
    let now = seen ++ window_at b at ∷ [] in
    let order : AreBehind now ws = subst (λ (x : Window). AreBehind (seen ++ x ∷ []) ws) (sym one.window) (AreBehind-join seen w ws (AreBehind-rest seen w ws behind) rules.1) in
    let more = found ws b next now rest rules.2 order one.within one.behind in
    record {
      faultless = first_of-pass_all (window_checks b at seen) (windows_checks b next now (length ws)) one.faultless ∙ more.faultless;
      windows = ap (λ x. x ∷ windows_from b next (length ws)) one.window ∙ ap (λ xs. w ∷ xs) more.windows;
      behind = more.behind;
      within = more.within;
    }
