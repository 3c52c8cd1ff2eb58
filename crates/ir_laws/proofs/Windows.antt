-- The windows of a firmware that passes the checks are windows, and lie apart.
use Rattle.std.proofs.Common.{◌≡◌, ◌≢◌, inl, inr, ◌<◌, ℕ, zero, suc, true, not, List, [], ◌∷◌, ◌++◌, length, get_or, map, refl, sym, ap, subst, append_assoc, append-nil, arith}
use Rattle.std.proofs.lemmas.List.{length-map}
use Rattle.std.proofs.lemmas.Bool.{and_parts}
use Rattle.base_ranges.specs.Ranges.{AreApart, are_apart, IsWindowRange}
use Rattle.base_ranges.proofs.Decisions.{decides_apart, decides_window}
use Rattle.ir_model.specs.declared.check.CheckKind.TheVariants.{Twice, BadWindow, WindowOverlap}
use Rattle.ir_model.specs.declared.check.CheckPlace.TheVariants as place
use Rattle.ir_model.specs.declared.firmware.Peripheral.{Peripheral}
use Rattle.ir_model.specs.Plain.{PlainFirmware}
use Rattle.ir_model.specs.Resolved.{NumberedWindow, no_window}
use Rattle.base_names.specs.Numbers.{has}
use Rattle.ir_model.specs.Resolve.{window_of, resolve}
use Rattle.ir_model.specs.Typing.{Checks, check, is_new, is_window, is_apart, periph_checks, IsTyped}
use Rattle.ir_model.proofs.Passing.{Pass, left, right, holds, behind}
use Rattle.ir_model.proofs.Typed.{parts_pass}
use Rattle.ir_laws.specs.Limits.{HasWindows}

-- a window may have this base and size
abbrev pub HasRange : NumberedWindow → Type 0
HasRange q = IsWindowRange q.base q.size

abbrev AreDisjoint : NumberedWindow → NumberedWindow → Type 0
AreDisjoint q r = AreApart q.base q.size r.base r.size

-- the later of two windows is apart from the earlier one
abbrev ApartFrom : Peripheral → List Peripheral → Type 0
ApartFrom q [] = Unit {0}
ApartFrom q (e ∷ es) = AreDisjoint (window_of e) (window_of q) × ApartFrom q es

apart_from : (q : Peripheral) (es : List Peripheral) → is_apart es q ≡ true → ApartFrom q es
apart_from q [] h = tt
apart_from q (e ∷ es) h =
    let n = and_parts (are_apart e.base e.size q.base q.size) (is_apart es q) h in
    ((decides_apart e.base e.size q.base q.size).0 n.0, apart_from q es n.1)

-- each window, with those before it
abbrev AllApart : (earlier : List Peripheral) → List Peripheral → Type 0
AllApart es [] = Unit {0}
AllApart es (q ∷ qs) = HasRange (window_of q) × ApartFrom q es × AllApart (es ++ q ∷ []) qs

all_apart : (es qs : List Peripheral) → Pass (periph_checks es qs) → AllApart es qs
all_apart es [] h = tt
all_apart es (q ∷ qs) h =
    let c : Checks = check (is_apart es q) WindowOverlap (place.Periph q.name) ∷ [] in
    let b : Checks = check (is_window q) BadWindow (place.Periph q.name) ∷ c in
    let own : Checks = is_new (map (λ (e : Peripheral). e.name) es) q.name (place.Periph q.name) ∷ b in
    let rest : Checks = periph_checks (es ++ q ∷ []) qs in
    let f = left own rest h in
    let g = behind (not (has (map (λ (e : Peripheral). e.name) es) q.name)) (Twice q.name) (place.Periph q.name) b f in (
      (decides_window q.base q.size).0 (holds (is_window q) BadWindow (place.Periph q.name) c g),
      apart_from q es (holds (is_apart es q) WindowOverlap (place.Periph q.name) [] (behind (is_window q) BadWindow (place.Periph q.name) c g)),
      all_apart (es ++ q ∷ []) qs (right own rest h),
    )

-- by numbers
abbrev at_number : List Peripheral → ℕ → NumberedWindow
at_number qs k = get_or (map window_of qs) k no_window

each_window : (es qs : List Peripheral) (k : ℕ) → AllApart es qs → k < length qs → HasRange (at_number qs k)
each_window es [] k h l = absurd (omega arith)
each_window es (q ∷ qs) zero h l = h.0
each_window es (q ∷ qs) (suc k) h l = each_window (es ++ q ∷ []) qs k h.2 (omega arith)

from_inner : (q e : Peripheral) (es fs : List Peripheral) → ApartFrom q ((es ++ e ∷ []) ++ fs) → AreDisjoint (window_of e) (window_of q)
from_inner q e [] fs h = h.0
from_inner q e (x ∷ es) fs h = from_inner q e es fs h.1

turned : (q e : NumberedWindow) → AreDisjoint q e → AreDisjoint e q
turned q e (inl h) = inr h
turned q e (inr h) = inl h

-- lists of the earlier ones that are put together otherwise
others_behind : (es : List Peripheral) (q : Peripheral) (fs : List Peripheral) (qs : List Peripheral) → AllApart ((es ++ fs) ++ q ∷ []) qs → AllApart (es ++ (fs ++ q ∷ [])) qs
others_behind es q fs qs h = subst (λ (x : List Peripheral). AllApart x qs) (append_assoc es fs (q ∷ [])) h

none_behind : (es qs : List Peripheral) → AllApart es qs → AllApart (es ++ []) qs
none_behind es qs h = subst (λ (x : List Peripheral). AllApart x qs) (sym (append-nil es)) h

-- the one of number k is apart from one before all of these
first_apart : (e : Peripheral) (es fs qs : List Peripheral) (k : ℕ) → AllApart ((es ++ e ∷ []) ++ fs) qs → k < length qs → AreDisjoint (window_of e) (at_number qs k)
first_apart e es fs [] k h l = absurd (omega arith)
first_apart e es fs (q ∷ qs) zero h l = from_inner q e es fs h.1
first_apart e es fs (q ∷ qs) (suc k) h l =
    first_apart e es (fs ++ q ∷ []) qs k (others_behind (es ++ e ∷ []) q fs qs h.2) (omega arith)

apart_at : (es qs : List Peripheral) (j k : ℕ) → AllApart es qs → j < length qs → k < length qs → j ≢ k → AreDisjoint (at_number qs j) (at_number qs k)
apart_at es [] j k h a b n = absurd (omega arith)
apart_at es (q ∷ qs) zero zero h a b n = absurd (n refl)
apart_at es (q ∷ qs) zero (suc k) h a b n = first_apart q es [] qs k (none_behind (es ++ q ∷ []) qs h.2) (omega arith)
apart_at es (q ∷ qs) (suc j) zero h a b n = turned (window_of q) (at_number qs j) (first_apart q es [] qs j (none_behind (es ++ q ∷ []) qs h.2) (omega arith))
apart_at es (q ∷ qs) (suc j) (suc k) h a b n = apart_at (es ++ q ∷ []) qs j k h.2 (omega arith) (omega arith) (λ e. n (ap suc e))

pub has_windows : (w : PlainFirmware) → IsTyped w → HasWindows (resolve w)
unfolding resolve
has_windows w t =
    let a = all_apart [] w.periphs (parts_pass w t).periphs in
    let n = length-map w.periphs window_of in
    record {
      each = λ q l. each_window [] w.periphs q a (omega arith);
      apart = λ q r l m d. apart_at [] w.periphs q r a (omega arith) (omega arith) d;
    }
