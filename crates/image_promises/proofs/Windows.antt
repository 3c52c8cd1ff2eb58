-- Where addresses of the windows of peripherals lead in the linked image.
use Rattle.std.proofs.Common.{◌≡◌, ℕ, zero, suc, ◌<◌, ◌≤◌, ◌+◌, ◌-◌, ◌%◌, ◌^◌, inl, true, false, List, [], ◌∷◌, length, map, get_or, refl, ap, sym, ◌∙◌, subst, arith}
use Rattle.std.proofs.lemmas.List.{get_or-map, length-map}
use mathlib.Core.Logic.{⊎_elim}
use Rattle.machine_bus.specs.Locations.{InRam, InFlash, InWindow, inside, choose, find_window, location}
use Rattle.ir_model.specs.declared.firmware.Peripheral.{Peripheral}
use Rattle.ir_model.specs.Plain.{PlainFirmware}
use Rattle.ir_model.specs.Resolve as numbers
use Rattle.ir_model.specs.Resolve.{resolve}
use Rattle.ir_model.specs.Resolved.{NumberedWindow, window_at, no_window}
use Rattle.ir_program.specs.Windows.{window_of}
use Rattle.ir_laws.specs.Limits.{HasWindows, WindowsLieApart}
use Rattle.image_model.specs.LinkedImage.{linked}
use Rattle.image_promises.specs.Planned.{planned_image}
use Rattle.image_promises.proofs.PlannedPremises.{PlannedPremises, planned_of}
use Rattle.image_promises.proofs.Facts.{PlanLaws, length_is, needed_most}
use Rattle.image_promises.specs.Parts.{WindowsArePromised}
use Rattle.image_promises.proofs.WindowsOpen.{WindowLaws, windows_are_open}
use Rattle.base_laws.proofs.Multiples.{multiple_of}
use Rattle.base_laws.proofs.Powers.{power_split}
use Rattle.machine_bus.proofs.Ranges.{outside_behind as behind_it, inside_yes as in_it, inside_no}

-- ---- among windows

-- the peripherals over numbers are those of the firmware, as windows
pub periphs_are : (w : PlainFirmware) → (resolve w).periphs ≡ map numbers.window_of w.periphs
unfolding resolve
periphs_are w = refl

abbrev numbered : List Peripheral → (number : ℕ) → NumberedWindow
numbered ps q = get_or (map numbers.window_of ps) q no_window

found_in : (ps : List Peripheral) (k q a : ℕ) → q < length ps → ((r : ℕ) → r < q → inside (numbered ps r).base (numbered ps r).size a ≡ false)
    → inside (numbered ps q).base (numbered ps q).size a ≡ true → find_window (map window_of ps) k a ≡ InWindow (k + q) (a - (numbered ps q).base)
unfolding find_window
found_in [] k q a l before e = absurd (omega arith)
found_in (x ∷ xs) k zero a l before e =
    ap (λ b. choose b (InWindow k (a - x.base)) (find_window (map window_of xs) (suc k) a)) e ∙ ap (λ j. InWindow j (a - x.base)) (let s : k ≡ k + 0 = omega arith in s)
found_in (x ∷ xs) k (suc q) a l before e =
    ap (λ b. choose b (InWindow k (a - x.base)) (find_window (map window_of xs) (suc k) a)) (before 0 (omega arith))
    ∙ (found_in xs (suc k) q a (omega arith) (λ r h. before (suc r) (omega arith)) e
    ∙ ap (λ j. InWindow j (a - (numbered xs q).base)) (let s : suc k + q ≡ k + suc q = omega arith in s))

module _ (law : PlanLaws) (apart : WindowsLieApart) (planned : PlannedPremises) where
  open planned use {firmware as w, needs as n, final as f, board as b, is_planned as is}

  windows : HasWindows (resolve w)
  windows = apart w is.typed

  window_is : (q : ℕ) → window_at (resolve w) q ≡ numbered w.periphs q
  window_is q = ap (λ ps. get_or ps q no_window) (periphs_are w)

  alone : (q r a : ℕ) → q < length (resolve w).periphs → r < q → (window_at (resolve w) q).base ≤ a → a < (window_at (resolve w) q).base + (window_at (resolve w) q).size
      → inside (window_at (resolve w) r).base (window_at (resolve w) r).size a ≡ false
  alone q r a l h from to =
      let one = window_at (resolve w) r in
      ⊎_elim (λ le. inside_no one.base one.size a (inl (omega (arith, le, from, to)))) (λ le. behind_it one.base one.size a (omega (arith, le, from, to)))
      (windows.apart q r l (omega arith) (λ e. omega (arith, e, h)))

  leads : (q at : ℕ) → q < length (resolve w).periphs → at < (window_at (resolve w) q).size → location (planned_image w n f b) ((window_at (resolve w) q).base + at) ≡ InWindow q at
  unfolding location linked
  leads q at l m =
      let i = windows.each q l in
      let from = i.place.0 in
      let base : ℕ = (window_at (resolve w) q).base in
      let a : ℕ = base + at in
      let high = is.board.ram_highest in
      let most = is.board.ram_size.most in
      let top = is.board.flash_highest in
      let size = length_is law planned in
      let needed = needed_most law planned in
      let image = planned_image w n f b in
      let count = ap length (periphs_are w) in
      let same = length-map w.periphs numbers.window_of in
      let e = window_is q in
      let at_base : a - (numbered w.periphs q).base ≡ at = ap (λ (x : NumberedWindow). a - x.base) (sym e) ∙ (let s : base + at - base ≡ at = omega arith in s) in
      ap (λ c. choose c (InRam (a - b.ram_base)) (choose (inside image.flash_base (length image.flash) a) (InFlash (a - image.flash_base)) (find_window image.windows 0 a))) (behind_it b.ram_base b.ram_size a (omega (arith, from, high, most)))
      ∙ (ap (λ c. choose c (InFlash (a - image.flash_base)) (find_window image.windows 0 a)) (behind_it image.flash_base (length image.flash) a (omega (arith, from, top, size, needed)))
      ∙ (found_in w.periphs 0 q a (omega (arith, l, count, same))
      (λ r h. subst (λ (x : NumberedWindow). inside x.base x.size a ≡ false) (window_is r) (alone q r a l h (omega arith) (omega (arith, m))))
      (subst (λ (x : NumberedWindow). inside x.base x.size a ≡ true) e (in_it base (window_at (resolve w) q).size a (omega arith) (omega (arith, m))))
      ∙ (ap (λ k. InWindow k (a - (numbered w.periphs q).base)) (let s : 0 + q ≡ q = omega arith in s) ∙ ap (λ j. InWindow q j) at_base)))

  bases : (q : ℕ) → q < length (resolve w).periphs → get_or (map (λ (x : NumberedWindow). x.base) (resolve w).periphs) q 0 ≡ (window_at (resolve w) q).base
  bases q l = get_or-map (λ (x : NumberedWindow). x.base) (resolve w).periphs q no_window 0 l

  aligned : (q : ℕ) → q < length (resolve w).periphs → get_or (map (λ (x : NumberedWindow). x.base) (resolve w).periphs) q 0 % 4 ≡ 0
  aligned q l =
      let i = windows.each q l in
      ap (λ x. x % 4) (bases q l) ∙ multiple_of (window_at (resolve w) q).base 4 (2 ^ (i.power.0 - 2)) (2 ^ i.power.0) (power_split 2 i.power.0 (let five : 5 ≤ i.power.0 = i.power.1 in omega (arith, five))) (subst (λ s. (window_at (resolve w) q).base % s ≡ 0) i.power.3 i.aligned)

pub windows_are_promised : PlanLaws → WindowLaws → WindowsArePromised
unfolding linked
windows_are_promised plans law code w n f b is =
    let reach = windows_are_open law code w n f b is in
    record {
      bases = bases plans law.apart (planned_of is);
      aligned = aligned plans law.apart (planned_of is);
      leads = leads plans law.apart (planned_of is);
      loads = reach.loads;
      stores = reach.stores;
    }
