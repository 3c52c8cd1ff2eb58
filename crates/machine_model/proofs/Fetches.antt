-- Code lies below the peripherals, and what is fetched is halfwords.
use Rattle.std.proofs.Common.{◌≡◌, ℕ, suc, ◌+◌, ◌-◌, ◌%◌, ◌^◌, ◌<◌, ◌≤◌, Bool, true, false, not, List, [], ◌∷◌, length, Option, Some, None, nat_lt, refl, arith}
use Rattle.std.specs.Option.{IfSome}
use Rattle.std.proofs.lemmas.Bool.Decides.{nat_tests}
use Rattle.std.proofs.lemmas.Bool.{and_parts}
use Rattle.base_words.proofs.Bytes.{read_fits}
use Rattle.machine_devices.specs.declared.image.Image.{Image}
use Rattle.machine_devices.specs.declared.image.Window.{Window}
use Rattle.machine_devices.specs.Rules.{ObeysRules}
use Rattle.machine_bus.specs.Locations.{Location, InRam, InFlash, InWindow, Nowhere, location, choose, inside, find_window}
use Rattle.machine_bus.specs.Bus.{fetch_at}
use Rattle.machine_model.specs.State.{State, PermissionTest}
use Rattle.machine_model.specs.declared.answers.Fetched.{Fetched}
use Rattle.machine_model.specs.declared.answers.Fetched.TheVariants.{Took, NotAllowed, NotMapped}
use Rattle.machine_model.specs.Step.{fetch, first_half, second_half, by_size}

-- ---- places

inside_below : (base size a : ℕ) → inside base size a ≡ true → a < base + size
inside_below base size a e =
    let t = (and_parts (not (nat_lt a base)) (nat_lt a (base + size)) e).1 in
    grind (arith, nat_tests)

-- ---- what is fetched

abbrev HalfFits : (pc : ℕ) → Option ℕ → Type 0
HalfFits pc None = Unit {0}
HalfFits pc (Some h) = (h < 2 ^ 16) × (pc < 2 ^ 31)

abbrev pub FetchedFits : (pc : ℕ) → Fetched → Type 0
FetchedFits pc (Took h k n) = (h < 2 ^ 16) × (k < 2 ^ 16) × (pc < 2 ^ 31) × (n ≤ 4) × (n % 2 ≡ 0)
FetchedFits pc NotAllowed = Unit {0}
FetchedFits pc NotMapped = Unit {0}

second_fits : (al : Bool) (o : Option ℕ) (h pc q : ℕ) → h < 2 ^ 16 → pc < 2 ^ 31 → HalfFits q o → FetchedFits pc (second_half al o h)
second_fits false o h pc q a b f = tt
second_fits true None h pc q a b f = tt
second_fits true (Some k) h pc q a b f = (a, f.0, b, omega arith, refl)

by_size_fits : (b al : Bool) (o : Option ℕ) (h pc q : ℕ) → h < 2 ^ 16 → pc < 2 ^ 31 → HalfFits q o → FetchedFits pc (by_size b al o h)
by_size_fits true al o h pc q a b f = (a, omega arith, b, omega arith, refl)
by_size_fits false al o h pc q a b f = second_fits al o h pc q a b f

first_fits : (al : Bool) (o : Option ℕ) (al2 : Bool) (o2 : Option ℕ) (pc q : ℕ) → HalfFits pc o → HalfFits q o2 → FetchedFits pc (first_half al o al2 o2)
first_fits false o al2 o2 pc q f g = tt
first_fits true None al2 o2 pc q f g = tt
first_fits true (Some h) al2 o2 pc q f g = by_size_fits (nat_lt h 0xE800) al2 o2 h pc q f.0 f.1 g

abbrev PlaceFits : (pc : ℕ) → Location → Type 0
PlaceFits pc (InRam o) = pc < 2 ^ 31
PlaceFits pc (InFlash o) = pc < 2 ^ 31
PlaceFits pc (InWindow k o) = Unit {0}
PlaceFits pc Nowhere = Unit {0}

fetch_at_fits : (p : Location) (i : Image) (pc : ℕ) (ram : List ℕ) → PlaceFits pc p → HalfFits pc (fetch_at p i ram)
fetch_at_fits (InRam o) i pc ram f = let h = read_fits 2 o ram in (h, f)
fetch_at_fits (InFlash o) i pc ram f = let h = read_fits 2 o i.flash in (h, f)
fetch_at_fits (InWindow k o) i pc ram f = tt
fetch_at_fits Nowhere i pc ram f = tt

choose_place : (b : Bool) (x y : Location) (pc : ℕ) → (b ≡ true → PlaceFits pc x) → PlaceFits pc y → PlaceFits pc (choose b x y)
choose_place true x y pc f g = f refl
choose_place false x y pc f g = g

window_place : (ws : List Window) (k pc : ℕ) → PlaceFits pc (find_window ws k pc)
unfolding find_window
window_place [] k pc = tt
window_place (w ∷ ws) k pc = choose_place (inside w.base w.size pc) (InWindow k (pc - w.base)) (find_window ws (suc k) pc) pc (λ e. tt) (window_place ws (suc k) pc)

place_fits : (i : Image) (pc : ℕ) → ObeysRules i → PlaceFits pc (location i pc)
unfolding location
place_fits i pc r =
    choose_place (inside i.ram_base i.ram_size pc) (InRam (pc - i.ram_base)) _ pc
    (λ e. omega (arith, inside_below i.ram_base i.ram_size pc e, r.ram_highest, r.ram_most))
    (choose_place (inside i.flash_base (length i.flash) pc) (InFlash (pc - i.flash_base)) _ pc
    (λ e. omega (arith, inside_below i.flash_base (length i.flash) pc e, r.flash_highest, r.flash_most))
    (window_place i.windows 0 pc))

pub fetch_fits : (i : Image) (j : PermissionTest) (s : State) → ObeysRules i → FetchedFits s.core.pc (fetch j i s)
unfolding fetch
fetch_fits i j s r =
    first_fits _ _ _ _ s.core.pc (s.core.pc + 2) (fetch_at_fits (location i s.core.pc) i s.core.pc s.ram (place_fits i s.core.pc r))
    (fetch_at_fits (location i (s.core.pc + 2)) i (s.core.pc + 2) s.ram (place_fits i (s.core.pc + 2) r))

at_place : (p : Location) (i : Image) (a : ℕ) (ram : List ℕ) → PlaceFits a p → IfSome (fetch_at p i ram) (λ h. a < 2 ^ 31)
at_place (InRam o) i a ram f = f
at_place (InFlash o) i a ram f = f
at_place (InWindow k o) i a ram f = tt
at_place Nowhere i a ram f = tt

pub fetched_low : (i : Image) (a : ℕ) (ram : List ℕ) (o : Option ℕ) → ObeysRules i → o ≡ fetch_at (location i a) i ram → IfSome o (λ h. a < 2 ^ 31)
fetched_low i a ram o r e = rw e (at_place (location i a) i a ram (place_fits i a r))
