-- Where a window's location lies, and which regions unprivileged code reads there.
use Rattle.std.proofs.Common.{◌≡◌, ℕ, zero, suc, ◌+◌, ◌-◌, ◌/◌, ◌%◌, ◌^◌, ◌<◌, ◌≤◌, inl, inr, Bool, true, false, List, [], ◌∷◌, length, nat_eq, Some, slice_get, refl, ap, ap₂, ◌∙◌, subst, arith}
use Rattle.std.specs.Int.{IsPowerOfTwo}
use Rattle.machine_protection.specs.declared.region.Region.{Region}
use Rattle.machine_protection.specs.declared.region.Access.{Access}
use Rattle.machine_protection.specs.declared.words.Rights.TheVariants.{Background, Code, Stack}
use Rattle.machine_protection.specs.Regions.{holds}
use Rattle.machine_protection.specs.Protection.{permits, is_on}
use Rattle.machine_protection.specs.RegionWords.{region_of}
use Rattle.machine_protection.specs.Laws.{RegionsHoldTheirBlocks}
use Rattle.machine_protection.specs.Configured.{IsLast, KeptListsPermit, closed_from}
use Rattle.machine_protection.proofs.Configured.{closed_byte}
use Rattle.machine_devices.specs.declared.image.Image.{Image}
use Rattle.machine_devices.specs.declared.image.Window.{Window}
use Rattle.machine_devices.specs.Rules.{ObeysRules, AreWindows}
use Rattle.machine_bus.specs.Locations.{Location, InRam, InFlash, InWindow, inside, choose, find_window, location}
use Rattle.machine_bus.proofs.Ranges.{inside_true}
use Rattle.machine_model.specs.State.{State}
use Rattle.machine_model.specs.Confinement.{AnyOf}
use Rattle.base_laws.proofs.Lists.{each_at}
use Rattle.monitor_model.specs.declared.tables.CompRecord.{CompRecord}
use Rattle.monitor_model.specs.declared.tables.Tables.{Tables}
use Rattle.monitor_model.specs.Records.{compartment_at, nobody, eighth}
use Rattle.monitor_model.specs.Layout.{tables_size}
use Rattle.monitor_model.specs.Regions.{background, tables_region, stack_region}
use Rattle.monitor_model.specs.Placed.{Placed, IsCompartment, InFlashOf}
use Rattle.monitor_model.specs.Block.{MonitorBlock}
use Rattle.monitor_model.specs.BlockWords.{current, top}
use Rattle.monitor_model.specs.Reach.{running}
use Rattle.monitor_model.specs.Invariant.{InvariantHolds}
use Rattle.monitor_model.proofs.Multiples.{divides}
use Rattle.monitor_confined.proofs.Reaches.{current_word, regions_word}
use Rattle.monitor_runs.proofs.Changed.{stack_some}

-- ---- windows

-- the window of this number holds the address, so many bytes behind its base
pub record IsInWindow (ws : List Window) (number offset a : ℕ) : Type 0 where
  pub window : Window
  pub is_window : slice_get ws number ≡ Some window
  pub is_at : window.base + offset ≡ a
  pub inside : offset < window.size

window_of : (ws : List Window) (k number offset a : ℕ) → find_window ws k a ≡ InWindow number offset → (j : ℕ) × (number ≡ k + j) × IsInWindow ws j offset a
unfolding find_window
window_of [] k number offset a e = cc
window_of (w ∷ ws) k number offset a e = by (inside w.base w.size a) refl (λ h. window_of ws (suc k) number offset a h) e
  where
    by : (b : Bool) → inside w.base w.size a ≡ b → (find_window ws (suc k) a ≡ InWindow number offset → (j : ℕ) × (number ≡ suc k + j) × IsInWindow ws j offset a)
        → choose b (InWindow k (a - w.base)) (find_window ws (suc k) a) ≡ InWindow number offset → (j : ℕ) × (number ≡ k + j) × IsInWindow (w ∷ ws) j offset a
    by true t ih e =
        let n : k ≡ number = cc in
        let o : a - w.base ≡ offset = cc in
        let i = inside_true w.base w.size a t in
        let lo = i.0 in
        let hi = i.1 in
        (0, omega (arith, n), record { window = w; is_window = refl; is_at = omega (arith, lo, o); inside = omega (arith, lo, hi, o) })
    by false t ih e =
        let z = ih e in
        let n = z.1 in
        (suc z.0, omega (arith, n), record { window = z.2.window; is_window = z.2.is_window; is_at = z.2.is_at; inside = z.2.inside })

outside_memory : (ram flash : Bool) (p q number offset : ℕ) (l : Location) → choose ram (InRam p) (choose flash (InFlash q) l) ≡ InWindow number offset → l ≡ InWindow number offset
outside_memory true f p q n o l e = cc
outside_memory false true p q n o l e = cc
outside_memory false false p q n o l e = e

pub window_at : (i : Image) (a number offset : ℕ) → location i a ≡ InWindow number offset → IsInWindow i.windows number offset a
unfolding location
window_at i a number offset e =
    let z = window_of i.windows 0 number offset a (outside_memory (inside i.ram_base i.ram_size a) (inside i.flash_base (length i.flash) a) _ _ number offset _ e) in
    let n = z.1 in
    let same : z.0 ≡ number = omega (arith, n) in
    subst (λ (k : ℕ). IsInWindow i.windows k offset a) same z.2

window_high : (ws : List Window) → AreWindows ws → (k : ℕ) (w : Window) → slice_get ws k ≡ Some w → 0x40000000 ≤ w.base
window_high [] h k w e = cc
window_high (x ∷ xs) h zero w e = let z : x ≡ w = cc in subst (λ (y : Window). 0x40000000 ≤ y.base) z h.0.range.place.0
window_high (x ∷ xs) h (suc k) w e = window_high xs h.2 k w e

-- it lies in the peripherals' part of the memory map
pub high : (i : Image) → ObeysRules i → (a number offset : ℕ) → location i a ≡ InWindow number offset → 0x40000000 ≤ a
high i r a number offset e =
    let z = window_at i a number offset e in
    let h = window_high i.windows r.windows number z.window z.is_window in
    let y = z.is_at in
    omega (arith, h, y)

-- ---- which regions hold an address there

some_holds : (gs : List Region) (a : ℕ) (x : Region) → IsLast gs a x → AnyOf (λ (g : Region). holds g a ≡ true) gs
some_holds [] a x l = absurd l
some_holds (g ∷ gs) a x (inl l) = inr (some_holds gs a x l)
some_holds (g ∷ gs) a x (inr l) = inl l.1

module _ (permit : KeptListsPermit) (held : RegionsHoldTheirBlocks) (i : Image) (t : Tables) (p : Placed i t) (a : ℕ) (is_high : 0x40000000 ≤ a) where
  flash_low : InFlashOf i a → ⊥
  flash_low f = let x = f.1 in let y = p.rules.flash_highest in let z = p.rules.flash_most in omega (arith, x, y, z, is_high)

  background_low : (b : Bool) → holds (choose b (region_of 0 i.flash_base 0x100000 0 Background) (region_of 0 0 0x40000000 0 Background)) a ≡ true → ⊥
  background_low true h =
      let r = (held 0 i.flash_base 0x100000 0 Background (omega arith) (20, refl) (omega arith) (omega arith) p.rules.flash_aligned (omega arith) a).0 h in
      let x = r.below_end in
      let y = p.rules.flash_highest in
      omega (arith, x, y, is_high)
  background_low false h =
      let r = (held 0 0 0x40000000 0 Background (omega arith) (30, refl) (omega arith) (omega arith) refl (omega arith) a).0 h in
      let x = r.below_end in
      omega (arith, x, is_high)

  tables_low : holds (tables_region t) a ≡ true → ⊥
  tables_low h =
      let z = p.tables_inside in
      let m = p.rules.flash_most in
      let most : tables_size t < 2 ^ 32 = omega (arith, z, m) in
      let small : tables_size t ≤ 2 ^ 20 = omega (arith, z, m) in
      let aligned : t.base % tables_size t ≡ 0 = divides t.base (tables_size t) p.tables_power small (ap (λ b. b % 2 ^ 20) p.tables_first ∙ p.rules.flash_aligned) in
      let r = (held 1 t.base (tables_size t) 0 Code (omega arith) p.tables_power p.tables_least most aligned (omega arith) a).0 h in
      let x = r.below_end in
      let e = p.tables_first in
      let y = p.rules.flash_highest in
      omega (arith, x, e, y, z, m, is_high)

  stack_low : (k : ℕ) → holds (region_of 3 t.stack.base t.stack.size (closed_from k) Stack) a ≡ true → ⊥
  stack_low k h =
      let z = stack_some i t p in
      let power : IsPowerOfTwo t.stack.size = (p.stack.size.0, p.stack_size ∙ p.stack.size.3) in
      let aligned : t.stack.base % t.stack.size ≡ 0 = ap₂ (λ (b z : ℕ). b % z) p.stack_base p.stack_size ∙ p.stack.aligned in
      let least = z.0 in
      let r = (held 3 t.stack.base t.stack.size (closed_from k) Stack (omega arith) power (omega (arith, least)) z.1 aligned (closed_byte k) a).0 h in
      let x = r.below_end in
      let y = p.stack.place.1 in
      let b = p.stack_base in
      let c = p.stack_size in
      let u = p.rules.ram_highest in
      let v = p.rules.ram_most in
      omega (arith, x, y, b, c, u, v, is_high)

  module _ (m : MonitorBlock) (s : State) (h : InvariantHolds i t m s) where
    abbrev here : CompRecord
    here = compartment_at t (current i t s.ram)

    placed : IsCompartment i t here
    placed = each_at (IsCompartment i t) t.comps nobody (current i t s.ram) p.comps (current_word i t m s h)

    -- what it reads there, whatever the kind of board, some slot holds
    pub read_by_slot : (kind : Access) → permits s.protection.mpu true kind a ≡ true → AnyOf (λ (g : Region). holds g a ≡ true) (running i t s).slots
    read_by_slot kind e =
        let gs : List Region = background i ∷ tables_region t ∷ here.code ∷ stack_region t (top i t s.ram) ∷ here.slots in
        let on : is_on s.protection.mpu ≡ true = ap (λ (n : ℕ). nat_eq (n % 2) 1) h.inv.control in
        let z = (permit gs s.protection.mpu kind a on (regions_word i t m s h)).0 e in
        by (some_holds gs a z.0 z.1)
      where
        by : AnyOf (λ (g : Region). holds g a ≡ true) (background i ∷ tables_region t ∷ here.code ∷ stack_region t (top i t s.ram) ∷ here.slots) → AnyOf (λ (g : Region). holds g a ≡ true) (running i t s).slots
        by (inl o) = absurd (background_low i.closed o)
        by (inr (inl o)) = absurd (tables_low o)
        by (inr (inr (inl o))) = absurd (flash_low (placed.code.in_flash a o))
        by (inr (inr (inr (inl o)))) = absurd (stack_low ((top i t s.ram - t.stack.base) / eighth t) o)
        by (inr (inr (inr (inr o)))) = o
