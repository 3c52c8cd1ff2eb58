-- Which addresses the regions of the invariant leave to unprivileged code.
use Rattle.std.proofs.Common.{◌≡◌, ℕ, ◌+◌, ◌-◌, ◌*◌, ◌/◌, ◌%◌, ◌^◌, ◌<◌, ◌≤◌, ◌⊎◌, inl, inr, Bool, true, false, List, [], ◌∷◌, length, map, nat_eq, refl, sym, ap, ap₂, ◌∙◌, subst, arith, mul-div_cancel}
use Rattle.std.specs.Int.{IsPowerOfTwo}
use Rattle.std.proofs.lemmas.Bool.{false≢true}
use Rattle.std.proofs.lemmas.Bool.Decides.{nat_tests}
use Rattle.std.proofs.lemmas.Nat.{pow_below}
use Rattle.machine_protection.specs.declared.region.Region.{Region}
use Rattle.machine_protection.specs.declared.region.Access.{Access}
use Rattle.machine_protection.specs.declared.region.Access.TheVariants.{Read, Write, Fetch}
use Rattle.machine_protection.specs.declared.words.Rights.{Rights}
use Rattle.machine_protection.specs.declared.words.Rights.TheVariants.{Background, Code, Stack}
use Rattle.machine_protection.specs.Regions.{holds, allows, permission}
use Rattle.machine_protection.specs.Registers.{Registers}
use Rattle.machine_protection.specs.Protection.{permits, is_on}
use Rattle.machine_protection.specs.RegionWords.{region_of, may}
use Rattle.machine_protection.specs.Laws.{kept_region, RegionsHoldTheirBlocks, RegionsGiveTheirRights}
use Rattle.machine_protection.specs.Configured.{IsLast, KeptListsPermit, closed_from, OpenEighthsAreHeld}
use Rattle.machine_devices.specs.declared.image.Image.{Image}
use Rattle.machine_bus.specs.Locations.{choose}
use Rattle.machine_model.specs.State.{State}
use Rattle.machine_model.specs.Confinement.{AnyOf}
use Rattle.base_laws.specs.Lists.{Each}
use Rattle.monitor_model.specs.declared.tables.CompRecord.{CompRecord}
use Rattle.monitor_model.specs.declared.tables.Tables.{Tables}
use Rattle.monitor_model.specs.Records.{compartment_at, nobody, eighth}
use Rattle.monitor_model.specs.Layout.{tables_size}
use Rattle.monitor_model.specs.Regions.{background, tables_region, stack_region, regions_for}
use Rattle.monitor_model.specs.Placed.{Placed, IsCompartment, IsSlot, InFlashOf}
use Rattle.monitor_model.specs.Block.{MonitorBlock}
use Rattle.monitor_model.specs.BlockWords.{current, top}
use Rattle.monitor_model.specs.Invariant.{IsTop, InvariantHolds}
use Rattle.monitor_confined.specs.Reaches.{ThreadsReach}
use Rattle.base_laws.proofs.Lists.{each_at}
use Rattle.monitor_model.proofs.Multiples.{divides}
use Rattle.machine_protection.proofs.Configured.{closed_byte}

-- the laws of the protection unit
pub record UnitLaws : Type 0 where
  pub permit : KeptListsPermit
  pub opened : OpenEighthsAreHeld
  pub rights : RegionsGiveTheirRights
  pub held : RegionsHoldTheirBlocks

-- ---- a region that holds an address and allows the access

abbrev Opens : Access → ℕ → Region → Type 0
Opens kind a g = (holds g a ≡ true) × (allows g true kind ≡ true)

last_opens : (gs : List Region) (kind : Access) (a : ℕ) (x : Region) → IsLast gs a x → allows x true kind ≡ true → AnyOf (Opens kind a) gs
last_opens [] kind a x l e = absurd l
last_opens (g ∷ gs) kind a x (inl l) e = inr (last_opens gs kind a x l e)
last_opens (g ∷ gs) kind a x (inr l) e = inl (l.1, sym (ap (λ (r : Region). allows r true kind) l.0) ∙ e)

-- of these regions
module _ (laws : UnitLaws) where
  some_opens : (gs : List Region) (m : Registers) (kind : Access) (a : ℕ) → m.control ≡ 5 → m.regions ≡ map kept_region gs → permits m true kind a ≡ true → AnyOf (Opens kind a) gs
  some_opens gs m kind a c r e =
      let on : is_on m ≡ true = ap (λ (n : ℕ). nat_eq (n % 2) 1) c in
      let z = (laws.permit gs m kind a on r).0 e in
      last_opens gs kind a z.0 z.1 z.2

  -- ---- what the forms of regions do not allow

  not_by_rights : (r : Rights) (slot base size srd : ℕ) (kind : Access) → srd < 2 ^ 8 → may r true kind ≡ false → allows (region_of slot base size srd r) true kind ≡ true → ⊥
  not_by_rights r slot base size srd kind byte c e = false≢true (sym c ∙ sym (laws.rights slot base size srd r byte true kind) ∙ e)

  not_background : (b : Bool) (n : ℕ) (kind : Access) → may Background true kind ≡ false →
      allows (choose b (region_of 0 n 0x100000 0 Background) (region_of 0 0 0x40000000 0 Background)) true kind ≡ true → ⊥
  not_background true n kind c e = not_by_rights Background 0 n 0x100000 0 kind (omega arith) c e
  not_background false n kind c e = not_by_rights Background 0 0 0x40000000 0 kind (omega arith) c e

writes_at : (g : Region) → allows g true Write ≡ true → permission g ≡ 3
writes_at g e = search (nat_tests, arith)

-- ---- lists

written_slots : (gs : List Region) (a : ℕ) → AnyOf (Opens Write a) gs → AnyOf (λ (g : Region). (holds g a ≡ true) × (permission g ≡ 3)) gs
written_slots [] a f = f
written_slots (g ∷ gs) a (inl f) = inl (f.0, writes_at g f.1)
written_slots (g ∷ gs) a (inr f) = inr (written_slots gs a f)

held_slots : (gs : List Region) (kind : Access) (a : ℕ) → AnyOf (Opens kind a) gs → AnyOf (λ (g : Region). holds g a ≡ true) gs
held_slots [] kind a f = f
held_slots (g ∷ gs) kind a (inl f) = inl f.0
held_slots (g ∷ gs) kind a (inr f) = inr (held_slots gs kind a f)

no_slot_code : (i : Image) (t : Tables) (gs : List Region) (a : ℕ) → Each (IsSlot i t) gs → AnyOf (Opens Fetch a) gs → ⊥
no_slot_code i t [] a h f = f
no_slot_code i t (g ∷ gs) a h (inl f) = false≢true (sym (h.0 a f.0).no_code ∙ f.1)
no_slot_code i t (g ∷ gs) a h (inr f) = no_slot_code i t gs a h.1 f

-- the stack's size is some power of two
stack_eighth : (k : ℕ) → 9 ≤ k → k ≤ 16 → (2 ^ 8 ≤ 2 ^ k) × (2 ^ k < 2 ^ 32) × (0 < 2 ^ k / 8)
stack_eighth k lo hi =
    let more = pow_below 8 k (omega (arith, lo)) in
    let less = pow_below k 17 (omega (arith, hi)) in
    (omega (arith, more), omega (arith, less), omega (arith, more))

-- ---- the regions of placed tables

module _ (laws : UnitLaws) (i : Image) (t : Tables) (p : Placed i t) where
  pub stack_some : (2 ^ 8 ≤ t.stack.size) × (t.stack.size < 2 ^ 32) × (0 < eighth t)
  stack_some =
      let k = p.stack.size in
      subst (λ (z : ℕ). (2 ^ 8 ≤ z) × (z < 2 ^ 32) × (0 < z / 8)) (sym (p.stack_size ∙ k.3)) (stack_eighth k.0 k.1 k.2)

  stack_held : (top a n : ℕ) → IsTop t n top → holds (stack_region t top) a ≡ true → (t.stack.base ≤ a) × (a < top)
  stack_held top a n is h =
      let k : ℕ = is.0 in
      let z = stack_some in
      let above : top - t.stack.base ≡ k * eighth t = (let e = is.1 in omega (arith, e)) in
      let q : (top - t.stack.base) / eighth t ≡ k = ap (λ (m : ℕ). m / eighth t) above ∙ mul-div_cancel k z.2 in
      let few : k ≤ 8 = (let e = is.3 in omega (arith, e)) in
      let power : IsPowerOfTwo t.stack.size = (p.stack.size.0, p.stack_size ∙ p.stack.size.3) in
      let aligned : t.stack.base % t.stack.size ≡ 0 = ap₂ (λ (b z : ℕ). b % z) p.stack_base p.stack_size ∙ p.stack.aligned in
      let h' : holds (region_of 3 t.stack.base t.stack.size (closed_from k) Stack) a ≡ true = subst (λ (m : ℕ). holds (region_of 3 t.stack.base t.stack.size (closed_from m) Stack) a ≡ true) q h in
      let r = (laws.opened 3 t.stack.base t.stack.size k Stack (omega arith) power z.0 z.1 aligned few a).0 h' in
      (r.0, subst (λ (e : ℕ). a < e) (sym is.1) r.1)

  tables_held : (a : ℕ) → holds (tables_region t) a ≡ true → InFlashOf i a
  tables_held a h =
      let z = p.tables_inside in
      let m = p.rules.flash_most in
      let most : tables_size t < 2 ^ 32 = omega (arith, z, m) in
      let small : tables_size t ≤ 2 ^ 20 = omega (arith, z, m) in
      let aligned : t.base % tables_size t ≡ 0 = divides t.base (tables_size t) p.tables_power small (ap (λ b. b % 2 ^ 20) p.tables_first ∙ p.rules.flash_aligned) in
      let r = (laws.held 1 t.base (tables_size t) 0 Code (omega arith) p.tables_power p.tables_least most aligned (omega arith) a).0 h in
      let e = p.tables_first in
      let lo = r.from_base in
      let hi = r.below_end in
      (omega (arith, e, lo), omega (arith, e, hi, z))

  background_held : (b : Bool) → b ≡ true → (a : ℕ) → holds (choose b (region_of 0 i.flash_base 0x100000 0 Background) (region_of 0 0 0x40000000 0 Background)) a ≡ true →
      (i.flash_base ≤ a) × (a < i.flash_base + 0x100000)
  background_held true c a h =
      let r = (laws.held 0 i.flash_base 0x100000 0 Background (omega arith) (20, refl) (omega arith) (omega arith) p.rules.flash_aligned (omega arith) a).0 h in
      (r.from_base, r.below_end)
  background_held false c a h = absurd (false≢true c)

  module _ (c top n : ℕ) (is_top : IsTop t n top) (inside : c < length t.comps) (m : Registers) (control : m.control ≡ 5) (regions : m.regions ≡ regions_for i t c top) where
    abbrev here : CompRecord
    here = compartment_at t c

    placed : IsCompartment i t here
    placed = each_at (IsCompartment i t) t.comps nobody c p.comps inside

    one_opens : (kind : Access) (a : ℕ) → permits m true kind a ≡ true →
        AnyOf (Opens kind a) (background i ∷ tables_region t ∷ here.code ∷ stack_region t top ∷ here.slots)
    one_opens kind a e = some_opens laws (background i ∷ tables_region t ∷ here.code ∷ stack_region t top ∷ here.slots) m kind a control regions e

    pub writes : (a : ℕ) → permits m true Write a ≡ true →
        AnyOf (λ (g : Region). (holds g a ≡ true) × (permission g ≡ 3)) here.slots ⊎ ((t.stack.base ≤ a) × (a < top))
    writes a e = elim (one_opens Write a e) [
      | inl o ↦ absurd (not_background laws i.closed i.flash_base Write refl o.1)
      | inr (inl o) ↦ absurd (not_by_rights laws Code 1 t.base (tables_size t) 0 Write (omega arith) refl o.1)
      | inr (inr (inl o)) ↦ absurd (false≢true (sym placed.code.read_only ∙ o.1))
      | inr (inr (inr (inl o))) ↦ inr (stack_held top a n is_top o.0)
      | inr (inr (inr (inr o))) ↦ inl (written_slots here.slots a o)
    ]

    flash_mebibyte : (a : ℕ) → InFlashOf i a → (i.flash_base ≤ a) × (a < i.flash_base + 0x100000)
    flash_mebibyte a f = let lo = f.0 in let hi = f.1 in let most = p.rules.flash_most in (lo, omega (arith, hi, most))

    pub reads : i.closed ≡ true → (a : ℕ) → permits m true Read a ≡ true →
        AnyOf (λ (g : Region). holds g a ≡ true) here.slots
        ⊎ (((t.stack.base ≤ a) × (a < top)) ⊎ ((i.flash_base ≤ a) × (a < i.flash_base + 0x100000)))
    reads closed a e = elim (one_opens Read a e) [
      | inl o ↦ inr (inr (background_held i.closed closed a o.0))
      | inr (inl o) ↦ inr (inr (flash_mebibyte a (tables_held a o.0)))
      | inr (inr (inl o)) ↦ inr (inr (flash_mebibyte a (placed.code.in_flash a o.0)))
      | inr (inr (inr (inl o))) ↦ inr (inl (stack_held top a n is_top o.0))
      | inr (inr (inr (inr o))) ↦ inl (held_slots here.slots Read a o)
    ]

    pub runs : (a : ℕ) → permits m true Fetch a ≡ true → InFlashOf i a
    runs a e = elim (one_opens Fetch a e) [
      | inl o ↦ absurd (not_background laws i.closed i.flash_base Fetch refl o.1)
      | inr (inl o) ↦ tables_held a o.0
      | inr (inr (inl o)) ↦ placed.code.in_flash a o.0
      | inr (inr (inr (inl o))) ↦ absurd (not_by_rights laws Stack 3 t.stack.base t.stack.size (closed_from ((top - t.stack.base) / eighth t)) Fetch (closed_byte ((top - t.stack.base) / eighth t)) refl o.1)
      | inr (inr (inr (inr o))) ↦ absurd (no_slot_code i t here.slots a placed.slots o)
    ]

-- ---- of the invariant

module _ (i : Image) (t : Tables) (m : MonitorBlock) (s : State) (h : InvariantHolds i t m s) where
  pub top_word : IsTop t (length m.saved) (top i t s.ram)
  top_word = subst (λ (a : ℕ). IsTop t (length m.saved) a) (sym h.inv.is_block.top_is) h.inv.orderly.is_top

  -- no compartment's stack begins behind the stack
  pub open_inside : (a : ℕ) → a < top i t s.ram → a < t.stack.base + t.stack.size
  open_inside a lt =
      let z = top_word in
      let few : z.0 ≤ 8 = (let x = z.3 in omega (arith, x)) in
      let most : z.0 * eighth t ≤ 8 * eighth t = grind (arith, few) in
      let b = z.1 in
      omega (arith, lt, most, b)

  pub current_word : current i t s.ram < length t.comps
  current_word = subst (λ (c : ℕ). c < length t.comps) (sym h.inv.is_block.current_is) h.inv.orderly.current_in

  pub regions_word : s.protection.mpu.regions ≡ regions_for i t (current i t s.ram) (top i t s.ram)
  regions_word = h.inv.regions ∙ ap₂ (λ a b. regions_for i t a b) (sym h.inv.is_block.current_is) (sym h.inv.is_block.top_is)

pub threads_reach : UnitLaws → ThreadsReach
threads_reach laws i t m s p h =
    let c : ℕ = current i t s.ram in
    let e : ℕ = top i t s.ram in
    let n : ℕ = length m.saved in
    let is_top = top_word i t m s h in
    let inside = current_word i t m s h in
    let regions = regions_word i t m s h in
    record {
      stores = writes laws i t p c e n is_top inside s.protection.mpu h.inv.control regions;
      loads = reads laws i t p c e n is_top inside s.protection.mpu h.inv.control regions;
      fetches = runs laws i t p c e n is_top inside s.protection.mpu h.inv.control regions;
    }
