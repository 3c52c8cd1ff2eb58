-- What the regions of the invariant permit to the running compartment.
use Rattle.std.proofs.Common.{◌≡◌, ℕ, ◌+◌, ◌-◌, ◌*◌, ◌/◌, ◌%◌, ◌^◌, ◌<◌, ◌≤◌, ◌⊎◌, inl, inr, ⊎_elim, Bool, true, false, not, ◌&&◌, ◌||◌, List, [], ◌∷◌, length, Option, Some, None, nat_eq, refl, sym, ap, ap₂, ◌∙◌, subst, arith, mul-div_cancel}
use Rattle.std.specs.Int.{IsPowerOfTwo}
use Rattle.std.specs.List.{list_any}
use Rattle.std.proofs.lemmas.Bool.{false≢true, not-true, or_cases as either}
use Rattle.std.proofs.lemmas.Nat.Bits.{bit_at-zero}
use Rattle.machine_protection.specs.declared.region.Region.{Region}
use Rattle.machine_protection.specs.declared.region.Access.{Access}
use Rattle.machine_protection.specs.declared.region.Access.TheVariants.{Read, Write, Fetch}
use Rattle.machine_protection.specs.declared.words.Rights.TheVariants.{Background, Code, Stack}
use Rattle.machine_protection.specs.Regions.{holds, allows}
use Rattle.machine_protection.specs.RegionWords.{region_of, may}
use Rattle.machine_protection.specs.Protection.{permits, is_on, deciding, or_this}
use Rattle.machine_protection.specs.Configured.{NoneOf, IsLast, closed_from}
use Rattle.machine_devices.specs.declared.image.Image.{Image}
use Rattle.machine_bus.specs.Locations.{choose, inside}
use Rattle.machine_model.specs.State.{by_mpu}
use Rattle.base_laws.specs.Lists.{Each}
use Rattle.machine_model.specs.RunningCode.{Context}
use Rattle.monitor_model.specs.declared.tables.CompRecord.{CompRecord}
use Rattle.monitor_model.specs.declared.tables.Tables.{Tables}
use Rattle.monitor_model.specs.Records.{compartment_at, nobody, eighth}
use Rattle.monitor_model.specs.Layout.{tables_size}
use Rattle.monitor_model.specs.Regions.{background, tables_region, stack_region}
use Rattle.monitor_model.specs.Placed.{Placed, IsCompartment, IsSlot, InFlashOf}
use Rattle.monitor_model.specs.Block.{MonitorBlock}
use Rattle.monitor_model.specs.Invariant.{IsTop, Invariant}
use Rattle.monitor_model.specs.Setting.{has_code, allows_stores, may_store, may_load}
use Rattle.monitor_confined.proofs.Reaches.{UnitLaws, stack_some}
use Rattle.monitor_confined.proofs.Changes.{top_below}
use Rattle.monitor_confined.proofs.EnterLaw.{both}
use Rattle.machine_bus.proofs.Ranges.{inside_true as inside_is}
use Rattle.base_laws.proofs.Lists.{each_at}
use Rattle.base_laws.proofs.Tests.{is_false}
use Rattle.monitor_model.proofs.Multiples.{divides}
use Rattle.monitor_model.proofs.Invariants.{runs_unprivileged}
use Rattle.machine_protection.proofs.Configured.{closed_byte}

-- ---- which of a list of regions is the last that holds an address

last_or_none : (gs : List Region) (a : ℕ) → NoneOf gs a ⊎ ((g : Region) × IsLast gs a g)
last_or_none [] a = inl tt
last_or_none (g ∷ gs) a = by (last_or_none gs a) (holds g a) refl
  where
    by : NoneOf gs a ⊎ ((x : Region) × IsLast gs a x) → (b : Bool) → holds g a ≡ b → NoneOf (g ∷ gs) a ⊎ ((x : Region) × IsLast (g ∷ gs) a x)
    by (inr l) b e = inr (l.0, inl l.1)
    by (inl n) true e = inr (g, inr (refl, e, n))
    by (inl n) false e = inl (e, n)

none_decides : (gs : List Region) (a : ℕ) → deciding gs a ≡ None → NoneOf gs a
unfolding deciding
none_decides [] a e = tt
none_decides (g ∷ gs) a e = by (holds g a) (deciding gs a) refl (λ d. none_decides gs a d) e
  where
    by : (b : Bool) (o : Option Region) → holds g a ≡ b → (o ≡ None → NoneOf gs a) → or_this b g o ≡ None → NoneOf (g ∷ gs) a
    by b (Some y) h ih z = cc
    by true None h ih z = cc
    by false None h ih z = (h, ih refl)

deciding_last : (gs : List Region) (a : ℕ) (x : Region) → deciding gs a ≡ Some x → IsLast gs a x
unfolding deciding
deciding_last [] a x e = cc
deciding_last (g ∷ gs) a x e = by (holds g a) (deciding gs a) refl refl (λ d. deciding_last gs a x d) e
  where
    by : (b : Bool) (o : Option Region) → holds g a ≡ b → deciding gs a ≡ o → (deciding gs a ≡ Some x → IsLast gs a x) → or_this b g o ≡ Some x → IsLast (g ∷ gs) a x
    by b (Some y) h d ih z = let same : y ≡ x = cc in inl (ih (d ∙ ap Some same))
    by true None h d ih z = let same : x ≡ g = cc in inr (same, h, none_decides gs a d)
    by false None h d ih z = cc

-- ---- slots

slots_off : (i : Image) (t : Tables) (gs : List Region) (a : ℕ) → Each (IsSlot i t) gs → InFlashOf i a ⊎ ((t.stack.base ≤ a) × (a < t.stack.base + t.stack.size)) → NoneOf gs a
slots_off i t [] a h f = tt
slots_off i t (g ∷ gs) a h f = (is_false (holds g a) (off f), slots_off i t gs a h.1 f)
  where
    off : InFlashOf i a ⊎ ((t.stack.base ≤ a) × (a < t.stack.base + t.stack.size)) → holds g a ≡ true → ⊥
    off (inl x) e = (h.0 a e).off_flash x
    off (inr x) e = let lo = x.0 in let hi = x.1 in ⊎_elim (λ y. let z = y in omega (arith, z, lo)) (λ y. let z = y in omega (arith, z, hi)) (h.0 a e).off_stack

slot_reads : (i : Image) (t : Tables) (gs : List Region) (a : ℕ) (x : Region) → Each (IsSlot i t) gs → IsLast gs a x → allows x true Read ≡ true
slot_reads i t [] a x h l = absurd l
slot_reads i t (g ∷ gs) a x h (inl l) = slot_reads i t gs a x h.1 l
slot_reads i t (g ∷ gs) a x h (inr l) = ap (λ (r : Region). allows r true Read) l.0 ∙ (h.0 a l.1).readable

some_slot : (gs : List Region) (a : ℕ) → list_any (λ (g : Region). holds g a) gs ≡ true → NoneOf gs a → ⊥
some_slot [] a e n = false≢true e
some_slot (g ∷ gs) a e n = by (holds g a) refl (λ z. some_slot gs a z n.1) e
  where
    by : (b : Bool) → holds g a ≡ b → (list_any (λ (x : Region). holds x a) gs ≡ true → ⊥) → (b || list_any (λ (x : Region). holds x a) gs) ≡ true → ⊥
    by true h ih z = false≢true (sym n.0 ∙ h)
    by false h ih z = ih z

-- ---- the regions of placed tables

module _ (laws : UnitLaws) (i : Image) (t : Tables) (p : Placed i t) where
  stack_holds : (top a n : ℕ) → IsTop t n top → t.stack.base ≤ a → a < top → holds (stack_region t top) a ≡ true
  stack_holds top a n is lo hi =
      let k : ℕ = is.0 in
      let z = stack_some laws i t p in
      let above : top - t.stack.base ≡ k * eighth t = (let e = is.1 in omega (arith, e)) in
      let q : (top - t.stack.base) / eighth t ≡ k = ap (λ (m : ℕ). m / eighth t) above ∙ mul-div_cancel k z.2 in
      let few : k ≤ 8 = (let e = is.3 in omega (arith, e)) in
      let power : IsPowerOfTwo t.stack.size = (p.stack.size.0, p.stack_size ∙ p.stack.size.3) in
      let aligned : t.stack.base % t.stack.size ≡ 0 = ap₂ (λ (b z : ℕ). b % z) p.stack_base p.stack_size ∙ p.stack.aligned in
      let under : a < t.stack.base + k * eighth t = subst (λ (e : ℕ). a < e) is.1 hi in
      let r = (laws.opened 3 t.stack.base t.stack.size k Stack (omega arith) power z.0 z.1 aligned few a).1 (lo, under) in
      subst (λ (m : ℕ). holds (region_of 3 t.stack.base t.stack.size (closed_from m) Stack) a ≡ true) (sym q) r

  stack_allows : (top : ℕ) (kind : Access) → may Stack true kind ≡ true → allows (stack_region t top) true kind ≡ true
  stack_allows top kind e = laws.rights 3 t.stack.base t.stack.size (closed_from ((top - t.stack.base) / eighth t)) Stack (closed_byte ((top - t.stack.base) / eighth t)) true kind ∙ e

  -- what the stack's region holds is no flash
  stack_off_flash : (top a n : ℕ) → IsTop t n top → InFlashOf i a → holds (stack_region t top) a ≡ false
  stack_off_flash top a n is f = is_false (holds (stack_region t top) a) none
    where
      none : holds (stack_region t top) a ≡ true → ⊥
      none h =
          let k : ℕ = is.0 in
          let z = stack_some laws i t p in
          let above : top - t.stack.base ≡ k * eighth t = (let e = is.1 in omega (arith, e)) in
          let q : (top - t.stack.base) / eighth t ≡ k = ap (λ (m : ℕ). m / eighth t) above ∙ mul-div_cancel k z.2 in
          let few : k ≤ 8 = (let e = is.3 in omega (arith, e)) in
          let power : IsPowerOfTwo t.stack.size = (p.stack.size.0, p.stack_size ∙ p.stack.size.3) in
          let aligned : t.stack.base % t.stack.size ≡ 0 = ap₂ (λ (b z : ℕ). b % z) p.stack_base p.stack_size ∙ p.stack.aligned in
          let at = subst (λ (m : ℕ). holds (region_of 3 t.stack.base t.stack.size (closed_from m) Stack) a ≡ true) q h in
          let lo = ((laws.opened 3 t.stack.base t.stack.size k Stack (omega arith) power z.0 z.1 aligned few a).0 at).0 in
          let hi = f.1 in
          let base = p.stack_base in
          let place = p.stack.place.0 in
          let low = p.rules.ram_lowest in
          let high = p.rules.flash_highest in
          let most = p.rules.flash_most in
          omega (arith, lo, hi, base, place, low, high, most)

  pub tables_hold : (a : ℕ) → t.base ≤ a → a < t.base + tables_size t → holds (tables_region t) a ≡ true
  tables_hold a lo hi =
      let z = p.tables_inside in
      let m = p.rules.flash_most in
      let most : tables_size t < 2 ^ 32 = omega (arith, z, m) in
      let small : tables_size t ≤ 2 ^ 20 = omega (arith, z, m) in
      let aligned : t.base % tables_size t ≡ 0 = divides t.base (tables_size t) p.tables_power small (ap (λ b. b % 2 ^ 20) p.tables_first ∙ p.rules.flash_aligned) in
      (laws.held 1 t.base (tables_size t) 0 Code (omega arith) p.tables_power p.tables_least most aligned (omega arith) a).1
      (record { from_base = lo; below_end = hi; not_taken_out = λ h. bit_at-zero ((a - t.base) / (tables_size t / 8)) })

  background_of : (closed : Bool) (a : ℕ) → i.closed ≡ closed → InFlashOf i a ⊎ ((i.closed ≡ false) × (a < 0x40000000)) →
      holds (choose closed (region_of 0 i.flash_base 0x100000 0 Background) (region_of 0 0 0x40000000 0 Background)) a ≡ true
  background_of true a c (inr f) = absurd (false≢true (sym f.0 ∙ c))
  background_of true a c (inl f) =
      let lo = f.0 in
      let hi = f.1 in
      let most = p.rules.flash_most in
      (laws.held 0 i.flash_base 0x100000 0 Background (omega arith) (20, refl) (omega arith) (omega arith) p.rules.flash_aligned (omega arith) a).1
      (record { from_base = lo; below_end = omega (arith, hi, most); not_taken_out = λ h. bit_at-zero ((a - i.flash_base) / (0x100000 / 8)) })
  background_of false a c f =
      let low : a < 0x40000000 = below f in
      (laws.held 0 0 0x40000000 0 Background (omega arith) (30, refl) (omega arith) (omega arith) refl (omega arith) a).1
      (record { from_base = omega arith; below_end = omega (arith, low); not_taken_out = λ h. bit_at-zero ((a - 0) / (0x40000000 / 8)) })
    where
      below : InFlashOf i a ⊎ ((i.closed ≡ false) × (a < 0x40000000)) → a < 0x40000000
      below (inr g) = g.1
      below (inl g) = let hi = g.1 in let most = p.rules.flash_most in let high = p.rules.flash_highest in omega (arith, hi, most, high)

  background_reads : (closed : Bool) → allows (choose closed (region_of 0 i.flash_base 0x100000 0 Background) (region_of 0 0 0x40000000 0 Background)) true Read ≡ true
  background_reads true = laws.rights 0 i.flash_base 0x100000 0 Background (omega arith) true Read
  background_reads false = laws.rights 0 0 0x40000000 0 Background (omega arith) true Read

  -- ---- under the invariant

  module _ (m : MonitorBlock) (x : Context) (ram : List ℕ) (v : Invariant i t m x ram) where
    abbrev here : CompRecord
    here = compartment_at t m.current

    abbrev all : List Region
    all = background i ∷ tables_region t ∷ here.code ∷ stack_region t m.top ∷ here.slots

    placed : IsCompartment i t here
    placed = each_at (IsCompartment i t) t.comps nobody m.current p.comps v.orderly.current_in

    permitted : (kind : Access) (a : ℕ) (g : Region) → IsLast all a g → allows g true kind ≡ true → by_mpu x.protection kind a ≡ true
    unfolding by_mpu
    permitted kind a g l e =
        let on : is_on x.protection.mpu ≡ true = ap (λ (n : ℕ). nat_eq (n % 2) 1) v.control in
        subst (λ (u : Bool). permits x.protection.mpu u kind a ≡ true) (sym (runs_unprivileged v)) ((laws.permit all x.protection.mpu kind a on v.regions).1 (g, l, e))

    pub top_inside : m.top ≤ t.stack.base + t.stack.size
    top_inside = top_below t (length m.saved) m.top v.orderly.is_top

    stack_permits : (kind : Access) (a : ℕ) → may Stack true kind ≡ true → t.stack.base ≤ a → a < m.top → by_mpu x.protection kind a ≡ true
    stack_permits kind a e lo hi =
        let top = top_inside in
        let end : a < t.stack.base + t.stack.size = omega (arith, top, hi) in
        permitted kind a (stack_region t m.top)
        (inl (inl (inl (inr (refl, stack_holds m.top a (length m.saved) v.orderly.is_top lo hi, slots_off i t here.slots a placed.slots (inr (lo, end)))))))
        (stack_allows m.top kind e)

    pub reads_stack : (a : ℕ) → t.stack.base ≤ a → a < m.top → by_mpu x.protection Read a ≡ true
    reads_stack a lo hi = stack_permits Read a refl lo hi

    pub writes_stack : (a : ℕ) → t.stack.base ≤ a → a < m.top → by_mpu x.protection Write a ≡ true
    writes_stack a lo hi = stack_permits Write a refl lo hi

    -- code of CUR
    pub fetches : (a : ℕ) → has_code t m.current a ≡ true → by_mpu x.protection Fetch a ≡ true
    fetches a h =
        let f = placed.code.in_flash a h in
        permitted Fetch a here.code (inl (inl (inr (refl, h, (stack_off_flash m.top a (length m.saved) v.orderly.is_top f, slots_off i t here.slots a placed.slots (inl f)))))) placed.code.runs

    -- the tables' block, with the leave stub
    pub fetches_tables : (a : ℕ) → t.base ≤ a → a < t.base + tables_size t → by_mpu x.protection Fetch a ≡ true
    fetches_tables a lo hi = by (holds here.code a) refl
      where
        in_flash : InFlashOf i a
        in_flash = let e = p.tables_first in let z = p.tables_inside in (omega (arith, e, lo), omega (arith, e, hi, z))

        by : (b : Bool) → holds here.code a ≡ b → by_mpu x.protection Fetch a ≡ true
        by true e = fetches a e
        by false e = permitted Fetch a (tables_region t)
            (inl (inr (refl, tables_hold a lo hi, (e, (stack_off_flash m.top a (length m.saved) v.orderly.is_top in_flash, slots_off i t here.slots a placed.slots (inl in_flash))))))
            (laws.rights 1 t.base (tables_size t) 0 Code (omega arith) true Fetch)

    -- every region may be read
    last_reads : (a : ℕ) (g : Region) → IsLast all a g → allows g true Read ≡ true
    last_reads a g (inr l) = ap (λ (r : Region). allows r true Read) l.0 ∙ background_reads i.closed
    last_reads a g (inl (inr l)) = ap (λ (r : Region). allows r true Read) l.0 ∙ laws.rights 1 t.base (tables_size t) 0 Code (omega arith) true Read
    last_reads a g (inl (inl (inr l))) = ap (λ (r : Region). allows r true Read) l.0 ∙ placed.code.readable
    last_reads a g (inl (inl (inl (inr l)))) = ap (λ (r : Region). allows r true Read) l.0 ∙ stack_allows m.top Read refl
    last_reads a g (inl (inl (inl (inl l)))) = slot_reads i t here.slots a g placed.slots l

    reads_held : (a : ℕ) → (NoneOf all a → ⊥) → by_mpu x.protection Read a ≡ true
    reads_held a some = by (last_or_none all a)
      where
        by : NoneOf all a ⊎ ((g : Region) × IsLast all a g) → by_mpu x.protection Read a ≡ true
        by (inl n) = absurd (some n)
        by (inr l) = permitted Read a l.0 l.1 (last_reads a l.0 l.1)

    by_background : (a : ℕ) → InFlashOf i a ⊎ ((i.closed ≡ false) × (a < 0x40000000)) → by_mpu x.protection Read a ≡ true
    by_background a f = reads_held a (λ n. false≢true (sym n.0 ∙ background_of i.closed a refl f))

    pub loads : (a : ℕ) → may_load i t m.current a ≡ true → by_mpu x.protection Read a ≡ true
    unfolding may_load
    loads a e = by (either (inside i.flash_base (length i.flash) a) (list_any (λ (g : Region). holds g a) here.slots || (not i.closed && inside i.ram_base i.ram_size a)) e)
      where
        of_ram : (not i.closed && inside i.ram_base i.ram_size a) ≡ true → by_mpu x.protection Read a ≡ true
        of_ram e =
            let q = both (not i.closed) (inside i.ram_base i.ram_size a) e in
            let hi = (inside_is i.ram_base i.ram_size a q.1).1 in
            let high = p.rules.ram_highest in
            let most = p.rules.ram_most in
            by_background a (inr (not-true i.closed q.0, omega (arith, hi, high, most)))

        others : (list_any (λ (g : Region). holds g a) here.slots ≡ true) ⊎ ((not i.closed && inside i.ram_base i.ram_size a) ≡ true) → by_mpu x.protection Read a ≡ true
        others (inl s) = reads_held a (λ n. some_slot here.slots a s n.1.1.1.1)
        others (inr r) = of_ram r

        by : (inside i.flash_base (length i.flash) a ≡ true) ⊎ ((list_any (λ (g : Region). holds g a) here.slots || (not i.closed && inside i.ram_base i.ram_size a)) ≡ true) → by_mpu x.protection Read a ≡ true
        by (inl f) = let z = inside_is i.flash_base (length i.flash) a f in by_background a (inl (z.0, (let lt = z.1 in omega (arith, lt))))
        by (inr o) = others (either (list_any (λ (g : Region). holds g a) here.slots) (not i.closed && inside i.ram_base i.ram_size a) o)

    pub stores : (a : ℕ) → may_store t m.current a ≡ true → by_mpu x.protection Write a ≡ true
    unfolding may_store
    stores a e = by (deciding here.slots a) refl e
      where
        by : (o : Option Region) → deciding here.slots a ≡ o → allows_stores o ≡ true → by_mpu x.protection Write a ≡ true
        by None d z = absurd (false≢true z)
        by (Some g) d z = permitted Write a g (inl (inl (inl (inl (deciding_last here.slots a g d))))) z
