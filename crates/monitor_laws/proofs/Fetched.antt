-- The page's code may be fetched while a compartment's regions are written and the unit is on.
use Rattle.std.proofs.Common.{◌≡◌, ℕ, ◌+◌, ◌-◌, ◌/◌, ◌%◌, ◌^◌, ◌<◌, ◌≤◌, Bool, true, false, List, [], ◌∷◌, map, length, Some, None, refl, ap, ap₂, ◌∙◌, arith}
use Rattle.std.proofs.lemmas.Nat.Bits.{bit_at-zero}
use Rattle.std.proofs.lemmas.Bool.Decides.{nat_tests}
use Rattle.std.specs.Int.{IsPowerOfTwo, bit_at}
use Rattle.machine_protection.specs.declared.region.Region.{Region}
use Rattle.machine_protection.specs.declared.region.Access.TheVariants.{Fetch}
use Rattle.machine_protection.specs.declared.words.Rights.TheVariants.{Code, Stack}
use Rattle.machine_protection.specs.Regions.{holds, allows, ap_reads, permission, is_executable}
use Rattle.machine_protection.specs.RegionWords.{IsHeld}
use Rattle.machine_protection.specs.Protection.{permits, deciding}
use Rattle.machine_protection.specs.Laws.{kept_region, RegionsAreKept, RegionsHoldTheirBlocks, RegionsGiveTheirRights}
use Rattle.machine_protection.specs.Configured.{closed_from}
use Rattle.machine_protection.proofs.Configured.{closed_byte}
use Rattle.machine_devices.specs.declared.image.Image.{Image}
use Rattle.machine_model.specs.declared.state.ProtectionState.{ProtectionState}
use Rattle.machine_model.specs.State.{by_mpu, is_unprivileged}
use Rattle.base_laws.specs.Lists.{Each}
use Rattle.monitor_model.specs.declared.tables.CompRecord.{CompRecord}
use Rattle.monitor_model.specs.declared.tables.Tables.{Tables}
use Rattle.monitor_model.specs.Records.{compartment_at, nobody, eighth}
use Rattle.monitor_model.specs.Layout.{tables_size}
use Rattle.monitor_model.specs.Regions.{tables_region, stack_region, regions_for}
use Rattle.monitor_model.specs.Placed.{Placed, IsCompartment, IsSlot, InFlashOf}
use Rattle.monitor_laws.proofs.Tables.{size_of_stack}
use Rattle.std.proofs.lemmas.Bool.{and_parts}
use Rattle.base_laws.proofs.Lists.{each_at}
use Rattle.monitor_model.proofs.Multiples.{divides}

-- the laws of the protection unit
pub record UnitLaws : Type 0 where
  pub kept : RegionsAreKept
  pub held : RegionsHoldTheirBlocks
  pub rights : RegionsGiveTheirRights

-- what unprivileged code may read, privileged code may
reads_more : (n : ℕ) → ap_reads true n ≡ true → ap_reads false n ≡ true
reads_more n h = search (nat_tests, arith)

fetches_more : (g : Region) (u : Bool) → allows g true Fetch ≡ true → allows g u Fetch ≡ true
fetches_more g true h = h
fetches_more g false h =
    let p = and_parts (ap_reads true (permission g)) (is_executable g) h in
    let r = reads_more (permission g) p.0 in
    let e = p.1 in
    rw (r, e) refl

module _ (laws : UnitLaws) (i : Image) (t : Tables) (p : Placed i t) (room : 4096 ≤ tables_size t) (cur top : ℕ) (inside : cur < length t.comps) (a : ℕ) (low : i.flash_base ≤ a) (high : a < i.flash_base + 4096) where
  abbrev c : CompRecord
  c = compartment_at t cur

  comp : IsCompartment i t c
  comp = each_at (IsCompartment i t) t.comps nobody cur p.comps inside

  in_flash : InFlashOf i a
  in_flash = let z = p.tables_inside in (low, omega (arith, high, room, z))

  -- no slot holds it
  slots_decide_none : (gs : List Region) → Each (IsSlot i t) gs → deciding (map kept_region gs) a ≡ None
  unfolding deciding
  slots_decide_none [] e = refl
  slots_decide_none (g ∷ gs) e =
      let r = slots_decide_none gs e.1 in
      let k : holds (kept_region g) a ≡ false = (laws.kept g).held a ∙ off (holds g a) refl in
      rw (r, k) refl
    where
      off : (b : Bool) → holds g a ≡ b → b ≡ false
      off true h = absurd ((e.0 a h).off_flash in_flash)
      off false h = refl

  -- the stack lies in RAM
  stack_holds_none : holds (kept_region (stack_region t top)) a ≡ false
  stack_holds_none = (laws.kept (stack_region t top)).held a ∙ off (holds (stack_region t top) a) refl
    where
      above : i.flash_base + 4096 ≤ t.stack.base
      above = let b = p.stack_base in let r = p.stack.place.0 in let l = p.rules.ram_lowest in let f = p.rules.flash_highest in omega (arith, b, r, l, f)

      power : IsPowerOfTwo t.stack.size
      power = (p.stack.size.0, p.stack_size ∙ p.stack.size.3)

      least : 32 ≤ t.stack.size
      least = let z = size_of_stack p in let a = z.least in let b = z.eighths in omega (arith, a, b)

      most : t.stack.size < 2 ^ 32
      most = let z = size_of_stack p in let a = z.most in omega (arith, a)

      aligned : t.stack.base % t.stack.size ≡ 0
      aligned = ap₂ (λ b z. b % z) p.stack_base p.stack_size ∙ p.stack.aligned

      off : (b : Bool) → holds (stack_region t top) a ≡ b → b ≡ false
      off true h =
          let held : IsHeld t.stack.base t.stack.size (closed_from ((top - t.stack.base) / eighth t)) a = (laws.held 3 t.stack.base t.stack.size (closed_from ((top - t.stack.base) / eighth t)) Stack (omega arith) power least most aligned (closed_byte ((top - t.stack.base) / eighth t)) a).0 h in
          let f = held.from_base in
          absurd (omega (arith, f, above, high))
      off false h = refl

  -- the tables' block begins with the page
  tables_hold : holds (kept_region (tables_region t)) a ≡ true
  tables_hold = (laws.kept (tables_region t)).held a ∙ ((laws.held 1 t.base (tables_size t) 0 Code (omega arith) p.tables_power p.tables_least most aligned (omega arith) a).1 is_held)
    where
      most : tables_size t < 2 ^ 32
      most = let z = p.tables_inside in let m = p.rules.flash_most in omega (arith, z, m)

      small : tables_size t ≤ 2 ^ 20
      small = let z = p.tables_inside in let m = p.rules.flash_most in omega (arith, z, m)

      aligned : t.base % tables_size t ≡ 0
      aligned = divides t.base (tables_size t) p.tables_power small (ap (λ b. b % 2 ^ 20) p.tables_first ∙ p.rules.flash_aligned)

      none : (n : ℕ) → bit_at 0 n ≡ 0
      none n = bit_at-zero n

      is_held : IsHeld t.base (tables_size t) 0 a
      is_held = record {
        from_base = let e = p.tables_first in omega (arith, e, low);
        below_end = let e = p.tables_first in omega (arith, e, high, room);
        not_taken_out = λ h. none ((a - t.base) / (tables_size t / 8));
      }

  -- the region that decides lets it be fetched
  decided_by : (g : Region) × (deciding (regions_for i t cur top) a ≡ Some g) × ((u : Bool) → allows g u Fetch ≡ true)
  unfolding deciding
  decided_by = by_code (holds (kept_region c.code) a) refl
    where
      rest : deciding (kept_region (stack_region t top) ∷ map kept_region c.slots) a ≡ None
      rest =
          let r = slots_decide_none c.slots comp.slots in
          let s = stack_holds_none in
          rw (r, s) refl

      by_code : (b : Bool) → holds (kept_region c.code) a ≡ b → (g : Region) × (deciding (regions_for i t cur top) a ≡ Some g) × ((u : Bool) → allows g u Fetch ≡ true)
      by_code true h = (kept_region c.code, rw (rest, h) refl, λ u. (laws.kept c.code).allowed u Fetch ∙ fetches_more c.code u comp.code.runs)
      by_code false h = (kept_region (tables_region t), (let k = tables_hold in rw (rest, h, k) refl), λ u. (laws.kept (tables_region t)).allowed u Fetch ∙ laws.rights 1 t.base (tables_size t) 0 Code (omega arith) u Fetch)

  pub page_is_fetched : (q : ProtectionState) → q.mpu.control ≡ 5 → q.mpu.regions ≡ regions_for i t cur top → by_mpu q Fetch a ≡ true
  unfolding by_mpu permits
  page_is_fetched q on e =
      let d = decided_by in
      let k = d.1 in
      rw (on, e, k) (d.2 (is_unprivileged q))
