-- The bytes of globals are loaded by their readers alone, where the board's reads are closed.
use Rattle.std.proofs.Common.{◌≡◌, ℕ, ◌+◌, ◌-◌, ◌<◌, ◌≤◌, inl, inr, true, List, [], ◌∷◌, length, sym, ◌∙◌, subst, arith}
use Rattle.machine_protection.specs.declared.region.Region.{Region}
use Rattle.machine_protection.specs.Regions.{holds}
use Rattle.machine_bus.specs.Locations.{InRam, InFlash, location}
use Rattle.machine_bus.proofs.Offsets.{in_ram as ram_place}
use Rattle.machine_bus.proofs.Ranges.{inside_true}
use Rattle.machine_model.specs.State.{State, Touched, by_mpu}
use Rattle.machine_model.specs.Confinement.{AnyOf}
use Rattle.machine_model.specs.Step.{turn}
use Rattle.base_laws.specs.Lists.{Each}
use Rattle.ir_model.specs.declared.object.ObjId.TheVariants.{Global}
use Rattle.ir_model.specs.Resolve.{resolve}
use Rattle.plan_model.specs.Permission.{may_read}
use Rattle.monitor_model.specs.declared.tables.Tables.{Tables}
use Rattle.monitor_model.specs.Records.{compartment_at}
use Rattle.monitor_model.specs.BlockWords.{current}
use Rattle.monitor_model.specs.Reach.{AllBytes, InOpenStack}
use Rattle.monitor_model.specs.Confined.{later}
use Rattle.monitor_model.specs.Handlers.{LoadFor, ForFlash, ForBlock, ForSystem, ForStack, ForLoan, ForReturn}
use Rattle.image_promises.specs.Planned.{planned_tables}
use Rattle.image_promises.specs.Permissions.{IsByteOf, IsPermitted, OnPeripherals, InData, SlotsArePermitted}
use Rattle.image_promises.proofs.PlannedPremises.{PlannedPremises}
use Rattle.image_promises.proofs.GlobalPlaces.{GlobalLaws, in_ram}
use Rattle.monitor_runs.specs.Acts.{Acts, MayRead, ReadsSlot, ReadsStack, ReadsFlash}
use Rattle.image_runs.specs.Isolated.{GlobalsAreReadByTheirReaders, MonitorReadsNoGlobal}
use Rattle.image_runs.proofs.KeptRuns.{KeptRun}
use Rattle.image_runs.proofs.Globals.{no_range, off, off_block}

-- what holds of each byte of each access holds of a byte that one of them touches
touched : (P : ℕ → Type 0) (a : ℕ) (ys : List Touched) → Each (AllBytes P) ys → AnyOf (λ (y : Touched). (y.address ≤ a) × (a < y.address + y.width)) ys → P a
touched P a [] e h = absurd h
touched P a (y ∷ ys) e (inl h) =
    let lo = h.0 in
    let hi = h.1 in
    let at : y.address + (a - y.address) ≡ a = omega (arith, lo) in
    subst P at (e.0 (a - y.address) (omega (arith, lo, hi)))
touched P a (y ∷ ys) e (inr h) = touched P a ys e.1 h

module _ (law : GlobalLaws) (planned : PlannedPremises) (slots : SlotsArePermitted planned.firmware planned.needs planned.final planned.board) (run : KeptRun planned) where
  open planned use {firmware as w, needs as n, final as f, board as b}
  open run use {image as i, rules, board, first, keeps}

  abbrev t : Tables
  t = planned_tables w n f b

  abbrev at : ℕ → State
  at k = later i t first k

  module _ (x a : ℕ) (lt : x < length (resolve w).globals) (byte : IsByteOf w n f b x a) where
    in_memory : (i.ram_base ≤ a) × (a < i.ram_base + i.ram_size)
    in_memory =
        let r = in_ram law planned x lt in
        let first = r.0 in
        let last = r.1 in
        let lo = byte.0 in
        let hi = byte.1 in
        let base = board.ram_base in
        let size = board.ram_size in
        (omega (arith, first, lo, base), omega (arith, last, hi, base, size))

    -- who has the byte in a slot may read the global
    reads_it : (c : ℕ) → AnyOf (λ (g : Region). holds g a ≡ true) (compartment_at t c).slots → may_read (resolve w) n f c (Global x) ≡ true
    reads_it c h = by (slots.loads c a h)
      where
        by : IsPermitted w n f b (may_read (resolve w) n f c) c a → may_read (resolve w) n f c (Global x) ≡ true
        by (OnPeripherals o) =
            absurd (let r = (in_ram law planned x lt).1 in let hi = byte.1 in no_range law planned slots (may_read (resolve w) n f c) a (omega (arith, r, hi)) _ o)
        by (InData d) = d.permitted x lt byte

    off_flash : a < i.flash_base + 0x100000 → ⊥
    off_flash hi =
        let lo = in_memory.0 in
        let highest = rules.flash_highest in
        let lowest = rules.ram_lowest in
        omega (arith, hi, lo, highest, lowest)

    not_flash : (o : ℕ) → location i a ≡ InFlash o → ⊥
    not_flash o e =
        let m = in_memory in
        let lo = m.0 in
        let hi = m.1 in
        let r : location i a ≡ InRam (a - i.ram_base) = ram_place i a (a - i.ram_base) (omega (arith, lo)) (omega (arith, lo, hi)) in
        let wrong : InRam (a - i.ram_base) ≡ InFlash o = sym r ∙ e in
        cc

    off_open : (k : ℕ) → Acts i t first k → InOpenStack i t (at k) a → ⊥
    off_open k acts o =
        let most = (keeps.bounded k acts).most_open in
        let hi = o.1 in
        off law planned slots x a lt byte (o.0, omega (arith, hi, most))

    by_instruction : (k : ℕ) → Acts i t first k → MayRead i t (at k) a → may_read (resolve w) n f (current i t (at k).ram) (Global x) ≡ true
    by_instruction k acts (ReadsSlot h) = reads_it (current i t (at k).ram) h
    by_instruction k acts (ReadsStack o) = absurd (off_open k acts o)
    by_instruction k acts (ReadsFlash lo hi) = absurd (off_flash hi)

    by_monitor : (k : ℕ) → Acts i t first k → LoadFor i t (at k) a → ⊥
    by_monitor k acts (ForFlash o e) = not_flash o e
    by_monitor k acts (ForBlock o) = off_block law planned slots x a lt byte o
    by_monitor k acts (ForSystem e) =
        let lo = (inside_true 0xE0000000 0x100000 a e).0 in
        let hi = in_memory.1 in
        let highest = rules.ram_highest in
        let most = rules.ram_most in
        omega (arith, lo, hi, highest, most)
    by_monitor k acts (ForStack o) = off_open k acts o
    by_monitor k acts (ForLoan l h) = off law planned slots x a lt byte ((keeps.bounded k acts).lent l a h.live h.from_address h.below_end)
    by_monitor k acts (ForReturn s h) = off law planned slots x a lt byte ((keeps.bounded k acts).frame a h)

  pub globals_read : GlobalsAreReadByTheirReaders w n f b i t first
  globals_read closed x a k lt byte acts h =
      by_instruction x a lt byte k acts (touched (MayRead i t (at k)) a (turn by_mpu i (at k)).loads (keeps.reads closed k acts) h)

  pub no_global_read : MonitorReadsNoGlobal w n f b i t first
  no_global_read closed x a m k lt byte acts after on h =
      by_monitor x a lt byte m acts (touched (LoadFor i t (at m)) a (turn by_mpu i (at k)).loads (keeps.monitor_reads closed m k acts after on) h)
