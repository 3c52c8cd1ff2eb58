-- The bytes of globals stay while none of their writers acts.
use Rattle.std.proofs.Common.{◌≡◌, ℕ, ◌+◌, ◌<◌, inl, inr, Bool, true, List, [], ◌∷◌, length, sym, ◌∙◌, arith}
use Rattle.std.proofs.lemmas.Bool.{false≢true}
use Rattle.machine_devices.specs.declared.image.Image.{Image}
use Rattle.machine_model.specs.State.{State}
use Rattle.machine_model.specs.Confinement.{AnyOf}
use Rattle.ir_model.specs.declared.object.ObjId.{ObjId}
use Rattle.ir_model.specs.declared.object.ObjId.TheVariants.{Global}
use Rattle.ir_model.specs.Resolve.{resolve}
use Rattle.plan_model.specs.declared.graph.Cover.{Cover}
use Rattle.plan_model.specs.Permission.{may_write}
use Rattle.monitor_model.specs.declared.tables.Tables.{Tables}
use Rattle.monitor_model.specs.BlockWords.{current}
use Rattle.monitor_model.specs.Reach.{InBlock}
use Rattle.monitor_model.specs.Confined.{later}
use Rattle.image_model.specs.LinkedTables.{tables_of}
use Rattle.image_promises.specs.Planned.{planned_tables}
use Rattle.image_promises.proofs.PlannedPremises.{PlannedPremises}
use Rattle.image_promises.proofs.Facts.{monitor_size_is}
use Rattle.image_promises.specs.Permissions.{IsByteOf, IsOnPeripherals, IsPermitted, OnPeripherals, InData, SlotsArePermitted}
use Rattle.image_promises.proofs.GlobalPlaces.{GlobalLaws, in_ram, off_stack, off_monitor}
use Rattle.monitor_runs.specs.Acts.{IsOutside, OnStack, IsWritable}
use Rattle.monitor_runs.specs.Stays.{KeepsMemory}
use Rattle.image_runs.specs.Isolated.{GlobalsStay, GlobalsChangeByTheirWriters}

module _ (law : GlobalLaws) (planned : PlannedPremises) (slots : SlotsArePermitted planned.firmware planned.needs planned.final planned.board) where
  open planned use {firmware as w, needs as n, final as f, board as b, is_planned as ok}

  abbrev t : Tables
  t = planned_tables w n f b

  -- no range of peripherals lies in RAM
  pub no_range : (may : ObjId → Bool) (a : ℕ) → a < b.ram_base + b.ram_size → (ds : List Cover) → AnyOf (IsOnPeripherals w n f b may a) ds → ⊥
  no_range may a low [] h = h
  no_range may a low (d ∷ ds) (inl h) =
      let x = h.from in
      let y = h.holds.0 in
      let z = ok.board.ram_highest in
      let u = ok.board.ram_size.most in
      omega (arith, low, x, y, z, u)
  no_range may a low (d ∷ ds) (inr h) = no_range may a low ds h

  -- who has a byte of a global in a slot that it may write, may write the global
  writes_it : (x a c : ℕ) → x < length (resolve w).globals → IsByteOf w n f b x a → IsWritable t c a → may_write (resolve w) n f c (Global x) ≡ true
  writes_it x a c lt byte h = by (slots.stores c a h)
    where
      by : IsPermitted w n f b (may_write (resolve w) n f c) c a → may_write (resolve w) n f c (Global x) ≡ true
      by (OnPeripherals o) =
          absurd (let r = (in_ram law planned x lt).1 in let hi = byte.1 in no_range (may_write (resolve w) n f c) a (omega (arith, r, hi)) _ o)
      by (InData d) = d.permitted x lt byte

  module _ (x a : ℕ) (lt : x < length (resolve w).globals) (byte : IsByteOf w n f b x a) where
    pub off : OnStack t a → ⊥
    unfolding tables_of
    off on = off_stack law planned x a lt (record { low = byte.0; high = byte.1 }) on.0 on.1

    pub off_block : InBlock t a → ⊥
    unfolding tables_of
    off_block o = off_monitor law planned x a lt (record { low = byte.0; high = byte.1 }) o.0 (let z = monitor_size_is law.plans planned in let hi = o.1 in omega (arith, z, hi))

  -- ---- a run of an image with the board's RAM

  module _ (i : Image) (base : i.ram_base ≡ b.ram_base) (first : State) (keeps : KeepsMemory i t first) where
    pub outside : (x a : ℕ) → x < length (resolve w).globals → IsByteOf w n f b x a → IsOutside i t a
    outside x a lt byte = record {
      from_base = let r = (in_ram law planned x lt).0 in let lo = byte.0 in omega (arith, r, lo, base);
      off_block = off_block x a lt byte;
    }

    pub globals_stay : GlobalsStay w n f b i t first
    globals_stay x a from to lt byte r u le none =
        keeps.data_stays from to a r u le (outside x a lt byte) (off x a lt byte)
        (λ k lo hi acts h. false≢true (sym (none k lo hi acts) ∙ writes_it x a (current i t (later i t first k).ram) lt byte h))

    pub globals_change : GlobalsChangeByTheirWriters w n f b i t first
    globals_change x a from to lt byte r u le differs =
        let z = keeps.changes from to a r u le (outside x a lt byte) (off x a lt byte) differs in
        (z.0, z.1, z.2, z.3, writes_it x a (current i t (later i t first z.0).ram) lt byte z.4)
