-- Each access of a peripheral is one of the acting compartment's permission.
use Rattle.std.proofs.Common.{◌≡◌, ℕ, zero, suc, ◌<◌, inl, inr, true, List, [], ◌∷◌, length, map, get_or, Some, slice_get, ap, sym, ◌∙◌, subst, arith}
use Rattle.std.proofs.lemmas.List.{length-map}
use Rattle.machine_model.specs.Confinement.{AnyOf}
use Rattle.machine_devices.specs.declared.image.Window.{Window}
use Rattle.machine_bus.specs.Locations.{location, InWindow}
use Rattle.ir_model.specs.declared.firmware.Peripheral.{Peripheral}
use Rattle.ir_model.specs.declared.object.ObjId.TheVariants.{Periph}
use Rattle.ir_model.specs.Resolve as numbers
use Rattle.ir_model.specs.Resolve.{resolve}
use Rattle.ir_model.specs.Resolved.{NumberedWindow, window_at, no_window}
use Rattle.ir_program.specs.Windows.{window_of}
use Rattle.plan_model.specs.declared.graph.Cover.{Cover}
use Rattle.plan_model.specs.InitialGraph.{cover_of}
use Rattle.plan_model.specs.Permission.{may_write, may_read}
use Rattle.monitor_model.specs.declared.tables.Tables.{Tables}
use Rattle.monitor_model.specs.BlockWords.{current}
use Rattle.monitor_model.specs.Confined.{later}
use Rattle.image_promises.specs.Planned.{planned_tables}
use Rattle.image_promises.specs.Permissions.{IsOf, IsOnPeripherals, IsPermitted, OnPeripherals, InData, SlotsArePermitted}
use Rattle.monitor_runs.proofs.Windows.{high, window_at as place_window}
use Rattle.image_runs.specs.Isolated.{AccessesArePermitted}
use Rattle.image_promises.proofs.PlannedPremises.{PlannedPremises}
use Rattle.image_promises.proofs.Windows.{periphs_are}
use Rattle.image_runs.proofs.KeptRuns.{KeptRun}

-- a window of the list is that of its peripheral
window_found : (ps : List Peripheral) (q : ℕ) (x : Window) → slice_get (map window_of ps) q ≡ Some x → (q < length ps) × (x.base ≡ (get_or (map numbers.window_of ps) q no_window).base) × (x.size ≡ (get_or (map numbers.window_of ps) q no_window).size)
window_found [] q x e = cc
window_found (y ∷ ys) zero x e =
    let z : window_of y ≡ x = cc in
    (omega arith, ap (λ (v : Window). v.base) (sym z), ap (λ (v : Window). v.size) (sym z))
window_found (y ∷ ys) (suc q) x e = let r = window_found ys q x e in (let lt = r.0 in omega (arith, lt), r.1, r.2)

module _ (planned : PlannedPremises) (slots : SlotsArePermitted planned.firmware planned.needs planned.final planned.board) (run : KeptRun planned) where
  open planned use {firmware as w, needs as n, final as f, board as b, is_planned as ok}
  open run use {image as i, rules, board, first, keeps}

  abbrev t : Tables
  t = planned_tables w n f b

  -- the address of a location of a window is one of that peripheral's
  in_cover : (a q offset : ℕ) → location i a ≡ InWindow q offset → (q < length (resolve w).periphs) × IsOf (cover_of (resolve w) q) a
  in_cover a q offset e =
      let z = place_window i a q offset e in
      let r = window_found w.periphs q z.window (ap (λ (ws : List Window). slice_get ws q) (sym board.windows) ∙ z.is_window) in
      let base : z.window.base ≡ (window_at (resolve w) q).base = r.1 ∙ ap (λ (ps : List NumberedWindow). (get_or ps q no_window).base) (sym (periphs_are w)) in
      let size : z.window.size ≡ (window_at (resolve w) q).size = r.2 ∙ ap (λ (ps : List NumberedWindow). (get_or ps q no_window).size) (sym (periphs_are w)) in
      let count : length (resolve w).periphs ≡ length w.periphs = ap length (periphs_are w) ∙ length-map w.periphs numbers.window_of in
      let at = z.is_at in
      let lt = z.inside in
      let few = r.0 in
      (omega (arith, few, count), (omega (arith, at, base), omega (arith, at, lt, base, size)))

  same_permission : (c q : ℕ) → may_read (resolve w) n f c (Periph q) ≡ true → may_write (resolve w) n f c (Periph q) ≡ true
  unfolding may_read may_write
  same_permission c q e = e

  -- the ranges of a compartment
  on_range : (c a q offset : ℕ) → location i a ≡ InWindow q offset → (ds : List Cover) → AnyOf (IsOnPeripherals w n f b (may_read (resolve w) n f c) a) ds → may_read (resolve w) n f c (Periph q) ≡ true
  on_range c a q offset e [] h = absurd h
  on_range c a q offset e (d ∷ ds) (inl h) = let z = in_cover a q offset e in h.permitted q a z.0 z.1 h.holds
  on_range c a q offset e (d ∷ ds) (inr h) = on_range c a q offset e ds h

  uses_it : (c a q offset : ℕ) → location i a ≡ InWindow q offset → IsPermitted w n f b (may_read (resolve w) n f c) c a → may_write (resolve w) n f c (Periph q) ≡ true
  uses_it c a q offset e (OnPeripherals o) = same_permission c q (on_range c a q offset e _ o)
  uses_it c a q offset e (InData d) =
      absurd (let h = high i rules a q offset e in let x = d.to in let z = ok.board.ram_highest in let u = ok.board.ram_size.most in omega (arith, h, x, z, u))

  pub accesses_are_permitted : AccessesArePermitted w n f b i t first
  accesses_are_permitted k e started told =
      let x = keeps.accesses k e started told in
      let c : ℕ = current i t (later i t first k).ram in
      let u = uses_it c x.address e.periph e.offset x.there (slots.loads c x.address x.in_slot) in
      (x.acts, x.compartment, (in_cover x.address e.periph e.offset x.there).0, subst (λ (d : ℕ). may_write (resolve w) n f d (Periph e.periph) ≡ true) (sym x.compartment) u)
