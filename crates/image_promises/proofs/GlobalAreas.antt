-- The areas of a planned firmware's globals: in RAM, aligned, apart, and off the stack and the monitor's block.
use Rattle.std.proofs.Common.{◌≡◌, ◌≢◌, ℕ, ◌<◌, ◌≤◌, ◌+◌, ◌-◌, ◌*◌, ◌/◌, ◌%◌, ◌⊎◌, inl, inr, List, length, map, get_or, ap, sym, ◌∙◌, subst, lit<, arith}
use Rattle.std.proofs.lemmas.List.{get_or-map, length-map}
use Rattle.std.proofs.lemmas.List.FromFn.{get_or-map-range_with_len, length-map-range_with_len}
use mathlib.Core.Logic.{⊎_elim}
use Rattle.machine_devices.specs.Rules.{block_size}
use Rattle.ir_model.specs.Types.{width_of}
use Rattle.ir_model.specs.Layout.{CellPlace, Shape, empty}
use Rattle.ir_model.specs.Resolve.{resolve}
use Rattle.ir_model.specs.Resolved.{Program, NumberedGlobal, global_at, no_global}
use Rattle.ir_laws.specs.States.{global_shapes}
use Rattle.plan_model.specs.declared.plan.Plan.{Plan}
use Rattle.plan_model.specs.Lists.{numbers_below}
use Rattle.plan_model.specs.Regions.{global_size}
use Rattle.refine.specs.Areas.{Area, Beside, Laid}
use Rattle.base_laws.specs.Lists.{Each}
use Rattle.refine.specs.Relation.{cells_at, objects_at}
use Rattle.plan.specs.PlannedFirmwares.{plan}
use Rattle.image_promises.proofs.PlannedPremises.{PlannedPremises, global_address_of}
use Rattle.image_promises.proofs.Facts.{stack_in, stack_size_is, stack_least, monitor_in, monitor_size_is}
use Rattle.image_promises.proofs.Passing.{apart_from}
use Rattle.base_laws.proofs.Multiples.{IsMultiple, through, both, no_rest}
use Rattle.ir_laws.proofs.Aligned.{Aligned, none, more}
use Rattle.ir_laws.proofs.GlobalShapes.{global_shaped}
use Rattle.image_promises.proofs.GlobalPlaces.{GlobalLaws, in_ram, aligned_at, apart, off_stack, off_monitor}
use Rattle.base_laws.proofs.Lists.{each_to}
use Rattle.image_promises.proofs.Objects.{IsIn, cells_inside, cells_laid, each_object, objects_laid}

-- cells whose widths divide the address of their object stand at multiples of them
cells_aligned : (base o a : ℕ) (cs : List CellPlace) → IsMultiple a (base + o) → Aligned a cs → Each (λ (c : Area). (base + c.at) % c.width ≡ 0) (cells_at o cs)
cells_aligned base o a cs d none = tt
cells_aligned base o a cs d (more {c = c} {cs = ds} i e g h) = (
  ap (λ z. z % width_of c.ty) (let s : base + (o + c.at) ≡ base + o + c.at = omega arith in s)
      ∙ no_rest (width_of c.ty) (base + o + c.at) (both (width_of c.ty) (base + o) c.at (through (width_of c.ty) a (base + o) e d) g),
  cells_aligned base o a ds d h,
)

module _ (law : GlobalLaws) (planned : PlannedPremises) where
  open planned use {firmware as w, needs as n, final as f, board as b}

  abbrev p : Program
  p = resolve w

  abbrev l : Plan
  l = plan w n f b

  abbrev count : ℕ
  count = length p.globals

  abbrev addresses : List ℕ
  addresses = map (global_address_of planned) (numbers_below count)

  pub count_is : length addresses ≡ count
  count_is = length-map-range_with_len (global_address_of planned) 0 count

  pub address_is : (x : ℕ) → x < count → get_or addresses x 0 ≡ global_address_of planned x
  address_is x m = get_or-map-range_with_len (global_address_of planned) 0 count x x 0 m (let e : 0 + x ≡ x = omega arith in e)

  abbrev starts : List ℕ
  starts = map (λ (a : ℕ). a - b.ram_base) addresses

  abbrev shapes : List Shape
  shapes = global_shapes p

  start_is : (x : ℕ) → x < count → 0 + get_or starts x 0 ≡ global_address_of planned x - b.ram_base
  start_is x m =
      let size = count_is in
      let e = get_or-map (λ (a : ℕ). a - b.ram_base) addresses x 0 0 (omega (arith, size, m)) in
      let a = address_is x m in
      omega (arith, e, a)

  shape_is : (x : ℕ) → x < count → get_or shapes x empty ≡ (global_at p x).shape
  shape_is x m = get_or-map (λ (g : NumberedGlobal). g.shape) p.globals x no_global empty m

  -- the cells of a global
  abbrev cells : ℕ → List Area
  cells x = cells_at (global_address_of planned x - b.ram_base) (global_at p x).shape.cells

  cells_are : (x : ℕ) → x < count → cells_at (0 + get_or starts x 0) (get_or shapes x empty).cells ≡ cells x
  cells_are x m = ap (λ o. cells_at o (get_or shapes x empty).cells) (start_is x m) ∙ ap (λ (h : Shape). cells_at (global_address_of planned x - b.ram_base) h.cells) (shape_is x m)

  starts_below : (x : ℕ) → x < length starts → x < count
  starts_below x m = let size = count_is in let same = length-map addresses (λ (a : ℕ). a - b.ram_base) in omega (arith, m, size, same)

  each_cell : (P : Area → Type 0) → ((x : ℕ) → x < count → Each P (cells x)) → Each P (objects_at 0 starts shapes)
  each_cell P h = each_object P starts shapes (λ x i j. let m = starts_below x i in subst (Each P) (sym (cells_are x m)) (h x m))

  -- the bytes of a cell are bytes of its global
  pub record IsCell (x : ℕ) (c : Area) : Type 0 where
    pub low : global_address_of planned x ≤ b.ram_base + c.at
    pub high : b.ram_base + c.at + c.width ≤ global_address_of planned x + global_size p x
    pub some : 0 < c.width

  cells_of : (x : ℕ) → x < count → Each (IsCell x) (cells x)
  cells_of x m =
      let ram = (in_ram law planned x m).0 in
      each_to (IsIn (global_address_of planned x - b.ram_base) (global_size p x)) (IsCell x) (cells x)
      (λ c i. let low = i.low in let high = i.high in record { low = omega (arith, low, ram); high = omega (arith, high, ram); some = i.some })
      (cells_inside (global_address_of planned x - b.ram_base) (global_size p x) (global_at p x).shape.cells (global_shaped w x).sound.cells)

  each_of : (P : Area → Type 0) (x : ℕ) → x < count → ((c : Area) → IsCell x c → P c) → Each P (cells x)
  each_of P x m h = each_to (IsCell x) P (cells x) h (cells_of x m)

  pub inside : Each (λ (c : Area). c.at + c.width ≤ b.ram_size) (objects_at 0 starts shapes)
  inside =
      each_cell (λ (c : Area). c.at + c.width ≤ b.ram_size)
      (λ x m. each_of (λ (c : Area). c.at + c.width ≤ b.ram_size) x m (λ c i. let ram = (in_ram law planned x m).1 in let high = i.high in omega (arith, ram, high)))

  pub aligned : Each (λ (c : Area). (b.ram_base + c.at) % c.width ≡ 0) (objects_at 0 starts shapes)
  aligned =
      each_cell (λ (c : Area). (b.ram_base + c.at) % c.width ≡ 0)
      (λ x m.
      let ram = (in_ram law planned x m).0 in
      let there : b.ram_base + (global_address_of planned x - b.ram_base) ≡ global_address_of planned x = omega (arith, ram) in
      cells_aligned b.ram_base (global_address_of planned x - b.ram_base) (global_at p x).shape.align (global_at p x).shape.cells
      (subst (IsMultiple (global_at p x).shape.align) (sym there) (aligned_at law planned x m)) (global_shaped w x).fair.cells)

  beside : (x y : ℕ) → x < count → y < count → x ≢ y → (c d : Area) → IsCell x c → IsCell y d → Beside c d
  beside x y h k ne c d i j =
      let one = i.low in
      let two = i.high in
      let three = j.low in
      let four = j.high in
      ⊎_elim (λ le. inl (omega (arith, le))) (λ le. inr (omega (arith, le)))
      (apart_from (b.ram_base + c.at) c.width (b.ram_base + d.at) d.width i.some j.some
      (λ z s t u v. apart law planned x y z h k ne (record { low = omega (arith, one, s); high = omega (arith, two, t) }) (record { low = omega (arith, three, u); high = omega (arith, four, v) })))

  pub all_laid : Laid (objects_at 0 starts shapes)
  all_laid =
      objects_laid starts shapes
      (λ x i j. let m = starts_below x i in subst Laid (sym (cells_are x m)) (cells_laid (global_address_of planned x - b.ram_base) 0 (global_size p x) (global_at p x).shape.cells (global_shaped w x).sound.cells))
      (λ x y lt i j.
      let k = starts_below y i in
      let m : x < count = omega (arith, k, lt) in
      subst (λ cs. Each (λ c. Each (Beside c) (cells_at (0 + get_or starts y 0) (get_or shapes y empty).cells)) cs) (sym (cells_are x m))
      (subst (λ ds. Each (λ c. Each (Beside c) ds) (cells x)) (sym (cells_are y k))
      (each_of (λ c. Each (Beside c) (cells y)) x m (λ c g. each_of (Beside c) y k (λ d h. beside x y m k (λ e. omega (arith, e, lt)) c d g h)))))

  -- an area of RAM keeps off the stack and off the monitor's block
  abbrev IsOff : Area → Type 0
  IsOff c =
      ((c.at + c.width ≤ l.stack.base - b.ram_base) ⊎ (l.stack.base - b.ram_base + 8 * (l.stack.size / 8) ≤ c.at))
      × ((c.at + c.width ≤ l.monitor.base - b.ram_base) ⊎ (l.monitor.base - b.ram_base + block_size ≤ c.at))

  cell_off : (x : ℕ) → x < count → (c : Area) → IsCell x c → IsOff c
  cell_off x m c i =
      let low = i.low in
      let high = i.high in
      let stack = (stack_in law.plans planned).0.0 in
      let size = stack_size_is law.plans planned in
      let least = stack_least law.plans planned in
      let monitor = (monitor_in law.plans planned).0.0 in
      let whole = monitor_size_is law.plans planned in (
        ⊎_elim (λ le. inl (omega (arith, le, stack))) (λ le. inr (omega (arith, le, stack)))
            (apart_from (b.ram_base + c.at) c.width l.stack.base l.stack.size i.some (omega (arith, size, least))
            (λ z s t u v. off_stack law planned x z m (record { low = omega (arith, low, s); high = omega (arith, high, t) }) u v)),
        ⊎_elim (λ le. inl (omega (arith, le, monitor))) (λ le. inr (omega (arith, le, monitor)))
            (apart_from (b.ram_base + c.at) c.width l.monitor.base 1024 i.some (lit< tt)
            (λ z s t u v. off_monitor law planned x z m (record { low = omega (arith, low, s); high = omega (arith, high, t) }) u (omega (arith, v, whole)))),
      )

  pub off : Each IsOff (objects_at 0 starts shapes)
  off = each_cell IsOff (λ x m. each_of IsOff x m (cell_off x m))
