-- The records of filled blocks bring each cell of each global its first value.
use Rattle.std.proofs.Common.{◌≡◌, true, ℕ, suc, ◌+◌, ◌-◌, ◌*◌, ◌<◌, ◌≤◌, inl, inr, List, [], ◌∷◌, ◌++◌, length, get_or, map, refl, sym, ap, ◌∙◌, subst, arith}
use Rattle.std.specs.List.{range_with_len}
use Rattle.std.proofs.lemmas.List.{get_or-map}
use Rattle.std.proofs.lemmas.List.FromFn.{length-map-range_with_len, get_or-map-range_with_len}
use Rattle.base_words.specs.Bytes.{read, cut}
use Rattle.base_words.specs.Arithmetic.{word}
use Rattle.machine_model.specs.Confinement.{AnyOf}
use Rattle.base_laws.specs.Lists.{Each}
use Rattle.ir_model.specs.Types.{width_of}
use Rattle.ir_model.specs.Layout.{CellPlace}
use Rattle.ir_model.specs.Resolved.{Program, NumberedGlobal, Value, Number, Code, Null, At, OfGlobal, OfPeriph, OfLocal, no_global, global_at}
use Rattle.ir_model.specs.Resolve.{resolve}
use Rattle.ir_model.proofs.Counting.{rounded_at_least}
use Rattle.ir_laws.specs.Laws.{IsLaidOut}
use Rattle.ir_laws.specs.Typed.{TypedOverNumbers, sizes_of}
use Rattle.plan_model.specs.declared.plan.Plan.{Plan}
use Rattle.plan_model.specs.Boards.{slots_of}
use Rattle.plan_model.specs.Lists.{numbers_below, has}
use Rattle.plan_model.specs.Regions.{global_size}
use Rattle.plan_model.specs.Blocks.{offset_in_region, region_bytes}
use Rattle.plan_model.specs.TableSize.{words_in}
use Rattle.code_model.specs.declared.places.Places.{Places}
use Rattle.code_model.specs.Planned.{planned_entry, code_places}
use Rattle.monitor_model.specs.declared.tables.InitRecord.{InitRecord}
use Rattle.monitor_model.specs.declared.tables.Tables.{Tables}
use Rattle.monitor_model.specs.MonitorCode.{MonitorCode}
use Rattle.refine.specs.Areas.{Area}
use Rattle.refine.specs.Builds.{Build, entry_at, global_starts}
use Rattle.refine.specs.Relation.{cells_at, objects_at, global_areas, word_of, words_of, object_words}
use Rattle.refine.specs.Linked.{InFlash}
use Rattle.image_model.specs.Laws.{CountsAgree}
use Rattle.image_model.specs.FirstWords.{first_word, first_bytes}
use Rattle.image_model.specs.LinkedTables.{Filled, filled, object_places, words_begin, tables_of}
use Rattle.image_model.specs.LinkedImage.{linked}
use Rattle.image_promises.specs.Planned.{planned_tables}
use Rattle.plan.specs.PlannedFirmwares.{plan}
use Rattle.image_promises.specs.Laws.{FlashReadsBack}
use Rattle.image_promises.specs.Parts.{linked_build}
use Rattle.ir_laws.proofs.GlobalShapes.{global_shaped}
use Rattle.image_promises.proofs.PlannedPremises.{PlannedPremises, image_flash_of, global_address_of}
use Rattle.image_promises.proofs.GlobalAreas.{address_is}
use Rattle.image_promises.proofs.GlobalPlaces.{GlobalLaws, placed, in_ram, aligns}
use Rattle.image_promises.proofs.FilledBlocks.{is_filled}
use Rattle.image_promises.proofs.FirstValues.{IsKnown, values_known}
use Rattle.image_promises.proofs.CellWrites.{HasCells, cells_alike, block_holds}
use Rattle.image_promises.proofs.WordsBack.{IsBrought, brought, reads_back}
use Rattle.image_promises.proofs.InitialFlash.{words_stand, from_base}
use Rattle.image_promises.proofs.Products.{whole_words}
use Rattle.ir_laws.proofs.Layouts.{last_end}

any_weaker : {A : Type 0} (P Q : A → Type 0) → ((x : A) → P x → Q x) → (xs : List A) → AnyOf P xs → AnyOf Q xs
any_weaker P Q f [] h = h
any_weaker P Q f (x ∷ xs) (inl h) = inl (f x h)
any_weaker P Q f (x ∷ xs) (inr h) = inr (any_weaker P Q f xs h)

module _ (law : GlobalLaws) (counts : CountsAgree) (typing : TypedOverNumbers) (back : FlashReadsBack) (code : MonitorCode) (planned : PlannedPremises) where
  open planned use {firmware as w, needs as n, final as f, board as b, is_planned as ok}

  abbrev p : Program
  p = resolve w

  abbrev l : Plan
  l = plan w n f b

  abbrev t : Tables
  t = planned_tables w n f b

  abbrev q : Places
  q = object_places p n f l

  abbrev k : Build
  k = linked_build code w n f b

  abbrev count : ℕ
  count = length p.globals

  -- ---- the block of a global

  abbrev IsBlockOf : ℕ → Filled → Type 0
  IsBlockOf x c = (has c.globals x ≡ true) × (global_address_of planned x ≡ c.base + offset_in_region p c.globals x)

  filled_with : (x : ℕ) → x < count → AnyOf (IsBlockOf x) (filled f l)
  filled_with x lt = let i = placed law planned x lt in is_filled (IsBlockOf x) f l i.use_of i.is_use (i.has_it, i.address_is)

  low : (x : ℕ) → x < count → b.ram_base ≤ global_address_of planned x
  low x lt = (in_ram law planned x lt).0

  -- ---- its record

  -- a record whose range has so many bytes from an address on, and whose words bring values of cells behind it
  abbrev Brings : (at size : ℕ) → List CellPlace → List Value → InitRecord → Type 0
  Brings a size cs vs m = (m.at ≤ a) × (a + size ≤ m.end) × HasCells q (m.from - b.flash_base + (a - m.at)) cs vs (image_flash_of planned)

  brings : (x : ℕ) (c : Filled) (m : InitRecord) → IsBlockOf x c → IsBrought p q b.flash_base (image_flash_of planned) c m → Brings (global_address_of planned x) (global_size p x) (global_at p x).shape.cells (global_at p x).init m
  brings x c m h is =
      let at = is.at in
      let end = is.end in
      let e = h.1 in
      let lay = law.laid p c.globals (aligns law planned) in
      let among = lay.among x h.0 in
      let up = rounded_at_least (region_bytes p c.globals) 4 (omega arith) in
      let whole = whole_words (region_bytes p c.globals) in
      let off : ℕ = offset_in_region p c.globals x in
      let room : off + global_size p x ≤ 4 * words_in p c.globals = omega (arith, among, up, whole) in (
        omega (arith, at, e),
        omega (arith, end, e, room),
        cells_alike q off (m.from - b.flash_base + (global_address_of planned x - m.at)) 0 (global_size p x) (global_at p x).shape.cells (global_at p x).init (first_bytes p q c.globals) (image_flash_of planned) (global_shaped w x).sound.cells
            (λ v a le. (let s : m.from - b.flash_base + (global_address_of planned x - m.at) + a ≡ m.from - b.flash_base + (off + a) = omega (arith, at, e) in
            ap (λ o. read v o (image_flash_of planned)) s ∙ reads_back p q b.flash_base (image_flash_of planned) m.from c.globals is.words v (off + a) (omega (arith, le, room))))
            (block_holds q p (λ y. (global_shaped w y).sound.cells) c.globals lay x h.0),
      )

  brought_by : (x : ℕ) → x < count → AnyOf (Brings (global_address_of planned x) (global_size p x) (global_at p x).shape.cells (global_at p x).init) t.inits
  unfolding tables_of
  brought_by x lt =
      brought p q b.flash_base (image_flash_of planned) (IsBlockOf x) (Brings (global_address_of planned x) (global_size p x) (global_at p x).shape.cells (global_at p x).init) (brings x) (words_begin p n f l (slots_of b)) (filled f l)
      (from_base law.plans counts back planned) (filled_with x lt) (words_stand law.plans counts back planned)

  -- ---- words of values

  entry_is : (h : ℕ) → h < length p.funcs → entry_at k h ≡ get_or (map (planned_entry p n f l) (numbers_below (length p.funcs))) h 0
  unfolding entry_at
  entry_is h lt = sym (get_or-map-range_with_len (planned_entry p n f l) 0 (length p.funcs) h h 0 lt (let e : 0 + h ≡ h = omega arith in e))

  start_is : (x : ℕ) → x < count → b.ram_base + get_or (global_starts k) x 0 ≡ get_or (code_places p n f l).globals x 0
  unfolding global_starts linked
  start_is x lt =
      let long = length-map-range_with_len (global_address_of planned) 0 count in
      let m = get_or-map (λ (a : ℕ). a - b.ram_base) (map (global_address_of planned) (numbers_below count)) x 0 0 (omega (arith, long, lt)) in
      let e = address_is law planned x lt in
      let z = low x lt in
      omega (arith, m, e, z)

  word_is : (places : ℕ → ℕ) (v : Value) → IsKnown p v → word_of k places v ≡ first_word q v
  unfolding linked
  word_is places (Number m) h = refl
  word_is places (Code g) h = ap (λ e. e + 1) (entry_is g h)
  word_is places Null h = refl
  word_is places (At (OfGlobal x) at) h = ap (λ a. word (a + at)) (start_is x h.0)
  word_is places (At (OfPeriph y) at) h = refl
  word_is places (At (OfLocal g m x) at) h = absurd h.1

  -- ---- all cells

  cells_in : (places : ℕ → ℕ) (a s from size : ℕ) (cs : List CellPlace) (vs : List Value) (more : List Area) (ws : List ℕ) → b.ram_base + s ≡ a → length vs ≡ length cs → IsLaidOut from size cs
      → Each (IsKnown p) vs → AnyOf (Brings a size cs vs) t.inits → InFlash k more ws → InFlash k (cells_at s cs ++ more) (words_of k places vs ++ ws)
  unfolding linked
  cells_in places a s from size [] [] more ws e len lay known any rest = rest
  cells_in places a s from size [] (v ∷ vs) more ws e len lay known any rest = absurd (omega (arith, len))
  cells_in places a s from size (c ∷ cs) [] more ws e len lay known any rest = absurd (omega (arith, len))
  cells_in places a s from size (c ∷ cs) (v ∷ vs) more ws e len lay known any rest = (
    any_weaker (Brings a size (c ∷ cs) (v ∷ vs))
        (λ (m : InitRecord). (m.at ≤ b.ram_base + (s + c.at)) × (b.ram_base + (s + c.at) + width_of c.ty ≤ m.end)
        × (read (width_of c.ty) (m.from - b.flash_base + (b.ram_base + (s + c.at) - m.at)) (image_flash_of planned) ≡ cut (width_of c.ty) (word_of k places v)))
        one t.inits any,
    cells_in places a s (c.at + width_of c.ty) size cs vs more ws e (omega (arith, len)) lay.1 known.1
        (any_weaker (Brings a size (c ∷ cs) (v ∷ vs)) (Brings a size cs vs) (λ m h. (h.0, h.1, h.2.1)) t.inits any) rest,
  )
    where
      one : (m : InitRecord) → Brings a size (c ∷ cs) (v ∷ vs) m → (m.at ≤ b.ram_base + (s + c.at)) × (b.ram_base + (s + c.at) + width_of c.ty ≤ m.end)
          × (read (width_of c.ty) (m.from - b.flash_base + (b.ram_base + (s + c.at) - m.at)) (image_flash_of planned) ≡ cut (width_of c.ty) (word_of k places v))
      one m h =
          let from_at = h.0 in
          let to_end = h.1 in
          let ends = last_end (c.at + width_of c.ty) size cs lay.1 in
          let z : m.from - b.flash_base + (b.ram_base + (s + c.at) - m.at) ≡ m.from - b.flash_base + (a - m.at) + c.at = omega (arith, e, from_at) in (
            omega (arith, e, from_at),
            omega (arith, e, to_end, ends),
            ap (λ o. read (width_of c.ty) o (image_flash_of planned)) z ∙ (h.2.0 ∙ ap (cut (width_of c.ty)) (sym (word_is places v known.0))),
          )

  -- what is known of a global at an address
  record Begins (a : ℕ) (g : NumberedGlobal) : Type 0 where
    from_ram : b.ram_base ≤ a
    as_many : length g.init ≡ length g.shape.cells
    lies : IsLaidOut 0 g.shape.size g.shape.cells
    known : Each (IsKnown p) g.init
    has_record : AnyOf (Brings a g.shape.size g.shape.cells g.init) t.inits

  globals_in : (places : ℕ → ℕ) (x : ℕ) (gs : List NumberedGlobal) → ((j : ℕ) → j < length gs → Begins (global_address_of planned (x + j)) (get_or gs j no_global))
      → InFlash k (objects_at 0 (map (λ (a : ℕ). a - b.ram_base) (map (global_address_of planned) (range_with_len x (length gs)))) (map (λ (g : NumberedGlobal). g.shape) gs)) (object_words k places (map (λ (g : NumberedGlobal). g.init) gs))
  globals_in places x [] h = tt
  globals_in places x (g ∷ gs) h =
      let s : x + 0 ≡ x = omega arith in
      let one = subst (λ y. Begins (global_address_of planned y) g) s (h 0 (omega arith)) in
      let z = one.from_ram in
      cells_in places (global_address_of planned x) (0 + (global_address_of planned x - b.ram_base)) 0 g.shape.size g.shape.cells g.init _ _ (omega (arith, z)) one.as_many one.lies one.known one.has_record
      (globals_in places (x + 1) gs (λ j lt. subst (λ y. Begins (global_address_of planned y) (get_or gs j no_global)) (let e : x + suc j ≡ x + 1 + j = omega arith in e) (h (suc j) (omega (arith, lt)))))

  each_begins : (x : ℕ) → x < count → Begins (global_address_of planned x) (global_at p x)
  each_begins x lt =
      let typed = typing w ok.typed ok.within in
      record {
        from_ram = low x lt;
        as_many = typed.counts x;
        lies = (global_shaped w x).sound.cells;
        known = values_known w (sizes_of w) typed x;
        has_record = brought_by x lt;
      }

  pub globals_begin : (places : ℕ → ℕ) → InFlash k (global_areas k) (object_words k places (map (λ (g : NumberedGlobal). g.init) p.globals))
  unfolding global_starts linked
  globals_begin places = globals_in places 0 p.globals (λ j lt. (let e : j ≡ 0 + j = omega arith in subst (λ y. Begins (global_address_of planned y) (get_or p.globals j no_global)) e (each_begins j lt)))
