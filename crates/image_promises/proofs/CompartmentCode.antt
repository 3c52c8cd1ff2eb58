-- The code of the compartments of a plan has an encoding, and its bytes are bytes.
use Rattle.std.proofs.Common.{◌≡◌, ℕ, ◌+◌, ◌%◌, ◌<◌, ◌≤◌, Bool, true, false, List, [], ◌∷◌, length, get_or, nat_eq, if◌then◌else◌, Option, refl, arith}
use Rattle.base_words.specs.Bytes.{AreBytes}
use Rattle.machine_thumb.specs.declared.table.Instr.TheVariants.{BreakpointNop}
use Rattle.machine_thumb.specs.Laws.{ShowsItsLength}
use Rattle.machine_thumb_asm.specs.Assembly.{total}
use Rattle.ir_model.specs.Resolved.{Program, func_at}
use Rattle.ir_model.specs.Resolve.{resolve}
use Rattle.ir_laws.specs.Limits.{WindowsLieApart}
use Rattle.ir_laws.specs.Typed.{TypedOverNumbers, sizes_of}
use Rattle.plan_model.specs.declared.plan.Plan.{Plan}
use Rattle.code_model.specs.declared.places.Places.{Places}
use Rattle.code_model.specs.Words.{plain}
use Rattle.code_model.specs.FunctionCode.{function_items, function_labels}
use Rattle.code_model.specs.CompartmentCode.{compartment_of, before, filling, size_of, label_count, entry_of, places_of, filled_items, compartment_items, compartment_labels}
use Rattle.code_model.specs.Planned.{planned_code}
use Rattle.code_model.specs.Laws.{SizesHold, SitesAgree}
use Rattle.code_lower_laws.specs.Fitting.{TypedFunctionsFit, TypedJumpsInside}
use Rattle.code_lower_laws.specs.Reaching.{CompartmentsReach}
use Rattle.code_effects.specs.Items.{InstructionsInTable}
use Rattle.monitor_program.specs.TheCode.{monitor_code}
use Rattle.plan.specs.PlannedFirmwares.{plan}
use Rattle.image_promises.proofs.PlannedPremises.{PlannedPremises, code_groups_of, code_places_of}
use Rattle.image_promises.proofs.ReadBack.{ReadLaws}
use Rattle.image_promises.specs.Parts.{CodeIsPlaced}
use Rattle.image_promises.proofs.ByteLists.{below_at}
use Rattle.image_promises.proofs.Encodable.{Encodable, encodable-append, in_table, pieces_below}
use Rattle.image_promises.proofs.EntryPlaces.{is, base_is, from_base, code_room, block_end, entry_in, entry_aligned}
use Rattle.image_promises.proofs.EvenLabels.{EvenLabels, labels-append, lead_even, function_even}
use Rattle.image_promises.proofs.FunctionItems.{function_encodable}
use Rattle.image_promises.proofs.Members.{all_good, function_room}
use Rattle.image_promises.proofs.PlannedPlaces.{places_fit, frame_fits}

-- what else is known of the code of firmwares
pub record CodeLaws : Type 0 where
  pub read : ReadLaws
  pub placed : CodeIsPlaced
  pub typing : TypedOverNumbers
  pub windows : WindowsLieApart
  pub sizes : SizesHold
  pub sites : SitesAgree
  pub fit : TypedFunctionsFit
  pub inside : TypedJumpsInside
  pub reach : CompartmentsReach
  pub lengths : ShowsItsLength

filling_in : (t : Bool) → Encodable (if t then [] else plain (BreakpointNop 1 0 ∷ []))
filling_in true = tt
filling_in false = ((omega arith, omega arith, λ e. refl), tt)

module _ (law : CodeLaws) (planned : PlannedPremises) where
  open planned use {firmware as w, needs as n, final as f, board as b, is_planned as ok}

  abbrev p : Program
  p = resolve w

  abbrev l : Plan
  l = plan w n f b

  -- ---- a function

  abbrev q : (func : ℕ) → Places
  q h = places_of p (code_groups_of planned) (code_places_of planned) h

  code_total : (h : ℕ) → total (function_items (func_at p h) (q h) (label_count p (code_groups_of planned) (before p (code_groups_of planned) h)) (entry_of p (code_groups_of planned) (code_places_of planned) h)) ≡ size_of p (code_groups_of planned) h
  code_total h = law.sizes.functions (func_at p h) (q h) (label_count p (code_groups_of planned) (before p (code_groups_of planned) h)) (entry_of p (code_groups_of planned) (code_places_of planned) h)

  code_ends : (h : ℕ) → h < length p.funcs → entry_of p (code_groups_of planned) (code_places_of planned) h + size_of p (code_groups_of planned) h ≤ b.flash_base + 0x100000
  code_ends h there =
      let c : ℕ = compartment_of p (code_groups_of planned) h in
      let all = (is law.read law.placed monitor_code planned).count in
      let in_one : c < f.groups.count = (is law.read law.placed monitor_code planned).each h there in
      let room = function_room p (code_groups_of planned) h (omega (arith, there, all)) in
      let e = base_is law.read law.placed monitor_code planned c in_one in
      let has = code_room law.read law.placed monitor_code planned c in_one in
      let end = block_end law.read law.placed monitor_code planned c in_one in
      omega (arith, room, e, has, end)

  entry_even : (h : ℕ) → entry_of p (code_groups_of planned) (code_places_of planned) h % 2 ≡ 0
  entry_even h = let e = entry_aligned law.read law.placed monitor_code planned h in omega (arith, e)

  filled_encodable : (h : ℕ) → h < length p.funcs → Encodable (filled_items p (code_groups_of planned) (code_places_of planned) h)
  filled_encodable h there =
      let top = ok.board.flash_highest in
      let t = code_total h in
      let end = code_ends h there in
      let first : ℕ = label_count p (code_groups_of planned) (before p (code_groups_of planned) h) in
      encodable-append (function_items (func_at p h) (q h) first (entry_of p (code_groups_of planned) (code_places_of planned) h)) (filling (size_of p (code_groups_of planned) h))
      (function_encodable b.flash_base (b.flash_base + 0x100000) (omega arith) (omega (arith, top)) p (sizes_of w) (func_at p h) (q h)
      (places_fit law.read law.placed law.fit law.sites law.windows planned h there)
      (frame_fits law.read law.placed law.fit law.sites law.windows planned h there)
      law.sizes first ((law.typing w ok.typed ok.within).funcs h) (entry_of p (code_groups_of planned) (code_places_of planned) h) (entry_in law.read law.placed monitor_code planned h there).from (omega (arith, t, end)) (entry_even h))
      (filling_in (nat_eq (size_of p (code_groups_of planned) h % 4) 0))

  labels_even : (h : ℕ) → h < length p.funcs → EvenLabels (function_labels (func_at p h) (q h) (entry_of p (code_groups_of planned) (code_places_of planned) h))
  labels_even h there = let top = ok.board.flash_highest in let end = code_ends h there in function_even law.sizes (func_at p h) (q h) (entry_of p (code_groups_of planned) (code_places_of planned) h) (entry_even h) (omega (arith, top, end))

  -- ---- a compartment

  of_all : {A : Type 0} (Good : List A → Type 0) (pieces : ℕ → List A) → ((h : ℕ) → h < length p.funcs → Good (pieces h)) → (h : ℕ) → h < 0 + length (code_groups_of planned).compartments → Good (pieces h)
  of_all Good pieces each h m = each h (let all = (is law.read law.placed monitor_code planned).count in omega (arith, m, all))

  items_encodable : (c : ℕ) → Encodable (compartment_items p (code_groups_of planned) (code_places_of planned) c)
  items_encodable c = all_good Encodable tt encodable-append (filled_items p (code_groups_of planned) (code_places_of planned)) 0 c (code_groups_of planned).compartments (of_all Encodable (filled_items p (code_groups_of planned) (code_places_of planned)) filled_encodable)

  all_even : (c : ℕ) → EvenLabels (compartment_labels p (code_groups_of planned) (code_places_of planned) c)
  all_even c =
      let labels : ℕ → List (Option ℕ) = λ h. function_labels (func_at p h) (q h) (entry_of p (code_groups_of planned) (code_places_of planned) h) in
      all_good EvenLabels tt labels-append labels 0 c (code_groups_of planned).compartments (of_all EvenLabels labels labels_even)

  pub code_in_table : (c : ℕ) → c < f.groups.count → InstructionsInTable (compartment_labels p (code_groups_of planned) (code_places_of planned) c) (get_or (code_places_of planned).bases c 0) (compartment_items p (code_groups_of planned) (code_places_of planned) c)
  code_in_table c there =
      let e = base_is law.read law.placed monitor_code planned c there in
      let from = from_base law.read law.placed monitor_code planned c there in
      let has = code_room law.read law.placed monitor_code planned c there in
      let end = block_end law.read law.placed monitor_code planned c there in
      let top = ok.board.flash_highest in
      let t = law.read.code.sizes p (code_groups_of planned) (code_places_of planned) c in
      let four = (is law.read law.placed monitor_code planned).aligned c in
      let near = law.reach p (code_groups_of planned) (code_places_of planned) c (law.inside w ok.typed ok.within) (omega (arith, from, has, end)) in
      in_table (compartment_labels p (code_groups_of planned) (code_places_of planned) c) (lead_even (compartment_labels p (code_groups_of planned) (code_places_of planned) c) (all_even c)) (compartment_items p (code_groups_of planned) (code_places_of planned) c) (get_or (code_places_of planned).bases c 0) (items_encodable c) (omega (arith, four))
      (omega (arith, e, has, end, top, t)) near

  pub code_bytes : (c : ℕ) → c < f.groups.count → AreBytes (planned_code p n f l c)
  code_bytes c there k = below_at 256 (planned_code p n f l c) k (omega arith) (pieces_below law.lengths (compartment_labels p (code_groups_of planned) (code_places_of planned) c) (get_or (code_places_of planned).bases c 0) (compartment_items p (code_groups_of planned) (code_places_of planned) c) (code_in_table c there))
