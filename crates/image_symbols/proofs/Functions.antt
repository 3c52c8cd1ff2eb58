-- Where functions and their places stand.
use Rattle.std.proofs.Common.{◌≡◌, ℕ, suc, ◌+◌, ◌-◌, ◌<◌, ◌≤◌, List, [], ◌∷◌, ◌++◌, length, flat_map, take, drop, get_or, true, nat_eq, refl, ap, sym, ◌∙◌, subst, append_assoc, arith}
use Rattle.std.proofs.lemmas.Bool.Decides.{nat_tests}
use Rattle.std.proofs.lemmas.List.{take-append-drop}
use Rattle.std.proofs.lemmas.List.Concat.{flat_map-append}
use Rattle.std.proofs.lemmas.List.FromFn.{get_or-map-range_with_len, length-map-range_with_len}
use Rattle.machine_thumb_asm.specs.declared.item.Item.{Item}
use Rattle.machine_thumb_asm.specs.Assembly.{total}
use Rattle.machine_thumb_asm.specs.Finished.{bytes_from}
use Rattle.machine_thumb_asm.proofs.Items.{total-append}
use Rattle.ir_model.specs.Plain.{PlainFirmware}
use Rattle.ir_model.specs.Resolve.{resolve}
use Rattle.ir_model.specs.Resolved.{func_at}
use Rattle.plan_model.specs.declared.needs.Needs.{Needs}
use Rattle.plan_model.specs.declared.graph.Final.{Final}
use Rattle.plan_model.specs.declared.plan.Board.{Board}
use Rattle.plan_model.specs.declared.plan.Plan.{Plan}
use Rattle.plan_model.specs.declared.plan.Sizes.{Sizes}
use Rattle.plan_model.specs.declared.plan.Spot.{Spot}
use Rattle.plan_model.specs.FlashPlacement.{bytes_before, code_spot, flash_blocks}
use Rattle.plan_model.specs.Placement.{no_spot, plan_of, compartment_spot}
use Rattle.code_model.specs.CompartmentCode.{CodeGroups, CodePlaces, members_from, members, before, compartment_of, size_of, total_size, filling, filled_items, compartment_items, places_of}
use Rattle.code_model.specs.FunctionCode.{lent}
use Rattle.code_model.specs.Sizes.{place_offset}
use Rattle.code_model.specs.Laws.{PiecesStand}
use Rattle.code_model.proofs.Compartments.{filled_total}
use Rattle.code_model.proofs.Members.{member_kept}
use Rattle.monitor_program.specs.TheCode.{monitor_code}
use Rattle.image_promises.specs.Planned.{planned_image}
use Rattle.plan.specs.PlannedFirmwares.{IsPlanned, plan, planned_sizes}
use Rattle.image_promises.specs.CodeInFlash.{CodeIsExact}
use Rattle.image_promises.specs.Parts.{CodeIsPlaced}
use Rattle.image_symbols.specs.Standing as standing
use Rattle.image_symbols.specs.Standing.{Has, FunctionsStand, PlacesStand}
use Rattle.base_laws.proofs.Lists.{get_or_mapped}
use Rattle.image_symbols.proofs.SymbolParts.{members_append, middle}

module _ (w : PlainFirmware) (n : Needs) (f : Final) (b : Board) where
  abbrev s : Sizes
  s = planned_sizes w n f b

  abbrev l : Plan
  l = plan w n f b

  abbrev groups : CodeGroups
  groups = standing.groups w n f b

  abbrev places : CodePlaces
  places = standing.places w n f b

  abbrev F : ℕ → List Item
  F = filled_items (resolve w) groups places

  -- ---- where a compartment's code begins

  spot_is : (c : ℕ) → c < f.groups.count → compartment_spot l c ≡ code_spot b.flash_base s c
  unfolding plan_of
  spot_is c there =
      let count : length s.code ≡ f.groups.count = length-map-range_with_len _ 0 f.groups.count in
      get_or-map-range_with_len (code_spot b.flash_base s) 0 (length s.code) c c no_spot (omega (arith, there, count)) (omega arith)

  base_is : (c : ℕ) → get_or places.bases c 0 ≡ (compartment_spot l c).base
  base_is c = get_or_mapped (λ (x : Spot). x.base) l.code c no_spot

  base_from : (c : ℕ) → c < f.groups.count → b.flash_base ≤ (compartment_spot l c).base
  base_from c there =
      let e = ap (λ (x : Spot). x.base) (spot_is c there) in
      let m = bytes_before (flash_blocks s) (suc c) in
      omega (arith, e)

  -- ---- a function among those of its compartment

  rest : (func : ℕ) → List ℕ
  rest h = members_from (0 + length (take (h + 1) groups.compartments)) (drop (h + 1) groups.compartments) (compartment_of (resolve w) groups h)

  split : (h : ℕ) → h < length groups.compartments → members (resolve w) groups (compartment_of (resolve w) groups h) ≡ before (resolve w) groups h ++ (h ∷ rest h)
  unfolding rest
  split h there =
      let cs = groups.compartments in
      let c = compartment_of (resolve w) groups h in
      let same : nat_eq (get_or cs h 0) c ≡ true = search (nat_tests, arith) in
      ap (λ xs. members_from 0 xs c) (sym (take-append-drop (h + 1) cs))
      ∙ (members_append 0 (take (h + 1) cs) (drop (h + 1) cs) c
      ∙ (ap (λ ms. ms ++ rest h) (member_kept h cs c there same)
      ∙ append_assoc (before (resolve w) groups h) (h ∷ []) (rest h)))

  items_total : (hs : List ℕ) → total (flat_map F hs) ≡ total_size (resolve w) groups hs
  items_total [] = refl
  items_total (h ∷ hs) = omega (arith, items_total hs, total-append (F h) (flat_map F hs), filled_total (resolve w) groups places h)

  parted : (h : ℕ) → h < length groups.compartments → compartment_items (resolve w) groups places (compartment_of (resolve w) groups h)
      ≡ flat_map F (before (resolve w) groups h) ++ (standing.items w n f b h ++ (filling (size_of (resolve w) groups h) ++ flat_map F (rest h)))
  parted h there =
      ap (flat_map F) (split h there)
      ∙ (flat_map-append F (before (resolve w) groups h) (h ∷ rest h)
      ∙ ap (λ xs. flat_map F (before (resolve w) groups h) ++ xs) (append_assoc (standing.items w n f b h) (filling (size_of (resolve w) groups h)) (flat_map F (rest h))))

  -- ---- its bytes

  function_stands : CodeIsPlaced → CodeIsExact → IsPlanned w n f b → (h : ℕ) → h < length (resolve w).funcs
      → (b.flash_base ≤ standing.entry w n f b h) × standing.Stand w n f b h (standing.entry w n f b h) (standing.items w n f b h)
  function_stands placed exact ok h there =
      let p = resolve w in
      let c : ℕ = compartment_of p groups h in
      let is = placed monitor_code w n f b ok in
      let in_one : c < f.groups.count = is.each h there in
      let listed : h < length groups.compartments = omega (arith, there, is.count) in
      let t = total_size p groups (before p groups h) in
      let base = get_or places.bases c 0 in
      let e = base_is c in
      let from = base_from c in_one in
      let whole : Has (planned_image w n f b) ((compartment_spot l c).base - b.flash_base) (bytes_from (standing.labels w n f b h) base (compartment_items p groups places c)) = λ k m. exact w n f b ok c k in_one m in
      let inside = middle (planned_image w n f b) (standing.labels w n f b h) ((compartment_spot l c).base - b.flash_base) base t (compartment_items p groups places c)
      (flat_map F (before p groups h)) (standing.items w n f b h) (filling (size_of p groups h) ++ flat_map F (rest h)) (parted h listed) (items_total (before p groups h)) whole in
      let at : (compartment_spot l c).base - b.flash_base + t ≡ base + t - b.flash_base = omega (arith, e, from) in
      (omega (arith, e, from), subst (λ (o : ℕ). Has (planned_image w n f b) o (bytes_from (standing.labels w n f b h) (base + t) (standing.items w n f b h))) at inside)

pub functions : CodeIsPlaced → CodeIsExact → FunctionsStand
functions placed exact w n f b ok h there = function_stands w n f b placed exact ok h there

pub places_of_functions : FunctionsStand → PiecesStand → PlacesStand
places_of_functions stand pieces w n f b ok h c k there block place =
    let p = resolve w in
    let g = func_at p h in
    let q = places_of p (standing.groups w n f b) (standing.places w n f b) h in
    let a = standing.entry w n f b h in
    let o = place_offset g q.sites (lent g q) c k in
    let whole = stand w n f b ok h there in
    let piece = pieces.places g q (standing.first w n f b h) a c k block place in
    let inside = middle (planned_image w n f b) (standing.labels w n f b h) (a - b.flash_base) a o (standing.items w n f b h) piece.front (standing.items_at w n f b h c k) piece.rest piece.parts piece.behind whole.1 in
    let at : a - b.flash_base + o ≡ a + o - b.flash_base = omega (arith, whole.0) in
    subst (λ (m : ℕ). Has (planned_image w n f b) m (bytes_from (standing.labels w n f b h) (a + o) (standing.items_at w n f b h c k))) at inside
