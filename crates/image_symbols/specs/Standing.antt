-- Beyond the program's claim: only laws, proofs and functions inside the tool cite this file.
-- Where code stands in the image of a planned firmware, byte by byte: statements of laws.
use Rattle.std.specs.Prelude.{◌≡◌, ℕ, ◌+◌, ◌-◌, ◌<◌, ◌≤◌, List, length, slice_index, Option}
use Rattle.std.proofs.Math.ListN.{get_or}
use Rattle.machine_thumb_asm.specs.declared.item.Item.{Item}
use Rattle.machine_thumb_asm.specs.Finished.{bytes_from}
use Rattle.machine_devices.specs.declared.image.Image.{Image}
use Rattle.ir_model.specs.Plain.{PlainFirmware}
use Rattle.ir_model.specs.Resolve.{resolve}
use Rattle.ir_model.specs.Resolved.{Program, NumberedFunc, func_at, no_block}
use Rattle.ir_model.specs.Signatures.{here_of}
use Rattle.plan_model.specs.declared.needs.Needs.{Needs}
use Rattle.plan_model.specs.declared.graph.Final.{Final}
use Rattle.plan_model.specs.declared.plan.Board.{Board}
use Rattle.code_model.specs.declared.places.Places.{Places}
use Rattle.code_model.specs.Sizes.{place_offset}
use Rattle.code_model.specs.FunctionCode.{lent, function_items, here_items}
use Rattle.code_model.specs.CompartmentCode.{CodeGroups, CodePlaces, compartment_of, before, label_count, entry_of, places_of, compartment_labels}
use Rattle.code_model.specs.Planned.{code_groups, code_places}
use Rattle.image_promises.specs.Planned.{planned_image}
use Rattle.plan.specs.PlannedFirmwares.{IsPlanned, plan}

-- from this offset on flash has these bytes
abbrev pub Has : Image → (offset : ℕ) → (bytes : List ℕ) → Type 0
Has i o bytes = (k : ℕ) → k < length bytes → slice_index i.flash (o + k) ≡ slice_index bytes k

-- ---- of a firmware `w` with its needs, its final graph and a board

module _ (w : PlainFirmware) (n : Needs) (f : Final) (b : Board) where
  abbrev pub program : Program
  program = resolve w

  abbrev pub groups : CodeGroups
  groups = code_groups program n f.groups

  abbrev pub places : CodePlaces
  places = code_places program n f (plan w n f b)

  abbrev pub entry : (func : ℕ) → ℕ
  entry h = entry_of program groups places h

  -- the labels of a function's compartment, and the number of its own first one
  abbrev pub labels : (func : ℕ) → List (Option ℕ)
  labels h = compartment_labels program groups places (compartment_of program groups h)

  abbrev pub first : (func : ℕ) → ℕ
  first h = label_count program groups (before program groups h)

  -- the pieces of its code, and those of one of its places
  abbrev pub items : (func : ℕ) → List Item
  items h = function_items (func_at program h) (places_of program groups places h) (first h) (entry h)

  abbrev pub address : (func block place : ℕ) → ℕ
  address h b1 k =
      let g : NumberedFunc = func_at program h in
      let q : Places = places_of program groups places h in
      entry h + place_offset g q.sites (lent g q) b1 k

  abbrev pub items_at : (func block place : ℕ) → List Item
  items_at h b1 k =
      let g : NumberedFunc = func_at program h in
      here_items g (places_of program groups places h) (first h) (address h b1 k) b1 k (here_of g b1 k)

  -- the bytes of these pieces stand there
  abbrev pub Stand : (func address : ℕ) → List Item → Type 0
  Stand h a xs = Has (planned_image w n f b) (a - b.flash_base) (bytes_from (labels h) a xs)

-- the code of each function stands at its entry
abbrev pub FunctionsStand : Type 0
FunctionsStand = (w : PlainFirmware) (n : Needs) (f : Final) (b : Board) → IsPlanned w n f b → (h : ℕ) → h < length (resolve w).funcs → (b.flash_base ≤ entry w n f b h) × Stand w n f b h (entry w n f b h) (items w n f b h)

-- and the code of each place at its address; the place behind a block's instructions is its end
abbrev pub PlacesStand : Type 0
PlacesStand =
    (w : PlainFirmware) (n : Needs) (f : Final) (b : Board) → IsPlanned w n f b → (h c k : ℕ) → h < length (resolve w).funcs → c < length (func_at (resolve w) h).blocks →
    k ≤ length (get_or (func_at (resolve w) h).blocks c no_block).insts → Stand w n f b h (address w n f b h c k) (items_at w n f b h c k)
