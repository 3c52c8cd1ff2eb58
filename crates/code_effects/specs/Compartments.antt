-- Beyond the program's claim: only laws, proofs and functions inside the tool cite this file.
-- The code of a compartment that stands at its base: where each of its functions stands, and where the labels of blocks lead.
use Rattle.std.specs.Prelude.{◌≡◌, ℕ, ◌+◌, ◌<◌, length}
use Rattle.std.proofs.Math.ListN.{get_or}
use Rattle.machine_thumb_asm.specs.Assembly.{place_of}
use Rattle.machine_devices.specs.declared.image.Image.{Image}
use Rattle.machine_model.specs.declared.state.ProtectionState.{ProtectionState}
use Rattle.machine_model.specs.State.{PermissionTest}
use Rattle.ir_model.specs.Resolved.{Program, func_at}
use Rattle.code_model.specs.Sizes.{place_offset}
use Rattle.code_model.specs.FunctionCode.{lent, function_items}
use Rattle.code_model.specs.CompartmentCode.{CodeGroups, CodePlaces, compartment_of, before, sites_of, label_count, entry_of, places_of, compartment_items, compartment_labels}
use Rattle.code_effects.specs.Items.{ItemsAt}

pub record CompartmentsStand : Type 0 where
  -- a function stands at its entry where the code of its compartment stands
  pub functions : (j : PermissionTest) (i : Image) (x : ProtectionState) (p : Program) (groups : CodeGroups) (places : CodePlaces) (f : ℕ) → f < length groups.compartments →
      ItemsAt j i x (compartment_labels p groups places (compartment_of p groups f)) (get_or places.bases (compartment_of p groups f) 0) (compartment_items p groups places (compartment_of p groups f)) →
      ItemsAt j i x (compartment_labels p groups places (compartment_of p groups f)) (entry_of p groups places f)
      (function_items (func_at p f) (places_of p groups places f) (label_count p groups (before p groups f)) (entry_of p groups places f))
  -- the label of a block leads to its first place
  pub labels : (p : Program) (groups : CodeGroups) (places : CodePlaces) (f b : ℕ) → f < length groups.compartments → b < length (func_at p f).blocks →
      place_of (compartment_labels p groups places (compartment_of p groups f)) (label_count p groups (before p groups f) + b)
      ≡ entry_of p groups places f + place_offset (func_at p f) (sites_of p groups f) (lent (func_at p f) (places_of p groups places f)) b 0
