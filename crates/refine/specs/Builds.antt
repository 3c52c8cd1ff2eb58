-- Beyond the program's claim: only laws, proofs and functions inside the tool cite this file.
-- What was built of a firmware, and where its parts stand.
use Rattle.std.specs.Prelude.{ℕ, ◌+◌, ◌-◌, List, length, map, Option}
use Rattle.ir_model.specs.Resolved.{Program, NumberedFunc, func_at}
use Rattle.plan_model.specs.declared.needs.Needs.{Needs}
use Rattle.plan_model.specs.declared.groups.Groups.{Groups}
use Rattle.plan_model.specs.Groups as grouped
use Rattle.plan_model.specs.Crossing.{site_number}
use Rattle.code_model.specs.declared.places.Places.{Places}
use Rattle.code_model.specs.FrameShape.{frame_shape, local_starts}
use Rattle.code_model.specs.Places.{Lend}
use Rattle.code_model.specs.Templates.{lends_of}
use Rattle.code_model.specs.Sizes.{place_offset, resume_offset, site_offset}
use Rattle.code_model.specs.CompartmentCode.{CodeGroups, CodePlaces, before, label_count, entry_of, places_of, compartment_labels}
use Rattle.code_model.specs.Planned.{code_groups}
use Rattle.monitor_model.specs.Setting.{Setting}
use Rattle.monitor_model.specs.Threads.{base}

pub record Build : Type 0 where
  -- of the image and of the monitor's tables
  pub setting : Setting
  pub program : Program
  pub needs : Needs
  pub groups : Groups
  -- where compartments' code, globals and windows begin
  pub places : CodePlaces

module _ (k : Build) where
  abbrev pub groups_of : CodeGroups
  groups_of = code_groups k.program k.needs k.groups

  abbrev pub compartment_of : (func : ℕ) → ℕ
  compartment_of f = grouped.compartment_of k.groups f

  abbrev pub func : ℕ → NumberedFunc
  func f = func_at k.program f

  -- what the code of a function needs from outside, the labels of its compartment, and its own first label
  unfoldable pub places_at : (func : ℕ) → Places
  places_at f = places_of k.program groups_of k.places f

  unfoldable pub labels_at : (func : ℕ) → List (Option ℕ)
  labels_at f = compartment_labels k.program groups_of k.places (compartment_of f)

  unfoldable pub first_at : (func : ℕ) → ℕ
  first_at f = label_count k.program groups_of (before k.program groups_of f)

  -- of a function's frame: the words below its return address, where each local begins in it, and those that are lent
  unfoldable pub words_at : (func : ℕ) → ℕ
  words_at f = (frame_shape (func f)).words

  abbrev pub starts_at : (func : ℕ) → List ℕ
  starts_at f = local_starts (func f)

  abbrev pub lends_at : (func : ℕ) → List Lend
  lends_at f = lends_of (func f) (places_at f)

  -- the entry of a function, the code of a place, the address that a call there returns to, and its site's halfword
  unfoldable pub entry_at : (func : ℕ) → ℕ
  entry_at f = entry_of k.program groups_of k.places f

  unfoldable pub code_at : (func block place : ℕ) → ℕ
  code_at f b p = entry_at f + place_offset (func f) (places_at f).sites (length (lends_at f)) b p

  unfoldable pub behind_at : (func block place : ℕ) → ℕ
  behind_at f b p = entry_at f + resume_offset (func f) (places_at f).sites (length (lends_at f)) b p

  unfoldable pub half_at : (func block place : ℕ) → ℕ
  half_at f b p = entry_at f + site_offset (func f) (places_at f).sites (length (lends_at f)) b p

  -- the number of the crossing site at a place, if one stands there
  abbrev pub site_at : (func block place : ℕ) → Option ℕ
  site_at f b p = site_number k.needs k.groups f b p

  -- where globals begin, from RAM's base on
  unfoldable pub global_starts : List ℕ
  global_starts = map (λ (a : ℕ). a - base k.setting) k.places.globals
