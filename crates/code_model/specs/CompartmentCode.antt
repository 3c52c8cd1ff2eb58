-- The code of compartments: the functions of a compartment stand one behind the other, in order of declaration, each filled up by a
-- NOP to a multiple of four bytes.
use Rattle.std.specs.Prelude.{ℕ, suc, ◌+◌, ◌%◌, List, [], ◌∷◌, ◌++◌, length, map, take, Option, nat_eq, if◌then◌else◌}
use Rattle.std.specs.List.{flat_map, range_with_len}
use Rattle.std.proofs.Math.ListN.{get_or}
use Rattle.machine_thumb.specs.declared.table.Instr.TheVariants.{BreakpointNop}
use Rattle.machine_thumb_asm.specs.declared.item.Item.{Item}
use Rattle.machine_thumb_asm.specs.Finished.{bytes_from}
use Rattle.ir_model.specs.Layout.{rounded_up}
use Rattle.ir_model.specs.Resolved.{Program, func_at}
use Rattle.code_model.specs.declared.places.CallSite.{CallSite}
use Rattle.code_model.specs.declared.places.Places.{Places}
use Rattle.code_model.specs.FrameShape.{local_starts}
use Rattle.code_model.specs.Places.{lends_among}
use Rattle.code_model.specs.Words.{plain}
use Rattle.code_model.specs.Sizes as sizes
use Rattle.code_model.specs.FunctionCode.{function_items, function_labels}

-- what the grouping of functions decides: the compartment of each function, its calls that may go to another compartment, and the
-- numbers by which its locals are lent
pub record CodeGroups : Type 0 where
  pub compartments : List ℕ
  pub sites : List (List CallSite)
  pub lends : List (List (Option ℕ))

-- where the code of each compartment, each global and each peripheral's window begins
pub record CodePlaces : Type 0 where
  pub bases : List ℕ
  pub globals : List ℕ
  pub windows : List ℕ

-- those functions that stand in a compartment, by the compartments of all from this one on
abbrev pub members_from : (func : ℕ) → (compartments : List ℕ) → (compartment : ℕ) → List ℕ
members_from f [] c = []
members_from f (d ∷ ds) c = if nat_eq d c then f ∷ members_from (suc f) ds c else members_from (suc f) ds c

abbrev pub filled_size : ℕ → ℕ
filled_size n = rounded_up n 4

-- NOP
abbrev pub filling : (size : ℕ) → List Item
filling n = if nat_eq (n % 4) 0 then [] else plain (BreakpointNop 1 0 ∷ [])

module _ (p : Program) (groups : CodeGroups) where
  abbrev pub compartment_of : (func : ℕ) → ℕ
  compartment_of f = get_or groups.compartments f 0

  abbrev pub members : (compartment : ℕ) → List ℕ
  members c = members_from 0 groups.compartments c

  -- the functions of its compartment that stand before a function
  abbrev pub before : (func : ℕ) → List ℕ
  before f = members_from 0 (take f groups.compartments) (compartment_of f)

  abbrev pub sites_of : (func : ℕ) → List CallSite
  sites_of f = get_or groups.sites f []

  abbrev pub lends_of : (func : ℕ) → List (Option ℕ)
  lends_of f = get_or groups.lends f []

  abbrev pub size_of : (func : ℕ) → ℕ
  size_of f = sizes.function_size (func_at p f) (sites_of f) (length (lends_among (local_starts (func_at p f)) (lends_of f)))

  abbrev pub total_size : (funcs : List ℕ) → ℕ
  total_size [] = 0
  total_size (f ∷ fs) = filled_size (size_of f) + total_size fs

  abbrev pub compartment_size : (compartment : ℕ) → ℕ
  compartment_size c = total_size (members c)

  -- the size of the code of each compartment
  abbrev pub code_sizes : (compartments : ℕ) → List ℕ
  code_sizes n = map compartment_size (range_with_len 0 n)

  -- blocks have labels, numbered through a compartment
  abbrev pub label_count : (funcs : List ℕ) → ℕ
  label_count [] = 0
  label_count (f ∷ fs) = length (func_at p f).blocks + label_count fs

  module _ (at : CodePlaces) where
    abbrev pub entry_of : (func : ℕ) → ℕ
    entry_of f = get_or at.bases (compartment_of f) 0 + total_size (before f)

    abbrev pub places_of : (func : ℕ) → Places
    places_of f =
        record {
          globals = at.globals;
          windows = at.windows;
          entries = map entry_of (range_with_len 0 (length p.funcs));
          sites = sites_of f;
          lends = lends_of f;
        }

    abbrev pub filled_items : (func : ℕ) → List Item
    filled_items f = function_items (func_at p f) (places_of f) (label_count (before f)) (entry_of f) ++ filling (size_of f)

    abbrev pub compartment_items : (compartment : ℕ) → List Item
    compartment_items c = flat_map filled_items (members c)

    abbrev pub compartment_labels : (compartment : ℕ) → List (Option ℕ)
    compartment_labels c = flat_map (λ f. function_labels (func_at p f) (places_of f) (entry_of f)) (members c)

    abbrev pub compartment_bytes : (compartment : ℕ) → List ℕ
    compartment_bytes c = bytes_from (compartment_labels c) (get_or at.bases c 0) (compartment_items c)
