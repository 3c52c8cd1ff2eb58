-- Beyond the program's claim: only laws, proofs and functions inside the tool cite this file.
-- The code of compartments as it is put, function after function.
use Rattle.std.specs.Prelude.{◌≡◌, ℕ, ◌+◌, ◌<◌, ◌^◌, ◌++◌, List, length}
use Rattle.std.specs.List.{flat_map}
use Rattle.std.proofs.Math.ListN.{get_or, take}
use Rattle.machine_thumb_asm.specs.Assembly.{Assembly, here}
use Rattle.ir_model.specs.Resolved.{NumberedFunc, func_at}
use Rattle.code_model.specs.declared.places.Places.{Places}
use Rattle.code_model.specs.Places.{entry_address}
use Rattle.code_model.specs.FunctionCode.{function_items, function_labels}
use Rattle.code_model.specs.CompartmentCode.{members_from, filling, entry_of, places_of, filled_items, compartment_bytes}
use Rattle.code_model.specs.Emitted.{AreNear}
use Rattle.image_entries.specs.declared.making.Making.{Making}
use Rattle.image_entries.specs.Making.{program_in, grouped, places_at}

-- ---- one function

-- it may be put here: its entry is here, all entries are near to its code, and addresses stay below 2^31, those of a filling too
pub record MayStand (a : Assembly) (q : Places) (func size : ℕ) : Type 0 where
  pub entry : entry_address q func ≡ here a
  pub listed : func < length q.entries
  pub near : AreNear (here a) (here a + size) q.entries
  pub room : here a + size + 4 < 2 ^ 31

-- with a function and its filling behind
abbrev pub with_filled : Assembly → NumberedFunc → Places → (size : ℕ) → Assembly
with_filled a g q size =
    record a {
      items = a.items ++ (function_items g q (length a.places) (here a) ++ filling size);
      places = a.places ++ function_labels g q (here a);
    }

-- ---- all functions

-- these functions one behind the other
abbrev pub standing : Making → (compartment : ℕ) → (funcs : List ℕ) → Assembly
standing m c fs =
    record {
      base = get_or (places_at m).bases c 0;
      items = flat_map (filled_items (program_in m) (grouped m) (places_at m)) fs;
      places = flat_map (λ h. function_labels (func_at (program_in m) h) (places_of (program_in m) (grouped m) (places_at m) h) (entry_of (program_in m) (grouped m) (places_at m) h)) fs;
    }

-- those of a compartment among the first so many
abbrev pub first_members : Making → (compartment count : ℕ) → List ℕ
first_members m c k = members_from 0 (take k m.compartments.now) c

-- the bytes of a compartment
abbrev pub bytes_in : Making → (compartment : ℕ) → List ℕ
bytes_in m c = compartment_bytes (program_in m) (grouped m) (places_at m) c
