-- Beyond the program's claim: only laws, proofs and functions inside the tool cite this file.
-- What the code of all functions is made of, as the definitions see it.
use Rattle.std.specs.Prelude.{◌≡◌, length, map}
use Rattle.ir_model.specs.Checked.{IsChecked}
use Rattle.ir_model.specs.Resolved.{Program}
use Rattle.ir_program.specs.Seen.{program_of}
use Rattle.plan_model.specs.declared.plan.Spot.{Spot}
use Rattle.plan_model.specs.Lists.{numbers_below}
use Rattle.code_model.specs.CompartmentCode.{CodeGroups, CodePlaces, entry_of}
use Rattle.image_entries.specs.declared.making.Making.{Making}
use Rattle.image_entries.specs.Grouped.{AreSmall, HasEachLend, groups_in}

abbrev pub program_in : Making → Program
program_in m = program_of m.program.now

abbrev pub grouped : Making → CodeGroups
grouped m = groups_in m.compartments.now m.numbers.now

abbrev pub places_at : Making → CodePlaces
places_at m =
    record {
      bases = map (λ (s : Spot). s.base) m.plan.now.code;
      globals = m.addresses.now.globals;
      windows = m.addresses.now.windows;
    }

-- numbers and addresses are those of a typed firmware's functions
pub record IsReady (m : Making) : Type 0 where
  pub program : IsChecked (program_in m)
  pub compartments : length m.compartments.now ≡ length m.program.now.funcs
  pub lends : HasEachLend (program_in m) m.numbers.now
  pub small : AreSmall m.numbers.now
  pub globals : length m.addresses.now.globals ≡ length m.program.now.globals
  pub windows : length m.addresses.now.windows ≡ length m.program.now.periphs
  pub entries : m.addresses.now.entries ≡ map (entry_of (program_in m) (grouped m) (places_at m)) (numbers_below (length m.program.now.funcs))
