-- A machine is one still where a region of its unit is selected.
use Rattle.std.proofs.Common.{◌≡◌, ℕ, ◌%◌, ◌^◌, refl, arith}
use Rattle.machine_protection.specs.Registers.{Registers, write_register}
use Rattle.machine_model.specs.Shape.{UnitFits}
use Rattle.machine_emulator.specs.Machine.{MachineState, IsMachine}
use Rattle.machine_emulator.specs.Reads.{selecting, region_words, with_region}

selects_unit : (k : ℕ) (m : Registers) → selecting k m ≡ record m { number = k % 2 ^ 8 }
unfolding write_register
selects_unit k m = refl

unit_fits : (n k : ℕ) (m : Registers) → UnitFits n m → UnitFits n (selecting k m)
unit_fits n k m h = rw (selects_unit k m) (record {
  control_word = h.control_word;
  number_word = omega arith;
  region_count = h.region_count;
  rbar_words = h.rbar_words;
  rasr_words = h.rasr_words;
})

pub selects_machine : (k : ℕ) (m : MachineState) → IsMachine m → IsMachine (with_region k m)
selects_machine k m h = record {
  rules = h.rules;
  fits = record {
    core = h.fits.core;
    status = h.fits.status;
    unit = unit_fits m.image.regions k m.state.protection.mpu h.fits.unit;
    ram_count = h.fits.ram_count;
    queue_count = h.fits.queue_count;
  };
  own = h.own;
}

-- whichever region was selected before, the words of a region are the same
pub words_stay : (k j : ℕ) (m : Registers) → region_words k (selecting j m) ≡ region_words k m
unfolding write_register
words_stay k j m = refl
