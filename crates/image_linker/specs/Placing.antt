-- Beyond the program's claim: only laws, proofs and functions inside the tool cite this file.
-- Flash as the code writes it.
use Rattle.std.specs.Prelude.{ℕ, ◌-◌, List}
use Rattle.std.specs.List.{fold}
use Rattle.base_words.specs.Bytes.{write_all}
use Rattle.plan_model.specs.Lists.{numbers_below}
use Rattle.plan_model.specs.Placement.{flash_used}
use Rattle.monitor_model.specs.declared.tables.Tables.{Tables}
use Rattle.image_entries.specs.declared.making.Making.{Making}
use Rattle.image_entries.specs.Bases.{base_in}
use Rattle.image_linker.specs.Standing.{bytes_in}
use Rattle.image_model.specs.LinkedImage.{erased, with_tables}

-- with the code of a compartment in its block
abbrev pub with_code_of : Making → (flash_base : ℕ) → (flash : List ℕ) → (compartment : ℕ) → List ℕ
with_code_of m base flash c = write_all 1 (base_in m.plan.now c - base) (bytes_in m c) flash

abbrev pub flash_with : Making → (flash_base : ℕ) → Tables → (compartments : ℕ) → List ℕ
flash_with m base t count = fold (with_code_of m base) (with_tables base t (erased (flash_used m.plan.now))) (numbers_below count)
