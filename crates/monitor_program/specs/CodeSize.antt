-- Beyond the program's claim: only laws, proofs and functions inside the tool cite this file.
-- How long the monitor's code is.
use Rattle.std.specs.Prelude.{◌≡◌, ℕ, ◌+◌, ◌≤◌, length}
use Rattle.monitor_model.specs.declared.tables.Tables.{Tables}
use Rattle.monitor_model.specs.Layout.{page_size}
use Rattle.monitor_program.specs.Constants.{constants_with}
use Rattle.monitor_program.specs.Page.{stub_offset, constants, page}

-- the two bytes of SVC #1
abbrev pub stub_size : ℕ
stub_size = 2

-- behind the vectors there is room for the code with the leave stub, whatever the tables
abbrev pub CodeFits : Type 0
CodeFits = (t : Tables) → stub_offset (constants t) + stub_size ≤ page_size

-- the stub stands at the address that the lists have for it
abbrev pub StubIsThere : Type 0
StubIsThere = (t : Tables) → stub_offset (constants t) ≡ stub_offset (constants_with 0 t)

-- so the first bytes of flash are as many as they are to be
abbrev pub PagesAreFull : Type 0
PagesAreFull = (t : Tables) → length (page t) ≡ page_size
