-- Data regions: which compartments use them, and how large their globals are.
use Rattle.std.specs.Prelude.{ℕ, Bool, ◌||◌, List, [], length, filter, get_or, sum_by}
use Rattle.ir_model.specs.Resolved.{Program, global_at}
use Rattle.plan_model.specs.declared.graph.DataRegion.{DataRegion}
use Rattle.plan_model.specs.Lists.{numbers_below, has, union}

-- of a region that is not there
abbrev pub no_region : DataRegion
no_region = record { globals = []; writers = []; readers = [] }

-- the region of a number
abbrev pub region_at : List DataRegion → (region : ℕ) → DataRegion
region_at rs r = get_or rs r no_region

-- the compartments that write or read a region
abbrev pub users : DataRegion → List ℕ
users r = union r.writers r.readers

-- whether a compartment is one of them
abbrev pub is_user : (compartment : ℕ) → DataRegion → Bool
is_user c r = has r.writers c || has r.readers c

-- the data regions of a compartment, by their numbers
abbrev pub regions_used : List DataRegion → (compartment : ℕ) → List ℕ
regions_used rs c = filter (λ r. is_user c (region_at rs r)) (numbers_below (length rs))

-- the bytes of a global
abbrev pub global_size : Program → (global : ℕ) → ℕ
global_size p x = (global_at p x).shape.size

-- the bytes of these globals together, without padding
abbrev pub size_of : Program → (globals : List ℕ) → ℕ
size_of p xs = sum_by (global_size p) xs
