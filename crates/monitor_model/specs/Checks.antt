-- The seven checks of an image whose tables are these, each with the address at which it fails first.
use Rattle.std.specs.Prelude.{ℕ, ◌+◌, ◌-◌, ◌*◌, ◌%◌, Bool, true, false, ◌&&◌, not, List, [], ◌∷◌, length, Option, Some, None, nat_eq, nat_lt, nat_le}
use Rattle.base_ranges.specs.Ranges.{are_apart, is_inside}
use Rattle.machine_protection.specs.Regions.{holds}
use Rattle.machine_devices.specs.declared.image.Image.{Image}
use Rattle.machine_devices.specs.Rules.{block_size}
use Rattle.monitor_model.specs.declared.tables.SiteRecord.{SiteRecord}
use Rattle.monitor_model.specs.declared.tables.TargetRecord.{TargetRecord}
use Rattle.monitor_model.specs.declared.tables.InitRecord.{InitRecord}
use Rattle.monitor_model.specs.declared.tables.Tables.{Tables}
use Rattle.monitor_model.specs.Records.{compartment_at}
use Rattle.monitor_model.specs.Layout.{page_size, head_size, head_at, compartment_size, compartments_at, sites_at, targets_at, lends_at, inits_at, initial_words_at, area_end, tables_size}
use Rattle.monitor_model.specs.RegionChecks.{is_data_range, is_compartment}
use Rattle.ir_model.specs.Typing.{object_limit}
use Rattle.plan_model.specs.CompileLimits.{compartment_limit, site_limit, target_limit, lent_limit}

-- ---- where a check fails

-- at this address where the test fails
abbrev pub must : (test : Bool) → (at : ℕ) → Option ℕ
must true a = None
must false a = Some a

-- the first of two that fails
abbrev pub and_then : Option ℕ → Option ℕ → Option ℕ
and_then (Some a) later = Some a
and_then None later = later

-- the first record that fails, where the first stands at an address and each has so many bytes
abbrev pub each_record : {A : Type 0} → (test : A → Bool) → (at size : ℕ) → List A → Option ℕ
each_record test a z [] = None
each_record test a z (x ∷ xs) = and_then (must (test x) a) (each_record test (a + z) z xs)

-- ---- header

abbrev pub header_fails : Image → Option ℕ
header_fails i =
    must
    (not (nat_eq i.monitor 0)
    && (not (nat_eq i.stack_size 0)
    && (are_apart i.monitor block_size i.stack_base i.stack_size && nat_le (page_size + head_size) (length i.flash))))
    i.flash_base

-- ---- tables

-- each of the eight words by its own rule, then the block's place and what stands in it
abbrev pub tables_fail : Image → Tables → Option ℕ
tables_fail i t =
    and_then (must (nat_le 1 (length t.comps) && nat_le (length t.comps) compartment_limit) (head_at t))
    (and_then (must (nat_le (length t.sites) site_limit) (head_at t + 4))
    (and_then (must (nat_le (length t.targets) (target_limit * length t.sites)) (head_at t + 8))
    (and_then (must (nat_le (length t.lends) lent_limit) (head_at t + 12))
    (and_then (must (nat_eq t.stack.base i.stack_base) (head_at t + 20))
    (and_then (must (nat_eq t.stack.size i.stack_size) (head_at t + 24))
    (and_then (must (nat_eq t.monitor i.monitor) (head_at t + 28))
    (must (is_inside t.base (tables_size t) i.flash_base (length i.flash) && nat_le (area_end t) (t.base + tables_size t)) (head_at t))))))))

-- ---- code

-- the first place at which the second list differs from the first
abbrev pub difference : (wanted found : List ℕ) → (at : ℕ) → Option ℕ
difference [] found a = None
difference (x ∷ xs) [] a = Some a
difference (x ∷ xs) (y ∷ ys) a = and_then (must (nat_eq x y) a) (difference xs ys (a + 1))

abbrev pub code_fails : (page : Tables → List ℕ) → Image → Tables → Option ℕ
code_fails page i t = difference (page t) i.flash t.base

-- ---- regions

abbrev pub regions_fail : Image → Tables → Option ℕ
regions_fail i t = each_record (is_compartment i t) (compartments_at t) (compartment_size t) t.comps

-- ---- sites

-- a target and at most as many as the limit, all of them in the list
abbrev pub is_site : Tables → SiteRecord → Bool
is_site t s = nat_le 1 s.count && (nat_le s.count target_limit && nat_le (s.first + s.count) (length t.targets))

-- an odd entry in the code of a compartment that there is
abbrev pub is_entry : Tables → (entry compartment : ℕ) → Bool
is_entry t e c = nat_lt c (length t.comps) && (nat_eq (e % 2) 1 && holds (compartment_at t c).code e)

abbrev pub is_target : Tables → TargetRecord → Bool
is_target t g = is_entry t g.entry g.compartment

abbrev pub sites_fail : Tables → Option ℕ
sites_fail t =
    and_then (each_record (is_site t) (sites_at t) 12 t.sites)
    (and_then (each_record (is_target t) (targets_at t) 8 t.targets) (must (is_entry t t.main t.main_comp) t.base))

-- ---- lends

abbrev pub is_lend : (size : ℕ) → Bool
is_lend z = nat_le 1 z && nat_le z object_limit

abbrev pub lends_fail : Tables → Option ℕ
lends_fail t = each_record is_lend (lends_at t) 4 t.lends

-- ---- inits

-- at least one word of RAM at a multiple of 4, and its initial words stand at this address
abbrev pub is_init : Image → Tables → (words_from : ℕ) → InitRecord → Bool
is_init i t w n =
    nat_eq (n.at % 4) 0
    && (nat_eq (n.end % 4) 0 && (nat_lt n.at n.end && (is_data_range i t n.at (n.end - n.at) && nat_eq n.from w)))

-- the words of one range stand behind those of the one before it
abbrev pub inits_from : Image → Tables → (words_from at : ℕ) → List InitRecord → Option ℕ
inits_from i t w a [] = None
inits_from i t w a (n ∷ ns) = and_then (must (is_init i t w n) a) (inits_from i t (w + (n.end - n.at)) (a + 12) ns)

abbrev pub inits_fail : Image → Tables → Option ℕ
inits_fail i t = inits_from i t (initial_words_at t) (inits_at t) t.inits
