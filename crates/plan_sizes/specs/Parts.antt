-- Beyond the program's claim: only laws, proofs and functions inside the tool cite this file.
-- Sizes by the crossing sites and the locals that are lent.
use Rattle.std.specs.Prelude.{ℕ, ◌+◌, ◌*◌, List, length, map, count_by, sum_by}
use Rattle.std.specs.List.{list_any}
use Rattle.ir_model.specs.Resolved.{Program, func_at}
use Rattle.plan_model.specs.declared.needs.SiteNeed.{SiteNeed}
use Rattle.plan_model.specs.declared.groups.Groups.{Groups}
use Rattle.plan_model.specs.declared.graph.DataRegion.{DataRegion}
use Rattle.plan_model.specs.declared.graph.Final.{Final}
use Rattle.plan_model.specs.Lists.{numbers_below}
use Rattle.plan_model.specs.Crossing.{target_count}
use Rattle.plan_model.specs.Lending.{is_local}
use Rattle.plan_model.specs.TableSize.{words_in, unless_empty}
use Rattle.code_model.specs.declared.places.CallSite.{CallSite}
use Rattle.code_model.specs.Sizes as sizes
use Rattle.code_model.specs.CompartmentCode.{members_from}
use Rattle.plan_crossings.specs.Filled.{filled_total}
use Rattle.code_model.specs.Planned.{call_sites_among}

-- ---- code

-- a function with these calls to other compartments
abbrev pub size_with : Program → List CallSite → (lent : List (ℕ × ℕ)) → (func : ℕ) → ℕ
size_with p calls lent f =
    sizes.function_size (func_at p f) calls (count_by (λ k. list_any (is_local f k) lent) (numbers_below (length (func_at p f).locals)))

abbrev pub function_bytes : Program → List SiteNeed → (lent : List (ℕ × ℕ)) → (func : ℕ) → ℕ
function_bytes p ss lent f = size_with p (call_sites_among 0 ss f) lent f

-- each compartment
abbrev pub code_with : Program → Groups → List SiteNeed → (lent : List (ℕ × ℕ)) → List ℕ
code_with p g ss lent =
    map (λ c. filled_total (map (function_bytes p ss lent) (numbers_below (length p.funcs))) (members_from 0 g.of c)) (numbers_below g.count)

-- ---- tables

abbrev pub region_words : Program → List DataRegion → ℕ
region_words p rs = sum_by (λ (r : DataRegion). words_in p r.globals) rs

abbrev pub block_count : Final → ℕ
block_count f = length f.regions + length (unless_empty f.unwritten)

abbrev pub record_bytes : Final → List SiteNeed → (slots : ℕ) → ℕ
record_bytes f ss slots = 4096 + 32 + (8 * slots + 16) * f.groups.count + 12 * length ss + 8 * target_count ss
