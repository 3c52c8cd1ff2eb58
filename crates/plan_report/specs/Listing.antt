-- What `list` prints: the policy, each compartment, the globals that nobody reaches, and what is used of the memories.
use Rattle.std.specs.Prelude.{ℕ, ◌+◌, ◌-◌, List, [], ◌∷◌, ◌++◌, map, flat_map, codes, length, Option, Some, None}
use Rattle.std.specs.Fmt.{decimal}
use Rattle.machine_lines.specs.Lines.{line_feed}
use Rattle.plan_model.specs.declared.plan.Spot.{Spot}
use Rattle.plan_model.specs.declared.plan.Plan.{Plan}
use Rattle.plan_model.specs.declared.needs.SiteNeed.{SiteNeed}
use Rattle.plan_model.specs.Choices.{greatest}
use Rattle.plan_model.specs.Lists.{numbers_below}
use Rattle.plan_model.specs.Placement.{flash_used}
use Rattle.plan_model.specs.Crossing.{crossing_sites, target_count}
use Rattle.plan_report.specs.Subjects.{Subject}
use Rattle.plan_report.specs.Names.{global_name, spaced, range_text}
use Rattle.plan_report.specs.CompartmentLines.{compartment_lines}

-- ---- what is used of the memories

abbrev pub end_of : Spot → ℕ
end_of s = s.base + s.size

abbrev pub unwritten_end : Option Spot → ℕ
unwritten_end None = 0
unwritten_end (Some s) = end_of s

-- the end of the last block of RAM
abbrev pub ram_end : Plan → ℕ
ram_end l = greatest (end_of l.stack ∷ end_of l.monitor ∷ unwritten_end l.unwritten ∷ map end_of l.regions)

-- from the base of RAM on: the blocks outside tails stand one behind the other
abbrev pub ram_used : (ram : ℕ) → Plan → ℕ
ram_used ram l = ram_end l - ram

-- ---- the lines

abbrev pub policy_line : (policy : List ℕ) → List ℕ
policy_line policy = codes "policy " ++ policy ++ line_feed

-- of the compartments
unfoldable pub all_compartment_lines : Subject → List ℕ
all_compartment_lines s = flat_map (compartment_lines s) (numbers_below s.graph.groups.count)

-- the globals of no data region, where there are any
abbrev pub unwritten_lines_at : Subject → Option Spot → List ℕ
unwritten_lines_at s None = []
unwritten_lines_at s (Some spot) =
    codes "unwritten" ++ range_text spot.base spot.size ++ spaced (map (global_name s.firmware) s.graph.unwritten) ++ line_feed

unfoldable pub unwritten_lines : Subject → List ℕ
unwritten_lines s = unwritten_lines_at s s.plan.unwritten

-- the crossing sites and all their targets
unfoldable pub sites_line : Subject → List ℕ
sites_line s =
    let sites : List SiteNeed = crossing_sites s.needs s.graph.groups in
    codes "sites " ++ decimal (length sites) ++ codes " targets " ++ decimal (target_count sites) ++ line_feed

abbrev pub memory_line : (word : List ℕ) → (used size : ℕ) → List ℕ
memory_line word used size = word ++ decimal used ++ codes " of " ++ decimal size ++ line_feed

unfoldable pub memory_lines : Subject → List ℕ
memory_lines s =
    memory_line (codes "flash ") (flash_used s.plan) s.board.flash_size
    ++ memory_line (codes "ram ") (ram_used s.board.ram_base s.plan) s.board.ram_size

abbrev pub listing : Subject → (policy : List ℕ) → List ℕ
listing s policy = policy_line policy ++ all_compartment_lines s ++ unwritten_lines s ++ sites_line s ++ memory_lines s
