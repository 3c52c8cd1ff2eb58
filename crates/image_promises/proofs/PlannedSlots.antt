-- The slots of a planned firmware's compartments: how many there are, and of which uses they are.
use Rattle.std.proofs.Common.{◌≡◌, ℕ, ◌+◌, ◌<◌, ◌≤◌, [], length, map, get_or, ap, arith}
use Rattle.std.proofs.lemmas.List.{length-map, length-append}
use mathlib.Core.Logic.{⊎_elim}
use Rattle.ir_model.specs.Resolve.{resolve}
use Rattle.ir_model.specs.Resolved.{Program}
use Rattle.plan_model.specs.declared.graph.Graph.{Graph}
use Rattle.plan_model.specs.declared.graph.Final.{Final}
use Rattle.plan_model.specs.Boards.{slots_of}
use Rattle.plan_model.specs.Regions.{regions_used}
use Rattle.plan_model.specs.InitialGraph.{initial_graph}
use Rattle.plan_model.specs.FinalGraph.{IsMerged}
use Rattle.plan_model.specs.Slots.{data_slot, cover_slot, slot_uses, slot_regions, slots_from}
use Rattle.monitor_model.specs.declared.tables.CompRecord.{CompRecord}
use Rattle.monitor_model.specs.Records.{compartment_at}
use Rattle.image_promises.specs.Planned.{planned_tables}
use Rattle.plan.specs.PlannedFirmwares.{plan}
use Rattle.image_promises.proofs.PlannedPremises.{PlannedPremises}
use Rattle.image_promises.proofs.Loans.{record_of}

module _ (planned : PlannedPremises) where
  open planned use {firmware as w, needs as n, final as f, board as b, is_planned as ok}

  -- the slots of a board are two at least, and with its first four regions sixteen at most
  pub slot_limits : (2 ≤ slots_of b) × (4 + slots_of b ≤ 16)
  slot_limits = ⊎_elim (λ e. (omega (arith, e), omega (arith, e))) (λ e. (omega (arith, e), omega (arith, e))) ok.board.regions

  -- the slots of a compartment are those of its uses
  pub slots_at : (c : ℕ) → c < f.groups.count → (compartment_at (planned_tables w n f b) c).slots ≡ slots_from 4 (slots_of b) (slot_uses (resolve w) f (plan w n f b) c)
  unfolding slot_regions
  slots_at c m = ap (λ (r : CompRecord). r.slots) (record_of (resolve w) n f (plan w n f b) b c m)

-- the regions and covers of a compartment in a final graph are no more than a board has slots
abbrev pub FitsSlots : Type 0
FitsSlots = (p : Program) (slots : ℕ) (g : Graph) (f : Final) → 2 ≤ slots → IsMerged p slots g f → (c : ℕ) → c < f.groups.count → length (regions_used f.regions c) + length (get_or f.covers c []) ≤ slots

module _ (few : FitsSlots) (planned : PlannedPremises) where
  open planned use {firmware as w, needs as n, final as f, board as b, is_planned as ok}

  -- nor are the uses of its slots in a plan
  pub few_uses : (c : ℕ) → c < f.groups.count → length (slot_uses (resolve w) f (plan w n f b) c) ≤ slots_of b
  few_uses c m =
      let most = few (resolve w) (slots_of b) (initial_graph (resolve w) n f.groups) f (slot_limits planned).0 ok.final c m in
      let one = length-append (map (data_slot (resolve w) f (plan w n f b) c) (regions_used f.regions c)) (map cover_slot (get_or f.covers c [])) in
      let two = length-map (regions_used f.regions c) (data_slot (resolve w) f (plan w n f b) c) in
      let three = length-map (get_or f.covers c []) cover_slot in
      omega (arith, most, one, two, three)
