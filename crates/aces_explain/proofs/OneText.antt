-- There is one text at most on a refusal.
use Rattle.std.proofs.Common.{◌≡◌, ℕ, List, sym, ap, ◌∙◌}
use Rattle.ir_model.specs.Plain.{PlainFirmware}
use Rattle.ir_model.specs.Resolved.{Program}
use Rattle.plan_model.specs.declared.needs.Needs.{Needs}
use Rattle.plan_model.specs.declared.groups.Groups.{Groups}
use Rattle.plan_model.specs.declared.graph.Graph.{Graph}
use Rattle.plan_model.specs.declared.graph.Final.{Final}
use Rattle.plan_model.specs.declared.plan.Board.{Board}
use Rattle.plan_model.specs.Boards.{slots_of}
use Rattle.plan_model.specs.InitialGraph.{initial_graph}
use Rattle.plan_model.specs.FinalGraph.{IsMerged}
use Rattle.plan_layout.specs.declared.refusal.Lack.{Lack}
use Rattle.plan_layout.specs.declared.refusal.Memory.{Memory}
use Rattle.plan_layout.specs.declared.refusal.Memory.TheVariants as memory
use Rattle.plan.specs.declared.refusal.PlanningRefusal.{PlanningRefusal}
use Rattle.plan.specs.declared.refusal.PlanningRefusal.TheVariants.{NoMemory, Limit, Denied, Room}
use Rattle.aces_explain.specs.PlanTold.{IsToldOfFinal, IsRoomTold, IsRefusalTold}

of_final : ((p : Program) (slots : ℕ) (g : Graph) (f h : Final) → IsMerged p slots g f → IsMerged p slots g h → f ≡ h)
    → (p : Program) (n : Needs) (g : Groups) (b : Board) (told : Final → List ℕ) (x y : List ℕ) → IsToldOfFinal p n g b told x → IsToldOfFinal p n g b told y → x ≡ y
of_final one p n g b told x y s t =
    let same : s.graph ≡ t.graph = one p (slots_of b) (initial_graph p n g) s.graph t.graph s.final t.final in
    s.same ∙ (ap told same ∙ sym t.same)

of_room : ((p : Program) (slots : ℕ) (g : Graph) (f h : Final) → IsMerged p slots g f → IsMerged p slots g h → f ≡ h)
    → (w : PlainFirmware) (p : Program) (n : Needs) (g : Groups) (b : Board) (lack : Lack) (m : Memory) (x y : List ℕ)
    → IsRoomTold w p n g b lack m x → IsRoomTold w p n g b lack m y → x ≡ y
of_room one w p n g b lack memory.Flash x y s t = of_final one p n g b _ x y s t
of_room one w p n g b lack memory.Ram x y s t = of_final one p n g b _ x y s t

pub texts_are_one : ((p : Program) (slots : ℕ) (g : Graph) (f h : Final) → IsMerged p slots g f → IsMerged p slots g h → f ≡ h)
    → (w : PlainFirmware) (p : Program) (n : Needs) (g : Groups) (b : Board) (r : PlanningRefusal) (x y : List ℕ)
    → IsRefusalTold w p n g b r x → IsRefusalTold w p n g b r y → x ≡ y
texts_are_one one w p n g b NoMemory x y s t = absurd s
texts_are_one one w p n g b (Limit k c) x y s t = s ∙ sym t
texts_are_one one w p n g b (Denied m) x y s t = s ∙ sym t
texts_are_one one w p n g b (Room lack) x y s t = of_room one w p n g b lack lack.memory x y s t
