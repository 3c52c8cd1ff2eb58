-- Why a firmware is not planned for a board.
use Rattle.std.specs.Prelude.{◌≡◌, Some, option_map, Err}
use Rattle.ir_model.specs.Resolved.{Program}
use Rattle.plan_model.specs.declared.needs.Needs.{Needs}
use Rattle.plan_model.specs.declared.groups.Groups.{Groups}
use Rattle.plan_model.specs.declared.graph.Final.{Final}
use Rattle.plan_model.specs.declared.plan.Board.{Board}
use Rattle.plan_model.specs.Boards.{slots_of}
use Rattle.plan_model.specs.CompileLimits.{KeepsLimits, first_passed}
use Rattle.plan_model.specs.FinalGraph.{IsFinal}
use Rattle.plan_limits.specs.Told.{in_32_bits}
use Rattle.code_model.specs.Planned.{sizes_of}
use Rattle.plan_layout.specs.declared.refusal.PlaceRefusal.{PlaceRefusal}
use Rattle.plan_layout.specs.declared.refusal.PlaceRefusal.TheVariants as place
use Rattle.plan_layout.specs.Placing as placing
use Rattle.plan_denials.specs.declared.Meeting.{Meeting}
use Rattle.plan_denials.specs.Meetings.{first_meeting, KeepsOff}
use Rattle.plan.specs.declared.refusal.PlanningRefusal.{PlanningRefusal}
use Rattle.plan.specs.declared.refusal.PlanningRefusal.TheVariants.{NoMemory, Limit, Denied, Room}

-- a refusal of placement
abbrev pub of_place : PlaceRefusal → PlanningRefusal
of_place place.NoMemory = NoMemory
of_place (place.Room lack) = Room lack

-- the blocks of this graph are refused
abbrev pub AreRefused : Program → Needs → Final → Board → PlaceRefusal → Type 0
AreRefused p n f b r = placing.placed p f (sizes_of p n f (slots_of b)) b ≡ Err r

-- no limit is passed, and this is the first range that the final graph asks for and the board denies
pub record AsksForDenied (p : Program) (n : Needs) (g : Groups) (b : Board) (m : Meeting) : Type 0 where
  pub limits : KeepsLimits n g
  pub graph : Final
  pub final : IsFinal p n g (slots_of b) graph
  pub meets : first_meeting b.denied p graph ≡ Some m

-- no limit is passed, the final graph asks for nothing that the board denies, and its blocks are refused
pub record HasNoRoom (p : Program) (n : Needs) (g : Groups) (b : Board) (r : PlaceRefusal) : Type 0 where
  pub limits : KeepsLimits n g
  pub graph : Final
  pub final : IsFinal p n g (slots_of b) graph
  pub off : KeepsOff b.denied p graph
  pub refused : AreRefused p n graph b r

-- a refusal for want of memory says nothing else
abbrev pub IsPlanningRefusal : Program → Needs → Groups → Board → PlanningRefusal → Type 0
IsPlanningRefusal p n g b NoMemory = Unit {0}
IsPlanningRefusal p n g b (Limit k c) = option_map in_32_bits (first_passed n g) ≡ Some (k, c)
IsPlanningRefusal p n g b (Denied m) = AsksForDenied p n g b m
IsPlanningRefusal p n g b (Room lack) = HasNoRoom p n g b (place.Room lack)

-- a refusal of the blocks of a graph
abbrev pub IsRoomRefusal : Program → Needs → Final → Board → PlanningRefusal → Type 0
IsRoomRefusal p n f b NoMemory = Unit {0}
IsRoomRefusal p n f b (Limit k c) = ⊥
IsRoomRefusal p n f b (Denied m) = ⊥
IsRoomRefusal p n f b (Room lack) = AreRefused p n f b (place.Room lack)
