-- What is told of a firmware that has no plan for a board: why, what its blocks are where a memory has no room, and the rule.
use Rattle.std.specs.Prelude.{◌≡◌, ℕ, List, ◌++◌, codes}
use Rattle.std.specs.Fmt.{decimal}
use Rattle.machine_lines.specs.Lines.{line_feed}
use Rattle.ir_model.specs.Plain.{PlainFirmware}
use Rattle.ir_model.specs.Resolved.{Program}
use Rattle.plan_model.specs.declared.limits.LimitKind.{LimitKind}
use Rattle.plan_model.specs.declared.needs.Needs.{Needs}
use Rattle.plan_model.specs.declared.groups.Groups.{Groups}
use Rattle.plan_model.specs.declared.graph.Final.{Final}
use Rattle.plan_model.specs.declared.plan.Board.{Board}
use Rattle.plan_model.specs.declared.plan.Sizes.{Sizes}
use Rattle.plan_model.specs.Boards.{slots_of}
use Rattle.plan_model.specs.FinalGraph.{IsFinal}
use Rattle.code_model.specs.Planned.{sizes_of}
use Rattle.plan_denials.specs.declared.Meeting.{Meeting}
use Rattle.plan_layout.specs.declared.refusal.Lack.{Lack}
use Rattle.plan_layout.specs.declared.refusal.Memory.{Memory}
use Rattle.plan_layout.specs.declared.refusal.Memory.TheVariants as memory
use Rattle.plan_report.specs.Lines.{meeting_text}
use Rattle.aces_reports.specs.FaultLines.{compiled_word, memory_word, compartment_word, bytes_text}
use Rattle.plan.specs.declared.refusal.PlanningRefusal.{PlanningRefusal}
use Rattle.plan.specs.declared.refusal.PlanningRefusal.TheVariants.{NoMemory, Limit, Denied, Room}
use Rattle.aces_explain.specs.Blocks.{ram_lines, flash_lines}
use Rattle.aces_explain.specs.Explanations.{rule_line}
use Rattle.aces_explain.specs.PlanRules.{limit_of, limit_rule, denied_rule, flash_rule, ram_rule}

-- ---- a limit, and what is denied

-- how much there is of something, and how much there may be
abbrev pub count_text : (count most : ℕ) → List ℕ
count_text count most = codes " " ++ decimal count ++ codes " of " ++ decimal most ++ line_feed

abbrev pub limit_told : LimitKind → (count : ℕ) → List ℕ
limit_told k count = codes "limit " ++ compiled_word k ++ count_text count (limit_of k) ++ rule_line (limit_rule k)

-- the lines by the text on the first range that the board denies
abbrev pub denied_text : (meets : List ℕ) → Meeting → List ℕ
denied_text meets m = codes "deny: " ++ meets ++ line_feed ++ rule_line (denied_rule m.asked)

abbrev pub denied_told : PlainFirmware → Board → Meeting → List ℕ
denied_told w b m = denied_text (meeting_text w b m) m

-- ---- no room: the line that `list` has behind `aces: `, and the blocks of a graph

abbrev pub room_line : Lack → List ℕ
room_line lack = memory_word lack.memory ++ codes ": compartment " ++ compartment_word lack.compartment ++ bytes_text lack.needed lack.available

abbrev pub flash_told : Sizes → Lack → List ℕ
flash_told s lack = room_line lack ++ flash_lines s ++ rule_line flash_rule

abbrev pub ram_told : PlainFirmware → Program → Final → Board → Lack → List ℕ
ram_told w p f b lack = room_line lack ++ ram_lines w p f b.stack ++ rule_line (ram_rule b.lowest)

-- ---- a refusal

-- the text is the one on the final graph of the compartments, of which there is no other
pub record IsToldOfFinal (p : Program) (n : Needs) (g : Groups) (b : Board) (told : Final → List ℕ) (text : List ℕ) : Type 0 where
  pub graph : Final
  pub final : IsFinal p n g (slots_of b) graph
  pub same : text ≡ told graph

-- the text is the one on the memory that has no room
abbrev pub IsRoomTold : PlainFirmware → Program → Needs → Groups → Board → Lack → Memory → (text : List ℕ) → Type 0
IsRoomTold w p n g b lack memory.Flash text = IsToldOfFinal p n g b (λ f. flash_told (sizes_of p n f (slots_of b)) lack) text
IsRoomTold w p n g b lack memory.Ram text = IsToldOfFinal p n g b (λ f. ram_told w p f b lack) text

-- the text is the one on this refusal; nothing is told of want of memory
abbrev pub IsRefusalTold : PlainFirmware → Program → Needs → Groups → Board → PlanningRefusal → (text : List ℕ) → Type 0
IsRefusalTold w p n g b NoMemory text = ⊥
IsRefusalTold w p n g b (Limit k count) text = text ≡ limit_told k count
IsRefusalTold w p n g b (Denied m) text = text ≡ denied_told w b m
IsRefusalTold w p n g b (Room lack) text = IsRoomTold w p n g b lack lack.memory text
