-- The line of a range of addresses that a firmware asks for and its board denies.
use Rattle.std.specs.Prelude.{ℕ, List, [], ◌++◌, map, codes, get_or}
use Rattle.std.specs.Fmt.{decimal}
use Rattle.ir_model.specs.Plain.{PlainFirmware}
use Rattle.plan_model.specs.declared.plan.Board.{Board}
use Rattle.plan_model.specs.declared.denied_ranges.Denied.{Denied}
use Rattle.plan_denials.specs.declared.Asked.{Asked}
use Rattle.plan_denials.specs.declared.Asked.TheVariants.{Window, Range}
use Rattle.plan_denials.specs.declared.Meeting.{Meeting}
use Rattle.plan_report.specs.Names.{periph_name, range_text}

-- the name of a denied range
abbrev pub denied_name : Board → (denied : ℕ) → List ℕ
denied_name b k = get_or (map (λ (d : Denied). d.name) b.denied) k []

-- a peripheral, or a range of a compartment
abbrev pub asked_text : PlainFirmware → Asked → List ℕ
asked_text w (Window q) = codes "peripheral " ++ periph_name w q ++ codes ":"
asked_text w (Range c d) = codes "compartment " ++ decimal c ++ codes ": range" ++ range_text d.base d.size

abbrev pub meeting_text : PlainFirmware → Board → Meeting → List ℕ
meeting_text w b m = asked_text w m.asked ++ codes " meets " ++ denied_name b m.denied
