-- The warnings, in the order of the text: peripherals first, then functions with their blocks and instructions.
use Rattle.std.specs.Prelude.{ℕ, List, [], ◌∷◌, ◌++◌, Bool, false, get_or, codes, if◌then◌else◌}
use Rattle.std.specs.List.{list_any, list_all}
use Rattle.machine_lines.specs.Lines.{line_feed}
use Rattle.ir_model.specs.declared.object.ObjId.{ObjId}
use Rattle.ir_model.specs.declared.object.ObjId.TheVariants.{Global}
use Rattle.ir_model.specs.Resolved.{Program, NumberedInst, Store, NumberedBlock, NumberedFunc, NumberedWindow, global_at}
use Rattle.plan_model.specs.declared.needs.FuncNeed.{FuncNeed}
use Rattle.plan_model.specs.Lists.{has}
use Rattle.plan_report.specs.Names.{periph_name, func_name}
use Rattle.aces_why.specs.Subjects.{Subject, objects_of}
use Rattle.aces_why.specs.Numbered.{numbered}
use Rattle.aces_why.specs.Lines.{block_text, place_text}

-- ---- peripherals

-- whether a load or a store of any function may reach a peripheral
abbrev pub is_used : List FuncNeed → (periph : ℕ) → Bool
is_used ns q = list_any (λ (n : FuncNeed). has n.periphs q) ns

abbrev pub unused_line : Subject → (periph : ℕ) → List ℕ
unused_line s q = if is_used s.found.needs.funcs q then [] else codes "never used " ++ periph_name s.firmware q ++ line_feed

abbrev pub periph_line : Subject → (periph : ℕ) → NumberedWindow → List ℕ
periph_line s q window = unused_line s q

-- ---- stores to constants alone

abbrev pub is_constant : Program → ObjId → Bool
is_constant p (Global g) = (global_at p g).constant
is_constant p o = false

-- there are objects, and all are constant globals
abbrev pub are_constants : Program → List ObjId → Bool
are_constants p [] = false
are_constants p (o ∷ os) = list_all (is_constant p) (o ∷ os)

abbrev pub store_line : Subject → (func block inst register : ℕ) → List ℕ
store_line s f b k r = if are_constants s.program (objects_of s f r) then codes "stores to const " ++ place_text s.firmware f b k ++ line_feed else []

abbrev pub const_line : Subject → (func block inst : ℕ) → NumberedInst → List ℕ
const_line s f b k (Store to from t) = store_line s f b k to
const_line s f b k _ = []

-- ---- blocks and functions that no run comes to

abbrev pub unreached_text : Subject → (func block : ℕ) → List ℕ
unreached_text s f b = codes "never reached " ++ block_text s.firmware f b ++ line_feed

abbrev pub unreached_line : Subject → (func block : ℕ) → List ℕ
unreached_line s f b = if get_or (get_or s.found.entered f []) b false then [] else unreached_text s f b

abbrev pub block_warnings : Subject → (func block : ℕ) → NumberedBlock → List ℕ
block_warnings s f b x = unreached_line s f b ++ numbered (const_line s f b) 0 x.insts

abbrev pub uncalled_line : Subject → (func : ℕ) → List ℕ
uncalled_line s f = if get_or s.found.called f false then [] else codes "never called " ++ func_name s.firmware f ++ line_feed

abbrev pub func_warnings : Subject → (func : ℕ) → NumberedFunc → List ℕ
func_warnings s f g = uncalled_line s f ++ numbered (block_warnings s f) 0 g.blocks

-- ---- all

abbrev pub warning_lines : Subject → List ℕ
warning_lines s = numbered (periph_line s) 0 s.program.periphs ++ numbered (func_warnings s) 0 s.program.funcs
