-- The lines of registers that are stored through and may stand for several objects.
use Rattle.std.specs.Prelude.{ℕ, List, [], ◌++◌, Bool, false, ◌&&◌, length, get_or, codes, nat_eq, nat_lt, if◌then◌else◌}
use Rattle.std.specs.List.{list_any}
use Rattle.machine_lines.specs.Lines.{line_feed}
use Rattle.ir_model.specs.declared.object.ObjId.{ObjId}
use Rattle.ir_model.specs.Resolved.{NumberedInst, Store, NumberedBlock, NumberedFunc}
use Rattle.plan_report.specs.Names.{func_name, register_name}
use Rattle.aces_why.specs.Subjects.{Subject}
use Rattle.aces_why.specs.Numbered.{numbered}
use Rattle.aces_why.specs.Lines.{objects_text}

abbrev pub is_store_by : (register : ℕ) → NumberedInst → Bool
is_store_by r (Store to from t) = nat_eq to r
is_store_by r _ = false

abbrev pub is_stored_in : (register : ℕ) → NumberedBlock → Bool
is_stored_in r b = list_any (is_store_by r) b.insts

-- whether a function stores through a register
abbrev pub is_stored_through : List NumberedBlock → (register : ℕ) → Bool
is_stored_through bs r = list_any (is_stored_in r) bs

abbrev pub shared_text : Subject → (func register : ℕ) → List ObjId → List ℕ
shared_text s f r os = codes "shared " ++ func_name s.firmware f ++ codes " " ++ register_name s.firmware f r ++ objects_text s.firmware os ++ line_feed

abbrev pub shared_line : Subject → (func : ℕ) → List NumberedBlock → (register : ℕ) → List ObjId → List ℕ
shared_line s f bs r os = if nat_lt 1 (length os) && is_stored_through bs r then shared_text s f r os else []

abbrev pub shared_in : Subject → (func : ℕ) → NumberedFunc → List ℕ
shared_in s f g = numbered (shared_line s f g.blocks) 0 (get_or s.found.sets f [])

-- functions, and then registers, in order
abbrev pub shared_lines : Subject → List ℕ
shared_lines s = numbered (shared_in s) 0 s.program.funcs
