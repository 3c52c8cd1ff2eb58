-- The lines of loads, stores and calls, with what each may reach.
use Rattle.std.specs.Prelude.{ℕ, List, [], ◌∷◌, ◌++◌, Bool, false, ◌&&◌, length, filter, flat_map, codes, nat_lt}
use Rattle.std.specs.Fmt.{decimal}
use Rattle.machine_lines.specs.Lines.{line_feed}
use Rattle.ir_model.specs.declared.object.ObjId.{ObjId}
use Rattle.ir_model.specs.declared.object.ObjId.TheVariants.{Global, Periph, Local, Func}
use Rattle.ir_model.specs.Types.{same}
use Rattle.ir_model.specs.Plain.{PlainFirmware}
use Rattle.ir_model.specs.Resolved.{Program, NumberedInst, Load, Store, Call, ICall, NumberedBlock, NumberedFunc, register_type}
use Rattle.ir_model.specs.Signatures.{signature}
use Rattle.plan_report.specs.Names.{global_name, periph_name, func_name, local_name, label_of}
use Rattle.aces_why.specs.Subjects.{Subject, objects_of}
use Rattle.aces_why.specs.Numbered.{numbered}

-- ---- objects and places

abbrev pub object_text : PlainFirmware → ObjId → List ℕ
object_text w (Global g) = codes " global " ++ global_name w g
object_text w (Periph q) = codes " periph " ++ periph_name w q
object_text w (Local f l) = codes " local " ++ func_name w f ++ codes "." ++ local_name w f l
object_text w (Func f) = codes " func " ++ func_name w f

abbrev pub objects_text : PlainFirmware → List ObjId → List ℕ
objects_text w os = flat_map (object_text w) os

abbrev pub block_text : PlainFirmware → (func block : ℕ) → List ℕ
block_text w f b = func_name w f ++ codes " block " ++ label_of w f b

abbrev pub place_text : PlainFirmware → (func block inst : ℕ) → List ℕ
place_text w f b k = block_text w f b ++ codes " instruction " ++ decimal k

-- ---- what a call through a register may go to

-- a function that there is, whose address has the register's type
abbrev pub is_target : Program → (func register : ℕ) → ObjId → Bool
is_target p f r (Func h) = nat_lt h (length p.funcs) && same (signature p h) (register_type p f r)
is_target p f r _ = false

abbrev pub targets_of : Subject → (func register : ℕ) → List ObjId
targets_of s f r = filter (is_target s.program f r) (objects_of s f r)

-- ---- lines

-- the line of what stands at a place, with the objects that it may reach
abbrev pub use_line : Subject → (word : List ℕ) → (func block inst : ℕ) → List ObjId → List ℕ
use_line s word f b k os = word ++ place_text s.firmware f b k ++ objects_text s.firmware os ++ line_feed

abbrev pub call_line : Subject → (func block inst callee : ℕ) → List ℕ
call_line s f b k g = use_line s (codes "call ") f b k (Func g ∷ [])

abbrev pub icall_line : Subject → (func block inst register : ℕ) → List ℕ
icall_line s f b k r = use_line s (codes "icall ") f b k (targets_of s f r)

abbrev pub inst_line : Subject → (func block inst : ℕ) → NumberedInst → List ℕ
inst_line s f b k (Load to from t) = use_line s (codes "load ") f b k (objects_of s f from)
inst_line s f b k (Store to from t) = use_line s (codes "store ") f b k (objects_of s f to)
inst_line s f b k (Call to g args) = call_line s f b k g
inst_line s f b k (ICall to r args) = icall_line s f b k r
inst_line s f b k _ = []

abbrev pub block_lines : Subject → (func block : ℕ) → NumberedBlock → List ℕ
block_lines s f b x = numbered (inst_line s f b) 0 x.insts

abbrev pub func_lines : Subject → (func : ℕ) → NumberedFunc → List ℕ
func_lines s f g = numbered (block_lines s f) 0 g.blocks

-- all loads, stores and calls, in the order of the text
abbrev pub use_lines : Subject → List ℕ
use_lines s = numbered (func_lines s) 0 s.program.funcs
