use Rattle.std.proofs.Common.{◌≡◌, ◌++◌, map, take}
use Rattle.ir_model.specs.Plain.{PlainStruct, struct_of}
use Rattle.ir_text_places.specs.Rows.{names_in}
use Rattle.ir_text_places.proofs.rows.put_structs.Given as goal

abbrev pub invariant-loop-decl : goal.invariant-loop-decl
invariant-loop-decl l = names_in l.row.items ≡ names_in l.initial.row.items ++ map (λ (s : PlainStruct). s.name) (map struct_of (take l.decl-index l.structs))
