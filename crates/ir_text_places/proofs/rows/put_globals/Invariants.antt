use Rattle.std.proofs.Common.{◌≡◌, ◌++◌, map, take}
use Rattle.ir_model.specs.Plain.{PlainGlobal, global_of}
use Rattle.ir_text_places.specs.Rows.{names_in}
use Rattle.ir_text_places.proofs.rows.put_globals.Given as goal

abbrev pub invariant-loop-global : goal.invariant-loop-global
invariant-loop-global l = names_in l.row.items ≡ names_in l.initial.row.items ++ map (λ (g : PlainGlobal). g.name) (map global_of (take l.global-index l.globals))
