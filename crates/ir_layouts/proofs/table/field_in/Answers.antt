use Rattle.std.proofs.Common.{ap, sym, map, ◌∙◌, List, ℕ}
use Rattle.base_names.specs.Numbers.{has}
use Rattle.ir_layouts.specs.Fields.{place_of}
use Rattle.ir_layouts.proofs.Entries.{place_none, field_found}
use Rattle.ir_layouts.proofs.table.field_in.Goals as goal

pub returns-in-None : goal.returns-in-None
returns-in-None c =
    sym (place_none (map place_of c.args.layout.now.fields.items) c.args.field.now (ap (λ (ns : List (List ℕ)). has ns c.args.field.now) (sym c.args.layout.now.all_names) ∙ c.in-None.ensures))

pub returns-in-Some : goal.returns-in-Some
returns-in-Some c =
    field_found c.args.layout.now.fields.items c.args.layout.now.names c.args.field.now c.in-Some.number c.index.result.now c.args.layout.now.all_names
    c.in-Some.ensures.0 c.in-Some.ensures.1.0 c.in-Some.ensures.1.1 c.index.ensures
