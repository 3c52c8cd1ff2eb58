use Rattle.ir_layouts.proofs.Entries.{fields_found, fields_missing}
use Rattle.ir_layouts.proofs.table.Layouts.layout_named.Goals as goal

pub returns-in-None : goal.returns-in-None
returns-in-None c = fields_missing c.self.inside.names c.self.inside.structs.items c.args.self.now c.args.of.now c.self.invariant c.self.view_is c.in-None.ensures

pub returns-in-Some : goal.returns-in-Some
returns-in-Some c =
    fields_found c.self.inside.names c.self.inside.structs.items c.args.self.now c.args.of.now c.in-Some.place c.index.result.now c.self.invariant c.self.view_is
    c.in-Some.ensures.0 c.in-Some.ensures.1.0 c.in-Some.ensures.1.1 c.index.ensures
