use Rattle.std.proofs.Common.{map}
use Rattle.ir_model.specs.Plain.{struct_of}
use Rattle.ir_model.specs.Layout.{known, fields_named}
use Rattle.ir_layouts.proofs.Entries.{offset_told, type_told}
use Rattle.ir_layouts.proofs.table.Layouts.field.Goals as goal

pub returns-clause-offset : goal.returns-clause-offset
returns-clause-offset c = offset_told (fields_named (known (map struct_of c.args.self.now)) c.args.of.now) c.args.field.now c.field_named.result c.field_named.ensures

pub returns-clause-ty : goal.returns-clause-ty
returns-clause-ty c = type_told (fields_named (known (map struct_of c.args.self.now)) c.args.of.now) c.args.field.now c.field_named.result c.field_named.ensures
