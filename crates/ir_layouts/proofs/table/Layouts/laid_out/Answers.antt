use Rattle.std.proofs.Common.{map, arith}
use Rattle.ir_model.specs.Plain.{struct_of}
use Rattle.ir_layouts.proofs.Opened.{open_closed, open_laid, open_names}
use Rattle.ir_layouts.proofs.table.Layouts.laid_out.Goals as goal

pub returns-then-size-gt-SIZE_LIMIT-clause-too_large : goal.returns-then-size-gt-SIZE_LIMIT-clause-too_large
returns-then-size-gt-SIZE_LIMIT-clause-too_large c = λ e.
    let s = open_closed (map struct_of c.args.self.now) (struct_of c.args.declaration.now) c.in_ok-open.open.size c.in_ok-open.open.align c.in_ok-open.open.cells c.round_up-size.result c.lay_fields.new.fields.items c.lay_fields.new.names
    c.in_ok-open.ensures.open c.round_up-size.ensures.exact in
    omega (arith, s)

pub returns-clause-laid : goal.returns-clause-laid
returns-clause-laid c = open_laid (map struct_of c.args.self.now) _ c.in_ok-open.open.size c.in_ok-open.ensures.open c.round_up-size.ensures.exact (omega arith)

pub invariant_of-result : goal.invariant_of-result
invariant_of-result c = record {
  all_names = open_names (map struct_of c.args.self.now) (struct_of c.args.declaration.now).fields c.in_ok-open.open.size c.in_ok-open.open.align c.in_ok-open.open.cells
      c.lay_fields.new.fields.items c.lay_fields.new.names c.in_ok-open.ensures.open;
}
