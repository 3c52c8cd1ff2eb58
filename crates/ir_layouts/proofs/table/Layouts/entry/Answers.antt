use Rattle.std.proofs.Common.{sym, ap, length, arith, ◌≡◌, ◌∙◌}
use Rattle.std.proofs.lemmas.List.{length-map}
use Rattle.ir_layouts.specs.declared.struct_layout.StructLayout.{StructLayout}
use Rattle.ir_layouts.proofs.Entries.{entry_laid, entry_same}
use Rattle.ir_layouts.proofs.table.Layouts.entry.Goals as goal

pub returns-clause-laid : goal.returns-clause-laid
returns-clause-laid c =
    let n : length c.args.self.now ≡ length c.self.inside.structs.items = ap length (sym c.self.view_is) ∙ length-map c.self.inside.structs.items (λ (l : StructLayout). l.declaration.now) in
    entry_laid c.self.inside.names c.self.inside.structs.items c.args.self.now c.args.place c.index.result.now c.self.invariant c.self.view_is (omega (arith, n)) (sym c.index.ensures)

pub returns-clause-same : goal.returns-clause-same
returns-clause-same c =
    let n : length c.args.self.now ≡ length c.self.inside.structs.items = ap length (sym c.self.view_is) ∙ length-map c.self.inside.structs.items (λ (l : StructLayout). l.declaration.now) in
    entry_same c.self.inside.structs.items c.args.self.now c.args.place c.index.result.now c.self.view_is (omega (arith, n)) (sym c.index.ensures)
