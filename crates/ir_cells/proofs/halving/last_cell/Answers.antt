use Rattle.std.proofs.Common.{leb, subst, rules}
use Rattle.std.proofs.lemmas.List.Sorted.{IsPartitionPoint-from_clause, IsPartitionedBy-leb}
use Rattle.ir_layouts.specs.declared.struct_layout.Field.{Field}
use Rattle.ir_cells.specs.Halving.{IsFirstAbove}
use Rattle.ir_cells.proofs.Lasts.{Splits, split_above, split_last}
use Rattle.ir_cells.proofs.halving.last_cell.Goals as goal

pub returns-then-behind-eq0 : goal.returns-then-behind-eq0
returns-then-behind-eq0 c =
    let s : Splits (λ (f : Field). f.first_cell) c.args.fields.now c.args.number c.partition_point-behind.result =
    IsPartitionPoint-from_clause (λ (x : Field). leb x.first_cell c.args.number) c.args.fields.now c.partition_point-behind.result c.partition_point-behind.ensures.partitioned
    (IsPartitionedBy-leb (λ (x : Field). x.first_cell) c.args.fields.now c.args.number c.requires) (λ a r q k. search rules) in
    subst (IsFirstAbove (λ (f : Field). f.first_cell) c.args.fields.now c.args.number) c.if-behind-eq0.true (split_above (λ (f : Field). f.first_cell) c.args.fields.now c.args.number c.partition_point-behind.result s)

pub returns : goal.returns
returns c =
    let s : Splits (λ (f : Field). f.first_cell) c.args.fields.now c.args.number c.partition_point-behind.result =
    IsPartitionPoint-from_clause (λ (x : Field). leb x.first_cell c.args.number) c.args.fields.now c.partition_point-behind.result c.partition_point-behind.ensures.partitioned
    (IsPartitionedBy-leb (λ (x : Field). x.first_cell) c.args.fields.now c.args.number c.requires) (λ a r q k. search rules) in
    split_last (λ (f : Field). f.first_cell) c.args.fields.now c.args.number c.partition_point-behind.result s c.if-behind-eq0.false c.partition_point-behind.ensures.bound
