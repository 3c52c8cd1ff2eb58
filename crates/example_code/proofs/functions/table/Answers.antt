use Rattle.example_code.proofs.Table.{computes_table}
use Rattle.example_code.proofs.functions.table.Goals as goal

pub returns : goal.returns
returns c = computes_table
