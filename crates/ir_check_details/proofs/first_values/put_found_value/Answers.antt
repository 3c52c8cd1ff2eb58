use Rattle.std.proofs.Common.{codes}
use Rattle.std.specs.Fmt.{decimal}
use Rattle.std.proofs.lemmas.Result.{on_ok_weaker}
use Rattle.machine_lines.specs.Lines.{line_feed}
use Rattle.ir_check_details.specs.FirstValues.{value_text}
use Rattle.ir_check_details.proofs.Misfits.{five_pieces}
use Rattle.ir_check_details.proofs.first_values.put_found_value.Goals as goal

pub returns : goal.returns
returns c =
    on_ok_weaker c.put-3.result (five_pieces c.args.out.now.items c.put.new.out.items c.put_count.new.out.items c.put-2.new.out.items c.put_value_text.new.out.items c.put-3.new.out.items
    (codes "found value ") (decimal c.args.number) (codes ": ") (value_text c.args.cell.now) line_feed
    c.in_ok-put.ensures c.in_ok-put_count.ensures c.in_ok-put-2.ensures c.in_ok-put_value_text.ensures)
    c.put-3.ensures
