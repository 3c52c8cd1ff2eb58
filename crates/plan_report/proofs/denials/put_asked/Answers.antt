use Rattle.std.proofs.Common.{codes}
use Rattle.std.proofs.lemmas.Result.{on_ok_weaker}
use Rattle.ir_model.specs.Plain.{firmware_of}
use Rattle.plan_report.specs.Names.{periph_name}
use Rattle.plan_report.proofs.Pieces.{three_pieces}
use Rattle.plan_report.proofs.denials.put_asked.Goals as goal

pub returns-in_ok-put-in-Window-2 : goal.returns-in_ok-put-in-Window-2
returns-in_ok-put-in-Window-2 c =
    rw c.in-Window.is
    (on_ok_weaker c.put-in-Window-2.result
    (three_pieces c.args.text.now (codes "peripheral ") (periph_name (firmware_of c.args.firmware.now) c.in-Window.periph) (codes ":")
    c.put.new.self c.put-in-Window.new.self c.put-in-Window-2.new.self c.periph_name.result.now
    c.periph_name.ensures c.in_ok-put-in-Window.ensures c.in_ok-put-in-Window-2.ensures)
    c.put-in-Window-2.ensures)
