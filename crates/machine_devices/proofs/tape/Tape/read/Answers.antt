-- Each line is read from where the last one ended, and the last one ends the text.
use Rattle.std.proofs.Common.{◌≡◌, take, ap, sym, ◌∙◌}
use Rattle.machine_devices.specs.Lines.{without_return}
use Rattle.machine_devices.proofs.Reading.{begin_reading, read_more, read_last}
use Rattle.machine_devices.proofs.tape.Tape.read.Goals as goal

pub loop-end-init : goal.loop-end-init
loop-end-init c = rw c.in_ok-tape.ensures (begin_reading c.args.text.now c.args.names.now)

pub loop-end-preserved : goal.loop-end-preserved
loop-end-preserved c =
    let k = c.in-Some.end in
    let left = c.loop-end.rest.now in
    let line : c.without_return.result.now ≡ without_return (take k left) =
    c.without_return.ensures ∙ ap without_return c.split_at.ensures.front in
    let put = rw line at c.in_ok-read_line.ensures in
    rw (c.split_at-in-Some.ensures.back, c.split_at.ensures.back)
    (read_more c.args.text.now c.args.names.now c.loop-end.line left c.loop-end.tape c.read_line.new.self k c.in_ok-read_line.field-0
    c.loop-end.invariant (sym c.in-Some.ensures) put)

pub returns : goal.returns
returns c =
    read_last c.args.text.now c.args.names.now c.loop-end.line c.loop-end.rest.now c.loop-end.tape c.read_line-2.new.self c.in_ok-read_line-2.field-0
    c.loop-end.invariant (sym c.in_default.ensures) c.in_ok-read_line-2.ensures
