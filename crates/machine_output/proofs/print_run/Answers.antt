use Rattle.std.proofs.Common.{[], ◌++◌, ap, sym, append-nil}
use Rattle.machine_lines.specs.Lines.{end_line}
use Rattle.machine_output.specs.Runs.{end_of, event_lines}
use Rattle.base_outside.proofs.Prefixes.{prefix_part, prefix_longer, on_err}
use Rattle.machine_output.proofs.print_run.Goals as goal

pub returns-in_err-end-clause-part : goal.returns-in_err-end-clause-part
returns-in_err-end-clause-part g c t =
    let i = c.args.image.now in
    let s = c.args.machine.now.state in
    on_err _ _ (prefix_longer _ _ (event_lines i c.args.steps s) (end_line (end_of i c.args.steps s)) (c.in_err-end.ensures.part t))

pub returns-in_err-put-clause-part : goal.returns-in_err-put-clause-part
returns-in_err-put-clause-part g c t =
    let i = c.args.image.now in
    let s = c.args.machine.now.state in
    let lines = event_lines i c.args.steps s in
    let last = end_line (end_of i c.args.steps s) in
    on_err _ _ (prefix_part _ _ _ lines last [] _ (c.in_ok-end.ensures.lines t)
    (rw (c.as_slice.ensures, c.end_line.ensures, c.in_ok-end.ensures.end) at c.in_err-put.ensures.failed)
    (ap (λ l. lines ++ l) (sym (append-nil last))))
