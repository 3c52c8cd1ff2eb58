use Rattle.std.proofs.Common.{◌++◌, ap, codes, ◌∙◌, append_assoc}
use Rattle.std.proofs.lemmas.Result.{on_ok_weaker}
use Rattle.ir_model.specs.Plain.{firmware_of}
use Rattle.machine_lines.specs.Lines.{line_feed}
use Rattle.aces_why.specs.Lines.{block_text}
use Rattle.aces_why.proofs.warnings.put_unreached_block.Goals as goal

pub returns : goal.returns
returns c =
    let old = c.args.text.now in
    let word = codes "never reached " in
    let block = block_text (firmware_of c.args.subject.now.firmware.now) c.args.func c.args.block in
    on_ok_weaker c.put-2.result
    (λ e.
    e ∙ (ap (λ t. t ++ line_feed) (c.in_ok-put_block.ensures ∙ ap (λ t. t ++ block) c.in_ok-put.ensures)
    ∙ (append_assoc (old ++ word) block line_feed ∙ append_assoc old word (block ++ line_feed))))
    c.put-2.ensures
