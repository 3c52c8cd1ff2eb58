use Rattle.aces_audit.proofs.asking.output_by_bytes.Goals as goal

pub returns-clause-ok : goal.returns-clause-ok
returns-clause-ok c = c.in_ok-told.ensures c.args.image.now c.args.bytes.now c.in_ok-read.ensures.ok
