use Rattle.std.proofs.Common.{append_assoc, codes}
use Rattle.std.specs.Fmt.{decimal}
use Rattle.aces_where.proofs.frames.put_number.Goals as goal

pub returns : goal.returns
returns c = rw (c.in_ok-put.ensures, append_assoc c.args.text.now (codes " instruction ") (decimal c.args.place)) at c.put_decimal.ensures
