use Rattle.std.proofs.Common.{length, sym, ◌∙◌, le-leb, arith}
use Rattle.monitor_audit.proofs.Eighths.{mask_fits}
use Rattle.monitor_audit.proofs.regions.is_mask.Goals as goal

pub returns-then-lends-ge32 : goal.returns-then-lends-ge32
returns-then-lends-ge32 c =
    le-leb 32 c.len-lends.result c.if-lends-ge32.true
    ∙ sym (mask_fits c.args.mask (length c.args.tables.now.lends) (omega (arith, c.ranges.mask)) (omega (arith, c.if-lends-ge32.true, c.len-lends.ensures)))
