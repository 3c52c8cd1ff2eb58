use Rattle.std.proofs.Common.{◌∙◌, ap, sym, nat_eq}
use Rattle.std.proofs.lemmas.Bool.{le-ltb}
use Rattle.plan_report.proofs.Named.{no_bit}
use Rattle.plan_report.proofs.lent.is_set.Goals as goal

pub returns-else-bit-lt32 : goal.returns-else-bit-lt32
returns-else-bit-lt32 c =
    le-ltb c.args.bit 32 c.if-bit-lt32.false ∙ ap (λ b. nat_eq b 1) (sym (no_bit c.args.mask c.args.bit c.ranges.mask.fits c.if-bit-lt32.false))
