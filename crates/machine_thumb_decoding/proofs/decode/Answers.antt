-- By the lemmas that `decoded` is the relation.
use Rattle.std.proofs.Common.{None, sym, ◌∙◌}
use Rattle.machine_thumb.proofs.Relation.{related-decoded, undefined-decoded, decoded_narrow, decoded_wide, IfNone-of}
use Rattle.machine_thumb_decoding.proofs.decode.Goals as goal

pub returns-in_err-narrow-clause-undefined : goal.returns-in_err-narrow-clause-undefined
returns-in_err-narrow-clause-undefined c =
    IfNone-of _ _ (undefined-decoded c.args.h1 c.args.h2
    (decoded_narrow c.args.h1 c.args.h2 None c.if-h1-lt59392.true (sym c.narrow.ensures ∙ c.in_err-narrow.was)))

pub returns-in_err-wide-clause-undefined : goal.returns-in_err-wide-clause-undefined
returns-in_err-wide-clause-undefined c =
    IfNone-of _ _ (undefined-decoded c.args.h1 c.args.h2
    (decoded_wide c.args.h1 c.args.h2 None c.if-h1-lt59392.false (sym c.wide.ensures ∙ c.in_err-wide.was)))

pub returns-in_ok-narrow-clause-related : goal.returns-in_ok-narrow-clause-related
returns-in_ok-narrow-clause-related c =
    related-decoded c.args.h1 c.args.h2 _ (c.ranges.h1.fits) (c.ranges.h2.fits)
    (decoded_narrow c.args.h1 c.args.h2 _ c.if-h1-lt59392.true (sym c.narrow.ensures ∙ c.in_ok-narrow.was))

pub returns-in_ok-wide-clause-related : goal.returns-in_ok-wide-clause-related
returns-in_ok-wide-clause-related c =
    related-decoded c.args.h1 c.args.h2 _ (c.ranges.h1.fits) (c.ranges.h2.fits)
    (decoded_wide c.args.h1 c.args.h2 _ c.if-h1-lt59392.false (sym c.wide.ensures ∙ c.in_ok-wide.was))
