use Rattle.std.proofs.Common.{◌≤◌, length, sym, arith}
use Rattle.std.proofs.lemmas.List.{length-take-le, take_all}
use Rattle.ir_expected_tokens.proofs.telling.shown.Goals as goal

pub slice_bounds-result-end : goal.slice_bounds-result-end
slice_bounds-result-end c = let long : 64 ≤ length c.args.bytes.now = omega (arith, c.if-bytes-le-SHOWN.false) in sym (length-take-le 64 c.args.bytes.now long)

pub returns-then-bytes-le-SHOWN : goal.returns-then-bytes-le-SHOWN
returns-then-bytes-le-SHOWN c = let short : length c.args.bytes.now ≤ 64 = omega (arith, c.if-bytes-le-SHOWN.true) in sym (take_all 64 c.args.bytes.now short)
