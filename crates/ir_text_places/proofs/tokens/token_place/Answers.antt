use Rattle.std.proofs.Common.{◌≡◌, ◌+◌, ◌-◌, ◌∙◌, ap, length, take, count_by, nat_eq, arith}
use Rattle.std.specs.List.{suffix_len}
use Rattle.ir_model.specs.Texts.{is_inside_line}
use Rattle.ir_text_places.proofs.Split.{stands}
use Rattle.ir_text_places.proofs.tokens.token_place.Goals as goal

pub returns : goal.returns
returns c =
    λ w t.
    let g = c.saturating_sub.ensures in
    let s : c.saturating_sub.result ≡ length c.args.text.now - c.left_at-left.result = omega arith in
    stands w c.args.text.now c.args.before c.left_at-left.result c.position.result c.left_at-left.ensures.exact
    (c.position.ensures.line ∙ ap (λ n. 1 + count_by (λ b. nat_eq b 10) (take n c.args.text.now)) s)
    (c.position.ensures.col ∙ ap (λ n. 1 + suffix_len is_inside_line (take n c.args.text.now)) s)
    t
