use Rattle.std.proofs.Common.{◌≡◌, ◌+◌, ◌-◌, ◌∙◌, ap, sym, refl, length, take, drop, true}
use Rattle.base_names.specs.Numbers.{has, number_of}
use Rattle.ir_text_places.specs.Faulty.{behind_first, has_twice}
use Rattle.ir_text_places.specs.Rows.{names_in}
use Rattle.ir_text_places.proofs.Numbered.{behind_is, slice_behind, second_yes}
use Rattle.ir_text_places.proofs.rows.again.Goals as goal

pub returns-then-has : goal.returns-then-has
returns-then-has c =
    let k = c.number-first.ensures.exact in
    let b = behind_is c.args.row.now c.args.name.now c.number-first.result (c.number-first.result + 1)
    (take (length c.args.row.now - (c.number-first.result + 1)) (drop (c.number-first.result + 1) c.args.row.now)) k refl (slice_behind c.args.row.now (c.number-first.result + 1)) in
    let h : has_twice (names_in c.args.row.now) c.args.name.now ≡ true = ap (λ ms. has ms c.args.name.now) (sym b) ∙ (sym c.has.ensures ∙ c.if-has.true) in
    let m : c.number.result ≡ number_of (behind_first (names_in c.args.row.now) c.args.name.now) c.args.name.now = c.number.ensures.exact ∙ ap (λ ms. number_of ms c.args.name.now) b in
    (h, second_yes (names_in c.args.row.now) c.args.name.now c.number-first.result (c.number-first.result + 1) c.number.result k refl h m)

pub returns-else-has : goal.returns-else-has
returns-else-has c =
    let k = c.number-first.ensures.exact in
    let b = behind_is c.args.row.now c.args.name.now c.number-first.result (c.number-first.result + 1)
    (take (length c.args.row.now - (c.number-first.result + 1)) (drop (c.number-first.result + 1) c.args.row.now)) k refl (slice_behind c.args.row.now (c.number-first.result + 1)) in
    ap (λ ms. has ms c.args.name.now) (sym b) ∙ (sym c.has.ensures ∙ c.if-has.false)
