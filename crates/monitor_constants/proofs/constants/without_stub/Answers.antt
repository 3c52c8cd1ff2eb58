use Rattle.std.proofs.Common.{◌≡◌, ◌+◌, ◌*◌, length, min, ap, ap₂, ◌∙◌, arith}
use Rattle.base_words.specs.Arithmetic.{word}
use Rattle.monitor_model.specs.Records.{number_of_slots}
use Rattle.monitor_model.specs.Layout.{compartments_at, sites_at, targets_at, lends_at, inits_at}
use Rattle.monitor_program.specs.Constants.{most_slots}
use Rattle.monitor_constants.proofs.Counted.{wrapped_behind}
use Rattle.monitor_constants.proofs.constants.without_stub.Goals as goal

pub returns : goal.returns
returns c =
    let t = c.args.t.now in
    let s = number_of_slots t in
    let slots : c.min.result ≡ min most_slots s = omega (arith, c.min.ensures, c.number_of_slots-slots.ensures) in
    let k : c.behind-record.result ≡ word (8 * s + 16) = omega (arith, c.behind-record.ensures, c.number_of_slots-slots.ensures) in
    let a : c.behind-compartments_at.result ≡ word (compartments_at t) = omega (arith, c.behind-compartments_at.ensures) in
    let b : c.behind-sites_at.result ≡ word (sites_at t) = c.behind-sites_at.ensures ∙ ap₂ (λ x y. word (x + y * c.len.result)) a k ∙ ap (λ n. word (word (compartments_at t) + word (8 * s + 16) * n)) c.len.ensures ∙ wrapped_behind (compartments_at t) (8 * s + 16) (length t.comps) in
    let d : c.behind-targets_at.result ≡ word (targets_at t) = c.behind-targets_at.ensures ∙ ap₂ (λ x n. word (x + 12 * n)) b c.len-2.ensures ∙ wrapped_behind (sites_at t) 12 (length t.sites) in
    let e : c.behind-lends_at.result ≡ word (lends_at t) = c.behind-lends_at.ensures ∙ ap₂ (λ x n. word (x + 8 * n)) d c.len-3.ensures ∙ wrapped_behind (targets_at t) 8 (length t.targets) in
    let f : c.behind-inits_at.result ≡ word (inits_at t) = c.behind-inits_at.ensures ∙ ap₂ (λ x n. word (x + 4 * n)) e c.len-4.ensures ∙ wrapped_behind (lends_at t) 4 (length t.lends) in
    let u : c.behind.result ≡ word (length t.sites) = omega (arith, c.behind.ensures, c.len-5.ensures) in
    let v : c.behind-2.result ≡ word (length t.lends) = omega (arith, c.behind-2.ensures, c.len-6.ensures) in
    let w : c.behind-3.result ≡ word (length t.inits) = omega (arith, c.behind-3.ensures, c.len-7.ensures) in
    let x : c.behind-4.result ≡ word (length t.words) = omega (arith, c.behind-4.ensures, c.len-8.ensures) in
    rw (slots, a, b, d, e, f, u, v, w, x, c.background.ensures, c.tables_region.ensures, c.stack_region.ensures, c.as_word.ensures, c.as_word-2.ensures, c.as_word-3.ensures, c.as_word-4.ensures)
