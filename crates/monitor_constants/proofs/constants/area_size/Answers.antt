use Rattle.std.proofs.Common.{◌≡◌, ℕ, ◌+◌, ◌-◌, ◌*◌, length, min, refl, ap, ap₂, ◌∙◌, arith}
use Rattle.std.specs.Prelude.{List, sum_by}
use Rattle.monitor_model.specs.declared.tables.InitRecord.{InitRecord}
use Rattle.monitor_model.specs.declared.tables.Tables.{Tables}
use Rattle.monitor_model.specs.Records.{number_of_slots, words_in}
use Rattle.monitor_model.specs.Layout.{area_end, initial_word_count}
use Rattle.monitor_constants.specs.Sizes.{most}
use Rattle.monitor_constants.proofs.Counted.{product, plus, four_times, record_size}
use Rattle.monitor_constants.proofs.constants.area_size.Goals as goal

-- the words that are counted are those that start-up copies
copied : (t : Tables) (count : ℕ) (inits : List InitRecord) → inits ≡ t.inits → count ≡ min (sum_by words_in inits) most → count ≡ min (initial_word_count t) most
unfolding initial_word_count
copied t count inits e f = f ∙ ap (λ xs. min (sum_by words_in xs) most) e

pub returns : goal.returns
returns c =
    let t = c.args.t.now in
    let slots = number_of_slots t in
    let sized : (size count n : ℕ) (r : ℕ) → r ≡ min (size * n) most → n ≡ count → r ≡ min (size * count) most = λ size count n r e f. e ∙ ap (λ x. min (size * x) most) f in
    let record_is = record_size slots c.bytes_of.result c.saturating_add-compartment.result (sized 8 slots _ _ c.bytes_of.ensures c.number_of_slots.ensures) c.saturating_add-compartment.ensures in
    let comps = c.bytes_of-2.ensures ∙ ap₂ (λ x n. min (x * n) most) record_is c.len.ensures ∙ product (8 * slots + 16) (length t.comps) in
    let s1 = plus _ (12 * length t.sites) _ _ _ comps (sized 12 (length t.sites) _ _ c.bytes_of-3.ensures c.len-2.ensures) c.saturating_add.ensures in
    let s2 = plus _ (8 * length t.targets) _ _ _ s1 (sized 8 (length t.targets) _ _ c.bytes_of-4.ensures c.len-3.ensures) c.saturating_add-2.ensures in
    let s3 = plus _ (4 * length t.lends) _ _ _ s2 (sized 4 (length t.lends) _ _ c.bytes_of-5.ensures c.len-4.ensures) c.saturating_add-3.ensures in
    let s4 = plus _ (12 * length t.inits) _ _ _ s3 (sized 12 (length t.inits) _ _ c.bytes_of-6.ensures c.len-5.ensures) c.saturating_add-4.ensures in
    let s5 = plus _ (4 * initial_word_count t) _ _ _ s4 (four_times (initial_word_count t) _ _ (copied t c.word_count.result c.as_slice.result.now c.as_slice.ensures c.word_count.ensures.exact) c.saturating_mul.ensures) c.saturating_add-5.ensures in
    let s6 = plus _ 4128 _ 4128 _ s5 refl c.saturating_add-6.ensures in
    let e : (8 * slots + 16) * length t.comps + 12 * length t.sites + 8 * length t.targets + 4 * length t.lends + 12 * length t.inits + 4 * initial_word_count t + 4128 ≡ area_end t - t.base = omega arith in
    s6 ∙ ap (λ x. min x most) e
