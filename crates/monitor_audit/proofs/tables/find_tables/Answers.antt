use Rattle.std.proofs.Common.{◌≡◌, ◌<◌, ◌+◌, ◌-◌, ◌*◌, ◌^◌, None, length, sym, ap, ◌∙◌, subst, arith, length-drop}
use Rattle.std.specs.Prelude.{sum_by}
use Rattle.monitor_model.specs.declared.tables.Tables.{Tables}
use Rattle.monitor_model.specs.Records.{words_in}
use Rattle.monitor_model.specs.Layout.{page_size, greatest_code}
use Rattle.monitor_model.specs.Checks.{tables_fail}
use Rattle.monitor_program.specs.TheCode.{monitor_code}
use Rattle.monitor_model.specs.FromFlash.{records, init_record_at}
use Rattle.monitor_laws.proofs.ReadTables.{length-records}
use Rattle.monitor_audit.specs.Heads.{IsHead, head_fails, words_offset}
use Rattle.monitor_audit.proofs.Checking.{keeps_limits, has_some}
use Rattle.monitor_audit.proofs.Finding.{copied, word_fault, end_fault, size_fault, passes}
use Rattle.monitor_audit.proofs.Made.{inits_are}
use Rattle.monitor_audit.proofs.tables.find_tables.Goals as goal

pub read_head-head-requires : goal.read_head-head-requires
read_head-head-requires c =
    let l = ap length c.behind_page-bytes.ensures in
    let d = length-drop 4096 c.args.image.now.flash in
    omega (arith, l, d, c.requires.room)

pub returns-in-Some : goal.returns-in-Some
returns-in-Some c =
    let i = c.args.image.now in
    let h = c.read_head-head.result in
    word_fault monitor_code i h (subst (λ b. IsHead b h) c.behind_page-bytes.ensures c.read_head-head.ensures) c.in-Some.at (sym c.head_fault.ensures ∙ c.in-Some.is)

pub returns-then-places-bytes : goal.returns-then-places-bytes
returns-then-places-bytes c =
    let i = c.args.image.now in
    let h = c.read_head-head.result in
    let keeps : head_fails i h ≡ None = sym c.head_fault.ensures ∙ c.in_default.is in
    let l = ap length c.behind_page-bytes.ensures in
    let d = length-drop 4096 i.flash in
    let o = c.offsets_of-places.ensures in
    end_fault monitor_code i h (subst (λ b. IsHead b h) c.behind_page-bytes.ensures c.read_head-head.ensures) c.requires.room (has_some i h keeps) keeps
    (omega (arith, l, d, o.sites, o.targets, o.lends, o.inits, o.words, c.if-places-bytes.true, c.requires.room))

pub overflow_mul-end : goal.overflow_mul-end
overflow_mul-end c =
    let i = c.args.image.now in
    let b = c.behind_page-bytes.result.now in
    let l = ap length c.behind_page-bytes.ensures in
    let d = length-drop 4096 i.flash in
    let o = c.offsets_of-places.ensures in
    let v = ap length c.deref.ensures.value in
    let k = ap length c.in_ok-inits.ensures in
    let n = length-records (init_record_at b) 12 c.read_head-head.result.inits c.offsets_of-places.result.inits in
    omega (arith, l, d, o.words, v, k, n, c.if-places-bytes.false, c.requires.rules.flash_most, c.word_count-count.ensures.small)

pub overflow_add-end : goal.overflow_add-end
overflow_add-end c =
    let i = c.args.image.now in
    let b = c.behind_page-bytes.result.now in
    let l = ap length c.behind_page-bytes.ensures in
    let d = length-drop 4096 i.flash in
    let o = c.offsets_of-places.ensures in
    let v = ap length c.deref.ensures.value in
    let k = ap length c.in_ok-inits.ensures in
    let n = length-records (init_record_at b) 12 c.read_head-head.result.inits c.offsets_of-places.result.inits in
    omega (arith, l, d, o.words, v, k, n, c.if-places-bytes.false, c.requires.rules.flash_most, c.word_count-count.ensures.small)

pub returns-then-end-bytes : goal.returns-then-end-bytes
returns-then-end-bytes c =
    let i = c.args.image.now in
    let h = c.read_head-head.result in
    let is = subst (λ b. IsHead b h) c.behind_page-bytes.ensures c.read_head-head.ensures in
    let keeps : head_fails i h ≡ None = sym c.head_fault.ensures ∙ c.in_default.is in
    let l = ap length c.behind_page-bytes.ensures in
    let d = length-drop 4096 i.flash in
    let o = c.offsets_of-places.ensures in
    let p = c.offsets_of-places.result in
    let read = c.in_ok-inits.ensures ∙ ap (λ b. records (init_record_at b) 12 h.inits p.inits) c.behind_page-bytes.ensures in
    let all = inits_are i h is p.sites p.targets p.lends p.inits p.words o.sites o.targets o.lends o.inits o.words c.in_ok-inits.inits.items read in
    let v = ap length c.deref.ensures.value in
    let k = ap length c.in_ok-inits.ensures in
    let m = length-records (init_record_at c.behind_page-bytes.result.now) 12 c.read_head-head.result.inits c.offsets_of-places.result.inits in
    let few : length c.deref.result.now < 2 ^ 32 = omega (arith, l, d, o.words, v, k, m, c.if-places-bytes.false, c.requires.rules.flash_most) in
    let n : c.word_count-count.result ≡ copied i = c.word_count-count.ensures.whole few ∙ ap (sum_by words_in) (c.deref.ensures.value ∙ all) in
    end_fault monitor_code i h is c.requires.room (has_some i h keeps) keeps
    (omega (arith, l, d, o.sites, o.targets, o.lends, o.inits, o.words, n, c.if-end-bytes.true, c.requires.room))

pub read_tables-requires-clause-limits : goal.read_tables-requires-clause-limits
read_tables-requires-clause-limits c =
    let i = c.args.image.now in
    let h = c.read_head-head.result in
    let keeps : head_fails i h ≡ None = sym c.head_fault.ensures ∙ c.in_default.is in
    let l = ap length c.behind_page-bytes.ensures in
    let d = length-drop 4096 i.flash in
    let o = c.offsets_of-places.ensures in
    keeps_limits i h (omega (arith, l, d, o.words, c.if-places-bytes.false, c.requires.rules.flash_most)) keeps

pub read_tables-requires-clause-count : goal.read_tables-requires-clause-count
read_tables-requires-clause-count c =
    let i = c.args.image.now in
    let l = ap length c.behind_page-bytes.ensures in
    let d = length-drop 4096 i.flash in
    let o = c.offsets_of-places.ensures in
    let v = ap length c.deref.ensures.value in
    let k = ap length c.in_ok-inits.ensures in
    let m = length-records (init_record_at c.behind_page-bytes.result.now) 12 c.read_head-head.result.inits c.offsets_of-places.result.inits in
    let few : length c.deref.result.now < 2 ^ 32 = omega (arith, l, d, o.words, v, k, m, c.if-places-bytes.false, c.requires.rules.flash_most) in
    c.word_count-count.ensures.whole few ∙ ap (sum_by words_in) c.deref.ensures.value

pub read_tables-requires-clause-room : goal.read_tables-requires-clause-room
read_tables-requires-clause-room c =
    let i = c.args.image.now in
    let l = ap length c.behind_page-bytes.ensures in
    let d = length-drop 4096 i.flash in
    let o = c.offsets_of-places.ensures in
    omega (arith, l, d, o.sites, o.targets, o.lends, o.inits, o.words, c.if-end-bytes.false, c.requires.room)

pub returns-then-size-len : goal.returns-then-size-len
returns-then-size-len c =
    let i = c.args.image.now in
    let h = c.read_head-head.result in
    let is = subst (λ b. IsHead b h) c.behind_page-bytes.ensures c.read_head-head.ensures in
    let keeps : head_fails i h ≡ None = sym c.head_fault.ensures ∙ c.in_default.is in
    let l = ap length c.behind_page-bytes.ensures in
    let d = length-drop 4096 i.flash in
    let o = c.offsets_of-places.ensures in
    let p = c.offsets_of-places.result in
    let read = c.in_ok-inits.ensures ∙ ap (λ b. records (init_record_at b) 12 h.inits p.inits) c.behind_page-bytes.ensures in
    let all = inits_are i h is p.sites p.targets p.lends p.inits p.words o.sites o.targets o.lends o.inits o.words c.in_ok-inits.inits.items read in
    let v = ap length c.deref.ensures.value in
    let k = ap length c.in_ok-inits.ensures in
    let m = length-records (init_record_at c.behind_page-bytes.result.now) 12 c.read_head-head.result.inits c.offsets_of-places.result.inits in
    let few : length c.deref.result.now < 2 ^ 32 = omega (arith, l, d, o.words, v, k, m, c.if-places-bytes.false, c.requires.rules.flash_most) in
    let n : c.word_count-count.result ≡ copied i = c.word_count-count.ensures.whole few ∙ ap (sum_by words_in) (c.deref.ensures.value ∙ all) in
    let whole : 4096 + (p.words + 4 * c.word_count-count.result) ≡ page_size + words_offset (i.regions - 4) h + 4 * copied i = omega (arith, n, o.sites, o.targets, o.lends, o.inits, o.words) in
    let blocks = c.block_of.ensures.exact (page_size + words_offset (i.regions - 4) h + 4 * copied i) (omega (arith, whole, l, d, c.if-end-bytes.false, c.requires.room, c.requires.rules.flash_most)) in
    let code = c.greatest_code.ensures.exact ∙ ap greatest_code c.as_slice.ensures ∙ ap (λ (t : Tables). greatest_code t.comps) c.in_ok-tables.ensures in
    let size = c.len.ensures in
    size_fault monitor_code i h is c.requires.room (has_some i h keeps) keeps
    (omega (arith, blocks, code, size, c.max-size.ensures, c.if-size-len.true))

pub returns : goal.returns
returns c =
    let i = c.args.image.now in
    let h = c.read_head-head.result in
    let is = subst (λ b. IsHead b h) c.behind_page-bytes.ensures c.read_head-head.ensures in
    let keeps : head_fails i h ≡ None = sym c.head_fault.ensures ∙ c.in_default.is in
    let l = ap length c.behind_page-bytes.ensures in
    let d = length-drop 4096 i.flash in
    let o = c.offsets_of-places.ensures in
    let p = c.offsets_of-places.result in
    let read = c.in_ok-inits.ensures ∙ ap (λ b. records (init_record_at b) 12 h.inits p.inits) c.behind_page-bytes.ensures in
    let all = inits_are i h is p.sites p.targets p.lends p.inits p.words o.sites o.targets o.lends o.inits o.words c.in_ok-inits.inits.items read in
    let v = ap length c.deref.ensures.value in
    let k = ap length c.in_ok-inits.ensures in
    let m = length-records (init_record_at c.behind_page-bytes.result.now) 12 c.read_head-head.result.inits c.offsets_of-places.result.inits in
    let few : length c.deref.result.now < 2 ^ 32 = omega (arith, l, d, o.words, v, k, m, c.if-places-bytes.false, c.requires.rules.flash_most) in
    let n : c.word_count-count.result ≡ copied i = c.word_count-count.ensures.whole few ∙ ap (sum_by words_in) (c.deref.ensures.value ∙ all) in
    let whole : 4096 + (p.words + 4 * c.word_count-count.result) ≡ page_size + words_offset (i.regions - 4) h + 4 * copied i = omega (arith, n, o.sites, o.targets, o.lends, o.inits, o.words) in
    let blocks = c.block_of.ensures.exact (page_size + words_offset (i.regions - 4) h + 4 * copied i) (omega (arith, whole, l, d, c.if-end-bytes.false, c.requires.room, c.requires.rules.flash_most)) in
    let own = c.in_ok-tables.ensures in
    let code = c.greatest_code.ensures.exact ∙ ap greatest_code c.as_slice.ensures ∙ ap (λ (t : Tables). greatest_code t.comps) own in
    let size = c.len.ensures in
    let fits = passes monitor_code i h is c.requires.room (has_some i h keeps) keeps
    (omega (arith, l, d, whole, c.if-end-bytes.false, c.requires.room)) (omega (arith, c.requires.rules.flash_most))
    (omega (arith, blocks, code, size, c.max-size.ensures, c.if-size-len.false)) in
    (own, ap (tables_fail i) own ∙ fits)
