use Rattle.std.proofs.Common.{◌+◌, ◌-◌, ◌*◌, length, sym, ap, ap₂, ◌∙◌, arith, length-drop}
use Rattle.std.specs.Prelude.{sum_by}
use Rattle.monitor_model.specs.Records.{words_in}
use Rattle.monitor_model.specs.FromFlash.{records, word_at, comp_record_at, site_record_at, target_record_at, moved_word_at}
use Rattle.monitor_audit.proofs.Made.{made}
use Rattle.monitor_audit.proofs.tables.read_tables.Goals as goal

pub compartments-requires-clause-room : goal.compartments-requires-clause-room
compartments-requires-clause-room c =
    let l = ap length c.behind_page-bytes.ensures in
    let d = length-drop 4096 c.args.image.now.flash in
    omega (arith, l, d, c.requires.room)

pub all_read-requires : goal.all_read-requires
all_read-requires c =
    let l = ap length c.behind_page-bytes.ensures in
    let d = length-drop 4096 c.args.image.now.flash in
    omega (arith, l, d, c.requires.room, c.offsets_of-places.ensures.sites)

pub all_read-requires-2 : goal.all_read-requires-2
all_read-requires-2 c =
    let l = ap length c.behind_page-bytes.ensures in
    let d = length-drop 4096 c.args.image.now.flash in
    omega (arith, l, d, c.requires.room, c.offsets_of-places.ensures.sites, c.offsets_of-places.ensures.targets)

pub all_read-requires-3 : goal.all_read-requires-3
all_read-requires-3 c =
    let l = ap length c.behind_page-bytes.ensures in
    let d = length-drop 4096 c.args.image.now.flash in
    omega (arith, l, d, c.requires.room, c.offsets_of-places.ensures.sites, c.offsets_of-places.ensures.targets, c.offsets_of-places.ensures.lends)

pub all_read-requires-4 : goal.all_read-requires-4
all_read-requires-4 c =
    let l = ap length c.behind_page-bytes.ensures in
    let d = length-drop 4096 c.args.image.now.flash in
    let o = c.offsets_of-places.ensures in
    omega (arith, l, d, c.requires.room, o.sites, o.targets, o.lends, o.inits, o.words)

pub returns : goal.returns
returns c =
    let i = c.args.image.now in
    let h = c.args.head.now in
    let o = c.offsets_of-places.ensures in
    let p = c.offsets_of-places.result in
    let s = i.regions - 4 in
    let q = c.behind_page-bytes.ensures in
    let e1 = c.new.ensures ∙ c.in_ok-comps.ensures ∙ ap (λ b. records (comp_record_at b s) (8 * s + 16) h.comps 32) q in
    let e2 = c.new-2.ensures ∙ c.in_ok-sites.ensures ∙ ap (λ b. records (site_record_at b) 12 h.sites p.sites) q in
    let e3 = c.new-3.ensures ∙ c.in_ok-targets.ensures ∙ ap (λ b. records (target_record_at b) 8 h.targets p.targets) q in
    let e4 = c.new-4.ensures ∙ c.in_ok-lends.ensures ∙ ap (λ b. records (word_at b) 4 h.lends p.lends) q in
    let e5 = c.new-5.ensures ∙ c.requires.inits in
    let n = c.requires.count ∙ ap (sum_by words_in) (sym c.new-5.ensures) in
    let e6 = c.new-6.ensures ∙ c.in_ok-words.ensures ∙ ap₂ (λ b k. records (word_at b) 4 k p.words) q n in
    let m = c.moved_word.ensures ∙ ap (moved_word_at 72) c.as_slice.ensures in
    let k = c.moved_word-2.ensures ∙ ap (moved_word_at 64) c.as_slice-2.ensures in
    rw (m, k) (made i h c.requires.is_head p.sites p.targets p.lends p.inits p.words o.sites o.targets o.lends o.inits o.words
    c.new.result c.new-2.result c.new-3.result c.new-4.result c.new-5.result c.new-6.result e1 e2 e3 e4 e5 e6)
