-- The tables that are made of what is read are those of the image.
use Rattle.std.proofs.Common.{◌≡◌, ℕ, ◌+◌, ◌-◌, ◌*◌, List, drop, ap, ap₂, ◌∙◌}
use Rattle.std.specs.Prelude.{sum_by}
use Rattle.machine_devices.specs.declared.image.Image.{Image}
use Rattle.plan_model.specs.declared.plan.Spot.{Spot}
use Rattle.monitor_model.specs.declared.tables.CompRecord.{CompRecord}
use Rattle.monitor_model.specs.declared.tables.SiteRecord.{SiteRecord}
use Rattle.monitor_model.specs.declared.tables.TargetRecord.{TargetRecord}
use Rattle.monitor_model.specs.declared.tables.InitRecord.{InitRecord}
use Rattle.monitor_model.specs.Records.{words_in}
use Rattle.monitor_model.specs.Layout.{page_size, head_size}
use Rattle.monitor_program.specs.TheCode.{monitor_code}
use Rattle.monitor_model.specs.FromFlash.{records, word_at, comp_record_at, site_record_at, target_record_at, init_record_at, comp_count, site_count, target_count, lend_count, init_count, sites_offset, targets_offset, lends_offset, inits_offset, inits_read, moved_word_at, tables_of}
use Rattle.monitor_audit.specs.declared.head.Head.{Head}
use Rattle.monitor_audit.specs.Heads.{IsHead}

module _ (i : Image) (h : Head) (is : IsHead (drop page_size i.flash) h) (p1 p2 p3 p4 p5 : ℕ)
    (q1 : p1 ≡ head_size + (8 * (i.regions - 4) + 16) * h.comps) (q2 : p2 ≡ p1 + 12 * h.sites) (q3 : p3 ≡ p2 + 8 * h.targets) (q4 : p4 ≡ p3 + 4 * h.lends) (q5 : p5 ≡ p4 + 12 * h.inits) where
  abbrev b : List ℕ
  b = drop page_size i.flash

  abbrev s : ℕ
  s = i.regions - 4

  sites_at : p1 ≡ sites_offset b s
  sites_at = q1 ∙ ap (λ n. head_size + (8 * s + 16) * n) is.comps

  targets_at : p2 ≡ targets_offset b s
  targets_at = q2 ∙ ap₂ (λ o n. o + 12 * n) sites_at is.sites

  lends_at : p3 ≡ lends_offset b s
  lends_at = q3 ∙ ap₂ (λ o n. o + 8 * n) targets_at is.targets

  pub inits_at : p4 ≡ inits_offset b s
  inits_at = q4 ∙ ap₂ (λ o n. o + 4 * n) lends_at is.lends

  words_at : p5 ≡ inits_offset b s + 12 * init_count b
  words_at = q5 ∙ ap₂ (λ o n. o + 12 * n) inits_at is.inits

  stack_is : h.stack ≡ record { base = word_at b 20; size = word_at b 24 }
  stack_is = let make : ℕ → ℕ → Spot = λ x y. record { base = x; size = y } in ap₂ make is.stack_base is.stack_size

  pub inits_are : (inits : List InitRecord) → inits ≡ records (init_record_at b) 12 h.inits p4 → inits ≡ inits_read b s
  inits_are inits e = e ∙ ap₂ (λ n o. records (init_record_at b) 12 n o) is.inits inits_at

  pub made : (comps : List CompRecord) (sites : List SiteRecord) (targets : List TargetRecord) (lends : List ℕ) (inits : List InitRecord) (words : List ℕ)
      → comps ≡ records (comp_record_at b s) (8 * s + 16) h.comps 32 → sites ≡ records (site_record_at b) 12 h.sites p1 → targets ≡ records (target_record_at b) 8 h.targets p2
      → lends ≡ records (word_at b) 4 h.lends p3 → inits ≡ inits_read b s → words ≡ records (word_at b) 4 (sum_by words_in inits) p5
      → record {
        base = i.flash_base;
        comps = comps;
        sites = sites;
        targets = targets;
        lends = lends;
        inits = inits;
        words = words;
        stack = h.stack;
        monitor = h.monitor;
        main = moved_word_at 72 i.flash;
        main_comp = moved_word_at 64 i.flash;
        closed = i.closed;
      }
      ≡ tables_of monitor_code i
  unfolding tables_of
  made comps sites targets lends inits words c st ta le it wo =
      let e1 : comps ≡ records (comp_record_at b s) (8 * s + 16) (comp_count b) 32 = c ∙ ap (λ n. records (comp_record_at b s) (8 * s + 16) n 32) is.comps in
      let e2 : sites ≡ records (site_record_at b) 12 (site_count b) (sites_offset b s) = st ∙ ap₂ (λ n o. records (site_record_at b) 12 n o) is.sites sites_at in
      let e3 : targets ≡ records (target_record_at b) 8 (target_count b) (targets_offset b s) = ta ∙ ap₂ (λ n o. records (target_record_at b) 8 n o) is.targets targets_at in
      let e4 : lends ≡ records (word_at b) 4 (lend_count b) (lends_offset b s) = le ∙ ap₂ (λ n o. records (word_at b) 4 n o) is.lends lends_at in
      let e6 : words ≡ records (word_at b) 4 (sum_by words_in (inits_read b s)) (inits_offset b s + 12 * init_count b) =
      wo ∙ ap₂ (λ n o. records (word_at b) 4 n o) (ap (sum_by words_in) it) words_at in
      let e7 = stack_is in
      let e8 = is.monitor in
      cc
