-- All words of the tables fit, so flash has them as they are, and the tables that are read from flash are these.
use Rattle.std.proofs.Common.{◌≡◌, ℕ, zero, suc, ◌+◌, ◌-◌, ◌*◌, ◌^◌, ◌<◌, List, [], ◌∷◌, length, drop, flat_map, refl, ap, ◌∙◌, arith}
use Rattle.std.specs.Prelude.{slice_index}
use Rattle.base_words.specs.Bytes.{read}
use Rattle.base_words.proofs.Bytes.{cut_small}
use Rattle.base_laws.specs.Lists.{Each}
use Rattle.ir_model.specs.Resolve.{resolve}
use Rattle.ir_model.specs.Resolved.{Program}
use Rattle.ir_laws.specs.Typed.{TypedOverNumbers}
use Rattle.ir_laws.specs.Limits.{SizesAreLimited, WindowsLieApart}
use Rattle.plan_model.specs.declared.plan.Plan.{Plan}
use Rattle.plan_model.specs.Boards.{slots_of}
use Rattle.plan_model.specs.Lists.{numbers_below}
use Rattle.plan_model.specs.TableSize.{table_bytes}
use Rattle.monitor_model.specs.declared.tables.CompRecord.{CompRecord}
use Rattle.monitor_model.specs.declared.tables.Tables.{Tables}
use Rattle.monitor_model.specs.Area.{compartment_words, site_words, target_words, init_words, head, area}
use Rattle.monitor_program.specs.TheCode.{monitor_code}
use Rattle.image_model.specs.LinkedTables.{comp_record, tables_of}
use Rattle.image_model.specs.LinkedImage.{linked}
use Rattle.image_promises.specs.Planned.{planned_tables, planned_image}
use Rattle.plan.specs.PlannedFirmwares.{plan}
use Rattle.image_promises.specs.Laws.{FlashReadsBack}
use Rattle.image_promises.proofs.PlannedPremises.{PlannedPremises, planned_of}
use Rattle.image_promises.proofs.Facts.{length_is, flash_least, stack_in, monitor_in}
use Rattle.plan_model.proofs.KeptLimits.{few}
use Rattle.image_promises.proofs.ReadBack.{ReadLaws, tables_at_base}
use Rattle.image_promises.proofs.AreaSize.{slot_count}
use Rattle.image_promises.proofs.AreaEnd.{initial_words_are}
use Rattle.image_promises.specs.TablesInFlash.{WordsFit, WordsStand, TablesReadBack}
use Rattle.image_promises.proofs.Lists.{each_map}
use Rattle.image_promises.proofs.WordLists.{AreWords, both_words}
use Rattle.image_promises.proofs.CompartmentWords.{comps_fit}
use Rattle.image_promises.proofs.SiteWords.{tables_most, sites_fit, targets_fit}
use Rattle.image_promises.proofs.InitWords.{lends_fit, inits_fit, words_fit}
use Rattle.image_promises.proofs.Reading.{each_word, behind_page}
use Rattle.image_promises.proofs.ReadTables.{same_tables}
use Rattle.base_laws.proofs.Lists.{each_of}
use Rattle.monitor_laws.proofs.ReadTables.{Reads}

-- what is known of plans, of code and of firmwares
pub record WordLaws : Type 0 where
  pub read : ReadLaws
  pub typing : TypedOverNumbers
  pub sizes : SizesAreLimited
  pub windows : WindowsLieApart

each_at : (ws : List ℕ) (k : ℕ) → AreWords ws → k < length ws → slice_index ws k < 2 ^ 32
each_at [] k e lt = absurd (omega (arith, lt))
each_at (x ∷ xs) zero e lt = e.0
each_at (x ∷ xs) (suc k) e lt = each_at xs k e.1 (omega (arith, lt))

module _ (law : WordLaws) (planned : PlannedPremises) where
  open planned use {firmware as w, needs as n, final as f, board as b, is_planned as ok}

  abbrev p : Program
  p = resolve w

  abbrev l : Plan
  l = plan w n f b

  abbrev t : Tables
  t = planned_tables w n f b

  stack_word : (t.stack.base < 2 ^ 32) × (t.stack.size < 2 ^ 32)
  unfolding tables_of
  stack_word =
      let ends = (stack_in law.read.plans planned).0.1 in
      let top = ok.board.ram_highest in
      let size = ok.board.ram_size.most in
      (omega (arith, ends, top, size), omega (arith, ends, top, size))

  monitor_word : t.monitor < 2 ^ 32
  unfolding tables_of
  monitor_word =
      let ends = (monitor_in law.read.plans planned).0.1 in
      let top = ok.board.ram_highest in
      let size = ok.board.ram_size.most in
      omega (arith, ends, top, size)

  head_fits : AreWords (head t)
  unfolding table_bytes
  head_fits =
      let m = tables_most law.read law.typing planned in
      let c = law.read.counts in
      let q = (few n f.groups ok.limits).compartments in
      let n1 = c.comps p n f l b in
      let n2 = c.sites p n f l b in
      let n3 = c.targets p n f l b in
      let n4 = c.lends p n f l b in
      let n5 = c.inits p n f l b in
      (omega (arith, n1, q), (omega (arith, n2, m), (omega (arith, n3, m), (omega (arith, n4, m), (omega (arith, n5, m), (stack_word.0, (stack_word.1, (monitor_word, tt))))))))

  pub area_fits : AreWords (area t)
  area_fits =
      both_words (head t) _ head_fits
      (both_words (flat_map compartment_words t.comps) _ (comps_fit law.read.plans law.windows planned)
      (both_words (flat_map site_words t.sites) _ (sites_fit law.read law.typing planned)
      (both_words (flat_map target_words t.targets) _ (targets_fit law.read law.typing planned)
      (both_words t.lends _ (lends_fit law.read law.sizes planned)
      (both_words (flat_map init_words t.inits) t.words (inits_fit law.read law.sizes planned) (words_fit law.read law.sizes planned))))))

  pub area_stands : FlashReadsBack → (k : ℕ) → k < length (area t) → read 4 (4096 + 4 * k) (planned_image w n f b).flash ≡ slice_index (area t) k
  area_stands back k lt = back.words w n f b ok k lt ∙ cut_small 4 (slice_index (area t) k) (each_at (area t) k area_fits lt)

  -- ---- the tables that are read

  slots_are : Each (λ (c : CompRecord). length c.slots ≡ b.regions - 4) t.comps
  unfolding tables_of
  slots_are =
      each_map (λ (c : CompRecord). length c.slots ≡ b.regions - 4) (comp_record p f l (slots_of b)) (λ c. Unit {0}) (numbers_below f.groups.count)
      (λ c u. slot_count p f l (slots_of b) c) (each_of (λ c. Unit {0}) (λ c. tt) (numbers_below f.groups.count))

  area_read : FlashReadsBack → Reads (drop 4096 (planned_image w n f b).flash) 0 (area t)
  area_read back =
      let size = length_is law.read.plans planned in
      let least = flash_least law.read.plans planned in
      each_word (drop 4096 (planned_image w n f b).flash) (area t) 0
      (λ k lt. behind_page (planned_image w n f b).flash 4096 (0 + 4 * k) (omega (arith, size, least))
      ∙ ((let e : 4096 + (0 + 4 * k) ≡ 4096 + 4 * k = omega arith in ap (λ o. read 4 o (planned_image w n f b).flash) e) ∙ area_stands back k lt))

  closed_is : t.closed ≡ b.closed
  unfolding tables_of
  closed_is = refl

pub all_words_fit : WordLaws → WordsFit
all_words_fit law w n f b ok = area_fits law (planned_of ok)

pub words_stand : WordLaws → FlashReadsBack → WordsStand
words_stand law back w n f b ok = area_stands law (planned_of ok) back

pub tables_read_back : WordLaws → FlashReadsBack → TablesReadBack
unfolding linked
tables_read_back law back w n f b ok main main_comp =
    same_tables monitor_code (planned_image w n f b) (planned_tables w n f b)
    (record {
      base = tables_at_base law.read (planned_of ok);
      closed = closed_is law (planned_of ok);
      slots = slots_are law (planned_of ok);
      words = area_read law (planned_of ok) back;
      counted = initial_words_are (resolve w) n f (plan w n f b) b;
      main = main;
      main_comp = main_comp;
    })
