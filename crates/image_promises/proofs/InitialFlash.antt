-- Where the words of the filled blocks of a planned firmware stand in flash.
use Rattle.std.proofs.Common.{◌≡◌, ℕ, ◌+◌, ◌-◌, ◌*◌, ◌≤◌, List, ◌++◌, length, flat_map, refl, sym, ap, ◌∙◌, append_assoc, arith, length-append}
use Rattle.std.specs.Prelude.{slice_index}
use Rattle.std.proofs.lemmas.List.{get_or-append-add}
use Rattle.base_words.specs.Bytes.{read, cut}
use Rattle.ir_model.specs.Resolved.{Program}
use Rattle.ir_model.specs.Resolve.{resolve}
use Rattle.plan_model.specs.declared.plan.Plan.{Plan}
use Rattle.plan_model.specs.Boards.{slots_of}
use Rattle.code_model.specs.declared.places.Places.{Places}
use Rattle.monitor_model.specs.declared.tables.Tables.{Tables}
use Rattle.monitor_model.specs.Area.{head, compartment_words, site_words, target_words, init_words, area}
use Rattle.image_model.specs.Laws.{CountsAgree}
use Rattle.image_model.specs.FirstWords.{first_words}
use Rattle.image_model.specs.LinkedTables.{Filled, filled, object_places, words_begin, tables_of}
use Rattle.image_promises.specs.Planned.{planned_tables, planned_image}
use Rattle.plan.specs.PlannedFirmwares.{plan}
use Rattle.image_promises.specs.Laws.{FlashReadsBack}
use Rattle.image_promises.proofs.PlannedPremises.{PlannedPremises}
use Rattle.image_promises.proofs.AreaSize.{area_size}
use Rattle.image_promises.proofs.Facts.{PlanLaws, laid}
use Rattle.image_promises.proofs.WordsBack.{StandAt}

-- a list ends with another
record EndsWith (whole part : List ℕ) : Type 0 where
  front : List ℕ
  is : whole ≡ front ++ part

behind : (xs ys part : List ℕ) → EndsWith ys part → EndsWith (xs ++ ys) part
behind xs ys part h = record { front = xs ++ h.front; is = ap (λ zs. xs ++ zs) h.is ∙ sym (append_assoc xs h.front part) }

area_ends : (t : Tables) → EndsWith (area t) t.words
area_ends t =
    let inits = flat_map init_words t.inits in
    let targets = flat_map target_words t.targets in
    let sites = flat_map site_words t.sites in
    let comps = flat_map compartment_words t.comps in
    behind (head t) (comps ++ (sites ++ (targets ++ (t.lends ++ (inits ++ t.words))))) t.words
    (behind comps (sites ++ (targets ++ (t.lends ++ (inits ++ t.words)))) t.words
    (behind sites (targets ++ (t.lends ++ (inits ++ t.words))) t.words
    (behind targets (t.lends ++ (inits ++ t.words)) t.words
    (behind t.lends (inits ++ t.words) t.words (record { front = inits; is = refl })))))

module _ (law : PlanLaws) (counts : CountsAgree) (back : FlashReadsBack) (planned : PlannedPremises) where
  open planned use {firmware as w, needs as n, final as f, board as b, is_planned as ok}

  abbrev p : Program
  p = resolve w

  abbrev l : Plan
  l = plan w n f b

  abbrev t : Tables
  t = planned_tables w n f b

  abbrev q : Places
  q = object_places p n f l

  tables_stand : StandAt p q b.flash_base (planned_image w n f b).flash (words_begin p n f l (slots_of b)) t.words
  tables_stand j lt =
      let ends = area_ends t in
      let size = area_size counts p n f l b in
      let long = ap length ends.is ∙ length-append ends.front t.words in
      let m = counts.words p n f l b in
      let base = (laid law planned).vectors in
      let s : words_begin p n f l (slots_of b) - b.flash_base + 4 * j ≡ 4096 + 4 * (length ends.front + j) = omega (arith, size, long, m, base) in
      ap (λ a. read 4 a (planned_image w n f b).flash) s
      ∙ (back.words w n f b ok (length ends.front + j) (omega (arith, long, lt))
      ∙ ap (cut 4) (ap (λ xs. slice_index xs (length ends.front + j)) ends.is ∙ get_or-append-add ends.front t.words j 0))

  -- of all filled blocks, one block's behind the other's
  pub words_stand : StandAt p q b.flash_base (planned_image w n f b).flash (words_begin p n f l (slots_of b)) (flat_map (λ (c : Filled). first_words p q c.globals) (filled f l))
  unfolding tables_of
  words_stand = tables_stand

  pub from_base : b.flash_base ≤ words_begin p n f l (slots_of b)
  from_base = let base = (laid law planned).vectors in omega (arith, base)
