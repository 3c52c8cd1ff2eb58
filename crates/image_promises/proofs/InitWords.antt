-- The words of lent locals and of the blocks that start-up fills, and the initial words.
use Rattle.std.proofs.Common.{◌≡◌, ℕ, ◌+◌, ◌*◌, ◌^◌, ◌<◌, ◌≤◌, List, [], ◌∷◌, flat_map, sum_by, sym, ◌∙◌, subst, arith}
use Rattle.std.proofs.lemmas.List.Sums.{sum_by-cons}
use Rattle.base_laws.specs.Lists.{Each}
use Rattle.ir_model.specs.Resolve.{resolve}
use Rattle.ir_model.specs.Resolved.{Program, local_at}
use Rattle.ir_laws.specs.Limits.{SizesAreLimited}
use Rattle.plan_model.specs.declared.needs.Needs.{Needs}
use Rattle.plan_model.specs.declared.graph.Final.{Final}
use Rattle.plan_model.specs.declared.plan.Plan.{Plan}
use Rattle.plan_model.specs.Boards.{slots_of}
use Rattle.plan_model.specs.Blocks.{region_bytes}
use Rattle.plan_model.specs.Lending.{lent}
use Rattle.plan_model.specs.RamBlocks.{RamUse}
use Rattle.plan_model.specs.TableSize.{words_in, initial_words, table_bytes}
use Rattle.monitor_model.specs.declared.tables.InitRecord.{InitRecord}
use Rattle.monitor_model.specs.Records as records
use Rattle.monitor_model.specs.Layout.{initial_word_count}
use Rattle.monitor_model.specs.Area.{init_words}
use Rattle.image_model.specs.FirstWords.{first_bytes, first_words}
use Rattle.image_model.specs.LinkedTables.{Filled, object_places, init_records, words_begin, filled, tables_of}
use Rattle.image_promises.specs.Planned.{planned_tables}
use Rattle.plan.specs.PlannedFirmwares.{plan}
use Rattle.image_promises.proofs.PlannedPremises.{PlannedPremises}
use Rattle.image_promises.proofs.Facts.{laid, needed_most, tables_at_most, tables_block_is}
use Rattle.plan_model.proofs.Powers.{small_block}
use Rattle.image_promises.proofs.Ranges.{IsUse, uses, uses_are, filled_for, filled_is, globals_for, block_in, small}
use Rattle.image_promises.proofs.ReadBack.{ReadLaws}
use Rattle.image_promises.proofs.AreaEnd.{initial_words_are}
use Rattle.image_promises.proofs.Lists.{each_map}
use Rattle.image_promises.proofs.WordLists.{IsWord, AreWords, each_flat, read_words}
use Rattle.base_laws.proofs.Lists.{each_of}

-- ---- blocks whose words stand from an address on

-- a block that ends below 2 ^ 32
abbrev EndsLow : Program → Filled → Type 0
EndsLow p b = b.base + 4 * words_in p b.globals < 2 ^ 32

records_fit : (p : Program) (from : ℕ) (bs : List Filled) → from + 4 * sum_by records.words_in (init_records p from bs) < 2 ^ 32 → Each (EndsLow p) bs → AreWords (flat_map init_words (init_records p from bs))
records_fit p a [] h e = tt
records_fit p a (b ∷ bs) h e =
    let next : ℕ = a + 4 * words_in p b.globals in
    let r : InitRecord = record { at = b.base; end = b.base + 4 * words_in p b.globals; from = a } in
    let c = sum_by-cons records.words_in r (init_records p next bs) in
    let low = e.0 in
    (omega (arith, low), (low, (omega (arith, h), records_fit p next bs (omega (arith, h, c)) e.1)))

first_words_fit : (p : Program) (n : Needs) (f : Final) (l : Plan) (b : Filled) → AreWords (first_words p (object_places p n f l) b.globals)
unfolding first_words
first_words_fit p n f l b = read_words (words_in p b.globals) 0 (first_bytes p (object_places p n f l) b.globals)

module _ (law : ReadLaws) (sizes : SizesAreLimited) (planned : PlannedPremises) where
  open planned use {firmware as w, needs as n, final as f, board as b, is_planned as ok}

  abbrev p : Program
  p = resolve w

  abbrev l : Plan
  l = plan w n f b

  pub lends_fit : AreWords (planned_tables w n f b).lends
  unfolding tables_of
  lends_fit =
      each_map IsWord (λ (x : ℕ × ℕ). (local_at p x.0 x.1).size) (λ x. Unit {0}) (lent n f.groups) (λ x u. let h = (sizes w ok.typed).locals x.0 x.1 in omega (arith, h)) (each_of (λ x. Unit {0}) (λ x. tt) (lent n f.groups))

  use_low : (u : RamUse) → IsUse f u → EndsLow p (filled_for f l u)
  use_low u h =
      let ends = (block_in law.plans planned u h).0.1 in
      let room = (small_block (region_bytes p (globals_for f u)) (small law.plans planned u h)).1 in
      let top = ok.board.ram_highest in
      let size = ok.board.ram_size.most in
      omega (arith, ends, room, top, size)

  filled_low : Each (EndsLow p) (filled f l)
  filled_low = subst (Each (EndsLow p)) (sym (filled_is f l)) (each_map (EndsLow p) (filled_for f l) (IsUse f) (uses f) use_low (uses_are f))

  last_words : words_begin p n f l (slots_of b) + 4 * initial_words p f ≤ 0x20000000
  unfolding table_bytes
  last_words =
      let h = tables_at_most law.plans planned in
      let k = (tables_block_is law.plans planned).1 in
      let m = needed_most law.plans planned in
      let v = (laid law.plans planned).vectors in
      let top = ok.board.flash_highest in
      omega (arith, h, k, m, v, top)

  counted : sum_by records.words_in (init_records p (words_begin p n f l (slots_of b)) (filled f l)) ≡ initial_words p f
  unfolding initial_word_count tables_of
  counted = initial_words_are p n f l b ∙ law.counts.words p n f l b

  pub inits_fit : AreWords (flat_map init_words (planned_tables w n f b).inits)
  unfolding tables_of
  inits_fit =
      let h = last_words in
      let c = counted in
      records_fit p (words_begin p n f l (slots_of b)) (filled f l) (omega (arith, h, c)) filled_low

  pub words_fit : AreWords (planned_tables w n f b).words
  unfolding tables_of
  words_fit =
      each_flat IsWord (λ (x : Filled). first_words p (object_places p n f l) x.globals) (λ x. Unit {0}) (λ x u. first_words_fit p n f l x) (filled f l) (each_of (λ x. Unit {0}) (λ x. tt) (filled f l))
