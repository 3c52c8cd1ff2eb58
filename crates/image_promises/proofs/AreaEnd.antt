-- Where the tables of a planned image end.
use Rattle.std.proofs.Common.{◌≡◌, ℕ, zero, suc, ◌+◌, ◌*◌, ◌<◌, List, [], ◌∷◌, length, map, sum_by, refl, ap, ◌∙◌, arith, length-append}
use Rattle.std.specs.List.{range_with_len}
use Rattle.std.proofs.lemmas.List.Sums.{sum_by-cons}
use Rattle.machine_model.specs.Stack.{words_at}
use Rattle.ir_model.specs.Resolved.{Program}
use Rattle.ir_model.specs.Resolve.{resolve}
use Rattle.ir_laws.specs.Typed.{TypedOverNumbers}
use Rattle.plan_model.specs.declared.needs.Needs.{Needs}
use Rattle.plan_model.specs.declared.groups.Groups.{Groups}
use Rattle.plan_model.specs.declared.graph.Final.{Final}
use Rattle.plan_model.specs.declared.plan.Board.{Board}
use Rattle.plan_model.specs.declared.plan.Plan.{Plan}
use Rattle.plan_model.specs.Boards.{slots_of}
use Rattle.plan_model.specs.Compartments.{AreCompartments, compartments, used_groups}
use Rattle.plan_model.specs.TableSize.{words_in, table_bytes}
use Rattle.monitor_model.specs.declared.tables.InitRecord.{InitRecord}
use Rattle.monitor_model.specs.Records as records
use Rattle.monitor_model.specs.Records.{slots_of_first, number_of_slots}
use Rattle.monitor_model.specs.Layout.{initial_word_count, area_end}
use Rattle.image_model.specs.Laws.{CountsAgree}
use Rattle.image_model.specs.FirstWords.{first_bytes, first_words}
use Rattle.image_model.specs.LinkedTables.{Filled, object_places, comp_record, init_records, words_of, words_begin, filled, tables_of}
use Rattle.image_promises.proofs.PlannedPremises.{PlannedPremises}
use Rattle.image_promises.proofs.AreaSize.{slot_count}
use Rattle.machine_model.proofs.StackWords.{length-words_at as word_count}

-- there is a compartment where there is a function
pub some_compartment : (p : Program) (g : Groups) → AreCompartments p g → 0 < length p.funcs → 0 < g.count
unfolding compartments
some_compartment p g h some = let e = ap (λ (x : Groups). x.count) h.are in let k = used h.groups (let m = h.each in omega (arith, m, some)) in omega (arith, e, k)
  where
    used : (ns : List ℕ) → 0 < length ns → 0 < length (used_groups ns)
    used [] lt = absurd (omega (arith, lt))
    used (x ∷ xs) lt = omega arith

-- a planned firmware has a compartment
pub has_compartments : TypedOverNumbers → (planned : PlannedPremises) → 0 < planned.final.groups.count
has_compartments typing planned =
    let ok = planned.is_planned in
    let m = (typing planned.firmware ok.typed ok.within).main in
    some_compartment (resolve planned.firmware) planned.final.groups ok.groups (omega (arith, m))

pub slots_are : (p : Program) (n : Needs) (f : Final) (l : Plan) (b : Board) → 0 < f.groups.count → number_of_slots (tables_of p n f l b) ≡ slots_of b
unfolding tables_of
slots_are p n f l b some = first f.groups.count some
  where
    first : (count : ℕ) → 0 < count → slots_of_first (map (comp_record p f l (slots_of b)) (range_with_len 0 count)) ≡ slots_of b
    first zero lt = absurd (omega (arith, lt))
    first (suc k) lt = slot_count p f l (slots_of b) 0

-- ---- initial words

words_counted : (p : Program) (n : Needs) (f : Final) (l : Plan) (a : ℕ) (bs : List Filled) → sum_by records.words_in (init_records p a bs) ≡ length (words_of p n f l bs)
unfolding first_words
words_counted p n f l a [] = refl
words_counted p n f l a (b ∷ bs) =
    let q = object_places p n f l in
    let r : InitRecord = record { at = b.base; end = b.base + 4 * words_in p b.globals; from = a } in
    let e = sum_by-cons records.words_in r (init_records p (a + 4 * words_in p b.globals) bs) in
    let h = words_counted p n f l (a + 4 * words_in p b.globals) bs in
    let k = word_count (words_in p b.globals) 0 (first_bytes p q b.globals) in
    let d = length-append (words_at (words_in p b.globals) 0 (first_bytes p q b.globals)) (words_of p n f l bs) in
    omega (arith, e, h, k, d)

-- as many as are there
pub initial_words_are : (p : Program) (n : Needs) (f : Final) (l : Plan) (b : Board) → initial_word_count (tables_of p n f l b) ≡ length (tables_of p n f l b).words
unfolding initial_word_count tables_of
initial_words_are p n f l b = words_counted p n f l (words_begin p n f l (slots_of b)) (filled f l)

pub end_is : CountsAgree → (p : Program) (n : Needs) (f : Final) (l : Plan) (b : Board) → 0 < f.groups.count → area_end (tables_of p n f l b) ≡ (tables_of p n f l b).base + table_bytes p n f (slots_of b)
unfolding table_bytes
end_is law p n f l b some =
    let t = tables_of p n f l b in
    let slots = slots_are p n f l b some in
    let words = initial_words_are p n f l b in
    let n1 = law.comps p n f l b in
    let n2 = law.sites p n f l b in
    let n3 = law.targets p n f l b in
    let n4 = law.lends p n f l b in
    let n5 = law.inits p n f l b in
    let n6 = law.words p n f l b in
    let q : (8 * number_of_slots t + 16) * length t.comps ≡ (8 * slots_of b + 16) * f.groups.count = same (number_of_slots t) (slots_of b) (length t.comps) f.groups.count slots n1 in
    omega (arith, words, n2, n3, n4, n5, n6, q)
  where
    same : (a b c d : ℕ) → a ≡ b → c ≡ d → (8 * a + 16) * c ≡ (8 * b + 16) * d
    same a b c d e h = ap (λ x. (8 * x + 16) * c) e ∙ ap (λ x. (8 * b + 16) * x) h
