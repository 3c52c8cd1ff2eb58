-- Entries by the sizes of all functions are those of the definitions.
use Rattle.std.proofs.Common.{◌≡◌, ℕ, ◌<◌, List, length, map, take, get_or, refl, ap, sym, ◌∙◌, arith}
use Rattle.std.proofs.lemmas.List.FromFn.{get_or-map-range_with_len, length-map-range_with_len, fill_by_all}
use Rattle.std.proofs.lemmas.List.{length-map, length-take-le}
use Rattle.ir_model.specs.Resolved.{Program}
use Rattle.ir_program.specs.declared.program.Program as programs
use Rattle.ir_program.specs.Parts.{routine_of}
use Rattle.ir_program.specs.Seen.{program_of, known_of}
use Rattle.plan_model.specs.declared.graph.Final.{Final}
use Rattle.plan_model.specs.declared.plan.Plan.{Plan}
use Rattle.plan_model.specs.declared.plan.Spot.{Spot}
use Rattle.plan_model.specs.Lists.{numbers_below}
use Rattle.code_model.specs.CompartmentCode.{CodeGroups, CodePlaces, size_of, entry_of}
use Rattle.image_entries.specs.declared.numbers.Numbers.{Numbers}
use Rattle.image_entries.specs.Grouped.{groups_in}
use Rattle.image_linker.specs.Parts.{planned_places}
use Rattle.image_entries.specs.Bases.{entry_in, entries_in}
use Rattle.plan_crossings.proofs.Totals.{totals}

module _ (p : Program) (groups : CodeGroups) (zs : List ℕ) (n : ℕ) (are : zs ≡ map (size_of p groups) (numbers_below n)) where
  one_size : (f : ℕ) → f < n → get_or zs f 0 ≡ size_of p groups f
  one_size f l = ap (λ xs. get_or xs f 0) are ∙ get_or-map-range_with_len (size_of p groups) 0 n f f 0 l (omega arith)

  module _ (l : Plan) (at : CodePlaces) (bases : at.bases ≡ map (λ (s : Spot). s.base) l.code) (each : length groups.compartments ≡ n) where
    one_entry : (h : ℕ) → h < n → entry_in l groups.compartments zs h ≡ entry_of p groups at h
    one_entry h lt =
        let c = get_or groups.compartments h 0 in
        let short = length-take-le h groups.compartments (omega (arith, each, lt)) in
        let t = totals p groups zs n one_size 0 (take h groups.compartments) c (omega (arith, short, each, lt)) in
        let b = ap (λ xs. get_or xs c 0) bases in
        omega (arith, t, b)

    pub entries_are : map (entry_in l groups.compartments zs) (numbers_below n) ≡ map (entry_of p groups at) (numbers_below n)
    entries_are =
        fill_by_all (entry_of p groups at) (map (entry_in l groups.compartments zs) (numbers_below n)) n 0 (length-map-range_with_len (entry_in l groups.compartments zs) 0 n)
        (λ k lt. get_or-map-range_with_len (entry_in l groups.compartments zs) 0 n k k 0 lt (omega arith) ∙ one_entry k lt)

-- the entries that the code computes from the sizes of all functions
pub entries_made : (r : programs.Program) (f : Final) (l : Plan) (x : Numbers) (zs es : List ℕ) →
    zs ≡ map (size_of (program_of r) (groups_in f.groups.of x)) (numbers_below (length r.funcs)) → length f.groups.of ≡ length zs → es ≡ entries_in l f.groups.of zs →
    (length f.groups.of ≡ length (program_of r).funcs) × (es ≡ map (entry_of (program_of r) (groups_in f.groups.of x) (planned_places (program_of r) f l)) (numbers_below (length (program_of r).funcs)))
entries_made r f l x zs es are each made =
    let p = program_of r in
    let cs = f.groups.of in
    let gs = groups_in cs x in
    let at = planned_places p f l in
    let n = length r.funcs in
    let long : length zs ≡ n = ap (λ ys. length ys) are ∙ length-map-range_with_len (size_of p gs) 0 n in
    let count : length p.funcs ≡ n = length-map r.funcs (routine_of (known_of r)) in
    let all : length cs ≡ n = each ∙ long in (
      all ∙ sym count,
      made ∙ ap (λ k. map (entry_in l cs zs) (numbers_below k)) long ∙ entries_are p gs zs n are l at refl all ∙ ap (λ k. map (entry_of p gs at) (numbers_below k)) (sym count),
    )
