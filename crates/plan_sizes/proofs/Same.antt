-- The sizes that the code makes are those of the definitions.
use Rattle.std.proofs.Common.{◌≡◌, ℕ, ◌+◌, ◌*◌, ◌<◌, List, [], ◌∷◌, ◌++◌, length, map, sum_by, get_or, take, Option, None, Some, refl, ap, sym, ◌∙◌, length-append, arith}
use Rattle.std.specs.List.{list_any}
use Rattle.std.specs.Prelude.{IfSome}
use Rattle.std.proofs.lemmas.List.{length-map, take_all}
use Rattle.std.proofs.lemmas.List.FromFn.{get_or-map-range_with_len, length-map-range_with_len}
use Rattle.std.proofs.lemmas.List.Sums.{sum_by-cons}
use Rattle.ir_model.specs.Resolved.{Program, func_at}
use Rattle.plan_model.specs.declared.needs.Needs.{Needs}
use Rattle.plan_model.specs.declared.groups.Groups.{Groups}
use Rattle.plan_model.specs.declared.graph.DataRegion.{DataRegion}
use Rattle.plan_model.specs.declared.graph.Final.{Final}
use Rattle.plan_model.specs.Lists.{numbers_below}
use Rattle.plan_model.specs.Blocks.{region_bytes}
use Rattle.plan_model.specs.Crossing.{crossing_sites}
use Rattle.plan_model.specs.Lending.{lent, is_local, lend_number, lend_numbers_in}
use Rattle.plan_model.specs.TableSize.{unless_empty, filled_blocks, words_in, initial_words, table_bytes}
use Rattle.code_model.specs.FrameShape.{local_starts}
use Rattle.code_model.specs.Places.{lends_among}
use Rattle.code_model.specs.Sizes.{function_size}
use Rattle.code_model.specs.CompartmentCode.{members_from, total_size, size_of, lends_of, code_sizes}
use Rattle.code_model.specs.Planned.{call_sites, code_groups}
use Rattle.plan_sizes.specs.Parts.{function_bytes, code_with, region_words, block_count, record_bytes}
use Rattle.plan_crossings.specs.Filled.{filled_total}
use Rattle.plan_crossings.proofs.Totals.{totals}
use Rattle.plan_sizes.proofs.Lends.{has_place, some_counted}
use Rattle.code_model.proofs.Frames.{starts_length}
use Rattle.code_model.proofs.Lends.{lends_counted}

-- ---- code

module _ (p : Program) (n : Needs) (g : Groups) where
  abbrev bytes : (func : ℕ) → ℕ
  bytes f = function_bytes p (crossing_sites n g) (lent n g) f

  one_size : (f : ℕ) → f < length p.funcs → size_of p (code_groups p n g) f ≡ bytes f
  unfolding lend_number
  one_size f l =
      let h = func_at p f in
      let ns = lend_numbers_in p n g f in
      let starts = local_starts h in
      let sites = get_or-map-range_with_len (call_sites n g) 0 (length p.funcs) f f [] l (omega arith) in
      let lends = get_or-map-range_with_len (lend_numbers_in p n g) 0 (length p.funcs) f f [] l (omega arith) in
      let each : length starts ≡ length ns = starts_length (4 * length h.regs) h.locals ∙ sym (length-map-range_with_len (lend_number n g f) 0 (length h.locals)) in
      let counted = some_counted (lend_number n g f) (λ k. list_any (is_local f k) (lent n g)) (λ k. has_place (is_local f k) (lent n g)) (numbers_below (length h.locals)) in
      ap (λ ss. function_size h ss (length (lends_among starts (lends_of p (code_groups p n g) f)))) sites
      ∙ ap (λ xs. function_size h (call_sites n g f) (length (lends_among starts xs))) lends
      ∙ ap (λ k. function_size h (call_sites n g f) k) (lends_counted starts ns each ∙ counted)

  abbrev all : List ℕ
  all = map bytes (numbers_below (length p.funcs))

  listed_size : (f : ℕ) → f < length p.funcs → get_or all f 0 ≡ size_of p (code_groups p n g) f
  listed_size f l = get_or-map-range_with_len bytes 0 (length p.funcs) f f 0 l (omega arith) ∙ sym (one_size f l)

  map_same : (F G : ℕ → ℕ) → ((c : ℕ) → F c ≡ G c) → (cs : List ℕ) → map F cs ≡ map G cs
  map_same F G h [] = refl
  map_same F G h (c ∷ cs) = ap (λ x. x ∷ map F cs) (h c) ∙ ap (λ xs. G c ∷ xs) (map_same F G h cs)

  pub code_is : length g.of ≡ length p.funcs → code_with p g (crossing_sites n g) (lent n g) ≡ code_sizes p (code_groups p n g) g.count
  code_is each =
      map_same (λ c. filled_total all (members_from 0 g.of c)) (λ c. total_size p (code_groups p n g) (members_from 0 g.of c)) (λ c. totals p (code_groups p n g) all (length p.funcs) listed_size 0 g.of c (omega (arith, each))) (numbers_below g.count)

-- the functions of a compartment that stand before the number of all are all of them
pub of_all : (all ds : List ℕ) (c k : ℕ) (r : Option ℕ) → length ds ≡ length all → k ≡ length all → IfSome r (λ m. m ≡ filled_total all (members_from 0 (take k ds) c)) → IfSome r (λ m. m ≡ filled_total all (members_from 0 ds c))
of_all all ds c k None e f h = tt
of_all all ds c k (Some m) e f h = h ∙ ap (λ xs. filled_total all (members_from 0 xs c)) (take_all k ds (omega arith))

-- ---- tables

nothing_filled : (p : Program) → words_in p [] ≡ 0
unfolding region_bytes
nothing_filled p = refl

-- the words of all blocks: those of the data regions, and of the globals of none
words_of : (p : Program) (rs : List DataRegion) (xs : List ℕ) → sum_by (words_in p) (map (λ (r : DataRegion). r.globals) rs ++ unless_empty xs) ≡ region_words p rs + words_in p xs
words_of p [] [] = let z = nothing_filled p in omega (arith, z)
words_of p [] (x ∷ xs) = let a = sum_by-cons (words_in p) (x ∷ xs) [] in omega (arith, a)
words_of p (r ∷ rs) xs =
    let a = sum_by-cons (words_in p) r.globals (map (λ (s : DataRegion). s.globals) rs ++ unless_empty xs) in
    let b = sum_by-cons (λ (s : DataRegion). words_in p s.globals) r rs in
    let h = words_of p rs xs in
    omega (arith, a, b, h)

pub words_are : (p : Program) (f : Final) → initial_words p f ≡ region_words p f.regions + words_in p f.unwritten
words_are p f = words_of p f.regions f.unwritten

blocks_are : (f : Final) → block_count f ≡ length (filled_blocks f)
blocks_are f =
    let globals : DataRegion → List ℕ = λ r. r.globals in
    sym (length-append (map globals f.regions) (unless_empty f.unwritten) ∙ ap (λ k. k + length (unless_empty f.unwritten)) (length-map f.regions globals))

pub tables_are : (p : Program) (n : Needs) (f : Final) (slots : ℕ) →
    record_bytes f (crossing_sites n f.groups) slots + 4 * length (lent n f.groups) + 12 * block_count f + 4 * initial_words p f ≡ table_bytes p n f slots
unfolding table_bytes
tables_are p n f slots =
    ap (λ k. record_bytes f (crossing_sites n f.groups) slots + 4 * length (lent n f.groups) + 12 * k + 4 * initial_words p f) (blocks_are f)
