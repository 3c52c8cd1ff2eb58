-- How many records the tables have.
use Rattle.std.proofs.Common.{◌≡◌, ℕ, suc, ◌+◌, ◌*◌, List, [], ◌∷◌, ◌++◌, length, map, sum_by, refl, ap, sym, ◌∙◌, length-append, arith}
use Rattle.std.proofs.lemmas.List.{length-map, map-append, get_or-map}
use Rattle.std.proofs.lemmas.List.FromFn.{length-map-range_with_len, fill_by_all}
use Rattle.std.proofs.lemmas.List.Sums.{sum_by-cons}
use Rattle.ir_model.specs.Resolved.{Program}
use Rattle.plan_model.specs.declared.needs.SiteNeed.{SiteNeed}
use Rattle.plan_model.specs.declared.needs.Needs.{Needs}
use Rattle.plan_model.specs.declared.graph.DataRegion.{DataRegion}
use Rattle.plan_model.specs.declared.graph.Final.{Final}
use Rattle.plan_model.specs.declared.plan.Plan.{Plan}
use Rattle.plan_model.specs.Lists.{numbers_below}
use Rattle.plan_model.specs.Crossing.{crossing_sites, target_count}
use Rattle.plan_model.specs.Regions.{no_region, region_at}
use Rattle.plan_model.specs.Placement.{region_spot}
use Rattle.plan_model.specs.TableSize.{words_in, filled_blocks, unless_empty}
use Rattle.image_model.specs.FirstWords.{first_bytes, first_words}
use Rattle.image_model.specs.LinkedTables.{Filled, object_places, site_records, target_record, target_records, filled, filled_unwritten, init_records, words_of, tables_of}
use Rattle.image_model.specs.Laws.{CountsAgree}
use Rattle.machine_model.proofs.StackWords.{length-words_at as words_at_length}
use Rattle.base_laws.proofs.Lists.{mapped_twice}

sites_counted : (p : Program) (n : Needs) (f : Final) (l : Plan) (k : ℕ) (ss : List SiteNeed) → length (site_records p n f l k ss) ≡ length ss
sites_counted p n f l k [] = refl
sites_counted p n f l k (s ∷ ss) = ap suc (sites_counted p n f l (k + length s.targets) ss)

targets_counted : (p : Program) (n : Needs) (f : Final) (l : Plan) (ss : List SiteNeed) → length (target_records p n f l ss) ≡ target_count ss
targets_counted p n f l [] = refl
targets_counted p n f l (s ∷ ss) =
    omega (arith, length-append (map (target_record p n f l) s.targets) (target_records p n f l ss), length-map s.targets (target_record p n f l), targets_counted p n f l ss, sum_by-cons (λ (x : SiteNeed). length x.targets) s ss)

inits_counted : (p : Program) (a : ℕ) (bs : List Filled) → length (init_records p a bs) ≡ length bs
inits_counted p a [] = refl
inits_counted p a (b ∷ bs) = ap suc (inits_counted p (a + 4 * words_in p b.globals) bs)

unwritten_counted : (l : Plan) (xs : List ℕ) → length (filled_unwritten l xs) ≡ length (unless_empty xs)
unwritten_counted l [] = refl
unwritten_counted l (x ∷ xs) = refl

-- as many blocks are filled as the size of the tables counts
pub blocks_counted : (f : Final) (l : Plan) → length (filled f l) ≡ length (filled_blocks f)
blocks_counted f l =
    let g : ℕ → Filled = λ r. record { base = (region_spot l r).base; globals = (region_at f.regions r).globals } in
    let h : DataRegion → List ℕ = λ r. r.globals in
    let a = length-append (map g (numbers_below (length f.regions))) (filled_unwritten l f.unwritten) in
    let b = length-append (map h f.regions) (unless_empty f.unwritten) in
    omega (arith, a, b, length-map-range_with_len g 0 (length f.regions), length-map f.regions h, unwritten_counted l f.unwritten)

-- and as many words
words_counted : (p : Program) (n : Needs) (f : Final) (l : Plan) (bs : List Filled) → length (words_of p n f l bs) ≡ sum_by (λ (b : Filled). words_in p b.globals) bs
unfolding first_words
words_counted p n f l [] = refl
words_counted p n f l (b ∷ bs) =
    let q = object_places p n f l in
    omega (arith, length-append (first_words p q b.globals) (words_of p n f l bs), words_at_length (words_in p b.globals) 0 (first_bytes p q b.globals), words_counted p n f l bs, sum_by-cons (λ (x : Filled). words_in p x.globals) b bs)

unwritten_are : (l : Plan) (xs : List ℕ) → map (λ (b : Filled). b.globals) (filled_unwritten l xs) ≡ unless_empty xs
unwritten_are l [] = refl
unwritten_are l (x ∷ xs) = refl

-- the globals of the blocks are those that the size of the tables counts
pub blocks_are : (f : Final) (l : Plan) → map (λ (b : Filled). b.globals) (filled f l) ≡ filled_blocks f
blocks_are f l =
    let g : ℕ → Filled = λ r. record { base = (region_spot l r).base; globals = (region_at f.regions r).globals } in
    let h : DataRegion → List ℕ = λ r. r.globals in
    let ns = numbers_below (length f.regions) in
    map-append (λ (b : Filled). b.globals) (map g ns) (filled_unwritten l f.unwritten)
    ∙ ap (λ ys. map (λ (b : Filled). b.globals) (map g ns) ++ ys) (unwritten_are l f.unwritten)
    ∙ ap (λ xs. xs ++ unless_empty f.unwritten)
    (mapped_twice (λ (b : Filled). b.globals) g ns
    ∙ sym (fill_by_all (λ r. (region_at f.regions r).globals) (map h f.regions) (length f.regions) [] (length-map f.regions h) (λ k lt. get_or-map h f.regions k no_region [] lt)))

summed : (p : Program) (bs : List Filled) → sum_by (λ (b : Filled). words_in p b.globals) bs ≡ sum_by (words_in p) (map (λ (b : Filled). b.globals) bs)
summed p [] = refl
summed p (b ∷ bs) = omega (arith, summed p bs, sum_by-cons (λ (x : Filled). words_in p x.globals) b bs, sum_by-cons (words_in p) b.globals (map (λ (x : Filled). x.globals) bs))

pub counts_agree : CountsAgree
unfolding tables_of
counts_agree = record {
  comps = λ p n f l b. length-map-range_with_len _ 0 f.groups.count;
  sites = λ p n f l b. sites_counted p n f l 0 _;
  targets = λ p n f l b. targets_counted p n f l (crossing_sites n f.groups);
  lends = λ p n f l b. length-map _ _;
  inits = λ p n f l b. inits_counted p _ _ ∙ blocks_counted f l;
  words = λ p n f l b. words_counted p n f l (filled f l) ∙ summed p (filled f l) ∙ ap (sum_by (words_in p)) (blocks_are f l);
}
