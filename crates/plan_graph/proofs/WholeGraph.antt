-- The parts of a graph by the users of all globals are the definition's.
use Rattle.std.proofs.Common.{◌≡◌, ℕ, ◌<◌, ◌+◌, Bool, not, List, [], ◌∷◌, cond, length, map, filter, get_or, refl, sym, ap, ◌∙◌, arith}
use Rattle.std.specs.List.{All}
use Rattle.std.proofs.lemmas.List.{length-map}
use Rattle.std.proofs.lemmas.List.Elements.{All-head, All-tail}
use Rattle.std.proofs.lemmas.List.FromFn.{length-range_with_len, get_or-range_with_len, length-map-range_with_len, get_or-map-range_with_len}
use Rattle.ir_model.specs.Resolved.{Program}
use Rattle.plan_model.specs.declared.needs.Needs.{Needs}
use Rattle.plan_model.specs.declared.groups.Groups.{Groups}
use Rattle.plan_model.specs.declared.graph.DataRegion.{DataRegion}
use Rattle.plan_model.specs.declared.graph.Cover.{Cover}
use Rattle.plan_model.specs.declared.graph.Graph.{Graph}
use Rattle.plan_model.specs.InitialGraph.{Users, users_of, has_users, same_users, region_for, data_regions, unwritten, covers_of, mask_of, read_mask_of, initial_graph}
use Rattle.plan_model.specs.Lists.{numbers_below, distinct}
use Rattle.plan_graph.specs.declared.users.UserLists.{UserLists}
use Rattle.plan_graph.specs.UserLists.{users_seen, users_at, no_users, members, without_users, region_seen}

filter_alike : (p q : ℕ → Bool) (xs : List ℕ) → All (λ x. p x ≡ q x) xs → filter p xs ≡ filter q xs
filter_alike p q [] h = refl
filter_alike p q (x ∷ xs) h =
    ap (λ b. cond b (x ∷ filter p xs) (filter p xs)) (All-head (λ x. p x ≡ q x) x xs h) ∙ ap (λ ys. cond (q x) (x ∷ ys) ys) (filter_alike p q xs (All-tail (λ x. p x ≡ q x) x xs h))

filter_below : (p q : ℕ → Bool) (n : ℕ) → ((k : ℕ) → k < n → p k ≡ q k) → filter p (numbers_below n) ≡ filter q (numbers_below n)
filter_below p q n h =
    filter_alike p q (numbers_below n) (λ k d l.
    let size = length-range_with_len 0 n in
    let small : k < n = omega arith in
    let place : 0 + k ≡ k = omega arith in
    let item : get_or (numbers_below n) k d ≡ k = get_or-range_with_len 0 n k d small ∙ place in
    ap p item ∙ (h k small ∙ ap q (sym item)))

map_alike : {X Y : Type 0} (f g : X → Y) (xs : List X) → ((x : X) → f x ≡ g x) → map f xs ≡ map g xs
map_alike f g [] h = refl
map_alike f g (x ∷ xs) h = ap (λ y. y ∷ map f xs) (h x) ∙ ap (λ ys. g x ∷ ys) (map_alike f g xs h)

module _ (all : List UserLists) (f : ℕ → Users) (n : ℕ) (known : map users_seen all ≡ map f (numbers_below n)) where
  as_many : length all ≡ n
  as_many = sym (length-map all users_seen) ∙ (ap length known ∙ length-map-range_with_len f 0 n)

  at_place : (k : ℕ) → k < n → users_at all k ≡ f k
  at_place k l = ap (λ us. get_or us k no_users) known ∙ get_or-map-range_with_len f 0 n k k no_users l (omega arith)

  pub members_are : (u : Users) → members all u ≡ filter (λ x. same_users (f x) u) (numbers_below n)
  members_are u =
      ap (λ m. filter (λ x. same_users (users_at all x) u) (numbers_below m)) as_many
      ∙ filter_below (λ x. same_users (users_at all x) u) (λ x. same_users (f x) u) n (λ k l. ap (λ v. same_users v u) (at_place k l))

  pub without_are : without_users all ≡ filter (λ x. not (has_users (f x))) (numbers_below n)
  without_are =
      ap (λ m. filter (λ x. not (has_users (users_at all x))) (numbers_below m)) as_many
      ∙ filter_below (λ x. not (has_users (users_at all x))) (λ x. not (has_users (f x))) n (λ k l. ap (λ v. not (has_users v)) (at_place k l))

-- the data regions
regions_are : (p : Program) (n : Needs) (g : Groups) (all : List UserLists) → map users_seen all ≡ map (users_of n g) (numbers_below (length p.globals))
    → map (region_seen all) (distinct same_users (filter has_users (map users_seen all))) ≡ data_regions p n g
regions_are p n g all known =
    ap (λ us. map (region_seen all) (distinct same_users (filter has_users us))) known
    ∙ map_alike (region_seen all) (region_for p n g) (distinct same_users (filter has_users (map (users_of n g) (numbers_below (length p.globals)))))
    (λ u. ap (λ (xs : List ℕ). let r : DataRegion = record { globals = xs; writers = u.writers; readers = u.readers } in r) (members_are all (users_of n g) (length p.globals) known u))

-- all of it
pub graph_is : (p : Program) (n : Needs) (g : Groups) (all : List UserLists) (count : ℕ) (rs : List DataRegion) (un : List ℕ) (cs : List (List Cover)) (ms reads : List ℕ)
    → map users_seen all ≡ map (users_of n g) (numbers_below count) → count ≡ length p.globals
    → rs ≡ map (region_seen all) (distinct same_users (filter has_users (map users_seen all))) → un ≡ without_users all
    → cs ≡ map (covers_of p n g) (numbers_below g.count) → ms ≡ map (mask_of n g) (numbers_below g.count) → reads ≡ map (read_mask_of n g) (numbers_below g.count)
    → (let h : Graph = record { groups = g; regions = rs; unwritten = un; covers = cs; masks = ms; reads = reads } in h) ≡ initial_graph p n g
unfolding initial_graph
graph_is p n g all count rs un cs ms reads known size r u c m e =
    let all_known : map users_seen all ≡ map (users_of n g) (numbers_below (length p.globals)) = known ∙ ap (λ k. map (users_of n g) (numbers_below k)) size in
    let regions : rs ≡ data_regions p n g = r ∙ regions_are p n g all all_known in
    let rest : un ≡ unwritten p n g = u ∙ without_are all (users_of n g) (length p.globals) all_known in
    ap (λ (x : List DataRegion). let h : Graph = record { groups = g; regions = x; unwritten = un; covers = cs; masks = ms; reads = reads } in h) regions
    ∙ (ap (λ (x : List ℕ). let h : Graph = record { groups = g; regions = data_regions p n g; unwritten = x; covers = cs; masks = ms; reads = reads } in h) rest
    ∙ (ap (λ (x : List (List Cover)). let h : Graph = record { groups = g; regions = data_regions p n g; unwritten = unwritten p n g; covers = x; masks = ms; reads = reads } in h) c
    ∙ (ap (λ (x : List ℕ). let h : Graph = record { groups = g; regions = data_regions p n g; unwritten = unwritten p n g; covers = map (covers_of p n g) (numbers_below g.count); masks = x; reads = reads } in h) m
    ∙ ap (λ (x : List ℕ). let h : Graph = record { groups = g; regions = data_regions p n g; unwritten = unwritten p n g; covers = map (covers_of p n g) (numbers_below g.count); masks = map (mask_of n g) (numbers_below g.count); reads = x } in h) e)))
