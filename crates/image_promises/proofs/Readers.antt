-- No region has a reader on an open board, before joins and behind them.
use Rattle.std.proofs.Common.{◌≡◌, ℕ, Bool, true, false, ◌||◌, List, [], length, map, filter, set, cond, Some, refl, ap, ap₂, sym, ◌∙◌, subst}
use Rattle.ir_model.specs.Resolved.{Program}
use Rattle.base_laws.specs.Lists.{Each}
use Rattle.plan_model.specs.declared.needs.Needs.{Needs}
use Rattle.plan_model.specs.declared.groups.Groups.{Groups}
use Rattle.plan_model.specs.declared.graph.DataRegion.{DataRegion}
use Rattle.plan_model.specs.declared.graph.Graph.{Graph}
use Rattle.plan_model.specs.declared.graph.Final.{Final}
use Rattle.plan_model.specs.Lists.{numbers_below, union, has}
use Rattle.plan_model.specs.Choices.{Pair}
use Rattle.plan_model.specs.Regions.{no_region, region_at, is_user}
use Rattle.plan_model.specs.InitialGraph.{Users, users_of, has_users, same_users, kinds_of_users, region_for, data_regions, compartments_that, initial_graph}
use Rattle.plan_model.specs.Merging.{joined_region, with_joined_region, next}
use Rattle.plan_model.specs.FinalGraph.{Merges, stays, joins}
use Rattle.plan_model.specs.Groups.{reads}
use Rattle.ir_model.specs.declared.object.ObjId.TheVariants.{Global}
use Rattle.image_promises.proofs.FinalGraphs.{FinalGraph}
use Rattle.image_promises.proofs.Kept.{by_next}
use Rattle.image_promises.proofs.KeptItems.{each_filter, each_distinct, each_set, each_remove, each_or}
use Rattle.image_promises.proofs.Lists.{each_map}
use Rattle.base_laws.proofs.Lists.{each_of as each_anyway}

-- ---- no readers

abbrev IsUnread : DataRegion → Type 0
IsUnread r = r.readers ≡ []

first_unread : (p : Program) (n : Needs) (g : Groups) → n.closed ≡ false → Each IsUnread (data_regions p n g)
first_unread p n g open_board =
    let Q : Users → Type 0 = λ (u : Users). u.readers ≡ [] in
    let none : (x : ℕ) → Q (users_of n g x) = λ x. ap (λ b. cond b (compartments_that g (λ c. reads n g c (Global x))) []) open_board in
    each_map IsUnread (region_for p n g) Q (kinds_of_users p n g) (λ u e. e)
    (each_distinct Q same_users (filter has_users (map (users_of n g) (numbers_below (length p.globals))))
    (each_filter Q has_users (map (users_of n g) (numbers_below (length p.globals)))
    (each_map Q (users_of n g) (λ x. Unit {0}) (numbers_below (length p.globals)) (λ x t. none x) (each_anyway (λ x. Unit {0}) (λ x. tt) (numbers_below (length p.globals))))))

join_unread : (a b : DataRegion) → IsUnread a → IsUnread b → IsUnread (joined_region a b)
join_unread a b e g = ap₂ union e g

unread_joined : (rs : List DataRegion) (q : Pair) → Each IsUnread rs → Each IsUnread (with_joined_region rs q)
unread_joined rs q e =
    let a = each_or IsUnread rs q.first no_region refl e in
    let b = each_or IsUnread rs q.second no_region refl e in
    let v : DataRegion = joined_region (region_at rs q.first) (region_at rs q.second) in
    each_remove IsUnread (set rs q.first v) q.second (each_set IsUnread rs q.first v (join_unread (region_at rs q.first) (region_at rs q.second) a b) e)

unread_next : (p : Program) (slots : ℕ) (g h : Graph) → next p slots g ≡ Some h → Each IsUnread g.regions → Each IsUnread h.regions
unread_next p slots g h e =
    by_next p (λ (g h : Graph). Each IsUnread g.regions → Each IsUnread h.regions) (λ g q c f a. unread_joined g.regions q a) (λ g c q f a. a) slots g h e

unread_all : (p : Program) (slots : ℕ) (g h : Graph) → Merges p slots g h → Each IsUnread g.regions → Each IsUnread h.regions
unread_all p slots g h stays a = a
unread_all p slots g k (joins {h = h} e m) a = unread_all p slots h k m (unread_next p slots g h e a)

module _ (graph : FinalGraph) where
  open graph use {program as p, needs as n, final as f, slots, is_final as final}

  pub unread : n.closed ≡ false → (r : ℕ) → (region_at f.regions r).readers ≡ []
  unfolding initial_graph
  unread open_board r =
      let all = unread_all p slots (initial_graph p n f.groups) final.last final.reached (first_unread p n f.groups open_board) in
      each_or IsUnread f.regions r no_region refl (subst (λ (x : Final). Each IsUnread x.regions) (sym final.is) all)

  -- so a user that is no writer is there on a closed board alone
  pub closed_for : (r c : ℕ) → is_user c (region_at f.regions r) ≡ true → has (region_at f.regions r).writers c ≡ false → n.closed ≡ true
  closed_for r c user off = by n.closed refl
    where
      by : (b : Bool) → n.closed ≡ b → n.closed ≡ true
      by true e = e
      by false e =
          let none : has (region_at f.regions r).readers c ≡ false = ap (λ cs. has cs c) (unread e r) in
          let neither : is_user c (region_at f.regions r) ≡ false = ap₂ (λ a b. a || b) off none in
          absurd (let wrong : false ≡ true = sym neither ∙ user in cc)
