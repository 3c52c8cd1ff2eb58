-- What is told as exposed, beside the listing's numbers and beside permissions.
use Rattle.std.proofs.Common.{◌≡◌, ℕ, ◌+◌, Bool, true, false, not, ◌&&◌, ◌||◌, List, [], ◌∷◌, nat_eq, cond, filter, flat_map, sum_by, refl, ap, sym, ◌∙◌}
use Rattle.std.specs.List.{list_any}
use Rattle.std.proofs.lemmas.Bool.{eqb-true}
use Rattle.std.proofs.lemmas.List.Folds.{list_any-append}
use Rattle.std.proofs.lemmas.List.Sums.{sum_by-append, sum_by-cons}
use Rattle.std.proofs.lemmas.Map.Views.{any-filter_same}
use Rattle.plan_model.specs.declared.graph.DataRegion.{DataRegion}
use Rattle.plan_model.specs.Lists.{has}
use Rattle.plan_model.specs.Permission.{may_write, may_read}
use Rattle.plan_model.specs.Regions.{global_size}
use Rattle.plan_report.specs.Subjects.{Subject}
use Rattle.aces_who.specs.declared.ties.Access.{Access}
use Rattle.aces_who.specs.declared.ties.Access.TheVariants.{Write, Read}
use Rattle.aces_who.specs.Exposed.{is_open, is_needed, unneeded}
use Rattle.aces_who.specs.Laws.{ExposuresAddUp, ExposedAreUnneeded}

-- ---- sums

sum_flat : {X Y : Type 0} (f : Y → ℕ) (g : X → List Y) (xs : List X) → sum_by f (flat_map g xs) ≡ sum_by (λ x. sum_by f (g x)) xs
sum_flat f g [] = refl
sum_flat f g (x ∷ xs) =
    sum_by-append f (g x) (flat_map g xs)
    ∙ (ap (λ n. sum_by f (g x) + n) (sum_flat f g xs) ∙ sym (sum_by-cons (λ y. sum_by f (g y)) x xs))

pub add_up : (s : Subject) (c : ℕ) → ExposuresAddUp s c
add_up s c = record {
  writes = sum_flat (global_size s.program) (unneeded s c Write) (filter (is_open c Write) s.graph.regions);
  reads = sum_flat (global_size s.program) (unneeded s c Read) (filter (is_open c Read) s.graph.regions);
}

-- ---- which they are

-- a number is in a list of those that pass a test where it is in the list and passes
has_filtered : (p : ℕ → Bool) (xs : List ℕ) (x : ℕ) → has (filter p xs) x ≡ (p x && has xs x)
has_filtered p xs x = any-filter_same (λ m. nat_eq m x) p (p x) (λ m e. ap p (eqb-true m x e)) xs

-- one of the regions has it
found : (p there rest some : Bool) → some ≡ (rest && p) → ((p && there) || some) ≡ ((there || rest) && p)
found true true rest some h = refl
found true false rest some h = h
found false true true some h = h
found false true false some h = h
found false false rest some h = h

in_regions : (s : Subject) (c : ℕ) (a : Access) (x : ℕ) (rs : List DataRegion)
    → has (flat_map (unneeded s c a) (filter (is_open c a) rs)) x ≡ (list_any (λ (r : DataRegion). is_open c a r && has r.globals x) rs && not (is_needed s c a x))
in_regions s c a x [] = refl
in_regions s c a x (r ∷ rs) = by (is_open c a r) (in_regions s c a x rs)
  where
    by : (b : Bool) → has (flat_map (unneeded s c a) (filter (is_open c a) rs)) x ≡ (list_any (λ (q : DataRegion). is_open c a q && has q.globals x) rs && not (is_needed s c a x))
        → has (flat_map (unneeded s c a) (cond b (r ∷ filter (is_open c a) rs) (filter (is_open c a) rs))) x
        ≡ (((b && has r.globals x) || list_any (λ (q : DataRegion). is_open c a q && has q.globals x) rs) && not (is_needed s c a x))
    by true rest =
        list_any-append (λ m. nat_eq m x) (unneeded s c a r) (flat_map (unneeded s c a) (filter (is_open c a) rs))
        ∙ (ap (λ b. b || has (flat_map (unneeded s c a) (filter (is_open c a) rs)) x) (has_filtered (λ m. not (is_needed s c a m)) r.globals x)
        ∙ found (not (is_needed s c a x)) (has r.globals x) (list_any (λ (q : DataRegion). is_open c a q && has q.globals x) rs) _ rest)
    by false rest = rest

pub are_unneeded : (s : Subject) (c x : ℕ) → ExposedAreUnneeded s c x
unfolding may_write may_read
are_unneeded s c x = record { writes = in_regions s c Write x s.graph.regions; reads = in_regions s c Read x s.graph.regions }
