-- The ranges of a cover that no peripheral declares, from an address of it on.
use Rattle.std.proofs.Common.{◌≡◌, ℕ, zero, suc, ◌+◌, ◌-◌, ◌<◌, ◌≤◌, ⊎_elim, ◌||◌, Bool, true, false, not, nat_eq, List, [], ◌∷◌, ◌++◌, map, filter, flat_map, subst, ap, sym, ◌∙◌, append_assoc, arith}
use Rattle.std.specs.List.{range_with_len}
use Rattle.std.proofs.lemmas.Bool.{cases_lt, and_from, and_left, and_right, or_from, or_right, not_from_true, not_from_false, ne_eqb, cond-true, cond-false}
use Rattle.ir_model.specs.Resolved.{NumberedWindow}
use Rattle.plan_model.specs.declared.graph.Cover.{Cover}
use Rattle.plan_model.specs.Covers.{end_of}
use Rattle.plan_report.specs.Undeclared.{Range, is_declared, undeclared_from, begins, range_at, undeclared_ranges}
use Rattle.plan_report.proofs.Firsts.{before, stops}

module _ (ws : List NumberedWindow) (d : Cover) where
  -- those that begin at the address or behind it
  abbrev pub ranges_from : (a : ℕ) → List Range
  ranges_from a = map (range_at ws d) (filter (begins ws d) (range_with_len a (end_of d - a)))

  pub all_ranges : undeclared_ranges ws d ≡ ranges_from d.base
  unfolding undeclared_ranges
  all_ranges =
      let size : d.size ≡ end_of d - d.base = omega arith in
      ap (λ n. map (range_at ws d) (filter (begins ws d) (range_with_len d.base n))) size

  pub no_ranges : (a : ℕ) → end_of d ≤ a → ranges_from a ≡ []
  no_ranges a h =
      let none : end_of d - a ≡ 0 = omega (arith, h) in
      ap (λ n. map (range_at ws d) (filter (begins ws d) (range_with_len a n))) none

  -- ---- one address

  addresses : (a : ℕ) → a < end_of d → range_with_len a (end_of d - a) ≡ a ∷ range_with_len (a + 1) (end_of d - (a + 1))
  addresses a h =
      let count : end_of d - a ≡ suc (end_of d - (a + 1)) = omega (arith, h) in
      ap (range_with_len a) count

  begun : (a : ℕ) → a < end_of d → begins ws d a ≡ true → ranges_from a ≡ range_at ws d a ∷ ranges_from (a + 1)
  begun a h b =
      ap (λ ns. map (range_at ws d) (filter (begins ws d) ns)) (addresses a h)
      ∙ ap (map (range_at ws d)) (cond-true (begins ws d a) (a ∷ filter (begins ws d) (range_with_len (a + 1) (end_of d - (a + 1)))) (filter (begins ws d) (range_with_len (a + 1) (end_of d - (a + 1)))) b)

  passed : (a : ℕ) → begins ws d a ≡ false → ranges_from a ≡ ranges_from (a + 1)
  passed a b = ⊎_elim
      (λ h. ap (λ ns. map (range_at ws d) (filter (begins ws d) ns)) (addresses a h)
      ∙ ap (map (range_at ws d)) (cond-false (begins ws d a) (a ∷ filter (begins ws d) (range_with_len (a + 1) (end_of d - (a + 1)))) (filter (begins ws d) (range_with_len (a + 1) (end_of d - (a + 1)))) b))
      (λ h. no_ranges a h ∙ sym (no_ranges (a + 1) (omega (arith, h))))
      (cases_lt a (end_of d))

  -- ---- more of them, none of which begins a range

  skipped : (k a e : ℕ) → e ≡ a + k → ((b : ℕ) → a ≤ b → b < e → begins ws d b ≡ false) → ranges_from a ≡ ranges_from e
  skipped zero a e s none = ap ranges_from (let same : a ≡ e = omega (arith, s) in same)
  skipped (suc k) a e s none =
      passed a (none a (omega arith) (omega (arith, s)))
      ∙ skipped k (a + 1) e (omega (arith, s)) (λ b l h. none b (omega (arith, l)) h)

  -- where the cover begins, or the address before is declared
  abbrev pub is_edge : (a : ℕ) → Bool
  is_edge a = nat_eq a d.base || is_declared ws (a - 1)

  declared_begins_none : (b : ℕ) → is_declared ws b ≡ true → begins ws d b ≡ false
  declared_begins_none b h = and_left (not (is_declared ws b)) (is_edge b) (not_from_true (is_declared ws b) h)

  -- an address behind one that is not declared
  later_begins_none : (b : ℕ) → d.base < b → is_declared ws (b - 1) ≡ false → begins ws d b ≡ false
  later_begins_none b l h = and_right (not (is_declared ws b)) (is_edge b) (or_from (nat_eq b d.base) (is_declared ws (b - 1)) (ne_eqb b d.base (λ e. omega (arith, e, l))) h)

  -- ---- from an edge to the next

  module _ (a f e : ℕ) (base : d.base ≤ a) (here : a < end_of d) (first : f ≡ a + undeclared_from ws a (end_of d - a)) (further : f ≤ e) (moved : is_declared ws f ≡ true → f < e)
      (declared : (b : ℕ) → f ≤ b → b < e → is_declared ws b ≡ true) where
    pub step_some : is_edge a ≡ true → a < f → ranges_from a ≡ record { base = a; size = f - a } ∷ ranges_from e
    step_some edge some =
        let free : (b : ℕ) → a ≤ b → b < f → is_declared ws b ≡ false = λ b l h. before (is_declared ws) a (end_of d - a) b l (omega (arith, h, first)) in
        let size : undeclared_from ws a (end_of d - a) ≡ f - a = omega (arith, first) in
        begun a here (and_from (not (is_declared ws a)) (is_edge a) (not_from_false (is_declared ws a) (free a (omega arith) some)) edge)
        ∙ ap (λ (rs : List Range). range_at ws d a ∷ rs) (skipped (e - (a + 1)) (a + 1) e (omega (arith, some, further)) (λ b l h. ⊎_elim
        (λ less. later_begins_none b (omega (arith, l, base)) (free (b - 1) (omega (arith, l)) (omega (arith, less))))
        (λ more. declared_begins_none b (declared b more h))
        (cases_lt b f)))
        ∙ ap (λ n. record { base = a; size = n } ∷ ranges_from e) size

    pub step_none : f ≡ a → ranges_from a ≡ ranges_from e
    step_none same = skipped (e - a) a e (omega (arith, same, further)) (λ b l h. declared_begins_none b (declared b (omega (arith, same, l)) h))

    pub next_edge : e < end_of d → is_edge e ≡ true
    next_edge h =
        let short : undeclared_from ws a (end_of d - a) < end_of d - a = omega (arith, first, further, h) in
        let there : is_declared ws f ≡ true = subst (λ x. is_declared ws x ≡ true) (sym first) (stops (is_declared ws) a (end_of d - a) short) in
        let less : f < e = moved there in
        or_right (nat_eq e d.base) (is_declared ws (e - 1)) (declared (e - 1) (omega (arith, less)) (omega (arith, less)))

-- ---- the lines of them

pub told_more : (line : Range → List ℕ) (start now : List ℕ) (all from rest : List Range) (r : Range) → start ++ flat_map line all ≡ now ++ flat_map line from → from ≡ r ∷ rest
    → start ++ flat_map line all ≡ (now ++ line r) ++ flat_map line rest
told_more line start now all from rest r h e = h ∙ ap (λ rs. now ++ flat_map line rs) e ∙ sym (append_assoc now (line r) (flat_map line rest))
