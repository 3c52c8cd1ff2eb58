-- The ranges of a cover that no peripheral declares have each address of it that is not declared, and no other.
use Rattle.std.proofs.Common.{◌≡◌, ℕ, zero, suc, ◌+◌, ◌-◌, ◌<◌, ◌≤◌, ⊎_elim, Bool, true, false, not, nat_eq, List, ◌∷◌, map, filter, subst, refl, sym, ◌∙◌, arith}
use Rattle.std.specs.List.{range_with_len}
use Rattle.std.proofs.lemmas.Bool.{cases_lt, cases_eq, cases_Bool, both_ways, and_from, and_parts, or_left, or_right, or_cases, not-true, not_from_true, not_from_false, eqb-true, eq-eqb, cond_both, false_from_ne_true}
use Rattle.ir_model.specs.Resolved.{NumberedWindow}
use Rattle.plan_model.specs.declared.graph.Cover.{Cover}
use Rattle.plan_model.specs.Covers.{end_of}
use Rattle.plan_report.specs.Undeclared.{Range, is_among, is_declared, undeclared_from, begins, range_at, undeclared_ranges, has_address, RiseFrom, AreUndeclared, UndeclaredRangesAreExact}
use Rattle.plan_report.proofs.Firsts.{within, before, stops}
use Rattle.plan_report.proofs.Gaps.{is_edge}
use Rattle.plan_report.proofs.Spans.{among, inside}

-- ---- ranges that are made of the numbers that pass a test

module _ (g : ℕ → Range) (t : ℕ → Bool) (b : ℕ) where
  abbrev has : (ns : List ℕ) → Bool
  has ns = has_address (map g ns) b

  found : (n s a : ℕ) → s ≤ a → a < s + n → t a ≡ true → is_among (g a).base (g a).size b ≡ true → has (filter t (range_with_len s n)) ≡ true
  found zero s a l h p q = absurd (omega (arith, l, h))
  found (suc n) s a l h p q = cond_both (t s) (s ∷ filter t (range_with_len (s + 1) n)) (filter t (range_with_len (s + 1) n)) (λ ns. has ns ≡ true)
      (λ x. ⊎_elim
      (λ e. or_left (is_among (g s).base (g s).size b) (has (filter t (range_with_len (s + 1) n))) (subst (λ y. is_among (g y).base (g y).size b ≡ true) e q))
      (λ e. or_right (is_among (g s).base (g s).size b) (has (filter t (range_with_len (s + 1) n))) (found n (s + 1) a (omega (arith, l, e)) (omega (arith, h)) p q))
      (cases_eq a s))
      (λ x. ⊎_elim
      (λ e. absurd (both_ways (t s) x (subst (λ y. t y ≡ true) e p)))
      (λ e. found n (s + 1) a (omega (arith, l, e)) (omega (arith, h)) p q)
      (cases_eq a s))

  -- the number of which the range with the address is made
  record Origin (n s : ℕ) : Type 0 where
    at : ℕ
    least : s ≤ at
    less : at < s + n
    passes : t at ≡ true
    here : is_among (g at).base (g at).size b ≡ true

  wider : (n s : ℕ) → Origin n (s + 1) → Origin (suc n) s
  wider n s o = record { at = o.at; least = omega (arith, o.least); less = omega (arith, o.less); passes = o.passes; here = o.here }

  origin : (n s : ℕ) → has (filter t (range_with_len s n)) ≡ true → Origin n s
  origin zero s h = cc
  origin (suc n) s h = cond_both (t s) (s ∷ filter t (range_with_len (s + 1) n)) (filter t (range_with_len (s + 1) n)) (λ ns. has ns ≡ true → Origin (suc n) s)
      (λ x y. ⊎_elim
      (λ q. record { at = s; least = omega arith; less = omega arith; passes = x; here = q })
      (λ q. wider n s (origin n (s + 1) q))
      (or_cases (is_among (g s).base (g s).size b) (has (filter t (range_with_len (s + 1) n))) y))
      (λ x y. wider n s (origin n (s + 1) y))
      h

-- ---- the ranges of a cover

module _ (ws : List NumberedWindow) (d : Cover) where
  -- the beginning of the range that has the address
  record Start (b : ℕ) : Type 0 where
    at : ℕ
    least : d.base ≤ at
    most : at ≤ b
    begun : begins ws d at ≡ true
    free : (c : ℕ) → at ≤ c → c ≤ b → is_declared ws c ≡ false

  starts_here : (b : ℕ) → d.base ≤ b → is_declared ws b ≡ false → is_edge ws d b ≡ true → Start b
  starts_here b l f e =
      record {
        at = b;
        least = l;
        most = omega arith;
        begun = and_from (not (is_declared ws b)) (is_edge ws d b) (not_from_false (is_declared ws b) f) e;
        free = λ c x y. let same : b ≡ c = omega (arith, x, y) in subst (λ z. is_declared ws z ≡ false) same f;
      }

  start : (n b : ℕ) → b ≡ d.base + n → is_declared ws b ≡ false → Start b
  start zero b e f = let same : b ≡ d.base = omega (arith, e) in starts_here b (omega (arith, e)) f (or_left (nat_eq b d.base) (is_declared ws (b - 1)) (eq-eqb b d.base same))
  start (suc n) b e f = ⊎_elim
      (λ y. starts_here b (omega (arith, e)) f (or_right (nat_eq b d.base) (is_declared ws (b - 1)) y))
      (λ y. let s : Start (b - 1) = start n (b - 1) (omega (arith, e)) y in
      record {
        at = s.at;
        least = s.least;
        most = let m = s.most in omega (arith, m);
        begun = s.begun;
        free = λ c x z. ⊎_elim (λ less. s.free c x (omega (arith, less))) (λ more. let same : b ≡ c = omega (arith, more, z) in subst (λ z. is_declared ws z ≡ false) same f) (cases_lt c b);
      })
      (cases_Bool (is_declared ws (b - 1)))

  abbrev all : List Range
  all = map (range_at ws d) (filter (begins ws d) (range_with_len d.base d.size))

  undeclared_is_there : (b : ℕ) → d.base ≤ b → b < end_of d → is_declared ws b ≡ false → has_address all b ≡ true
  undeclared_is_there b l h f =
      let s : Start b = start (b - d.base) b (omega (arith, l)) f in
      let least = s.least in
      let most = s.most in
      let long : b < s.at + undeclared_from ws s.at (end_of d - s.at) = ⊎_elim
      (λ x. x)
      (λ x. absurd (both_ways (is_declared ws (s.at + undeclared_from ws s.at (end_of d - s.at)))
      (s.free (s.at + undeclared_from ws s.at (end_of d - s.at)) (omega arith) x)
      (stops (is_declared ws) s.at (end_of d - s.at) (omega (arith, x, h)))))
      (cases_lt b (s.at + undeclared_from ws s.at (end_of d - s.at))) in
      found (range_at ws d) (begins ws d) b d.size d.base s.at least (omega (arith, most, h)) s.begun (among s.at (undeclared_from ws s.at (end_of d - s.at)) b most long)

  record There (b : ℕ) : Type 0 where
    least : d.base ≤ b
    less : b < end_of d
    free : is_declared ws b ≡ false

  there : (b : ℕ) → has_address all b ≡ true → There b
  there b h =
      let o : Origin (range_at ws d) (begins ws d) b d.size d.base = origin (range_at ws d) (begins ws d) b d.size d.base h in
      let least = o.least in
      let less = o.less in
      let p = inside o.at (undeclared_from ws o.at (end_of d - o.at)) b o.here in
      let few : undeclared_from ws o.at (end_of d - o.at) ≤ end_of d - o.at = within (is_declared ws) o.at (end_of d - o.at) in
      record {
        least = omega (arith, least, p.0);
        less = omega (arith, less, p.1, few);
        free = before (is_declared ws) o.at (end_of d - o.at) b p.0 p.1;
      }

  exact : (b : ℕ) → d.base ≤ b → b < end_of d → has_address all b ≡ not (is_declared ws b)
  exact b l h = ⊎_elim
      (λ y. false_from_ne_true (has_address all b) (λ z. both_ways (is_declared ws b) (there b z).free y) ∙ sym (not_from_true (is_declared ws b) y))
      (λ y. undeclared_is_there b l h y ∙ sym (not_from_false (is_declared ws b) y))
      (cases_Bool (is_declared ws b))

  -- ---- they rise

  is_free : (s : ℕ) → begins ws d s ≡ true → is_declared ws s ≡ false
  is_free s b = not-true (is_declared ws s) (and_parts (not (is_declared ws s)) (is_edge ws d s) b).0

  -- the next one begins behind an address that is declared
  behind : (s c : ℕ) → d.base ≤ s → s < c → begins ws d c ≡ true → s + undeclared_from ws s (end_of d - s) + 1 ≤ c
  behind s c base l b = ⊎_elim
      (λ y. let same = eqb-true c d.base y in absurd (omega (arith, same, base, l)))
      (λ y. ⊎_elim
      (λ less. absurd (both_ways (is_declared ws (c - 1)) (before (is_declared ws) s (end_of d - s) (c - 1) (omega (arith, l)) (omega (arith, less, l))) y))
      (λ more. omega (arith, more))
      (cases_lt c (s + undeclared_from ws s (end_of d - s) + 1)))
      (or_cases (nat_eq c d.base) (is_declared ws (c - 1)) (and_parts (not (is_declared ws c)) (is_edge ws d c) b).1)

  some : (s : ℕ) → s < end_of d → begins ws d s ≡ true → 0 < undeclared_from ws s (end_of d - s)
  some s h b = ⊎_elim
      (λ x. x)
      (λ x. let none : s + undeclared_from ws s (end_of d - s) ≡ s = omega (arith, x) in
      absurd (both_ways (is_declared ws s) (is_free s b) (subst (λ y. is_declared ws y ≡ true) none (stops (is_declared ws) s (end_of d - s) (omega (arith, x, h))))))
      (cases_lt 0 (undeclared_from ws s (end_of d - s)))

  rise : (n s low : ℕ) → d.base ≤ s → s + n ≡ end_of d → ((c : ℕ) → s ≤ c → begins ws d c ≡ true → low ≤ c)
      → RiseFrom low (map (range_at ws d) (filter (begins ws d) (range_with_len s n)))
  rise zero s low base e above = tt
  rise (suc n) s low base e above =
      cond_both (begins ws d s) (s ∷ filter (begins ws d) (range_with_len (s + 1) n)) (filter (begins ws d) (range_with_len (s + 1) n)) (λ ns. RiseFrom low (map (range_at ws d) ns))
      (λ b. (
        above s (omega arith) b,
        some s (omega (arith, e)) b,
        rise n (s + 1) (s + undeclared_from ws s (end_of d - s) + 1) (omega (arith, base)) (omega (arith, e)) (λ c l h. behind s c base (omega (arith, l)) h),
      ))
      (λ b. rise n (s + 1) low (omega (arith, base)) (omega (arith, e)) (λ c l h. above c (omega (arith, l)) h))

  are_undeclared : AreUndeclared ws d all
  are_undeclared =
      record {
        exact = exact;
        inside = λ b h. let t : There b = there b h in (t.least, t.less);
        rising = rise d.size d.base d.base (omega arith) refl (λ c l h. l);
      }

pub undeclared_ranges_are_exact : UndeclaredRangesAreExact
unfolding undeclared_ranges
undeclared_ranges_are_exact ws d = are_undeclared ws d
