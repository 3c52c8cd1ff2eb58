-- Each cover of the final graph holds whole windows: a window that has an address in it lies inside it.
use Rattle.std.proofs.Common.{◌≡◌, ℕ, ◌+◌, ◌*◌, ◌-◌, ◌/◌, ◌^◌, ◌<◌, ◌≤◌, true, [], length, get_or, nat_le, sym, subst, le-leb, pow_pos, arith}
use Rattle.std.proofs.lemmas.Bool.{leb-true, cases_lt, cases_eq, and_from as both, and_parts}
use Rattle.std.proofs.lemmas.Nat.{div-add-mod'}
use mathlib.Core.Logic.{⊎_elim}
use Rattle.base_laws.specs.Lists.{Each}
use Rattle.ir_model.specs.Resolved.{Program}
use Rattle.ir_laws.specs.Limits.{HasWindows}
use Rattle.plan_model.specs.declared.needs.Needs.{Needs}
use Rattle.plan_model.specs.declared.graph.Cover.{Cover}
use Rattle.plan_model.specs.declared.graph.Final.{Final}
use Rattle.plan_model.specs.Covers.{end_of, is_inside, joined}
use Rattle.plan_model.specs.InitialGraph.{cover_of}
use Rattle.plan_model.specs.FinalGraph.{IsFinal}
use Rattle.base_laws.proofs.Powers.{power_split, multiple_of_power}
use Rattle.image_promises.specs.Permissions.{IsOf}
use Rattle.image_promises.proofs.Covers.{inside_through}
use Rattle.image_promises.proofs.CoverParts.{IsPart, joined_part, joined_holds}
use Rattle.image_promises.proofs.CoverSlots.{window_part, final_covers}
use Rattle.image_promises.proofs.Products.{times, one_more}

-- ---- a range inside another

inside : (x d : Cover) → d.base ≤ x.base → end_of x ≤ end_of d → is_inside x d ≡ true
inside x d low high = both (nat_le d.base x.base) (nat_le (end_of x) (end_of d)) (le-leb d.base x.base low) (le-leb (end_of x) (end_of d) high)

inside_parts : (x d : Cover) → is_inside x d ≡ true → (d.base ≤ x.base) × (end_of x ≤ end_of d)
inside_parts x d e =
    let h = and_parts (nat_le d.base x.base) (nat_le (end_of x) (end_of d)) e in
    (leb-true d.base x.base h.0, leb-true (end_of x) (end_of d) h.1)

-- of two aligned powers of two with an address in common the smaller one lies in the other
nested : (x d : Cover) (one : IsPart x) (two : IsPart d) → one.power ≤ two.power → (z : ℕ) → IsOf x z → IsOf d z → is_inside x d ≡ true
nested x d one two le z here there =
    let u : ℕ = 2 ^ one.power in
    let m : ℕ = 2 ^ (two.power - one.power) in
    let size = one.size in
    let large = two.size in
    let a : ℕ = x.base / u in
    let b : ℕ = d.base / u in
    let low = here.0 in
    let high = here.1 in
    let from = there.0 in
    let to = there.1 in
    let i = div-add-mod' x.base u in
    let j = div-add-mod' d.base u in
    let aligned = one.aligned in
    let whole = multiple_of_power d.base one.power two.power le two.aligned in
    let x_is : x.base ≡ a * u = omega (arith, i, aligned) in
    let d_is : d.base ≡ b * u = omega (arith, j, whole) in
    let split = power_split one.power two.power le in
    let s = one_more a u in
    let t = widen b m u in
    let end : d.base + d.size ≡ (b + m) * u = omega (arith, d_is, large, split, t) in
    let below : b ≤ a = ⊎_elim (λ lt. let k = times (a + 1) b u (omega (arith, lt)) in absurd (omega (arith, k, s, x_is, d_is, size, high, from))) (λ h. h) (cases_lt a b) in
    let above : a + 1 ≤ b + m = ⊎_elim (λ lt. omega (arith, lt)) (λ h. let k = times (b + m) a u h in absurd (omega (arith, k, x_is, end, low, to))) (cases_lt a (b + m)) in
    let first = times b a u below in
    let last = times (a + 1) (b + m) u above in
    inside x d (omega (arith, first, x_is, d_is)) (omega (arith, last, s, x_is, size, end))
  where
    widen : (b m u : ℕ) → (b + m) * u ≡ b * u + u * m
    widen b m u = grind arith

-- ---- covers

module _ (p : Program) (windows : HasWindows p) where
  -- a cover is an aligned power of two, and holds the window of a peripheral
  pub record IsFilled (d : Cover) : Type 0 where
    pub part : IsPart d
    pub periph : ℕ
    pub there : periph < length p.periphs
    pub inner : is_inside (cover_of p periph) d ≡ true

  window_filled : (q : ℕ) → q < length p.periphs → IsFilled (cover_of p q)
  window_filled q l = record { part = window_part p windows q l; periph = q; there = l; inner = inside (cover_of p q) (cover_of p q) (omega arith) (omega arith) }

  joined_filled : (c d : Cover) → IsFilled c → IsFilled d → IsFilled (joined c d)
  joined_filled c d one two =
      record {
        part = joined_part c d one.part two.part;
        periph = one.periph;
        there = one.there;
        inner = inside_through (cover_of p one.periph) c (joined c d) one.inner (joined_holds c d one.part two.part);
      }

  pub covers_are_filled : (n : Needs) (f : Final) (slots : ℕ) → IsFinal p n f.groups slots f → (c : ℕ) → Each IsFilled (get_or f.covers c [])
  covers_are_filled n f slots final c = final_covers p IsFilled window_filled joined_filled n f slots final c

  -- a window that has an address in it lies inside it: else the cover would lie in that window, with another window
  pub whole_inside : (d : Cover) → IsFilled d → (q z : ℕ) → q < length p.periphs → IsOf (cover_of p q) z → IsOf d z → is_inside (cover_of p q) d ≡ true
  whole_inside d filled q z l here there = ⊎_elim smaller larger (cases_lt filled.part.power (window_part p windows q l).power)
    where
      larger : (window_part p windows q l).power ≤ filled.part.power → is_inside (cover_of p q) d ≡ true
      larger le = nested (cover_of p q) d (window_part p windows q l) filled.part le z here there

      smaller : filled.part.power < (window_part p windows q l).power → is_inside (cover_of p q) d ≡ true
      smaller lt = ⊎_elim same other (cases_eq q filled.periph)
        where
          same : q ≡ filled.periph → is_inside (cover_of p q) d ≡ true
          same e = subst (λ k. is_inside (cover_of p k) d ≡ true) (sym e) filled.inner

          other : (q ≡ filled.periph → ⊥) → is_inside (cover_of p q) d ≡ true
          other ne =
              let around = nested d (cover_of p q) filled.part (window_part p windows q l) (omega (arith, lt)) z there here in
              let both_in = inside_parts (cover_of p filled.periph) (cover_of p q) (inside_through (cover_of p filled.periph) d (cover_of p q) filled.inner around) in
              let low = both_in.0 in
              let high = both_in.1 in
              let some = pow_pos (window_part p windows filled.periph filled.there).power in
              let size = (window_part p windows filled.periph filled.there).size in
              absurd (⊎_elim (λ h. omega (arith, h, low, high, some, size)) (λ h. omega (arith, h, low, high, some, size)) (windows.apart q filled.periph l filled.there ne))
