-- Checks that all find nothing, and what a field's checks say there.
use Rattle.std.proofs.Common.{◌≡◌, ℕ, ◌+◌, ◌≤◌, Bool, true, false, List, [], ◌∷◌, ◌++◌, length, Some, None, refl, arith}
use Rattle.std.proofs.lemmas.Bool.Decides.{nat_tests}
use Rattle.machine_image.specs.Faults.{Checks, first_of, whole, rule}

abbrev pub AllPass : Checks → Type 0
AllPass [] = Unit {0}
AllPass (c ∷ cs) = (c ≡ None) × AllPass cs

pub AllPass-from_first_of : (cs : Checks) → first_of cs ≡ None → AllPass cs
unfolding first_of
AllPass-from_first_of [] h = tt
AllPass-from_first_of (None ∷ cs) h = (refl, AllPass-from_first_of cs h)
AllPass-from_first_of (Some e ∷ cs) h = cc

pub first_of-from_AllPass : (cs : Checks) → AllPass cs → first_of cs ≡ None
unfolding first_of
first_of-from_AllPass [] h = refl
first_of-from_AllPass (None ∷ cs) h = first_of-from_AllPass cs h.1
first_of-from_AllPass (Some e ∷ cs) h = absurd (let e = h.0 in cc)

pub first_of-none_in : (xs ys : Checks) → first_of (xs ++ ys) ≡ None → (first_of xs ≡ None) × (first_of ys ≡ None)
unfolding first_of
first_of-none_in [] ys h = (refl, h)
first_of-none_in (None ∷ xs) ys h = first_of-none_in xs ys h
first_of-none_in (Some e ∷ xs) ys h = absurd cc

pub room : (b : List ℕ) (at n : ℕ) → whole b at n ≡ None → at + n ≤ length b
unfolding whole
room b at n h = grind (arith, nat_tests)

pub whole-none : (b : List ℕ) (at n : ℕ) → at + n ≤ length b → whole b at n ≡ None
unfolding whole
whole-none b at n h = grind (arith, nat_tests)

pub kept : (keeps : Bool) (at : ℕ) → rule keeps at ≡ None → keeps ≡ true
unfolding rule
kept true at h = refl
kept false at h = absurd cc

pub rule-none : (keeps : Bool) (at : ℕ) → keeps ≡ true → rule keeps at ≡ None
unfolding rule
rule-none true at h = refl
rule-none false at h = absurd cc
