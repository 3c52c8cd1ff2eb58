-- Lists of the numbers of compartments, one more.
use Rattle.std.proofs.Common.{◌≡◌, ℕ, ◌<◌, ◌≤◌, List, [], ◌∷◌, ◌++◌, length, get_or, sym, ap, ◌∙◌, ◌⊎◌, inl, inr, arith, subst}
use Rattle.std.proofs.lemmas.Bool.{cases_lt}
use Rattle.std.proofs.lemmas.List.{get_or_push, get_or_append_left, length_push}
use Rattle.plan_model.specs.Compartments.{compartment_number}
use Rattle.plan_policies.specs.Marks.{AreNumbers}
use Rattle.plan_policies.proofs.UsedGroups.{none_below}

pub next_number : (groups before after : List ℕ) (n : ℕ) → AreNumbers groups before → after ≡ before ++ n ∷ [] → n ≡ compartment_number groups (length before) → AreNumbers groups after
next_number groups before after n h e m = subst (AreNumbers groups) (sym e) (λ g l. by g l (cases_lt g (length before)))
  where
    by : (g : ℕ) → g < length (before ++ n ∷ []) → (g < length before) ⊎ (length before ≤ g) → get_or (before ++ n ∷ []) g 0 ≡ compartment_number groups g
    by g l (inl b) = get_or_append_left before (n ∷ []) 0 g b ∙ h g b
    by g l (inr b) =
        let longer = length_push before n in
        let last : length before ≡ g = omega arith in
        get_or_push before n 0 g last ∙ (m ∙ ap (compartment_number groups) last)

pub first_number : (groups numbers : List ℕ) → numbers ≡ 0 ∷ [] → AreNumbers groups numbers
first_number groups numbers e = next_number groups [] numbers 0 (λ g l. absurd (omega arith)) e (sym (none_below groups))
