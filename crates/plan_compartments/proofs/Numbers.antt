-- Numbers of groups as what a callback answers.
use Rattle.std.proofs.Common.{◌≡◌, ℕ, suc, ◌<◌, List, [], ◌∷◌, length, get_or, Result, Ok, Err, IfOk, refl, ap, ◌∙◌, arith}
use Rattle.std.specs.List.{AllZip}
use Rattle.plan_model.specs.declared.groups.FuncFacts.{FuncFacts}
use Rattle.plan_model.specs.declared.groups.Groups.{Groups}
use Rattle.plan_model.specs.Compartments.{compartments}
use Rattle.plan_policies.specs.Callbacks.{AreAnswers}
use Rattle.plan_policies.specs.Functions.{AreFunctions}

-- numbers that an answer for each function gives, where the answer for each is its entry in a list
same_from : (whole : List ℕ) (at : ℕ → ℕ) (fs : List FuncFacts) (gs ts : List ℕ) → AllZip (λ (f : FuncFacts) g. g ≡ get_or whole f.index 0) fs gs
    → ((i : ℕ) (d : FuncFacts) → i < length fs → (get_or fs i d).index ≡ at i) → ((i : ℕ) → i < length ts → get_or whole (at i) 0 ≡ get_or ts i 0)
    → length ts ≡ length fs → gs ≡ ts
same_from whole at [] [] [] z n t l = refl
same_from whole at [] [] (x ∷ ts) z n t l = let e : ⊥ = omega (arith, l) in absurd e
same_from whole at [] (g ∷ gs) ts z n t l = absurd z
same_from whole at (f ∷ fs) [] ts z n t l = absurd z
same_from whole at (f ∷ fs) (g ∷ gs) [] z n t l = let e : ⊥ = omega (arith, l) in absurd e
same_from whole at (f ∷ fs) (g ∷ gs) (x ∷ ts) z n t l =
    let first : 0 < length (f ∷ fs) = omega arith in
    let here : 0 < length (x ∷ ts) = omega arith in
    let same : length ts ≡ length fs = omega (arith, l) in
    let e : g ≡ x = z.0 ∙ (ap (λ k. get_or whole k 0) (n 0 f first) ∙ t 0 here) in
    ap (λ v. v ∷ gs) e
    ∙ ap (λ vs. x ∷ vs)
    (same_from whole (λ i. at (suc i)) fs gs ts z.1
    (λ i d h. n (suc i) d (omega (arith, h)))
    (λ i h. t (suc i) (omega (arith, h)))
    same)

same_numbers : (numbers : List ℕ) (fs : List FuncFacts) (gs : List ℕ) → AreFunctions fs → length numbers ≡ length fs
    → AllZip (λ (f : FuncFacts) g. g ≡ get_or numbers f.index 0) fs gs → gs ≡ numbers
same_numbers numbers fs gs h l z = same_from numbers (λ i. i) fs gs numbers z h.numbered (λ i h. refl) l

-- answers as they are known of a callback are entries of a list
answers_also : (R Q : FuncFacts → ℕ → Type 0) (fs : List FuncFacts) (gs : List ℕ) → ((f : FuncFacts) (g : ℕ) → R f g → Q f g) → AllZip R fs gs → AllZip Q fs gs
answers_also R Q [] [] m z = z
answers_also R Q [] (g ∷ gs) m z = absurd z
answers_also R Q (f ∷ fs) [] m z = absurd z
answers_also R Q (f ∷ fs) (g ∷ gs) m z = (m f g z.0, answers_also R Q fs gs m z.1)

-- the compartments by answers that are entries of a list
pub made_of_numbers : (R : FuncFacts → ℕ → Type 0) (numbers : List ℕ) (fs : List FuncFacts) {E : Type 0} (r : Result Groups E) → AreFunctions fs → length numbers ≡ length fs
    → ((f : FuncFacts) (g : ℕ) → R f g → g ≡ get_or numbers f.index 0)
    → IfOk r (λ made. (groups : List ℕ) × AreAnswers R fs groups × (made ≡ compartments groups)) → IfOk r (λ made. made ≡ compartments numbers)
made_of_numbers R numbers fs (Ok made) h l m (gs, z, e) =
    e ∙ ap compartments (same_numbers numbers fs gs h l (answers_also R (λ f g. g ≡ get_or numbers f.index 0) fs gs m z))
made_of_numbers R numbers fs (Err x) h l m z = tt
