-- All that is drawn names what is there.
use Rattle.std.proofs.Common.{ℕ, zero, suc, ◌<◌, ◌+◌, ◌*◌, ◌≡◌, List, [], ◌∷◌, refl, arith, length, Bool, true, false, cond, length-append}
use Rattle.std.specs.Prelude.{nat_eq}
use Rattle.std.proofs.lemmas.List.Elements.{All-nil, All-cons, All-append}
use Rattle.ir_generator.specs.declared.choices.Choice.{Choice}
use Rattle.ir_generator.specs.Draws.{draw}
use Rattle.ir_generator.specs.Choices.{chosen, choices, may_call, may_lend, IsWithin, AreWithin}

either : {A : Type 0} (P : A → Type 0) (b : Bool) (x y : A) → P x → P y → P (cond b x y)
either P true x y p q = p
either P false x y p q = q

pub chosen_within : (size : ℕ) (earlier : List Choice) (kind a : ℕ) → a < size → IsWithin size (chosen earlier kind a).body
chosen_within size earlier kind a h =
    let P : Choice → Type 0 = λ c. IsWithin size c.body in
    either P (nat_eq kind 0) _ _ h
    (either P (nat_eq kind 1) _ _ (omega arith)
    (either P (nat_eq kind 2) _ _ (either P (may_call earlier a) _ _ h h)
    (either P (may_lend earlier) _ _ tt h)))

pub choices_within : (seed size n : ℕ) → 0 < size → AreWithin size (choices seed size n)
choices_within seed size zero h = All-nil (λ x. IsWithin size x.body)
choices_within seed size (suc n) h =
    let c : Choice = chosen (choices seed size n) (draw seed (2 * n) 4) (draw seed (2 * n + 1) size) in
    let within : IsWithin size c.body = chosen_within size (choices seed size n) (draw seed (2 * n) 4) (draw seed (2 * n + 1) size) (omega arith) in
    All-append (λ x. IsWithin size x.body) (choices seed size n) (c ∷ []) (choices_within seed size n h) (All-cons (λ x. IsWithin size x.body) c [] within (All-nil (λ x. IsWithin size x.body)))

pub choices_length : (seed size n : ℕ) → length (choices seed size n) ≡ n
choices_length seed size zero = refl
choices_length seed size (suc n) = omega (arith, choices_length seed size n, length-append (choices seed size n) (chosen (choices seed size n) (draw seed (2 * n) 4) (draw seed (2 * n + 1) size) ∷ []))
