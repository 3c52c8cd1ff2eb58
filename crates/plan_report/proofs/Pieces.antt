-- What a text is behind three pieces, of which the second is a name.
use Rattle.std.proofs.Common.{◌≡◌, ℕ, List, ◌++◌, ap, ◌∙◌, append_assoc}

pub three_pieces : (text front name back first second last found : List ℕ) → found ≡ name → first ≡ text ++ front → second ≡ first ++ found → last ≡ second ++ back
    → last ≡ text ++ (front ++ (name ++ back))
three_pieces text front name back first second last found n f s l =
    l ∙ ap (λ x. x ++ back) (s ∙ (ap (λ x. first ++ x) n ∙ ap (λ x. x ++ name) f))
    ∙ (append_assoc (text ++ front) name back ∙ append_assoc text front (name ++ back))
