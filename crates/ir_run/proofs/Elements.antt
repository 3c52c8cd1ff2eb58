-- Offsets of elements, modulo 2^32.
use Rattle.std.proofs.Common.{◌≡◌, ℕ, ◌+◌, ◌*◌, ◌^◌, ap, ◌∙◌}
use Rattle.std.proofs.Math.Nat.{add-mod-mod}
use Rattle.base_words.specs.Arithmetic.{word}

pub offset_word : (o n size behind new : ℕ) → behind ≡ word (n * size) → new ≡ word (o + behind) → new ≡ word (o + n * size)
offset_word o n size behind new b e = e ∙ (ap (λ k. word (o + k)) b ∙ add-mod-mod o (n * size) (2 ^ 32))
