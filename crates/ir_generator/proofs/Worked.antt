-- A worked row: the first draws of the seed 0, and the words of the recorded input for one function.
use Rattle.std.proofs.Common.{◌≡◌, [], ◌∷◌, refl}
use Rattle.ir_generator.specs.Draws.{draw}
use Rattle.ir_generator.specs.Taped.{taped}
use Rattle.ir_generator.specs.Choices.{choices}
use Rattle.ir_generator.specs.declared.choices.Body.TheVariants.{Adds}

first : draw 0 0 65536 ≡ 15470
first = refl

second : draw 0 1 65536 ≡ 18256
second = refl

words : taped 0 1 ≡ (53708 ∷ 43769 ∷ 25170 ∷ 40750 ∷ []) ∷ [] ∷ [] ∷ [] ∷ []
words = refl

kind : choices 0 1 1 ≡ record { body = Adds 0; depth = 1 } ∷ []
kind = refl
