-- Lists with a comma between two things.
use Rattle.std.proofs.Common.{◌≡◌, ◌<◌, [], ◌∷◌, ◌++◌, List, refl, length, arith, append_assoc}
use Rattle.ir_model.specs.declared.token.Mark.TheVariants.{Comma, Close}
use Rattle.ir_model.specs.Types.{PlainType, types_from}
use Rattle.ir_model.specs.Tokens.{Sign}
use Rattle.ir_grammar.specs.Spelling.{Glyphs, separated, spell_type, spell_row, spell_more_row}

module _ {X : Type 0} (g : Glyphs X) where
  -- one more thing
  pub separated_push : {A : Type 0} (f : A → List X) (xs : List A) (x : A) → 0 < length xs → separated g f (xs ++ x ∷ []) ≡ separated g f xs ++ (g.next (Sign Comma) ++ f x)
  separated_push f [] x h = absurd (omega arith)
  separated_push f (y ∷ []) x h = refl
  separated_push f (y ∷ z ∷ zs) x h = let s : 0 < length (z ∷ zs) = omega arith in rw (separated_push f (z ∷ zs) x s) (simp append_assoc)

  spell_more : (t : PlainType) (ts : List PlainType) → spell_type g t ++ spell_more_row g (types_from ts) ≡ separated g (spell_type g) (t ∷ ts) ++ g.next (Sign Close)
  spell_more t [] = refl
  spell_more t (u ∷ us) = rw (spell_more u us) (simp append_assoc)

  -- types between brackets
  pub spell_types : (ts : List PlainType) → spell_row g (types_from ts) ≡ separated g (spell_type g) ts ++ g.next (Sign Close)
  spell_types [] = refl
  spell_types (t ∷ ts) = spell_more t ts
