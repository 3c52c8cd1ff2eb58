-- Lists with commas between their things.
use Rattle.std.proofs.Common.{◌≡◌, ◌<◌, [], ◌∷◌, ◌++◌, map, List, refl, sym, ◌∙◌, append_assoc, length, arith}
use Rattle.ir_model.specs.declared.token.Mark.TheVariants.{Comma, Equal, OpenBrace}
use Rattle.base_laws.specs.Lists.{Each}
use Rattle.ir_grammar.specs.Spelling.{separated, spell_init, spell_cells}
use Rattle.ir_grammar.proofs.Separated.{separated_push}
use Rattle.ir_reader.specs.Spelling.{Spelling, Sign, as_found}
use Rattle.ir_model.specs.declared.firmware.Cell.{Cell}
use Rattle.std.proofs.lemmas.List.{length-map, map_push}

-- what was read up to a comma, and the thing behind it
pub read_more : {A B : Type 0} (f : B → Spelling) (g : A → B) (xs : List A) (x : A) (all old mid new : Spelling) → 0 < length xs
    → all ≡ separated as_found f (map g xs) ++ old → old ≡ Sign Comma ∷ mid → mid ≡ f (g x) ++ new → all ≡ separated as_found f (map g (xs ++ x ∷ [])) ++ new
read_more f g xs x all old mid new s a b c =
    let t : 0 < length (map g xs) = rw (length-map xs g) s in
    a ∙ (rw (b, c, map_push g xs x, separated_push as_found f (map g xs) (g x) t) (simp append_assoc))

-- the things themselves
pub read_next : {A : Type 0} (f : A → Spelling) (xs : List A) (x : A) (all old mid new : Spelling) → 0 < length xs
    → all ≡ separated as_found f xs ++ old → old ≡ Sign Comma ∷ mid → mid ≡ f x ++ new → all ≡ separated as_found f (xs ++ x ∷ []) ++ new
read_next f xs x all old mid new s a b c = a ∙ (rw (b, c, separated_push as_found f xs x s) (simp append_assoc))

-- what was read up to the end, and what closes it
pub read_closed : (all old new front close : Spelling) → all ≡ front ++ old → old ≡ close ++ new → all ≡ (front ++ close) ++ new
read_closed all old new front close a b = a ∙ (rw b (sym (append_assoc front close new)))

-- some first cells
pub spell_some_init : (cs : List Cell) → 0 < length cs → spell_init as_found cs ≡ Sign Equal ∷ Sign OpenBrace ∷ spell_cells as_found cs
spell_some_init [] h = absurd (omega arith)
spell_some_init (c ∷ cs) h = refl

-- a fact of each thing, and of one more
pub each_push : {A B : Type 0} (P : B → Type 0) (g : A → B) (xs : List A) (x : A) → Each P (map g xs) → P (g x) → Each P (map g (xs ++ x ∷ []))
each_push P g [] x h p = (p, tt)
each_push P g (y ∷ ys) x h p = (h.0, each_push P g ys x h.1 p)
