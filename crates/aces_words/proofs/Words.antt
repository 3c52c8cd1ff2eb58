-- Words of requests, as lists of as many items.
use Rattle.std.specs.Str.{bytes_eq}
use Rattle.std.proofs.lemmas.Slice.Eq.{bytes_eq-Decides}
use Rattle.std.proofs.Math.Seq.{drop-cons}
use Rattle.std.proofs.lemmas.List.{get_or-map}
use Rattle.std.proofs.Common.{◌≡◌, ℕ, zero, suc, ◌<◌, ◌≤◌, List, [], ◌∷◌, length, get_or, drop, map, true, Option, Some, None, IfNone, ap, sym, ◌∙◌, arith, refl}

-- what holds of a missing value, and what follows of it
pub none_also : {X : Type 0} (o : Option X) (P Q : Type 0) → (P → Q) → IfNone o P → IfNone o Q
none_also None P Q m h = m h
none_also (Some x) P Q m h = tt

module _ {S : Type 0} (f : S → List ℕ) where
  -- the text of an item that is the command's word
  pub named : (a : S) (name word : List ℕ) → name ≡ f a → bytes_eq name word ≡ true → word ≡ f a
  named a name word e h = sym ((bytes_eq-Decides name word).0 h) ∙ e

  -- a word is the text of the item at its place, and further words are those of the items behind it
  pub word_then : (k : ℕ) (xs : List S) (a : S) (w : List ℕ) (ws : List (List ℕ)) → k < length xs → a ≡ get_or xs k a → w ≡ f a
      → ws ≡ map f (drop (suc k) xs) → w ∷ ws ≡ map f (drop k xs)
  word_then k xs a w ws h p e more =
      let d : drop k xs ≡ get_or xs k a ∷ drop (suc k) xs = drop-cons xs k a h in
      let u : w ≡ f (get_or xs k a) = e ∙ ap f p in
      let v : map f (drop k xs) ≡ f (get_or xs k a) ∷ map f (drop (suc k) xs) = ap (map f) d in
      cc

  -- no item is left
  pub no_more : (k : ℕ) (xs : List S) → length xs ≤ k → [] ≡ map f (drop k xs)
  no_more zero [] h = refl
  no_more zero (x ∷ xs) h = let e : ⊥ = omega (arith, h) in absurd e
  no_more (suc k) [] h = refl
  no_more (suc k) (x ∷ xs) h = no_more k xs (omega (arith, h))

  -- the word at a place of such words is the text of the item there
  pub word_at : (k : ℕ) (xs : List S) (a : S) (word : List ℕ) (ws : List (List ℕ)) → k < length xs → a ≡ get_or xs k a → word ≡ f a
      → ws ≡ map f xs → get_or ws k [] ≡ word
  word_at k xs a word ws h p e same =
      let u : get_or (map f xs) k [] ≡ f (get_or xs k a) = get_or-map f xs k a [] h in
      ap (λ v. get_or v k []) same ∙ u ∙ sym (ap f p) ∙ sym e
