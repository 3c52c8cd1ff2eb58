-- Lists with commas, one element after another.
use Rattle.std.proofs.Common.{◌≡◌, ◌<◌, ℕ, ◌+◌, ◌++◌, List, [], ◌∷◌, map, length, take, get_or, refl, ap, sym, ◌∙◌, append_assoc, arith, length-take-le}
use Rattle.std.proofs.lemmas.Bool.Decides.{nat_tests}
use Rattle.std.proofs.lemmas.List.{take_more, length-map, take-map, get_or-map}
use Rattle.ir_model.specs.declared.firmware.Cell.{Cell}
use Rattle.ir_model.specs.declared.token.Mark.TheVariants.{Comma, OpenBrace, Equal}
use Rattle.ir_model.specs.Tokens.{Sign}
use Rattle.ir_grammar.specs.Spelling.{separated, spell_cells, spell_init}
use Rattle.ir_grammar.proofs.Separated.{separated_push}
use Rattle.ir_printer.specs.Pieces.{next, line_end, separator, as_bytes}

separator_more : (k : ℕ) → 0 < k → separator k ≡ next (Sign Comma)
unfolding separator
separator_more k h = grind (arith, nat_tests)

-- one element more
separated_next : {A : Type 0} (f : A → List ℕ) (xs : List A) (x : A) → separated as_bytes f (xs ++ x ∷ []) ≡ separated as_bytes f xs ++ (separator (length xs) ++ f x)
unfolding separator
separated_next f [] x = refl
separated_next f (y ∷ ys) x =
    let some : 0 < length (y ∷ ys) = omega arith in
    separated_push as_bytes f (y ∷ ys) x some ∙ ap (λ z. separated as_bytes f (y ∷ ys) ++ (z ++ f x)) (sym (separator_more (length (y ∷ ys)) some))

-- an element more of a list that is written as far as its index
pub separated_step : {A : Type 0} (f : A → List ℕ) (xs : List A) (i : ℕ) (x : A) (start before comma after : List ℕ) → i < length xs → x ≡ get_or xs i x
    → before ≡ start ++ separated as_bytes f (take i xs) → comma ≡ before ++ separator i → after ≡ comma ++ f x
    → after ≡ start ++ separated as_bytes f (take (i + 1) xs)
separated_step f xs i x start before comma after l at b k a =
    let t : take (i + 1) xs ≡ take i xs ++ x ∷ [] = take_more xs i x l ∙ ap (λ y. take i xs ++ y ∷ []) (sym at) in
    let n : length (take i xs) ≡ i = length-take-le i xs (omega arith) in
    let e : separated as_bytes f (take (i + 1) xs) ≡ separated as_bytes f (take i xs) ++ (separator i ++ f x) =
    ap (separated as_bytes f) t ∙ (separated_next f (take i xs) x ∙ ap (λ m. separated as_bytes f (take i xs) ++ (separator m ++ f x)) n) in
    rw (a, k, b, e) (simp append_assoc)

-- the same, of what is seen of the elements
pub separated_map_step : {A B : Type 0} (f : B → List ℕ) (g : A → B) (xs : List A) (i : ℕ) (x : A) (start before comma after : List ℕ) → i < length xs → x ≡ get_or xs i x
    → before ≡ start ++ separated as_bytes f (map g (take i xs)) → comma ≡ before ++ separator i → after ≡ comma ++ f (g x)
    → after ≡ start ++ separated as_bytes f (map g (take (i + 1) xs))
separated_map_step f g xs i x start before comma after l at b k a =
    let seen : (n : ℕ) → map g (take n xs) ≡ take n (map g xs) = λ n. sym (take-map g n xs) in
    let inside : i < length (map g xs) = rw (length-map xs g) l in
    let same : g x ≡ get_or (map g xs) i (g x) = ap g at ∙ sym (get_or-map g xs i x (g x) l) in
    rw (seen (i + 1)) (separated_step f (map g xs) i (g x) start before comma after inside same (rw (← (seen i)) b) k a)

-- the cells of a global, where it has some
pub init_some : (cs : List Cell) → 0 < length cs → spell_init as_bytes cs ≡ next (Sign Equal) ++ (next (Sign OpenBrace) ++ spell_cells as_bytes cs)
init_some [] h = absurd (omega arith)
init_some (c ∷ cs) h = refl

pub init_none : (cs : List Cell) → length cs ≡ 0 → spell_init as_bytes cs ≡ line_end
init_none [] h = refl
init_none (c ∷ cs) h = absurd (omega arith)
