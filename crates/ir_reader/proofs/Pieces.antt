-- What the scan finds is what the bytes spell.
use Rattle.std.proofs.Common.{◌≡◌, ◌≤◌, ◌<◌, ℕ, ◌+◌, ◌^◌, [], ◌∷◌, ◌++◌, List, Bool, true, false, refl, sym, ap, ◌∙◌, subst, length, take, drop, suc, zero, arith, map, nat_eq, if◌then◌else◌, eqb-true}
use Rattle.std.proofs.lemmas.Grind.{common_steps}
use Rattle.std.specs.List.{prefix_len, take_while}
use Rattle.std.proofs.lemmas.List.Sums.{take_while-cons}
use Rattle.std.proofs.lemmas.List.{take-append-drop}
use Rattle.base_numerals.specs.declared.Numeral.{Numeral}
use Rattle.base_numerals.specs.declared.Numeral.TheVariants as numerals
use Rattle.base_numerals.specs.Numerals.{numeral}
use Rattle.base_names.specs.Names.{begins_word, continues_word, is_word}
use Rattle.ir_model.specs.declared.token.Mark.{Mark}
use Rattle.ir_model.specs.declared.token.Mark.TheVariants as mark
use Rattle.base_laws.specs.Lists.{Each}
use Rattle.ir_model.specs.Tokens.{Token, Name, Number, Key, Operation, Comparison, Sign, mark_bytes}
use Rattle.ir_model.specs.Texts.{is_blank, opens_comment, is_inside_line, EndsLine, Spells, EndsWord, IsApart, Leads, here, blank, comment, token, StartsToken}
use Rattle.ir_reader.specs.Found.{Found, Is, Bad, End, Placed, finds}
use Rattle.ir_reader.specs.Words.{word_token}
use Rattle.ir_reader.specs.Scan.{placed, first_lexeme, number_from, mark_found, dash, is_digit, Lexeme, lexeme}
use Rattle.ir_reader.proofs.Tables.{name_free, word_is_spelled, IsSpelled}
use Rattle.ir_reader.proofs.Scanning.{placed_blank, placed_comment, placed_nil, placed_token, run_is_word, prefix_len_some, take_run, digit_continues, opens_at}

-- bytes are a front that passes a test, and the rest
parts : (p : ℕ → Bool) (bs : List ℕ) → bs ≡ take_while p bs ++ drop (prefix_len p bs) bs
parts p bs = grind (arith, common_steps)

front_passes : (p : ℕ → Bool) (bs : List ℕ) → Each (λ (b : ℕ). p b ≡ true) (take_while p bs)
front_passes p [] = tt
front_passes p (b ∷ bs) = by_test (p b) refl (front_passes p bs)
  where
    by_test : (t : Bool) → p b ≡ t → Each (λ (b : ℕ). p b ≡ true) (take_while p bs) → Each (λ (b : ℕ). p b ≡ true) (take_while p (b ∷ bs))
    by_test true e h = rw (take_while-cons p b bs, e) (e, h)
    by_test false e h = rw (take_while-cons p b bs, e) tt

-- the first byte behind such a front fails the test
abbrev Fails : (ℕ → Bool) → List ℕ → Type 0
Fails p [] = Unit {0}
Fails p (b ∷ bs) = p b ≡ false

rest_fails : (p : ℕ → Bool) (bs : List ℕ) → Fails p (drop (prefix_len p bs) bs)
rest_fails p [] = tt
rest_fails p (b ∷ bs) = by_test (p b) refl (rest_fails p bs)
  where
    by_test : (t : Bool) → p b ≡ t → Fails p (drop (prefix_len p bs) bs) → Fails p (drop (prefix_len p (b ∷ bs)) (b ∷ bs))
    by_test true e h = let n : prefix_len p (b ∷ bs) ≡ suc (prefix_len p bs) = grind (arith, common_steps) in rw n h
    by_test false e h = let n : prefix_len p (b ∷ bs) ≡ zero = grind (arith, common_steps) in rw n e

fails_line : (bs : List ℕ) → Fails is_inside_line bs → EndsLine bs
fails_line [] h = tt
fails_line (b ∷ bs) h = h

fails_word : (bs : List ℕ) → Fails continues_word bs → EndsWord bs
fails_word [] h = tt
fails_word (b ∷ bs) h = h

apart_word : (t : Token) (bs : List ℕ) → EndsWord bs → IsApart t bs
apart_word (Sign m) bs h = tt
apart_word (Name w) bs h = h
apart_word _ bs h = h

-- a token is spelled by the bytes of its lexeme
pub record Spelled (t : Token) (len : ℕ) (bs : List ℕ) : Type 0 where
  pub spells : Spells t (take len bs)
  pub apart : IsApart t (drop len bs)
  pub some : 0 < len

spells_word : (w : List ℕ) (t : Token) → is_word w ≡ true → word_token w ≡ t → IsSpelled w t → Spells t w
spells_word w (Name v) h e s = let f = name_free w v e in (sym f.0, rw f.0 h, rw f.0 f.1)
spells_word w (Number n) h e s = absurd s
spells_word w (Key k) h e s = s
spells_word w (Operation o) h e s = s
spells_word w (Comparison c) h e s = s
spells_word w (Sign m) h e s = absurd s

run_apart : (t : Token) (bs : List ℕ) → IsApart t (drop (prefix_len continues_word bs) bs)
run_apart t bs = apart_word t (drop (prefix_len continues_word bs) bs) (fails_word (drop (prefix_len continues_word bs) bs) (rest_fails continues_word bs))

spelled_word : (b : ℕ) (bs : List ℕ) (t : Token) → begins_word b ≡ true → word_token (take_while continues_word (b ∷ bs)) ≡ t → Spelled t (prefix_len continues_word (b ∷ bs)) (b ∷ bs)
spelled_word b bs t h e =
    let c : continues_word b ≡ true = rw h refl in
    let s : IsSpelled (take_while continues_word (b ∷ bs)) t = subst (λ (u : Token). IsSpelled (take_while continues_word (b ∷ bs)) u) e (word_is_spelled (take_while continues_word (b ∷ bs))) in
    record { spells = rw (take_run (b ∷ bs)) (spells_word (take_while continues_word (b ∷ bs)) t (run_is_word b bs h) e s); apart = run_apart t (b ∷ bs); some = prefix_len_some (b ∷ bs) b bs refl c }

spells_number : (w : List ℕ) (n : Numeral) (t : Token) → numeral w ≡ n → number_from n ≡ Is t → Spells t w
spells_number w numerals.Malformed t e h = cc
spells_number w numerals.TooWide t e h =
    let i : Number (2 ^ 32) ≡ t = cc in
    subst (λ (u : Token). Spells u w) i (rw e (omega arith))
spells_number w (numerals.Value m) t e h =
    let i : Number m ≡ t = cc in
    subst (λ (u : Token). Spells u w) i (rw e refl)

spelled_number : (b : ℕ) (bs : List ℕ) (t : Token) → is_digit b ≡ true → number_from (numeral (take_while continues_word (b ∷ bs))) ≡ Is t → Spelled t (prefix_len continues_word (b ∷ bs)) (b ∷ bs)
spelled_number b bs t h e =
    record { spells = rw (take_run (b ∷ bs)) (spells_number (take_while continues_word (b ∷ bs)) (numeral (take_while continues_word (b ∷ bs))) t refl e); apart = run_apart t (b ∷ bs); some = prefix_len_some (b ∷ bs) b bs refl (digit_continues b h) }

spelled_dash : (b : ℕ) (bs : List ℕ) (t : Token) → b ≡ 45 → (dash bs).found ≡ Is t → Spelled t (dash bs).len (b ∷ bs)
spelled_dash b [] t h e = cc
spelled_dash b (c ∷ cs) t h e = by_test (nat_eq c 62) (eqb-true c 62) e
  where
    by_test : (u : Bool) → (u ≡ true → c ≡ 62)
        → (if u then lexeme (Is (Sign mark.Arrow)) 2 else lexeme (number_from (numeral (45 ∷ take_while continues_word (c ∷ cs)))) (1 + prefix_len continues_word (c ∷ cs))).found ≡ Is t
        → Spelled t (if u then lexeme (Is (Sign mark.Arrow)) 2 else lexeme (number_from (numeral (45 ∷ take_while continues_word (c ∷ cs)))) (1 + prefix_len continues_word (c ∷ cs))).len (b ∷ c ∷ cs)
    by_test true i e =
        let j : Sign mark.Arrow ≡ t = cc in
        subst (λ (u : Token). Spelled u 2 (b ∷ c ∷ cs)) j (record { spells = rw (h, i refl) refl; apart = tt; some = omega arith })
    by_test false i e =
        let n : 1 + prefix_len continues_word (c ∷ cs) ≡ suc (prefix_len continues_word (c ∷ cs)) = omega arith in
        rw (n, h) (record {
          spells = rw (take_run (c ∷ cs)) (spells_number (45 ∷ take_while continues_word (c ∷ cs)) (numeral (45 ∷ take_while continues_word (c ∷ cs))) t refl e);
          apart = run_apart t (c ∷ cs);
          some = omega arith;
        })

-- the tests of a mark, one by one
spelled_one : (b n : ℕ) (m : Mark) (bs : List ℕ) (t : Token) (u : Bool) (other : Found) → (u ≡ true → b ≡ n) → mark_bytes m ≡ n ∷ []
    → (other ≡ Is t → Spelled t 1 (b ∷ bs)) → (if u then Is (Sign m) else other) ≡ Is t → Spelled t 1 (b ∷ bs)
spelled_one b n m bs t true other i s again e =
    let j : Sign m ≡ t = cc in
    subst (λ (u : Token). Spelled u 1 (b ∷ bs)) j (record { spells = ap (λ z. z ∷ []) (i refl) ∙ sym s; apart = tt; some = omega arith })
spelled_one b n m bs t false other i s again e = again e

spelled_mark : (b : ℕ) (bs : List ℕ) (t : Token) → mark_found b ≡ Is t → Spelled t 1 (b ∷ bs)
spelled_mark b bs t e =
    spelled_one b 123 mark.OpenBrace bs t (nat_eq b 123) _ (eqb-true b 123) refl (
    spelled_one b 125 mark.CloseBrace bs t (nat_eq b 125) _ (eqb-true b 125) refl (
    spelled_one b 40 mark.Open bs t (nat_eq b 40) _ (eqb-true b 40) refl (
    spelled_one b 41 mark.Close bs t (nat_eq b 41) _ (eqb-true b 41) refl (
    spelled_one b 91 mark.OpenSquare bs t (nat_eq b 91) _ (eqb-true b 91) refl (
    spelled_one b 93 mark.CloseSquare bs t (nat_eq b 93) _ (eqb-true b 93) refl (
    spelled_one b 44 mark.Comma bs t (nat_eq b 44) _ (eqb-true b 44) refl (
    spelled_one b 58 mark.Colon bs t (nat_eq b 58) _ (eqb-true b 58) refl (
    spelled_one b 61 mark.Equal bs t (nat_eq b 61) _ (eqb-true b 61) refl (
    spelled_one b 42 mark.Star bs t (nat_eq b 42) Bad (eqb-true b 42) refl (λ h. cc)))))))))) e

abbrev rest_of : ℕ → List ℕ → Lexeme
rest_of b bs = if nat_eq b 45 then dash bs else lexeme (mark_found b) 1

abbrev others_of : ℕ → List ℕ → Lexeme
others_of b bs = if is_digit b then lexeme (number_from (numeral (take_while continues_word (b ∷ bs)))) (prefix_len continues_word (b ∷ bs)) else rest_of b bs

pub spelled_lexeme : (b : ℕ) (bs : List ℕ) (t : Token) → (first_lexeme b bs).found ≡ Is t → Spelled t (first_lexeme b bs).len (b ∷ bs)
spelled_lexeme b bs t e = by_word (begins_word b) refl e
  where
    by_dash : (u : Bool) → nat_eq b 45 ≡ u → (if u then dash bs else lexeme (mark_found b) 1).found ≡ Is t → Spelled t (if u then dash bs else lexeme (mark_found b) 1).len (b ∷ bs)
    by_dash true h e = spelled_dash b bs t (eqb-true b 45 h) e
    by_dash false h e = spelled_mark b bs t e

    by_digit : (u : Bool) → is_digit b ≡ u → (if u then lexeme (number_from (numeral (take_while continues_word (b ∷ bs)))) (prefix_len continues_word (b ∷ bs)) else rest_of b bs).found ≡ Is t
        → Spelled t (if u then lexeme (number_from (numeral (take_while continues_word (b ∷ bs)))) (prefix_len continues_word (b ∷ bs)) else rest_of b bs).len (b ∷ bs)
    by_digit true h e = spelled_number b bs t h e
    by_digit false h e = by_dash (nat_eq b 45) refl e

    by_word : (u : Bool) → begins_word b ≡ u → (if u then lexeme (Is (word_token (take_while continues_word (b ∷ bs)))) (prefix_len continues_word (b ∷ bs)) else others_of b bs).found ≡ Is t
        → Spelled t (if u then lexeme (Is (word_token (take_while continues_word (b ∷ bs)))) (prefix_len continues_word (b ∷ bs)) else others_of b bs).len (b ∷ bs)
    by_word true h e = let w : word_token (take_while continues_word (b ∷ bs)) ≡ t = cc in spelled_word b bs t h w
    by_word false h e = by_digit (is_digit b) refl e

-- where the scan comes to what it finds at a place
pub record Reached (ts : List Token) (bs : List ℕ) (at : Placed) (after : List Placed) : Type 0 where
  pub rest : List ℕ
  pub leads : Leads ts bs rest
  pub here : placed rest ≡ at ∷ after
  pub starts : StartsToken rest

further_blank : (b : ℕ) (bs : List ℕ) (ts : List Token) (at : Placed) (after : List Placed) → is_blank b ≡ true → Reached ts bs at after → Reached ts (b ∷ bs) at after
further_blank b bs ts at after h r = record { rest = r.rest; leads = blank b h r.leads; here = r.here; starts = r.starts }

further_comment : (b : ℕ) (bs : List ℕ) (ts : List Token) (at : Placed) (after : List Placed) → opens_comment b ≡ true → Reached ts (drop (prefix_len is_inside_line bs) bs) at after → Reached ts (b ∷ bs) at after
further_comment b bs ts at after h r =
    let P : List ℕ → Type 0 = λ z. Leads ts (b ∷ z) r.rest in
    let l : Leads ts (b ∷ (take_while is_inside_line bs ++ drop (prefix_len is_inside_line bs) bs)) r.rest =
    comment b (take_while is_inside_line bs) h (front_passes is_inside_line bs) (fails_line (drop (prefix_len is_inside_line bs) bs) (rest_fails is_inside_line bs)) r.leads in
    record { rest = r.rest; leads = subst P (sym (parts is_inside_line bs)) l; here = r.here; starts = r.starts }

further_token : (len : ℕ) (bs : List ℕ) (t : Token) (ts : List Token) (at : Placed) (after : List Placed) → Spelled t len bs → Reached ts (drop len bs) at after → Reached (t ∷ ts) bs at after
further_token len bs t ts at after s r =
    let P : List ℕ → Type 0 = λ z. Leads (t ∷ ts) z r.rest in
    let l : Leads (t ∷ ts) (take len bs ++ drop len bs) r.rest = token t (take len bs) s.spells s.apart r.leads in
    record { rest = r.rest; leads = subst P (take-append-drop len bs) l; here = r.here; starts = r.starts }

drop_short : (n len : ℕ) (b : ℕ) (bs : List ℕ) → length (b ∷ bs) ≤ suc n → 0 < len → length (drop len (b ∷ bs)) ≤ n
drop_short n len b bs h s = grind (arith, common_steps)

tail_short : (n k : ℕ) (b : ℕ) (bs : List ℕ) → length (b ∷ bs) ≤ suc n → length (drop k bs) ≤ n
tail_short n k b bs h = grind (arith, common_steps)

-- the lexeme's length, where it is no token
pub lexeme_some : (b : ℕ) (bs : List ℕ) → 0 < (first_lexeme b bs).len
lexeme_some b bs = by_word (begins_word b) refl
  where
    dash_some : (bs : List ℕ) → 0 < (dash bs).len
    dash_some [] = omega arith
    dash_some (c ∷ cs) = by_test (nat_eq c 62)
      where
        by_test : (u : Bool) → 0 < (if u then lexeme (Is (Sign mark.Arrow)) 2 else lexeme (number_from (numeral (45 ∷ take_while continues_word (c ∷ cs)))) (1 + prefix_len continues_word (c ∷ cs))).len
        by_test true = omega arith
        by_test false = omega arith

    by_dash : (u : Bool) → 0 < (if u then dash bs else lexeme (mark_found b) 1).len
    by_dash true = dash_some bs
    by_dash false = omega arith

    by_digit : (u : Bool) → is_digit b ≡ u → 0 < (if u then lexeme (number_from (numeral (take_while continues_word (b ∷ bs)))) (prefix_len continues_word (b ∷ bs)) else rest_of b bs).len
    by_digit true h = prefix_len_some (b ∷ bs) b bs refl (digit_continues b h)
    by_digit false h = by_dash (nat_eq b 45)

    by_word : (u : Bool) → begins_word b ≡ u → 0 < (if u then lexeme (Is (word_token (take_while continues_word (b ∷ bs)))) (prefix_len continues_word (b ∷ bs)) else others_of b bs).len
    by_word true h = prefix_len_some (b ∷ bs) b bs refl (let c : continues_word b ≡ true = rw h refl in c)
    by_word false h = by_digit (is_digit b) refl

pub at_token : (b : ℕ) (bs : List ℕ) → is_blank b ≡ false → opens_comment b ≡ false
    → placed (b ∷ bs) ≡ record { found = (first_lexeme b bs).found; left = length (b ∷ bs) } ∷ placed (drop (first_lexeme b bs).len (b ∷ bs))
at_token b bs h i = placed_token (b ∷ bs) (h, i) (lexeme_some b bs)

abbrev Again : ℕ → Placed → List Placed → Type 0
Again n at after = (bs : List ℕ) → length bs ≤ n → (ts : List Token) (before : List Placed) → finds before ≡ map Is ts → placed bs ≡ before ++ at ∷ after → Reached ts bs at after

reached_step : (n : ℕ) (b : ℕ) (bs : List ℕ) (at : Placed) (after : List Placed) → Again n at after → length (b ∷ bs) ≤ suc n → (ts : List Token) (before : List Placed) → finds before ≡ map Is ts
    → placed (b ∷ bs) ≡ before ++ at ∷ after → Reached ts (b ∷ bs) at after
reached_step n b bs at after again l ts before f e = by_blank (is_blank b) refl
  where
    by_token : (ts : List Token) (before : List Placed) → finds before ≡ map Is ts → placed (b ∷ bs) ≡ before ++ at ∷ after → is_blank b ≡ false → opens_comment b ≡ false → Reached ts (b ∷ bs) at after
    by_token [] [] f e h i = record { rest = b ∷ bs; leads = here (b ∷ bs); here = e; starts = (h, i) }
    by_token (t ∷ ts) [] f e h i = cc
    by_token [] (p ∷ before) f e h i = cc
    by_token (t ∷ ts) (p ∷ before) f e h i =
        let a = sym (at_token b bs h i) ∙ e in
        let found : (first_lexeme b bs).found ≡ Is t = cc in
        let others : placed (drop (first_lexeme b bs).len (b ∷ bs)) ≡ before ++ at ∷ after = cc in
        let rest : finds before ≡ map Is ts = cc in
        further_token (first_lexeme b bs).len (b ∷ bs) t ts at after (spelled_lexeme b bs t found)
        (again (drop (first_lexeme b bs).len (b ∷ bs)) (drop_short n (first_lexeme b bs).len b bs l (lexeme_some b bs)) ts before rest others)

    by_comment : (u : Bool) → is_blank b ≡ false → opens_comment b ≡ u → Reached ts (b ∷ bs) at after
    by_comment true h i =
        further_comment b bs ts at after i
        (again (drop (prefix_len is_inside_line bs) bs) (tail_short n (prefix_len is_inside_line bs) b bs l) ts before f (sym (placed_comment b bs h (opens_at b i)) ∙ e))
    by_comment false h i = by_token ts before f e h i

    by_blank : (u : Bool) → is_blank b ≡ u → Reached ts (b ∷ bs) at after
    by_blank true h =
        let short : length bs ≤ n = omega arith in
        further_blank b bs ts at after h (again bs short ts before f (sym (placed_blank b bs h) ∙ e))
    by_blank false h = by_comment (opens_comment b) h refl

-- where the scan of bytes comes to
pub reached : (n : ℕ) (bs : List ℕ) → length bs ≤ n → (ts : List Token) (before : List Placed) (at : Placed) (after : List Placed) → finds before ≡ map Is ts → placed bs ≡ before ++ at ∷ after → Reached ts bs at after
reached n [] l [] [] at after f e = record { rest = []; leads = here []; here = e; starts = tt }
reached n [] l (t ∷ ts) [] at after f e = cc
reached n [] l ts (p ∷ []) at after f e = let h = sym placed_nil ∙ e in cc
reached n [] l ts (p ∷ q ∷ before) at after f e = let h = sym placed_nil ∙ e in cc
reached zero (b ∷ bs) l ts before at after f e = absurd (omega arith)
reached (suc n) (b ∷ bs) l ts before at after f e = reached_step n b bs at after (λ bs l ts before. reached n bs l ts before at after) l ts before f e

-- what is found, up to the end
ends_at : (ps : List Placed) (fs : List Found) → finds ps ≡ fs ++ End ∷ [] → (before : List Placed) × (at : Placed) × (ps ≡ before ++ at ∷ []) × (finds before ≡ fs) × (at.found ≡ End)
ends_at [] [] e = cc
ends_at [] (f ∷ fs) e = cc
ends_at (p ∷ []) [] e = ([], p, refl, refl, cc)
ends_at (p ∷ q ∷ ps) [] e = cc
ends_at (p ∷ ps) (f ∷ fs) e =
    let h : finds ps ≡ fs ++ End ∷ [] = cc in
    let r = ends_at ps fs h in
    (p ∷ r.0, r.1, ap (λ z. p ∷ z) r.2, cc (r.3), r.4)

no_end_number : (n : Numeral) → number_from n ≡ End → ⊥
no_end_number numerals.Malformed h = cc
no_end_number numerals.TooWide h = cc
no_end_number (numerals.Value m) h = cc

no_end_one : (u : Bool) (m : Mark) (other : Found) → (other ≡ End → ⊥) → (if u then Is (Sign m) else other) ≡ End → ⊥
no_end_one true m other h e = cc
no_end_one false m other h e = h e

no_end_mark : (b : ℕ) → mark_found b ≡ End → ⊥
no_end_mark b e =
    no_end_one (nat_eq b 123) mark.OpenBrace _ (no_end_one (nat_eq b 125) mark.CloseBrace _ (no_end_one (nat_eq b 40) mark.Open _ (no_end_one (nat_eq b 41) mark.Close _ (no_end_one (nat_eq b 91) mark.OpenSquare _ (
    no_end_one (nat_eq b 93) mark.CloseSquare _ (no_end_one (nat_eq b 44) mark.Comma _ (no_end_one (nat_eq b 58) mark.Colon _ (no_end_one (nat_eq b 61) mark.Equal _ (no_end_one (nat_eq b 42) mark.Star Bad (λ h. cc)))))))))) e

pub no_end : (b : ℕ) (bs : List ℕ) → (first_lexeme b bs).found ≡ End → ⊥
no_end b bs e = by_word (begins_word b) e
  where
    by_next : (c : ℕ) (cs : List ℕ) (u : Bool) → (if u then lexeme (Is (Sign mark.Arrow)) 2 else lexeme (number_from (numeral (45 ∷ take_while continues_word (c ∷ cs)))) (1 + prefix_len continues_word (c ∷ cs))).found ≡ End → ⊥
    by_next c cs true e = cc
    by_next c cs false e = no_end_number (numeral (45 ∷ take_while continues_word (c ∷ cs))) e

    no_end_dash : (bs : List ℕ) → (dash bs).found ≡ End → ⊥
    no_end_dash [] e = cc
    no_end_dash (c ∷ cs) e = by_next c cs (nat_eq c 62) e

    by_dash : (u : Bool) → (if u then dash bs else lexeme (mark_found b) 1).found ≡ End → ⊥
    by_dash true e = no_end_dash bs e
    by_dash false e = no_end_mark b e

    by_digit : (u : Bool) → (if u then lexeme (number_from (numeral (take_while continues_word (b ∷ bs)))) (prefix_len continues_word (b ∷ bs)) else rest_of b bs).found ≡ End → ⊥
    by_digit true e = no_end_number (numeral (take_while continues_word (b ∷ bs))) e
    by_digit false e = by_dash (nat_eq b 45) e

    by_word : (u : Bool) → (if u then lexeme (Is (word_token (take_while continues_word (b ∷ bs)))) (prefix_len continues_word (b ∷ bs)) else others_of b bs).found ≡ End → ⊥
    by_word true e = cc
    by_word false e = by_digit (is_digit b) e

-- the end is found at the end alone
pub nothing_left : (rest : List ℕ) (at : Placed) (after : List Placed) → StartsToken rest → placed rest ≡ at ∷ after → at.found ≡ End → rest ≡ []
nothing_left [] at after s e h = refl
nothing_left (b ∷ bs) at after s e h =
    let a = sym (at_token b bs s.0 s.1) ∙ e in
    let found : (first_lexeme b bs).found ≡ End = cc in
    absurd (no_end b bs found)

-- the bytes spell the tokens that the scan finds
pub leads_from : (bs : List ℕ) (ts : List Token) → finds (placed bs) ≡ map Is ts ++ End ∷ [] → Leads ts bs []
leads_from bs ts e =
    let p = ends_at (placed bs) (map Is ts) e in
    let l : length bs ≤ length bs = omega arith in
    let r = reached (length bs) bs l ts p.0 p.1 [] p.3 p.2 in
    subst (λ (z : List ℕ). Leads ts bs z) (nothing_left r.rest p.1 [] r.starts r.here p.4) r.leads
