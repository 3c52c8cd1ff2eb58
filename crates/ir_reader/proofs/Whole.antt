-- What bytes spell is what the scan finds.
use Rattle.std.proofs.Common.{◌≡◌, ◌<◌, ◌≤◌, ◌⊎◌, inl, inr, ℕ, ◌+◌, ◌-◌, ◌*◌, ◌^◌, [], ◌∷◌, ◌++◌, List, Bool, true, false, ◌&&◌, refl, sym, ap, ◌∙◌, subst, Option, Some, None, length, take, drop, suc, arith, map, nat_eq, if◌then◌else◌, eqb-true}
use Rattle.std.proofs.lemmas.Grind.{common_steps}
use Rattle.std.proofs.lemmas.Bool.Decides.{nat_tests}
use Rattle.std.specs.List.{prefix_len, take_while}
use Rattle.base_numerals.specs.declared.Numeral.{Numeral}
use Rattle.base_numerals.specs.declared.Numeral.TheVariants as numerals
use Rattle.base_numerals.specs.Numerals as numbers
use Rattle.base_numerals.specs.Numerals.{numeral}
use Rattle.base_names.specs.Names.{begins_word, continues_word, is_word, all_continue}
use Rattle.ir_model.specs.declared.firmware.BinOp.{BinOp}
use Rattle.ir_model.specs.declared.firmware.BinOp.TheVariants as op
use Rattle.ir_model.specs.declared.firmware.CmpOp.{CmpOp}
use Rattle.ir_model.specs.declared.firmware.CmpOp.TheVariants as cmp
use Rattle.ir_model.specs.declared.token.Keyword.{Keyword}
use Rattle.ir_model.specs.declared.token.Keyword.TheVariants as key
use Rattle.ir_model.specs.declared.token.Mark.{Mark}
use Rattle.ir_model.specs.declared.token.Mark.TheVariants as mark
use Rattle.base_laws.specs.Lists.{Each}
use Rattle.ir_model.specs.Tokens.{Token, Name, Number, Key, Operation, Comparison, Sign, mark_bytes, keyword_bytes, operation_bytes, comparison_bytes}
use Rattle.ir_model.specs.Texts.{is_blank, opens_comment, is_inside_line, EndsLine, StandsFor, Spells, EndsWord, IsApart, Leads, here, blank, comment, token, StartsToken}
use Rattle.ir_reader.specs.Found.{Is, Placed, finds}
use Rattle.ir_reader.specs.Words.{word_token}
use Rattle.ir_reader.specs.Scan.{placed, first_lexeme, lexeme_of, number_from, is_digit, Lexeme, lexeme}
use Rattle.ir_reader.proofs.Tables.{free_name, keyword_token, operation_token, comparison_token}
use Rattle.ir_reader.proofs.Scanning.{placed_blank, placed_comment, placed_token, begins_continues, digit_continues, opens_at}
use Rattle.base_laws.proofs.Lists.{each_from_list_all}
use Rattle.ir_model.proofs.NoExcess.{IsNarrow}
use Rattle.std.proofs.lemmas.Bool.{cond-true, cond-false, and_parts}
use Rattle.std.proofs.Math.Seq.{take-append_seam, drop-append_seam}

-- bytes that pass a test before one that fails it
prefix_front : (p : ℕ → Bool) (w bs : List ℕ) → Each (λ (b : ℕ). p b ≡ true) w → prefix_len p bs ≡ 0 → prefix_len p (w ++ bs) ≡ length w
prefix_front p [] bs h e = e
prefix_front p (b ∷ w) bs h e = let i = prefix_front p w bs h.1 e in let t = h.0 in grind (arith, common_steps)

line_ends : (bs : List ℕ) → EndsLine bs → prefix_len is_inside_line bs ≡ 0
line_ends [] h = refl
line_ends (b ∷ bs) h = rw h refl

word_ends : (bs : List ℕ) → EndsWord bs → prefix_len continues_word bs ≡ 0
word_ends [] h = refl
word_ends (b ∷ bs) h = rw h refl

-- the front of a text is the token
pub record Finds (t : Token) (w bs : List ℕ) : Type 0 where
  pub starts : StartsToken (w ++ bs)
  pub found : (lexeme_of (w ++ bs)).found ≡ Is t
  pub len : (lexeme_of (w ++ bs)).len ≡ length w
  pub some : 0 < length w

begins_nothing : (b : ℕ) → begins_word b ≡ true → (is_blank b ≡ false) × (opens_comment b ≡ false)
begins_nothing b h = (grind (arith, nat_tests), grind (arith, nat_tests))

digit_nothing : (b : ℕ) → is_digit b ≡ true → (is_blank b ≡ false) × (opens_comment b ≡ false) × (begins_word b ≡ false)
digit_nothing b h = (grind (arith, nat_tests), grind (arith, nat_tests), grind (arith, nat_tests))

-- a run of bytes that words may have
run_len : (b : ℕ) (w bs : List ℕ) → continues_word b ≡ true → Each (λ (b : ℕ). continues_word b ≡ true) w → EndsWord bs → prefix_len continues_word (b ∷ (w ++ bs)) ≡ length (b ∷ w)
run_len b w bs c h e = prefix_front continues_word (b ∷ w) bs (c, h) (word_ends bs e)

run_is : (b : ℕ) (w bs : List ℕ) → continues_word b ≡ true → Each (λ (b : ℕ). continues_word b ≡ true) w → EndsWord bs → take_while continues_word (b ∷ (w ++ bs)) ≡ b ∷ w
run_is b w bs c h e = ap (λ n. take n (b ∷ (w ++ bs))) (run_len b w bs c h e) ∙ take-append_seam (b ∷ w) bs

some_bytes : (b : ℕ) (w : List ℕ) → 0 < length (b ∷ w)
some_bytes b w = omega arith

finds_word : (w bs : List ℕ) (t : Token) → is_word w ≡ true → word_token w ≡ t → EndsWord bs → Finds t w bs
finds_word [] bs t h e a = cc
finds_word (b ∷ w) bs t h e a =
    let i = (and_parts (begins_word b) (all_continue w) h).0 in
    let c = begins_continues b i in
    let r = each_from_list_all continues_word w (and_parts (begins_word b) (all_continue w) h).1 in
    let n = begins_nothing b i in
    let f : first_lexeme b (w ++ bs) ≡ lexeme (Is (word_token (take_while continues_word (b ∷ (w ++ bs))))) (prefix_len continues_word (b ∷ (w ++ bs))) = cond-true (begins_word b) _ _ i in
    record {
      starts = (n.0, n.1);
      found = ap (λ (z : Lexeme). z.found) f ∙ (ap (λ z. Is (word_token z)) (run_is b w bs c r a) ∙ ap Is e);
      len = ap (λ (z : Lexeme). z.len) f ∙ run_len b w bs c r a;
      some = some_bytes b w;
    }

keyword_word : (k : Keyword) → is_word (keyword_bytes k) ≡ true
keyword_word key.Struct = refl
keyword_word _ = refl

operation_word : (o : BinOp) → is_word (operation_bytes o) ≡ true
operation_word op.Add = refl
operation_word _ = refl

comparison_word : (c : CmpOp) → is_word (comparison_bytes c) ≡ true
comparison_word cmp.Eq = refl
comparison_word _ = refl

finds_mark : (m : Mark) (bs : List ℕ) → Finds (Sign m) (mark_bytes m) bs
finds_mark mark.OpenBrace bs = record { starts = (refl, refl); found = refl; len = refl; some = omega arith }
finds_mark _ bs = record { starts = (refl, refl); found = refl; len = refl; some = omega arith }

-- numbers

decimal_goes_on : (b d : ℕ) → numbers.decimal_digit b ≡ Some d → is_digit b ≡ true
decimal_goes_on b d h = by_test (numbers.is_between 48 57 b) refl h
  where
    by_test : (t : Bool) → numbers.is_between 48 57 b ≡ t → (if t then Some (b - 48) else None) ≡ Some d → is_digit b ≡ true
    by_test true e h = grind (arith, nat_tests)
    by_test false e h = cc

hexadecimal_goes_on : (b d : ℕ) → numbers.hexadecimal_digit b ≡ Some d → continues_word b ≡ true
hexadecimal_goes_on b d h = by_decimal (numbers.is_between 48 57 b) refl h
  where
    by_upper : (t : Bool) → numbers.is_between 65 70 b ≡ t → (if t then Some (b - 65 + 10) else None) ≡ Some d → continues_word b ≡ true
    by_upper true e h = let g : begins_word b ≡ true = grind (arith, nat_tests) in begins_continues b g
    by_upper false e h = cc

    by_lower : (t : Bool) → numbers.is_between 97 102 b ≡ t → (if t then Some (b - 97 + 10) else if numbers.is_between 65 70 b then Some (b - 65 + 10) else None) ≡ Some d → continues_word b ≡ true
    by_lower true e h = let g : begins_word b ≡ true = grind (arith, nat_tests) in begins_continues b g
    by_lower false e h = by_upper (numbers.is_between 65 70 b) refl h

    by_decimal : (t : Bool) → numbers.is_between 48 57 b ≡ t
        → (if t then Some (b - 48) else if numbers.is_between 97 102 b then Some (b - 97 + 10) else if numbers.is_between 65 70 b then Some (b - 65 + 10) else None) ≡ Some d → continues_word b ≡ true
    by_decimal true e h = let g : is_digit b ≡ true = grind (arith, nat_tests) in digit_continues b g
    by_decimal false e h = by_lower (numbers.is_between 97 102 b) refl h

digits_go_on : (f : ℕ → Option ℕ) (base n : ℕ) (bs : List ℕ) (m : ℕ) → ((b d : ℕ) → f b ≡ Some d → continues_word b ≡ true) → numbers.and_more f base n bs ≡ Some m → Each (λ (b : ℕ). continues_word b ≡ true) bs
digits_go_on f base n [] m g h = tt
digits_go_on f base n (b ∷ bs) m g h = by_digit (f b) refl h (λ k. digits_go_on f base k bs m g)
  where
    by_digit : (o : Option ℕ) → f b ≡ o → ◌≡◌ {A = Option ℕ} (elim o [ Some d ↦ numbers.and_more f base (base * n + d) bs | None ↦ None ]) (Some m)
        → ((k : ℕ) → numbers.and_more f base k bs ≡ Some m → Each (λ (b : ℕ). continues_word b ≡ true) bs) → Each (λ (b : ℕ). continues_word b ≡ true) (b ∷ bs)
    by_digit None e h again = cc
    by_digit (Some d) e h again = (g b d e, again (base * n + d) h)

first_digit : (n : ℕ) (b : ℕ) (bs : List ℕ) (m : ℕ) → numbers.and_more numbers.decimal_digit 10 n (b ∷ bs) ≡ Some m → is_digit b ≡ true
first_digit n b bs m h = by_digit (numbers.decimal_digit b) refl h
  where
    by_digit : (o : Option ℕ) → numbers.decimal_digit b ≡ o → ◌≡◌ {A = Option ℕ} (elim o [ Some d ↦ numbers.and_more numbers.decimal_digit 10 (10 * n + d) bs | None ↦ None ]) (Some m) → is_digit b ≡ true
    by_digit None e h = cc
    by_digit (Some d) e h = decimal_goes_on b d e

-- a digit and what may stand behind it in a run
abbrev IsRun : List ℕ → Type 0
IsRun [] = ⊥
IsRun (d ∷ r) = (is_digit d ≡ true) × Each (λ (b : ℕ). continues_word b ≡ true) r

decimal_run : (bs : List ℕ) (m : ℕ) → numbers.digits numbers.decimal_digit 10 bs ≡ Some m → IsRun bs
decimal_run [] m h = cc
decimal_run (b ∷ bs) m h = (first_digit 0 b bs m h, (digits_go_on numbers.decimal_digit 10 0 (b ∷ bs) m (λ b d e. digit_continues b (decimal_goes_on b d e)) h).1)

hexadecimal_run : (bs : List ℕ) (m : ℕ) → numbers.digits numbers.hexadecimal_digit 16 bs ≡ Some m → Each (λ (b : ℕ). continues_word b ≡ true) bs
hexadecimal_run [] m h = tt
hexadecimal_run (b ∷ bs) m h = digits_go_on numbers.hexadecimal_digit 16 0 (b ∷ bs) m hexadecimal_goes_on h

run_of : (v : List ℕ) (m : ℕ) → numbers.magnitude v ≡ Some m → IsRun v
run_of [] m h = cc
run_of (a ∷ []) m h = decimal_run (a ∷ []) m h
run_of (a ∷ b ∷ bs) m h = by_prefix (nat_eq a 48 && nat_eq b 120) refl h
  where
    by_prefix : (t : Bool) → (nat_eq a 48 && nat_eq b 120) ≡ t → (if t then numbers.digits numbers.hexadecimal_digit 16 bs else numbers.digits numbers.decimal_digit 10 (a ∷ b ∷ bs)) ≡ Some m → IsRun (a ∷ b ∷ bs)
    by_prefix true e h =
        let x : is_digit a ≡ true = rw (eqb-true a 48 (and_parts (nat_eq a 48) (nat_eq b 120) e).0) refl in
        let y : continues_word b ≡ true = rw (eqb-true b 120 (and_parts (nat_eq a 48) (nat_eq b 120) e).1) refl in
        (x, (y, hexadecimal_run bs m h))
    by_prefix false e h = decimal_run (a ∷ b ∷ bs) m h

positive_some : (o : Option ℕ) → (numbers.positive o ≡ numerals.Malformed → ⊥) → (m : ℕ) × (o ≡ Some m)
positive_some None h = absurd (h refl)
positive_some (Some m) h = (m, refl)

negative_some : (o : Option ℕ) → (numbers.negative o ≡ numerals.Malformed → ⊥) → (m : ℕ) × (o ≡ Some m)
negative_some None h = absurd (h refl)
negative_some (Some m) h = (m, refl)

well_formed : (a : Numeral) (n : ℕ) → StandsFor a n → a ≡ numerals.Malformed → ⊥
well_formed numerals.Malformed n s e = s
well_formed numerals.TooWide n s e = cc
well_formed (numerals.Value m) n s e = cc

number_is : (a : Numeral) (n : ℕ) → StandsFor a n → n < 2 ^ 32 → number_from a ≡ Is (Number n)
number_is numerals.Malformed n s l = absurd s
number_is numerals.TooWide n s l = absurd (omega arith)
number_is (numerals.Value m) n s l = ap (λ z. Is (Number z)) (sym s)

finds_positive : (b : ℕ) (v bs : List ℕ) (n : ℕ) → IsRun (b ∷ v) → number_from (numeral (b ∷ v)) ≡ Is (Number n) → EndsWord bs → Finds (Number n) (b ∷ v) bs
finds_positive b v bs n r e a =
    let c = digit_continues b r.0 in
    let k = digit_nothing b r.0 in
    let f : first_lexeme b (v ++ bs) ≡ lexeme (number_from (numeral (take_while continues_word (b ∷ (v ++ bs))))) (prefix_len continues_word (b ∷ (v ++ bs))) = cond-false (begins_word b) _ _ k.2 ∙ cond-true (is_digit b) _ _ r.0 in
    record {
      starts = (k.0, k.1);
      found = ap (λ (z : Lexeme). z.found) f ∙ (ap (λ z. number_from (numeral z)) (run_is b v bs c r.1 a) ∙ e);
      len = ap (λ (z : Lexeme). z.len) f ∙ run_len b v bs c r.1 a;
      some = some_bytes b v;
    }

not_greater : (d : ℕ) → is_digit d ≡ true → nat_eq d 62 ≡ false
not_greater d h = grind (arith, nat_tests)

one_and : (n m : ℕ) → n ≡ m → 1 + n ≡ suc m
one_and n m h = omega arith

finds_negative : (d : ℕ) (r bs : List ℕ) (n : ℕ) → IsRun (d ∷ r) → number_from (numeral (45 ∷ d ∷ r)) ≡ Is (Number n) → EndsWord bs → Finds (Number n) (45 ∷ d ∷ r) bs
finds_negative d r bs n h e a =
    let c = digit_continues d h.0 in
    let f : first_lexeme 45 (d ∷ (r ++ bs)) ≡ lexeme (number_from (numeral (45 ∷ take_while continues_word (d ∷ (r ++ bs))))) (1 + prefix_len continues_word (d ∷ (r ++ bs))) = cond-false (nat_eq d 62) _ _ (not_greater d h.0) in
    record {
      starts = (refl, refl);
      found = ap (λ (z : Lexeme). z.found) f ∙ (ap (λ z. number_from (numeral (45 ∷ z))) (run_is d r bs c h.1 a) ∙ e);
      len = ap (λ (z : Lexeme). z.len) f ∙ one_and (prefix_len continues_word (d ∷ (r ++ bs))) (length (d ∷ r)) (run_len d r bs c h.1 a);
      some = some_bytes 45 (d ∷ r);
    }

finds_number : (w bs : List ℕ) (n m : ℕ) → StandsFor (numeral w) n → number_from (numeral w) ≡ Is (Number m) → EndsWord bs → Finds (Number m) w bs
unfolding numeral
finds_number [] bs n m s l a = absurd s
finds_number (b ∷ v) bs n m s l a = by_sign (nat_eq b 45) refl (well_formed (numeral (b ∷ v)) n s)
  where
    by_run : (v : List ℕ) → IsRun v → number_from (numeral (45 ∷ v)) ≡ Is (Number m) → Finds (Number m) (45 ∷ v) bs
    by_run [] r e = absurd r
    by_run (d ∷ r) h e = finds_negative d r bs m h e a

    by_sign : (t : Bool) → nat_eq b 45 ≡ t → ((if t then numbers.negative (numbers.magnitude v) else numbers.positive (numbers.magnitude (b ∷ v))) ≡ numerals.Malformed → ⊥) → Finds (Number m) (b ∷ v) bs
    by_sign true e h =
        let o = negative_some (numbers.magnitude v) h in
        let k = eqb-true b 45 e in
        let q : number_from (numeral (45 ∷ v)) ≡ Is (Number m) = subst (λ z. number_from (numeral (z ∷ v)) ≡ Is (Number m)) k l in
        subst (λ z. Finds (Number m) (z ∷ v) bs) (sym k) (by_run v (run_of v o.0 o.1) q)
    by_sign false e h =
        let o = positive_some (numbers.magnitude (b ∷ v)) h in
        finds_positive b v bs m (run_of (b ∷ v) o.0 o.1) l a

finds_token : (t : Token) (w bs : List ℕ) → Spells t w → IsApart t bs → IsNarrow t → Finds t w bs
finds_token (Name v) w bs s a n = let h : is_word w ≡ true = rw s.0 s.1 in finds_word w bs (Name v) h (ap word_token s.0 ∙ free_name v s.2) a
finds_token (Number m) w bs s a n = finds_number w bs m m s (number_is (numeral w) m s n) a
finds_token (Key k) w bs s a n = subst (λ z. Finds (Key k) z bs) (sym s) (finds_word (keyword_bytes k) bs (Key k) (keyword_word k) (keyword_token k) a)
finds_token (Operation o) w bs s a n = subst (λ z. Finds (Operation o) z bs) (sym s) (finds_word (operation_bytes o) bs (Operation o) (operation_word o) (operation_token o) a)
finds_token (Comparison c) w bs s a n = subst (λ z. Finds (Comparison c) z bs) (sym s) (finds_word (comparison_bytes c) bs (Comparison c) (comparison_word c) (comparison_token c) a)
finds_token (Sign m) w bs s a n = subst (λ z. Finds (Sign m) z bs) (sym s) (finds_mark m bs)

-- numbers that are too wide are found as one
abbrev pub AreWide : Token → Token → Type 0
AreWide (Number n) (Number m) = (2 ^ 32 ≤ n) × (2 ^ 32 ≤ m)
AreWide _ _ = ⊥

abbrev pub Alike : Token → Token → Type 0
Alike t u = (t ≡ u) ⊎ AreWide t u

-- the number that is found, where one is spelled
number_some : (a : Numeral) (n : ℕ) → StandsFor a n → (m : ℕ) × (number_from a ≡ Is (Number m)) × Alike (Number n) (Number m)
number_some numerals.Malformed n s = absurd s
number_some numerals.TooWide n s = let w : 2 ^ 32 ≤ 2 ^ 32 = omega arith in (2 ^ 32, refl, inr (s, w))
number_some (numerals.Value m) n s = (m, refl, inl (ap Number s))

-- where a token is spelled, one is found
pub finds_some : (t : Token) (w bs : List ℕ) → Spells t w → IsApart t bs → (u : Token) × Finds u w bs × Alike t u
finds_some (Number n) w bs s a = let m = number_some (numeral w) n s in (Number m.0, finds_number w bs n m.0 s m.1 a, m.2)
finds_some (Name v) w bs s a = (Name v, finds_token (Name v) w bs s a tt, inl refl)
finds_some (Key k) w bs s a = (Key k, finds_token (Key k) w bs s a tt, inl refl)
finds_some (Operation o) w bs s a = (Operation o, finds_token (Operation o) w bs s a tt, inl refl)
finds_some (Comparison c) w bs s a = (Comparison c, finds_token (Comparison c) w bs s a tt, inl refl)
finds_some (Sign m) w bs s a = (Sign m, finds_token (Sign m) w bs s a tt, inl refl)

pub token_placed : (t : Token) (w bs : List ℕ) → Finds t w bs → placed (w ++ bs) ≡ record { found = Is t; left = length (w ++ bs) } ∷ placed bs
token_placed t w bs f =
    let s : 0 < (lexeme_of (w ++ bs)).len = rw f.len f.some in
    let d : drop (lexeme_of (w ++ bs)).len (w ++ bs) ≡ bs = ap (λ n. drop n (w ++ bs)) f.len ∙ drop-append_seam w bs in
    placed_token (w ++ bs) f.starts s
    ∙ (ap (λ z. record { found = z; left = length (w ++ bs) } ∷ placed (drop (lexeme_of (w ++ bs)).len (w ++ bs))) f.found ∙ ap (λ z. record { found = Is t; left = length (w ++ bs) } ∷ placed z) d)

-- the front of what the scan finds
pub record Prefix (ts : List Token) (bs rest : List ℕ) : Type 0 where
  pub ps : List Placed
  pub found : finds ps ≡ map Is ts
  pub whole : placed bs ≡ ps ++ placed rest

pub placed_from : (ts : List Token) (bs rest : List ℕ) → Leads ts bs rest → Each IsNarrow ts → Prefix ts bs rest
placed_from ts bs rest (here b) n = record { ps = []; found = refl; whole = refl }
placed_from ts bs rest (blank b {bs = c} h l) n = let p = placed_from ts c rest l n in record { ps = p.ps; found = p.found; whole = placed_blank b c h ∙ p.whole }
placed_from ts bs rest (comment b inside {bs = c} h i j l) n =
    let k = opens_at b h in
    let q : is_blank b ≡ false = rw k refl in
    let m : prefix_len is_inside_line (inside ++ c) ≡ length inside = prefix_front is_inside_line inside c i (line_ends c j) in
    let p = placed_from ts c rest l n in
    record { ps = p.ps; found = p.found; whole = placed_comment b (inside ++ c) q k ∙ (ap placed (ap (λ m. drop m (inside ++ c)) m ∙ drop-append_seam inside c) ∙ p.whole) }
placed_from (u ∷ us) bs rest (token t w {bs = c} s a l) n =
    let p = placed_from us c rest l n.1 in
    record {
      ps = record { found = Is t; left = length (w ++ c) } ∷ p.ps;
      found = ap (λ z. Is t ∷ z) p.found;
      whole = token_placed t w c (finds_token t w c s a n.0) ∙ ap (λ z. record { found = Is t; left = length (w ++ c) } ∷ z) p.whole;
    }

finds_both : (ps qs : List Placed) → finds (ps ++ qs) ≡ finds ps ++ finds qs
finds_both [] qs = refl
finds_both (p ∷ ps) qs = ap (λ z. p.found ∷ z) (finds_both ps qs)

-- the scan finds the tokens that the bytes spell
pub finds_from : (ts : List Token) (bs rest : List ℕ) → Leads ts bs rest → Each IsNarrow ts → finds (placed bs) ≡ map Is ts ++ finds (placed rest)
finds_from ts bs rest l n = let p = placed_from ts bs rest l n in ap finds p.whole ∙ (finds_both p.ps (placed rest) ∙ ap (λ z. z ++ finds (placed rest)) p.found)
