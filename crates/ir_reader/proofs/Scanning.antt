-- What the scan of a text says at its front.
use Rattle.std.proofs.Common.{◌≡◌, ◌<◌, ℕ, ◌+◌, ◌-◌, [], ◌∷◌, List, Bool, true, false, refl, sym, ap, ◌∙◌, length, take, drop, suc, zero, arith}
use Rattle.std.proofs.lemmas.Grind.{common_steps}
use Rattle.std.specs.List.{prefix_len, take_while, list_all}
use Rattle.std.proofs.lemmas.List.Sums.{take_while-cons}
use Rattle.std.proofs.lemmas.Bool.{eqb-true}
use Rattle.base_names.specs.Names.{begins_word, continues_word, is_word}
use Rattle.ir_model.specs.Texts.{is_blank, is_inside_line, opens_comment, StartsToken}
use Rattle.ir_model.specs.Tokens as model
use Rattle.ir_reader.specs.declared.token.Token.{Token}
use Rattle.ir_reader.specs.declared.token.Token.TheVariants as code
use Rattle.ir_reader.specs.Found.{Is, End, found_of}
use Rattle.ir_reader.specs.Words.{word_token}
use Rattle.ir_reader.specs.Scan.{scan, placed, later, BeginsWith, GoesOn, IsProper, first_lexeme, lexeme_of, is_digit}
use Rattle.ir_reader.proofs.Tables.{name_free}

pub scan_drop : (k : ℕ) (bs : List ℕ) → scan k bs ≡ placed (drop k bs)
unfolding placed
scan_drop zero bs = refl
scan_drop (suc k) [] = refl
scan_drop (suc k) (b ∷ bs) = scan_drop k bs

pub placed_blank : (b : ℕ) (bs : List ℕ) → is_blank b ≡ true → placed (b ∷ bs) ≡ placed bs
unfolding placed
placed_blank b bs h = rw h refl

pub placed_comment : (b : ℕ) (bs : List ℕ) → is_blank b ≡ false → b ≡ 35 → placed (b ∷ bs) ≡ placed (drop (prefix_len is_inside_line bs) bs)
unfolding placed
placed_comment b bs h e = rw (h, e) (scan_drop _ bs)

pub placed_nil : placed [] ≡ record { found = End; left = 0 } ∷ []
unfolding placed
placed_nil = refl

drop_one : (n : ℕ) (b : ℕ) (bs : List ℕ) → 0 < n → drop (n - 1) bs ≡ drop n (b ∷ bs)
drop_one zero b bs h = absurd (omega arith)
drop_one (suc n) b bs h = let e : suc n - 1 ≡ n = omega arith in rw e refl

pub placed_token : (bs : List ℕ) → StartsToken bs → 0 < (lexeme_of bs).len
    → placed bs ≡ record { found = (lexeme_of bs).found; left = length bs } ∷ placed (drop (lexeme_of bs).len bs)
unfolding placed
placed_token [] s h = absurd (omega arith)
placed_token (b ∷ bs) s h = rw (s.0, s.1) (ap (λ z. record { found = (first_lexeme b bs).found; left = length (b ∷ bs) } ∷ z) (scan_drop _ bs ∙ ap placed (drop_one _ b bs h)))

pub placed_empty : (bs : List ℕ) → length bs ≡ 0 → placed bs ≡ record { found = End; left = 0 } ∷ []
placed_empty [] h = placed_nil
placed_empty (b ∷ bs) h = absurd (omega arith)

later_goes : (t : Token) (rest : List ℕ) → GoesOn t → later t rest ≡ placed rest
later_goes code.End rest h = absurd h
later_goes (code.Name w) rest h = refl
later_goes _ rest h = refl

pub begins_from : (text bs rest : List ℕ) (t : Token) (len : ℕ) → placed bs ≡ placed text → StartsToken bs → found_of t ≡ (lexeme_of bs).found
    → len ≡ (lexeme_of bs).len → 0 < len → rest ≡ drop len bs → GoesOn t → BeginsWith text t (length bs) rest
begins_from text bs rest t len same s e n some r g =
    let p = placed_token bs s (omega (arith, n)) in
    sym same ∙ (p ∙ rw (← e, ← n, ← r, later_goes t rest g) refl)

pub take_run : (bs : List ℕ) → take (prefix_len continues_word bs) bs ≡ take_while continues_word bs
take_run bs = grind (arith, common_steps)

pub take_dash : (text bs : List ℕ) (n : ℕ) → text ≡ 45 ∷ bs → n ≡ 1 + prefix_len continues_word bs → take n text ≡ 45 ∷ take_while continues_word bs
take_dash text bs n e h =
    let k : n ≡ suc (prefix_len continues_word bs) = omega arith in
    rw (e, k) (ap (λ z. 45 ∷ z) (take_run bs))

-- a run of bytes that words may have
pub run_continues : (bs : List ℕ) → list_all continues_word (take_while continues_word bs) ≡ true
run_continues [] = refl
run_continues (b ∷ bs) = by_test (continues_word b) refl (run_continues bs)
  where
    by_test : (t : Bool) → continues_word b ≡ t → list_all continues_word (take_while continues_word bs) ≡ true → list_all continues_word (take_while continues_word (b ∷ bs)) ≡ true
    by_test true e h = rw (take_while-cons continues_word b bs, e) (rw (e, h) refl)
    by_test false e h = rw (take_while-cons continues_word b bs, e) refl

pub begins_continues : (b : ℕ) → begins_word b ≡ true → continues_word b ≡ true
begins_continues b e = rw e refl

pub digit_continues : (b : ℕ) → is_digit b ≡ true → continues_word b ≡ true
digit_continues b h = by_test (begins_word b) refl
  where
    by_test : (t : Bool) → begins_word b ≡ t → continues_word b ≡ true
    by_test true e = rw e refl
    by_test false e = rw (e, h) refl

pub opens_at : (b : ℕ) → opens_comment b ≡ true → b ≡ 35
opens_at b h = eqb-true b 35 h

pub run_is_word : (b : ℕ) (bs : List ℕ) → begins_word b ≡ true → is_word (take_while continues_word (b ∷ bs)) ≡ true
run_is_word b bs e = rw (take_while-cons continues_word b bs, begins_continues b e) (rw (e, run_continues bs) refl)

pub word_run : (text : List ℕ) (b : ℕ) (bs : List ℕ) (n : ℕ) → text ≡ b ∷ bs → begins_word b ≡ true → n ≡ prefix_len continues_word text → is_word (take n text) ≡ true
word_run text b bs n e h i = rw (i, e) (run_is_word b bs h)

pub prefix_len_some : (text : List ℕ) (b : ℕ) (bs : List ℕ) → text ≡ b ∷ bs → continues_word b ≡ true → 0 < prefix_len continues_word text
prefix_len_some text b bs e h = rw (e, h) (omega arith)

pub goes_on_word : (t : Token) (m : model.Token) → found_of t ≡ Is m → GoesOn t
goes_on_word (code.Name w) m h = tt
goes_on_word code.End m h = cc
goes_on_word code.Bad m h = cc
goes_on_word _ m h = tt

pub proper_word : (t : Token) (w : List ℕ) → is_word w ≡ true → found_of t ≡ Is (word_token w) → IsProper t
proper_word (code.Name v) w i h =
    let e : word_token w ≡ model.Name v.now = cc in
    let f = name_free w v.now e in
    (rw f.0 i, rw f.0 f.1)
proper_word code.End w i h = tt
proper_word _ w i h = tt
