-- A text, split where one of its tokens begins.
use Rattle.std.proofs.Common.{◌≡◌, ◌+◌, ◌-◌, ℕ, zero, suc, [], ◌∷◌, ◌++◌, List, true, refl, ap, ◌∙◌, length, take, drop, count_by, nat_eq}
use Rattle.std.specs.List.{suffix_len}
use Rattle.ir_model.specs.declared.token.Pos.{Pos}
use Rattle.ir_model.specs.Plain.{PlainFirmware}
use Rattle.ir_model.specs.Tokens.{Token}
use Rattle.ir_model.specs.Texts.{opens_comment, is_inside_line, IsInsideLine, EndsLine, Leads, here, blank, comment, token, IsText, StartsToken}
use Rattle.ir_reader.specs.Found.{End, Placed, finds}
use Rattle.ir_reader.specs.Scan.{placed}
use Rattle.ir_reader.proofs.Scanning.{placed_blank, placed_nil}
use Rattle.ir_reader.proofs.Whole.{finds_some, token_placed, placed_from}
use Rattle.ir_text_places.specs.Lefts.{left_at}
use Rattle.ir_text_places.specs.Stands.{Stands, tokens_of}

-- ---- the walk over a text

none_left : (k : ℕ) → left_at k [] ≡ 0
none_left zero = refl
none_left (suc k) = refl

-- at the end nothing is left
end_left : (k : ℕ) → left_at k (record { found = End; left = 0 } ∷ []) ≡ 0
end_left zero = refl
end_left (suc k) = none_left k

comment_placed : (b : ℕ) (inside bs : List ℕ) → opens_comment b ≡ true → IsInsideLine inside → EndsLine bs → placed (b ∷ inside ++ bs) ≡ placed bs
comment_placed b inside bs h i j =
    let p = placed_from [] (b ∷ inside ++ bs) bs (comment b inside h i j (here bs)) tt in
    by_front p.ps p.found p.whole
  where
    by_front : (ps : List Placed) → finds ps ≡ [] → placed (b ∷ inside ++ bs) ≡ ps ++ placed bs → placed (b ∷ inside ++ bs) ≡ placed bs
    by_front [] e w = w
    by_front (p ∷ ps) e w = cc

-- ---- the split

pub record Split (k : ℕ) (ts : List Token) (bytes end : List ℕ) : Type 0 where
  pub rest : List ℕ
  pub before : Leads (take k ts) bytes rest
  pub behind : Leads (drop k ts) rest end
  pub begins : StartsToken rest
  pub left : left_at k (placed bytes) ≡ length rest

pub split : (k : ℕ) (ts : List Token) (bytes end : List ℕ) → Leads ts bytes end → StartsToken end → ((j : ℕ) → left_at j (placed end) ≡ length end) → Split k ts bytes end
split zero ts bytes end (here b) s e = record { rest = b; before = here b; behind = here b; begins = s; left = e 0 }
split (suc k) ts bytes end (here b) s e = record { rest = b; before = here b; behind = here b; begins = s; left = e (suc k) }
split k ts bytes end (blank b {bs = c} h l) s e =
    let p = split k ts c end l s e in
    record { rest = p.rest; before = blank b h p.before; behind = p.behind; begins = p.begins; left = ap (left_at k) (placed_blank b c h) ∙ p.left }
split k ts bytes end (comment b inside {bs = c} h i j l) s e =
    let p = split k ts c end l s e in
    record { rest = p.rest; before = comment b inside h i j p.before; behind = p.behind; begins = p.begins; left = ap (left_at k) (comment_placed b inside c h i j) ∙ p.left }
split zero (u ∷ us) bytes end (token t w {bs = c} a i l) s e =
    let f = finds_some t w c a i in
    record { rest = w ++ c; before = here (w ++ c); behind = token t w a i l; begins = f.1.starts; left = ap (left_at zero) (token_placed f.0 w c f.1) }
split (suc k) (u ∷ us) bytes end (token t w {bs = c} a i l) s e =
    let f = finds_some t w c a i in
    let p = split k us c end l s e in
    record { rest = p.rest; before = token t w a i p.before; behind = p.behind; begins = p.begins; left = ap (left_at (suc k)) (token_placed f.0 w c f.1) ∙ p.left }

empty_left : (j : ℕ) → left_at j (placed []) ≡ 0
empty_left j = ap (left_at j) placed_nil ∙ end_left j

-- the place that is found by the bytes left
pub stands : (w : PlainFirmware) (bytes : List ℕ) (k left : ℕ) (pos : Pos) → left ≡ left_at k (placed bytes)
    → pos.line ≡ 1 + count_by (λ b. nat_eq b 10) (take (length bytes - left) bytes) → pos.col ≡ 1 + suffix_len is_inside_line (take (length bytes - left) bytes)
    → IsText w bytes → Stands w bytes k pos
stands w bytes k left pos e line col t =
    let p = split k (tokens_of w) bytes [] t.spelled tt empty_left in
    let q : left ≡ length p.rest = e ∙ p.left in
    record {
      rest = p.rest;
      before = p.before;
      behind = p.behind;
      begins = p.begins;
      place = record {
        line = line ∙ ap (λ n. 1 + count_by (λ b. nat_eq b 10) (take (length bytes - n) bytes)) q;
        col = col ∙ ap (λ n. 1 + suffix_len is_inside_line (take (length bytes - n) bytes)) q;
      };
    }
