-- A text without a fault is one of the table's grammar.
use Rattle.std.proofs.Common.{subst, ◌≡◌, ℕ, ◌-◌, zero, suc, [], ◌∷◌, ◌++◌, List, Bool, true, false, refl, sym, ap, ◌∙◌, Option, Some, None, is_some, nat_eq, if◌then◌else◌}
use Rattle.std.specs.List.{prefix_len}
use Rattle.base_names.specs.Names.{begins_word}
use Rattle.base_numerals.specs.declared.Numeral.{Numeral}
use Rattle.base_numerals.specs.declared.Numeral.TheVariants as numerals
use Rattle.ir_model.specs.declared.token.Mark.{Mark}
use Rattle.ir_model.specs.declared.token.Mark.TheVariants as mark
use Rattle.ir_model.specs.Texts.{is_blank, opens_comment, is_inside_line}
use Rattle.ir_model.specs.Tokens as model
use Rattle.ir_reader.specs.declared.error.Fault.{Fault}
use Rattle.ir_reader.specs.Found.{Found, Is, Bad, End, Placed, colon_first}
use Rattle.ir_reader.specs.Machine
use Rattle.ir_reader.specs.Machine.{Progress, To, Stuck, step, fault, may_end}
use Rattle.ir_reader.specs.Scan.{scan, placed, first_lexeme, Lexeme, lexeme, number_from, mark_found, dash, is_digit}
use Rattle.ir_reader.proofs.Texts.{no_fault}
use Rattle.ir_reader.proofs.Ends.{fault_after}
use Rattle.ir_expected_tokens.specs.declared.grammar.Class.TheVariants as class
use Rattle.ir_expected_tokens.specs.declared.grammar.Symbol.{Symbol}
use Rattle.ir_expected_tokens.specs.Expected.{taken}
use Rattle.ir_expected_tokens.specs.Laws.{closed, EndsMayStand, TextsHaveNoLines}
use Rattle.ir_expected_tokens.specs.Stuck.{token_class, is_end, stuck}
use Rattle.ir_expected_tokens.specs.SyntaxLines.{found_line, expected_line, last_bytes}
use Rattle.ir_expected_tokens.specs.Uncounted.{all_uncounted}
use Rattle.ir_expected_tokens.proofs.Agreement.{ComesTo, step_follows}
use Rattle.ir_expected_tokens.proofs.Steps.{going}
use Rattle.ir_expected_tokens.proofs.Closed.{token_goes_on, closed_after, gives_closed}
use Rattle.ir_expected_tokens.proofs.Fitting.{fits, all_well}
use Rattle.ir_expected_tokens.proofs.Moves.{end_stops}

-- the end is the last that is found in a text
abbrev EndsOnce : List Placed → Type 0
EndsOnce [] = Unit {0}
EndsOnce (p ∷ ps) = (is_end p.found ≡ true → ps ≡ []) × EndsOnce ps

-- a token, or bytes of none
record GoesOn (f : Found) : Type 0 where
  at : is_end f ≡ false

record LexemeGoesOn (l : Lexeme) : Type 0 where
  at : is_end l.found ≡ false

mark_by : (t : Bool) (m : Mark) (g : Found) → GoesOn g → GoesOn (if t then Is (model.Sign m) else g)
mark_by true m g h = record { at = refl }
mark_by false m g h = h

lexeme_by : (t : Bool) (l m : Lexeme) → LexemeGoesOn l → LexemeGoesOn m → LexemeGoesOn (if t then l else m)
lexeme_by true l m h i = h
lexeme_by false l m h i = i

token_found : (t : model.Token) → GoesOn (Is t)
token_found t = record { at = refl }

bad_found : GoesOn Bad
bad_found = record { at = refl }

number_found : (n : Numeral) → GoesOn (number_from n)
number_found numerals.Malformed = record { at = refl }
number_found numerals.TooWide = record { at = refl }
number_found (numerals.Value n) = record { at = refl }

mark_goes_on : (b : ℕ) → GoesOn (mark_found b)
mark_goes_on b =
    mark_by (nat_eq b 123) mark.OpenBrace _ (mark_by (nat_eq b 125) mark.CloseBrace _ (mark_by (nat_eq b 40) mark.Open _ (mark_by (nat_eq b 41) mark.Close _ (mark_by (nat_eq b 91) mark.OpenSquare _ (mark_by (nat_eq b 93) mark.CloseSquare _ (mark_by (nat_eq b 44) mark.Comma _ (mark_by (nat_eq b 58) mark.Colon _ (mark_by (nat_eq b 61) mark.Equal _ (mark_by (nat_eq b 42) mark.Star _ bad_found)))))))))

as_lexeme : (f : Found) (n : ℕ) → GoesOn f → LexemeGoesOn (lexeme f n)
as_lexeme f n h = record { at = h.at }

dash_goes_on : (bs : List ℕ) → LexemeGoesOn (dash bs)
dash_goes_on [] = as_lexeme _ _ bad_found
dash_goes_on (c ∷ cs) = lexeme_by (nat_eq c 62) _ _ (as_lexeme _ _ (token_found _)) (as_lexeme _ _ (number_found _))

lexeme_found : (b : ℕ) (bs : List ℕ) → LexemeGoesOn (first_lexeme b bs)
lexeme_found b bs = lexeme_by (begins_word b) _ _ (as_lexeme _ _ (token_found _)) (lexeme_by (is_digit b) _ _ (as_lexeme _ _ (number_found _)) (lexeme_by (nat_eq b 45) _ _ (dash_goes_on bs) (as_lexeme _ _ (mark_goes_on b))))

lexeme_goes_on : (b : ℕ) (bs : List ℕ) → is_end (first_lexeme b bs).found ≡ false
lexeme_goes_on b bs = (lexeme_found b bs).at

placed_by : (t : Bool) (ps qs : List Placed) → EndsOnce ps → EndsOnce qs → EndsOnce (if t then ps else qs)
placed_by true ps qs h i = h
placed_by false ps qs h i = i

ends_once : (bs : List ℕ) (k : ℕ) → EndsOnce (scan k bs)
ends_once [] k = (λ h. refl, tt)
ends_once (b ∷ bs) (suc k) = ends_once bs k
ends_once (b ∷ bs) zero =
    placed_by (is_blank b) _ _ (ends_once bs 0)
    (placed_by (opens_comment b) _ _ (ends_once bs (prefix_len is_inside_line bs)) (λ h. not_both (is_end (first_lexeme b bs).found) (lexeme_goes_on b bs) h, ends_once bs ((first_lexeme b bs).len - 1)))
  where
    not_both : (t : Bool) → t ≡ false → t ≡ true → scan ((first_lexeme b bs).len - 1) bs ≡ []
    not_both true h i = cc
    not_both false h i = cc

-- where a text may end in the machine, it may by the table
end_taken : (ss : List Machine.Symbol) (c : Bool) → may_end ss ≡ true → closed (all_uncounted ss) ≡ true → is_some (taken (all_uncounted ss) class.End c) ≡ true
end_taken [] c m w = cc
end_taken (Machine.Gives d ∷ ss) c m w = end_taken ss c m (gives_closed (all_uncounted ss) w)
end_taken (Machine.Mk i ∷ ss) c m w = cc
end_taken (Machine.Kw word ∷ ss) c m w = cc
end_taken (Machine.Num ∷ ss) c m w = cc
end_taken (Machine.Len ∷ ss) c m w = cc
end_taken (Machine.Word x ∷ ss) c m w = cc
end_taken (Machine.Ty x d ∷ ss) c m w = cc
end_taken (Machine.Row d ∷ ss) c m w = cc
end_taken (Machine.MoreRow d n ∷ ss) c m w = cc
end_taken (Machine.MoreFields n ∷ ss) c m w = cc
end_taken (Machine.Params ∷ ss) c m w = cc
end_taken (Machine.MoreParams n ∷ ss) c m w = cc
end_taken (Machine.Locals n p ∷ ss) c m w = cc
end_taken (Machine.Regs n ∷ ss) c m w = cc
end_taken (Machine.First b n ∷ ss) c m w = cc
end_taken (Machine.Insts b n ∷ ss) c m w = cc
end_taken (Machine.AfterRet b n ∷ ss) c m w = cc
end_taken (Machine.Blocks b n ∷ ss) c m w = cc
end_taken (Machine.Value ∷ ss) c m w = cc
end_taken (Machine.Args ∷ ss) c m w = cc
end_taken (Machine.MoreArgs n ∷ ss) c m w = cc
end_taken (Machine.Funcs f n ∷ ss) c m w = cc
end_taken (Machine.Files f n ∷ ss) c m w = refl
end_taken (Machine.Globals n ∷ ss) c m w = refl
end_taken (Machine.Init n ∷ ss) c m w = refl
end_taken (Machine.CellAt n ∷ ss) c m w = cc
end_taken (Machine.MoreCells n ∷ ss) c m w = cc
end_taken (Machine.Periphs n ∷ ss) c m w = refl
end_taken (Machine.Structs n ∷ ss) c m w = refl

by_step : (ss : List Machine.Symbol) (p : Placed) (ps : List Placed) (t : model.Token) (c : Bool) → closed (all_uncounted ss) ≡ true
    → ((vs : List Machine.Symbol) → closed (all_uncounted vs) ≡ true → fault vs ps ≡ None → stuck (all_uncounted vs) ps ≡ None)
    → (s : Progress) (all : Option (List Symbol)) → taken (all_uncounted ss) (token_class t) c ≡ all → ComesTo s all → fault_after p ps s ≡ None → going (all_uncounted ss) p ps all ≡ None
by_step ss p ps t c w again (To None more) (Some us) e i f =
    let same : us ≡ all_uncounted more = cc in
    let v : closed (all_uncounted more) ≡ true = subst (λ z. closed z ≡ true) same (closed_after (all_uncounted ss) (token_class t) c us (token_goes_on t) w e) in
    rw same (again more v f)
by_step ss p ps t c w again (To None more) None e i f = cc
by_step ss p ps t c w again (To (Some x) more) all e i f = cc
by_step ss p ps t c w again Stuck all e i f = cc

by_end : (ss : List Machine.Symbol) (p : Placed) (ps : List Placed) (c : Bool) → closed (all_uncounted ss) ≡ true → ps ≡ [] → (u : Bool) → may_end ss ≡ u
    → ◌≡◌ {A = Option Fault} (if u then None else Some (Machine.syntax_at p)) None → (all : Option (List Symbol)) → taken (all_uncounted ss) class.End c ≡ all → going (all_uncounted ss) p ps all ≡ None
by_end ss p ps c w q false m f all e = cc
by_end ss p ps c w q true m f None e =
    let k = end_taken ss c m w in
    let j : is_some (taken (all_uncounted ss) class.End c) ≡ false = ap is_some e in
    let n : true ≡ false = sym k ∙ j in
    cc
by_end ss p ps c w q true m f (Some us) e = ap (stuck us) q

by_found : (ss : List Machine.Symbol) (left : ℕ) (ps : List Placed) → closed (all_uncounted ss) ≡ true → ((vs : List Machine.Symbol) → closed (all_uncounted vs) ≡ true → fault vs ps ≡ None → stuck (all_uncounted vs) ps ≡ None)
    → (g : Found) → (is_end g ≡ true → ps ≡ []) → fault ss (record { found = g; left = left } ∷ ps) ≡ None → stuck (all_uncounted ss) (record { found = g; left = left } ∷ ps) ≡ None
by_found ss left ps w again (Is t) q f =
    by_step ss (record { found = Is t; left = left }) ps t (colon_first ps) w again (step ss t (colon_first ps)) (taken (all_uncounted ss) (token_class t) (colon_first ps)) refl (step_follows ss t (colon_first ps)) f
by_found ss left ps w again Bad q f = cc
by_found ss left ps w again End q f =
    by_end ss (record { found = End; left = left }) ps (colon_first ps) w (q refl) (may_end ss) refl f (taken (all_uncounted ss) class.End (colon_first ps)) refl

none_stuck : (ps : List Placed) (ss : List Machine.Symbol) → EndsOnce ps → closed (all_uncounted ss) ≡ true → fault ss ps ≡ None → stuck (all_uncounted ss) ps ≡ None
none_stuck [] ss o w f = refl
none_stuck (p ∷ ps) ss o w f = by_found ss p.left ps w (λ vs v g. none_stuck ps vs o.1 v g) p.found o.0 f

placed_once : (bs : List ℕ) → EndsOnce (placed bs)
unfolding placed
placed_once bs = ends_once bs 0

abbrev lines_told : List ℕ → Option (List Symbol × Placed) → List ℕ
lines_told text found = elim found [ None ↦ [] | Some s ↦ found_line (last_bytes text s.1.left) s.1.found ++ expected_line s.0 ]

pub texts_have_no_lines : TextsHaveNoLines
texts_have_no_lines w text t = ap (lines_told text) (none_stuck (placed text) (Machine.Structs 0 ∷ []) (placed_once text) refl (no_fault text w t))

-- the end is expected where the machine lets a text end
pub ends_may_stand : EndsMayStand
ends_may_stand ss w = sym (fits (all_uncounted ss) class.End false (all_well ss)) ∙ by_end_of (may_end ss) refl
  where
    by_end_of : (u : Bool) → may_end ss ≡ u → is_some (taken (all_uncounted ss) class.End false) ≡ may_end ss
    by_end_of true m = end_taken ss false m w ∙ sym m
    by_end_of false m = ap is_some (end_stops ss false m) ∙ sym m
