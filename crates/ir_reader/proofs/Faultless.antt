-- Bytes at which the moves do not stop are a text.
use Rattle.std.proofs.Common.{◌≡◌, ℕ, ◌+◌, ◌-◌, [], ◌∷◌, ◌++◌, List, Bool, true, false, refl, sym, ap, ◌∙◌, subst, Option, Some, None, zero, suc, length, take, count_by, nat_eq, if◌then◌else◌, IsUtf8, ◌⊎◌, inl, inr}
use Rattle.std.specs.List.{prefix_len, suffix_len}
use Rattle.ir_model.specs.declared.token.Excess.{Excess}
use Rattle.ir_model.specs.declared.token.Keyword.TheVariants as key
use Rattle.ir_model.specs.declared.token.Mark.TheVariants as mark
use Rattle.ir_model.specs.Plain.{PlainFirmware}
use Rattle.ir_model.specs.Tokens.{Token, Name, Key, Sign}
use Rattle.ir_model.specs.Lines.{Line, marked}
use Rattle.ir_model.specs.Texts.{IsText, is_blank, opens_comment, is_inside_line}
use Rattle.ir_model.specs.Types.{nothing}
use Rattle.ir_reader.specs.declared.error.Fault.{Fault}
use Rattle.ir_reader.specs.declared.error.FaultKind.{FaultKind}
use Rattle.ir_reader.specs.declared.error.FaultKind.TheVariants as kind
use Rattle.ir_reader.specs.Found.{Found, Is, Bad, End, Placed, finds, colon_first}
use Rattle.ir_reader.specs.Laws.{HasFault, TextsOrFaults}
use Rattle.ir_reader.specs.Machine
use Rattle.ir_reader.specs.Machine.{Symbol, Move, Go, Stop, Skip, Progress, To, Stuck, step, move, fault, may_end, Structs}
use Rattle.ir_reader.specs.Scan.{scan, placed, first_lexeme}
use Rattle.ir_reader.proofs.Allow.{only, stands}
use Rattle.ir_reader.proofs.Ends.{fault_after}
use Rattle.ir_reader.proofs.Firsts.{made, syntax_at, passed_at}
use Rattle.ir_reader.proofs.Lang
use Rattle.ir_reader.proofs.Lang.{Langs, none, some, well, fits}
use Rattle.ir_reader.proofs.Pieces.{no_end}
use Rattle.ir_reader.proofs.Texts.{text_made}
use Rattle.ir_reader.proofs.Theorem.{text_of, well_step, below_well, below_of}
use Rattle.ir_reader.proofs.Values.{stepped}

-- what is expected stays well formed

abbrev fits_move : Symbol → Move → Bool
fits_move s (Go e more) = fits s more
fits_move s Stop = true
fits_move s Skip = true

mark_fits : (s : Symbol) (b : Bool) → fits s [] ≡ true → fits_move s (if b then Go None [] else Stop) ≡ true
mark_fits s true h = h
mark_fits s false h = refl

move_fits : (s : Symbol) (t : Token) (c : Bool) → fits_move s (move s t c) ≡ true
move_fits (Machine.Mk m) (Sign n) c = mark_fits (Machine.Mk m) (nat_eq (Machine.mark_number m) (Machine.mark_number n)) refl
move_fits (Machine.AfterRet k n) (Name w) true = refl
move_fits (Machine.AfterRet k n) (Name w) false = refl
move_fits (Machine.AfterRet k n) (Sign mark.CloseBrace) true = refl
move_fits (Machine.AfterRet k n) (Sign mark.CloseBrace) false = refl
move_fits (Machine.AfterRet k n) (Sign _) true = refl
move_fits (Machine.AfterRet k n) (Sign _) false = refl
move_fits (Machine.AfterRet k n) _ true = refl
move_fits (Machine.AfterRet k n) _ false = refl
move_fits _ (Key key.Struct) c = refl
move_fits _ (Key _) c = refl
move_fits _ (Sign mark.Open) c = refl
move_fits _ (Sign _) c = refl
move_fits _ _ c = refl

step_well : (st : List Symbol) (t : Token) (c : Bool) (e : Option Excess) (stack : List Symbol) → well st ≡ true → step st t c ≡ To e stack → well stack ≡ true
step_well [] t c e stack w h = cc
step_well (s ∷ st) t c e stack w h = by_move (move s t c) (move_fits s t c) h (step_well st t c e stack (below_well st (below_of s st w)))
  where
    by_move : (m : Move) → fits_move s m ≡ true → stepped st t c m ≡ To e stack → (step st t c ≡ To e stack → well stack ≡ true) → well stack ≡ true
    by_move (Go f more) g i again =
        let j : more ++ st ≡ stack = cc in
        subst (λ (z : List Symbol). well z ≡ true) j (well_step s st more w g)
    by_move Stop g i again = cc
    by_move Skip g i again = again i

-- what may end a text may stand for nothing
ended_stands : (st : List Symbol) → well st ≡ true → may_end st ≡ true → Langs st []
ended_stands [] w h = none
ended_stands (Machine.Gives d ∷ st) w h = some (Lang.gives_is d nothing) (ended_stands st (below_well st (below_of (Machine.Gives d) st w)) h)
ended_stands (Machine.Files k n ∷ []) w h = some (Lang.files_is k n [] tt) none
ended_stands (Machine.Globals k ∷ []) w h = some (Lang.globals_is k [] [] tt) none
ended_stands (Machine.Init k ∷ []) w h = some (Lang.init_is k [] [] [] tt) none
ended_stands (Machine.Periphs k ∷ []) w h = some (Lang.periphs_is k [] [] [] tt) none
ended_stands (Machine.Structs k ∷ []) w h = some (Lang.structs_is k [] [] [] [] tt tt) none
ended_stands (s ∷ []) w h = cc
ended_stands (s ∷ q ∷ st) w h = cc

-- the end of the text is found once, as the last
abbrev EndsOnce : List Placed → Type 0
EndsOnce [] = ⊥
EndsOnce (p ∷ []) = p.found ≡ End
EndsOnce (p ∷ q ∷ ps) = (p.found ≡ End → ⊥) × EndsOnce (q ∷ ps)

more_ends : (p : Placed) (ps : List Placed) → (p.found ≡ End → ⊥) → EndsOnce ps → EndsOnce (p ∷ ps)
more_ends p [] n h = absurd h
more_ends p (q ∷ ps) n h = (n, h)

scan_ends : (bs : List ℕ) (k : ℕ) → EndsOnce (scan k bs)
scan_ends [] k = refl
scan_ends (b ∷ bs) (suc k) = scan_ends bs k
scan_ends (b ∷ bs) zero =
    by_blank (is_blank b) (scan_ends bs 0)
    (by_comment (opens_comment b) (scan_ends bs (prefix_len is_inside_line bs)) (more_ends (record { found = (first_lexeme b bs).found; left = length (b ∷ bs) }) _ (no_end b bs) (scan_ends bs ((first_lexeme b bs).len - 1))))
  where
    by_comment : (u : Bool) → EndsOnce (scan (prefix_len is_inside_line bs) bs) → EndsOnce (record { found = (first_lexeme b bs).found; left = length (b ∷ bs) } ∷ scan ((first_lexeme b bs).len - 1) bs)
        → EndsOnce (if u then scan (prefix_len is_inside_line bs) bs else record { found = (first_lexeme b bs).found; left = length (b ∷ bs) } ∷ scan ((first_lexeme b bs).len - 1) bs)
    by_comment true x y = x
    by_comment false x y = y

    by_blank : (u : Bool) → EndsOnce (scan 0 bs)
        → EndsOnce (if opens_comment b then scan (prefix_len is_inside_line bs) bs else record { found = (first_lexeme b bs).found; left = length (b ∷ bs) } ∷ scan ((first_lexeme b bs).len - 1) bs)
        → EndsOnce (if u then scan 0 bs else (if opens_comment b then scan (prefix_len is_inside_line bs) bs else record { found = (first_lexeme b bs).found; left = length (b ∷ bs) } ∷ scan ((first_lexeme b bs).len - 1) bs))
    by_blank true x y = x
    by_blank false x y = y

placed_ends : (bs : List ℕ) → EndsOnce (placed bs)
unfolding placed
placed_ends bs = scan_ends bs 0

-- tokens that the moves take to the end
record Passed (st : List Symbol) (ps : List Placed) : Type 0 where
  line : Line
  found : finds ps ≡ text_of line
  stands : Langs st line

passed : (ps : List Placed) (st : List Symbol) → EndsOnce ps → well st ≡ true → fault st ps ≡ None → Passed st ps
passed [] st e w f = absurd e
passed (p ∷ []) st e w f = by_end (may_end st) refl (subst (λ (z : Found). fault st (record { found = z; left = p.left } ∷ []) ≡ None) e f)
  where
    by_end : (b : Bool) → may_end st ≡ b → ◌≡◌ {A = Option Fault} (if b then None else Some (Machine.syntax_at (record { found = End; left = p.left }))) None → Passed st (p ∷ [])
    by_end true i g = record { line = []; found = ap (λ z. z ∷ []) e; stands = ended_stands st w i }
    by_end false i g = cc
passed (p ∷ q ∷ ps) st e w f = by_found p.found refl f (λ stack v g. passed (q ∷ ps) stack e.1 v g)
  where
    by_step : (t : Token) → p.found ≡ Is t → (s : Progress) → step st t (colon_first (q ∷ ps)) ≡ s → fault_after (record { found = Is t; left = p.left }) (q ∷ ps) s ≡ None → ((stack : List Symbol) → well stack ≡ true → fault stack (q ∷ ps) ≡ None → Passed stack (q ∷ ps)) → Passed st (p ∷ q ∷ ps)
    by_step t h (To None stack) i g again =
        let r = again stack (step_well st t (colon_first (q ∷ ps)) None stack w i) g in
        record {
          line = marked t None ∷ r.line;
          found = ap (λ z. z ∷ finds (q ∷ ps)) h ∙ ap (λ z. Is t ∷ z) r.found;
          stands = stands st t (colon_first (q ∷ ps)) None stack i r.line r.stands;
        }
    by_step t h (To (Some x) stack) i g again = cc
    by_step t h Stuck i g again = cc

    by_found : (g : Found) → p.found ≡ g → fault st (record { found = g; left = p.left } ∷ q ∷ ps) ≡ None → ((stack : List Symbol) → well stack ≡ true → fault stack (q ∷ ps) ≡ None → Passed stack (q ∷ ps)) → Passed st (p ∷ q ∷ ps)
    by_found (Is t) h g again = by_step t h (step st t (colon_first (q ∷ ps))) refl g again
    by_found Bad h g again = cc
    by_found End h g again = absurd (e.0 h)

faultless : (bytes : List ℕ) → IsUtf8 bytes → fault (Structs 0 ∷ []) (placed bytes) ≡ None → (w : PlainFirmware) × IsText w bytes
faultless bytes u e =
    let p = passed (placed bytes) (Structs 0 ∷ []) (placed_ends bytes) refl e in
    let m = made p.line (only (Structs 0) p.line p.stands) in
    (m.firmware, text_made bytes m.firmware u m.fields m.blocks (p.found ∙ ap text_of (sym m.whole)) e)

faulty : (bytes : List ℕ) (f : Fault) (k : FaultKind) → IsUtf8 bytes → fault (Structs 0 ∷ []) (placed bytes) ≡ Some f → f.kind ≡ k → HasFault bytes
faulty bytes f kind.Syntax u e k =
    inl (
      record { line = 1 + count_by (λ b. nat_eq b 10) (take (length bytes - f.left) bytes); col = 1 + suffix_len is_inside_line (take (length bytes - f.left) bytes) },
      syntax_at bytes f _ u e k (record { line = refl; col = refl }),
    )
faulty bytes f (kind.Exceeds x) u e k =
    inr (
      x,
      record { line = 1 + count_by (λ b. nat_eq b 10) (take (length bytes - f.left) bytes); col = 1 + suffix_len is_inside_line (take (length bytes - f.left) bytes) },
      passed_at bytes f _ x u e k (record { line = refl; col = refl }),
    )

pub texts_or_faults : TextsOrFaults
texts_or_faults bytes u = by_fault (fault (Structs 0 ∷ []) (placed bytes)) refl
  where
    by_fault : (o : Option Fault) → fault (Structs 0 ∷ []) (placed bytes) ≡ o → ((w : PlainFirmware) × IsText w bytes) ⊎ HasFault bytes
    by_fault None e = inl (faultless bytes u e)
    by_fault (Some f) e = inr (faulty bytes f f.kind u e refl)
