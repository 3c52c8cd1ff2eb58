-- What the moves say of whole rows of tokens.
use Rattle.std.proofs.Common.{◌≡◌, ℕ, [], ◌∷◌, ◌++◌, List, Bool, true, false, not, ◌&&◌, refl, sym, ap, ◌∙◌, append_assoc, append-nil, Option, Some, None, subst, map, if◌then◌else◌}
use Rattle.std.proofs.lemmas.Bool.{and_parts, and_from, not-true}
use Rattle.ir_model.specs.declared.token.Excess.{Excess}
use Rattle.ir_model.specs.declared.token.Mark.TheVariants as mark
use Rattle.ir_model.specs.Canonical.{PassesNothing}
use Rattle.base_laws.specs.Lists.{Each}
use Rattle.ir_model.specs.Tokens.{Token, Sign, Marked}
use Rattle.ir_model.specs.Lines.{Line}
use Rattle.ir_model.specs.Texts.{tokens, begins_colon}
use Rattle.ir_reader.specs.Found.{Found, Is, End, Placed, finds, colon_first}
use Rattle.ir_reader.specs.Machine
use Rattle.ir_reader.specs.Machine.{Symbol, Go, Stop, To, Stuck, step, fault, move, is_last, may_end}
use Rattle.ir_reader.proofs.Lang
use Rattle.ir_reader.proofs.Lang.{Langs, none, some, at_bottom, takes_arrow, below, well, inner, inner_top, fits, Follows, next, ends, skips}
use Rattle.ir_reader.proofs.Derive.{follows}
use Rattle.ir_reader.proofs.Ends.{fault_after}
use Rattle.ir_reader.proofs.Values.{stepped}

-- what stands for two rows of symbols
both : (xs ys : List Symbol) (a b : Line) → Langs xs a → Langs ys b → Langs (xs ++ ys) (a ++ b)
both [] ys a b none r = r
both (x ∷ xs) ys a b (some {a = c} {b = d} l m) r = rw append_assoc (some l (both xs ys d b m r))

below_more : (more st : List Symbol) → inner more ≡ true → below st ≡ true → below (more ++ st) ≡ true
below_more [] st h i = i
below_more (s ∷ []) [] h i = (and_parts (not (takes_arrow s)) _ h).0
below_more (s ∷ []) (q ∷ st) h i = and_from (not (takes_arrow s)) _ (and_parts (not (takes_arrow s)) _ h).0 (and_from (not (at_bottom s)) _ (and_parts (not (at_bottom s)) _ (and_parts (not (takes_arrow s)) _ h).1).0 i)
below_more (s ∷ r ∷ more) st h i =
    and_from (not (takes_arrow s)) _ (and_parts (not (takes_arrow s)) _ h).0
    (and_from (not (at_bottom s)) _ (and_parts (not (at_bottom s)) _ (and_parts (not (takes_arrow s)) _ h).1).0 (below_more (r ∷ more) st (and_parts (not (at_bottom s)) _ (and_parts (not (takes_arrow s)) _ h).1).1 i))

pub below_well : (st : List Symbol) → below st ≡ true → well st ≡ true
below_well [] h = refl
below_well (s ∷ []) h = refl
below_well (s ∷ q ∷ st) h = (and_parts (not (takes_arrow s)) _ h).1

well_more : (more st : List Symbol) → inner_top more ≡ true → below st ≡ true → well (more ++ st) ≡ true
well_more [] st h i = below_well st i
well_more (s ∷ []) [] h i = refl
well_more (s ∷ []) (q ∷ st) h i = and_from (not (at_bottom s)) _ (and_parts (not (at_bottom s)) _ h).0 i
well_more (s ∷ r ∷ more) st h i = and_from (not (at_bottom s)) _ (and_parts (not (at_bottom s)) _ h).0 (below_more (r ∷ more) st (and_parts (not (at_bottom s)) _ h).1 i)

pub below_of : (s : Symbol) (st : List Symbol) → well (s ∷ st) ≡ true → below st ≡ true
below_of s [] h = refl
below_of s (q ∷ st) h = (and_parts (not (at_bottom s)) _ h).1

-- the stack stays well formed
pub well_step : (s : Symbol) (st more : List Symbol) → well (s ∷ st) ≡ true → fits s more ≡ true → well (more ++ st) ≡ true
well_step s [] more h f = by_bottom (at_bottom s) f
  where
    by_bottom : (b : Bool) → (if b then well more else inner_top more) ≡ true → well (more ++ []) ≡ true
    by_bottom true f = rw (append-nil more) f
    by_bottom false f = well_more more [] f refl
well_step s (q ∷ st) more h f = by_bottom (at_bottom s) h f
  where
    by_bottom : (b : Bool) → (not b && below (q ∷ st)) ≡ true → (if b then well more else inner_top more) ≡ true → well (more ++ q ∷ st) ≡ true
    by_bottom true h f = cc
    by_bottom false h f = well_more more (q ∷ st) f h

-- what a token makes of what is expected, where it stands for it
pub record TakesToken (st : List Symbol) (m : Marked) (x : Line) : Type 0 where
  pub stack : List Symbol
  pub goes : step st m.token (begins_colon (tokens x)) ≡ To m.excess stack
  pub well : well stack ≡ true
  pub others : Langs stack x

by_move : (s : Symbol) (st more : List Symbol) (t : Token) (c : Bool) (e : Option Excess) → move s t c ≡ Go e more → step (s ∷ st) t c ≡ To e (more ++ st)
by_move s st more t c e h = ap (stepped st t c) h

arrow_stops : (s : Symbol) (c : Bool) → takes_arrow s ≡ false → move s (Sign mark.Arrow) c ≡ Stop
arrow_stops (Machine.Gives d) c h = cc
arrow_stops (Machine.Mk mark.Arrow) c h = cc
arrow_stops (Machine.Mk _) c h = refl
arrow_stops (Machine.AfterRet k n) true h = refl
arrow_stops (Machine.AfterRet k n) false h = refl
arrow_stops _ c h = refl

abbrev is_arrow : Token → Bool
is_arrow (Sign mark.Arrow) = true
is_arrow _ = false

skip_step : (d : ℕ) (st : List Symbol) (t : Token) (c : Bool) → is_arrow t ≡ false → step (Machine.Gives d ∷ st) t c ≡ step st t c
skip_step d st (Sign mark.Arrow) c h = cc
skip_step d st (Sign _) c h = refl
skip_step d st _ c h = refl

-- where a token begins what a symbol stands for
headed : (s : Symbol) (st : List Symbol) → well (s ∷ st) ≡ true → (m : Marked) (x a b : Line) → m ∷ x ≡ a ++ b → Langs st b → Follows s a
    → (TakesToken (s ∷ st) m x → TakesToken (s ∷ st) m x) → ((d : ℕ) → s ≡ Machine.Gives d → m ∷ x ≡ b → TakesToken (s ∷ st) m x) → TakesToken (s ∷ st) m x
headed s st w m x a b e r (next n ms more h f l) k skip =
    let same : n ≡ m = cc in
    let rest : x ≡ ms ++ b = cc in
    let goes : step (s ∷ st) n.token (begins_colon (tokens (ms ++ b))) ≡ To n.excess (more ++ st) = by_move s st more n.token _ n.excess (h b) in
    let P : Marked → Type 0 = λ z. step (s ∷ st) z.token (begins_colon (tokens (ms ++ b))) ≡ To z.excess (more ++ st) in
    let Q : Line → Type 0 = λ z. step (s ∷ st) m.token (begins_colon (tokens z)) ≡ To m.excess (more ++ st) in
    let R : Line → Type 0 = λ z. Langs (more ++ st) z in
    record { stack = more ++ st; goes = subst Q (sym rest) (subst P same goes); well = well_step s st more w f; others = subst R (sym rest) (both more st ms b l r) }
headed s [] w m x a b e r (ends i j) k skip = nothing r e
  where
    nothing : {b : Line} → Langs [] b → m ∷ x ≡ b → TakesToken (s ∷ []) m x
    nothing none e = cc
headed s (q ∷ st) w m x a b e r (ends i j) k skip = let n : not (at_bottom s) ≡ true = (and_parts (not (at_bottom s)) _ w).0 in absurd (contra (at_bottom s) i n)
  where
    contra : (b : Bool) → b ≡ true → not b ≡ true → ⊥
    contra true i n = cc
    contra false i n = cc
headed s st w m x a b e r (skips d i) k skip = skip d i e

not_arrow : (q : Symbol) (st : List Symbol) (t : Token) (c : Bool) (e : Option Excess) (stack : List Symbol) → takes_arrow q ≡ false → step (q ∷ st) t c ≡ To e stack → is_arrow t ≡ false
not_arrow q st (Sign mark.Arrow) c e stack h i = let a : step (q ∷ st) (Sign mark.Arrow) c ≡ Stuck = ap (stepped st (Sign mark.Arrow) c) (arrow_stops q c h) in cc
not_arrow q st (Sign _) c e stack h i = refl
not_arrow q st _ c e stack h i = refl

first_takes : (q : Symbol) (st : List Symbol) → below (q ∷ st) ≡ true → takes_arrow q ≡ false
first_takes q [] h = not-true (takes_arrow q) h
first_takes q (r ∷ st) h = not-true (takes_arrow q) (and_parts (not (takes_arrow q)) _ h).0

passed_over : (d : ℕ) (st : List Symbol) (m : Marked) (x : Line) → below st ≡ true → TakesToken st m x → TakesToken (Machine.Gives d ∷ st) m x
passed_over d [] m x w s = let g = s.goes in cc
passed_over d (q ∷ st) m x w s =
    record { stack = s.stack; goes = skip_step d (q ∷ st) m.token _ (not_arrow q st m.token _ m.excess s.stack (first_takes q st w) s.goes) ∙ s.goes; well = s.well; others = s.others }

pub record Split (s : Symbol) (st : List Symbol) (ms : Line) : Type 0 where
  pub a : Line
  pub b : Line
  pub first : Lang.Lang s a
  pub others : Langs st b
  pub whole : ms ≡ a ++ b

pub split : (s : Symbol) (st : List Symbol) (ms : Line) → Langs (s ∷ st) ms → Split s st ms
split s st ms (some {a = a} {b = b} l r) = record { a = a; b = b; first = l; others = r; whole = refl }

-- a token takes the stack to what may stand behind it
pub steps : (st : List Symbol) → well st ≡ true → (m : Marked) (x : Line) → Langs st (m ∷ x) → TakesToken st m x
steps [] w m x l = elim l [ ]
steps (s ∷ st) w m x l =
    let p = split s st (m ∷ x) l in
    headed s st w m x p.a p.b p.whole p.others (follows s p.a p.first) (λ z. z) (skip p.b p.others (steps st (below_well st (below_of s st w)) m x))
  where
    skip : (b : Line) → Langs st b → (Langs st (m ∷ x) → TakesToken st m x) → (d : ℕ) → s ≡ Machine.Gives d → m ∷ x ≡ b → TakesToken (s ∷ st) m x
    skip b r again d i e =
        let P : Line → Type 0 = λ z. Langs st z in
        let Q : Symbol → Type 0 = λ z. TakesToken (z ∷ st) m x in
        subst Q (sym i) (passed_over d st m x (below_of s st w) (again (subst P (sym e) r)))

-- the tokens of a text, and its end
abbrev pub text_of : Line → List Found
text_of ms = map Is (tokens ms) ++ End ∷ []

pub colon_same : (ps : List Placed) (ms : Line) → finds ps ≡ text_of ms → colon_first ps ≡ begins_colon (tokens ms)
colon_same [] [] e = refl
colon_same [] (m ∷ ms) e = cc
colon_same (p ∷ ps) [] e = let h : p.found ≡ End = cc in rw h refl
colon_same (p ∷ ps) (m ∷ ms) e = let h : p.found ≡ Is m.token = cc in rw h refl

pub fault_token : (st : List Symbol) (p : Placed) (ps : List Placed) (t : Token) → p.found ≡ Is t → fault st (p ∷ ps) ≡ fault_after p ps (step st t (colon_first ps))
fault_token st p ps t h =
    let P : Found → Type 0 = λ f. fault st (record { found = f; left = p.left } ∷ ps) ≡ fault_after p ps (step st t (colon_first ps)) in
    subst P (sym h) refl

pub kept : (p : Placed) (ps : List Placed) (e : Option Excess) (stack : List Symbol) → fault_after p ps (To e stack) ≡ None → (e ≡ None) × (fault stack ps ≡ None)
kept p ps None stack h = (refl, h)
kept p ps (Some x) stack h = cc

-- Where what may stand has no fault for the moves, it passes no limit.
pub sound_from : (ps : List Placed) (st : List Symbol) → well st ≡ true → (ms : Line) → Langs st ms → finds ps ≡ text_of ms → fault st ps ≡ None → Each PassesNothing ms
sound_from ps st w [] l same e = tt
sound_from [] st w (m ∷ ms) l same e = cc
sound_from (p ∷ ps) st w (m ∷ ms) l same e =
    let s = steps st w m ms l in
    let h : p.found ≡ Is m.token = cc in
    let rest : finds ps ≡ text_of ms = cc in
    let c = colon_same ps ms rest in
    let goes : fault st (p ∷ ps) ≡ fault_after p ps (To m.excess s.stack) = fault_token st p ps m.token h ∙ (rw c (ap (fault_after p ps) s.goes)) in
    let k = kept p ps m.excess s.stack (sym goes ∙ e) in
    (k.0, sound_from ps s.stack s.well ms s.others rest k.1)

last_ends : (s : Symbol) (st : List Symbol) → is_last s ≡ true → may_end (s ∷ st) ≡ true
last_ends (Machine.Gives d) st h = cc
last_ends (Machine.Files k n) st h = refl
last_ends _ st h = h

nil_first : (a b : Line) → [] ≡ a ++ b → (a ≡ []) × (b ≡ [])
nil_first [] b e = (refl, sym e)
nil_first (m ∷ a) b e = cc

pub ended : (st : List Symbol) → Langs st [] → may_end st ≡ true
ended [] l = refl
ended (s ∷ st) l =
    let p = split s st [] l in
    let n = nil_first p.a p.b p.whole in
    let P : Line → Type 0 = λ z. Lang.Lang s z in
    let Q : Line → Type 0 = λ z. Langs st z in
    by_follows (follows s [] (subst P n.0 p.first)) (ended st (subst Q n.1 p.others))
  where
    by_follows : Follows s [] → may_end st ≡ true → may_end (s ∷ st) ≡ true
    by_follows (ends i j) h = last_ends s st j
    by_follows (skips d i) h = rw i h

-- and the other way round
pub none_from : (ps : List Placed) (st : List Symbol) → well st ≡ true → (ms : Line) → Langs st ms → finds ps ≡ text_of ms → Each PassesNothing ms → fault st ps ≡ None
none_from [] st w [] l same h = refl
none_from (p ∷ ps) st w [] l same h =
    let i : p.found ≡ End = cc in
    let P : Found → Type 0 = λ f. fault st (record { found = f; left = p.left } ∷ ps) ≡ None in
    subst P (sym i) (rw (ended st l) refl)
none_from [] st w (m ∷ ms) l same h = refl
none_from (p ∷ ps) st w (m ∷ ms) l same h =
    let s = steps st w m ms l in
    let i : p.found ≡ Is m.token = cc in
    let rest : finds ps ≡ text_of ms = cc in
    let c = colon_same ps ms rest in
    let goes : fault st (p ∷ ps) ≡ fault_after p ps (To m.excess s.stack) = fault_token st p ps m.token i ∙ (rw c (ap (fault_after p ps) s.goes)) in
    goes ∙ (rw (h.0) (none_from ps s.stack s.well ms s.others rest h.1))
