-- The words of a text that is read are names.
use Rattle.std.proofs.Common.{◌≡◌, ◌<◌, ℕ, [], ◌∷◌, ◌++◌, List, Bool, true, false, refl, sym, ap, ◌∙◌, Option, Some, None, ◌^◌}
use Rattle.ir_model.specs.declared.token.Excess.{Excess}
use Rattle.ir_model.specs.declared.token.TextLimit.TheVariants as limit
use Rattle.ir_model.specs.Canonical.{PassesNothing, IsProper}
use Rattle.base_laws.specs.Lists.{Each}
use Rattle.ir_model.specs.Tokens.{Token, Name, Number, Key, Operation, Comparison, Sign, Marked}
use Rattle.ir_model.specs.Lines.{Line, word_excess, number_excess, length_excess, counted, depth_excess, or_else}
use Rattle.ir_model.specs.Texts.{joined, tokens, IsFree, Leads, here, blank, comment, token, Spells}
use Rattle.ir_reader.specs.Found.{Is, Placed, finds}
use Rattle.ir_reader.specs.Machine
use Rattle.ir_reader.specs.Machine.{Symbol, Move, Go, Stop, Skip, To, step, fault, move}
use Rattle.ir_model.proofs.NoExcess.{second_none, name_of_short, depth_behind, number_fits, length_fits, IsNarrow}
use Rattle.ir_reader.proofs.Lang.{Langs, well}
use Rattle.ir_reader.proofs.Theorem.{steps, text_of, colon_same, fault_token, kept}
use Rattle.ir_reader.proofs.Ends.{fault_after}
use Rattle.ir_reader.proofs.Values.{stepped}
use Rattle.base_laws.proofs.Lists.{each_both, each_left, each_right}

abbrev pub IsShort : Token → Type 0
IsShort (Name w) = word_excess w ≡ None
IsShort _ = Unit {0}

-- a name that passes nothing is short
short_move : (s : Symbol) (w : List ℕ) (c : Bool) (more : List Symbol) → move s (Name w) c ≡ Go None more → word_excess w ≡ None
short_move (Machine.Word x) w c more h = let e : or_else x (word_excess w) ≡ None = cc in second_none x _ e
short_move (Machine.Ty x d) w c more h = let e : or_else x (depth_excess d (word_excess w)) ≡ None = cc in depth_behind d _ (second_none x _ e)
short_move (Machine.Row d) w c more h = let e : depth_excess d (word_excess w) ≡ None = cc in depth_behind d _ e
short_move (Machine.Params) w c more h = cc
short_move (Machine.Locals k p) w c more h = let e : or_else (counted 0 1024 limit.Block None) (word_excess w) ≡ None = cc in second_none (counted 0 1024 limit.Block None) _ e
short_move (Machine.Regs k) w c more h = let e : or_else (counted 0 1024 limit.Block None) (word_excess w) ≡ None = cc in second_none (counted 0 1024 limit.Block None) _ e
short_move (Machine.First k n) w c more h = let e : or_else (counted k 1024 limit.Block None) (word_excess w) ≡ None = cc in second_none (counted k 1024 limit.Block None) _ e
short_move (Machine.Insts k n) w c more h = let e : or_else (Machine.inst_excess n) (word_excess w) ≡ None = cc in second_none (Machine.inst_excess n) _ e
short_move (Machine.AfterRet k n) w true more h = let e : or_else (counted k 1024 limit.Block None) (word_excess w) ≡ None = cc in second_none (counted k 1024 limit.Block None) _ e
short_move (Machine.AfterRet k n) w false more h = cc
short_move (Machine.Blocks k n) w c more h = let e : or_else (counted k 1024 limit.Block None) (word_excess w) ≡ None = cc in second_none (counted k 1024 limit.Block None) _ e
short_move Machine.Value w c more h = cc
short_move Machine.Args w c more h = cc
short_move _ w c more h = cc

short_step : (st : List Symbol) (w : List ℕ) (c : Bool) (stack : List Symbol) → step st (Name w) c ≡ To None stack → word_excess w ≡ None
short_step [] w c stack h = cc
short_step (s ∷ st) w c stack h = by_move (move s (Name w) c) refl h (short_step st w c stack)
  where
    by_move : (m : Move) → move s (Name w) c ≡ m → stepped st (Name w) c m ≡ To None stack → (step st (Name w) c ≡ To None stack → word_excess w ≡ None) → word_excess w ≡ None
    by_move (Go None more) e h again = short_move s w c more e
    by_move (Go (Some x) more) e h again = cc
    by_move Stop e h again = cc
    by_move Skip e h again = again h

is_short : (st : List Symbol) (t : Token) (c : Bool) (e : Option Excess) (stack : List Symbol) → e ≡ None → step st t c ≡ To e stack → IsShort t
is_short st (Name w) c None stack i h = short_step st w c stack h
is_short st (Name w) c (Some x) stack i h = cc
is_short st (Number n) c e stack i h = tt
is_short st (Key k) c e stack i h = tt
is_short st (Operation o) c e stack i h = tt
is_short st (Comparison o) c e stack i h = tt
is_short st (Sign m) c e stack i h = tt

-- where there is no fault each word is short
pub short_from : (ps : List Placed) (st : List Symbol) → well st ≡ true → (ms : Line) → Langs st ms → finds ps ≡ text_of ms → fault st ps ≡ None → Each (λ (m : Marked). IsShort m.token) ms
short_from ps st w [] l same e = tt
short_from [] st w (m ∷ ms) l same e = cc
short_from (p ∷ ps) st w (m ∷ ms) l same e =
    let s = steps st w m ms l in
    let h : p.found ≡ Is m.token = cc in
    let rest : finds ps ≡ text_of ms = cc in
    let c = colon_same ps ms rest in
    let goes : fault st (p ∷ ps) ≡ fault_after p ps (To m.excess s.stack) = fault_token st p ps m.token h ∙ (rw c (ap (fault_after p ps) s.goes)) in
    let k = kept p ps m.excess s.stack (sym goes ∙ e) in
    (is_short st m.token _ m.excess s.stack k.0 s.goes, short_from ps s.stack s.well ms s.others rest k.1)

pub free_token : (t : Token) (bs : List ℕ) → Spells t bs → IsFree t
free_token (Name w) bs s = (s.1, s.2)
free_token (Number n) bs s = tt
free_token (Key k) bs s = tt
free_token (Operation o) bs s = tt
free_token (Comparison o) bs s = tt
free_token (Sign m) bs s = tt

pub leads_free : (ts : List Token) (bs rest : List ℕ) → Leads ts bs rest → Each IsFree ts
leads_free ts bs rest (here b) = tt
leads_free ts bs rest (blank b {bs = c} h l) = leads_free ts c rest l
leads_free ts bs rest (comment b inside {bs = c} h i j l) = leads_free ts c rest l
leads_free (u ∷ us) bs rest (token t w {bs = c} s a l) = (free_token t w s, leads_free us c rest l)

proper_token : (t : Token) → IsFree t → IsShort t → IsProper t
proper_token (Name w) f s = name_of_short w f.0 f.1 s
proper_token (Number n) f s = tt
proper_token (Key k) f s = tt
proper_token (Operation o) f s = tt
proper_token (Comparison o) f s = tt
proper_token (Sign m) f s = tt

pub proper_all : (ms : Line) → Each IsFree (tokens ms) → Each (λ (m : Marked). IsShort m.token) ms → Each (λ (m : Marked). IsProper m.token) ms
proper_all [] f s = tt
proper_all (m ∷ ms) f s = (proper_token m.token f.0 s.0, proper_all ms f.1 s.1)

-- by lines
pub each_lines : (P : Marked → Type 0) (ls : List Line) → Each P (joined ls) → Each (Each P) ls
each_lines P [] h = tt
each_lines P (l ∷ ls) h = (each_left P l (joined ls) h, each_lines P ls (each_right P l (joined ls) h))

-- a number that passes nothing has 32 bits
narrow_move : (s : Symbol) (n : ℕ) (c : Bool) (more : List Symbol) → move s (Number n) c ≡ Go None more → n < 2 ^ 32
narrow_move Machine.Num n c more h = let e : number_excess n None ≡ None = cc in number_fits n None e
narrow_move Machine.Len n c more h = let e : length_excess n ≡ None = cc in length_fits n e
narrow_move Machine.Value n c more h = let e : number_excess n None ≡ None = cc in number_fits n None e
narrow_move (Machine.CellAt k) n c more h = let e : number_excess n (Machine.cell_excess k) ≡ None = cc in number_fits n (Machine.cell_excess k) e
narrow_move _ n c more h = cc

narrow_step : (st : List Symbol) (n : ℕ) (c : Bool) (stack : List Symbol) → step st (Number n) c ≡ To None stack → n < 2 ^ 32
narrow_step [] n c stack h = cc
narrow_step (s ∷ st) n c stack h = by_move (move s (Number n) c) refl h (narrow_step st n c stack)
  where
    by_move : (m : Move) → move s (Number n) c ≡ m → stepped st (Number n) c m ≡ To None stack → (step st (Number n) c ≡ To None stack → n < 2 ^ 32) → n < 2 ^ 32
    by_move (Go None more) e h again = narrow_move s n c more e
    by_move (Go (Some x) more) e h again = cc
    by_move Stop e h again = cc
    by_move Skip e h again = again h

is_narrow : (st : List Symbol) (t : Token) (c : Bool) (e : Option Excess) (stack : List Symbol) → e ≡ None → step st t c ≡ To e stack → IsNarrow t
is_narrow st (Number n) c None stack i h = narrow_step st n c stack h
is_narrow st (Number n) c (Some x) stack i h = cc
is_narrow st (Name w) c e stack i h = tt
is_narrow st (Key k) c e stack i h = tt
is_narrow st (Operation o) c e stack i h = tt
is_narrow st (Comparison o) c e stack i h = tt
is_narrow st (Sign m) c e stack i h = tt

-- the same, with anything behind
pub narrow_front : (st : List Symbol) → well st ≡ true → (front x : Line) → Langs st (front ++ x) → Each PassesNothing front → Each IsNarrow (tokens front)
narrow_front st w [] x l h = tt
narrow_front st w (m ∷ ms) x l h =
    let s = steps st w m (ms ++ x) l in
    (is_narrow st m.token _ m.excess s.stack h.0 s.goes, narrow_front s.stack s.well ms x s.others h.1)

-- where nothing is passed each number has 32 bits
pub narrow_from : (st : List Symbol) → well st ≡ true → (ms : Line) → Langs st ms → Each PassesNothing ms → Each IsNarrow (tokens ms)
narrow_from st w [] l h = tt
narrow_from st w (m ∷ ms) l h =
    let s = steps st w m ms l in
    (is_narrow st m.token _ m.excess s.stack h.0 s.goes, narrow_from s.stack s.well ms s.others h.1)

pub each_joined : (P : Marked → Type 0) (ls : List Line) → Each (Each P) ls → Each P (joined ls)
each_joined P [] h = tt
each_joined P (l ∷ ls) h = each_both P l (joined ls) h.0 (each_joined P ls h.1)
