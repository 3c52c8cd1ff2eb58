-- Where the moves stop, and why.
use Rattle.std.proofs.Common.{◌≡◌, ℕ, [], ◌∷◌, ◌++◌, List, Bool, true, false, refl, sym, ap, ◌∙◌, subst, Option, Some, None, map, if◌then◌else◌}
use Rattle.std.proofs.lemmas.Option.{same_Some}
use Rattle.ir_model.specs.declared.token.Excess.{Excess}
use Rattle.ir_model.specs.declared.token.Mark.TheVariants as mark
use Rattle.ir_model.specs.Tokens.{Token, Name, Number, Key, Operation, Comparison, Sign, Marked}
use Rattle.ir_model.specs.Canonical.{PassesNothing}
use Rattle.base_laws.specs.Lists.{Each}
use Rattle.ir_model.specs.Lines.{Line, marked}
use Rattle.ir_model.specs.Texts.{tokens, begins_colon}
use Rattle.ir_reader.specs.declared.error.Fault.{Fault}
use Rattle.ir_reader.specs.declared.error.FaultKind.{FaultKind}
use Rattle.ir_reader.specs.declared.error.FaultKind.TheVariants as kind
use Rattle.ir_reader.specs.Found.{Found, Is, Bad, End, Placed, finds, colon_first}
use Rattle.ir_reader.specs.Machine
use Rattle.ir_reader.specs.Machine.{Symbol, Move, Go, Stop, Skip, Progress, To, Stuck, step, fault, move, may_end}
use Rattle.ir_reader.proofs.Lang.{Langs, well}
use Rattle.ir_reader.proofs.Allow.{stands}
use Rattle.ir_reader.proofs.Ends.{fault_after}
use Rattle.ir_reader.proofs.Values.{stepped}
use Rattle.ir_reader.proofs.Theorem.{steps, TakesToken}

-- the token that a colon follows or not makes no difference to whether it may stand
move_flag : (s : Symbol) (t : Token) (c d : Bool) → move s t c ≡ Stop → move s t d ≡ Stop
move_flag (Machine.AfterRet k n) (Name w) true d h = cc
move_flag (Machine.AfterRet k n) (Name w) false d h = cc
move_flag (Machine.AfterRet k n) (Number m) true true h = h
move_flag (Machine.AfterRet k n) (Number m) true false h = refl
move_flag (Machine.AfterRet k n) (Number m) false d h = by_flag d
  where
    by_flag : (d : Bool) → move (Machine.AfterRet k n) (Number m) d ≡ Stop
    by_flag true = refl
    by_flag false = refl
move_flag (Machine.AfterRet k n) (Key w) c d h = by_flag d
  where
    by_flag : (d : Bool) → move (Machine.AfterRet k n) (Key w) d ≡ Stop
    by_flag true = refl
    by_flag false = refl
move_flag (Machine.AfterRet k n) (Operation o) c d h = by_flag d
  where
    by_flag : (d : Bool) → move (Machine.AfterRet k n) (Operation o) d ≡ Stop
    by_flag true = refl
    by_flag false = refl
move_flag (Machine.AfterRet k n) (Comparison o) c d h = by_flag d
  where
    by_flag : (d : Bool) → move (Machine.AfterRet k n) (Comparison o) d ≡ Stop
    by_flag true = refl
    by_flag false = refl
move_flag (Machine.AfterRet k n) (Sign m) true true h = h
move_flag (Machine.AfterRet k n) (Sign m) true false h = h
move_flag (Machine.AfterRet k n) (Sign m) false true h = h
move_flag (Machine.AfterRet k n) (Sign m) false false h = h
move_flag _ (Name w) c d h = h
move_flag _ (Number m) c d h = h
move_flag _ (Key w) c d h = h
move_flag _ (Operation o) c d h = h
move_flag _ (Comparison o) c d h = h
move_flag _ (Sign m) c d h = h

pub skip_flag : (s : Symbol) (t : Token) (c d : Bool) → move s t c ≡ Skip → move s t d ≡ Skip
skip_flag (Machine.AfterRet k n) (Name w) true d h = cc
skip_flag (Machine.AfterRet k n) (Name w) false d h = cc
skip_flag (Machine.AfterRet k n) (Sign mark.CloseBrace) true d h = cc
skip_flag (Machine.AfterRet k n) (Sign mark.CloseBrace) false d h = cc
skip_flag (Machine.AfterRet k n) (Sign _) true d h = cc
skip_flag (Machine.AfterRet k n) (Sign _) false d h = cc
skip_flag (Machine.AfterRet k n) _ true d h = cc
skip_flag (Machine.AfterRet k n) _ false d h = cc
skip_flag _ (Name w) c d h = h
skip_flag _ (Number m) c d h = h
skip_flag _ (Key w) c d h = h
skip_flag _ (Operation o) c d h = h
skip_flag _ (Comparison o) c d h = h
skip_flag _ (Sign m) c d h = h

pub stuck_flag : (st : List Symbol) (t : Token) (c d : Bool) → step st t c ≡ Stuck → step st t d ≡ Stuck
stuck_flag [] t c d h = refl
stuck_flag (s ∷ st) t c d h = by_move (move s t c) refl h (stuck_flag st t c d)
  where
    by_move : (m : Move) → move s t c ≡ m → stepped st t c m ≡ Stuck → (step st t c ≡ Stuck → step st t d ≡ Stuck) → step (s ∷ st) t d ≡ Stuck
    by_move (Go x more) e h again = cc
    by_move Stop e h again = ap (stepped st t d) (move_flag s t c d e)
    by_move Skip e h again = ap (stepped st t d) (skip_flag s t c d e) ∙ again h

-- why the moves stop where this is expected
pub data Why (stack : List Symbol) (at : Placed) (after_ : List Placed) : FaultKind → Type 0 where
  stuck : (t : Token) → at.found ≡ Is t → step stack t (colon_first after_) ≡ Stuck → Why stack at after_ kind.Syntax
  bad : at.found ≡ Bad → Why stack at after_ kind.Syntax
  short : at.found ≡ End → may_end stack ≡ false → Why stack at after_ kind.Syntax
  over : (t : Token) (x : Excess) (behind : List Symbol) → at.found ≡ Is t → step stack t (colon_first after_) ≡ To (Some x) behind → Why stack at after_ (kind.Exceeds x)

-- tokens that pass nothing, and what stands behind them
pub record Front (st : List Symbol) (ts : List Token) (x : Line) : Type 0 where
  pub front : Line
  pub same : tokens front ≡ ts
  pub limits : Each PassesNothing front
  pub stands : Langs st (front ++ x)

-- where the moves stop: what is expected there, and what may stand there by the tokens before
pub record Stopped (st : List Symbol) (ps : List Placed) (f : Fault) : Type 0 where
  pub before : List Placed
  pub at : Placed
  pub after_ : List Placed
  pub ts : List Token
  pub whole : ps ≡ before ++ at ∷ after_
  pub found : finds before ≡ map Is ts
  pub place : f.left ≡ at.left
  pub stack : List Symbol
  pub why : Why stack at after_ f.kind
  pub back : (x : Line) → Langs stack x → Front st ts x
  pub forth : well st ≡ true → (front y : Line) (m : Marked) → tokens front ≡ ts → at.found ≡ Is m.token → Langs st (front ++ m ∷ y) → (well stack ≡ true) × Langs stack (m ∷ y)
  pub end : well st ≡ true → (front : Line) → tokens front ≡ ts → at.found ≡ End → Langs st front → Langs stack []

no_tokens : (front : Line) → tokens front ≡ [] → front ≡ []
no_tokens [] h = refl
no_tokens (m ∷ ms) h = cc

-- the token behind some tokens is a colon or not
colon_at : (ts : List Token) (front : Line) (m : Marked) (y : Line) (before : List Placed) (at : Placed) (ps : List Placed) → tokens front ≡ ts → finds before ≡ map Is ts → at.found ≡ Is m.token
    → begins_colon (tokens (front ++ m ∷ y)) ≡ colon_first (before ++ at ∷ ps)
colon_at ts [] m y [] at ps s f i = rw i refl
colon_at ts [] m y (p ∷ before) at ps s f i = cc
colon_at ts (n ∷ front) m y [] at ps s f i = cc
colon_at ts (n ∷ front) m y (p ∷ before) at ps s f i = let h : p.found ≡ Is n.token = cc in rw h refl

colon_end : (ts : List Token) (front : Line) (before : List Placed) (at : Placed) (ps : List Placed) → tokens front ≡ ts → finds before ≡ map Is ts → at.found ≡ End
    → begins_colon (tokens front) ≡ colon_first (before ++ at ∷ ps)
colon_end ts [] [] at ps s f i = rw i refl
colon_end ts [] (p ∷ before) at ps s f i = cc
colon_end ts (n ∷ front) [] at ps s f i = cc
colon_end ts (n ∷ front) (p ∷ before) at ps s f i = let h : p.found ≡ Is n.token = cc in rw h refl

-- the stack behind a token is one
step_same : (st stack : List Symbol) (t : Token) (n : Marked) (x : Line) (ps : List Placed) → step st t (colon_first ps) ≡ To None stack → n.token ≡ t → begins_colon (tokens x) ≡ colon_first ps → (q : TakesToken st n x) → q.stack ≡ stack
step_same st stack t n x ps e i c q =
    let g : step st t (colon_first ps) ≡ To n.excess q.stack = subst (λ (b : Bool). step st t b ≡ To n.excess q.stack) c (subst (λ (z : Token). step st z (begins_colon (tokens x)) ≡ To n.excess q.stack) i q.goes) in
    cc

grown : (st stack : List Symbol) (left : ℕ) (ps : List Placed) (t : Token) (f : Fault) → step st t (colon_first ps) ≡ To None stack → Stopped stack ps f → Stopped st (record { found = Is t; left = left } ∷ ps) f
grown st stack left ps t f e s =
    record {
      before = record { found = Is t; left = left } ∷ s.before;
      at = s.at;
      after_ = s.after_;
      ts = t ∷ s.ts;
      whole = ap (λ z. record { found = Is t; left = left } ∷ z) s.whole;
      found = ap (λ z. Is t ∷ z) s.found;
      place = s.place;
      stack = s.stack;
      why = s.why;
      back = back;
      forth = forth;
      end = end;
    }
  where
    back : (x : Line) → Langs s.stack x → Front st (t ∷ s.ts) x
    back x l =
        let g = s.back x l in
        record { front = marked t None ∷ g.front; same = ap (λ z. t ∷ z) g.same; limits = (refl, g.limits); stands = stands st t (colon_first ps) None stack e (g.front ++ x) g.stands }

    forth : well st ≡ true → (front y : Line) (m : Marked) → tokens front ≡ t ∷ s.ts → s.at.found ≡ Is m.token → Langs st (front ++ m ∷ y) → (well s.stack ≡ true) × Langs s.stack (m ∷ y)
    forth w [] y m h i l = cc
    forth w (n ∷ front) y m h i l =
        let same : n.token ≡ t = cc in
        let rest : tokens front ≡ s.ts = cc in
        let q = steps st w n (front ++ m ∷ y) l in
        let c = colon_at s.ts front m y s.before s.at s.after_ rest s.found i ∙ ap colon_first (sym s.whole) in
        let j = step_same st stack t n (front ++ m ∷ y) ps e same c q in
        s.forth (subst (λ (z : List Symbol). well z ≡ true) j q.well) front y m rest i (subst (λ (z : List Symbol). Langs z (front ++ m ∷ y)) j q.others)

    end : well st ≡ true → (front : Line) → tokens front ≡ t ∷ s.ts → s.at.found ≡ End → Langs st front → Langs s.stack []
    end w [] h i l = cc
    end w (n ∷ front) h i l =
        let same : n.token ≡ t = cc in
        let rest : tokens front ≡ s.ts = cc in
        let q = steps st w n front l in
        let c = colon_end s.ts front s.before s.at s.after_ rest s.found i ∙ ap colon_first (sym s.whole) in
        let j = step_same st stack t n front ps e same c q in
        s.end (subst (λ (z : List Symbol). well z ≡ true) j q.well) front rest i (subst (λ (z : List Symbol). Langs z front) j q.others)

at_once : (st : List Symbol) (p : Placed) (ps : List Placed) (g f : Fault) → g.left ≡ p.left → Why st p ps g.kind → Some g ≡ Some f → Stopped st (p ∷ ps) f
at_once st p ps g f i v e =
    let P : Fault → Type 0 = λ z. Stopped st (p ∷ ps) z in
    subst P (same_Some g f e) (record {
      before = [];
      at = p;
      after_ = ps;
      ts = [];
      whole = refl;
      found = refl;
      place = i;
      stack = st;
      why = v;
      back = λ x l. record { front = []; same = refl; limits = tt; stands = l };
      forth = λ w front y m h j l. (w, subst (λ (z : Line). Langs st (z ++ m ∷ y)) (no_tokens front h) l);
      end = λ w front h j l. subst (λ (z : Line). Langs st z) (no_tokens front h) l;
    })

by_step : (st : List Symbol) (left : ℕ) (ps : List Placed) (t : Token) (f : Fault) → ((st : List Symbol) → fault st ps ≡ Some f → Stopped st ps f) → (s : Progress) → step st t (colon_first ps) ≡ s
    → fault_after (record { found = Is t; left = left }) ps s ≡ Some f → Stopped st (record { found = Is t; left = left } ∷ ps) f
by_step st left ps t f again (To None stack) i e = grown st stack left ps t f i (again stack e)
by_step st left ps t f again (To (Some x) stack) i e = at_once st (record { found = Is t; left = left }) ps (Machine.fault_at (record { found = Is t; left = left }) x) f refl (over t x stack refl i) e
by_step st left ps t f again Stuck i e = at_once st (record { found = Is t; left = left }) ps (Machine.syntax_at (record { found = Is t; left = left })) f refl (stuck t refl i) e

by_end : (st : List Symbol) (left : ℕ) (ps : List Placed) (f : Fault) (u : Bool) → may_end st ≡ u → ◌≡◌ {A = Option Fault} (if u then None else Some (Machine.syntax_at (record { found = End; left = left }))) (Some f)
    → Stopped st (record { found = End; left = left } ∷ ps) f
by_end st left ps f true i e = cc
by_end st left ps f false i e = at_once st (record { found = End; left = left }) ps (Machine.syntax_at (record { found = End; left = left })) f refl (short refl i) e

by_found : (st : List Symbol) (left : ℕ) (ps : List Placed) (f : Fault) → ((st : List Symbol) → fault st ps ≡ Some f → Stopped st ps f) → (g : Found) → fault st (record { found = g; left = left } ∷ ps) ≡ Some f
    → Stopped st (record { found = g; left = left } ∷ ps) f
by_found st left ps f again (Is t) e = by_step st left ps t f again (step st t (colon_first ps)) refl e
by_found st left ps f again Bad e = at_once st (record { found = Bad; left = left }) ps (Machine.syntax_at (record { found = Bad; left = left })) f refl (bad refl) e
by_found st left ps f again End e = by_end st left ps f (may_end st) refl e

-- where the moves find a fault
pub stopped : (ps : List Placed) (st : List Symbol) (f : Fault) → fault st ps ≡ Some f → Stopped st ps f
stopped [] st f e = cc
stopped (p ∷ ps) st f e = by_found st p.left ps f (λ st. stopped ps st f) p.found e
