-- Fronts of the bytes' tokens with which some firmware begins, and the faults that do not stand within them.
use Rattle.std.proofs.Common.{◌≡◌, ◌⊎◌, inl, inr, ℕ, [], ◌∷◌, ◌++◌, List, Bool, true, false, refl, sym, ap, ◌∙◌, subst, append_assoc, append-nil, Option, Some, None, length, map, arith}
use Rattle.ir_model.specs.declared.token.Excess.{Excess}
use Rattle.ir_model.specs.declared.token.Mark.TheVariants as mark
use Rattle.ir_model.specs.Canonical.{PassesNothing}
use Rattle.base_laws.specs.Lists.{Each}
use Rattle.ir_model.specs.Plain.{PlainFirmware}
use Rattle.ir_model.specs.Tokens.{Token, Name, Number, Key, Operation, Comparison, Sign, Marked}
use Rattle.ir_model.specs.Lines.{Line, marked, lines_of, word_excess, counted, or_else}
use Rattle.ir_model.specs.declared.token.TextLimit.TheVariants as limit
use Rattle.ir_model.specs.Texts.{joined, tokens, IsText, Spells, IsApart, Leads, Begins, NoneBegins, Reaches, IsUnexpected, end, nothing, token, IsSyntaxFault, begins_colon, is_colon, IsPassed, StartsToken}
use Rattle.ir_reader.specs.Found.{Is, Placed, finds, colon_first}
use Rattle.ir_reader.specs.Machine
use Rattle.ir_reader.specs.Machine.{Symbol, Move, Go, Stop, Skip, To, step, move, Structs}
use Rattle.ir_reader.specs.Scan.{placed}
use Rattle.ir_reader.proofs.Firsts.{spelled_at, has_colon, is_the_colon, free_front}
use Rattle.ir_model.proofs.NoExcess.{second_none, IsNarrow}
use Rattle.ir_reader.proofs.Lang.{Langs, well}
use Rattle.ir_reader.proofs.Proper.{narrow_front, each_joined, leads_free}
use Rattle.ir_reader.proofs.Scanning.{placed_nil}
use Rattle.ir_reader.proofs.Stops.{skip_flag}
use Rattle.ir_reader.proofs.Theorem.{steps}
use Rattle.ir_reader.proofs.Values.{stepped}
use Rattle.ir_reader.proofs.Verdicts.{begun, Taken, taken}
use Rattle.ir_reader.proofs.Whole.{Alike, AreWide, finds_some, token_placed, Prefix, placed_from}
use Rattle.base_laws.proofs.Lists.{each_right}

-- two fronts of one list
data Ordered (ps qs rs ss : List Placed) : Type 0 where
  shorter : (p : Placed) (more : List Placed) → rs ≡ ps ++ p ∷ more → qs ≡ p ∷ (more ++ ss) → Ordered ps qs rs ss
  equal : ps ≡ rs → qs ≡ ss → Ordered ps qs rs ss
  longer : (p : Placed) (more : List Placed) → ps ≡ rs ++ p ∷ more → ss ≡ p ∷ (more ++ qs) → Ordered ps qs rs ss

ordered : (ps qs rs ss : List Placed) → ps ++ qs ≡ rs ++ ss → Ordered ps qs rs ss
ordered [] qs [] ss e = equal refl e
ordered [] qs (r ∷ rs) ss e = shorter r rs refl e
ordered (p ∷ ps) qs [] ss e = longer p ps refl (sym e)
ordered (p ∷ ps) qs (r ∷ rs) ss e = grown (let h : p ≡ r = cc in h) (ordered ps qs rs ss (let t : ps ++ qs ≡ rs ++ ss = cc in t))
  where
    grown : p ≡ r → Ordered ps qs rs ss → Ordered (p ∷ ps) qs (r ∷ rs) ss
    grown h (shorter q more i j) = shorter q more (cc (h, i)) j
    grown h (equal i j) = equal (cc (h, i)) j
    grown h (longer q more i j) = longer q more (cc (h, i)) j

-- the tokens of a longer front
record Longer (ts us : List Token) (p : Placed) (more : List Placed) : Type 0 where
  next : Token
  others : List Token
  whole : us ≡ ts ++ next ∷ others
  is : p.found ≡ Is next
  rest : finds more ≡ map Is others

longer_tokens : (ps : List Placed) (ts us : List Token) (p : Placed) (more : List Placed) → finds ps ≡ map Is ts → finds (ps ++ p ∷ more) ≡ map Is us → Longer ts us p more
longer_tokens [] [] [] p more e h = cc
longer_tokens [] [] (u ∷ us) p more e h = record { next = u; others = us; whole = refl; is = cc; rest = cc }
longer_tokens [] (t ∷ ts) us p more e h = cc
longer_tokens (q ∷ ps) [] us p more e h = cc
longer_tokens (q ∷ ps) (t ∷ ts) [] p more e h = cc
longer_tokens (q ∷ ps) (t ∷ ts) (u ∷ us) p more e h =
    let a : finds ps ≡ map Is ts = cc in
    let b : finds (ps ++ p ∷ more) ≡ map Is us = cc in
    let c : u ≡ t = cc in
    let r = longer_tokens ps ts us p more a b in
    record { next = r.next; others = r.others; whole = cc (c, r.whole); is = r.is; rest = r.rest }

-- marked tokens that are some, one and others
record Cut (l : Line) (ts : List Token) (u : Token) (vs : List Token) : Type 0 where
  front : Line
  at : Marked
  back : Line
  whole : l ≡ front ++ at ∷ back
  same : tokens front ≡ ts
  is : at.token ≡ u
  rest : tokens back ≡ vs

cut : (l : Line) (ts : List Token) (u : Token) (vs : List Token) → tokens l ≡ ts ++ u ∷ vs → Cut l ts u vs
cut [] [] u vs e = cc
cut [] (t ∷ ts) u vs e = cc
cut (m ∷ ms) [] u vs e = record { front = []; at = m; back = ms; whole = refl; same = refl; is = cc; rest = cc }
cut (m ∷ ms) (t ∷ ts) u vs e =
    let h : tokens ms ≡ ts ++ u ∷ vs = cc in
    let i : m.token ≡ t = cc in
    let c = cut ms ts u vs h in
    record { front = m ∷ c.front; at = c.at; back = c.back; whole = ap (λ z. m ∷ z) c.whole; same = cc (i, c.same); is = c.is; rest = c.rest }

-- where the bytes spell what some firmware begins with, within the limits
pub record Along (bytes : List ℕ) : Type 0 where
  pub ts : List Token
  pub rest : List ℕ
  pub leads : Leads ts bytes rest
  pub behind : Line
  pub good : Reaches ts behind

narrow_along : (bytes : List ℕ) (a : Along bytes) → Each IsNarrow a.ts
narrow_along bytes a =
    subst (λ (z : List Token). Each IsNarrow z) a.good.same (narrow_front (Structs 0 ∷ []) refl a.good.front a.behind (begun a.good.front a.behind a.good.begins) a.good.limits)

prefix_along : (bytes : List ℕ) (a : Along bytes) → Prefix a.ts bytes a.rest
prefix_along bytes a = placed_from a.ts bytes a.rest a.leads (narrow_along bytes a)

-- a firmware goes on like this with a token behind those before
pub record Goes (ts : List Token) (u : Token) (vs : List Token) (behind : Line) : Type 0 where
  pub front : Line
  pub at : Marked
  pub back : Line
  pub same : tokens front ≡ ts
  pub is : at.token ≡ u
  pub rest : tokens back ≡ vs
  pub passes : at.excess ≡ None
  pub begins : Begins front (at ∷ (back ++ behind))

goes : (ts : List Token) (u : Token) (vs us : List Token) (behind : Line) → us ≡ ts ++ u ∷ vs → Reaches us behind → Goes ts u vs behind
goes ts u vs us behind e r =
    let c = cut r.front ts u vs (r.same ∙ e) in
    let w : r.front ++ behind ≡ c.front ++ c.at ∷ (c.back ++ behind) = ap (λ (z : Line). z ++ behind) c.whole ∙ append_assoc c.front (c.at ∷ c.back) behind in
    record {
      front = c.front;
      at = c.at;
      back = c.back;
      same = c.same;
      is = c.is;
      rest = c.rest;
      passes = (each_right PassesNothing c.front (c.at ∷ c.back) (subst (λ (z : Line). Each PassesNothing z) c.whole r.limits)).0;
      begins = record { firmware = r.begins.firmware; whole = r.begins.whole; parts = r.begins.parts ∙ w };
    }

tokens_with : (f : Line) (ts : List Token) (m : Marked) → tokens f ≡ ts → tokens (f ++ m ∷ []) ≡ ts ++ m.token ∷ []
tokens_with [] [] m e = refl
tokens_with [] (t ∷ ts) m e = cc
tokens_with (n ∷ f) [] m e = cc
tokens_with (n ∷ f) (t ∷ ts) m e =
    let h : tokens f ≡ ts = cc in
    let i : n.token ≡ t = cc in
    let r = tokens_with f ts m h in
    cc (i, r)

-- no firmware begins with these tokens, and one does
pub refuted : (ts : List Token) (t : Token) → NoneBegins (ts ++ t ∷ []) → (front : Line) (m : Marked) (x : Line) → tokens front ≡ ts → m.token ≡ t → Begins front (m ∷ x) → ⊥
refuted ts t n front m x e i b =
    n (front ++ m ∷ []) x (tokens_with front ts m e ∙ ap (λ (z : Token). ts ++ z ∷ []) i) (record { firmware = b.firmware; whole = b.whole; parts = b.parts ∙ sym (append_assoc front (m ∷ []) x) })

not_wide : (t u : Token) → AreWide t u → IsNarrow u → ⊥
not_wide (Number n) (Number m) w h = omega (arith, w.1, h)
not_wide (Number n) (Name v) w h = w
not_wide (Number n) (Key k) w h = w
not_wide (Number n) (Operation o) w h = w
not_wide (Number n) (Comparison c) w h = w
not_wide (Number n) (Sign m) w h = w
not_wide (Name v) u w h = w
not_wide (Key k) u w h = w
not_wide (Operation o) u w h = w
not_wide (Comparison c) u w h = w
not_wide (Sign m) u w h = w

alike_narrow : (t u : Token) → Alike t u → IsNarrow u → t ≡ u
alike_narrow t u (inl e) n = e
alike_narrow t u (inr w) n = absurd (not_wide t u w n)

-- what is found where a token is spelled
pub record Head (t : Token) (rest after : List ℕ) : Type 0 where
  pub as_ : Token
  pub left : ℕ
  pub alike : Alike t as_
  pub whole : placed rest ≡ record { found = Is as_; left = left } ∷ placed after
  pub starts : StartsToken rest

pub head : (t : Token) (spelling after rest : List ℕ) → rest ≡ spelling ++ after → Spells t spelling → IsApart t after → Head t rest after
head t spelling after rest e s a =
    let f = finds_some t spelling after s a in
    let h : Head t (spelling ++ after) after = record { as_ = f.0; left = length (spelling ++ after); alike = f.2; whole = token_placed f.0 spelling after f.1; starts = f.1.starts } in
    subst (λ (z : List ℕ). Head t z after) (sym e) h

-- a syntax fault does not stand before what a firmware begins with
syntax_before : (ts : List Token) (rest : List ℕ) → IsUnexpected ts rest → (p : Placed) (tail : List Placed) (u : Token) → placed rest ≡ p ∷ tail → p.found ≡ Is u → IsNarrow u → (front : Line) (m : Marked) (x : Line) → tokens front ≡ ts → m.token ≡ u
    → Begins front (m ∷ x) → ⊥
syntax_before ts rest (end n) p tail u e i h front m x a b g = let f = sym placed_nil ∙ e in cc
syntax_before ts rest (nothing [] n) p tail u e i h front m x a b g = n
syntax_before ts rest (nothing (c ∷ cs) n) p tail u e i h front m x a b g = let s = spelled_at u (c ∷ cs) p tail (n.0, n.1) e i in n.2 u s.spelling s.after s.parts s.spells s.apart
syntax_before ts rest (token t spelling after s k n) p tail u e i h front m x a b g =
    let d = head t spelling after (spelling ++ after) refl s k in
    let f = sym d.whole ∙ e in
    let j : d.as_ ≡ u = cc in
    let r = alike_narrow t d.as_ d.alike (subst IsNarrow (sym j) h) in
    refuted ts t n front m x a (b ∙ (sym j ∙ sym r)) g

-- two firmwares with the same tokens before

same_flags : (f g x y : Line) → tokens f ≡ tokens g → begins_colon (tokens x) ≡ begins_colon (tokens y) → begins_colon (tokens (f ++ x)) ≡ begins_colon (tokens (g ++ y))
same_flags [] [] x y e h = h
same_flags [] (n ∷ g) x y e h = cc
same_flags (m ∷ f) [] x y e h = cc
same_flags (m ∷ f) (n ∷ g) x y e h = let i : m.token ≡ n.token = cc in ap is_colon i

record Twin (x y : Line) : Type 0 where
  stack : List Symbol
  well_formed : well stack ≡ true
  first : Langs stack x
  second : Langs stack y

twin : (f g : Line) (st : List Symbol) → well st ≡ true → (x y : Line) → tokens f ≡ tokens g → begins_colon (tokens x) ≡ begins_colon (tokens y) → Langs st (f ++ x) → Langs st (g ++ y) → Twin x y
twin [] [] st w x y e h k l = record { stack = st; well_formed = w; first = k; second = l }
twin [] (n ∷ g) st w x y e h k l = cc
twin (m ∷ f) [] st w x y e h k l = cc
twin (m ∷ f) (n ∷ g) st w x y e h k l =
    let i : m.token ≡ n.token = cc in
    let j : tokens f ≡ tokens g = cc in
    let s = steps st w m (f ++ x) k in
    let t = steps st w n (g ++ y) l in
    let c = same_flags f g x y j h in
    let q : step st m.token (begins_colon (tokens (f ++ x))) ≡ To n.excess t.stack = subst (λ (b : Bool). step st m.token b ≡ To n.excess t.stack) (sym c) (subst (λ (z : Token). step st z (begins_colon (tokens (g ++ y))) ≡ To n.excess t.stack) (sym i) t.goes) in
    let r = s.goes in
    let d : s.stack ≡ t.stack = cc in
    twin f g s.stack s.well x y j h s.others (subst (λ (z : List Symbol). Langs z (g ++ y)) (sym d) t.others)

-- a colon behind a token or none makes no difference but to a name behind `ret`
name_flags : (k n : ℕ) (w : List ℕ) (a b : List Symbol) (x : Excess) → move (Machine.AfterRet k n) (Name w) true ≡ Go None a → move (Machine.AfterRet k n) (Name w) false ≡ Go (Some x) b → ⊥
name_flags k n w a b x h i =
    let e : or_else (counted k 1024 limit.Block None) (word_excess w) ≡ None = cc in
    let f : word_excess w ≡ None = second_none (counted k 1024 limit.Block None) (word_excess w) e in
    let g : word_excess w ≡ Some x = cc in
    cc

move_flags : (s : Symbol) (t : Token) (a b : List Symbol) (x : Excess) → move s t true ≡ Go None a → move s t false ≡ Go (Some x) b → ⊥
move_flags (Machine.AfterRet k n) (Name w) a b x h i = name_flags k n w a b x h i
move_flags (Machine.AfterRet k n) _ a b x h i = cc
move_flags _ (Name w) a b x h i = cc
move_flags _ (Number m) a b x h i = cc
move_flags _ (Key w) a b x h i = cc
move_flags _ (Operation o) a b x h i = cc
move_flags _ (Comparison o) a b x h i = cc
move_flags _ (Sign m) a b x h i = cc

step_flags : (st : List Symbol) (t : Token) (a b : List Symbol) (x : Excess) → step st t true ≡ To None a → step st t false ≡ To (Some x) b → ⊥
step_flags [] t a b x h i = cc
step_flags (s ∷ st) t a b x h i = by_move (move s t true) (move s t false) refl refl h i (step_flags st t a b x)
  where
    by_move : (m n : Move) → move s t true ≡ m → move s t false ≡ n → stepped st t true m ≡ To None a → stepped st t false n ≡ To (Some x) b → (step st t true ≡ To None a → step st t false ≡ To (Some x) b → ⊥) → ⊥
    by_move (Go None more) (Go (Some y) less) e f g j again = move_flags s t more less y e f
    by_move (Go None more) (Go None less) e f g j again = cc
    by_move (Go None more) Stop e f g j again = cc
    by_move (Go None more) Skip e f g j again = let k = skip_flag s t false true f in cc
    by_move (Go (Some y) more) n e f g j again = cc
    by_move Stop n e f g j again = cc
    by_move Skip n e f g j again = let k = skip_flag s t true false e in let l : n ≡ Skip = sym f ∙ k in again g (subst (λ (z : Move). stepped st t false z ≡ To (Some x) b) l j)

next_same : (r x : Line) (vs : List Token) (more qs : List Placed) → tokens r ≡ vs → finds more ≡ map Is vs → (vs ≡ [] → begins_colon (tokens x) ≡ colon_first qs) → begins_colon (tokens (r ++ x)) ≡ colon_first (more ++ qs)
next_same [] x [] [] qs e f h = h refl
next_same [] x [] (q ∷ more) qs e f h = cc
next_same [] x (v ∷ vs) more qs e f h = cc
next_same (n ∷ r) x [] more qs e f h = cc
next_same (n ∷ r) x (v ∷ vs) [] qs e f h = cc
next_same (n ∷ r) x (v ∷ vs) (q ∷ more) qs e f h =
    let i : n.token ≡ v = cc in
    let j : q.found ≡ Is v = cc in
    rw (i, j) refl

three : (a b c : Bool) → (a ≡ c → ⊥) → (a ≡ b → ⊥) → (a ≡ true → b ≡ false → ⊥) → (c ≡ true → b ≡ true → ⊥) → ⊥
three true true c h i j k = i refl
three false false c h i j k = i refl
three true false true h i j k = h refl
three true false false h i j k = j refl refl
three false true false h i j k = h refl
three false true true h i j k = k refl refl

-- two firmwares go on with the same token
record Both (at : Token) (m n : Marked) (x y : Line) : Type 0 where
  stack : List Symbol
  first : Taken stack m x (begins_colon (tokens x))
  second : Taken stack n y (begins_colon (tokens y))

both_take : (f g : Line) (m n : Marked) (x y : Line) → tokens f ≡ tokens g → m.token ≡ n.token → Begins f (m ∷ x) → Begins g (n ∷ y) → Both m.token m n x y
both_take f g m n x y e i b d =
    let t = twin f g (Structs 0 ∷ []) refl (m ∷ x) (n ∷ y) e (ap is_colon i) (begun f (m ∷ x) b) (begun g (n ∷ y) d) in
    record { stack = t.stack; first = taken t.stack m x _ t.well_formed t.first refl; second = taken t.stack n y _ t.well_formed t.second refl }

pub same_excess : (f g : Line) (m n : Marked) (x y : Line) → tokens f ≡ tokens g → m.token ≡ n.token → Begins f (m ∷ x) → Begins g (n ∷ y) → begins_colon (tokens x) ≡ begins_colon (tokens y) → m.excess ≡ n.excess
same_excess f g m n x y e i b d c =
    let t = both_take f g m n x y e i b d in
    let p = t.first.goes in
    let q : step t.stack m.token (begins_colon (tokens x)) ≡ To n.excess t.second.behind =
    subst (λ (z : Bool). step t.stack m.token z ≡ To n.excess t.second.behind) (sym c) (subst (λ (z : Token). step t.stack z (begins_colon (tokens y)) ≡ To n.excess t.second.behind) (sym i) t.second.goes) in
    cc

short_register : (f g : Line) (m n : Marked) (x y : Line) (v : Excess) → tokens f ≡ tokens g → m.token ≡ n.token → Begins f (m ∷ x) → Begins g (n ∷ y) → m.excess ≡ None → n.excess ≡ Some v → begins_colon (tokens x) ≡ true → begins_colon (tokens y) ≡ false → ⊥
short_register f g m n x y v e i b d j k c h =
    let t = both_take f g m n x y e i b d in
    let p : step t.stack m.token true ≡ To m.excess t.first.behind = subst (λ (z : Bool). step t.stack m.token z ≡ To m.excess t.first.behind) c t.first.goes in
    let q : step t.stack n.token false ≡ To n.excess t.second.behind = subst (λ (z : Bool). step t.stack n.token z ≡ To n.excess t.second.behind) h t.second.goes in
    step_flags t.stack m.token t.first.behind t.second.behind v (subst (λ (z : Option Excess). step t.stack m.token true ≡ To z t.first.behind) j p)
    (subst (λ (z : Option Excess). step t.stack m.token false ≡ To z t.second.behind) k (subst (λ (z : Token). step t.stack z false ≡ To n.excess t.second.behind) (sym i) q))

-- a limit is not passed within what a firmware begins with
no_colon_case : (r behind x : Line) (vs : List Token) (more qs after : List Placed) (u at : Token) → finds more ≡ map Is vs → tokens r ≡ vs → after ≡ more ++ qs → at ≡ u
    → (vs ≡ [] → (begins_colon (tokens behind) ≡ colon_first qs) ⊎ (colon_first qs ≡ true → begins_colon (tokens x) ≡ true → at ≡ u → ⊥))
    → (begins_colon (tokens (r ++ behind)) ≡ colon_first after → ⊥) → colon_first after ≡ true → begins_colon (tokens x) ≡ true → ⊥
no_colon_case r behind x [] [] qs after u at f e k t h never c o = by_choice (h refl)
  where
    by_choice : (begins_colon (tokens behind) ≡ colon_first qs) ⊎ (colon_first qs ≡ true → begins_colon (tokens x) ≡ true → at ≡ u → ⊥) → ⊥
    by_choice (inl a) = never (next_same r behind [] [] qs e refl (λ z. a) ∙ ap colon_first (sym k))
    by_choice (inr a) = a (ap colon_first (sym k) ∙ c) o t
no_colon_case r behind x [] (q ∷ more) qs after u at f e k t h never c o = cc
no_colon_case r behind x (v ∷ vs) more qs after u at f e k t h never c o = never (next_same r behind (v ∷ vs) more qs e f (λ z. cc) ∙ ap colon_first (sym k))

passed_before : (bytes rest : List ℕ) (v : Excess) (p : IsPassed bytes rest v) (at : Placed) (more qs : List Placed) (u : Token) (vs : List Token) (behind : Line) → placed rest ≡ at ∷ (more ++ qs) → at.found ≡ Is u → finds more ≡ map Is vs → IsNarrow u
    → Goes p.before u vs behind → (vs ≡ [] → (begins_colon (tokens behind) ≡ colon_first qs) ⊎ (colon_first qs ≡ true → begins_colon (tokens p.behind) ≡ true → p.at ≡ u → ⊥)) → ⊥
passed_before bytes rest v p at more qs u vs behind e i f n g h =
    let d = head p.at p.spelling p.after rest p.parts p.spells p.apart in
    let w = sym d.whole ∙ e in
    let j : d.as_ ≡ u = cc in
    let k : placed p.after ≡ more ++ qs = cc in
    let t : p.at ≡ u = alike_narrow p.at d.as_ d.alike (subst IsNarrow (sym j) n) ∙ j in
    let never : begins_colon (tokens (g.back ++ behind)) ≡ colon_first (placed p.after) → ⊥ =
    λ c. (let s = p.each g.front (g.back ++ behind) g.at g.same (g.is ∙ sym t) g.begins (has_colon p.after _ (sym c)) in let r = g.passes in cc) in
    three (begins_colon (tokens (g.back ++ behind))) (begins_colon (tokens p.behind)) (colon_first (placed p.after)) never
    (λ c. (let s = same_excess g.front p.reaches.front g.at (marked p.at (Some v)) (g.back ++ behind) p.behind (g.same ∙ sym p.reaches.same) (g.is ∙ sym t) g.begins p.reaches.begins c in let r = g.passes in cc))
    (λ c o. short_register g.front p.reaches.front g.at (marked p.at (Some v)) (g.back ++ behind) p.behind v (g.same ∙ sym p.reaches.same) (g.is ∙ sym t) g.begins p.reaches.begins g.passes refl c o)
    (no_colon_case g.back behind p.behind vs more qs (placed p.after) u p.at f g.rest k t h never)

-- one list of tokens goes on where the other ends

pub record Beyond (bytes : List ℕ) (ts : List Token) (rest : List ℕ) (b : Along bytes) : Type 0 where
  pub at : Placed
  pub more : List Placed
  pub next : Token
  pub others : List Token
  pub here : placed rest ≡ at ∷ (more ++ placed b.rest)
  pub is : at.found ≡ Is next
  pub found : finds more ≡ map Is others
  pub whole : b.ts ≡ ts ++ next ∷ others
  pub narrow : IsNarrow next
  pub on : Goes ts next others b.behind

beyond : (bytes : List ℕ) (ts : List Token) (rest : List ℕ) (b : Along bytes) (ps qs : List Placed) (p : Placed) (more : List Placed) → finds ps ≡ map Is ts → finds qs ≡ map Is b.ts → qs ≡ ps ++ p ∷ more → placed rest ≡ p ∷ (more ++ placed b.rest)
    → Beyond bytes ts rest b
beyond bytes ts rest b ps qs p more e f g h =
    let l = longer_tokens ps ts b.ts p more e (subst (λ (z : List Placed). finds z ≡ map Is b.ts) g f) in
    record {
      at = p;
      more = more;
      next = l.next;
      others = l.others;
      here = h;
      is = l.is;
      found = l.rest;
      whole = l.whole;
      narrow = (each_right IsNarrow ts (l.next ∷ l.others) (subst (λ (z : List Token). Each IsNarrow z) l.whole (narrow_along bytes b))).0;
      on = goes ts l.next l.others b.ts b.behind l.whole b.good;
    }

pub data Order (bytes : List ℕ) (a b : Along bytes) : Type 0 where
  before : Beyond bytes a.ts a.rest b → Order bytes a b
  level : a.ts ≡ b.ts → placed a.rest ≡ placed b.rest → Order bytes a b
  behind : Beyond bytes b.ts b.rest a → Order bytes a b

map_same : (ts us : List Token) → map Is ts ≡ map Is us → ts ≡ us
map_same [] [] e = refl
map_same [] (u ∷ us) e = cc
map_same (t ∷ ts) [] e = cc
map_same (t ∷ ts) (u ∷ us) e =
    let h : map Is ts ≡ map Is us = cc in
    let i : t ≡ u = cc in
    let r = map_same ts us h in
    cc (i, r)

pub order : (bytes : List ℕ) (a b : Along bytes) → Order bytes a b
order bytes a b = let p = prefix_along bytes a in let q = prefix_along bytes b in by_order p.ps q.ps p.found q.found (ordered p.ps (placed a.rest) q.ps (placed b.rest) (sym p.whole ∙ q.whole))
  where
    by_order : (ps qs : List Placed) → finds ps ≡ map Is a.ts → finds qs ≡ map Is b.ts → Ordered ps (placed a.rest) qs (placed b.rest) → Order bytes a b
    by_order ps qs e f (shorter p more g h) = before (beyond bytes a.ts a.rest b ps qs p more e f g h)
    by_order ps qs e f (equal g h) = level (map_same a.ts b.ts (sym e ∙ (ap finds g ∙ f))) h
    by_order ps qs e f (longer p more g h) = behind (beyond bytes b.ts b.rest a qs ps p more f e g h)

pub syntax_beyond : (bytes : List ℕ) (ts : List Token) (rest : List ℕ) (b : Along bytes) → IsUnexpected ts rest → Beyond bytes ts rest b → ⊥
syntax_beyond bytes ts rest b bad g =
    syntax_before ts rest bad g.at (g.more ++ placed b.rest) g.next g.here g.is g.narrow g.on.front g.on.at (g.on.back ++ b.behind) g.on.same g.on.is g.on.begins

passed_beyond : (bytes rest : List ℕ) (v : Excess) (p : IsPassed bytes rest v) (b : Along bytes) → (g : Beyond bytes p.before rest b)
    → (g.others ≡ [] → (begins_colon (tokens b.behind) ≡ colon_first (placed b.rest)) ⊎ (colon_first (placed b.rest) ≡ true → begins_colon (tokens p.behind) ≡ true → p.at ≡ g.next → ⊥)) → ⊥
passed_beyond bytes rest v p b g h = passed_before bytes rest v p g.at g.more (placed b.rest) g.next g.others b.behind g.here g.is g.found g.narrow g.on h

-- the faults and texts as such lists

unfoldable pub along_syntax : (bytes rest : List ℕ) → IsSyntaxFault bytes rest → Along bytes
along_syntax bytes rest s = record { ts = s.before; rest = rest; leads = s.leads; behind = s.behind; good = s.good }

unfoldable pub along_passed : (bytes rest : List ℕ) (v : Excess) → IsPassed bytes rest v → Along bytes
along_passed bytes rest v p = record { ts = p.before; rest = rest; leads = p.leads; behind = marked p.at (Some v) ∷ p.behind; good = p.reaches }

unfoldable pub along_text : (bytes : List ℕ) (w : PlainFirmware) → IsText w bytes → Along bytes
along_text bytes w t =
    record {
      ts = tokens (joined (lines_of w));
      rest = [];
      leads = t.spelled;
      behind = [];
      good = record {
        front = joined (lines_of w);
        same = refl;
        limits = each_joined PassesNothing (lines_of w) t.limits.tokens;
        begins = record {
          firmware = w;
          whole = record { words = free_front (joined (lines_of w)) (leads_free (tokens (joined (lines_of w))) bytes [] t.spelled); structs = t.limits.structs; functions = t.limits.functions };
          parts = sym (append-nil (joined (lines_of w)));
        };
      };
    }

is_colon_token : (t : Token) → is_colon t ≡ true → t ≡ Sign mark.Colon
is_colon_token (Sign mark.Colon) h = refl
is_colon_token (Sign _) h = cc
is_colon_token _ h = cc

-- a syntax fault does not stand at a colon that some firmware has there
syntax_at_colon : (ts : List Token) (rest : List ℕ) (ps : List Placed) → IsUnexpected ts rest → placed rest ≡ ps → colon_first ps ≡ true → (front x : Line) → tokens front ≡ ts → begins_colon (tokens x) ≡ true → Begins front x → ⊥
syntax_at_colon ts rest [] bad e h front x a c b = cc
syntax_at_colon ts rest (q ∷ tail) bad e h front [] a c b = cc
syntax_at_colon ts rest (q ∷ tail) bad e h front (n ∷ y) a c b = syntax_before ts rest bad q tail (Sign mark.Colon) e (is_the_colon q.found h) tt front n y a (is_colon_token n.token c) b

pub passed_then_syntax : (bytes r s : List ℕ) (v : Excess) (p : IsPassed bytes r v) (f : IsSyntaxFault bytes s) → Beyond bytes p.before r (along_syntax bytes s f) → ⊥
unfolding along_syntax
passed_then_syntax bytes r s v p f g = passed_beyond bytes r v p (along_syntax bytes s f) g (λ e. inr (λ c o t. at_colon e c o t))
  where
    at_colon : g.others ≡ [] → colon_first (placed s) ≡ true → begins_colon (tokens p.behind) ≡ true → p.at ≡ g.next → ⊥
    at_colon e c o t =
        let k : f.before ≡ p.before ++ p.at ∷ [] = g.whole ∙ (ap (λ (z : List Token). p.before ++ g.next ∷ z) e ∙ ap (λ (z : Token). p.before ++ z ∷ []) (sym t)) in
        let b = p.reaches.begins in
        syntax_at_colon f.before s (placed s) f.bad refl c (p.reaches.front ++ marked p.at (Some v) ∷ []) p.behind (tokens_with p.reaches.front p.before (marked p.at (Some v)) p.reaches.same ∙ sym k) o
        (record { firmware = b.firmware; whole = b.whole; parts = b.parts ∙ sym (append_assoc p.reaches.front (marked p.at (Some v) ∷ []) p.behind) })

wide_colon : (t u : Token) → AreWide t u → is_colon t ≡ is_colon u
wide_colon (Number n) (Number m) w = refl
wide_colon (Number n) (Name v) w = absurd w
wide_colon (Number n) (Key k) w = absurd w
wide_colon (Number n) (Operation o) w = absurd w
wide_colon (Number n) (Comparison c) w = absurd w
wide_colon (Number n) (Sign m) w = absurd w
wide_colon (Name v) u w = absurd w
wide_colon (Key k) u w = absurd w
wide_colon (Operation o) u w = absurd w
wide_colon (Comparison c) u w = absurd w
wide_colon (Sign m) u w = absurd w

alike_colon : (t u : Token) → Alike t u → is_colon t ≡ is_colon u
alike_colon t u (inl e) = ap is_colon e
alike_colon t u (inr w) = wide_colon t u w

pub passed_then_passed : (bytes r s : List ℕ) (v x : Excess) (p : IsPassed bytes r v) (q : IsPassed bytes s x) → Beyond bytes p.before r (along_passed bytes s x q) → ⊥
unfolding along_passed
passed_then_passed bytes r s v x p q g =
    let d = head q.at q.spelling q.after s q.parts q.spells q.apart in
    passed_beyond bytes r v p (along_passed bytes s x q) g (λ e. inl (alike_colon q.at d.as_ d.alike ∙ sym (ap colon_first d.whole)))

pub passed_then_text : (bytes r : List ℕ) (v : Excess) (w : PlainFirmware) (p : IsPassed bytes r v) (t : IsText w bytes) → Beyond bytes p.before r (along_text bytes w t) → ⊥
unfolding along_text
passed_then_text bytes r v w p t g = passed_beyond bytes r v p (along_text bytes w t) g (λ e. inl (sym (ap colon_first placed_nil)))
