-- Bytes have one first fault at most, and a text has none.
use Rattle.std.proofs.Common.{◌≡◌, ◌≤◌, inl, inr, ℕ, ◌+◌, ◌-◌, ◌^◌, [], ◌∷◌, ◌++◌, List, Bool, true, false, refl, sym, ap, ◌∙◌, subst, Option, Some, None, length, take, arith, nat_lt, nat_eq, if◌then◌else◌, count_by}
use Rattle.std.proofs.lemmas.Bool.Decides.{nat_tests}
use Rattle.std.specs.List.{suffix_len}
use Rattle.ir_model.specs.declared.token.Excess.{Excess}
use Rattle.ir_model.specs.declared.token.Excess.TheVariants as excess
use Rattle.ir_model.specs.declared.token.Pos.{Pos}
use Rattle.base_laws.specs.Lists.{Each}
use Rattle.ir_model.specs.Plain.{PlainFirmware}
use Rattle.ir_model.specs.Tokens.{Token, Name, Number, Key, Operation, Comparison, Sign, Marked}
use Rattle.ir_model.specs.Lines.{Line, marked, lines_of, number_excess, length_excess}
use Rattle.ir_model.specs.Texts.{joined, tokens, IsText, Begins, NoneBegins, IsUnexpected, end, nothing, token, begins_colon, IsPassed, IsPlace, is_inside_line, SyntaxAt, PassesAt, StartsToken}
use Rattle.ir_reader.specs.Laws.{FaultsAreSingle, TextsAreFaultless}
use Rattle.ir_reader.specs.Found.{Is, End, Placed, colon_first}
use Rattle.ir_reader.specs.Machine
use Rattle.ir_reader.specs.Machine.{Symbol, Move, Go, Stop, Skip, To, step, move, Structs}
use Rattle.ir_reader.specs.Scan.{placed}
use Rattle.ir_reader.proofs.Allow.{stands}
use Rattle.ir_reader.proofs.Firsts.{spelled_at, left_of, has_colon, begins_from}
use Rattle.ir_reader.proofs.Complete.{Free}
use Rattle.ir_reader.proofs.Pieces.{at_token, no_end}
use Rattle.ir_reader.proofs.Lang.{Langs, well}
use Rattle.ir_reader.proofs.Scanning.{placed_nil}
use Rattle.ir_reader.proofs.Theorem.{steps}
use Rattle.ir_reader.proofs.Values.{stepped}
use Rattle.ir_reader.proofs.Verdicts.{begun}
use Rattle.ir_reader.proofs.Whole.{Alike, AreWide}
use Rattle.ir_reader.proofs.Along.{refuted, Head, head, same_excess, Order, order, syntax_beyond, along_syntax, along_passed, along_text, passed_then_syntax, passed_then_passed, passed_then_text, before, level, behind}

-- at one place

wide_turned : (t u : Token) → AreWide t u → AreWide u t
wide_turned (Number n) (Number m) w = (w.1, w.0)
wide_turned (Number n) (Name v) w = absurd w
wide_turned (Number n) (Key k) w = absurd w
wide_turned (Number n) (Operation o) w = absurd w
wide_turned (Number n) (Comparison c) w = absurd w
wide_turned (Number n) (Sign m) w = absurd w
wide_turned (Name v) u w = absurd w
wide_turned (Key k) u w = absurd w
wide_turned (Operation o) u w = absurd w
wide_turned (Comparison c) u w = absurd w
wide_turned (Sign m) u w = absurd w

wide_through : (t w u : Token) → AreWide t w → AreWide w u → AreWide t u
wide_through (Number n) (Number m) (Number k) a b = (a.0, b.1)
wide_through (Number n) (Number m) (Name v) a b = absurd b
wide_through (Number n) (Number m) (Key k) a b = absurd b
wide_through (Number n) (Number m) (Operation o) a b = absurd b
wide_through (Number n) (Number m) (Comparison c) a b = absurd b
wide_through (Number n) (Number m) (Sign k) a b = absurd b
wide_through (Number n) (Name v) u a b = absurd a
wide_through (Number n) (Key k) u a b = absurd a
wide_through (Number n) (Operation o) u a b = absurd a
wide_through (Number n) (Comparison c) u a b = absurd a
wide_through (Number n) (Sign m) u a b = absurd a
wide_through (Name v) w u a b = absurd a
wide_through (Key k) w u a b = absurd a
wide_through (Operation o) w u a b = absurd a
wide_through (Comparison c) w u a b = absurd a
wide_through (Sign m) w u a b = absurd a

both_alike : (t u w : Token) → Alike t w → Alike u w → Alike t u
both_alike t u w (inl e) (inl f) = inl (e ∙ sym f)
both_alike t u w (inl e) (inr b) = inr (subst (λ (z : Token). AreWide z u) (sym e) (wide_turned u w b))
both_alike t u w (inr a) (inl f) = inr (subst (λ (z : Token). AreWide t z) (sym f) a)
both_alike t u w (inr a) (inr b) = inr (wide_through t w u a (wide_turned u w b))

-- a number may stand where another may
number_move : (s : Symbol) (n m : ℕ) (c : Bool) (e : Option Excess) (more : List Symbol) → move s (Number m) c ≡ Go e more → (x : Option Excess) × (move s (Number n) c ≡ Go x more)
number_move Machine.Num n m c e more h = (number_excess n None, cc)
number_move Machine.Len n m c e more h = (length_excess n, cc)
number_move Machine.Value n m c e more h = (number_excess n None, cc)
number_move (Machine.CellAt k) n m c e more h = (number_excess n (Machine.cell_excess k), cc)
number_move _ n m c e more h = cc

number_stops : (s : Symbol) (n m : ℕ) (c : Bool) → move s (Number m) c ≡ Skip → move s (Number n) c ≡ Skip
number_stops Machine.Num n m c h = cc
number_stops Machine.Len n m c h = cc
number_stops Machine.Value n m c h = cc
number_stops (Machine.CellAt k) n m c h = cc
number_stops _ n m c h = h

number_step : (st : List Symbol) (n m : ℕ) (c : Bool) (e : Option Excess) (stack : List Symbol) → step st (Number m) c ≡ To e stack → (x : Option Excess) × (step st (Number n) c ≡ To x stack)
number_step [] n m c e stack h = cc
number_step (s ∷ st) n m c e stack h = by_move (move s (Number m) c) refl h (number_step st n m c e stack)
  where
    by_move : (v : Move) → move s (Number m) c ≡ v → stepped st (Number m) c v ≡ To e stack → (step st (Number m) c ≡ To e stack → (x : Option Excess) × (step st (Number n) c ≡ To x stack)) → (x : Option Excess) × (step (s ∷ st) (Number n) c ≡ To x stack)
    by_move (Go f more) i g again =
        let r = number_move s n m c f more i in
        let j : more ++ st ≡ stack = cc in
        (r.0, ap (stepped st (Number n) c) r.1 ∙ ap (λ z. To r.0 z) j)
    by_move Stop i g again = cc
    by_move Skip i g again = let r = again g in (r.0, ap (stepped st (Number n) c) (number_stops s n m c i) ∙ r.1)

-- and passes the same where it is too wide
wide_excess : (n : ℕ) (x : Option Excess) → 2 ^ 32 ≤ n → number_excess n x ≡ Some excess.TooWide
wide_excess n x h = by_test (nat_lt n (2 ^ 32)) refl
  where
    by_test : (b : Bool) → nat_lt n (2 ^ 32) ≡ b → ◌≡◌ {A = Option Excess} (if b then x else Some excess.TooWide) (Some excess.TooWide)
    by_test true e = absurd (grind (arith, nat_tests))
    by_test false e = refl

wide_move : (s : Symbol) (n : ℕ) (c : Bool) (e : Option Excess) (more : List Symbol) → 2 ^ 32 ≤ n → move s (Number n) c ≡ Go e more → e ≡ Some excess.TooWide
wide_move Machine.Num n c e more w h = let i : number_excess n None ≡ e = cc in sym i ∙ wide_excess n None w
wide_move Machine.Len n c e more w h = let i : length_excess n ≡ e = cc in sym i ∙ wide_excess n _ w
wide_move Machine.Value n c e more w h = let i : number_excess n None ≡ e = cc in sym i ∙ wide_excess n None w
wide_move (Machine.CellAt k) n c e more w h = let i : number_excess n (Machine.cell_excess k) ≡ e = cc in sym i ∙ wide_excess n (Machine.cell_excess k) w
wide_move _ n c e more w h = cc

wide_step : (st : List Symbol) (n : ℕ) (c : Bool) (e : Option Excess) (stack : List Symbol) → 2 ^ 32 ≤ n → step st (Number n) c ≡ To e stack → e ≡ Some excess.TooWide
wide_step [] n c e stack w h = cc
wide_step (s ∷ st) n c e stack w h = by_move (move s (Number n) c) refl h (wide_step st n c e stack w)
  where
    by_move : (v : Move) → move s (Number n) c ≡ v → stepped st (Number n) c v ≡ To e stack → (step st (Number n) c ≡ To e stack → e ≡ Some excess.TooWide) → e ≡ Some excess.TooWide
    by_move (Go f more) i g again = let j : f ≡ e = cc in sym j ∙ wide_move s n c f more w i
    by_move Stop i g again = cc
    by_move Skip i g again = again g

-- what may stand in the place of what a firmware goes on with
record Walk (st : List Symbol) (front x : Line) : Type 0 where
  stack : List Symbol
  well_formed : well stack ≡ true
  others : Langs stack x
  back : (y : Line) → Langs stack y → Langs st (front ++ y)

walk : (front : Line) (st : List Symbol) → well st ≡ true → (x : Line) → Langs st (front ++ x) → Walk st front x
walk [] st w x l = record { stack = st; well_formed = w; others = l; back = λ y k. k }
walk (m ∷ ms) st w x l =
    let s = steps st w m (ms ++ x) l in
    let r = walk ms s.stack s.well x s.others in
    record { stack = r.stack; well_formed = r.well_formed; others = r.others; back = λ y k. stands st m.token _ m.excess s.stack s.goes (ms ++ y) (r.back y k) }

free_parts : (f : Line) (m n : Marked) (x : Line) → Each Free (f ++ m ∷ x) → Free n → Each Free (f ++ n ∷ x)
free_parts [] m n x h i = (i, h.1)
free_parts (l ∷ f) m n x h i = (h.0, free_parts f m n x h.1 i)

refuted_number : (ts : List Token) (n k : ℕ) → NoneBegins (ts ++ Number n ∷ []) → (front : Line) (v : Option Excess) (x : Line) → tokens front ≡ ts → Begins front (marked (Number k) v ∷ x) → ⊥
refuted_number ts n k none_so front v x e b =
    let w = walk front (Structs 0 ∷ []) refl (marked (Number k) v ∷ x) (begun front (marked (Number k) v ∷ x) b) in
    let s = steps w.stack w.well_formed (marked (Number k) v) x w.others in
    let r = number_step w.stack n k (begins_colon (tokens x)) v s.stack s.goes in
    let l = w.back (marked (Number n) r.0 ∷ x) (stands w.stack (Number n) (begins_colon (tokens x)) r.0 s.stack r.1 x s.others) in
    let f = free_parts front (marked (Number k) v) (marked (Number n) r.0) x (subst (λ (z : Line). Each Free z) b.parts b.whole.words) tt in
    refuted ts (Number n) none_so front (marked (Number n) r.0) x e refl (begins_from front (marked (Number n) r.0 ∷ x) l f)

refuted_alike : (ts : List Token) (t u : Token) → Alike t u → NoneBegins (ts ++ t ∷ []) → (front : Line) (v : Option Excess) (x : Line) → tokens front ≡ ts → Begins front (marked u v ∷ x) → ⊥
refuted_alike ts t u (inl e) n front v x h b = refuted ts t n front (marked u v) x h (sym e) b
refuted_alike ts (Number k) (Number m) (inr w) n front v x h b = refuted_number ts k m n front v x h b
refuted_alike ts (Number k) (Name z) (inr w) n front v x h b = w
refuted_alike ts (Number k) (Key z) (inr w) n front v x h b = w
refuted_alike ts (Number k) (Operation z) (inr w) n front v x h b = w
refuted_alike ts (Number k) (Comparison z) (inr w) n front v x h b = w
refuted_alike ts (Number k) (Sign z) (inr w) n front v x h b = w
refuted_alike ts (Name z) u (inr w) n front v x h b = w
refuted_alike ts (Key z) u (inr w) n front v x h b = w
refuted_alike ts (Operation z) u (inr w) n front v x h b = w
refuted_alike ts (Comparison z) u (inr w) n front v x h b = w
refuted_alike ts (Sign z) u (inr w) n front v x h b = w

heads : (p q : Placed) (ps qs : List Placed) → p ∷ ps ≡ q ∷ qs → (p.found ≡ q.found) × (ps ≡ qs)
heads p q ps qs e = let h : p ≡ q = cc in (ap (λ (z : Placed). z.found) h, cc)

-- what some firmware has there is no syntax fault
level_passed : (ts : List Token) (rest r : List ℕ) → IsUnexpected ts rest → (t : Token) (after : List ℕ) → Head t r after → placed rest ≡ placed r → (front : Line) (v : Option Excess) (x : Line) → tokens front ≡ ts → Begins front (marked t v ∷ x) → ⊥
level_passed ts rest r (end n) t after d e front v x h b = let f = (heads _ _ _ _ (sym placed_nil ∙ (e ∙ d.whole))).0 in cc
level_passed ts rest r (nothing [] n) t after d e front v x h b = n
level_passed ts rest r (nothing (c ∷ cs) n) t after d e front v x h b =
    let s = spelled_at d.as_ (c ∷ cs) (record { found = Is d.as_; left = d.left }) (placed after) (n.0, n.1) (e ∙ d.whole) refl in
    n.2 d.as_ s.spelling s.after s.parts s.spells s.apart
level_passed ts rest r (token u spelling after_ s k n) t after d e front v x h b =
    let g = head u spelling after_ (spelling ++ after_) refl s k in
    let f = (heads _ _ _ _ (sym g.whole ∙ (e ∙ d.whole))).0 in
    let j : g.as_ ≡ d.as_ = cc in
    refuted_alike ts u t (both_alike u t d.as_ (subst (λ (z : Token). Alike u z) j g.alike) d.alike) n front v x h b

level_text : (ts : List Token) (rest : List ℕ) → IsUnexpected ts rest → placed rest ≡ placed [] → (front : Line) → tokens front ≡ ts → Begins front [] → ⊥
level_text ts rest (end n) e front h b = n front h b
level_text ts rest (nothing [] n) e front h b = n
level_text ts rest (nothing (c ∷ cs) n) e front h b =
    let a = at_token c cs n.0 n.1 in
    no_end c cs ((heads _ _ _ _ (sym a ∙ (e ∙ placed_nil))).0)
level_text ts rest (token t spelling after s k n) e front h b = let g = head t spelling after (spelling ++ after) refl s k in let f = (heads _ _ _ _ (sym g.whole ∙ (e ∙ placed_nil))).0 in cc

-- a wide number passes this wherever it stands
wide_there : (front : Line) (t u : Token) (v : Excess) (x : Line) → AreWide t u → Begins front (marked t (Some v) ∷ x) → v ≡ excess.TooWide
wide_there front (Number n) u v x w b = by_other u w
  where
    by_number : 2 ^ 32 ≤ n → v ≡ excess.TooWide
    by_number h =
        let k = walk front (Structs 0 ∷ []) refl (marked (Number n) (Some v) ∷ x) (begun front (marked (Number n) (Some v) ∷ x) b) in
        let s = steps k.stack k.well_formed (marked (Number n) (Some v)) x k.others in
        let r = wide_step k.stack n (begins_colon (tokens x)) (Some v) s.stack h s.goes in
        cc

    by_other : (u : Token) → AreWide (Number n) u → v ≡ excess.TooWide
    by_other (Number m) w = by_number w.0
    by_other (Name z) w = absurd w
    by_other (Key z) w = absurd w
    by_other (Operation z) w = absurd w
    by_other (Comparison z) w = absurd w
    by_other (Sign z) w = absurd w
wide_there front (Name z) u v x w b = absurd w
wide_there front (Key z) u v x w b = absurd w
wide_there front (Operation z) u v x w b = absurd w
wide_there front (Comparison z) u v x w b = absurd w
wide_there front (Sign z) u v x w b = absurd w

-- two of three tests are the same
two_same : (a b c : Bool) → (A : Type 0) → (a ≡ c → A) → (b ≡ c → A) → (a ≡ b → A) → A
two_same true b true A f g h = f refl
two_same false b false A f g h = f refl
two_same true true false A f g h = h refl
two_same false false true A f g h = h refl
two_same true false false A f g h = g refl
two_same false true true A f g h = g refl

level_excess : (bytes r s : List ℕ) (v x : Excess) (p : IsPassed bytes r v) (q : IsPassed bytes s x) → p.before ≡ q.before → placed r ≡ placed s → v ≡ x
level_excess bytes r s v x p q e f =
    let d = head p.at p.spelling p.after r p.parts p.spells p.apart in
    let g = head q.at q.spelling q.after s q.parts q.spells q.apart in
    let w = heads _ _ _ _ (sym d.whole ∙ (f ∙ g.whole)) in
    let i = w.0 in
    let j : g.as_ ≡ d.as_ = cc in
    by_alike w.1 (both_alike p.at q.at d.as_ d.alike (subst (λ (z : Token). Alike q.at z) j g.alike))
  where
    by_alike : placed p.after ≡ placed q.after → Alike p.at q.at → v ≡ x
    by_alike k (inr w) = wide_there p.reaches.front p.at q.at v p.behind w p.reaches.begins ∙ sym (wide_there q.reaches.front q.at p.at x q.behind (wide_turned p.at q.at w) q.reaches.begins)
    by_alike k (inl t) =
        two_same (begins_colon (tokens p.behind)) (begins_colon (tokens q.behind)) (colon_first (placed p.after)) (v ≡ x)
        (λ c. (let i = q.each p.reaches.front p.behind (marked p.at (Some v)) (p.reaches.same ∙ e) t p.reaches.begins (has_colon q.after _ (sym (c ∙ ap colon_first k))) in let o : v ≡ x = cc in o))
        (λ c. (let i = p.each q.reaches.front q.behind (marked q.at (Some x)) (q.reaches.same ∙ sym e) (sym t) q.reaches.begins (has_colon p.after _ (sym c)) in let o : v ≡ x = cc in o))
        (λ c. (let i = same_excess p.reaches.front q.reaches.front (marked p.at (Some v)) (marked q.at (Some x)) p.behind q.behind (p.reaches.same ∙ (e ∙ sym q.reaches.same)) t p.reaches.begins q.reaches.begins c in let o : v ≡ x = cc in o))

-- places

starts_syntax : (ts : List Token) (rest : List ℕ) → IsUnexpected ts rest → StartsToken rest
starts_syntax ts rest (end n) = tt
starts_syntax ts rest (nothing [] n) = tt
starts_syntax ts rest (nothing (c ∷ cs) n) = (n.0, n.1)
starts_syntax ts rest (token t spelling after s k n) = (head t spelling after (spelling ++ after) refl s k).starts

starts_passed : (bytes rest : List ℕ) (v : Excess) → IsPassed bytes rest v → StartsToken rest
starts_passed bytes rest v p = (head p.at p.spelling p.after rest p.parts p.spells p.apart).starts

same_length : (r s : List ℕ) → StartsToken r → StartsToken s → placed r ≡ placed s → length r ≡ length s
same_length [] s a b e = sym (left_of [] (record { found = End; left = 0 }) [] a placed_nil) ∙ left_of s (record { found = End; left = 0 }) [] b (sym e ∙ placed_nil)
same_length (c ∷ cs) s a b e = let h = at_token c cs a.0 a.1 in sym (left_of (c ∷ cs) _ _ a h) ∙ left_of s _ _ b (sym e ∙ h)

same_place : (bytes r s : List ℕ) (p q : Pos) → IsPlace bytes r p → IsPlace bytes s q → length r ≡ length s → p ≡ q
same_place bytes r s p q a b e =
    let l : p.line ≡ q.line = a.line ∙ (ap (λ n. 1 + count_by (λ b. nat_eq b 10) (take (length bytes - n) bytes)) e ∙ sym b.line) in
    let c : p.col ≡ q.col = a.col ∙ (ap (λ n. 1 + suffix_len is_inside_line (take (length bytes - n) bytes)) e ∙ sym b.col) in
    let d : ◌≡◌ {A = Pos} (record { line = p.line; col = p.col }) (record { line = q.line; col = q.col }) = rw (l, c) refl in
    d

-- the laws

one_syntax : (bytes : List ℕ) (p q : Pos) → SyntaxAt bytes p → SyntaxAt bytes q → p ≡ q
unfolding along_syntax
one_syntax bytes p q a b = by_order (order bytes (along_syntax bytes a.rest a.fault) (along_syntax bytes b.rest b.fault))
  where
    by_order : Order bytes (along_syntax bytes a.rest a.fault) (along_syntax bytes b.rest b.fault) → p ≡ q
    by_order (before g) = absurd (syntax_beyond bytes a.fault.before a.rest (along_syntax bytes b.rest b.fault) a.fault.bad g)
    by_order (level e f) = same_place bytes a.rest b.rest p q a.place b.place (same_length a.rest b.rest (starts_syntax a.fault.before a.rest a.fault.bad) (starts_syntax b.fault.before b.rest b.fault.bad) f)
    by_order (behind g) = absurd (syntax_beyond bytes b.fault.before b.rest (along_syntax bytes a.rest a.fault) b.fault.bad g)

one_kind : (bytes : List ℕ) (p q : Pos) (v : Excess) → SyntaxAt bytes p → PassesAt bytes v q → ⊥
unfolding along_syntax along_passed
one_kind bytes p q v a b = by_order (order bytes (along_syntax bytes a.rest a.fault) (along_passed bytes b.rest v b.fault))
  where
    by_order : Order bytes (along_syntax bytes a.rest a.fault) (along_passed bytes b.rest v b.fault) → ⊥
    by_order (before g) = syntax_beyond bytes a.fault.before a.rest (along_passed bytes b.rest v b.fault) a.fault.bad g
    by_order (level e f) =
        level_passed a.fault.before a.rest b.rest a.fault.bad b.fault.at b.fault.after (head b.fault.at b.fault.spelling b.fault.after b.rest b.fault.parts b.fault.spells b.fault.apart) f
        b.fault.reaches.front (Some v) b.fault.behind (b.fault.reaches.same ∙ sym e) b.fault.reaches.begins
    by_order (behind g) = passed_then_syntax bytes b.rest a.rest v b.fault a.fault g

one_passed : (bytes : List ℕ) (p q : Pos) (v x : Excess) → PassesAt bytes v p → PassesAt bytes x q → (v ≡ x) × (p ≡ q)
unfolding along_passed
one_passed bytes p q v x a b = by_order (order bytes (along_passed bytes a.rest v a.fault) (along_passed bytes b.rest x b.fault))
  where
    by_order : Order bytes (along_passed bytes a.rest v a.fault) (along_passed bytes b.rest x b.fault) → (v ≡ x) × (p ≡ q)
    by_order (before g) = absurd (passed_then_passed bytes a.rest b.rest v x a.fault b.fault g)
    by_order (level e f) = (
      level_excess bytes a.rest b.rest v x a.fault b.fault e f,
      same_place bytes a.rest b.rest p q a.place b.place (same_length a.rest b.rest (starts_passed bytes a.rest v a.fault) (starts_passed bytes b.rest x b.fault) f),
    )
    by_order (behind g) = absurd (passed_then_passed bytes b.rest a.rest x v b.fault a.fault g)

pub faults_are_single : FaultsAreSingle
faults_are_single bytes p q = (one_syntax bytes p q, λ v. one_kind bytes p q v, λ v x. one_passed bytes p q v x)

no_syntax : (bytes : List ℕ) (w : PlainFirmware) (p : Pos) → IsText w bytes → SyntaxAt bytes p → ⊥
unfolding along_text along_syntax
no_syntax bytes w p t a = by_order (order bytes (along_syntax bytes a.rest a.fault) (along_text bytes w t))
  where
    by_order : Order bytes (along_syntax bytes a.rest a.fault) (along_text bytes w t) → ⊥
    by_order (before g) = syntax_beyond bytes a.fault.before a.rest (along_text bytes w t) a.fault.bad g
    by_order (level e f) = level_text a.fault.before a.rest a.fault.bad f (joined (lines_of w)) (sym e) (along_text bytes w t).good.begins
    by_order (behind g) = let h = sym placed_nil ∙ g.here in let i = g.is in cc

no_passed : (bytes : List ℕ) (w : PlainFirmware) (p : Pos) (v : Excess) → IsText w bytes → PassesAt bytes v p → ⊥
unfolding along_text along_passed
no_passed bytes w p v t a = by_order (order bytes (along_passed bytes a.rest v a.fault) (along_text bytes w t))
  where
    by_order : Order bytes (along_passed bytes a.rest v a.fault) (along_text bytes w t) → ⊥
    by_order (before g) = passed_then_text bytes a.rest v w a.fault t g
    by_order (level e f) =
        let d = head a.fault.at a.fault.spelling a.fault.after a.rest a.fault.parts a.fault.spells a.fault.apart in
        let h = (heads _ _ _ _ (sym d.whole ∙ (f ∙ placed_nil))).0 in
        cc
    by_order (behind g) = let h = sym placed_nil ∙ g.here in let i = g.is in cc

pub texts_are_faultless : TextsAreFaultless
texts_are_faultless w bytes t (inl a) = no_syntax bytes w a.0 t a.1
texts_are_faultless w bytes t (inr a) = no_passed bytes w a.1 a.0 t a.2
