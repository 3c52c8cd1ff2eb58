-- The fault at which the moves stop is the first of the bytes.
use Rattle.std.proofs.Common.{◌≡◌, ℕ, [], ◌∷◌, ◌++◌, List, Bool, true, false, refl, sym, ap, ◌∙◌, subst, append_assoc, append-nil, Some, length, take, drop, arith, IsUtf8, Result, Ok, Err, IfErr}
use Rattle.std.proofs.Common.{◌≤◌}
use Rattle.std.proofs.lemmas.List.{take-append-drop}
use Rattle.ir_model.specs.declared.token.Excess.{Excess}
use Rattle.ir_model.specs.declared.token.Excess.TheVariants as excess
use Rattle.ir_model.specs.declared.token.Mark.TheVariants as mark
use Rattle.ir_model.specs.declared.token.Pos.{Pos}
use Rattle.ir_model.specs.declared.firmware.Firmware.{Firmware}
use Rattle.base_laws.specs.Lists.{Each}
use Rattle.ir_model.specs.Plain.{PlainFirmware, funcs_of}
use Rattle.ir_model.specs.Tokens.{Token, Sign, Marked}
use Rattle.ir_model.specs.Lines.{Line, marked, lines_of}
use Rattle.ir_model.specs.Texts.{joined, tokens, Spells, IsApart, Leads, here, blank, comment, token, IsFree, Begins, NoneBegins, NoneIs, Reaches, BeginsNothing, IsUnexpected, end, nothing, HasColon, begins_colon, Agrees, same, none, IsPlace, SyntaxAt, PassesAt, StartsToken}
use Rattle.ir_model.specs.Texts as texts
use Rattle.ir_reader.specs.declared.error.Fault.{Fault}
use Rattle.ir_reader.specs.declared.error.FaultKind.{FaultKind}
use Rattle.ir_reader.specs.declared.error.FaultKind.TheVariants as kind
use Rattle.ir_reader.specs.declared.fault.TextFault.{TextFault}
use Rattle.ir_reader.specs.declared.fault.TextFault.TheVariants as text
use Rattle.ir_reader.specs.First.{IsFirst}
use Rattle.ir_reader.specs.Found.{Found, Is, Bad, End, Placed, finds, colon_first, is_colon_found}
use Rattle.ir_reader.specs.Machine.{Symbol, To, step, fault, Structs}
use Rattle.ir_reader.specs.Parts.{HasBlocks}
use Rattle.ir_reader.specs.Reading.{HasFields}
use Rattle.ir_reader.specs.Refusals.{Refuses, IsAt}
use Rattle.ir_reader.specs.Scan.{placed, first_lexeme, lexeme_of}
use Rattle.ir_reader.proofs.Allow.{only, stands}
use Rattle.ir_reader.proofs.Complete.{Free, complete, Choice, some_such, none_such, choose}
use Rattle.ir_reader.proofs.Lang
use Rattle.ir_reader.proofs.Lang.{Langs, well}
use Rattle.ir_reader.proofs.Pieces.{Reached, reached, spelled_lexeme, at_token, nothing_left}
use Rattle.ir_reader.proofs.Proper.{leads_free, free_token}
use Rattle.ir_reader.proofs.Scanning.{placed_nil}
use Rattle.ir_reader.proofs.Stops.{stopped, Stopped, Why, stuck, bad, short, over}
use Rattle.ir_reader.proofs.Texts.{all_functions}
use Rattle.ir_reader.proofs.Verdicts.{begun, taken, none_there, none_ends, each_there}
use Rattle.ir_reader.proofs.Whole.{finds_some, finds_from}
use Rattle.base_laws.proofs.Lists.{each_both}

-- what stands where a text begins is a firmware's
pub record Made (l : Line) : Type 0 where
  pub firmware : PlainFirmware
  pub fields : HasFields firmware.structs
  pub blocks : HasBlocks (funcs_of firmware)
  pub whole : joined (lines_of firmware) ≡ l

pub made : (l : Line) → Lang.Lang (Structs 0) l → Made l
unfolding lines_of
made l (Lang.structs_is k ss ps gs files e h) =
    record { firmware = record { structs = ss; periphs = ps; globals = gs; files = files }; fields = e; blocks = all_functions files h; whole = simp append_assoc }

pub begins_from : (front x : Line) → Langs (Structs 0 ∷ []) (front ++ x) → Each Free (front ++ x) → Begins front x
begins_from front x l f =
    let m = made (front ++ x) (only (Structs 0) (front ++ x) l) in
    record { firmware = m.firmware; whole = record { words = subst (λ (z : Line). Each Free z) (sym m.whole) f; structs = m.fields; functions = m.blocks }; parts = m.whole }

pub free_front : (front : Line) → Each IsFree (tokens front) → Each Free front
free_front [] h = tt
free_front (m ∷ ms) h = (h.0, free_front ms h.1)

-- some firmware has the tokens before the fault, and then what may stand there
reaches : (ps : List Placed) (f : Fault) (s : Stopped (Structs 0 ∷ []) ps f) (bytes rest : List ℕ) → Leads s.ts bytes rest → (x : Line) → Langs s.stack x → Each Free x → Reaches s.ts x
reaches ps f s bytes rest l x r free =
    let g = s.back x r in
    let h : Each IsFree (tokens g.front) = subst (λ (z : List Token). Each IsFree z) (sym g.same) (leads_free s.ts bytes rest l) in
    record { front = g.front; same = g.same; limits = g.limits; begins = begins_from g.front x g.stands (each_both Free g.front x (free_front g.front h) free) }

-- a token that is found is spelled there
pub record SpelledAt (t : Token) (rest : List ℕ) (after_ : List Placed) : Type 0 where
  pub spelling : List ℕ
  pub after : List ℕ
  pub parts : rest ≡ spelling ++ after
  pub spells : Spells t spelling
  pub apart : IsApart t after
  pub behind : after_ ≡ placed after

pub spelled_at : (t : Token) (rest : List ℕ) (at : Placed) (after_ : List Placed) → StartsToken rest → placed rest ≡ at ∷ after_ → at.found ≡ Is t → SpelledAt t rest after_
spelled_at t [] at after_ s h i = let e = sym placed_nil ∙ h in cc
spelled_at t (b ∷ bs) at after_ s h i =
    let e = sym (at_token b bs s.0 s.1) ∙ h in
    let f : (first_lexeme b bs).found ≡ Is t = cc in
    let p = spelled_lexeme b bs t f in
    record { spelling = take (first_lexeme b bs).len (b ∷ bs); after = drop (first_lexeme b bs).len (b ∷ bs); parts = sym (take-append-drop (first_lexeme b bs).len (b ∷ bs)); spells = p.spells; apart = p.apart; behind = cc }

-- where no token is found, none is spelled
nothing_at : (rest : List ℕ) (at : Placed) (after_ : List Placed) → StartsToken rest → placed rest ≡ at ∷ after_ → at.found ≡ Bad → BeginsNothing rest
nothing_at [] at after_ s h i = let e = sym placed_nil ∙ h in cc
nothing_at (b ∷ bs) at after_ s h i = (s.0, s.1, none_spelled)
  where
    none_spelled : (t : Token) (spelling behind : List ℕ) → b ∷ bs ≡ spelling ++ behind → Spells t spelling → IsApart t behind → ⊥
    none_spelled t spelling behind p q a =
        let e = sym (at_token b bs s.0 s.1) ∙ h in
        let f : (first_lexeme b bs).found ≡ Bad = cc in
        let u = finds_some t spelling behind q a in
        let g : (lexeme_of (b ∷ bs)).found ≡ Is u.0 = subst (λ (z : List ℕ). (lexeme_of z).found ≡ Is u.0) (sym p) u.1.found in
        cc

-- a colon is found first where one is spelled first

leads_on : (ts us : List Token) (bytes rest last : List ℕ) → us ≡ [] → Leads us bytes rest → Leads ts rest last → Leads ts bytes last
leads_on ts us bytes rest last e (here b) l = l
leads_on ts us bytes rest last e (blank b {bs = c} h k) l = blank b h (leads_on ts us c rest last e k l)
leads_on ts us bytes rest last e (comment b inside {bs = c} h i j k) l = comment b inside h i j (leads_on ts us c rest last e k l)
leads_on ts us bytes rest last e (token t w s a k) l = cc

pub is_the_colon : (f : Found) → is_colon_found f ≡ true → f ≡ Is (Sign mark.Colon)
is_the_colon (Is (Sign mark.Colon)) h = refl
is_the_colon (Is (Sign _)) h = cc
is_the_colon (Is _) h = cc
is_the_colon Bad h = cc
is_the_colon End h = cc

colon_spelled : (bytes : List ℕ) (ps : List Placed) → placed bytes ≡ ps → colon_first ps ≡ true → HasColon true bytes
colon_spelled bytes [] e h = cc
colon_spelled bytes (p ∷ ps) e h =
    let l : length bytes ≤ length bytes = omega arith in
    let r = reached (length bytes) bytes l [] [] p ps refl e in
    let s = spelled_at (Sign mark.Colon) r.rest p ps r.starts r.here (is_the_colon p.found h) in
    let k : Leads (Sign mark.Colon ∷ []) (s.spelling ++ s.after) s.after = token (Sign mark.Colon) s.spelling s.spells s.apart (here s.after) in
    (s.after, leads_on (Sign mark.Colon ∷ []) [] bytes r.rest s.after refl r.leads (subst (λ (z : List ℕ). Leads (Sign mark.Colon ∷ []) z s.after) (sym s.parts) k))

first_found : (ps : List Placed) (fs : List Found) → finds ps ≡ Is (Sign mark.Colon) ∷ fs → colon_first ps ≡ true
first_found [] fs e = cc
first_found (p ∷ ps) fs e = let h : p.found ≡ Is (Sign mark.Colon) = cc in rw h refl

colon_found : (bytes rest : List ℕ) → Leads (Sign mark.Colon ∷ []) bytes rest → colon_first (placed bytes) ≡ true
colon_found bytes rest l = first_found (placed bytes) (finds (placed rest)) (finds_from (Sign mark.Colon ∷ []) bytes rest l (tt, tt))

pub has_colon : (bytes : List ℕ) (c : Bool) → colon_first (placed bytes) ≡ c → HasColon c bytes
has_colon bytes true e = colon_spelled bytes (placed bytes) refl e
has_colon bytes false e = λ rest l. let h = colon_found bytes rest l in cc

pub colon_is : (bytes : List ℕ) (c : Bool) → HasColon c bytes → colon_first (placed bytes) ≡ c
colon_is bytes true h = colon_found bytes h.0 h.1
colon_is bytes false h = by_first (colon_first (placed bytes)) refl
  where
    by_first : (b : Bool) → colon_first (placed bytes) ≡ b → colon_first (placed bytes) ≡ false
    by_first true e = let g = colon_spelled bytes (placed bytes) refl e in absurd (h g.0 g.1)
    by_first false e = e

-- syntax

record Parted (ts : List Token) (t : Token) (l : Line) : Type 0 where
  front : Line
  last : Marked
  whole : l ≡ front ++ last ∷ []
  same : tokens front ≡ ts
  is : last.token ≡ t

parted : (ts : List Token) (t : Token) (l : Line) → tokens l ≡ ts ++ t ∷ [] → Parted ts t l
parted [] t [] e = cc
parted [] t (m ∷ []) e = record { front = []; last = m; whole = refl; same = refl; is = cc }
parted [] t (m ∷ n ∷ ms) e = cc
parted (u ∷ ts) t [] e = cc
parted (u ∷ ts) t (m ∷ ms) e =
    let r : tokens ms ≡ ts ++ t ∷ [] = cc in
    let i : m.token ≡ u = cc in
    let p = parted ts t ms r in
    let q = p.same in
    record { front = m ∷ p.front; last = p.last; whole = ap (λ z. m ∷ z) p.whole; same = cc (i, q); is = p.is }

none_begins : (ps : List Placed) (f : Fault) (s : Stopped (Structs 0 ∷ []) ps f) → f.kind ≡ kind.Syntax → (t : Token) → s.at.found ≡ Is t → NoneBegins (s.ts ++ t ∷ [])
none_begins ps f s k t i front behind e b =
    let p = parted s.ts t front e in
    let j : s.at.found ≡ Is p.last.token = i ∙ ap Is (sym p.is) in
    let l = begun front behind b in
    let whole : front ++ behind ≡ p.front ++ p.last ∷ behind = ap (λ (z : Line). z ++ behind) p.whole ∙ append_assoc p.front (p.last ∷ []) behind in
    let g = s.forth refl p.front behind p.last p.same j (subst (λ (z : Line). Langs (Structs 0 ∷ []) z) whole l) in
    none_there f.kind s.stack s.at s.after_ s.why k p.last behind j g.0 g.1

none_is : (ps : List Placed) (f : Fault) (s : Stopped (Structs 0 ∷ []) ps f) → f.kind ≡ kind.Syntax → s.at.found ≡ End → NoneIs s.ts
none_is ps f s k i front e b =
    none_ends f.kind s.stack s.at s.after_ s.why k i (s.end refl front e i (subst (λ (z : Line). Langs (Structs 0 ∷ []) z) (append-nil front) (begun front [] b)))

unexpected : (k : FaultKind) (stack : List Symbol) (at : Placed) (after_ : List Placed) → Why stack at after_ k → k ≡ kind.Syntax → (ts : List Token) (rest : List ℕ) → StartsToken rest → placed rest ≡ at ∷ after_
    → ((t : Token) → at.found ≡ Is t → NoneBegins (ts ++ t ∷ [])) → (at.found ≡ End → NoneIs ts) → IsUnexpected ts rest
unexpected k stack at after_ (stuck t i e) h ts rest s p n m =
    let q = spelled_at t rest at after_ s p i in
    subst (λ (z : List ℕ). IsUnexpected ts z) (sym q.parts) (texts.token t q.spelling q.after q.spells q.apart (n t i))
unexpected k stack at after_ (bad i) h ts rest s p n m = nothing rest (nothing_at rest at after_ s p i)
unexpected k stack at after_ (short i e) h ts rest s p n m = subst (λ (z : List ℕ). IsUnexpected ts z) (sym (nothing_left rest at after_ s p i)) (end (m i))
unexpected k stack at after_ (over t x behind i e) h ts rest s p n m = cc

-- how much is left where something is found
pub left_of : (rest : List ℕ) (at : Placed) (after_ : List Placed) → StartsToken rest → placed rest ≡ at ∷ after_ → at.left ≡ length rest
left_of [] at after_ s h = let e = sym placed_nil ∙ h in cc
left_of (b ∷ bs) at after_ s h = let e = sym (at_token b bs s.0 s.1) ∙ h in cc

pub place_of : (bytes rest : List ℕ) (left : ℕ) (pos : Pos) → left ≡ length rest → IsAt bytes left pos → IsPlace bytes rest pos
place_of bytes rest left pos e p =
    let q : IsAt bytes (length rest) pos = subst (λ (z : ℕ). IsAt bytes z pos) e p in
    record { line = q.line; col = q.col }

pub syntax_at : (bytes : List ℕ) (f : Fault) (pos : Pos) → IsUtf8 bytes → fault (Structs 0 ∷ []) (placed bytes) ≡ Some f → f.kind ≡ kind.Syntax → IsAt bytes f.left pos → SyntaxAt bytes pos
syntax_at bytes f pos u e k p =
    let s = stopped (placed bytes) (Structs 0 ∷ []) f e in
    let n : length bytes ≤ length bytes = omega arith in
    let r = reached (length bytes) bytes n s.ts s.before s.at s.after_ s.found s.whole in
    let c = complete s.stack in
    record {
      utf8 = u;
      rest = r.rest;
      place = place_of bytes r.rest f.left pos (s.place ∙ left_of r.rest s.at s.after_ r.starts r.here) p;
      fault = record {
        before = s.ts;
        leads = r.leads;
        behind = c.line;
        good = reaches (placed bytes) f s bytes r.rest r.leads c.line c.stands c.free;
        bad = unexpected f.kind s.stack s.at s.after_ s.why k s.ts r.rest r.starts r.here (none_begins (placed bytes) f s k) (none_is (placed bytes) f s k);
      };
    }

-- limits

-- where the moves stop for a limit
passing_by : (k : FaultKind) (v : Excess) (stack : List Symbol) (at : Placed) (after_ : List Placed) → Why stack at after_ k → k ≡ kind.Exceeds v
    → (t : Token) × (at.found ≡ Is t) × ((behind : List Symbol) × (step stack t (colon_first after_) ≡ To (Some v) behind))
passing_by k v stack at after_ (stuck t i e) h = cc
passing_by k v stack at after_ (bad i) h = cc
passing_by k v stack at after_ (short i e) h = cc
passing_by k v stack at after_ (over t x behind i e) h = let j : x ≡ v = cc in (t, i, (behind, cc (e, j)))

-- a firmware goes on with this token there
there : (bytes : List ℕ) (f : Fault) (s : Stopped (Structs 0 ∷ []) (placed bytes) f) (t : Token) → s.at.found ≡ Is t → (front others : Line) (m : Marked) → tokens front ≡ s.ts → m.token ≡ t → Begins front (m ∷ others)
    → (s.at.found ≡ Is m.token) × (well s.stack ≡ true) × Langs s.stack (m ∷ others)
there bytes f s t i front others m a b g =
    let j : s.at.found ≡ Is m.token = i ∙ ap Is (sym b) in
    let w = s.forth refl front others m a j (begun front (m ∷ others) g) in
    (j, w.0, w.1)

agrees_by : (bytes : List ℕ) (f : Fault) (v : Excess) (s : Stopped (Structs 0 ∷ []) (placed bytes) f) (t : Token) (i : s.at.found ≡ Is t) (behind : List Symbol) → step s.stack t (colon_first s.after_) ≡ To (Some v) behind
    → (after : List ℕ) → s.after_ ≡ placed after → ((x : Line) → Langs behind x → begins_colon (tokens x) ≡ colon_first s.after_ → ⊥) → (x : Line) → Agrees s.ts t x after
agrees_by bytes f v s t i behind goes after q n x =
    none (
    λ front others m a b g h.
    let w = there bytes f s t i front others m a b g in
    let c : begins_colon (tokens others) ≡ colon_first s.after_ = sym (colon_is after (begins_colon (tokens others)) h) ∙ ap colon_first (sym q) in
    let y = taken s.stack m others (colon_first s.after_) w.1 w.2 c in
    let z : step s.stack t (colon_first s.after_) ≡ To m.excess y.behind = subst (λ (u : Token). step s.stack u (colon_first s.after_) ≡ To m.excess y.behind) b y.goes in
    let d : y.behind ≡ behind = cc in
    n others (subst (λ (u : List Symbol). Langs u others) d y.others) c
    )

passed_with : (bytes : List ℕ) (f : Fault) (pos : Pos) (v : Excess) → IsUtf8 bytes → (s : Stopped (Structs 0 ∷ []) (placed bytes) f) → f.kind ≡ kind.Exceeds v → IsAt bytes f.left pos → (r : Reached s.ts bytes s.at s.after_)
    → (t : Token) (i : s.at.found ≡ Is t) (behind : List Symbol) → step s.stack t (colon_first s.after_) ≡ To (Some v) behind → (q : SpelledAt t r.rest s.after_)
    → (x : Line) → Langs behind x → Each Free x → Agrees s.ts t x q.after → PassesAt bytes v pos
passed_with bytes f pos v u s k p r t i behind goes q x l free agrees =
    record {
      utf8 = u;
      rest = r.rest;
      place = place_of bytes r.rest f.left pos (s.place ∙ left_of r.rest s.at s.after_ r.starts r.here) p;
      fault = record {
        before = s.ts;
        leads = r.leads;
        at = t;
        spelling = q.spelling;
        after = q.after;
        parts = q.parts;
        spells = q.spells;
        apart = q.apart;
        behind = x;
        reaches = reaches (placed bytes) f s bytes r.rest r.leads (marked t (Some v) ∷ x) (stands s.stack t (colon_first s.after_) (Some v) behind goes x l) (free_token t q.spelling q.spells, free);
        colon = agrees;
        each =
            λ front others m a b g h.
            let w = there bytes f s t i front others m a b g in
            let c : begins_colon (tokens others) ≡ colon_first s.after_ = sym (colon_is q.after (begins_colon (tokens others)) h) ∙ ap colon_first (sym q.behind) in
            each_there f.kind s.stack s.at s.after_ s.why v k m others w.0 c w.1 w.2;
      };
    }

passed_by : (bytes : List ℕ) (f : Fault) (pos : Pos) (v : Excess) → IsUtf8 bytes → (s : Stopped (Structs 0 ∷ []) (placed bytes) f) → f.kind ≡ kind.Exceeds v → IsAt bytes f.left pos → (r : Reached s.ts bytes s.at s.after_)
    → (t : Token) (i : s.at.found ≡ Is t) (behind : List Symbol) → step s.stack t (colon_first s.after_) ≡ To (Some v) behind → (q : SpelledAt t r.rest s.after_)
    → Choice behind (colon_first s.after_) → PassesAt bytes v pos
passed_by bytes f pos v u s k p r t i behind goes q (some_such x l free c) =
    let h : HasColon (begins_colon (tokens x)) q.after = has_colon q.after (begins_colon (tokens x)) (ap colon_first (sym q.behind) ∙ sym c) in
    passed_with bytes f pos v u s k p r t i behind goes q x l free (same h)
passed_by bytes f pos v u s k p r t i behind goes q (none_such n) =
    let c = complete behind in
    passed_with bytes f pos v u s k p r t i behind goes q c.line c.stands c.free (agrees_by bytes f v s t i behind goes q.after q.behind n c.line)

pub passed_at : (bytes : List ℕ) (f : Fault) (pos : Pos) (v : Excess) → IsUtf8 bytes → fault (Structs 0 ∷ []) (placed bytes) ≡ Some f → f.kind ≡ kind.Exceeds v → IsAt bytes f.left pos → PassesAt bytes v pos
passed_at bytes f pos v u e k p =
    let s = stopped (placed bytes) (Structs 0 ∷ []) f e in
    let n : length bytes ≤ length bytes = omega arith in
    let r = reached (length bytes) bytes n s.ts s.before s.at s.after_ s.found s.whole in
    let w = passing_by f.kind v s.stack s.at s.after_ s.why k in
    passed_by bytes f pos v u s k p r w.0 w.1 w.2.0 w.2.1 (spelled_at w.0 r.rest s.at s.after_ r.starts r.here w.1) (choose w.2.0 (colon_first s.after_))

-- the fault that is named is the first
pub first_fault : (bytes : List ℕ) (e : TextFault) → Refuses bytes e → IsFirst bytes e
first_fault bytes (text.Utf8 at) h = h
first_fault bytes (text.Syntax pos) h = syntax_at bytes h.at pos h.utf8 h.stop h.place.0 h.place.1
first_fault bytes (text.NumberTooWide pos) h = passed_at bytes h.at pos excess.TooWide h.utf8 h.stop h.place.0 h.place.1
first_fault bytes (text.Limit which pos) h = passed_at bytes h.at pos (excess.Passes which) h.utf8 h.stop h.place.0 h.place.1
first_fault bytes text.NoMemory h = tt

pub first_named : (bytes : List ℕ) (r : Result Firmware TextFault) → IfErr r (Refuses bytes) → IfErr r (IsFirst bytes)
first_named bytes (Ok x) h = tt
first_named bytes (Err e) h = first_fault bytes e h
