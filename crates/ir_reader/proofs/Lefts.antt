-- A fault stands in the text.
use Rattle.std.proofs.Common.{◌≡◌, ◌≤◌, ℕ, ◌-◌, [], ◌∷◌, List, Bool, true, false, refl, sym, ap, ◌∙◌, subst, Option, Some, None, length, zero, suc, arith, if◌then◌else◌}
use Rattle.std.specs.List.{prefix_len}
use Rattle.base_laws.specs.Lists.{Each}
use Rattle.ir_model.specs.Texts.{is_blank, opens_comment, is_inside_line}
use Rattle.ir_reader.specs.declared.error.Fault.{Fault}
use Rattle.ir_reader.specs.Found.{Found, Is, Bad, End, Placed, colon_first}
use Rattle.ir_reader.specs.Machine
use Rattle.ir_reader.specs.Machine.{Symbol, Progress, To, Stuck, step, fault, may_end}
use Rattle.ir_reader.specs.Scan.{scan, placed, first_lexeme}
use Rattle.ir_reader.proofs.Ends.{fault_after}

-- a place with no more than so many bytes left
abbrev pub LeftIn : ℕ → Placed → Type 0
LeftIn n p = p.left ≤ n

scan_within : (bs : List ℕ) (k n : ℕ) → length bs ≤ n → Each (LeftIn n) (scan k bs)
scan_within [] k n h = (omega arith, tt)
scan_within (b ∷ bs) (suc k) n h = let i : length bs ≤ n = omega arith in scan_within bs k n i
scan_within (b ∷ bs) zero n h =
    let i : length bs ≤ n = omega arith in
    by_blank (is_blank b) (scan_within bs 0 n i) (by_comment (opens_comment b) (scan_within bs (prefix_len is_inside_line bs) n i) (h, scan_within bs ((first_lexeme b bs).len - 1) n i))
  where
    by_comment : (u : Bool) → Each (LeftIn n) (scan (prefix_len is_inside_line bs) bs) → Each (LeftIn n) (record { found = (first_lexeme b bs).found; left = length (b ∷ bs) } ∷ scan ((first_lexeme b bs).len - 1) bs)
        → Each (LeftIn n) (if u then scan (prefix_len is_inside_line bs) bs else record { found = (first_lexeme b bs).found; left = length (b ∷ bs) } ∷ scan ((first_lexeme b bs).len - 1) bs)
    by_comment true x y = x
    by_comment false x y = y

    by_blank : (u : Bool) → Each (LeftIn n) (scan 0 bs)
        → Each (LeftIn n) (if opens_comment b then scan (prefix_len is_inside_line bs) bs else record { found = (first_lexeme b bs).found; left = length (b ∷ bs) } ∷ scan ((first_lexeme b bs).len - 1) bs)
        → Each (LeftIn n) (if u then scan 0 bs else (if opens_comment b then scan (prefix_len is_inside_line bs) bs else record { found = (first_lexeme b bs).found; left = length (b ∷ bs) } ∷ scan ((first_lexeme b bs).len - 1) bs))
    by_blank true x y = x
    by_blank false x y = y

at_place : (p : Placed) (n : ℕ) (f g : Fault) → p.left ≤ n → g.left ≡ p.left → Some g ≡ Some f → f.left ≤ n
at_place p n f g h i e =
    let same : g ≡ f = cc in
    let j : g.left ≡ f.left = ap (λ (z : Fault). z.left) same in
    subst (λ (z : ℕ). z ≤ n) (sym i ∙ j) h

by_step : (p : Placed) (ps : List Placed) (n : ℕ) (f : Fault) → p.left ≤ n → ((st : List Symbol) → fault st ps ≡ Some f → f.left ≤ n) → (s : Progress) → fault_after p ps s ≡ Some f → f.left ≤ n
by_step p ps n f h again (To None stack) e = again stack e
by_step p ps n f h again (To (Some x) stack) e = at_place p n f (Machine.fault_at p x) h refl e
by_step p ps n f h again Stuck e = at_place p n f (Machine.syntax_at p) h refl e

by_end : (p : Placed) (n : ℕ) (f : Fault) → p.left ≤ n → (u : Bool) → ◌≡◌ {A = Option Fault} (if u then None else Some (Machine.syntax_at p)) (Some f) → f.left ≤ n
by_end p n f h true e = cc
by_end p n f h false e = at_place p n f (Machine.syntax_at p) h refl e

by_found : (st : List Symbol) (left : ℕ) (ps : List Placed) (n : ℕ) (f : Fault) → left ≤ n → ((st : List Symbol) → fault st ps ≡ Some f → f.left ≤ n) → (g : Found) → fault st (record { found = g; left = left } ∷ ps) ≡ Some f → f.left ≤ n
by_found st left ps n f h again (Is t) e = by_step (record { found = Is t; left = left }) ps n f h again (step st t (colon_first ps)) e
by_found st left ps n f h again Bad e = at_place (record { found = Bad; left = left }) n f (Machine.syntax_at (record { found = Bad; left = left })) h refl e
by_found st left ps n f h again End e = by_end (record { found = End; left = left }) n f h (may_end st) e

fault_within : (ps : List Placed) (st : List Symbol) (n : ℕ) (f : Fault) → Each (LeftIn n) ps → fault st ps ≡ Some f → f.left ≤ n
fault_within [] st n f h e = cc
fault_within (p ∷ ps) st n f h e = by_found st p.left ps n f h.0 (λ st. fault_within ps st n f h.1) p.found e

-- the fault of a text stands in it
pub fault_in : (bs : List ℕ) (st : List Symbol) (f : Fault) → fault st (placed bs) ≡ Some f → f.left ≤ length bs
unfolding placed
fault_in bs st f e = let l : length bs ≤ length bs = omega arith in fault_within (scan 0 bs) st (length bs) f (scan_within bs 0 (length bs) l) e
