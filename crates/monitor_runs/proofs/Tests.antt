-- Tests on the way to an outcome.
use Rattle.std.specs.Prelude.{if◌then◌else◌, nat_le}
use Rattle.std.specs.Int.{bit_at}
use Rattle.std.proofs.Common.{◌≡◌, ℕ, ◌+◌, ◌≤◌, inl, inr, Bool, true, false, ◌&&◌, ◌||◌, List, [], ◌∷◌, nat_eq, refl, arith}
use Rattle.std.proofs.lemmas.Bool.{eqb-true, leb-true}
use Rattle.base_laws.specs.Lists.{Each}
use Rattle.monitor_model.specs.declared.tables.Tables.{Tables}
use Rattle.monitor_model.specs.Block.{Loan}
use Rattle.monitor_model.specs.Invariant.{IsLoan}
use Rattle.monitor_model.specs.FaultOutcome.{covers, is_lent}
use Rattle.monitor_model.specs.Outcomes.{Outcome}
use Rattle.monitor_confined.proofs.EnterLaw.{both}
use Rattle.monitor_runs.specs.Moves.{IsLent}

pub either_way : (P : Type 0) (b : Bool) (x y o : Outcome) → (b ≡ true → x ≡ o → P) → (b ≡ false → y ≡ o → P) → (if b then x else y) ≡ o → P
either_way P true x y o f g e = f refl e
either_way P false x y o f g e = g refl e

-- a loan is found that holds the access
pub lent_found : (mask a w : ℕ) (ls : List Loan) → is_lent mask a w ls ≡ true → IsLent mask a w ls
lent_found mask a w [] e = cc
lent_found mask a w (l ∷ ls) e = by (covers mask a w l) refl e (λ r. lent_found mask a w ls r)
  where
    by : (b : Bool) → covers mask a w l ≡ b → (b || is_lent mask a w ls) ≡ true → (is_lent mask a w ls ≡ true → IsLent mask a w ls) → IsLent mask a w (l ∷ ls)
    by true c e rest =
        let x = both (nat_eq (bit_at mask l.number) 1) (nat_le l.address a && nat_le (a + w) l.end) c in
        let y = both (nat_le l.address a) (nat_le (a + w) l.end) x.1 in
        inl (eqb-true (bit_at mask l.number) 1 x.0, leb-true l.address a y.0, leb-true (a + w) l.end y.1)
    by false c e rest = inr (rest e)

-- it lies in the stack
pub lent_from_base : (t : Tables) (mask a w : ℕ) (ls : List Loan) → Each (IsLoan t) ls → IsLent mask a w ls → t.stack.base ≤ a
lent_from_base t mask a w [] h x = absurd x
lent_from_base t mask a w (l ∷ ls) h (inl x) = let b = h.0.from_base in let le = x.1 in omega (arith, b, le)
lent_from_base t mask a w (l ∷ ls) h (inr x) = lent_from_base t mask a w ls h.1 x
