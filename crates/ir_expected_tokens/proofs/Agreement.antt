-- A syntax fault stands where the table has no row for a token.
use Rattle.std.proofs.Common.{subst, ◌≡◌, ℕ, [], ◌∷◌, ◌++◌, List, Bool, true, false, refl, sym, ap, ◌∙◌, Option, Some, None, if◌then◌else◌}
use Rattle.std.proofs.lemmas.List.Concat.{flat_map-append}
use Rattle.ir_model.specs.Tokens as model
use Rattle.ir_reader.specs.declared.error.Fault.{Fault}
use Rattle.ir_reader.specs.declared.error.FaultKind.TheVariants as kind
use Rattle.ir_reader.specs.Found.{Found, Is, Bad, End, Placed, colon_first}
use Rattle.ir_reader.specs.Machine
use Rattle.ir_reader.specs.Machine.{Move, Go, Stop, Skip, Progress, To, Stuck, move, step, fault, may_end}
use Rattle.ir_reader.specs.Scan.{placed}
use Rattle.ir_reader.proofs.Ends.{fault_after}
use Rattle.ir_expected_tokens.specs.declared.grammar.Class.TheVariants as class
use Rattle.ir_expected_tokens.specs.declared.grammar.Symbol.{Symbol}
use Rattle.ir_expected_tokens.specs.Expected.{taken}
use Rattle.ir_expected_tokens.specs.Laws.{closed, IsStuckAt, FaultsAreStuck}
use Rattle.ir_expected_tokens.specs.Stuck.{token_class, stuck}
use Rattle.ir_expected_tokens.specs.Uncounted.{uncounted, all_uncounted}
use Rattle.ir_expected_tokens.proofs.Closed.{token_goes_on, closed_after}
use Rattle.ir_expected_tokens.proofs.Moves.{Follows, move_follows, end_stops}
use Rattle.ir_expected_tokens.proofs.Steps.{going}

-- what is taken, by a step of the machine
abbrev pub ComesTo : Progress → Option (List Symbol) → Type 0
ComesTo (To x more) all = all ≡ Some (all_uncounted more)
ComesTo Stuck all = all ≡ None

abbrev step_of : Move → List Machine.Symbol → Progress → Progress
step_of m ss others = elim m [ Go x more ↦ To x (more ++ ss) | Stop ↦ Stuck | Skip ↦ others ]

by_move : (m : Move) (ss : List Machine.Symbol) (others : Progress) (all below : Option (List Symbol)) → Follows m all below (all_uncounted ss) → ComesTo others below → ComesTo (step_of m ss others) all
by_move (Go x more) ss others all below f i = f ∙ ap Some (sym (flat_map-append uncounted more ss))
by_move Stop ss others all below f i = f
by_move Skip ss (To x more) all below f i = f ∙ i
by_move Skip ss Stuck all below f i = f ∙ i

-- a token makes the same of what is expected in the table and in the machine
pub step_follows : (ss : List Machine.Symbol) (t : model.Token) (c : Bool) → ComesTo (step ss t c) (taken (all_uncounted ss) (token_class t) c)
step_follows [] t c = refl
step_follows (s ∷ ss) t c =
    by_move (move s t c) ss (step ss t c) (taken (all_uncounted (s ∷ ss)) (token_class t) c) (taken (all_uncounted ss) (token_class t) c) (move_follows s t c (all_uncounted ss)) (step_follows ss t c)

left_of : (p : Placed) (f : Fault) → Some (Machine.syntax_at p) ≡ Some f → p.left ≡ f.left
left_of p f e = let same : Machine.syntax_at p ≡ f = cc in ap (λ (z : Fault). z.left) same

here : (ss : List Machine.Symbol) (p : Placed) (f : Fault) → closed (all_uncounted ss) ≡ true → Some (Machine.syntax_at p) ≡ Some f → IsStuckAt (Some (all_uncounted ss, p)) f.left
here ss p f w e = record { stack = ss; last = w; at = p; stuck = refl; place = left_of p f e }

abbrev Again : List Placed → Fault → Type 0
Again ps f = (ss : List Machine.Symbol) → closed (all_uncounted ss) ≡ true → fault ss ps ≡ Some f → IsStuckAt (stuck (all_uncounted ss) ps) f.left

by_step : (ss : List Machine.Symbol) (p : Placed) (ps : List Placed) (f : Fault) (t : model.Token) (c : Bool) → closed (all_uncounted ss) ≡ true → Again ps f → f.kind ≡ kind.Syntax
    → (s : Progress) (all : Option (List Symbol)) → taken (all_uncounted ss) (token_class t) c ≡ all → ComesTo s all → fault_after p ps s ≡ Some f → IsStuckAt (going (all_uncounted ss) p ps all) f.left
by_step ss p ps f t c w again k (To None more) (Some us) a i e =
    let same : us ≡ all_uncounted more = cc in
    let v : closed (all_uncounted more) ≡ true = subst (λ z. closed z ≡ true) same (closed_after (all_uncounted ss) (token_class t) c us (token_goes_on t) w a) in
    rw same (again more v e)
by_step ss p ps f t c w again k (To None more) None a i e = cc
by_step ss p ps f t c w again k (To (Some x) more) all a i e =
    let same : Machine.fault_at p x ≡ f = cc in
    let j : (Machine.fault_at p x).kind ≡ f.kind = ap (λ (z : Fault). z.kind) same in
    absurd (clash (j ∙ k))
  where
    clash : (Machine.fault_at p x).kind ≡ kind.Syntax → ⊥
    clash h = cc
by_step ss p ps f t c w again k Stuck None a i e = here ss p f w e
by_step ss p ps f t c w again k Stuck (Some us) a i e = cc

by_end : (ss : List Machine.Symbol) (p : Placed) (ps : List Placed) (f : Fault) (c : Bool) → closed (all_uncounted ss) ≡ true → (u : Bool) → may_end ss ≡ u → ◌≡◌ {A = Option Fault} (if u then None else Some (Machine.syntax_at p)) (Some f)
    → IsStuckAt (going (all_uncounted ss) p ps (taken (all_uncounted ss) class.End c)) f.left
by_end ss p ps f c w true m e = cc
by_end ss p ps f c w false m e = rw (end_stops ss c m) (here ss p f w e)

by_found : (ss : List Machine.Symbol) (left : ℕ) (ps : List Placed) (f : Fault) → closed (all_uncounted ss) ≡ true → Again ps f → f.kind ≡ kind.Syntax
    → (g : Found) → fault ss (record { found = g; left = left } ∷ ps) ≡ Some f → IsStuckAt (stuck (all_uncounted ss) (record { found = g; left = left } ∷ ps)) f.left
by_found ss left ps f w again k (Is t) e =
    by_step ss (record { found = Is t; left = left }) ps f t (colon_first ps) w again k (step ss t (colon_first ps)) (taken (all_uncounted ss) (token_class t) (colon_first ps)) refl (step_follows ss t (colon_first ps)) e
by_found ss left ps f w again k Bad e = here ss (record { found = Bad; left = left }) f w e
by_found ss left ps f w again k End e = by_end ss (record { found = End; left = left }) ps f (colon_first ps) w (may_end ss) refl e

stuck_at : (ps : List Placed) (ss : List Machine.Symbol) (f : Fault) → closed (all_uncounted ss) ≡ true → fault ss ps ≡ Some f → f.kind ≡ kind.Syntax → IsStuckAt (stuck (all_uncounted ss) ps) f.left
stuck_at [] ss f w e k = cc
stuck_at (p ∷ ps) ss f w e k = by_found ss p.left ps f w (λ vs v e. stuck_at ps vs f v e k) k p.found e

pub faults_are_stuck : FaultsAreStuck
faults_are_stuck text f e k = stuck_at (placed text) (Machine.Structs 0 ∷ []) f refl e k
