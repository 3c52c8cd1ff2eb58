-- Checks one after another.
use Rattle.std.proofs.lemmas.List.{at_drop_more}
use Rattle.std.proofs.Common.{Result, Ok, Err, IsErrAnd, subst, ℕ, ◌+◌, ◌<◌, length, get_or, drop, ap, sym, ◌≡◌, List, [], ◌∷◌, ◌++◌, Option, Some, None, refl, ◌∙◌}
use Rattle.ir_model.specs.Typing.{Checks, Failing, first_failing}
use Rattle.ir_check_scopes.specs.Found.{Refused, Finds}
use Rattle.ir_check_scopes.specs.declared.fault.CheckFault.{CheckFault}
use Rattle.ir_check_scopes.specs.declared.fault.CheckFault.TheVariants.{NoMemory, At}

pub first_append : (a b : Checks) → first_failing a ≡ None → first_failing (a ++ b) ≡ first_failing b
first_append [] b e = refl
first_append (None ∷ a) b e = first_append a b e
first_append (Some x ∷ a) b e = cc

pub first_stays : (a b : Checks) (x : Failing) → first_failing a ≡ Some x → first_failing (a ++ b) ≡ Some x
first_stays [] b x e = cc
first_stays (None ∷ a) b x e = first_stays a b x e
first_stays (Some y ∷ a) b x e = e

-- a fault of the first part, and of the second
pub refused_left : (a b : Checks) (e : CheckFault) → Refused a e → Refused (a ++ b) e
refused_left a b NoMemory h = tt
refused_left a b (At k p) h = first_stays a b _ h

pub refused_right : (a b : Checks) (e : CheckFault) → first_failing a ≡ None → Refused b e → Refused (a ++ b) e
refused_right a b NoMemory n h = tt
refused_right a b (At k p) n h = first_append a b n ∙ h

-- for functions that make the checks of several parts
pub ruleset checks_in_order = (refused_left, refused_right, first_stays, first_append)

-- the same with one check in front
pub first_behind : (c : Option Failing) (b : Checks) → first_failing (c ∷ []) ≡ None → first_failing (c ∷ b) ≡ first_failing b
first_behind c b e = first_append (c ∷ []) b e

pub refused_one : (c : Option Failing) (b : Checks) (e : CheckFault) → Refused (c ∷ []) e → Refused (c ∷ b) e
refused_one c b e h = refused_left (c ∷ []) b e h

pub refused_behind : (c : Option Failing) (b : Checks) (e : CheckFault) → first_failing (c ∷ []) ≡ None → Refused b e → Refused (c ∷ b) e
refused_behind c b e n h = refused_right (c ∷ []) b e n h

-- for functions that make one check before those of a part
pub ruleset checks_behind_one = (refused_one, refused_behind, first_behind)

-- of both kinds
pub ruleset checks_of_both = (refused_left, refused_right, first_stays, first_append, refused_one, refused_behind, first_behind)

-- along a loop: what is left to check
pub passed : (all one rest : Checks) → first_failing all ≡ first_failing (one ++ rest) → first_failing one ≡ None → first_failing all ≡ first_failing rest
passed all one rest e n = e ∙ first_append one rest n

pub stopped : (all one rest : Checks) (e : CheckFault) → first_failing all ≡ first_failing (one ++ rest) → Refused one e → Refused all e
stopped all one rest NoMemory q h = tt
stopped all one rest (At k p) q h = q ∙ first_stays one rest _ h

-- along a list: `before` are the checks from an element on, and `behind` those of what follows
pub go_on : {A : Type 0} (before behind : List A → Checks) (all : Checks) (xs : List A) (i : ℕ) (x : A) (one : Checks) → i < length xs → x ≡ get_or xs i x
    → ((r : List A) → before (x ∷ r) ≡ one ++ behind r) → first_failing all ≡ first_failing (before (drop i xs)) → first_failing one ≡ None
    → first_failing all ≡ first_failing (behind (drop (i + 1) xs))
go_on before behind all xs i x one l e s h n =
    h ∙ (at_drop_more (λ ys. first_failing (before ys)) xs i x l
    ∙ (ap (λ y. first_failing (before (y ∷ drop (i + 1) xs))) (sym e) ∙ (ap first_failing (s (drop (i + 1) xs)) ∙ first_append one (behind (drop (i + 1) xs)) n)))

pub stop_at : {A : Type 0} (before behind : List A → Checks) (all : Checks) (xs : List A) (i : ℕ) (x : A) (one : Checks) (f : CheckFault) → i < length xs → x ≡ get_or xs i x
    → ((r : List A) → before (x ∷ r) ≡ one ++ behind r) → first_failing all ≡ first_failing (before (drop i xs)) → Refused one f
    → Refused all f
stop_at before behind all xs i x one f l e s h r =
    stopped all one (behind (drop (i + 1) xs)) f
    (h ∙ (at_drop_more (λ ys. first_failing (before ys)) xs i x l
    ∙ (ap (λ y. first_failing (before (y ∷ drop (i + 1) xs))) (sym e) ∙ ap first_failing (s (drop (i + 1) xs))))) r

-- what an early return tells
pub first_told : {T : Type 0} (cs : Checks) (r : Result T CheckFault) (e : CheckFault) → IsErrAnd r (λ y. y ≡ e) → Refused cs e → Finds cs r
first_told cs (Ok x) e h k = absurd h
first_told cs (Err f) e h k = subst (λ y. Refused cs y) (sym h) k

-- what is left is all that can fail
pub refused_as : (all one : Checks) (e : CheckFault) → first_failing all ≡ first_failing one → Refused one e → Refused all e
refused_as all one NoMemory q h = tt
refused_as all one (At k p) q h = q ∙ h
