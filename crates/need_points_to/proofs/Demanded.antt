-- Sets are closed where they do what a program asks, and only there.
use Rattle.std.proofs.Common.{◌≡◌, ℕ, zero, suc, ◌<◌, ◌≤◌, Bool, true, false, List, [], ◌∷◌, ◌++◌, length, get_or, refl, sym, subst, arith, ◌⊎◌, inl, inr, append_assoc, Option, Some, None}
use Rattle.std.specs.Prelude.{Contains}
use Rattle.std.specs.List.{flat_map}
use Rattle.std.proofs.lemmas.Bool.{false≢true, cases_lt}
use Rattle.std.proofs.lemmas.List.Elements.{Contains-append_left, Contains-append_right, Contains-append_cases}
use Rattle.ir_model.specs.Resolved.{Program, Value, Number, Code, Null, At, NumberedInst, Const, Move, Bin, Cmp, Addr, FAddr, Elem, Field, Load, Store, Call, ICall, NumberedTerm, Jump, Branch, Ret, NumberedBlock, NumberedFunc, NumberedGlobal, no_block, no_func, no_global, func_at, global_at, here_in, register_type}
use Rattle.ir_model.specs.State.{GlobalObject, FunctionObject, object_of}
use Rattle.ir_model.specs.Signatures.{signature}
use Rattle.ir_laws.specs.Sets.{Register, Content, Outcome, ObjectSets, carries, named_object, ResultFlows, InstFlows, EndFlows, HereFlows, IsOf, Closed}
use Rattle.plan_model.specs.Lists.{numbers_below}
use Rattle.need_lists.proofs.Parts.{head, in_none, joined, from_joined, number_in, number_below}
use Rattle.need_sets.specs.Demands.{Demand, HasObject, PassesOn, LoadsTo, StoresFrom, GivesTo, TakesFrom, Meets, where_carried, argument_passed, result_passed, argument_given, result_taken, inst_demands, end_demands, value_demands, block_demands, func_demands, global_demands, demands_of}
use Rattle.base_laws.proofs.Lists.{only_one as only}

carried : (b : Bool) (d : Demand) → b ≡ true → Contains (where_carried b d) d
carried true d e = head d []
carried false d e = absurd (false≢true e)

from_carried : (b : Bool) (d e : Demand) → Contains (where_carried b d) e → (b ≡ true) × (d ≡ e)
from_carried true d e h = (refl, only d e h)
from_carried false d e h = absurd (in_none e h)

past : {X : Type 0} (xs : List X) (n : ℕ) (d : X) → length xs ≤ n → get_or xs n d ≡ d
past [] n d l = refl
past (x ∷ xs) zero d l = absurd (omega arith)
past (x ∷ xs) (suc n) d l = past xs n d (omega arith)

module _ (p : Program) (S : ObjectSets) where
  abbrev Met : List Demand → Type 0
  Met ds = (d : Demand) → Contains ds d → Meets p S d

  -- ---- sets that do what is asked are closed

  results_flow : (f g : ℕ) (to : Option ℕ) → Met (result_passed p f g to) → ResultFlows p S f g to
  results_flow f g None h = tt
  results_flow f g (Some to) h = λ c. h (PassesOn (Outcome g) (Register f to)) (carried (carries (register_type p f to)) _ c)

  taken_flow : (f r g : ℕ) (to : Option ℕ) → S (Register f r) (FunctionObject g) ≡ true → signature p g ≡ register_type p f r → Met (result_taken p f r to) → ResultFlows p S f g to
  taken_flow f r g None e s h = tt
  taken_flow f r g (Some to) e s h = λ c. h (TakesFrom (Register f r) (register_type p f r) (Register f to)) (carried (carries (register_type p f to)) _ c) g e s

  inst_flow : (f : ℕ) (i : NumberedInst) → Met (inst_demands p f i) → InstFlows p S f i
  inst_flow f (Const to n) h = tt
  inst_flow f (Move to from) h = λ c. h (PassesOn (Register f from) (Register f to)) (carried (carries (register_type p f to)) _ c)
  inst_flow f (Bin op to a b) h = tt
  inst_flow f (Cmp op to a b) h = tt
  inst_flow f (Addr to of) h = h (HasObject (Register f to) (named_object f of)) (head _ [])
  inst_flow f (FAddr to g) h = h (HasObject (Register f to) (FunctionObject g)) (head _ [])
  inst_flow f (Elem to base i n) h = h (PassesOn (Register f base) (Register f to)) (head _ [])
  inst_flow f (Field to base n) h = h (PassesOn (Register f base) (Register f to)) (head _ [])
  inst_flow f (Load to from t) h = λ c. h (LoadsTo (Register f from) (Register f to)) (carried (carries t) _ c)
  inst_flow f (Store to from t) h = λ c. h (StoresFrom (Register f to) (Register f from)) (carried (carries t) _ c)
  inst_flow f (Call to g args) h =
      record {
        arguments = λ k l c. h (PassesOn (Register f (get_or args k 0)) (Register g k))
            (Contains-append_left (flat_map (argument_passed p f g args) (numbers_below (length args))) (result_passed p f g to) _
            (joined (argument_passed p f g args) k _ (numbers_below (length args)) (number_in k (length args) l) (carried (carries (register_type p g k)) _ c)));
        outcome = results_flow f g to (λ d c. h d (Contains-append_right (flat_map (argument_passed p f g args) (numbers_below (length args))) (result_passed p f g to) d c));
      }
  inst_flow f (ICall to r args) h = λ g e s.
      record {
        arguments = λ k l c. h (GivesTo (Register f r) (register_type p f r) (Register f (get_or args k 0)) k)
            (Contains-append_left (flat_map (argument_given p f r args) (numbers_below (length args))) (result_taken p f r to) _
            (joined (argument_given p f r args) k _ (numbers_below (length args)) (number_in k (length args) l) (head _ []))) g e s c;
        outcome = taken_flow f r g to e s (λ d c. h d (Contains-append_right (flat_map (argument_given p f r args) (numbers_below (length args))) (result_taken p f r to) d c));
      }

  end_flow : (f : ℕ) (t : NumberedTerm) → Met (end_demands p f t) → EndFlows p S f t
  end_flow f (Jump b) h = tt
  end_flow f (Branch c a b) h = tt
  end_flow f (Ret None) h = tt
  end_flow f (Ret (Some r)) h = λ c. h (PassesOn (Register f r) (Outcome f)) (carried (carries (register_type p f r)) _ c)

  here_flow : (f : ℕ) (is : List NumberedInst) (t : NumberedTerm) (k : ℕ) → Met (flat_map (inst_demands p f) is ++ end_demands p f t) → HereFlows p S f (here_in is t k)
  here_flow f [] t k h = end_flow f t h
  here_flow f (i ∷ is) t zero h = inst_flow f i (λ d c. h d (Contains-append_left (inst_demands p f i ++ flat_map (inst_demands p f) is) (end_demands p f t) d (Contains-append_left (inst_demands p f i) (flat_map (inst_demands p f) is) d c)))
  here_flow f (i ∷ is) t (suc k) h =
      here_flow f is t k (λ d c. h d (subst (λ l. Contains l d) (sym (append_assoc (inst_demands p f i) (flat_map (inst_demands p f) is) (end_demands p f t)))
      (Contains-append_right (inst_demands p f i) (flat_map (inst_demands p f) is ++ end_demands p f t) d c)))

  block_flow : (f : ℕ) (bs : List NumberedBlock) (b k : ℕ) → Met (flat_map (block_demands p f) bs) → HereFlows p S f (here_in (get_or bs b no_block).insts (get_or bs b no_block).term k)
  block_flow f [] b k h = tt
  block_flow f (x ∷ bs) zero k h = here_flow f x.insts x.term k (λ d c. h d (Contains-append_left (block_demands p f x) (flat_map (block_demands p f) bs) d c))
  block_flow f (x ∷ bs) (suc b) k h = block_flow f bs b k (λ d c. h d (Contains-append_right (block_demands p f x) (flat_map (block_demands p f) bs) d c))

  func_met : Met (demands_of p) → (f : ℕ) → Met (func_demands p f)
  func_met h f d c = by (cases_lt f (length p.funcs))
    where
      by : (f < length p.funcs) ⊎ (length p.funcs ≤ f) → Meets p S d
      by (inl l) = h d (Contains-append_left (flat_map (func_demands p) (numbers_below (length p.funcs))) (flat_map (global_demands p) (numbers_below (length p.globals))) d (joined (func_demands p) f d (numbers_below (length p.funcs)) (number_in f (length p.funcs) l) c))
      by (inr l) = absurd (in_none d (subst (λ (x : NumberedFunc). Contains (flat_map (block_demands p f) x.blocks) d) (past p.funcs f no_func l) c))

  global_met : Met (demands_of p) → (g : ℕ) → Met (global_demands p g)
  global_met h g d c = by (cases_lt g (length p.globals))
    where
      by : (g < length p.globals) ⊎ (length p.globals ≤ g) → Meets p S d
      by (inl l) = h d (Contains-append_right (flat_map (func_demands p) (numbers_below (length p.funcs))) (flat_map (global_demands p) (numbers_below (length p.globals))) d (joined (global_demands p) g d (numbers_below (length p.globals)) (number_in g (length p.globals) l) c))
      by (inr l) = absurd (in_none d (subst (λ (x : NumberedGlobal). Contains (flat_map (value_demands g) x.init) d) (past p.globals g no_global l) c))

  value_flow : (g : ℕ) (v : Value) → Met (value_demands g v) → IsOf (S (Content (GlobalObject g))) v
  value_flow g (Number n) h = tt
  value_flow g (Code f) h = h (HasObject (Content (GlobalObject g)) (FunctionObject f)) (head _ [])
  value_flow g Null h = tt
  value_flow g (At o k) h = h (HasObject (Content (GlobalObject g)) (object_of o)) (head _ [])

  values_flow : (g : ℕ) (vs : List Value) (k : ℕ) → Met (flat_map (value_demands g) vs) → IsOf (S (Content (GlobalObject g))) (get_or vs k (Number 0))
  values_flow g [] k h = tt
  values_flow g (v ∷ vs) zero h = value_flow g v (λ d c. h d (Contains-append_left (value_demands g v) (flat_map (value_demands g) vs) d c))
  values_flow g (v ∷ vs) (suc k) h = values_flow g vs k (λ d c. h d (Contains-append_right (value_demands g v) (flat_map (value_demands g) vs) d c))

  pub closed_from : ((d : Demand) → Contains (demands_of p) d → Meets p S d) → Closed p S
  closed_from h =
      record {
        code = λ f b k. block_flow f (func_at p f).blocks b k (func_met h f);
        cells = λ g k. values_flow g (global_at p g).init k (global_met h g);
      }

  -- ---- closed sets do what is asked

  result_met : (f g : ℕ) (to : Option ℕ) → ResultFlows p S f g to → Met (result_passed p f g to)
  result_met f g None h d c = absurd (in_none d c)
  result_met f g (Some to) h d c = let e = from_carried (carries (register_type p f to)) (PassesOn (Outcome g) (Register f to)) d c in subst (Meets p S) e.1 (h e.0)

  taken_met : (f r : ℕ) (to : Option ℕ) → ((g : ℕ) → S (Register f r) (FunctionObject g) ≡ true → signature p g ≡ register_type p f r → ResultFlows p S f g to) → Met (result_taken p f r to)
  taken_met f r None h d c = absurd (in_none d c)
  taken_met f r (Some to) h d c =
      let e = from_carried (carries (register_type p f to)) (TakesFrom (Register f r) (register_type p f r) (Register f to)) d c in subst (Meets p S) e.1 (λ g q s. h g q s e.0)

  inst_met : (f : ℕ) (i : NumberedInst) → InstFlows p S f i → Met (inst_demands p f i)
  inst_met f (Const to n) h d c = absurd (in_none d c)
  inst_met f (Move to from) h d c = let e = from_carried (carries (register_type p f to)) (PassesOn (Register f from) (Register f to)) d c in subst (Meets p S) e.1 (h e.0)
  inst_met f (Bin op to a b) h d c = absurd (in_none d c)
  inst_met f (Cmp op to a b) h d c = absurd (in_none d c)
  inst_met f (Addr to of) h d c = subst (Meets p S) (only (HasObject (Register f to) (named_object f of)) d c) h
  inst_met f (FAddr to g) h d c = subst (Meets p S) (only (HasObject (Register f to) (FunctionObject g)) d c) h
  inst_met f (Elem to base i n) h d c = subst (Meets p S) (only (PassesOn (Register f base) (Register f to)) d c) h
  inst_met f (Field to base n) h d c = subst (Meets p S) (only (PassesOn (Register f base) (Register f to)) d c) h
  inst_met f (Load to from t) h d c = let e = from_carried (carries t) (LoadsTo (Register f from) (Register f to)) d c in subst (Meets p S) e.1 (h e.0)
  inst_met f (Store to from t) h d c = let e = from_carried (carries t) (StoresFrom (Register f to) (Register f from)) d c in subst (Meets p S) e.1 (h e.0)
  inst_met f (Call to g args) h d c = by (Contains-append_cases (flat_map (argument_passed p f g args) (numbers_below (length args))) (result_passed p f g to) d c)
    where
      by : Contains (flat_map (argument_passed p f g args) (numbers_below (length args))) d ⊎ Contains (result_passed p f g to) d → Meets p S d
      by (inl i) =
          let x = from_joined (argument_passed p f g args) d (numbers_below (length args)) i in
          let k = x.part in
          let e = from_carried (carries (register_type p g k)) (PassesOn (Register f (get_or args k 0)) (Register g k)) d x.inside in
          subst (Meets p S) e.1 (h.arguments k (number_below k (length args) x.listed) e.0)
      by (inr i) = result_met f g to h.outcome d i
  inst_met f (ICall to r args) h d c = by (Contains-append_cases (flat_map (argument_given p f r args) (numbers_below (length args))) (result_taken p f r to) d c)
    where
      by : Contains (flat_map (argument_given p f r args) (numbers_below (length args))) d ⊎ Contains (result_taken p f r to) d → Meets p S d
      by (inl i) =
          let x = from_joined (argument_given p f r args) d (numbers_below (length args)) i in
          let k = x.part in
          let e = only (GivesTo (Register f r) (register_type p f r) (Register f (get_or args k 0)) k) d x.inside in
          subst (Meets p S) e (λ g q s. (h g q s).arguments k (number_below k (length args) x.listed))
      by (inr i) = taken_met f r to (λ g q s. (h g q s).outcome) d i

  end_met : (f : ℕ) (t : NumberedTerm) → EndFlows p S f t → Met (end_demands p f t)
  end_met f (Jump b) h d c = absurd (in_none d c)
  end_met f (Branch on a b) h d c = absurd (in_none d c)
  end_met f (Ret None) h d c = absurd (in_none d c)
  end_met f (Ret (Some r)) h d c = let e = from_carried (carries (register_type p f r)) (PassesOn (Register f r) (Outcome f)) d c in subst (Meets p S) e.1 (h e.0)

  here_met : (f : ℕ) (is : List NumberedInst) (t : NumberedTerm) → ((k : ℕ) → HereFlows p S f (here_in is t k)) → Met (flat_map (inst_demands p f) is ++ end_demands p f t)
  here_met f [] t h d c = end_met f t (h 0) d c
  here_met f (i ∷ is) t h d c =
      by (Contains-append_cases (inst_demands p f i) (flat_map (inst_demands p f) is ++ end_demands p f t) d (subst (λ l. Contains l d) (append_assoc (inst_demands p f i) (flat_map (inst_demands p f) is) (end_demands p f t)) c))
      (here_met f is t (λ k. h (suc k)) d)
    where
      by : Contains (inst_demands p f i) d ⊎ Contains (flat_map (inst_demands p f) is ++ end_demands p f t) d → (Contains (flat_map (inst_demands p f) is ++ end_demands p f t) d → Meets p S d) → Meets p S d
      by (inl j) ih = inst_met f i (h zero) d j
      by (inr j) ih = ih j

  blocks_met : (f : ℕ) (bs : List NumberedBlock) → ((b k : ℕ) → HereFlows p S f (here_in (get_or bs b no_block).insts (get_or bs b no_block).term k)) → Met (flat_map (block_demands p f) bs)
  blocks_met f [] h d c = absurd (in_none d c)
  blocks_met f (x ∷ bs) h d c = by (Contains-append_cases (block_demands p f x) (flat_map (block_demands p f) bs) d c) (blocks_met f bs (λ b. h (suc b)) d)
    where
      by : Contains (block_demands p f x) d ⊎ Contains (flat_map (block_demands p f) bs) d → (Contains (flat_map (block_demands p f) bs) d → Meets p S d) → Meets p S d
      by (inl j) ih = here_met f x.insts x.term (h zero) d j
      by (inr j) ih = ih j

  value_met : (g : ℕ) (v : Value) → IsOf (S (Content (GlobalObject g))) v → Met (value_demands g v)
  value_met g (Number n) h d c = absurd (in_none d c)
  value_met g (Code f) h d c = subst (Meets p S) (only (HasObject (Content (GlobalObject g)) (FunctionObject f)) d c) h
  value_met g Null h d c = absurd (in_none d c)
  value_met g (At o k) h d c = subst (Meets p S) (only (HasObject (Content (GlobalObject g)) (object_of o)) d c) h

  values_met : (g : ℕ) (vs : List Value) → ((k : ℕ) → IsOf (S (Content (GlobalObject g))) (get_or vs k (Number 0))) → Met (flat_map (value_demands g) vs)
  values_met g [] h d c = absurd (in_none d c)
  values_met g (v ∷ vs) h d c = by (Contains-append_cases (value_demands g v) (flat_map (value_demands g) vs) d c) (values_met g vs (λ k. h (suc k)) d)
    where
      by : Contains (value_demands g v) d ⊎ Contains (flat_map (value_demands g) vs) d → (Contains (flat_map (value_demands g) vs) d → Meets p S d) → Meets p S d
      by (inl j) ih = value_met g v (h zero) d j
      by (inr j) ih = ih j

  pub met_from : Closed p S → (d : Demand) → Contains (demands_of p) d → Meets p S d
  met_from h d c = by (Contains-append_cases (flat_map (func_demands p) (numbers_below (length p.funcs))) (flat_map (global_demands p) (numbers_below (length p.globals))) d c)
    where
      by : Contains (flat_map (func_demands p) (numbers_below (length p.funcs))) d ⊎ Contains (flat_map (global_demands p) (numbers_below (length p.globals))) d → Meets p S d
      by (inl i) = let x = from_joined (func_demands p) d (numbers_below (length p.funcs)) i in blocks_met x.part (func_at p x.part).blocks (h.code x.part) d x.inside
      by (inr i) = let x = from_joined (global_demands p) d (numbers_below (length p.globals)) i in values_met x.part (global_at p x.part).init (h.cells x.part) d x.inside
