-- Every state of a run fits.
use Rattle.std.proofs.Common.{ℕ, zero, suc, Option, Some, None, List, true, refl}
use Rattle.base_words.specs.Runs.{run}
use Rattle.ir_model.specs.Types.{PlainType}
use Rattle.ir_model.specs.Resolved.{Program, Value, Number, Code, Null, At, NumberedInst, Const, Move, Bin, Cmp, Addr, FAddr, Elem, Field, Load, Store, Call, ICall, NumberedTerm, Jump, Branch, Ret, Here, Does, Ends, here}
use Rattle.ir_model.specs.Resolve.{resolve}
use Rattle.ir_model.specs.State.{SourceState, start}
use Rattle.ir_model.specs.Step.{source_step, source_turn}
use Rattle.ir_model.specs.Runs.{source_after}
use Rattle.ir_laws.specs.Typed.{sizes_of, Typed}
use Rattle.ir_laws.specs.Sets.{ObjectSets, everything, ResultFlows, CallFlows, InstFlows, EndFlows, HereFlows, IsOf, Closed, IsExpected}
use Rattle.ir_laws.specs.States.{StateFits}
use Rattle.ir_laws.specs.Runs.{ValuesStayInSets, ValuesFitTypes, StepsKeepValues}
use Rattle.ir_laws.proofs.Firmware.{typed_over_numbers}
use Rattle.ir_laws.proofs.Steps.{step_good, start_good}

module _ (p : Program) (sizes : PlainType → ℕ) (S : ObjectSets) (closed : Closed p S) (typed : Typed p sizes) where
  run_good : (c : List ℕ) (n : ℕ) (s : SourceState) → StateFits p sizes S s → StateFits p sizes S (run (source_step p c) n s)
  unfolding run
  run_good c zero s g = g
  run_good c (suc n) s g = run_good c n (source_step p c s) (step_good p sizes S closed typed c s g).to

  good_at : (c : List ℕ) (queues : List (List ℕ)) (n : ℕ) → StateFits p sizes S (source_after p c queues n)
  good_at c queues n = run_good c n (start p queues) (start_good p sizes S closed typed queues)

  expected_at : (c : List ℕ) (queues : List (List ℕ)) (n : ℕ) → IsExpected p S (source_turn p c (source_after p c queues n)).did
  expected_at c queues n = (step_good p sizes S closed typed c (source_after p c queues n) (good_at c queues n)).did

pub steps_keep_values : StepsKeepValues
steps_keep_values p sizes S typed closed =
    record { first = λ queues c. good_at p sizes S closed typed c queues 0; next = step_good p sizes S closed typed }

pub values_stay_in_sets : ValuesStayInSets
values_stay_in_sets w S h l closed =
    let typed = typed_over_numbers w h l in
    record { states = good_at (resolve w) (sizes_of w) S closed typed; steps = expected_at (resolve w) (sizes_of w) S closed typed }

-- ---- the sets that have every object

call_flows : (p : Program) (f g : ℕ) (to : Option ℕ) (args : List ℕ) → CallFlows p everything f g to args
call_flows p f g to args = record { arguments = λ k l c o h. refl; outcome = result to }
  where
    result : (to : Option ℕ) → ResultFlows p everything f g to
    result None = tt
    result (Some r) = λ c o h. refl

inst_flows : (p : Program) (f : ℕ) (i : NumberedInst) → InstFlows p everything f i
inst_flows p f (Const to n) = tt
inst_flows p f (Move to from) = λ c o h. refl
inst_flows p f (Bin op to a b) = tt
inst_flows p f (Cmp op to a b) = tt
inst_flows p f (Addr to of) = refl
inst_flows p f (FAddr to g) = refl
inst_flows p f (Elem to base i n) = λ o h. refl
inst_flows p f (Field to base n) = λ o h. refl
inst_flows p f (Load to from t) = λ c o h q k. refl
inst_flows p f (Store to from t) = λ c o h q k. refl
inst_flows p f (Call to g args) = call_flows p f g to args
inst_flows p f (ICall to r args) = λ g s e. call_flows p f g to args

end_flows : (p : Program) (f : ℕ) (t : NumberedTerm) → EndFlows p everything f t
end_flows p f (Jump b) = tt
end_flows p f (Branch on a b) = tt
end_flows p f (Ret None) = tt
end_flows p f (Ret (Some r)) = λ c o h. refl

here_flows : (p : Program) (f : ℕ) (h : Here) → HereFlows p everything f h
here_flows p f (Does i) = inst_flows p f i
here_flows p f (Ends t) = end_flows p f t

is_of : (v : Value) → IsOf (λ o. true) v
is_of (Number n) = tt
is_of (Code f) = refl
is_of Null = tt
is_of (At o k) = refl

pub everything_closed : (p : Program) → Closed p everything
everything_closed p = record { code = λ f b k. here_flows p f (here p f b k); cells = λ g k. is_of _ }

pub values_fit_types : ValuesFitTypes
values_fit_types w h l = values_stay_in_sets w everything h l (everything_closed (resolve w))
