-- No step of a run leaves the needs.
use Rattle.std.proofs.Common.{◌≡◌, ℕ, Bool, true, false, List, [], ◌∷◌, Option, Some, None, refl, sym, subst}
use Rattle.ir_model.specs.Types.{PlainType}
use Rattle.ir_model.specs.Layout.{cell_at}
use Rattle.ir_model.specs.Resolved.{Program, Value, Instance, OfGlobal, OfPeriph, OfLocal, NumberedTerm, Jump, Branch, Ret, Here, Does, Ends, global_at, cells_of_global, cells_of_local, here}
use Rattle.ir_model.specs.Resolve.{resolve}
use Rattle.ir_model.specs.State.{Frame, Memory, SourceState, Running, Ended, Object, GlobalObject, LocalObject, object_of, StepEffect, Nothing, Loaded, Stored, Called}
use Rattle.ir_model.specs.Step.{SourceAct, Sets, Fails, Loads, Stores, Enters, act, frame_in, has_port, cut_to, load, load_cell, load_local, load_port, take_input, store, store_global, store_cell, store_local, store_port, perform, leave, back_to, turn_here, source_turn}
use Rattle.ir_model.specs.Runs.{source_after}
use Rattle.ir_laws.specs.Sets.{ObjectSets, CallsAt, IsExpected}
use Rattle.ir_laws.specs.Runs.{ValuesStayInSets, AccessesAreInSets}
use Rattle.plan_model.specs.declared.needs.Needs.{Needs}
use Rattle.plan_model.specs.Needs.{IsData, IsWritable, AreNeeds}
use Rattle.need_laws.specs.Reached.{IsInNeeds}
use Rattle.need_laws.specs.Laws.{NoStepLeavesNeeds, RunningFrameStaysInNeeds}
use Rattle.need_laws.proofs.Listed.{read_listed, written_listed, periph_read, periph_written, call_has_target, callee_listed}

-- ---- a step loads from data, and stores into what is not constant

abbrev pub IsAllowed : Program → StepEffect → Type 0
IsAllowed p (Loaded f o) = IsData o
IsAllowed p (Stored f o) = IsWritable p o
IsAllowed p _ = Unit {0}

module _ (p : Program) (c : List ℕ) (fr : Frame) (rest : List Frame) (m : Memory) where
  cell_loaded : (to : ℕ) (o : Object) (vs : List Value) (k : Option ℕ) → IsData o → IsAllowed p (load_cell fr rest m to o vs k).did
  cell_loaded to o vs None d = tt
  cell_loaded to o vs (Some k) d = d

  local_loaded : (to f l at : ℕ) (t : PlainType) (h : Option Frame) → IsAllowed p (load_local p fr rest m to f l at t h).did
  local_loaded to f l at t None = tt
  local_loaded to f l at t (Some h) = cell_loaded to (LocalObject f l) _ (cell_at (cells_of_local p f l) at t) tt

  input_taken : (to q at : ℕ) (t : PlainType) (ws : List ℕ) → IsAllowed p (take_input c fr rest m to q at t ws).did
  input_taken to q at t [] = tt
  input_taken to q at t (w ∷ ws) = tt

  port_loaded : (to q at : ℕ) (t : PlainType) (has : Bool) → IsAllowed p (load_port c fr rest m to q at t has).did
  port_loaded to q at t false = tt
  port_loaded to q at t true = input_taken to q at t _

  loaded : (to : ℕ) (o : Instance) (at : ℕ) (t : PlainType) → IsAllowed p (load p c fr rest m to o at t).did
  loaded to (OfGlobal g) at t = cell_loaded to (GlobalObject g) _ (cell_at (cells_of_global p g) at t) tt
  loaded to (OfPeriph q) at t = port_loaded to q at t (has_port p q at t)
  loaded to (OfLocal f n l) at t = local_loaded to f l at t (frame_in (fr ∷ rest) f n)

  global_stored : (g : ℕ) (b : Bool) (v : Value) (k : Option ℕ) → (global_at p g).constant ≡ b → IsAllowed p (store_global fr rest m g b v k).did
  global_stored g b v None e = tt
  global_stored g true v (Some k) e = tt
  global_stored g false v (Some k) e = e

  cell_stored : (f n l : ℕ) (vs : List Value) (v : Value) (k : Option ℕ) → IsAllowed p (store_cell fr rest m f n l vs v k).did
  cell_stored f n l vs v None = tt
  cell_stored f n l vs v (Some k) = tt

  local_stored : (f n l at : ℕ) (t : PlainType) (v : Value) (h : Option Frame) → IsAllowed p (store_local p fr rest m f n l at t v h).did
  local_stored f n l at t v None = tt
  local_stored f n l at t v (Some h) = cell_stored f n l _ v (cell_at (cells_of_local p f l) at t)

  port_stored : (q at : ℕ) (t : PlainType) (v : Value) (has : Bool) → IsAllowed p (store_port c fr rest m q at t v has).did
  port_stored q at t v false = tt
  port_stored q at t v true = tt

  stored : (o : Instance) (at : ℕ) (t : PlainType) (v : Value) → IsAllowed p (store p c fr rest m o at t v).did
  stored (OfGlobal g) at t v = global_stored g (global_at p g).constant v (cell_at (cells_of_global p g) at t) refl
  stored (OfPeriph q) at t v = port_stored q at t v (has_port p q at t)
  stored (OfLocal f n l) at t v = local_stored f n l at t v (frame_in (fr ∷ rest) f n)

  performed : (a : SourceAct) → IsAllowed p (perform p c fr rest m a).did
  unfolding perform
  performed (Sets to v) = tt
  performed (Fails e) = tt
  performed (Loads to o at t) = loaded to o at t
  performed (Stores o at t v) = stored o at t (cut_to t v)
  performed (Enters g vs) = tt

  went_back : (v : Value) (fs : List Frame) → IsAllowed p (back_to p v fs m).did
  went_back v [] = tt
  went_back v (d ∷ ds) = tt

  left : (t : NumberedTerm) → IsAllowed p (leave p fr rest m t).did
  unfolding leave
  left (Jump b) = tt
  left (Branch on a b) = tt
  left (Ret v) = went_back _ rest

  turned : (h : Here) → IsAllowed p (turn_here p c fr rest m h).did
  turned (Does i) = performed (act fr i)
  turned (Ends t) = left t

pub allowed : (p : Program) (c : List ℕ) (s : SourceState) → IsAllowed p (source_turn p c s).did
unfolding source_turn
allowed p c (Running [] m) = tt
allowed p c (Running (fr ∷ rest) m) = turned p c fr rest m (here p fr.func fr.block fr.place)
allowed p c (Ended e) = tt

-- ---- therefore what it reaches is listed

module _ (p : Program) (S : ObjectSets) (closed : Bool) (n : Needs) (needs : AreNeeds p S closed n) where
  listed : (d : StepEffect) → IsAllowed p d → IsExpected p S d → IsInNeeds n d
  listed Nothing a e = tt
  listed (Loaded f o) a e = (read_listed p S closed n needs f o a e, periph_read p S closed n needs f o e)
  listed (Stored f o) a e = (written_listed p S closed n needs f o a e, periph_written p S closed n needs f o e)
  listed (Called f b k g) a e = (call_has_target p S closed n needs f b k g e, callee_listed p S closed n needs f b k g e)

pub no_step_leaves_needs : ValuesStayInSets → NoStepLeavesNeeds
no_step_leaves_needs stay w S closed n typed limits sets needs compartments queues steps =
    let s = source_after (resolve w) compartments queues steps in
    listed (resolve w) S closed n needs (source_turn (resolve w) compartments s).did (allowed (resolve w) compartments s)
    ((stay w S typed limits sets).steps compartments queues steps)

-- ---- the running frame

is_data : (o : Instance) → IsData (object_of o)
is_data (OfGlobal g) = tt
is_data (OfPeriph q) = tt
is_data (OfLocal f n l) = tt

pub running_frame_stays : AccessesAreInSets → RunningFrameStaysInNeeds
running_frame_stays expected p sizes S closed n needs =
    record {
      loads = λ fr to from t o k fits typed at is.
          let r = (expected p sizes S).loads fr to from t o k fits typed at is in
          (read_listed p S closed n needs fr.func (object_of o) (is_data o) r, periph_read p S closed n needs fr.func (object_of o) r);
      stores = λ fr to from t o k fits typed at is writable.
          let r = (expected p sizes S).stores fr to from t o k fits typed at is in
          (written_listed p S closed n needs fr.func (object_of o) writable r, periph_written p S closed n needs fr.func (object_of o) r);
      calls = λ fr to g args at. call_has_target p S closed n needs fr.func fr.block fr.place g (subst (λ (h : Here). CallsAt p S fr.func h g) (sym at) refl);
      icalls = λ fr to r args g fits typed at is. call_has_target p S closed n needs fr.func fr.block fr.place g ((expected p sizes S).calls fr to r args g fits typed at is).calls;
    }
