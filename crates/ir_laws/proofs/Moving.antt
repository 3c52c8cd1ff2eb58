-- How a source step moves frames.
use Rattle.std.proofs.Common.{◌≡◌, ℕ, Bool, true, false, Option, Some, None, List, [], ◌∷◌, get_or, set, refl, sym, ap, subst, if◌then◌else◌}
use Rattle.ir_model.specs.Types.{PlainType}
use Rattle.ir_model.specs.Layout.{cell_at}
use Rattle.ir_model.specs.Resolved.{Program, Value, Instance, OfGlobal, OfPeriph, OfLocal, Here, Does, Ends, NumberedTerm, Jump, Branch, Ret, here, global_at, cells_of_global, cells_of_local}
use Rattle.ir_model.specs.State.{Frame, Memory, Object}
use Rattle.ir_model.specs.Step.{SourceAct, Sets, Fails, Loads, Stores, Enters, act, perform, leave, load, store, load_cell, load_local, load_port, take_input, store_global, store_cell, store_local, store_port, has_port, is_frame, with_local, frame_in, answered, returned_value, result_register, onward, cut_to, turn_here, source_turn}
use Rattle.ir_laws.specs.Moves.{Where, where_of, wheres, Moves, Moved, Pushed, Popped, MovesTo, FramesMove}

-- a store into a local moves no frame
pub wheres_stay : (fs : List Frame) (f n l : ℕ) (vs : List Value) → wheres (with_local fs f n l vs) ≡ wheres fs
wheres_stay [] f n l vs = refl
wheres_stay (fr ∷ rest) f n l vs = by (is_frame fr f n) (wheres_stay rest f n l vs)
  where
    by : (b : Bool) → wheres (with_local rest f n l vs) ≡ wheres rest → wheres (if b then record fr { locals = set fr.locals l vs } ∷ rest else fr ∷ with_local rest f n l vs) ≡ wheres (fr ∷ rest)
    by true ih = refl
    by false ih = ap (λ (ws : List Where). where_of fr ∷ ws) ih

module _ (p : Program) (c : List ℕ) (fr : Frame) (rest : List Frame) (m : Memory) where
  cell : (to : ℕ) (o : Object) (vs : List Value) (x : Option ℕ) → MovesTo fr rest m (load_cell fr rest m to o vs x).to
  cell to o vs None = tt
  cell to o vs (Some k) = Moved refl refl

  local : (to f l at : ℕ) (t : PlainType) (x : Option Frame) → MovesTo fr rest m (load_local p fr rest m to f l at t x).to
  local to f l at t None = tt
  local to f l at t (Some h) = cell to _ (get_or h.locals l []) (cell_at (cells_of_local p f l) at t)

  input : (to q at : ℕ) (t : PlainType) (ws : List ℕ) → MovesTo fr rest m (take_input c fr rest m to q at t ws).to
  input to q at t [] = tt
  input to q at t (w ∷ ws) = Moved refl refl

  port : (to q at : ℕ) (t : PlainType) (b : Bool) → MovesTo fr rest m (load_port c fr rest m to q at t b).to
  port to q at t false = tt
  port to q at t true = input to q at t (get_or m.queues q [])

  loads : (to : ℕ) (i : Instance) (at : ℕ) (t : PlainType) → MovesTo fr rest m (load p c fr rest m to i at t).to
  loads to (OfGlobal g) at t = cell to _ (get_or m.globals g []) (cell_at (cells_of_global p g) at t)
  loads to (OfLocal f n l) at t = local to f l at t (frame_in (fr ∷ rest) f n)
  loads to (OfPeriph q) at t = port to q at t (has_port p q at t)

  to_global : (g : ℕ) (b : Bool) (v : Value) (x : Option ℕ) → MovesTo fr rest m (store_global fr rest m g b v x).to
  to_global g b v None = tt
  to_global g true v (Some k) = tt
  to_global g false v (Some k) = Moved refl refl

  to_cell : (f n l : ℕ) (vs : List Value) (v : Value) (x : Option ℕ) → MovesTo fr rest m (store_cell fr rest m f n l vs v x).to
  to_cell f n l vs v None = tt
  to_cell f n l vs v (Some k) = subst (λ (ws : List Where). Moves (where_of fr ∷ wheres rest) m.made ws m.made) (sym (wheres_stay (onward fr ∷ rest) f n l (set vs k v))) (Moved refl refl)

  to_local : (f n l at : ℕ) (t : PlainType) (v : Value) (x : Option Frame) → MovesTo fr rest m (store_local p fr rest m f n l at t v x).to
  to_local f n l at t v None = tt
  to_local f n l at t v (Some h) = to_cell f n l (get_or h.locals l []) v (cell_at (cells_of_local p f l) at t)

  to_port : (q at : ℕ) (t : PlainType) (v : Value) (b : Bool) → MovesTo fr rest m (store_port c fr rest m q at t v b).to
  to_port q at t v false = tt
  to_port q at t v true = Moved refl refl

  stores : (i : Instance) (at : ℕ) (t : PlainType) (v : Value) → MovesTo fr rest m (store p c fr rest m i at t v).to
  stores (OfGlobal g) at t v = to_global g (global_at p g).constant v (cell_at (cells_of_global p g) at t)
  stores (OfLocal f n l) at t v = to_local f n l at t v (frame_in (fr ∷ rest) f n)
  stores (OfPeriph q) at t v = to_port q at t v (has_port p q at t)

  acts : (a : SourceAct) → MovesTo fr rest m (perform p c fr rest m a).to
  unfolding perform
  acts (Sets to v) = Moved refl refl
  acts (Fails e) = tt
  acts (Loads to i at t) = loads to i at t
  acts (Stores i at t v) = stores i at t (cut_to t v)
  acts (Enters g vs) = Pushed refl

  gone : (v : Value) (d : Frame) (fs : List Frame) (o : Option ℕ) → Moves (where_of fr ∷ where_of d ∷ wheres fs) m.made (wheres (onward (answered d o v) ∷ fs)) m.made
  gone v d fs None = Popped refl refl
  gone v d fs (Some r) = Popped refl refl

ends_by : (p : Program) (c : List ℕ) (fr : Frame) (rest : List Frame) (m : Memory) (t : NumberedTerm) → MovesTo fr rest m (leave p fr rest m t).to
unfolding leave
ends_by p c fr rest m (Jump b) = Moved refl refl
ends_by p c fr rest m (Branch on a b) = Moved refl refl
ends_by p c fr [] m (Ret v) = tt
ends_by p c fr (d ∷ fs) m (Ret v) = gone p c fr (d ∷ fs) m (returned_value fr v) d fs (result_register (here p d.func d.block d.place))

by_here : (p : Program) (c : List ℕ) (fr : Frame) (rest : List Frame) (m : Memory) (h : Here) → MovesTo fr rest m (turn_here p c fr rest m h).to
by_here p c fr rest m (Does i) = acts p c fr rest m (act fr i)
by_here p c fr rest m (Ends t) = ends_by p c fr rest m t

pub frames_move : FramesMove
unfolding source_turn
frames_move p c fr rest m = by_here p c fr rest m (here p fr.func fr.block fr.place)
