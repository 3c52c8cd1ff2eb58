-- The frames of a source run stand in the order in which they were made.
use Rattle.std.proofs.Common.{ℕ, ◌≤◌, Bool, true, false, if◌then◌else◌, List, [], ◌∷◌, Option, Some, None, arith}
use Rattle.ir_model.specs.Types.{PlainType}
use Rattle.ir_model.specs.Resolved.{Program, Value, Instance, OfGlobal, OfPeriph, OfLocal, NumberedTerm, Jump, Branch, Ret, Here, Does, Ends, global_at, cells_of_global, cells_of_local, here}
use Rattle.ir_model.specs.Layout.{cell_at}
use Rattle.ir_model.specs.State.{Frame, Memory, SourceState, Running, Ended, Object, start}
use Rattle.ir_model.specs.Step.{SourceAct, Sets, Fails, Loads, Stores, Enters, act, is_frame, with_local, frame_in, has_port, cut_to, load_cell, load_local, take_input, load_port, load, store_global, store_cell, store_local, store_port, store, perform, back_to, returned_value, result_register, answered, leave, turn_here, source_turn, source_step, onward}
use Rattle.std.proofs.Math.ListN.{get_or, set}
use Rattle.ir_laws.specs.Laws.{IsOrdered, HasOrderedFrames, FramesStayOrdered}

-- more frames may have been made
later : (n m : ℕ) (frames : List Frame) → n ≤ m → IsOrdered n frames → IsOrdered m frames
later n m [] h o = tt
later n m (fr ∷ rest) h o = (omega (arith, o.0), o.1)

-- a write of a local leaves each frame's number
written_at : (b : Bool) (made : ℕ) (fr : Frame) (rest more : List Frame) (locals : List (List Value)) → IsOrdered made (fr ∷ rest) → IsOrdered fr.number more
    → IsOrdered made (if b then record fr { locals = locals } ∷ rest else fr ∷ more)
written_at true made fr rest more locals o h = o
written_at false made fr rest more locals o h = (o.0, h)

written : (made : ℕ) (frames : List Frame) (f n l : ℕ) (vs : List Value) → IsOrdered made frames → IsOrdered made (with_local frames f n l vs)
written made [] f n l vs o = tt
written made (fr ∷ rest) f n l vs o =
    written_at (is_frame fr f n) made fr rest (with_local rest f n l vs) (set fr.locals l vs) o (written fr.number rest f n l vs o.1)

-- loads
after_load_cell : (fr : Frame) (rest : List Frame) (m : Memory) (to : ℕ) (o : Object) (vs : List Value) (k : Option ℕ) → IsOrdered m.made (fr ∷ rest)
    → HasOrderedFrames (load_cell fr rest m to o vs k).to
after_load_cell fr rest m to o vs None h = tt
after_load_cell fr rest m to o vs (Some k) h = h

after_load_local : (p : Program) (fr : Frame) (rest : List Frame) (m : Memory) (to f l at : ℕ) (t : PlainType) (x : Option Frame) → IsOrdered m.made (fr ∷ rest)
    → HasOrderedFrames (load_local p fr rest m to f l at t x).to
after_load_local p fr rest m to f l at t None h = tt
after_load_local p fr rest m to f l at t (Some x) h =
    after_load_cell fr rest m to _ (get_or x.locals l []) (cell_at (cells_of_local p f l) at t) h

after_input : (c : List ℕ) (fr : Frame) (rest : List Frame) (m : Memory) (to q at : ℕ) (t : PlainType) (ws : List ℕ) → IsOrdered m.made (fr ∷ rest)
    → HasOrderedFrames (take_input c fr rest m to q at t ws).to
after_input c fr rest m to q at t [] h = tt
after_input c fr rest m to q at t (w ∷ ws) h = h

after_load_port : (c : List ℕ) (fr : Frame) (rest : List Frame) (m : Memory) (to q at : ℕ) (t : PlainType) (has : Bool) → IsOrdered m.made (fr ∷ rest)
    → HasOrderedFrames (load_port c fr rest m to q at t has).to
after_load_port c fr rest m to q at t false h = tt
after_load_port c fr rest m to q at t true h = after_input c fr rest m to q at t (get_or m.queues q []) h

after_load : (p : Program) (c : List ℕ) (fr : Frame) (rest : List Frame) (m : Memory) (to : ℕ) (o : Instance) (at : ℕ) (t : PlainType) → IsOrdered m.made (fr ∷ rest)
    → HasOrderedFrames (load p c fr rest m to o at t).to
after_load p c fr rest m to (OfGlobal g) at t h = after_load_cell fr rest m to _ (get_or m.globals g []) (cell_at (cells_of_global p g) at t) h
after_load p c fr rest m to (OfLocal f n l) at t h = after_load_local p fr rest m to f l at t (frame_in (fr ∷ rest) f n) h
after_load p c fr rest m to (OfPeriph q) at t h = after_load_port c fr rest m to q at t (has_port p q at t) h

-- stores
after_store_global : (fr : Frame) (rest : List Frame) (m : Memory) (g : ℕ) (constant : Bool) (v : Value) (k : Option ℕ) → IsOrdered m.made (fr ∷ rest)
    → HasOrderedFrames (store_global fr rest m g constant v k).to
after_store_global fr rest m g constant v None h = tt
after_store_global fr rest m g true v (Some k) h = tt
after_store_global fr rest m g false v (Some k) h = h

after_store_cell : (fr : Frame) (rest : List Frame) (m : Memory) (f n l : ℕ) (vs : List Value) (v : Value) (k : Option ℕ) → IsOrdered m.made (fr ∷ rest)
    → HasOrderedFrames (store_cell fr rest m f n l vs v k).to
after_store_cell fr rest m f n l vs v None h = tt
after_store_cell fr rest m f n l vs v (Some k) h = written m.made (onward fr ∷ rest) f n l (set vs k v) h

after_store_local : (p : Program) (fr : Frame) (rest : List Frame) (m : Memory) (f n l at : ℕ) (t : PlainType) (v : Value) (x : Option Frame)
    → IsOrdered m.made (fr ∷ rest) → HasOrderedFrames (store_local p fr rest m f n l at t v x).to
after_store_local p fr rest m f n l at t v None h = tt
after_store_local p fr rest m f n l at t v (Some x) h =
    after_store_cell fr rest m f n l (get_or x.locals l []) v (cell_at (cells_of_local p f l) at t) h

after_store_port : (c : List ℕ) (fr : Frame) (rest : List Frame) (m : Memory) (q at : ℕ) (t : PlainType) (v : Value) (has : Bool) → IsOrdered m.made (fr ∷ rest)
    → HasOrderedFrames (store_port c fr rest m q at t v has).to
after_store_port c fr rest m q at t v false h = tt
after_store_port c fr rest m q at t v true h = h

after_store : (p : Program) (c : List ℕ) (fr : Frame) (rest : List Frame) (m : Memory) (o : Instance) (at : ℕ) (t : PlainType) (v : Value)
    → IsOrdered m.made (fr ∷ rest) → HasOrderedFrames (store p c fr rest m o at t v).to
after_store p c fr rest m (OfGlobal g) at t v h = after_store_global fr rest m g (global_at p g).constant v (cell_at (cells_of_global p g) at t) h
after_store p c fr rest m (OfLocal f n l) at t v h = after_store_local p fr rest m f n l at t v (frame_in (fr ∷ rest) f n) h
after_store p c fr rest m (OfPeriph q) at t v h = after_store_port c fr rest m q at t v (has_port p q at t) h

-- instructions: a call makes a frame, with the next number
after_act : (p : Program) (c : List ℕ) (fr : Frame) (rest : List Frame) (m : Memory) (a : SourceAct) → IsOrdered m.made (fr ∷ rest)
    → HasOrderedFrames (perform p c fr rest m a).to
unfolding perform
after_act p c fr rest m (Sets to v) h = h
after_act p c fr rest m (Fails e) h = tt
after_act p c fr rest m (Loads to o at t) h = after_load p c fr rest m to o at t h
after_act p c fr rest m (Stores o at t v) h = after_store p c fr rest m o at t (cut_to t v) h
after_act p c fr rest m (Enters g vs) h = (omega arith, h)

-- ends of blocks: a return drops the running frame
answered_number : (fr : Frame) (to : Option ℕ) (v : Value) (made : ℕ) (rest : List Frame) → IsOrdered made (fr ∷ rest) → IsOrdered made (onward (answered fr to v) ∷ rest)
answered_number fr None v made rest h = h
answered_number fr (Some to) v made rest h = h

after_return : (p : Program) (v : Value) (rest : List Frame) (m : Memory) → IsOrdered m.made rest → HasOrderedFrames (back_to p v rest m).to
after_return p v [] m h = tt
after_return p v (fr ∷ rest) m h = answered_number fr (result_register (here p fr.func fr.block fr.place)) v m.made rest h

after_end : (p : Program) (fr : Frame) (rest : List Frame) (m : Memory) (t : NumberedTerm) → IsOrdered m.made (fr ∷ rest) → HasOrderedFrames (leave p fr rest m t).to
unfolding leave
after_end p fr rest m (Jump b) h = h
after_end p fr rest m (Branch on a b) h = h
after_end p fr rest m (Ret v) h = after_return p (returned_value fr v) rest m (later fr.number m.made rest (omega (arith, h.0)) h.1)

after_turn : (p : Program) (c : List ℕ) (fr : Frame) (rest : List Frame) (m : Memory) (x : Here) → IsOrdered m.made (fr ∷ rest)
    → HasOrderedFrames (turn_here p c fr rest m x).to
after_turn p c fr rest m (Does i) h = after_act p c fr rest m (act fr i) h
after_turn p c fr rest m (Ends t) h = after_end p fr rest m t h

after_step : (p : Program) (c : List ℕ) (s : SourceState) → HasOrderedFrames s → HasOrderedFrames (source_step p c s)
unfolding source_turn
after_step p c (Running [] m) h = tt
after_step p c (Running (fr ∷ rest) m) h = after_turn p c fr rest m (here p fr.func fr.block fr.place) h
after_step p c (Ended e) h = tt

at_start : (p : Program) (queues : List (List ℕ)) → HasOrderedFrames (start p queues)
unfolding start
at_start p queues = (omega arith, tt)

pub frames_stay_ordered : FramesStayOrdered
frames_stay_ordered = record { first = at_start; next = after_step }
