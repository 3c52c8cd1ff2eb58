-- Each event of a source run is an access inside the window of a declared peripheral.
use Rattle.std.proofs.Common.{◌≡◌, ℕ, zero, suc, ◌+◌, ◌%◌, ◌<◌, ◌≤◌, Bool, true, false, List, [], ◌∷◌, length, Option, Some, None, nat_eq, nat_le, refl, subst, arith}
use Rattle.std.proofs.lemmas.Bool.{leb-true, and_parts}
use Rattle.std.proofs.Math.ListN.{get_or}
use Rattle.base_words.specs.Bytes.{cut}
use Rattle.base_events.specs.declared.event.Event.{Event}
use Rattle.ir_model.specs.Types.{PlainType, is_integer, width_of}
use Rattle.ir_model.specs.Layout.{cell_at}
use Rattle.ir_model.specs.Resolved.{Program, Value, Instance, OfGlobal, OfPeriph, OfLocal, NumberedTerm, Jump, Branch, Ret, Here, Does, Ends, global_at, window_at, NumberedWindow, no_window, cells_of_global, cells_of_local, here}
use Rattle.ir_model.specs.State.{Frame, Memory, Running, Ended, Object, SourceTurn}
use Rattle.ir_model.specs.Step.{number_in, SourceAct, Sets, Fails, Loads, Stores, Enters, act, frame_in, has_port, cut_to, load_cell, load_local, take_input, load_port, load, store_global, store_cell, store_local, store_port, store, perform, back_to, returned_value, leave, turn_here, source_turn}
use Rattle.ir_laws.specs.Laws.{IsDeclaredAccess, EventsAreDeclared}
use Rattle.ir_laws.proofs.Layouts.{positive_width}

-- the event of a turn, if there is one, is a declared access
abbrev IsDeclaredTurn : Program → SourceTurn → Type 0
IsDeclaredTurn p turn = (e : Event) → turn.event ≡ Some e → IsDeclaredAccess p e

-- ports are inside windows
declared_at : (windows : List NumberedWindow) (q n : ℕ) → 0 < n → n ≤ (get_or windows q no_window).size → q < length windows
declared_at [] q n p h = absurd (omega arith)
declared_at (s ∷ windows) zero n p h = omega arith
declared_at (s ∷ windows) (suc q) n p h = let r = declared_at windows q n p h in omega arith

inside_window : (p : Program) (q at : ℕ) (t : PlainType) → has_port p q at t ≡ true → at + width_of t ≤ (window_at p q).size
inside_window p q at t h =
    leb-true (at + width_of t) (window_at p q).size
    (and_parts (nat_eq (at % width_of t) 0) (nat_le (at + width_of t) (window_at p q).size) (and_parts (is_integer t) _ h).1).1

access : (p : Program) (q at : ℕ) (t : PlainType) (c v : ℕ) (w : Bool) → has_port p q at t ≡ true
    → IsDeclaredAccess p (record { compartment = c; periph = q; offset = at; width = width_of t; write = w; value = v })
access p q at t c v w d =
    let i = inside_window p q at t d in
    let n = positive_width t in
    record { declared = declared_at p.periphs q (at + width_of t) (omega (arith, n)) i; inside = i }

of_access : (p : Program) (q at : ℕ) (t : PlainType) (c v : ℕ) (w : Bool) → has_port p q at t ≡ true → (e : Event)
    → Some (record { compartment = c; periph = q; offset = at; width = width_of t; write = w; value = v }) ≡ Some e → IsDeclaredAccess p e
of_access p q at t c v w d e h =
    let x : Event = record { compartment = c; periph = q; offset = at; width = width_of t; write = w; value = v } in
    let k : x ≡ e = cc in
    subst (λ (y : Event). IsDeclaredAccess p y) k (access p q at t c v w d)

-- loads
of_load_cell : (p : Program) (fr : Frame) (rest : List Frame) (m : Memory) (to : ℕ) (o : Object) (vs : List Value) (k : Option ℕ) → IsDeclaredTurn p (load_cell fr rest m to o vs k)
of_load_cell p fr rest m to o vs None e h = cc
of_load_cell p fr rest m to o vs (Some k) e h = cc

of_load_local : (p : Program) (fr : Frame) (rest : List Frame) (m : Memory) (to f l at : ℕ) (t : PlainType) (x : Option Frame)
    → IsDeclaredTurn p (load_local p fr rest m to f l at t x)
of_load_local p fr rest m to f l at t None e h = cc
of_load_local p fr rest m to f l at t (Some x) e h =
    of_load_cell p fr rest m to _ (get_or x.locals l []) (cell_at (cells_of_local p f l) at t) e h

of_input : (p : Program) (c : List ℕ) (fr : Frame) (rest : List Frame) (m : Memory) (to q at : ℕ) (t : PlainType) (ws : List ℕ) → has_port p q at t ≡ true
    → IsDeclaredTurn p (take_input c fr rest m to q at t ws)
of_input p c fr rest m to q at t [] d e h = cc
of_input p c fr rest m to q at t (w ∷ ws) d e h =
    of_access p q at t (get_or c fr.func 0) (cut (width_of t) w) false d e h

of_load_port : (p : Program) (c : List ℕ) (fr : Frame) (rest : List Frame) (m : Memory) (to q at : ℕ) (t : PlainType) (has : Bool) → has_port p q at t ≡ has
    → IsDeclaredTurn p (load_port c fr rest m to q at t has)
of_load_port p c fr rest m to q at t false d e h = cc
of_load_port p c fr rest m to q at t true d e h = of_input p c fr rest m to q at t (get_or m.queues q []) d e h

of_load : (p : Program) (c : List ℕ) (fr : Frame) (rest : List Frame) (m : Memory) (to : ℕ) (o : Instance) (at : ℕ) (t : PlainType)
    → IsDeclaredTurn p (load p c fr rest m to o at t)
of_load p c fr rest m to (OfGlobal g) at t e h = of_load_cell p fr rest m to _ (get_or m.globals g []) (cell_at (cells_of_global p g) at t) e h
of_load p c fr rest m to (OfLocal f n l) at t e h = of_load_local p fr rest m to f l at t (frame_in (fr ∷ rest) f n) e h
of_load p c fr rest m to (OfPeriph q) at t e h = of_load_port p c fr rest m to q at t (has_port p q at t) refl e h

-- stores
of_store_global : (p : Program) (fr : Frame) (rest : List Frame) (m : Memory) (g : ℕ) (constant : Bool) (v : Value) (k : Option ℕ)
    → IsDeclaredTurn p (store_global fr rest m g constant v k)
of_store_global p fr rest m g constant v None e h = cc
of_store_global p fr rest m g true v (Some k) e h = cc
of_store_global p fr rest m g false v (Some k) e h = cc

of_store_cell : (p : Program) (fr : Frame) (rest : List Frame) (m : Memory) (f n l : ℕ) (vs : List Value) (v : Value) (k : Option ℕ)
    → IsDeclaredTurn p (store_cell fr rest m f n l vs v k)
of_store_cell p fr rest m f n l vs v None e h = cc
of_store_cell p fr rest m f n l vs v (Some k) e h = cc

of_store_local : (p : Program) (fr : Frame) (rest : List Frame) (m : Memory) (f n l at : ℕ) (t : PlainType) (v : Value) (x : Option Frame)
    → IsDeclaredTurn p (store_local p fr rest m f n l at t v x)
of_store_local p fr rest m f n l at t v None e h = cc
of_store_local p fr rest m f n l at t v (Some x) e h =
    of_store_cell p fr rest m f n l (get_or x.locals l []) v (cell_at (cells_of_local p f l) at t) e h

of_store_port : (p : Program) (c : List ℕ) (fr : Frame) (rest : List Frame) (m : Memory) (q at : ℕ) (t : PlainType) (v : Value) (has : Bool) → has_port p q at t ≡ has
    → IsDeclaredTurn p (store_port c fr rest m q at t v has)
of_store_port p c fr rest m q at t v false d e h = cc
of_store_port p c fr rest m q at t v true d e h = of_access p q at t (get_or c fr.func 0) (number_in v) true d e h

of_store : (p : Program) (c : List ℕ) (fr : Frame) (rest : List Frame) (m : Memory) (o : Instance) (at : ℕ) (t : PlainType) (v : Value)
    → IsDeclaredTurn p (store p c fr rest m o at t v)
of_store p c fr rest m (OfGlobal g) at t v e h = of_store_global p fr rest m g (global_at p g).constant v (cell_at (cells_of_global p g) at t) e h
of_store p c fr rest m (OfLocal f n l) at t v e h = of_store_local p fr rest m f n l at t v (frame_in (fr ∷ rest) f n) e h
of_store p c fr rest m (OfPeriph q) at t v e h = of_store_port p c fr rest m q at t v (has_port p q at t) refl e h

-- instructions and ends of blocks
of_act : (p : Program) (c : List ℕ) (fr : Frame) (rest : List Frame) (m : Memory) (a : SourceAct) → IsDeclaredTurn p (perform p c fr rest m a)
unfolding perform
of_act p c fr rest m (Sets to v) e h = cc
of_act p c fr rest m (Fails f) e h = cc
of_act p c fr rest m (Loads to o at t) e h = of_load p c fr rest m to o at t e h
of_act p c fr rest m (Stores o at t v) e h = of_store p c fr rest m o at t (cut_to t v) e h
of_act p c fr rest m (Enters g vs) e h = cc

of_return : (p : Program) (v : Value) (rest : List Frame) (m : Memory) → IsDeclaredTurn p (back_to p v rest m)
of_return p v [] m e h = cc
of_return p v (fr ∷ rest) m e h = cc

of_end : (p : Program) (fr : Frame) (rest : List Frame) (m : Memory) (t : NumberedTerm) → IsDeclaredTurn p (leave p fr rest m t)
unfolding leave
of_end p fr rest m (Jump b) e h = cc
of_end p fr rest m (Branch on a b) e h = cc
of_end p fr rest m (Ret v) e h = of_return p (returned_value fr v) rest m e h

of_turn : (p : Program) (c : List ℕ) (fr : Frame) (rest : List Frame) (m : Memory) (x : Here) → IsDeclaredTurn p (turn_here p c fr rest m x)
of_turn p c fr rest m (Does i) e h = of_act p c fr rest m (act fr i) e h
of_turn p c fr rest m (Ends t) e h = of_end p fr rest m t e h

pub events_are_declared : EventsAreDeclared
unfolding source_turn
events_are_declared p c (Running [] m) e h = cc
events_are_declared p c (Running (fr ∷ rest) m) e h = of_turn p c fr rest m (here p fr.func fr.block fr.place) e h
events_are_declared p c (Ended s) e h = cc
