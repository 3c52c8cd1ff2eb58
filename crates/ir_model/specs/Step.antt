-- One source step: an instruction or a block's end.
use Rattle.std.specs.Prelude.{ℕ, suc, ◌+◌, ◌*◌, ◌%◌, List, [], ◌∷◌, Bool, true, false, not, ◌&&◌, Option, Some, None, nat_eq, nat_lt, nat_le, if◌then◌else◌, map, bit_and, bit_or, bit_xor}
use Rattle.std.proofs.Math.ListN.{get_or, set}
use Rattle.base_words.specs.Arithmetic.{word, add, subtract, multiply, unsigned_quotient, signed_quotient, unsigned_remainder, signed_remainder, bit_clear, shift_left, shift_right, shift_right_signed, signed_less, signed_at_most}
use Rattle.base_words.specs.Bytes.{cut}
use Rattle.base_events.specs.declared.event.Event.{Event}
use Rattle.ir_model.specs.declared.firmware.BinOp.{BinOp}
use Rattle.ir_model.specs.declared.firmware.BinOp.TheVariants.{Add, Sub, Mul, Udiv, Sdiv, Urem, Srem, And, Or, Xor, Bic, Shl, Shr, Sar}
use Rattle.ir_model.specs.declared.firmware.CmpOp.{CmpOp}
use Rattle.ir_model.specs.declared.firmware.CmpOp.TheVariants.{Eq, Ne, Ult, Ule, Slt, Sle}
use Rattle.ir_model.specs.Types.{PlainType, is_integer, width_of}
use Rattle.ir_model.specs.Layout.{cell_at}
use Rattle.ir_model.specs.Resolved.{Program, Value, Number, Code, At, Instance, OfGlobal, OfPeriph, OfLocal, global_at, window_at, cells_of_global, cells_of_local, Named, TheGlobal, ThePeriph, TheLocal, NumberedInst, Const, Move, Bin, Cmp, Addr, FAddr, Elem, Field, Load, Store, Call, ICall, NumberedTerm, Jump, Branch, Ret, Here, Does, Ends, here}
use Rattle.ir_model.specs.State.{Frame, SourceFault, NullFault, DeadFault, NoCellFault, ConstantFault, SourceEnd, Returned, OutOfInput, Faulted, Memory, SourceState, Running, Ended, Object, GlobalObject, PeriphObject, LocalObject, Nothing, Loaded, Stored, Called, SourceTurn, frame_of}

abbrev pub register : Frame → ℕ → Value
register fr r = get_or fr.regs r (Number 0)

abbrev pub number_in : Value → ℕ
number_in (Number n) = n
number_in _ = 0

unfoldable pub binary : BinOp → ℕ → ℕ → ℕ
binary Add a b = add a b
binary Sub a b = subtract a b
binary Mul a b = multiply a b
binary Udiv a b = unsigned_quotient a b
binary Sdiv a b = signed_quotient a b
binary Urem a b = unsigned_remainder a b
binary Srem a b = signed_remainder a b
binary And a b = bit_and a b
binary Or a b = bit_or a b
binary Xor a b = bit_xor a b
binary Bic a b = bit_clear a b
binary Shl a b = shift_left a b
binary Shr a b = shift_right a b
binary Sar a b = shift_right_signed a b

unfoldable pub compared : CmpOp → ℕ → ℕ → Bool
compared Eq a b = nat_eq a b
compared Ne a b = not (nat_eq a b)
compared Ult a b = nat_lt a b
compared Ule a b = nat_le a b
compared Slt a b = signed_less a b
compared Sle a b = signed_at_most a b

abbrev pub bit : Bool → ℕ
bit true = 1
bit false = 0

-- what an instruction asks for
pub data SourceAct : Type 0 where
  Sets : (to : ℕ) → (value : Value) → SourceAct
  Fails : (fault : SourceFault) → SourceAct
  Loads : (to : ℕ) → (instance : Instance) → (offset : ℕ) → (ty : PlainType) → SourceAct
  Stores : (instance : Instance) → (offset : ℕ) → (ty : PlainType) → (value : Value) → SourceAct
  Enters : (func : ℕ) → (args : List Value) → SourceAct

abbrev pub address_of : Frame → Named → Value
address_of fr (TheGlobal g) = At (OfGlobal g) 0
address_of fr (ThePeriph p) = At (OfPeriph p) 0
address_of fr (TheLocal l) = At (OfLocal fr.func fr.number l) 0

-- what is done with a pointer, or with a function, that is not null
abbrev pub with_pointer : Value → (Instance → ℕ → SourceAct) → SourceAct
with_pointer (At o at) go = go o at
with_pointer _ go = Fails NullFault

abbrev pub with_code : Value → (ℕ → SourceAct) → SourceAct
with_code (Code f) go = go f
with_code _ go = Fails NullFault

unfoldable pub act : Frame → NumberedInst → SourceAct
act fr (Const to v) = Sets to (Number v)
act fr (Move to from) = Sets to (register fr from)
act fr (Bin op to a b) = Sets to (Number (binary op (number_in (register fr a)) (number_in (register fr b))))
act fr (Cmp op to a b) = Sets to (Number (bit (compared op (number_in (register fr a)) (number_in (register fr b)))))
act fr (Addr to of) = Sets to (address_of fr of)
act fr (FAddr to f) = Sets to (Code f)
act fr (Elem to base index size) =
    with_pointer (register fr base) (λ o at. Sets to (At o (word (at + number_in (register fr index) * size))))
act fr (Field to base offset) = with_pointer (register fr base) (λ o at. Sets to (At o (word (at + offset))))
act fr (Load to from t) = with_pointer (register fr from) (λ o at. Loads to o at t)
act fr (Store to from t) = with_pointer (register fr to) (λ o at. Stores o at t (register fr from))
act fr (Call to f args) = Enters f (map (register fr) args)
act fr (ICall to f args) = with_code (register fr f) (λ g. Enters g (map (register fr) args))

abbrev pub with_register : Frame → ℕ → Value → Frame
with_register fr to v = record fr { regs = set fr.regs to v }

abbrev pub onward : Frame → Frame
onward fr = record fr { place = suc fr.place }

-- the frame of a number, if its function has not returned
abbrev pub is_frame : Frame → (func number : ℕ) → Bool
is_frame fr f n = nat_eq fr.number n && nat_eq fr.func f

abbrev pub frame_in : List Frame → (func number : ℕ) → Option Frame
frame_in [] f n = None
frame_in (fr ∷ rest) f n = if is_frame fr f n then Some fr else frame_in rest f n

abbrev pub with_local : List Frame → (func number local : ℕ) → List Value → List Frame
with_local [] f n l vs = []
with_local (fr ∷ rest) f n l vs =
    if is_frame fr f n then record fr { locals = set fr.locals l vs } ∷ rest else fr ∷ with_local rest f n l vs

-- a window of a peripheral has a cell of an integer type wherever the whole cell fits and its offset is a multiple of its size
abbrev pub has_port : Program → (periph offset : ℕ) → PlainType → Bool
has_port p q at t = is_integer t && (nat_eq (at % width_of t) 0 && nat_le (at + width_of t) (window_at p q).size)

abbrev pub over : SourceEnd → SourceTurn
over e = record { to = Ended e; event = None; did = Nothing }

abbrev pub pass : Frame → List Frame → Memory → SourceTurn
pass fr rest m = record { to = Running (fr ∷ rest) m; event = None; did = Nothing }

-- a stored number is cut to the width of the cell
abbrev pub cut_to : PlainType → Value → Value
cut_to t (Number n) = Number (if is_integer t then cut (width_of t) n else n)
cut_to t v = v

-- a load of the k-th cell of contents
abbrev pub load_cell : Frame → List Frame → Memory → (to : ℕ) → Object → List Value → Option ℕ → SourceTurn
load_cell fr rest m to o vs None = over (Faulted NoCellFault)
load_cell fr rest m to o vs (Some k) =
    record { to = Running (onward (with_register fr to (get_or vs k (Number 0))) ∷ rest) m; event = None; did = Loaded fr.func o }

abbrev pub load_local : Program → Frame → List Frame → Memory → (to : ℕ) → (func local offset : ℕ) → PlainType → Option Frame → SourceTurn
load_local p fr rest m to f l at t None = over (Faulted DeadFault)
load_local p fr rest m to f l at t (Some h) =
    load_cell fr rest m to (LocalObject f l) (get_or h.locals l []) (cell_at (cells_of_local p f l) at t)

-- the next recorded word of a peripheral, cut to the width
abbrev pub take_input : (compartments : List ℕ) → Frame → List Frame → Memory → (to periph offset : ℕ) → PlainType → List ℕ → SourceTurn
take_input c fr rest m to q at t [] = over OutOfInput
take_input c fr rest m to q at t (w ∷ ws) =
    record {
      to = Running (onward (with_register fr to (Number (cut (width_of t) w))) ∷ rest) (record m { queues = set m.queues q ws });
      event = Some (record { compartment = get_or c fr.func 0; periph = q; offset = at; width = width_of t; write = false; value = cut (width_of t) w });
      did = Loaded fr.func (PeriphObject q);
    }

abbrev pub load_port : (compartments : List ℕ) → Frame → List Frame → Memory → (to periph offset : ℕ) → PlainType → (has : Bool) → SourceTurn
load_port c fr rest m to q at t false = over (Faulted NoCellFault)
load_port c fr rest m to q at t true = take_input c fr rest m to q at t (get_or m.queues q [])

abbrev pub load : Program → (compartments : List ℕ) → Frame → List Frame → Memory → (to : ℕ) → Instance → (offset : ℕ) → PlainType → SourceTurn
load p c fr rest m to (OfGlobal g) at t =
    load_cell fr rest m to (GlobalObject g) (get_or m.globals g []) (cell_at (cells_of_global p g) at t)
load p c fr rest m to (OfLocal f n l) at t = load_local p fr rest m to f l at t (frame_in (fr ∷ rest) f n)
load p c fr rest m to (OfPeriph q) at t = load_port c fr rest m to q at t (has_port p q at t)

-- stores
abbrev pub store_global : Frame → List Frame → Memory → (global : ℕ) → (constant : Bool) → Value → Option ℕ → SourceTurn
store_global fr rest m g constant v None = over (Faulted NoCellFault)
store_global fr rest m g true v (Some k) = over (Faulted ConstantFault)
store_global fr rest m g false v (Some k) =
    record {
      to = Running (onward fr ∷ rest) (record m { globals = set m.globals g (set (get_or m.globals g []) k v) });
      event = None;
      did = Stored fr.func (GlobalObject g);
    }

abbrev pub store_cell : Frame → List Frame → Memory → (func number local : ℕ) → List Value → Value → Option ℕ → SourceTurn
store_cell fr rest m f n l vs v None = over (Faulted NoCellFault)
store_cell fr rest m f n l vs v (Some k) =
    record { to = Running (with_local (onward fr ∷ rest) f n l (set vs k v)) m; event = None; did = Stored fr.func (LocalObject f l) }

abbrev pub store_local : Program → Frame → List Frame → Memory → (func number local offset : ℕ) → PlainType → Value → Option Frame → SourceTurn
store_local p fr rest m f n l at t v None = over (Faulted DeadFault)
store_local p fr rest m f n l at t v (Some h) =
    store_cell fr rest m f n l (get_or h.locals l []) v (cell_at (cells_of_local p f l) at t)

abbrev pub store_port : (compartments : List ℕ) → Frame → List Frame → Memory → (periph offset : ℕ) → PlainType → Value → (has : Bool) → SourceTurn
store_port c fr rest m q at t v false = over (Faulted NoCellFault)
store_port c fr rest m q at t v true =
    record {
      to = Running (onward fr ∷ rest) m;
      event = Some (record { compartment = get_or c fr.func 0; periph = q; offset = at; width = width_of t; write = true; value = number_in v });
      did = Stored fr.func (PeriphObject q);
    }

abbrev pub store : Program → (compartments : List ℕ) → Frame → List Frame → Memory → Instance → (offset : ℕ) → PlainType → Value → SourceTurn
store p c fr rest m (OfGlobal g) at t v = store_global fr rest m g (global_at p g).constant v (cell_at (cells_of_global p g) at t)
store p c fr rest m (OfLocal f n l) at t v = store_local p fr rest m f n l at t v (frame_in (fr ∷ rest) f n)
store p c fr rest m (OfPeriph q) at t v = store_port c fr rest m q at t v (has_port p q at t)

unfoldable pub perform : Program → (compartments : List ℕ) → Frame → List Frame → Memory → SourceAct → SourceTurn
perform p c fr rest m (Sets to v) = pass (onward (with_register fr to v)) rest m
perform p c fr rest m (Fails e) = over (Faulted e)
perform p c fr rest m (Loads to o at t) = load p c fr rest m to o at t
perform p c fr rest m (Stores o at t v) = store p c fr rest m o at t (cut_to t v)
perform p c fr rest m (Enters g vs) =
    record {
      to = Running (frame_of p g m.made vs ∷ fr ∷ rest) (record m { made = suc m.made });
      event = None;
      did = Called fr.func fr.block fr.place g;
    }

-- where a caller keeps the result
abbrev pub result_register : Here → Option ℕ
result_register (Does (Call to f args)) = to
result_register (Does (ICall to f args)) = to
result_register _ = None

abbrev pub answered : Frame → Option ℕ → Value → Frame
answered fr None v = fr
answered fr (Some to) v = with_register fr to v

abbrev pub returned_value : Frame → Option ℕ → Value
returned_value fr None = Number 0
returned_value fr (Some r) = register fr r

abbrev pub back_to : Program → Value → List Frame → Memory → SourceTurn
back_to p v [] m = over Returned
back_to p v (fr ∷ rest) m = pass (onward (answered fr (result_register (here p fr.func fr.block fr.place)) v)) rest m

abbrev pub jumped : Frame → ℕ → Frame
jumped fr b = record fr { block = b; place = 0 }

unfoldable pub leave : Program → Frame → List Frame → Memory → NumberedTerm → SourceTurn
leave p fr rest m (Jump b) = pass (jumped fr b) rest m
leave p fr rest m (Branch on a b) = pass (jumped fr (if nat_eq (number_in (register fr on)) 0 then b else a)) rest m
leave p fr rest m (Ret v) = back_to p (returned_value fr v) rest m

abbrev pub turn_here : Program → (compartments : List ℕ) → Frame → List Frame → Memory → Here → SourceTurn
turn_here p c fr rest m (Does i) = perform p c fr rest m (act fr i)
turn_here p c fr rest m (Ends t) = leave p fr rest m t

-- an ended run stays as it is
unfoldable pub source_turn : Program → (compartments : List ℕ) → SourceState → SourceTurn
source_turn p c (Running [] m) = over Returned
source_turn p c (Running (fr ∷ rest) m) = turn_here p c fr rest m (here p fr.func fr.block fr.place)
source_turn p c (Ended e) = over e

abbrev pub source_step : Program → (compartments : List ℕ) → SourceState → SourceState
source_step p c s = (source_turn p c s).to

abbrev pub source_event : Program → (compartments : List ℕ) → SourceState → Option Event
source_event p c s = (source_turn p c s).event
