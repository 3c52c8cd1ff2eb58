-- Beyond the program's claim: only laws, proofs and functions inside the tool cite this file.
-- States of a run whose values fit: each value fits its type, with its object in the set of what holds it, and each frame
-- stands at a place of the program, and a waiting one at a call.
use Rattle.std.specs.Prelude.{◌≡◌, ℕ, ◌^◌, ◌<◌, ◌≤◌, Bool, true, List, [], ◌∷◌, length, map, Option, Some, None}
use Rattle.std.proofs.Math.ListN.{get_or}
use Rattle.ir_model.specs.Types.{PlainType, gives}
use Rattle.ir_model.specs.Layout.{CellPlace, Shape}
use Rattle.ir_model.specs.Resolved.{Program, Value, Number, Instance, NumberedGlobal, func_at, block_at, cells_of_global, cells_of_local, register_type, Here, here}
use Rattle.ir_model.specs.State.{Frame, Memory, SourceState, Running, Ended, Object, GlobalObject, LocalObject, object_of, SourceTurn}
use Rattle.ir_model.specs.Step.{result_register}
use Rattle.ir_model.specs.Signatures.{cell_in}
use Rattle.ir_laws.specs.Typed.{Fits, IsPlaced}
use Rattle.ir_laws.specs.Sets.{Register, Content, Outcome, ObjectSets, Flows, CallsAt, IsExpected}

module _ (p : Program) (sizes : PlainType → ℕ) (S : ObjectSets) where
  -- contents of an object: as many values as cells
  pub record CellsFit (o : Object) (cs : List CellPlace) (vs : List Value) : Type 0 where
    pub each : (k : ℕ) → Fits p sizes (S (Content o)) (cell_in cs k).ty (get_or vs k (Number 0))
    pub count : length vs ≡ length cs

  pub record FrameFits (fr : Frame) : Type 0 where
    pub regs : (r : ℕ) → Fits p sizes (S (Register fr.func r)) (register_type p fr.func r) (get_or fr.regs r (Number 0))
    pub locals : (l : ℕ) → CellsFit (LocalObject fr.func l) (cells_of_local p fr.func l) (get_or fr.locals l [])
    pub registers : length fr.regs ≡ length (func_at p fr.func).regs
    pub objects : length fr.locals ≡ length (func_at p fr.func).locals
    pub func : fr.func < length p.funcs
    pub block : fr.block < length (func_at p fr.func).blocks
    pub place : fr.place ≤ length (block_at p fr.func fr.block).insts

  -- what function g gives fits the register of f that it is kept in
  abbrev pub AnswerFits : (f g : ℕ) → Option ℕ → Type 0
  AnswerFits f g None = Unit {0}
  AnswerFits f g (Some to) = ((func_at p g).outcome ≡ gives (register_type p f to)) × Flows S (register_type p f to) (Outcome g) (Register f to)

  -- function f waits for g at a call
  pub record WaitsAt (f g : ℕ) (h : Here) : Type 0 where
    pub calls : CallsAt p S f h g
    pub answer : AnswerFits f g (result_register h)

  -- the frame below waits for this function; below the last frame there is none, and it is that of `main`
  abbrev pub Waits : (g : ℕ) → List Frame → Type 0
  Waits g [] = g ≡ p.main
  Waits g (c ∷ rest) = WaitsAt c.func g (here p c.func c.block c.place)

  abbrev pub FramesFit : List Frame → Type 0
  FramesFit [] = Unit {0}
  FramesFit (fr ∷ rest) = FrameFits fr × Waits fr.func rest × FramesFit rest

  pub record MemoryFits (m : Memory) : Type 0 where
    pub globals : (g : ℕ) → CellsFit (GlobalObject g) (cells_of_global p g) (get_or m.globals g [])
    pub objects : length m.globals ≡ length p.globals

  -- an ended run holds no values
  abbrev pub StateFits : SourceState → Type 0
  StateFits (Running fs m) = FramesFit fs × MemoryFits m
  StateFits (Ended e) = Unit {0}

  -- a step leads to a state that fits, and reached what the sets have
  pub record TurnFits (t : SourceTurn) : Type 0 where
    pub to : StateFits t.to
    pub did : IsExpected p S t.did

-- ---- what follows of a state that fits

-- a value that is a word
pub record IsWord (v : Value) : Type 0 where
  pub n : ℕ
  pub is : v ≡ Number n
  pub below : n < 2 ^ 32

-- a pointer to an object of the program that a set has
pub record IsPointer (p : Program) (X : Object → Bool) (o : Instance) (k : ℕ) : Type 0 where
  pub known : X (object_of o) ≡ true
  pub offset : k < 2 ^ 32
  pub placed : IsPlaced p o

-- the function that a call of the running frame goes to
pub record IsTarget (p : Program) (S : ObjectSets) (fr : Frame) (g : ℕ) : Type 0 where
  pub calls : CallsAt p S fr.func (here p fr.func fr.block fr.place) g
  pub there : g < length p.funcs

-- as many contents as objects, each with as many values as cells
abbrev pub Alike : List (List Value) → List Shape → Type 0
Alike [] [] = Unit {0}
Alike [] (s ∷ ss) = ⊥
Alike (vs ∷ vss) [] = ⊥
Alike (vs ∷ vss) (s ∷ ss) = (length vs ≡ length s.cells) × Alike vss ss

abbrev pub global_shapes : Program → List Shape
global_shapes p = map (λ (g : NumberedGlobal). g.shape) p.globals

-- a return of this register, if of one, agrees with the register that the waiting frame keeps the result in, if it does:
-- that one is there, and there is a result for it
abbrev pub Agrees : Frame → (returned kept : Option ℕ) → Type 0
Agrees c r None = Unit {0}
Agrees c None (Some q) = ⊥
Agrees c (Some a) (Some q) = q < length c.regs
