-- Beyond the program's claim: only laws, proofs and functions inside the tool cite this file.
-- A state of a source run and a state of the machine that belong together. Everything that the machine's side holds is a
-- function of the source's frames: where each frame lies, what it holds, and what the monitor's block says.
use Rattle.std.specs.Prelude.{◌≡◌, ℕ, zero, suc, ◌+◌, ◌-◌, ◌*◌, ◌/◌, ◌%◌, ◌^◌, ◌<◌, ◌≤◌, List, [], ◌∷◌, ◌++◌, length, map, true, false, Option, Some, None, nat_eq}
use Rattle.std.proofs.Math.ListN.{get_or}
use Rattle.base_words.specs.declared.conditions.Flags.{Flags}
use Rattle.base_words.specs.Arithmetic.{word}
use Rattle.machine_model.specs.State.{State}
use Rattle.machine_model.specs.Exceptions.{is_thread}
use Rattle.machine_model.specs.Shape.{StateFits}
use Rattle.machine_model.specs.RunningCode.{Context, works}
use Rattle.ir_model.specs.Types.{width_of}
use Rattle.ir_model.specs.Layout.{CellPlace, Shape}
use Rattle.ir_model.specs.Resolved.{Instance, OfGlobal, OfPeriph, OfLocal, Value, Number, Code, Null, At}
use Rattle.ir_model.specs.State.{Frame, Memory, SourceState, Running, Ended}
use Rattle.ir_laws.specs.Moves.{Where, where_of, wheres}
use Rattle.ir_laws.specs.States.{Alike, global_shapes}
use Rattle.monitor_model.specs.Block.{MonitorBlock, entered}
use Rattle.monitor_model.specs.Threads.{base, stack_end, first_block}
use Rattle.refine_model.specs.Refines.{EndsAlike}
use Rattle.refine.specs.Areas.{Area, Has}
use Rattle.refine.specs.Owned.{all_lent}
use Rattle.refine.specs.Builds.{Build, compartment_of, func, words_at, starts_at, lends_at, entry_at, code_at, behind_at, site_at, global_starts}

abbrev pub homes : (at count : ℕ) → List Area
homes at zero = []
homes at (suc n) = record { at = at; width = 4 } ∷ homes (at + 4) n

abbrev pub cells_at : ℕ → List CellPlace → List Area
cells_at o [] = []
cells_at o (c ∷ cs) = record { at = o + c.at; width = width_of c.ty } ∷ cells_at o cs

-- cells of several objects, each behind its start
abbrev pub objects_at : ℕ → List ℕ → List Shape → List Area
objects_at o [] shapes = []
objects_at o (s ∷ ss) [] = []
objects_at o (s ∷ ss) (h ∷ hs) = cells_at (o + s) h.cells ++ objects_at o ss hs

abbrev pub first_or_zero : List ℕ → ℕ
first_or_zero [] = 0
first_or_zero (s ∷ ss) = s

abbrev pub others : List ℕ → List ℕ
others [] = []
others (s ∷ ss) = ss

-- the status words that are left behind a crossing call's own, if it is one
abbrev pub statuses_behind : Option ℕ → List ℕ → List ℕ
statuses_behind None ss = ss
statuses_behind (Some x) ss = others ss

-- the status of a thread without a pad
abbrev pub IsStatus : ℕ → Type 0
IsStatus s = (is_thread s ≡ true) × (nat_eq (s / 2 ^ 9 % 2) 1 ≡ false) × (s < 2 ^ 32)

abbrev pub IsStatusBy : Option ℕ → ℕ → Type 0
IsStatusBy None s = Unit {0}
IsStatusBy (Some x) s = IsStatus s

module _ (k : Build) where
  -- the areas of a function's frame that lies there: registers, cells of locals, return address
  abbrev pub own : (func at : ℕ) → List Area
  own f at = homes at (length (func k f).regs) ++ (objects_at at (starts_at k f) (func k f).locals ++ record { at = at + 4 * words_at k f; width = 4 } ∷ [])

  abbrev pub global_areas : List Area
  global_areas = objects_at 0 (global_starts k) (global_shapes k.program)

  -- a frame has as many values as its function has registers and cells
  pub record IsWhole (fr : Frame) : Type 0 where
    pub regs : length fr.regs ≡ length (func k fr.func).regs
    pub locals : Alike fr.locals (func k fr.func).locals

  abbrev pub AllWhole : List Frame → Type 0
  AllWhole [] = Unit {0}
  AllWhole (fr ∷ rest) = IsWhole fr × AllWhole rest

  -- the crossing site at which the first of these frames waits, if it waits at one
  abbrev pub site_of : List Where → Option ℕ
  site_of [] = None
  site_of (c ∷ rest) = site_at k c.func c.block c.place

  -- the statuses of all crossing calls that wait, the last first
  abbrev pub Wait : List ℕ → List Where → Type 0
  Wait ss [] = Unit {0}
  Wait ss (w ∷ ws) = IsStatusBy (site_of ws) (first_or_zero ss) × Wait (statuses_behind (site_of ws) ss) ws

  module _ (places : ℕ → ℕ) where
    -- `places` has, for each frame by its number, where it lies or lay, from RAM's base on
    abbrev pub address_of : Instance → ℕ
    address_of (OfGlobal g) = base k.setting + get_or (global_starts k) g 0
    address_of (OfPeriph q) = get_or k.places.windows q 0
    address_of (OfLocal f n l) = base k.setting + places n + get_or (starts_at k f) l 0

    abbrev pub word_of : Value → ℕ
    word_of (Number n) = n
    word_of (Code f) = entry_at k f + 1
    word_of Null = 0
    word_of (At o at) = word (address_of o + at)

    abbrev pub words_of : List Value → List ℕ
    words_of vs = map word_of vs

    abbrev pub object_words : List (List Value) → List ℕ
    object_words [] = []
    object_words (vs ∷ vss) = words_of vs ++ object_words vss

    -- the word that the function above these frames returns to
    abbrev pub link_by : Option ℕ → List Where → ℕ
    link_by (Some s) fs = k.setting.stub + 1
    link_by None [] = k.setting.stub + 1
    link_by None (c ∷ rest) = behind_at k c.func c.block c.place + 1

    abbrev pub link : List Where → ℕ
    link fs = link_by (site_of fs) fs

    -- the words of a crossing call's frame that its return needs: the return address and the status
    abbrev pub waiting_by : Option ℕ → List Where → List Area
    waiting_by None fs = []
    waiting_by (Some s) [] = []
    waiting_by (Some s) (c ∷ rest) = record { at = places c.number - 8; width = 4 } ∷ record { at = places c.number - 4; width = 4 } ∷ []

    abbrev pub areas : List Where → List Area
    areas [] = global_areas
    areas (w ∷ ws) = own w.func (places w.number) ++ (waiting_by (site_of ws) ws ++ areas ws)

    abbrev pub own_words : Frame → (link : ℕ) → List ℕ
    own_words fr l = words_of fr.regs ++ (object_words fr.locals ++ l ∷ [])

    abbrev pub waiting_words : Option ℕ → (status : ℕ) → List Where → List ℕ
    waiting_words None s fs = []
    waiting_words (Some x) s [] = []
    waiting_words (Some x) s (c ∷ rest) = behind_at k c.func c.block c.place ∷ s ∷ []

    -- `statuses` has the status of each crossing call that waits, the last first
    abbrev pub held : (statuses : List ℕ) → List Frame → (globals : List (List Value)) → List ℕ
    held ss [] gs = object_words gs
    held ss (fr ∷ rest) gs =
        own_words fr (link (wheres rest))
        ++ (waiting_words (site_of (wheres rest)) (first_or_zero ss) (wheres rest) ++ held (statuses_behind (site_of (wheres rest)) ss) rest gs)

    -- where the frame above these ends
    abbrev pub ceiling_by : Option ℕ → List Where → ℕ
    ceiling_by x [] = stack_end k.setting
    ceiling_by None (c ∷ rest) = places c.number
    ceiling_by (Some s) (c ∷ rest) = k.setting.stack + (places c.number - 32 - k.setting.stack) / k.setting.eighth * k.setting.eighth

    abbrev pub ceiling : List Where → ℕ
    ceiling fs = ceiling_by (site_of fs) fs

    -- what the monitor's block says at the entry of a function above these frames, and while the first of them runs
    abbrev pub beneath : Option ℕ → (func : ℕ) → List Where → MonitorBlock → MonitorBlock
    beneath None f fs b = b
    beneath (Some s) f [] b = b
    beneath (Some s) f (c ∷ rest) b =
        entered b (compartment_of k f) (base k.setting + ceiling_by (Some s) (c ∷ rest)) (base k.setting + places c.number - 32)

    abbrev pub block_of : List Where → MonitorBlock
    block_of [] = first_block k.setting
    block_of (w ∷ ws) = all_lent k.setting (places w.number) (beneath (site_of ws) w.func ws (block_of ws)) (lends_at k w.func)

    -- a frame that lies on the stack, and all of them. It has room for an exception below it where it lends a local, and also
    -- where a call across waits below it, as `some` of the callee tells
    pub record Fits (w : Where) (ws : List Where) : Type 0 where
      pub ends : places w.number + 4 * words_at k w.func + 4 ≡ ceiling ws
      pub room : k.setting.stack ≤ places w.number
      pub lent : 1 ≤ length (lends_at k w.func) → k.setting.stack + 32 ≤ places w.number
      pub aligned : places w.number % 8 ≡ 0
      pub some : k.setting.stack < ceiling ws
      pub loans : length (block_of (w ∷ ws)).loans ≤ 32
      pub current : (block_of (w ∷ ws)).current ≡ compartment_of k w.func

    abbrev pub AllFit : List Where → Type 0
    AllFit [] = Unit {0}
    AllFit (w ∷ ws) = Fits w ws × AllFit ws

    -- a frame within the stack limit, with room for an exception below it, and all of them
    pub record IsAmple (w : Where) (ws : List Where) : Type 0 where
      pub ends : places w.number + 4 * words_at k w.func + 4 ≡ ceiling ws
      pub room : k.setting.stack + 32 ≤ places w.number
      pub loans : length (block_of (w ∷ ws)).loans ≤ 32

    abbrev pub AllAmple : List Where → Type 0
    AllAmple [] = Unit {0}
    AllAmple (w ∷ ws) = IsAmple w ws × AllAmple ws

    module _ (Inv : MonitorBlock → Context → List ℕ → Type 0) where
      -- `frames` stand at w and ws, the first running
      pub record Stands (w : Where) (ws : List Where) (frames : List Frame) (m : Memory) (t : State) : Type 0 where
        pub context : Context
        pub low : List ℕ
        pub lr : ℕ
        pub flags : Flags
        pub ram : List ℕ
        pub statuses : List ℕ
        pub is_state : t ≡ works context low (base k.setting + places w.number) lr (code_at k w.func w.block w.place) flags ram m.queues
        pub state_fits : StateFits k.setting.image (works context low (base k.setting + places w.number) lr (code_at k w.func w.block w.place) flags ram m.queues)
        pub invariant : Inv (block_of (w ∷ ws)) context ram
        pub has : Has ram (areas (w ∷ ws)) (held statuses frames m.globals)
        pub threads : Wait statuses (w ∷ ws)
        pub fits : AllFit (w ∷ ws)

      abbrev pub Related : SourceState → State → Type 0
      Related (Running [] m) t = ⊥
      Related (Running (fr ∷ rest) m) t = Stands (where_of fr) (wheres rest) (fr ∷ rest) m t
      Related (Ended e) t = EndsAlike (Ended e) t.ending
