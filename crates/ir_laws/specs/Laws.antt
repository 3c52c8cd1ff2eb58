-- Beyond the program's claim: only laws, proofs and functions inside the tool cite this file.
-- Laws of layouts and of source runs.
use Rattle.std.specs.Prelude.{◌≡◌, ℕ, ◌+◌, ◌<◌, ◌≤◌, List, [], ◌∷◌, length, Some}
use Rattle.base_events.specs.declared.event.Event.{Event}
use Rattle.ir_model.specs.Types.{PlainType, width_of}
use Rattle.ir_model.specs.Plain.{PlainStruct, PlainFirmware}
use Rattle.ir_model.specs.Layout.{CellPlace, known, shape}
use Rattle.ir_model.specs.Resolved.{Program, window_at, cells_of_global, cells_of_local}
use Rattle.ir_model.specs.Resolve.{resolve}
use Rattle.ir_model.specs.State.{Frame, SourceState, Running, Ended, start}
use Rattle.ir_model.specs.Step.{source_step, source_event}

-- cells one behind the other: each begins at or behind the end of the one before it, the first at or behind `from`, and
-- the last ends at or before `to`
abbrev pub IsLaidOut : (from to : ℕ) → List CellPlace → Type 0
IsLaidOut from to [] = from ≤ to
IsLaidOut from to (c ∷ cs) = (from ≤ c.at) × IsLaidOut (c.at + width_of c.ty) to cs

-- the cells of a type lie apart and inside it
abbrev pub CellsOfTypes : Type 0
CellsOfTypes = (structs : List PlainStruct) (t : PlainType) → IsLaidOut 0 (shape (known structs) t).size (shape (known structs) t).cells

-- cells that lie apart, in order
pub record AreApart (cs : List CellPlace) : Type 0 where
  pub to : ℕ
  pub laid_out : IsLaidOut 0 to cs

-- the cells of each global and of each local lie apart
pub record HasCellsApart (p : Program) : Type 0 where
  pub globals : (g : ℕ) → AreApart (cells_of_global p g)
  pub locals : (f l : ℕ) → AreApart (cells_of_local p f l)

abbrev pub CellsOfFirmwares : Type 0
CellsOfFirmwares = (w : PlainFirmware) → HasCellsApart (resolve w)

-- frames were made before `made`, and each before the one above it
abbrev pub IsOrdered : (made : ℕ) → List Frame → Type 0
IsOrdered made [] = Unit {0}
IsOrdered made (fr ∷ rest) = (fr.number < made) × IsOrdered fr.number rest

abbrev pub HasOrderedFrames : SourceState → Type 0
HasOrderedFrames (Running frames m) = IsOrdered m.made frames
HasOrderedFrames (Ended e) = Unit {0}

-- the frames of a run are in the order in which they were made
pub record FramesStayOrdered : Type 0 where
  pub first : (p : Program) (queues : List (List ℕ)) → HasOrderedFrames (start p queues)
  pub next : (p : Program) (compartments : List ℕ) (s : SourceState) → HasOrderedFrames s → HasOrderedFrames (source_step p compartments s)

-- an event is an access of a declared peripheral, inside its window
pub record IsDeclaredAccess (p : Program) (e : Event) : Type 0 where
  pub declared : e.periph < length p.periphs
  pub inside : e.offset + e.width ≤ (window_at p e.periph).size

abbrev pub EventsAreDeclared : Type 0
EventsAreDeclared = (p : Program) (compartments : List ℕ) (s : SourceState) (e : Event) → source_event p compartments s ≡ Some e → IsDeclaredAccess p e
