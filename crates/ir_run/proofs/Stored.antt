-- What a store into a local of a frame that is there answers.
use Rattle.std.proofs.Common.{◌≡◌, ℕ, List, [], ◌∷◌, Option, Some, None, get_or, set, refl, sym, subst}
use Rattle.ir_model.specs.Types.{PlainType}
use Rattle.ir_model.specs.Layout.{cell_at}
use Rattle.ir_model.specs.Resolved.{Program, Value, cells_of_local}
use Rattle.ir_model.specs.State.{Frame, Memory, SourceState, Running, SourceTurn}
use Rattle.ir_model.specs.Step.{frame_in, with_local, onward, store_cell, store_local}

pub stored : (p : Program) (fr : Frame) (rest : List Frame) (m : Memory) (f n l at : ℕ) (t : PlainType) (v : Value) (held : Frame) (cell : ℕ) (s : SourceState)
    → Some held ≡ frame_in (fr ∷ rest) f n
    → Some cell ≡ cell_at (cells_of_local p f l) at t
    → s ≡ Running (with_local (onward fr ∷ rest) f n l (set (get_or held.locals l []) cell v)) m
    → let turn : SourceTurn = store_local p fr rest m f n l at t v (frame_in (fr ∷ rest) f n) in (turn.to ≡ s) × (turn.event ≡ None)
stored p fr rest m f n l at t v held cell s there known e =
    subst
    (λ (o : Option Frame). let turn : SourceTurn = store_local p fr rest m f n l at t v o in (turn.to ≡ s) × (turn.event ≡ None))
    there
    (subst
    (λ (o : Option ℕ). let turn : SourceTurn = store_cell fr rest m f n l (get_or held.locals l []) v o in (turn.to ≡ s) × (turn.event ≡ None))
    known
    (sym e, refl))
