-- A sink as it is seen, and what is said by it.
use Rattle.std.specs.Prelude.{◌≡◌, ℕ, ◌≤◌, List, ◌++◌, Bool, true, false, IsTrue}
use Rattle.base_outside.specs.declared.sink.Sink as sinks
use Rattle.base_outside.specs.Counts.{Rose, Stayed}
use Rattle.base_outside.specs.Contents.{AddsPrefix}

-- a sink as it is seen: whether it tells what was written, the bytes written, and the count of faults
pub record SinkState : Type 0 where
  pub told : Bool
  pub written : List ℕ
  pub faults : ℕ

abbrev pub sink : {O : Type 0} → sinks.Ghosts O → O → SinkState
sink of out = record { told = of.told; written = of.written out; faults = of.faults out }

-- a line was added, where the sink tells what was written and no fault of it rose
pub record PutsLine (old new : SinkState) (line : List ℕ) : Type 0 where
  pub never_falls : old.faults ≤ new.faults
  pub said : IsTrue old.told → Stayed old.faults new.faults → new.written ≡ old.written ++ line

-- a piece was put, or a fault of the sink rose and a prefix of it was put
abbrev pub Puts : (old new : SinkState) → List ℕ → Bool → Type 0
Puts old new piece true = (new.faults ≡ old.faults) × (IsTrue old.told → new.written ≡ old.written ++ piece)
Puts old new piece false = Rose old.faults new.faults × (IsTrue old.told → AddsPrefix old.written new.written piece)
