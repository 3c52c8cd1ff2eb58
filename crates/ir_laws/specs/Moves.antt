-- Where the frames of a run stand, and how a step moves them.
use Rattle.std.specs.Prelude.{◌≡◌, ℕ, suc, List, [], ◌∷◌}
use Rattle.ir_model.specs.Resolved.{Program}
use Rattle.ir_model.specs.State.{Frame, Memory, SourceState, Running, Ended}
use Rattle.ir_model.specs.Step.{source_step}

-- a frame without what it holds
pub record Where : Type 0 where
  pub func : ℕ
  pub block : ℕ
  pub place : ℕ
  pub number : ℕ

abbrev pub where_of : Frame → Where
where_of fr = record { func = fr.func; block = fr.block; place = fr.place; number = fr.number }

abbrev pub wheres : List Frame → List Where
wheres [] = []
wheres (fr ∷ rest) = where_of fr ∷ wheres rest

-- where the frames of a state stand: an ended run has none
abbrev pub wheres_of : SourceState → List Where
wheres_of (Running fs m) = wheres fs
wheres_of (Ended e) = []

-- the first frame moves on inside its function, or waits below a new one, which has the next number, or returns to the one
-- below it. The numbers are of the frames that were made
pub data Moves : List Where → ℕ → List Where → ℕ → Type 0 where
  Moved : {w v : Where} {ws : List Where} {n : ℕ} → v.func ≡ w.func → v.number ≡ w.number → Moves (w ∷ ws) n (v ∷ ws) n
  Pushed : {w v : Where} {ws : List Where} {n : ℕ} → v.number ≡ n → Moves (w ∷ ws) n (v ∷ w ∷ ws) (suc n)
  Popped : {u w v : Where} {ws : List Where} {n : ℕ} → v.func ≡ w.func → v.number ≡ w.number → Moves (u ∷ w ∷ ws) n (v ∷ ws) n

abbrev pub MovesTo : Frame → List Frame → Memory → SourceState → Type 0
MovesTo fr rest m (Running fs n) = Moves (where_of fr ∷ wheres rest) m.made (wheres fs) n.made
MovesTo fr rest m (Ended e) = Unit {0}

-- of any program, from any state
abbrev pub FramesMove : Type 0
FramesMove =
    (p : Program) (compartments : List ℕ) (fr : Frame) (rest : List Frame) (m : Memory)
    → MovesTo fr rest m (source_step p compartments (Running (fr ∷ rest) m))
