-- A step that asks to enter a function calls it.
use Rattle.std.proofs.Common.{◌≡◌, ℕ, List, ◌∷◌, subst}
use Rattle.ir_model.specs.Resolved.{Program, NumberedInst, Here, Does, here}
use Rattle.ir_model.specs.State.{Frame, Memory, Running}
use Rattle.ir_model.specs.Step.{SourceAct, Sets, Fails, Loads, Stores, Enters, act, perform, turn_here, source_turn}
use Rattle.ir_run.specs.Acts.{IsEntry, IsCall}

module _ (p : Program) (c : List ℕ) (fr : Frame) (rest : List Frame) (m : Memory) where
  performed : (a : SourceAct) → IsEntry a → IsCall (perform p c fr rest m a)
  unfolding perform
  performed (Enters g vs) h = tt
  performed (Sets to v) h = absurd h
  performed (Fails e) h = absurd h
  performed (Loads to o at t) h = absurd h
  performed (Stores o at t v) h = absurd h

  pub calls : (i : NumberedInst) → Does i ≡ here p fr.func fr.block fr.place → IsEntry (act fr i) → IsCall (source_turn p c (Running (fr ∷ rest) m))
  unfolding source_turn
  calls i e h = subst (λ (x : Here). IsCall (turn_here p c fr rest m x)) e (performed (act fr i) h)
