-- A run in which the machine ends: later steps tell nothing.
use Rattle.std.specs.Prelude.{unwrap_or}
use Rattle.std.proofs.Common.{◌≡◌, ℕ, ◌+◌, ◌-◌, ◌≤◌, [], Some, ap, sym, ◌∙◌, arith}
use Rattle.base_words.specs.Runs.{run, events}
use Rattle.base_words.proofs.Runs.{run-add}
use Rattle.base_words.proofs.EventLines.{lines_silent}
use Rattle.machine_devices.specs.declared.image.Image.{Image}
use Rattle.machine_model.specs.declared.state.End.{End}
use Rattle.machine_model.specs.declared.state.End.TheVariants.{Limit}
use Rattle.machine_model.specs.State.{State}
use Rattle.machine_model.specs.Step.{step, event}
use Rattle.machine_lines.specs.Lines.{event_line}
use Rattle.machine_output.specs.Runs.{event_lines, end_of}

module _ (i : Image) (stays : (n : ℕ) (s : State) (e : End) → s.ending ≡ Some e → run (step i) n s ≡ s)
    (silent : (n : ℕ) (s : State) (e : End) → s.ending ≡ Some e → events (step i) (event i) n s ≡ []) where
  -- it stays as it is
  pub same_later : (k n : ℕ) (s : State) (e : End) → k ≤ n → (run (step i) k s).ending ≡ Some e → run (step i) n s ≡ run (step i) k s
  same_later k n s e few at =
      let sum : k + (n - k) ≡ n = omega arith in
      ap (λ m. run (step i) m s) (sym sum) ∙ run-add (step i) k (n - k) s ∙ stays (n - k) (run (step i) k s) e at

  pub ends_so : (k n : ℕ) (s : State) (e : End) → k ≤ n → (run (step i) k s).ending ≡ Some e → end_of i n s ≡ e
  ends_so k n s e few at = ap (λ (x : State). unwrap_or x.ending Limit) (same_later k n s e few at) ∙ ap (λ o. unwrap_or o Limit) at

  pub same_lines : (k n : ℕ) (s : State) (e : End) → k ≤ n → (run (step i) k s).ending ≡ Some e → event_lines i n s ≡ event_lines i k s
  same_lines k n s e few at = lines_silent (step i) (event i) (event_line i.windows) k n s few (silent (n - k) (run (step i) k s) e at)
