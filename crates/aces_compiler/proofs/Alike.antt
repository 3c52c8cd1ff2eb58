-- The lines of an image and of the source that it refines are the same.
use Rattle.std.proofs.Common.{◌≡◌, ℕ, List, length, Option, ◌++◌, ap, sym, ◌∙◌, arith}
use Rattle.std.specs.Prelude.{codes, flat_map, unwrap_or}
use Rattle.std.proofs.lemmas.Fmt.{decimal_digit}
use Rattle.machine_devices.specs.declared.image.Image.{Image}
use Rattle.machine_devices.specs.declared.image.Window.{Window}
use Rattle.base_events.specs.declared.event.Event.{Event}
use Rattle.machine_model.specs.declared.state.End.{End}
use Rattle.machine_model.specs.declared.state.End.TheVariants.{Limit}
use Rattle.machine_model.specs.Step.{step, event}
use Rattle.machine_model.specs.Reset.{StartsAreResets}
use Rattle.base_words.specs.Runs.{run, events}
use Rattle.ir_model.specs.Plain.{PlainFirmware}
use Rattle.ir_model.specs.Resolve.{resolve}
use Rattle.ir_model.specs.State.{SourceState, Running, Ended, Returned, OutOfInput, Faulted}
use Rattle.ir_model.specs.Runs.{source_after}
use Rattle.ir_program.specs.Windows.{windows_of}
use Rattle.machine_lines.specs.Lines as lines
use Rattle.machine_lines.specs.Lines.{event_line, line_feed}
use Rattle.refine_model.specs.Refines.{EndsAlike, Matched}
use Rattle.ir_output.specs.SourceRuns as source
use Rattle.machine_output.specs.Runs as machine
use Rattle.aces_compiler.specs.PrintedRuns.{begin, IsAlike, RefiningImagesAreAlike}

-- ---- ends

same_line : (s : SourceState) (e : Option End) → EndsAlike s e → lines.end_line (unwrap_or e Limit) ≡ source.end_line (source.ending_of s)
unfolding lines.end_line
same_line (Running frames m) e h = ap (λ (x : Option End). lines.end_line (unwrap_or x Limit)) h
same_line (Ended Returned) e h =
    ap (λ (x : Option End). lines.end_line (unwrap_or x Limit)) h ∙ ap (λ (d : List ℕ). codes "end halt " ++ d ++ line_feed) (decimal_digit 0 (omega arith))
same_line (Ended OutOfInput) e h = ap (λ (x : Option End). lines.end_line (unwrap_or x Limit)) h
same_line (Ended (Faulted f)) e h = absurd h

same_status : (s : SourceState) (e : Option End) → EndsAlike s e → machine.end_status (unwrap_or e Limit) ≡ source.end_status (source.ending_of s)
same_status (Running frames m) e h = ap (λ (x : Option End). machine.end_status (unwrap_or x Limit)) h
same_status (Ended Returned) e h = ap (λ (x : Option End). machine.end_status (unwrap_or x Limit)) h
same_status (Ended OutOfInput) e h = ap (λ (x : Option End). machine.end_status (unwrap_or x Limit)) h
same_status (Ended (Faulted f)) e h = absurd h

-- ---- lines

-- the machine steps that match the source steps print the same
alike : (w : PlainFirmware) (compartments : List ℕ) (words : ℕ) (i : Image) (queues : List (List ℕ)) (n : ℕ) → i.windows ≡ windows_of w
    → Matched (resolve w) compartments words i queues (begin i queues) n → IsAlike w compartments words i queues n
alike w compartments words i queues n same m =
    let source_state : SourceState = source_after (resolve w) compartments queues n in
    let machine_end : Option End = (run (step i) m.steps (begin i queues)).ending in
    let told : machine.event_lines i m.steps (begin i queues) ≡ source.source_event_lines w compartments queues n =
    ap (λ (ws : List Window). flat_map (event_line ws) (events (step i) (event i) m.steps (begin i queues))) same
    ∙ ap (λ (es : List Event). flat_map (event_line (windows_of w)) es) m.events in
    record {
      steps = m.steps;
      least = m.least;
      most = m.most;
      lines = ap (λ (ls : List ℕ). ls ++ lines.end_line (machine.end_of i m.steps (begin i queues))) told
          ∙ ap (λ (l : List ℕ). source.source_event_lines w compartments queues n ++ l) (same_line source_state machine_end m.ends);
      status = same_status source_state machine_end m.ends;
    }

-- ---- images that refine

pub runs_are_alike : StartsAreResets → RefiningImagesAreAlike
runs_are_alike starts w needs groups stack words i rules same refines queues n long good =
    alike w groups.of words i queues n same
    (refines.matched queues (begin i queues) n (starts i queues machine.fill rules (long ∙ sym (ap (λ (ws : List Window). length ws) same))) good)
