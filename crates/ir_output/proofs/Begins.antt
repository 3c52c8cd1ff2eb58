-- What holds of a firmware's run before its first step, and of its windows.
use Rattle.std.proofs.Common.{◌≡◌, ℕ, zero, suc, ◌+◌, ◌≤◌, List, [], ◌∷◌, ◌++◌, length, map, None, refl, ap, sym, ◌∙◌, arith}
use Rattle.std.proofs.lemmas.List.{length-map}
use Rattle.machine_devices.specs.declared.image.Window.{Window}
use Rattle.ir_model.specs.declared.firmware.Peripheral.{Peripheral}
use Rattle.ir_model.specs.Plain.{PlainFirmware}
use Rattle.ir_model.specs.Lines.{struct_lines, periph_lines, global_lines, file_lines, lines_of}
use Rattle.ir_model.specs.Canonical.{IsWithinLimits}
use Rattle.base_laws.specs.Lists.{Each}
use Rattle.base_laws.proofs.Lists.{each_left, each_right}
use Rattle.ir_model.specs.Resolved.{Program}
use Rattle.ir_model.specs.Resolve as spans
use Rattle.ir_model.specs.Resolve.{resolve}
use Rattle.ir_model.specs.State.{start}
use Rattle.ir_model.proofs.NoExcess.{word_short}
use Rattle.ir_model.proofs.Limits.{Quiet}
use Rattle.ir_program.specs.Windows.{window_of, windows_of}
use Rattle.ir_run.specs.Runs.{RunState}
use Rattle.machine_lines.specs.Lines.{name_of}
use Rattle.ir_output.specs.SourceRuns.{ending_of, end_of, event_lines, source_run, source_end, source_event_lines}

-- a run has no end before its first step
pub goes_at_first : (p : Program) (queues : List (List ℕ)) → ending_of (start p queues) ≡ None
unfolding start
goes_at_first p queues = refl

-- there are as many windows as the program has peripherals
pub as_many : (w : PlainFirmware) → length (windows_of w) ≡ length (resolve w).periphs
unfolding resolve
as_many w = length-map w.periphs window_of ∙ sym (length-map w.periphs spans.window_of)

short_at : (before : ℕ) (ps : List Peripheral) (k : ℕ) → Each Quiet (periph_lines before ps) → length (name_of (map window_of ps) k) ≤ 64
short_at before [] k h = let e : 0 ≤ 64 = omega arith in e
short_at before (q ∷ qs) zero h = word_short q.name h.0.1.0
short_at before (q ∷ qs) (suc k) h = short_at (before + 1) qs k h.1

-- the name of each window has at most 64 bytes
pub names_are_short : (w : PlainFirmware) → IsWithinLimits w → (k : ℕ) → length (name_of (windows_of w) k) ≤ 64
unfolding lines_of
names_are_short w h k =
    let structs = struct_lines 0 w.structs in
    let periphs = periph_lines 0 w.periphs in
    let globals = global_lines 0 w.globals in
    let front = each_left Quiet (structs ++ periphs) globals (each_left Quiet (structs ++ periphs ++ globals) (file_lines 0 0 w.files) h.tokens) in
    short_at 0 w.periphs k (each_right Quiet structs periphs front)

-- a run begins as the firmware's, where its program is the firmware's
pub begun : (w : PlainFirmware) (queues : List (List ℕ)) (p : Program) (c : List ℕ) (r : RunState)
    → r ≡ record { program = p; compartments = c; state = start p queues; taken = 0 } → p ≡ resolve w → r ≡ source_run w c queues
begun w queues p c r h e =
    h
    ∙ ap (λ q. let s : RunState = record { program = q; compartments = c; state = start q queues; taken = 0 } in s) e

-- a run that begins as that of a firmware has its lines and its end
module _ (w : PlainFirmware) (c : List ℕ) (queues : List (List ℕ)) (n : ℕ) (r : RunState) (begins : r ≡ source_run w c queues) where
  pub lines_of_run : (ws : List Window) → ws ≡ windows_of w → event_lines r.program r.compartments ws n r.state ≡ source_event_lines w c queues n
  lines_of_run ws e =
      ap (λ (x : RunState). event_lines x.program x.compartments ws n x.state) begins
      ∙ ap (λ v. event_lines (resolve w) c v n (start (resolve w) queues)) e

  pub end_of_run : end_of r.program r.compartments n r.state ≡ source_end w c queues n
  end_of_run = ap (λ (x : RunState). end_of x.program x.compartments n x.state) begins
