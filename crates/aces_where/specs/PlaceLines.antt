-- What `where` prints of a run of the source: how many steps ran, how they ended, and where the run then stands.
use Rattle.std.specs.Prelude.{ℕ, List, [], ◌∷◌, ◌++◌, length, map, flat_map, codes, Option, Some, None}
use Rattle.std.proofs.Math.ListN.{get_or}
use Rattle.std.specs.Fmt.{decimal}
use Rattle.machine_lines.specs.Lines.{line_feed}
use Rattle.plan_model.specs.Lists.{numbers_below}
use Rattle.ir_model.specs.Plain.{PlainFirmware}
use Rattle.ir_model.specs.Resolved.{Program, Value, Number, At, OfPeriph}
use Rattle.ir_model.specs.State.{Frame, SourceEnd, Returned, OutOfInput, Faulted}
use Rattle.plan_report.specs.Names.{periph_name, register_name}
use Rattle.ir_run.specs.declared.reads.FramePlace.{FramePlace}
use Rattle.ir_run.specs.Reads.{spot_of, registers_of}
use Rattle.ir_output.specs.SourceRuns.{end_line}
use Rattle.aces_where.specs.Values.{value_text}
use Rattle.aces_where.specs.Spots.{spot_line, met}

-- the steps with the one that ended the run, and the end as `source` tells it
abbrev pub run_lines : (steps : ℕ) → Option SourceEnd → List ℕ
run_lines n end = codes "steps " ++ decimal n ++ line_feed ++ end_line end

module _ (w : PlainFirmware) where
  -- ---- frames

  abbrev pub at_line : Program → FramePlace → List ℕ
  at_line p s = spot_line w p (codes "at ") s

  abbrev pub waits_line : Program → FramePlace → List ℕ
  waits_line p s = spot_line w p (codes "waits ") s

  abbrev pub register_line : (func register : ℕ) → Value → List ℕ
  register_line f r v = codes "reg " ++ register_name w f r ++ value_text w v ++ line_feed

  -- each register of a function, the parameters first
  abbrev pub register_lines : (func : ℕ) → (regs : List Value) → List ℕ
  register_lines f vs = flat_map (λ r. register_line f r (get_or vs r (Number 0))) (numbers_below (length vs))

  -- ---- the step that ended the run

  abbrev pub reached_line : Option Value → List ℕ
  reached_line None = []
  reached_line (Some v) = codes "reached" ++ value_text w v ++ line_feed

  abbrev pub periph_line : (periph : ℕ) → List ℕ
  periph_line q = codes "dry " ++ periph_name w q ++ line_feed

  abbrev pub dry_line : Option Value → List ℕ
  dry_line (Some (At (OfPeriph q) k)) = periph_line q
  dry_line _ = []

  -- the value that a fault met; the peripheral that had no word left
  abbrev pub last_line : Option SourceEnd → Option Value → List ℕ
  last_line (Some (Faulted f)) v = reached_line v
  last_line (Some OutOfInput) v = dry_line v
  last_line _ v = []

  -- ---- all of them

  -- the place of the innermost frame, and of those that wait, the last first; its registers; and what the last step met
  abbrev pub spot_lines : Program → Option SourceEnd → List FramePlace → (regs : List Value) → List ℕ
  spot_lines p end [] vs = []
  spot_lines p end (s ∷ waiting) vs = at_line p s ++ flat_map (waits_line p) waiting ++ register_lines s.func vs ++ last_line end (met p s vs)

  -- the lines of where a run with this end stands; nothing is left of one whose `main` has returned
  abbrev pub standing_lines : Program → Option SourceEnd → List Frame → List ℕ
  standing_lines p (Some Returned) frames = []
  standing_lines p end frames = spot_lines p end (map spot_of frames) (registers_of frames)

  -- the frames are those from which the last step was made, where it ended the run
  abbrev pub place_lines : Program → (steps : ℕ) → Option SourceEnd → List Frame → List ℕ
  place_lines p n end frames = run_lines n end ++ standing_lines p end frames
