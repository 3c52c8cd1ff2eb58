-- Runs that were counted are those of the definition.
use Rattle.std.proofs.Common.{◌≡◌, ℕ, List, length, Option, Ok, sym, ap, ap₂, ◌∙◌, subst}
use Rattle.std.specs.Bool.{Decides}
use Rattle.std.specs.Prelude.{None, unwrap_or}
use Rattle.machine_devices.specs.declared.image.Image.{Image}
use Rattle.base_events.specs.declared.event.Event.{Event}
use Rattle.machine_model.specs.declared.state.End.{End}
use Rattle.machine_model.specs.declared.state.End.TheVariants.{Limit}
use Rattle.machine_lines.specs.Lines as machine_lines
use Rattle.aces_reports.specs.Ends.{status_of}
use Rattle.aces_files.specs.Outcomes.{done}
use Rattle.ir_model.specs.Plain.{funcs_of}
use Rattle.ir_model.specs.Resolve.{resolve}
use Rattle.ir_model.specs.State.{SourceEnd, start}
use Rattle.ir_generator.specs.Made.{made}
use Rattle.ir_generator.specs.Taped.{taped}
use Rattle.plan_model.specs.Crossing.{crossing_sites}
use Rattle.aces_compiler.specs.PrintedRuns.{begin}
use Rattle.ir_output.specs.SourceRuns.{end_line}
use Rattle.aces_selftest.specs.declared.machines.MachineCount.{MachineCount}
use Rattle.aces_selftest.specs.Counts.{IsSourceCount, IsMachineCount}
use Rattle.aces_selftest.specs.declared.runs.SourceTest.{SourceTest}
use Rattle.aces_selftest.specs.declared.testing.Tested.{Tested}
use Rattle.aces_files.specs.declared.telling.CommandOutput.{CommandOutput}
use Rattle.aces_selftest.specs.Lines.{Ran, AreAlike, firmware_line, division_line, verdict_status, test_lines}
use Rattle.aces_selftest.specs.Answers.{source_limit, IsTestImage, groups_of, source_ran, image_ran, lines_of, SelftestAnswer, tested}
use Rattle.aces_selftest.specs.Tested.{IsSourceTest, source_seen, image_seen, IsTested, IsTold}

module _ (seed size : ℕ) (i : Image) (by : IsTestImage seed size i) where
  -- the source was run in the compartments of the image
  pub source_count : (t : SourceTest) → IsSourceTest (made seed size) (taped seed size) t
      → IsSourceCount (resolve (made seed size)) (groups_of seed size i by).of source_limit (start (resolve (made seed size)) (taped seed size)) t.count
  source_count t h =
      subst (λ (cs : List ℕ). IsSourceCount (resolve (made seed size)) cs source_limit (start (resolve (made seed size)) (taped seed size)) t.count)
      (sym (by.as_source h.compartments h.are)) h.count

  pub source_same : (t : SourceTest) → IsSourceTest (made seed size) (taped seed size) t → source_seen t.count ≡ source_ran seed size i by t.count.steps
  source_same t h =
      let c = source_count t h in
      ap₂ (λ (es : List Event) (e : Option SourceEnd). record { steps = t.count.steps; events = es; end = end_line e }) c.events c.end

  pub image_same : (limit : ℕ) (c : MachineCount) → IsMachineCount i limit (begin i (taped seed size)) c → image_seen c ≡ image_ran seed size i by c.steps
  image_same limit c h =
      ap₂ (λ (es : List Event) (e : Option End). record { steps = c.steps; events = es; end = machine_lines.end_line (unwrap_or e Limit) }) h.events h.end

-- what is told of a self-test is its answer
pub answered : (seed size : ℕ) (i : Image) (t : Tested) (told : CommandOutput) → IsTested seed size i t
    → IsTold (length (made seed size).globals) (length (made seed size).periphs) t told → SelftestAnswer seed size (done (status_of (Ok told.done)) told.lines.items None)
answered seed size i t told h k =
    let by = h.by in
    let n = t.source.steps in
    let m = t.image.steps in
    let lines : told.lines.items ≡ lines_of seed size i by n m k.alike =
    k.lines
    ∙ ap₂ (λ (f d : List ℕ). test_lines f d (source_seen t.source) (image_seen t.image) k.alike)
    (ap (λ f. firmware_line f (length (made seed size).globals) (length (made seed size).periphs)) h.functions)
    (ap₂ division_line h.compartments h.sites)
    ∙ ap₂ (λ (a b : Ran). test_lines (firmware_line (length (funcs_of (made seed size))) (length (made seed size).globals) (length (made seed size).periphs))
    (division_line (groups_of seed size i by).count (length (crossing_sites by.needs (groups_of seed size i by)))) a b k.alike) h.source h.image in
    let decides : Decides k.alike (AreAlike (source_ran seed size i by n) (image_ran seed size i by m)) =
    subst (λ (a : Ran). Decides k.alike (AreAlike a (image_ran seed size i by m))) h.source
    (subst (λ (b : Ran). Decides k.alike (AreAlike (source_seen t.source) b)) h.image k.decides) in
    subst (λ (x : ℕ). SelftestAnswer seed size (done x told.lines.items None)) (sym k.status)
    (subst (λ (l : List ℕ). SelftestAnswer seed size (done (verdict_status k.alike) l None)) (sym lines) (tested i by n m k.alike h.take decides))
