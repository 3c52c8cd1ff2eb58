-- Facts on the groups, the needs and the plan of a firmware.
use Rattle.std.proofs.Common.{◌≡◌, ℕ, List, length, ap, sym, subst, ◌∙◌}
use Rattle.std.proofs.lemmas.List.{length-map}
use Rattle.std.proofs.lemmas.Slice.Zip.{AllZip-long}
use Rattle.ir_model.specs.Plain.{PlainFirmware, funcs_of}
use Rattle.ir_model.specs.Resolved.{Program}
use Rattle.ir_model.specs.Resolve.{resolve}
use Rattle.ir_program.specs.declared.program.Program as programs
use Rattle.ir_program.specs.Parts.{routine_of}
use Rattle.ir_program.specs.Seen.{program_of, known_of}
use Rattle.plan_model.specs.declared.groups.FuncFacts.{FuncFacts}
use Rattle.plan_model.specs.declared.groups.Groups.{Groups}
use Rattle.plan_model.specs.declared.needs.Needs.{Needs}
use Rattle.plan_model.specs.declared.plan.Board.{Board}
use Rattle.plan_model.specs.declared.plan.Sizes.{Sizes}
use Rattle.plan_model.specs.Compartments.{AreCompartments, compartments}
use Rattle.plan_model.specs.Placement.{plan_of}
use Rattle.plan_compartments.specs.Analyses.{AreNeedsOf}
use Rattle.plan_policies.specs.Callbacks.{AreAnswers}
use Rattle.machine_devices.specs.declared.image.Image.{Image}
use Rattle.machine_devices.specs.Rules.{ObeysRules}
use Rattle.machine_model.specs.Reset.{EachRun}
use Rattle.monitor_model.specs.declared.tables.Tables.{Tables}
use Rattle.monitor_model.specs.Confined.{Confined}
use Rattle.monitor_model.specs.Layout.{initial_word_count}
use Rattle.monitor_model.specs.MonitorLaw.{MonitorLaw}
use Rattle.monitor_program.specs.Page.{stub_address}
use Rattle.monitor_model.specs.Starts.{Starts}
use Rattle.refine_model.specs.Refines.{Refines}
use Rattle.image_promises.specs.Planned.{planned_image, planned_tables}
use Rattle.plan.specs.PlannedFirmwares.{IsPlanned, plan}
use Rattle.image_promises.specs.Whole.{IsForBoard}
use Rattle.monitor_runs.specs.Runs.{TellsWhoRuns}
use Rattle.machine_model.specs.State.{State}
use Rattle.image_runs.specs.Denied.{NoneIsDenied}
use Rattle.image_runs.specs.OtherCode.{WithOtherCode}
use Rattle.image_runs.specs.Isolated.{IsIsolated}
use Rattle.image_runs.specs.Whole.{KeepsTheInvariant}
use Rattle.refine.specs.NeverWrong.{RunsAreNeverWrong}
use Rattle.image_promises.specs.Guarded.{IsStackGuarded}
use Rattle.plan.specs.declared.planner.PlannedFirmware.{PlannedFirmware}
use Rattle.plan.specs.Planned.{IsPlannedFor}
use Rattle.aces_compiler.specs.Compiled.{IsImageFor}
use Rattle.aces_compiler.specs.Promises.{Promises}
use Rattle.ir_laws.proofs.Resolved.{as_many}

-- ---- how many functions there are

pub routines : (p : programs.Program) (w : PlainFirmware) → program_of p ≡ resolve w → length p.funcs ≡ length (resolve w).funcs
routines p w e = sym (length-map p.funcs (routine_of (known_of p))) ∙ ap (λ (q : Program). length q.funcs) e

-- the compartments by the answers of a callback are compartments of the program
pub answered_compartments : (w : PlainFirmware) (n : Needs) (answers : FuncFacts → ℕ → Type 0) (fs : List FuncFacts) (g : Groups) → length fs ≡ length (funcs_of w)
    → (groups : List ℕ) × AreAnswers answers fs groups × (g ≡ compartments groups) → AreCompartments (resolve w) g
answered_compartments w n answers fs g e (groups, h, is) =
    record { groups = groups; each = AllZip-long answers fs groups h ∙ (e ∙ sym (as_many w)); are = is }

-- ---- a firmware that is planned

-- a firmware that is planned is planned in the compartments of its own graph
pub in_own_groups : (p : Program) (n : Needs) (b : Board) (g : Groups) (x : PlannedFirmware) → IsPlannedFor p n g b x → IsPlannedFor p n x.graph.groups b x
in_own_groups p n b g x k = subst (λ (y : Groups). IsPlannedFor p n y b x) (sym k.groups) k

pub plan_is : (w : PlainFirmware) (n : Needs) (b : Board) (g : Groups) (x : PlannedFirmware) → IsPlannedFor (resolve w) n g b x → x.plan ≡ plan w n x.graph b
plan_is w n b g x k = k.placed.plan ∙ ap (λ (s : Sizes). plan_of (resolve w) x.graph s b) k.placed.sizes

module _ (w : PlainFirmware) (n : Needs) (b : Board) (g : Groups) (x : PlannedFirmware) (k : IsPlannedFor (resolve w) n g b x) where
  -- its image, with all that is promised of it
  pub is_image : IsPlanned w n x.graph b → AreNeedsOf w b.closed n → Promises → (i : Image) → i ≡ planned_image w n x.graph b → IsImageFor w n b g i
  is_image is needs all i e =
      record {
        graph = x.graph;
        groups = k.groups;
        planned = is;
        linked = e;
        rules = rules;
        board = board;
        moves = of_image (λ (j : Image). TellsWhoRuns j t) (all.moves w n x.graph b is);
        isolated = of_image (λ (j : Image). EachRun j (IsIsolated w n x.graph b j t)) (all.isolated w n x.graph b is);
        confined = of_image (λ (j : Image). Confined j t) (all.confined w n x.graph b is);
        moves_with_other_code = of_image (λ (j : Image). WithOtherCode TellsWhoRuns j t) (all.keep.moves w n x.graph b is);
        isolated_with_other_code = of_image (λ (j : Image). WithOtherCode (λ (l : Image) (u : Tables). EachRun l (IsIsolated w n x.graph b l u)) j t) (all.stay_isolated w n x.graph b is);
        confined_with_other_code = of_image (λ (j : Image). WithOtherCode Confined j t) (all.keep.confined w n x.graph b is);
        denied = of_image (λ (j : Image). WithOtherCode (λ (l : Image) (u : Tables). EachRun l (λ (first : State). NoneIsDenied l u first b.denied)) j t) (all.off w n x.graph b is b.denied is.board.denied k.off);
        permissions = all.permissions w n x.graph b is;
        slots = all.slots w n x.graph b is;
        masks = all.masks w n x.graph b is;
        needed = all.needed w n x.graph b is;
        policy = all.policy w n x.graph b is;
        stub = stub_address t;
        law = of_image (λ (j : Image). MonitorLaw j t (stub_address t)) (all.law w n x.graph b is);
        starts = of_image (λ (j : Image). Starts j t (stub_address t)) (all.starts w n x.graph b is);
        invariant = of_image (λ (j : Image). KeepsTheInvariant j t) (all.invariant w n x.graph b is);
        refines = refines;
        never_wrong = never_wrong;
        guarded = all.guarded w n x.graph b;
        alike = all.alike w n g b.stack (initial_word_count t) i rules board.windows refines;
      }
    where
      t : Tables
      t = planned_tables w n x.graph b

      of_image : (P : Image → Type 0) → P (planned_image w n x.graph b) → P i
      of_image P h = subst P (sym e) h

      rules : ObeysRules i
      rules = of_image ObeysRules (all.rules w n x.graph b is)

      board : IsForBoard w b i
      board = of_image (IsForBoard w b) (all.board w n x.graph b is)

      refines : Refines w n g b.stack (initial_word_count t) i
      refines = of_image (Refines w n g b.stack (initial_word_count t))
          (subst (λ (y : Groups). Refines w n y b.stack (initial_word_count t) (planned_image w n x.graph b)) k.groups
          (all.refined w needs.sets n x.graph b is needs.least needs.needs))

      never_wrong : IsStackGuarded w n x.graph b → RunsAreNeverWrong w g i
      never_wrong guarded = of_image (RunsAreNeverWrong w g)
          (subst (λ (y : Groups). RunsAreNeverWrong w y (planned_image w n x.graph b)) k.groups
          (all.never_wrong w needs.sets n x.graph b is needs.least needs.needs guarded))
