-- Where the source ends well, both runs are alike.
use Rattle.std.specs.Prelude.{codes, unwrap_or}
use Rattle.std.specs.Bool.{Decides}
use Rattle.std.proofs.Common.{◌≡◌, ◌≢◌, ℕ, ◌+◌, ◌*◌, ◌++◌, List, Bool, true, false, Option, Some, None, refl, sym, ap, ◌∙◌, subst, arith}
use Rattle.std.proofs.lemmas.Fmt.{decimal_digit}
use Rattle.machine_devices.specs.declared.image.Image.{Image}
use Rattle.base_words.specs.Runs.{run}
use Rattle.machine_model.specs.declared.state.End.{End}
use Rattle.machine_model.specs.declared.state.End.TheVariants.{Limit}
use Rattle.machine_model.specs.State.{State, by_mpu}
use Rattle.machine_model.specs.Step.{step, event}
use Rattle.machine_model.proofs.Runs.{next_ended, told_ended}
use Rattle.plan_model.specs.declared.policy.Policy.TheVariants.{Filename}
use Rattle.machine_lines.specs.Lines as lines
use Rattle.machine_lines.specs.Lines.{line_feed}
use Rattle.ir_model.specs.Resolve.{resolve}
use Rattle.ir_model.specs.Resolved.{Program}
use Rattle.ir_model.specs.State.{SourceEnd, SourceState, Running, Ended, Returned, OutOfInput, Faulted, start}
use Rattle.ir_model.specs.Step.{source_turn, source_step, source_event}
use Rattle.ir_model.specs.Runs.{source_after}
use Rattle.ir_generator.specs.Made.{made}
use Rattle.ir_generator.specs.Taped.{taped}
use Rattle.machine_model.specs.Reset.{StartsAreResets}
use Rattle.refine_model.specs.Refines.{HasFault, EndsAlike, Matched, IsGood, step_limit, word_limit}
use Rattle.plan.specs.declared.refusal.PlanningRefusal.{PlanningRefusal}
use Rattle.plan.specs.declared.refusal.PlanningRefusal.TheVariants as planning
use Rattle.plan_firmwares.specs.Plannable.{IsPlannable}
use Rattle.plan_firmwares.specs.Unplanned.{IsRefusedBy}
use Rattle.plan_firmwares.specs.Laws.{RefusalsAndPlansExclude}
use Rattle.ir_output.specs.SourceRuns.{ending_of, end_line}
use Rattle.machine_output.specs.Runs.{fill}
use Rattle.aces_compiler.specs.PrintedRuns.{begin}
use Rattle.aces_selftest.specs.TakesSteps.{machine_ending_of}
use Rattle.aces_selftest.proofs.Lengths.{has_value, Settled, settled}
use Rattle.aces_selftest.specs.TestBoard.{test_board}
use Rattle.aces_selftest.specs.Lines.{AreAlike, verdict_status}
use Rattle.aces_selftest.specs.Answers.{source_limit, IsTestImage, groups_of, words_of, TakeSteps, source_ran, image_ran, too_many, lacks_room, tested}
use Rattle.aces_selftest.specs.Laws.{EndsWell, GoodSelftestsAreSame}
use Rattle.aces_selftest.proofs.Image.{queues}

-- ---- a source that has ended stays

source_stays : (p : Program) (c : List ℕ) (s : SourceState) (e : SourceEnd) → ending_of s ≡ Some e → source_step p c s ≡ s
unfolding source_turn
source_stays p c (Running frames m) e h = cc
source_stays p c (Ended d) e h = refl

source_silent : (p : Program) (c : List ℕ) (s : SourceState) (e : SourceEnd) → ending_of s ≡ Some e → source_event p c s ≡ None
unfolding source_turn
source_silent p c (Running frames m) e h = cc
source_silent p c (Ended d) e h = refl

-- ---- ends that are alike

-- the machine has ended too, with the same line
record SameEnd (s : SourceState) (o : Option End) : Type 0 where
  pub end : End
  pub is : o ≡ Some end
  pub line : lines.end_line end ≡ end_line (ending_of s)

same_end : (s : SourceState) (o : Option End) → EndsAlike s o → ending_of s ≢ None → SameEnd s o
unfolding lines.end_line
same_end (Running frames m) o h ended = absurd (ended refl)
same_end (Ended Returned) o h ended =
    record { end = _; is = h; line = ap (λ (d : List ℕ). codes "end halt " ++ d ++ line_feed) (decimal_digit 0 (omega arith)) }
same_end (Ended OutOfInput) o h ended = record { end = _; is = h; line = refl }
same_end (Ended (Faulted f)) o h ended = absurd h

module _ (seed size : ℕ) (i : Image) (by : IsTestImage seed size i) (starts : StartsAreResets) (n m : ℕ) (take : TakeSteps seed size i by n m)
    (well : EndsWell seed size i by) where
  abbrev p : Program
  p = resolve (made seed size)

  abbrev c : List ℕ
  c = (groups_of seed size i by).of

  abbrev qs : List (List ℕ)
  qs = taped seed size

  source_settled : Settled (source_step p c) (source_event p c) (start p qs) n well.steps
  source_settled =
      let e = has_value (ending_of (source_after p c qs well.steps)) well.ended in
      settled ending_of (source_step p c) (source_event p c) (source_stays p c) (source_silent p c) source_limit n well.steps (start p qs) e.0 take.source well.few e.1

  ended : ending_of (source_after p c qs n) ≢ None
  ended none = well.ended (ap ending_of source_settled.state ∙ none)

  good : IsGood p by.needs (groups_of seed size i by) test_board.stack qs n
  good =
      let less = source_settled.less in
      record {
        no_fault = λ fault. well.good.no_fault (subst HasFault (sym source_settled.state) fault);
        within = λ j few. well.good.within j (omega arith);
      }

  matched : Matched p c (words_of seed size i by) i qs (begin i qs) n
  matched = by.image.refines.matched qs (begin i qs) n (starts i qs fill by.image.rules (queues seed size i by)) good

  abbrev first : State
  first = begin i qs

  same : SameEnd (source_after p c qs n) (run (step i) matched.steps first).ending
  same = same_end (source_after p c qs n) (run (step i) matched.steps first).ending matched.ends ended

  machine_settled : Settled (step i) (event i) first m matched.steps
  machine_settled =
      settled machine_ending_of (step i) (event i) (next_ended by_mpu i) (told_ended by_mpu i)
      (step_limit * (n + 1) + word_limit * words_of seed size i by) m matched.steps first same.end take.image matched.most same.is

  pub alike : AreAlike (source_ran seed size i by n) (image_ran seed size i by m)
  alike = (
    sym matched.events ∙ machine_settled.events,
    sym same.line ∙ ap (λ (o : Option End). lines.end_line (unwrap_or o Limit)) (sym same.is ∙ ap (λ (s : State). s.ending) machine_settled.state),
  )

true_status : (alike : Bool) (P : Type 0) → Decides alike P → P → verdict_status alike ≡ 0
true_status true P d h = refl
true_status false P d h = let wrong : false ≡ true = d.1 h in cc

pub excluded : RefusalsAndPlansExclude → (seed size : ℕ) → IsPlannable Filename (made seed size) test_board → (r : PlanningRefusal)
    → r ≢ planning.NoMemory → IsRefusedBy Filename (made seed size) test_board r → ⊥
excluded law seed size plan r other refused = other (law Filename (made seed size) test_board r plan refused)

pub good_selftests_are_same : RefusalsAndPlansExclude → StartsAreResets → GoodSelftestsAreSame
good_selftests_are_same law starts seed size plan well o (too_many which count h) = absurd (excluded law seed size plan (planning.Limit which count) (λ e. cc) h)
good_selftests_are_same law starts seed size plan well o (lacks_room lack h) = absurd (excluded law seed size plan (planning.Room lack) (λ e. cc) h)
good_selftests_are_same law starts seed size plan well o (tested i by n m a take decides) =
    true_status a (AreAlike (source_ran seed size i by n) (image_ran seed size i by m)) decides (alike seed size i by starts n m take (well i by))
