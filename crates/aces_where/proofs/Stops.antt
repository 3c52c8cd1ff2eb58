-- How far a run comes: from the steps that the code counts to where the run stands.
use Rattle.std.proofs.Common.{◌≡◌, ℕ, ◌+◌, ◌-◌, ◌≤◌, inl, inr, List, Option, Some, None, refl, ap, sym, subst, ◌∙◌, arith}
use Rattle.std.proofs.Math.Nat.{eq-or-lt_of_le}
use Rattle.base_words.specs.Runs.{run}
use Rattle.base_words.proofs.EventLines.{run_behind, run_ended}
use Rattle.ir_model.specs.Plain.{PlainFirmware}
use Rattle.ir_model.specs.Resolved.{Program}
use Rattle.ir_model.specs.Resolve.{resolve}
use Rattle.ir_model.specs.State as state
use Rattle.ir_model.specs.State.{SourceState, Running, Ended, start}
use Rattle.ir_model.specs.Step.{source_step}
use Rattle.ir_model.specs.Runs.{source_after}
use Rattle.ir_run.specs.declared.outcome.SourceEnd.{SourceEnd}
use Rattle.ir_run.specs.Acts.{end_of}
use Rattle.ir_run.specs.Reads.{frames_of}
use Rattle.ir_output.specs.Ends.{seen_end}
use Rattle.ir_output.specs.SourceRuns.{ending_of, source_end}
use Rattle.ir_output.proofs.Sources.{ended_stays}
use Rattle.aces_where.specs.PlaceLines.{place_lines}
use Rattle.aces_where.specs.declared.running.Halt.{Halt}
use Rattle.aces_where.specs.Halts.{IsOver, IsHalt, halt_lines}
use Rattle.aces_where.specs.Runs.{IsRunOut, frames_behind, standing, AreLines}

-- what holds of none so far
pub only_first : (P : ℕ → Type 0) → P 0 → (k : ℕ) → k ≤ 0 → P k
only_first P h k l = let none : 0 ≡ k = omega arith in subst P none h

-- one step more of what holds so far
pub one_more : (P : ℕ → Type 0) (n : ℕ) → ((k : ℕ) → k ≤ n → P k) → P (n + 1) → (k : ℕ) → k ≤ n + 1 → P k
one_more P n all last k l =
    elim (eq-or-lt_of_le l) [ inl same ↦ subst P (sym same) last | inr less ↦ (let m : k ≤ n = omega arith in all k m) ]

-- a state that goes on has its own frames
own : (b t : SourceState) → ending_of t ≡ None → frames_behind b t ≡ frames_of t
own b (Running frames m) h = refl
own b (Ended e) h = let wrong : Some e ≡ None = h in cc

-- a state that has ended has the frames of the state before it
earlier : (b t : SourceState) (e : state.SourceEnd) → t ≡ Ended e → frames_behind b t ≡ frames_of b
earlier b t e h = ap (λ x. frames_behind b x) h

-- the place at which a run that is over stands
pub record IsStopped (p : Program) (c : List ℕ) (queues : List (List ℕ)) (limit going made : ℕ) (end : Option SourceEnd) : Type 0 where
  pub run_out : IsRunOut p c queues limit made
  pub ends : seen_end end ≡ ending_of (source_after p c queues limit)
  pub frames : standing p c queues made ≡ frames_of (source_after p c queues going)

module _ (p : Program) (c : List ℕ) (queues : List (List ℕ)) (limit : ℕ) where
  stopped : (going made : ℕ) (end : Option SourceEnd) → ((k : ℕ) → k ≤ going → ending_of (source_after p c queues k) ≡ None)
      → IsOver p c limit (start p queues) going made end → IsStopped p c queues limit going made end
  stopped going made None g o =
      let here = g going (omega arith) in
      let same = o.1 in
      let all = o.0 in
      record {
        run_out = record { few = omega arith; goes_on = λ k l. g k (omega arith); over = inl (same ∙ all) };
        ends = sym (subst (λ n. ending_of (source_after p c queues n) ≡ None) all here);
        frames = own (source_after p c queues (made - 1)) (source_after p c queues made)
            (subst (λ n. ending_of (source_after p c queues n) ≡ None) (sym same) here)
            ∙ ap (λ n. frames_of (source_after p c queues n)) same;
      }
  stopped going made (Some e) g o =
      let less = o.0 in
      let same = o.1.0 in
      let s = start p queues in
      let last : source_after p c queues made ≡ Ended (end_of e) = ap (λ n. run (source_step p c) n s) same ∙ o.1.1 in
      let before : made - 1 ≡ going = omega arith in
      record {
        run_out = record {
          few = omega arith;
          goes_on = λ k l. g k (omega arith);
          over = inr (λ none. let wrong : Some (end_of e) ≡ None = sym (ap ending_of last) ∙ none in cc);
        };
        ends = sym (ap ending_of (run_ended (source_step p c) going limit s (Ended (end_of e)) less (sym (run_behind (source_step p c) going s) ∙ o.1.1)
            (ended_stays p c (end_of e))));
        frames = earlier (source_after p c queues (made - 1)) (source_after p c queues made) (end_of e) last
            ∙ ap (λ n. frames_of (source_after p c queues n)) before;
      }

-- the lines that are told of a run's halt are those of the run
pub lines_told : (w : PlainFirmware) (c : List ℕ) (queues : List (List ℕ)) (limit : ℕ) (h : Halt) (lines : List ℕ)
    → IsHalt (resolve w) c limit (start (resolve w) queues) h → lines ≡ halt_lines w c queues h → AreLines w c queues limit lines
lines_told w c queues limit h lines halt e =
    let t = stopped (resolve w) c queues limit h.going h.made h.end halt.goes_on halt.over in
    record {
      steps = h.made;
      run_out = t.run_out;
      told = e ∙ ap (λ x. place_lines w (resolve w) h.made x (frames_of (source_after (resolve w) c queues h.going))) t.ends
          ∙ ap (λ fs. place_lines w (resolve w) h.made (source_end w c queues limit) fs) (sym t.frames);
    }
