-- From steps to the refinement: with the stack limit as a premise, and with the law of the stack in its place.
use Rattle.std.proofs.Common.{◌≡◌, ◌≢◌, ℕ, zero, suc, ◌+◌, ◌-◌, ◌<◌, ◌≤◌, Some, List, [], ◌∷◌, refl, sym, ap, ◌∙◌, subst, arith, ◌*◌, ◌⊎◌, inl, inr, ⊎_elim}
use Rattle.std.specs.Prelude.{option_to_list}
use Rattle.base_words.specs.Runs.{run}
use Rattle.base_words.proofs.Runs.{run-add, stay, next}
use Rattle.machine_model.specs.declared.state.End.{End}
use Rattle.machine_model.specs.declared.state.End.TheVariants.{Halt, InputEnd}
use Rattle.machine_model.specs.State.{State, by_mpu}
use Rattle.machine_model.specs.RunningCode.{Context}
use Rattle.machine_model.proofs.Runs.{next_ended, told_ended}
use Rattle.machine_model.specs.Reset.{IsReset}
use Rattle.ir_model.specs.Types.{PlainType}
use Rattle.ir_model.specs.State.{Frame, Memory, SourceState, Running, Ended, SourceEnd, Returned, OutOfInput, Faulted, frame_of}
use Rattle.ir_model.specs.State as source
use Rattle.ir_model.specs.Step.{source_turn, source_step, source_event}
use Rattle.ir_model.specs.Runs.{source_after}
use Rattle.ir_laws.specs.Moves.{Where, where_of, wheres, Moves, MovesTo, FramesMove, wheres_of}
use Rattle.ir_laws.specs.Sets.{ObjectSets}
use Rattle.ir_laws.specs.States.{StateFits}
use Rattle.monitor_model.specs.Block.{MonitorBlock}
use Rattle.refine_model.specs.Refines.{HasFault, EndsAlike, Matched, step_limit, word_limit}
use Rattle.refine_model.specs.StackLimit as limit
use Rattle.refine.specs.Guard.{StackLaw}
use Rattle.refine.specs.Ends.{NamesStack}
use Rattle.refine.specs.Entries.{EndsShort}
use Rattle.refine.specs.NeverWrong.{StopsShort}
use Rattle.refine.specs.Builds.{Build}
use Rattle.refine.specs.Relation.{site_of, AllAmple, Related}
use Rattle.refine.specs.Cases.{Follows, LiesFirst}
use Rattle.refine.specs.Serving.{Serves}
use Rattle.refine.proofs.Limits.{stack_size, HaveRoom, Placed, ceiling_is, none_at_end, frame_bytes, ample_of}
use Rattle.refine.proofs.Places.{Frames, trace, place_in, places_at}
use Rattle.refine.proofs.Premises.{Premises}
use Rattle.refine.proofs.AllCases.{cases_serve}
use Rattle.refine.proofs.Begins.{begin_step}
use Rattle.refine.proofs.Runs.{EndsBy, EndsBefore, Followed, served}

abbrev made_of : SourceState → ℕ
made_of (Running fs m) = m.made
made_of (Ended e) = 0

module _ (k : Build) (Inv : MonitorBlock → Context → List ℕ → Type 0) (sizes : PlainType → ℕ) (S : ObjectSets) (w : Premises k Inv sizes S) where
  -- an ended run stays
  ended_case : (places : ℕ → ℕ) (e : SourceEnd) (x : End) (t : State) → EndsAlike (Ended e) t.ending → t.ending ≡ Some x → Follows k Inv places t (Ended e) []
  ended_case places e x t a q = record {
    steps = 1;
    least = omega arith;
    within = omega arith;
    to = t;
    runs = next (next_ended by_mpu k.setting.image t x q) (told_ended by_mpu k.setting.image t x q) stay;
    related = a;
  }

  -- one step
  step_serves : (places : ℕ → ℕ) (s : SourceState) (t : State) → Related k places Inv s t → StateFits k.program sizes S s → (HasFault (source_step k.program k.groups.of s) → ⊥) → LiesFirst k Inv places (wheres_of (source_step k.program k.groups.of s)) →
      Serves k Inv places (wheres_of s) t (source_step k.program k.groups.of s) (option_to_list (source_event k.program k.groups.of s))
  unfolding source_turn
  step_serves places (Running [] m) t r so nf lies = absurd r
  step_serves places (Running (fr ∷ rest) m) t r so nf lies = cases_serve k Inv sizes S w places fr rest m t r so nf lies
  step_serves places (Ended Returned) t r so nf lies = inl (ended_case places Returned (Halt 0) t r r)
  step_serves places (Ended OutOfInput) t r so nf lies = inl (ended_case places OutOfInput InputEnd t r r)
  step_serves places (Ended (Faulted f)) t r so nf lies = absurd r

  ends_by : (most : ℕ) (t : State) → EndsShort k.setting most t → EndsBy NamesStack k.setting.image most t
  ends_by most t e = record { count = e.count; within = e.within; last = e.last; end = e.end; over = e.over; is_end = e.names; runs = e.runs }

  alike : (places : ℕ → ℕ) (s : SourceState) (t : State) → Related k places Inv s t → EndsAlike s t.ending
  alike places (Running [] m) t r = absurd r
  alike places (Running (fr ∷ rest) m) t r = ap (λ (u : State). u.ending) r.is_state
  alike places (Ended e) t r = r

  module _ (moving : FramesMove) (queues : List (List ℕ)) (first : State) (reset : IsReset k.setting.image queues first) (n : ℕ) where
    abbrev at : ℕ → SourceState
    at j = source_after k.program k.groups.of queues j

    abbrev standing : ℕ → List Where
    standing j = wheres_of (at j)

    abbrev made : ℕ → ℕ
    made j = made_of (at j)

    next_is : (j : ℕ) → at (suc j) ≡ source_step k.program k.groups.of (at j)
    unfolding run
    next_is j =
        let z : suc j ≡ j + 1 = omega arith in
        ap (λ (i : ℕ). run (source_step k.program k.groups.of) i (source.start k.program queues)) z ∙ run-add (source_step k.program k.groups.of) j 1 (source.start k.program queues)

    first_is : standing 0 ≡ where_of (frame_of k.program k.program.main 0 []) ∷ []
    unfolding run source.start
    first_is = refl

    first_made : made 0 ≡ 1
    unfolding run source.start
    first_made = refl

    moves_by : (fr : Frame) (rest : List Frame) (m : Memory) (u : SourceState) → MovesTo fr rest m u → wheres_of u ≢ [] → Moves (where_of fr ∷ wheres rest) m.made (wheres_of u) (made_of u)
    moves_by fr rest m (Running fs n) o h = o
    moves_by fr rest m (Ended e) o h = absurd (h refl)

    moves_of : (s : SourceState) → wheres_of (source_step k.program k.groups.of s) ≢ [] → Moves (wheres_of s) (made_of s) (wheres_of (source_step k.program k.groups.of s)) (made_of (source_step k.program k.groups.of s))
    unfolding source_turn
    moves_of (Running [] m) h = absurd (h refl)
    moves_of (Running (fr ∷ rest) m) h = moves_by fr rest m (source_step k.program k.groups.of (Running (fr ∷ rest) m)) (moving k.program k.groups.of fr rest m) h
    moves_of (Ended e) h = absurd (h refl)

    frames : Frames k standing made
    frames = record {
      first = (where_of (frame_of k.program k.program.main 0 []), first_is, refl, first_made);
      moves = λ j h. subst (λ (s : SourceState). wheres_of s ≢ [] → Moves (standing j) (made j) (wheres_of s) (made_of s)) (sym (next_is j)) (moves_of (at j)) h;
    }

    -- a fault stays
    fault_step : (s : SourceState) → HasFault s → HasFault (source_step k.program k.groups.of s)
    unfolding source_turn
    fault_step (Running fs m) h = absurd h
    fault_step (Ended Returned) h = absurd h
    fault_step (Ended OutOfInput) h = absurd h
    fault_step (Ended (Faulted f)) h = tt

    fault_stays : (j d : ℕ) → HasFault (at j) → HasFault (at (d + j))
    fault_stays j zero h = let z : j ≡ 0 + j = omega arith in subst (λ (i : ℕ). HasFault (at i)) z h
    fault_stays j (suc d) h =
        let z : suc (d + j) ≡ suc d + j = omega arith in
        subst (λ (i : ℕ). HasFault (at i)) z (subst HasFault (sym (next_is (d + j))) (fault_step (at (d + j)) (fault_stays j d h)))

    module _ (sound : (j : ℕ) → StateFits k.program sizes S (at j)) (good : HasFault (at n) → ⊥) where
      abbrev places : ℕ → ℕ
      places = place_in k standing made frames (trace k standing made frames n)

      ended_step : (s : SourceState) → wheres_of s ≡ [] → wheres_of (source_step k.program k.groups.of s) ≡ []
      unfolding source_turn
      ended_step (Running [] m) e = refl
      ended_step (Running (fr ∷ rest) m) e = cc
      ended_step (Ended x) e = refl

      ended_stays : (j d : ℕ) → standing j ≡ [] → standing (d + j) ≡ []
      ended_stays j zero e = let z : 0 + j ≡ j = omega arith in ap standing z ∙ e
      ended_stays j (suc d) e =
          let z : suc d + j ≡ suc (d + j) = omega arith in
          ap standing z ∙ ap wheres_of (next_is (d + j)) ∙ ended_step (at (d + j)) (ended_stays j d e)

      live_before : (j : ℕ) → standing j ≢ [] → (i : ℕ) → i ≤ j → standing i ≢ []
      live_before j h i l e = let z : (j - i) + i ≡ j = omega arith in h (ap standing (sym z) ∙ ended_stays i (j - i) e)

      no_fault : (j : ℕ) → j ≤ n → HasFault (at j) → ⊥
      no_fault j l h = let z : (n - j) + j ≡ n = omega arith in good (subst (λ (i : ℕ). HasFault (at i)) z (fault_stays j (n - j) h))

      cons_not : (v : Where) (ws : List Where) → v ∷ ws ≡ [] → ⊥
      cons_not v ws h = cc

      -- each frame lies at its position
      placed : (j : ℕ) → j ≤ n → (ws : List Where) → standing j ≡ ws → Placed k places ws
      placed j l [] e = tt
      placed j l (v ∷ ws) e =
          let ne : standing j ≢ [] = λ h. cons_not v ws (sym e ∙ h) in
          let z : (n - j) + j ≡ n = omega arith in
          let p = places_at k standing made frames j (n - j) (live_before j ne) in
          subst (λ (vs : List Where). Placed k places vs) e (subst (λ (m : ℕ). Placed k (place_in k standing made frames (trace k standing made frames m)) (standing j)) z p)

      -- so this is where the first has to lie
      lies_of : (ws : List Where) → Placed k places ws → LiesFirst k Inv places ws
      lies_of [] p = tt
      lies_of (v ∷ vs) p = λ o ends on.
          let c = ceiling_is k places w.facts (site_of k vs) vs p.1 (none_at_end k places w.facts vs) in
          let q = p.0 in
          let b = frame_bytes k v.func in
          omega arith

      lies : (j : ℕ) → j ≤ n → LiesFirst k Inv places (standing j)
      lies j l = lies_of (standing j) (placed j l (standing j) refl)

      first_lies : LiesFirst k Inv places (where_of (frame_of k.program k.program.main 0 []) ∷ [])
      first_lies = subst (λ (ws : List Where). LiesFirst k Inv places ws) first_is (lies 0 (omega arith))

      -- what is known of the states of the run
      record Good (s : SourceState) : Type 0 where
        sound_at : StateFits k.program sizes S s
        no_fault_behind : HasFault (source_step k.program k.groups.of s) → ⊥
        lies_behind : LiesFirst k Inv places (wheres_of (source_step k.program k.groups.of s))

      good_at : (j : ℕ) → j < n → Good (at j)
      good_at j l = record {
        sound_at = sound j;
        no_fault_behind = λ h. no_fault (suc j) l (subst HasFault (sym (next_is j)) h);
        lies_behind = subst (λ (s : SourceState). LiesFirst k Inv places (wheres_of s)) (next_is j) (lies (suc j) l);
      }

      -- ---- where the law of the stack holds

      stopping : StackLaw k.setting Inv → Followed NamesStack k.program k.groups.of k.setting.image k.setting.words queues first (Related k places Inv) Good
      stopping stack = record {
        begins = ⊎_elim (λ f. inl f) (λ e. inr (ends_by (2 * step_limit + word_limit * k.setting.words) first (e.ends stack))) (begin_step k Inv sizes S w places queues first reset first_lies);
        alike = alike places;
        goes_on = λ s t r g. ⊎_elim (λ f. inl f) (λ e. inr (ends_by step_limit t (e.ends stack))) (step_serves places s t r g.sound_at g.no_fault_behind g.lies_behind);
      }

      stops : EndsBefore NamesStack k.program k.groups.of k.setting.image k.setting.words queues first n → StopsShort k.program k.groups.of k.setting.words k.setting.image queues first n
      stops e = record { steps = e.steps; most = e.most; done = e.done; before = e.before; events = e.events; end = e.end; over = e.over; names = e.is_end }

      pub refined_or_stopped : StackLaw k.setting Inv → Matched k.program k.groups.of k.setting.words k.setting.image queues first n ⊎ StopsShort k.program k.groups.of k.setting.words k.setting.image queues first n
      refined_or_stopped stack =
          ⊎_elim (λ m. inl m) (λ e. inr (stops e)) (served NamesStack k.program k.groups.of k.setting.image k.setting.words queues first (Related k places Inv) Good (stopping stack) n good_at)

      -- ---- within the stack limit

      room_of : (s : SourceState) → limit.IsWithinStack k.program k.needs k.groups (stack_size k) s → HaveRoom k (wheres_of s)
      room_of (Running fs m) h = h
      room_of (Ended e) h = tt

      module _ (within : (j : ℕ) → j ≤ n → limit.IsWithinStack k.program k.needs k.groups (stack_size k) (at j)) where
        ample : (j : ℕ) → j ≤ n → AllAmple k places (standing j)
        ample j l = ample_of k places w.facts (standing j) (room_of (at j) (within j l)) (placed j l (standing j) refl)

        record GoodWithin (s : SourceState) : Type 0 where
          known : Good s
          ample_here : AllAmple k places (wheres_of s)
          ample_behind : AllAmple k places (wheres_of (source_step k.program k.groups.of s))

        -- nothing ends it
        going : Followed (λ e. ⊥) k.program k.groups.of k.setting.image k.setting.words queues first (Related k places Inv) GoodWithin
        going = record {
          begins = ⊎_elim (λ f. inl f) (λ e. absurd (e.reason (subst (λ (ws : List Where). AllAmple k places ws) first_is (ample 0 (omega arith))))) (begin_step k Inv sizes S w places queues first reset first_lies);
          alike = alike places;
          goes_on = λ s t r g. ⊎_elim (λ f. inl f) (λ e. absurd (e.reason g.ample_here g.ample_behind)) (step_serves places s t r g.known.sound_at g.known.no_fault_behind g.known.lies_behind);
        }

        pub refined : Matched k.program k.groups.of k.setting.words k.setting.image queues first n
        refined =
            ⊎_elim (λ m. m) (λ e. absurd e.is_end)
            (served (λ e. ⊥) k.program k.groups.of k.setting.image k.setting.words queues first (Related k places Inv) GoodWithin going n
            (λ j l. record {
              known = good_at j l;
              ample_here = ample j (omega (arith, l));
              ample_behind = subst (λ (s : SourceState). AllAmple k places (wheres_of s)) (next_is j) (ample (suc j) l);
            }))
