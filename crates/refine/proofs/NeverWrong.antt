-- Each number of machine steps, from each number of source steps.
use Rattle.std.proofs.Common.{◌≡◌, ℕ, ◌+◌, ◌-◌, ◌≤◌, ◌⊎◌, List, ◌++◌, Option, Some, sym, ap, ◌∙◌, subst, arith, inl, inr, ⊎_elim, append_assoc, append-nil}
use Rattle.std.proofs.lemmas.Bool.{cases_lt}
use Rattle.base_words.specs.Runs.{run, events}
use Rattle.base_words.proofs.Runs.{run-add, events-add}
use Rattle.machine_devices.specs.declared.image.Image.{Image}
use Rattle.base_events.specs.declared.event.Event.{Event}
use Rattle.machine_model.specs.declared.state.End.{End}
use Rattle.machine_model.specs.State.{State, by_mpu}
use Rattle.machine_model.specs.Step.{step, event}
use Rattle.machine_model.proofs.Runs.{run_ended, events_ended}
use Rattle.ir_model.specs.Plain.{PlainFirmware}
use Rattle.ir_model.specs.Resolve.{resolve}
use Rattle.ir_model.specs.State.{start}
use Rattle.ir_model.specs.Step.{source_step, source_event}
use Rattle.ir_model.specs.Runs.{source_after, source_events}
use Rattle.plan_model.specs.declared.groups.Groups.{Groups}
use Rattle.refine_model.specs.Refines.{EndsAlike, Matched}
use Rattle.refine.specs.Ends.{NamesStack}
use Rattle.refine.specs.NeverWrong.{StopsShort, IsPrefix, IsNeverWrong, ServedImagesAreNeverWrong}

prefix_join : (xs ys zs : List Event) → IsPrefix xs ys → IsPrefix ys zs → IsPrefix xs zs
prefix_join xs ys zs p q = (p.0 ++ q.0, q.1 ∙ ap (λ (l : List Event). l ++ q.0) p.1 ∙ append_assoc xs p.0 q.0)

-- what ended gives is one
one_end : (o : Option End) (a b : End) → o ≡ Some a → o ≡ Some b → a ≡ b
one_end o a b p q = let h = sym p ∙ q in cc

module _ (i : Image) (first : State) where
  abbrev told : ℕ → List Event
  told m = events (step i) (event i) m first

  abbrev there : ℕ → State
  there m = run (step i) m first

  -- the events of more steps begin with those of fewer
  told_more : (m n : ℕ) → m ≤ n → IsPrefix (told m) (told n)
  told_more m n h =
      let z : m + (n - m) ≡ n = omega arith in
      (events (step i) (event i) (n - m) (there m), ap told (sym z) ∙ events-add (step i) (event i) m (n - m) first)

  -- behind an end nothing changes
  told_ended : (m n : ℕ) (e : End) → m ≤ n → (there m).ending ≡ Some e → told n ≡ told m
  told_ended m n e h x =
      let z : m + (n - m) ≡ n = omega arith in
      ap told (sym z) ∙ events-add (step i) (event i) m (n - m) first ∙ ap (λ (l : List Event). told m ++ l) (events_ended by_mpu i (n - m) (there m) e x) ∙ append-nil (told m)

  there_ended : (m n : ℕ) (e : End) → m ≤ n → (there m).ending ≡ Some e → there n ≡ there m
  there_ended m n e h x = let z : m + (n - m) ≡ n = omega arith in ap there (sym z) ∙ run-add (step i) m (n - m) first ∙ run_ended by_mpu i (n - m) (there m) e x

module _ (w : PlainFirmware) (groups : Groups) (words : ℕ) (i : Image) (queues : List (List ℕ)) (first : State) (m : ℕ) where
  abbrev source : ℕ → List Event
  source n = source_events (resolve w) groups.of queues n

  source_more : (n : ℕ) → n ≤ m → IsPrefix (source n) (source m)
  source_more n h =
      let z : n + (m - n) ≡ m = omega arith in (
        events (source_step (resolve w) groups.of) (source_event (resolve w) groups.of) (m - n) (source_after (resolve w) groups.of queues n),
        ap source (sym z) ∙ events-add (source_step (resolve w) groups.of) (source_event (resolve w) groups.of) n (m - n) (start (resolve w) queues),
      )

  by : Matched (resolve w) groups.of words i queues first m ⊎ StopsShort (resolve w) groups.of words i queues first m → IsNeverWrong w groups i queues first m
  by (inl x) = record {
    events = subst (λ (l : List Event). IsPrefix (told i first m) l) x.events (told_more i first m x.steps x.least);
    ends = λ e h.
        let same = there_ended i first m x.steps e x.least h in
        let over : (there i first x.steps).ending ≡ Some e = ap (λ (s : State). s.ending) same ∙ h in
        inr (subst (λ (o : Option End). EndsAlike (source_after (resolve w) groups.of queues m) o) over x.ends, sym (told_ended i first m x.steps e x.least h) ∙ x.events);
  }
  by (inr y) = record {
    events = ⊎_elim
        (λ l. prefix_join (told i first m) (source y.done) (source m) (subst (λ (q : List Event). IsPrefix (told i first m) q) y.events (told_more i first m y.steps (omega (arith, l)))) (source_more y.done y.before))
        (λ l. subst (λ (q : List Event). IsPrefix q (source m)) (sym (told_ended i first y.steps m y.end l y.over ∙ y.events)) (source_more y.done y.before))
        (cases_lt m y.steps);
    ends = λ e h. inl (subst NamesStack (names e h) y.names);
  }
    where
      names : (e : End) → (there i first m).ending ≡ Some e → y.end ≡ e
      names e h = ⊎_elim
          (λ l. one_end (there i first y.steps).ending y.end e y.over (ap (λ (s : State). s.ending) (there_ended i first m y.steps e (omega (arith, l)) h) ∙ h))
          (λ l. one_end (there i first m).ending y.end e (ap (λ (s : State). s.ending) (there_ended i first y.steps m y.end l y.over) ∙ y.over) h)
          (cases_lt m y.steps)

pub never_wrong : ServedImagesAreNeverWrong
never_wrong w groups words i h queues first m reset good = by w groups words i queues first m (h.served queues first m reset good)
