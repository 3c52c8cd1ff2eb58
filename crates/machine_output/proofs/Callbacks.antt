-- Runs of a machine whose callback puts the line of each event: what is printed, and how they end.
use Rattle.std.specs.Prelude.{flat_map, unwrap_or, IsTrue}
use Rattle.std.proofs.Common.{◌≡◌, ◌≢◌, ℕ, ◌<◌, Bool, true, false, List, [], ◌∷◌, ◌++◌, Some, None, refl, ap, sym, subst, ◌∙◌, arith, append_assoc, append-nil}
use Rattle.base_outside.specs.declared.sink.Sink as sinks
use Rattle.base_outside.specs.Counts.{Rose}
use Rattle.base_outside.specs.Contents.{AddsPrefix}
use Rattle.base_words.specs.Runs.{run, events}
use Rattle.machine_devices.specs.declared.image.Image.{Image}
use Rattle.machine_devices.specs.declared.image.Window.{Window}
use Rattle.base_events.specs.declared.event.Event.{Event}
use Rattle.machine_devices.specs.Rules.{ObeysRules}
use Rattle.machine_model.specs.declared.state.End.{End}
use Rattle.machine_model.specs.declared.state.End.TheVariants.{Halt, InputEnd, Limit, Stop, Refused}
use Rattle.machine_model.specs.State.{State}
use Rattle.machine_model.specs.Step.{step, event}
use Rattle.machine_emulator.specs.Machine.{MachineState, Accepts, AcceptsAll, IsRun, IsEndOf}
use Rattle.machine_model.specs.Confinement.{EventsAreListed}
use Rattle.machine_lines.specs.Lines.{event_line}
use Rattle.machine_output.specs.Runs.{event_lines, end_of, HasLine}
use Rattle.machine_output.specs.Printed.{IsWhole, IsPart}
use Rattle.base_outside.specs.Sinks.{SinkState, Puts, sink}
use Rattle.base_laws.specs.Lists.{Each}
use Rattle.base_words.proofs.EventLines.{each_event, lines_cut}
use Rattle.base_outside.proofs.Prefixes.{prefix_part}
use Rattle.machine_output.proofs.Windows.{event_known, name_is_short}
use Rattle.machine_output.proofs.Ended.{ends_so, same_lines}

-- what was printed is the same of an equal image and an equal number of steps
pub moved : (i j : Image) (n k : ℕ) (s : State) (old new : SinkState) (e : End) → i ≡ j → n ≡ k
    → (e ≢ Refused → IsWhole i n s old new e) × (e ≡ Refused → IsPart i n s old new) → (e ≢ Refused → IsWhole j k s old new e) × (e ≡ Refused → IsPart j k s old new)
moved i j n k s old new e images numbers h = (
  λ other. subst (λ (m : ℕ). IsWhole j m s old new e) numbers (subst (λ (x : Image). IsWhole x n s old new e) images (h.0 other)),
  λ refused. subst (λ (m : ℕ). IsPart j m s old new) numbers (subst (λ (x : Image). IsPart x n s old new) images (h.1 refused)),
)

-- a callback's state: it holds a sink, under a name, and windows
module _ {G O : Type 0} (of : sinks.Ghosts O) (out : G → O) (name : G → ℕ) (windows : G → List Window) where
  -- a call with an event puts its line, or fails to, and the callback still holds that sink and those windows
  pub record Prints (f : G) (e : Event) (accepted : Bool) (g : G) : Type 0 where
    pub same_sink : name g ≡ name f
    pub same_windows : windows g ≡ windows f
    pub puts : HasLine (windows f) e → Puts (sink of (out f)) (sink of (out g)) (event_line (windows f) e) accepted

  -- these bytes were printed in between
  pub record Printed (f : G) (bytes : List ℕ) (g : G) : Type 0 where
    pub same_sink : name g ≡ name f
    pub same_windows : windows g ≡ windows f
    pub faultless : of.faults (out g) ≡ of.faults (out f)
    pub added : IsTrue of.told → of.written (out g) ≡ of.written (out f) ++ bytes

  nothing : (f : G) → Printed f [] f
  nothing f = record { same_sink = refl; same_windows = refl; faultless = refl; added = λ t. sym (append-nil (of.written (out f))) }

  module _ (calls : G → Event → Bool → G → Type 0) (prints : (f : G) (e : Event) (b : Bool) (g : G) → calls f e b g → Prints f e b g) where
    accepted : (ws : List Window) (es : List Event) (f g : G) → windows f ≡ ws → Each (HasLine ws) es → Accepts calls f es g
        → Printed f (flat_map (event_line ws) es) g
    accepted ws [] f g w lines a = subst (Printed f []) a (nothing f)
    accepted ws (e ∷ es) f g w lines a =
        let one = prints f e true a.0 a.1 in
        let put = one.puts (subst (λ x. HasLine x e) (sym w) lines.0) in
        let more = accepted ws es a.0 g (one.same_windows ∙ w) lines.1 a.2 in
        let line = ap (λ x. event_line x e) w in
        record {
          same_sink = more.same_sink ∙ one.same_sink;
          same_windows = more.same_windows ∙ one.same_windows;
          faultless = more.faultless ∙ put.0;
          added = λ t. more.added t ∙ ap (λ x. x ++ flat_map (event_line ws) es) (put.1 t ∙ ap (λ l. of.written (out f) ++ l) line)
              ∙ append_assoc (of.written (out f)) (event_line ws e) (flat_map (event_line ws) es);
        }

    -- a run of the machine that its image's rules hold of
    module _ (old new : MachineState) (rules : ObeysRules old.image) (listed : EventsAreListed)
        (stays : (n : ℕ) (s : State) (e : End) → s.ending ≡ Some e → run (step old.image) n s ≡ s)
        (silent : (n : ℕ) (s : State) (e : End) → s.ending ≡ Some e → events (step old.image) (event old.image) n s ≡ [])
        (n : ℕ) (f g : G) (w : windows f ≡ old.image.windows) (e : End) (r : IsRun calls n old new f g e) where
      has_line : (s : State) (x : Event) → event old.image s ≡ Some x → HasLine old.image.windows x
      has_line s x h = record { known = event_known listed old.image s x h; short = name_is_short old.image x.periph rules }

      lines_put : (m : ℕ) (h : G) → AcceptsAll calls old.image m old.state f h → Printed f (event_lines old.image m old.state) h
      lines_put m h a =
          accepted old.image.windows (events (step old.image) (event old.image) m old.state) f h w (each_event (step old.image) (event old.image) (HasLine old.image.windows) has_line m old.state) a

      -- the machine has ended
      ended : (d : End) → new.state.ending ≡ Some d → AcceptsAll calls old.image r.steps old.state f g
          → (d ≡ end_of old.image n old.state) × Printed f (event_lines old.image n old.state) g
      ended d h a =
          let i = old.image in
          let s = old.state in
          let k = r.steps in
          let at : (run (step i) k s).ending ≡ Some d = ap (λ (x : State). x.ending) r.leads ∙ h in (
            sym (ends_so i stays silent k n s d r.few at),
            subst (λ l. Printed f l g) (sym (same_lines i stays silent k n s d r.few at)) (lines_put k g a),
          )

      -- all steps ran
      ran_out : r.steps ≡ n → new.state.ending ≡ None → AcceptsAll calls old.image r.steps old.state f g
          → (Limit ≡ end_of old.image n old.state) × Printed f (event_lines old.image n old.state) g
      ran_out all h a =
          let i = old.image in
          let s = old.state in
          let at : (run (step i) n s).ending ≡ None = ap (λ m. (run (step i) m s).ending) (sym all) ∙ ap (λ (x : State). x.ending) r.leads ∙ h in (
            sym (ap (λ o. unwrap_or o Limit) at),
            subst (λ m. Printed f (event_lines i m s) g) all (lines_put r.steps g a),
          )

      all_by : (d : End) → d ≢ Refused → IsEndOf calls old.image n r.steps old.state new.state f g d
          → (d ≡ end_of old.image n old.state) × Printed f (event_lines old.image n old.state) g
      all_by (Halt c) other h = ended (Halt c) h.0 h.1
      all_by InputEnd other h = ended InputEnd h.0 h.1
      all_by Limit other h = ran_out h.0 h.1 h.2
      all_by (Stop q a) other h = ended (Stop q a) h.0 h.1
      all_by Refused other h = absurd (other refl)

      part_by : IsEndOf calls old.image n r.steps old.state new.state f g Refused
          → (name g ≡ name f) × Rose (of.faults (out f)) (of.faults (out g))
          × (IsTrue of.told → AddsPrefix (of.written (out f)) (of.written (out g)) (event_lines old.image n old.state))
      part_by h =
          let i = old.image in
          let s = old.state in
          let q = h.1 in
          let front = lines_put q.before q.between q.accepts in
          let one = prints q.between q.refused false g q.refuses in
          let here = front.same_windows ∙ w in
          let put = one.puts (subst (λ x. HasLine x q.refused) (sym here) (has_line (run (step i) q.before s) q.refused q.told)) in
          let more : q.before < n = let l = q.last in let few = r.few in omega arith in
          let cut = lines_cut (step i) (event i) (event_line i.windows) q.before n s q.refused more q.told in (
            one.same_sink ∙ front.same_sink,
            subst (λ (x : ℕ). Rose x (of.faults (out g))) front.faultless put.0,
            λ told. prefix_part (of.written (out f)) (of.written (out q.between)) (of.written (out g)) (event_lines i q.before s) (event_line i.windows q.refused) cut.0 (event_lines i n s)
                (front.added told)
                (subst (λ x. AddsPrefix (of.written (out q.between)) (of.written (out g)) (event_line x q.refused)) here (put.1 told))
                cut.1,
          )

      name_kept : (d : End) → IsEndOf calls old.image n r.steps old.state new.state f g d → name g ≡ name f
      name_kept (Halt c) h = (ended (Halt c) h.0 h.1).1.same_sink
      name_kept InputEnd h = (ended InputEnd h.0 h.1).1.same_sink
      name_kept Limit h = (ran_out h.0 h.1 h.2).1.same_sink
      name_kept (Stop q a) h = (ended (Stop q a) h.0 h.1).1.same_sink
      name_kept Refused h = (part_by h).0

      whole : e ≢ Refused → IsWhole old.image n old.state (sink of (out f)) (sink of (out g)) e
      whole other = let p = all_by e other r.says in record { end = p.0; faultless = p.1.faultless; lines = p.1.added }

      part : e ≡ Refused → IsPart old.image n old.state (sink of (out f)) (sink of (out g))
      part refused =
          let p = part_by (subst (λ d. IsEndOf calls old.image n r.steps old.state new.state f g d) refused r.says) in
          record { cause = p.1; part = p.2 }

      -- the callback holds the same sink; all lines were printed, and the answer is how the run ends, or a fault of the sink rose, and a part of
      -- the lines was printed
      pub printed : (name g ≡ name f)
          × (e ≢ Refused → IsWhole old.image n old.state (sink of (out f)) (sink of (out g)) e)
          × (e ≡ Refused → IsPart old.image n old.state (sink of (out f)) (sink of (out g)))
      printed = (name_kept e r.says, whole, part)
