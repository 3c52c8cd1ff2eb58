-- A step on another RAM that holds the same wherever it reads.
use Rattle.std.specs.Prelude.{if◌then◌else◌}
use Rattle.std.proofs.Common.{◌≡◌, ◌≢◌, ℕ, zero, suc, ◌+◌, ◌-◌, ◌<◌, ◌≤◌, Bool, true, false, inl, inr, ⊎_elim, List, [], ◌∷◌, length, Option, Some, None, nat_eq, nat_lt, refl, sym, ap, ◌∙◌, subst, arith}
use Rattle.std.proofs.lemmas.Bool.Decides.{nat_tests, eqb_tells}
use Rattle.std.proofs.Math.ListN.{get_or}
use Rattle.base_words.specs.Arithmetic.{word}
use Rattle.base_words.specs.Bytes.{read, cut}
use Rattle.machine_thumb.specs.declared.table.Instr.{Instr}
use Rattle.machine_thumb.specs.Decoded.{decoded}
use Rattle.machine_protection.specs.declared.region.Access.TheVariants.{Read, Write, Fetch}
use Rattle.machine_devices.specs.declared.image.Image.{Image}
use Rattle.base_events.specs.declared.event.Event.{Event}
use Rattle.machine_devices.specs.Input.{queue}
use Rattle.machine_devices.specs.Rules.{ObeysRules}
use Rattle.machine_bus.specs.Locations.{Location, InRam, InFlash, InWindow, Nowhere, location}
use Rattle.machine_bus.specs.Bus.{load_at, input, store_at, put_at, word_at, fetch_at}
use Rattle.machine_bus.specs.Memory.{compartment_of}
use Rattle.machine_bus.proofs.Addresses.{location-monitor}
use Rattle.machine_bus.proofs.Offsets.{ram_at}
use Rattle.machine_bus.proofs.Lengths.{length-put_at}
use Rattle.machine_model.specs.declared.state.CoreRegisters.{CoreRegisters}
use Rattle.machine_model.specs.declared.state.FaultStatus.{FaultStatus}
use Rattle.machine_model.specs.declared.state.End.{End}
use Rattle.machine_model.specs.declared.state.End.TheVariants.{Stop}
use Rattle.machine_model.specs.declared.state.StopReason.TheVariants.{Usage}
use Rattle.machine_model.specs.declared.answers.Verdict.{Verdict}
use Rattle.machine_model.specs.declared.answers.Verdict.TheVariants.{ToBus, ToSystem, Refused, Bad}
use Rattle.machine_model.specs.declared.answers.Verdicts.{Verdicts}
use Rattle.machine_model.specs.declared.answers.Verdicts.TheVariants.{AllGood, RefusedAt, BadOne}
use Rattle.machine_model.specs.declared.answers.Fetched.{Fetched}
use Rattle.machine_model.specs.declared.answers.Fetched.TheVariants.{Took, NotAllowed, NotMapped}
use Rattle.machine_model.specs.State.{State, Touched, Turn, PermissionTest, is_unprivileged, calm, with_core}
use Rattle.machine_model.specs.Act.{Act, Changes, Loads, Stores, LoadsMany, StoresMany, GetsSpecial, SetsSpecial, Exchanges, Calls, Halts, Stops}
use Rattle.machine_model.specs.Instructions.{act}
use Rattle.machine_model.specs.System.{in_system, write_special, write_system}
use Rattle.machine_model.specs.Tests.{verdict, verdicts, all_open}
use Rattle.machine_model.specs.Exceptions.{stacked_words, push_words, words_from, frame_at, frame_of, mem_manage, supervisor_call, entered, is_frame_open, call, is_fault_enabled, fault_by, is_thread, leaves}
use Rattle.machine_model.specs.Perform.{loaded, after_load, stored, after_store, word_from, word_to, get_words, put_words, or_usage, after_loads, after_stores, jumped, exchanged, perform}
use Rattle.machine_model.specs.Step.{second_half, by_size, first_half, fetch, performed, fetched, running, turn}
use Rattle.machine_model.specs.Confinement.{AnyOf}
use Rattle.base_laws.specs.Lists.{Each}
use Rattle.machine_model.specs.Asked.{frame_loads, asked_loads}
use Rattle.machine_model.specs.Locality.{Agree, AgreeOnReads, Hits, StepsReadWhatTheyList}
use Rattle.machine_model.proofs.SameBytes.{put_lengths, put_keeps, put_hits, read_agrees, word_agrees}
use Rattle.machine_model.proofs.AnyStep.{any_step}
use Rattle.machine_model.proofs.ShapeSteps.{pushed_length}
use Rattle.machine_model.proofs.Tested.{verdict_to_system}

-- ---- several words

hit_put : (i : Image) (a v : ℕ) (m n : List ℕ) (k : ℕ) → length n ≡ length m → Hits i k (record { width = 4; address = a }) →
    get_or (put_at (location i a) 4 v n) k 0 ≡ get_or (put_at (location i a) 4 v m) k 0
hit_put i a v m n k l h = put_hits (location i a) 4 v h.offset m n k l h.is_at h.from h.before

pushes_keep : (i : Image) (vs : List ℕ) (a : ℕ) (m n : List ℕ) (k : ℕ) → length n ≡ length m → get_or n k 0 ≡ get_or m k 0 →
    get_or (push_words i a vs n) k 0 ≡ get_or (push_words i a vs m) k 0
unfolding push_words
pushes_keep i [] a m n k l h = h
pushes_keep i (v ∷ vs) a m n k l h =
    pushes_keep i vs (word (a + 4)) (put_at (location i a) 4 v m) (put_at (location i a) 4 v n) k (put_lengths (location i a) 4 v m n l) (put_keeps (location i a) 4 v m n k l h)

pushes_hit : (i : Image) (vs : List ℕ) (a : ℕ) (m n : List ℕ) (k : ℕ) → length n ≡ length m → AnyOf (Hits i k) (words_from a (length vs)) →
    get_or (push_words i a vs n) k 0 ≡ get_or (push_words i a vs m) k 0
unfolding push_words words_from
pushes_hit i [] a m n k l h = absurd h
pushes_hit i (v ∷ vs) a m n k l (inl h) =
    pushes_keep i vs (word (a + 4)) (put_at (location i a) 4 v m) (put_at (location i a) 4 v n) k (put_lengths (location i a) 4 v m n l) (hit_put i a v m n k l h)
pushes_hit i (v ∷ vs) a m n k l (inr h) =
    pushes_hit i vs (word (a + 4)) (put_at (location i a) 4 v m) (put_at (location i a) 4 v n) k (put_lengths (location i a) 4 v m n l) h

-- RAM ends below the system control space
ram_not_system : (i : Image) (a o : ℕ) → ObeysRules i → location i a ≡ InRam o → in_system a ≡ true → ⊥
ram_not_system i a o r e s =
    let p = ram_at i a o e in
    let high : i.ram_base ≤ 0x3FF00000 = r.ram_highest in
    let most : i.ram_size ≤ 0x100000 = r.ram_most in
    let low : a < 0x40000000 = omega (arith, p.0, p.1) in
    grind (arith, nat_tests)

-- the words of registers and memory after stores, by the state that they began in
abbrev SameBut : State → State → Type 0
SameBut t u = u ≡ record t { ram = u.ram }

module _ (i : Image) (a v : ℕ) (vs : List ℕ) where
  one_state : (b : Bool) (s : State) (n : List ℕ) → ((t : State) (m : List ℕ) → SameBut (put_words i (word (a + 4)) vs t) (put_words i (word (a + 4)) vs (record t { ram = m }))) →
      SameBut (put_words i (word (a + 4)) vs (word_to b i a v s)) (put_words i (word (a + 4)) vs (word_to b i a v (record s { ram = n })))
  one_state true s n ih = ih (write_system a v s) n
  one_state false s n ih = ih (record s { ram = put_at (location i a) 4 v s.ram }) (put_at (location i a) 4 v n)

  one_keeps : (b : Bool) (s : State) (n : List ℕ) (k : ℕ) → length n ≡ length s.ram → get_or n k 0 ≡ get_or s.ram k 0 →
      ((t : State) (m : List ℕ) → length m ≡ length t.ram → get_or m k 0 ≡ get_or t.ram k 0 → get_or (put_words i (word (a + 4)) vs (record t { ram = m })).ram k 0 ≡ get_or (put_words i (word (a + 4)) vs t).ram k 0) →
      get_or (put_words i (word (a + 4)) vs (word_to b i a v (record s { ram = n }))).ram k 0 ≡ get_or (put_words i (word (a + 4)) vs (word_to b i a v s)).ram k 0
  one_keeps true s n k l h ih = ih (write_system a v s) n l h
  one_keeps false s n k l h ih = ih (record s { ram = put_at (location i a) 4 v s.ram }) (put_at (location i a) 4 v n) (put_lengths (location i a) 4 v s.ram n l) (put_keeps (location i a) 4 v s.ram n k l h)

words_state : (i : Image) (vs : List ℕ) (a : ℕ) (s : State) (n : List ℕ) → SameBut (put_words i a vs s) (put_words i a vs (record s { ram = n }))
unfolding put_words
words_state i [] a s n = refl
words_state i (v ∷ vs) a s n = one_state i a v vs (in_system a) s n (λ t m. words_state i vs (word (a + 4)) t m)

words_keep : (i : Image) (vs : List ℕ) (a : ℕ) (s : State) (n : List ℕ) (k : ℕ) → length n ≡ length s.ram → get_or n k 0 ≡ get_or s.ram k 0 →
    get_or (put_words i a vs (record s { ram = n })).ram k 0 ≡ get_or (put_words i a vs s).ram k 0
unfolding put_words
words_keep i [] a s n k l h = h
words_keep i (v ∷ vs) a s n k l h = one_keeps i a v vs (in_system a) s n k l h (λ t m e g. words_keep i vs (word (a + 4)) t m k e g)

module _ (i : Image) (r : ObeysRules i) (a v : ℕ) (vs : List ℕ) where
  first_hit : (b : Bool) → in_system a ≡ b → (s : State) (n : List ℕ) (k : ℕ) → length n ≡ length s.ram → Hits i k (record { width = 4; address = a }) →
      get_or (put_words i (word (a + 4)) vs (word_to b i a v (record s { ram = n }))).ram k 0 ≡ get_or (put_words i (word (a + 4)) vs (word_to b i a v s)).ram k 0
  first_hit true e s n k l h = absurd (ram_not_system i a h.offset r h.is_at e)
  first_hit false e s n k l h =
      words_keep i vs (word (a + 4)) (record s { ram = put_at (location i a) 4 v s.ram }) (put_at (location i a) 4 v n) k (put_lengths (location i a) 4 v s.ram n l) (hit_put i a v s.ram n k l h)

  later_hit : (b : Bool) (s : State) (n : List ℕ) (k : ℕ) → length n ≡ length s.ram →
      ((t : State) (m : List ℕ) → length m ≡ length t.ram → get_or (put_words i (word (a + 4)) vs (record t { ram = m })).ram k 0 ≡ get_or (put_words i (word (a + 4)) vs t).ram k 0) →
      get_or (put_words i (word (a + 4)) vs (word_to b i a v (record s { ram = n }))).ram k 0 ≡ get_or (put_words i (word (a + 4)) vs (word_to b i a v s)).ram k 0
  later_hit true s n k l ih = ih (write_system a v s) n l
  later_hit false s n k l ih = ih (record s { ram = put_at (location i a) 4 v s.ram }) (put_at (location i a) 4 v n) (put_lengths (location i a) 4 v s.ram n l)

words_hit : (i : Image) → ObeysRules i → (vs : List ℕ) (a : ℕ) (s : State) (n : List ℕ) (k : ℕ) → length n ≡ length s.ram → AnyOf (Hits i k) (words_from a (length vs)) →
    get_or (put_words i a vs (record s { ram = n })).ram k 0 ≡ get_or (put_words i a vs s).ram k 0
unfolding put_words words_from
words_hit i r [] a s n k l h = absurd h
words_hit i r (v ∷ vs) a s n k l (inl h) = first_hit i r a v vs (in_system a) refl s n k l h
words_hit i r (v ∷ vs) a s n k l (inr h) = later_hit i r a v vs (in_system a) s n k l (λ t m e. words_hit i r vs (word (a + 4)) t m k e h)

words_length : (i : Image) (vs : List ℕ) (a : ℕ) (s : State) → length (put_words i a vs s).ram ≡ length s.ram
unfolding put_words
words_length i [] a s = refl
words_length i (v ∷ vs) a s = words_length i vs (word (a + 4)) (word_to (in_system a) i a v s) ∙ one (in_system a)
  where
    one : (b : Bool) → length (word_to b i a v s).ram ≡ length s.ram
    one true = refl
    one false = length-put_at (location i a) 4 v s.ram

module _ (i : Image) (s : State) (other : List ℕ) where
  word_same : (b : Bool) (a : ℕ) → Agree i s.ram other (record { width = 4; address = a }) → word_from b i a (record s { ram = other }) ≡ word_from b i a s
  word_same true a h = refl
  word_same false a h = word_agrees i s.ram other (location i a) a refl h

  got_same : (n a : ℕ) → Each (Agree i s.ram other) (words_from a n) → get_words i a n (record s { ram = other }) ≡ get_words i a n s
  unfolding get_words words_from
  got_same zero a h = refl
  got_same (suc n) a h =
      ap (λ w. w ∷ get_words i (word (a + 4)) n (record s { ram = other })) (word_same (in_system a) a h.0)
      ∙ ap (λ ws. word_from (in_system a) i a s ∷ ws) (got_same n (word (a + 4)) h.1)

  stacked_same : (n a : ℕ) → Each (Agree i s.ram other) (words_from a n) → stacked_words i a n other ≡ stacked_words i a n s.ram
  unfolding stacked_words words_from
  stacked_same zero a h = refl
  stacked_same (suc n) a h =
      ap (λ w. w ∷ stacked_words i (word (a + 4)) n other) (word_agrees i s.ram other (location i a) a refl h.0)
      ∙ ap (λ ws. word_at (location i a) i s.ram ∷ ws) (stacked_same n (word (a + 4)) h.1)

  compartment_same : ObeysRules i → (i.monitor ≢ 0 → Agree i s.ram other (record { width = 4; address = i.monitor })) → compartment_of i other ≡ compartment_of i s.ram
  compartment_same r h =
      ⊎_elim
      (λ t. let e : nat_eq i.monitor 0 ≡ true = t.0 in rw e refl)
      (λ t. ap (λ (w : ℕ). if nat_eq i.monitor 0 then 0 else w) (read_agrees i s.ram other 4 i.monitor (i.monitor - i.ram_base) (h t.1) (location-monitor i r t.1)))
      (eqb_tells i.monitor 0)

-- ---- one turn

-- all that is said of the two turns, but for the bytes that stay
record Local (i : Image) (other : List ℕ) (t u : Turn) : Type 0 where
  stores : u.stores ≡ t.stores
  loads : u.loads ≡ t.loads
  event : u.event ≡ t.event
  to : SameBut t.to u.to
  size : length u.to.ram ≡ length other
  written : (k : ℕ) → AnyOf (Hits i k) t.stores → get_or u.to.ram k 0 ≡ get_or t.to.ram k 0

module _ (j : PermissionTest) (i : Image) (r : ObeysRules i) (s : State) (other : List ℕ) (size : length other ≡ length s.ram) where
  -- the RAMs agree on what this turn loads, and on the compartment of its event
  record Agrees (t : Turn) : Type 0 where
    loads : Each (Agree i s.ram other) t.loads
    compartment : (e : Event) → t.event ≡ Some e → i.monitor ≢ 0 → Agree i s.ram other (record { width = 4; address = i.monitor })

  -- and, where it stops for them, on these
  abbrev AgreesStopped : Turn → List Touched → Type 0
  AgreesStopped t xs = t.to.ending ≡ Some (Stop Usage s.core.pc) → Each (Agree i s.ram other) xs

  calm_same : (t : State) (loads : List Touched) (e : Option Event) →
      Local i other (record { to = t; stores = []; loads = loads; event = e }) (record { to = record t { ram = other }; stores = []; loads = loads; event = e })
  calm_same t loads e = record { stores = refl; loads = refl; event = refl; to = refl; size = refl; written = λ k h. absurd h }

  entered_same : (is_open : Bool) (n ret : ℕ) (u : FaultStatus) → Local i other (entered is_open i n ret u s) (entered is_open i n ret u (record s { ram = other }))
  entered_same false n ret u = calm_same _ _ _
  entered_same true n ret u = record {
    stores = refl;
    loads = refl;
    event = refl;
    to = refl;
    size = pushed_length i (frame_of s.core ret) (frame_at s.core.sp) other;
    written = λ k h. pushes_hit i (frame_of s.core ret) (frame_at s.core.sp) s.ram other k size h;
  }

  call_same : (handler : Bool) (next : ℕ) → Local i other (call handler j i next s) (call handler j i next (record s { ram = other }))
  call_same true next = calm_same _ _ _
  call_same false next = entered_same (is_frame_open j i s) supervisor_call next s.status

  fault_same : (handler enabled : Bool) (u : FaultStatus) → Local i other (fault_by handler enabled j i u s) (fault_by handler enabled j i u (record s { ram = other }))
  fault_same true e u = calm_same _ _ _
  fault_same false false u = calm_same _ _ _
  fault_same false true u = entered_same (is_frame_open j i s) mem_manage s.core.pc u

  module _ (w a : ℕ) (go : ℕ → CoreRegisters) where
    input_same : (us : List ℕ) (k o : ℕ) → Agrees (loaded (input us k o w) i w a s go) → Local i other (loaded (input us k o w) i w a s go) (loaded (input us k o w) i w a (record s { ram = other }) go)
    input_same [] k o h = calm_same _ _ _
    input_same (u ∷ us) k o h = record {
      stores = refl;
      loads = refl;
      event = ap (λ (c : ℕ). Some (record { compartment = c; periph = k; offset = o; width = w; write = false; value = cut w u })) (compartment_same i s other r (h.compartment _ refl));
      to = refl;
      size = refl;
      written = λ k x. absurd x;
    }

    loaded_same : (p : Location) → location i a ≡ p → Agrees (loaded (load_at p i s.ram s.queues w) i w a s go) →
        Local i other (loaded (load_at p i s.ram s.queues w) i w a s go) (loaded (load_at p i other s.queues w) i w a (record s { ram = other }) go)
    loaded_same (InRam o) e h =
        let same : read w o other ≡ read w o s.ram = read_agrees i s.ram other w a o h.loads.0 e in
        rw same (calm_same _ _ _)
    loaded_same (InFlash o) e h = calm_same _ _ _
    loaded_same (InWindow k o) e h = input_same (queue s.queues k) k o h
    loaded_same Nowhere e h = calm_same _ _ _

    load_same : (v : Verdict) → Agrees (after_load v j i w a s go) → Local i other (after_load v j i w a s go) (after_load v j i w a (record s { ram = other }) go)
    load_same ToBus h = loaded_same (location i a) refl h
    load_same ToSystem h = calm_same _ _ _
    load_same Refused h = fault_same s.protection.handler (is_fault_enabled s.status) _
    load_same (Bad x) h = calm_same _ _ _

  module _ (w a v : ℕ) (c : CoreRegisters) where
    stored_same : (p : Location) → location i a ≡ p → Agrees (stored (store_at p) i w a v s c) → Local i other (stored (store_at p) i w a v s c) (stored (store_at p) i w a v (record s { ram = other }) c)
    stored_same (InRam o) e h = record {
      stores = refl;
      loads = refl;
      event = refl;
      to = refl;
      size = length-put_at (location i a) w v other;
      written = λ k. ⊎_elim (λ x. put_hits (location i a) w v x.offset s.ram other k size x.is_at x.from x.before) (λ x. absurd x);
    }
    stored_same (InFlash o) e h = calm_same _ _ _
    stored_same (InWindow p o) e h = record {
      stores = refl;
      loads = refl;
      event = ap (λ (m : ℕ). Some (record { compartment = m; periph = p; offset = o; width = w; write = true; value = cut w v })) (compartment_same i s other r (h.compartment _ refl));
      to = refl;
      size = refl;
      written = λ k. ⊎_elim (λ x. let is : location i a ≡ InRam x.offset = x.is_at in absurd (window_not_ram (sym e ∙ is))) (λ x. absurd x);
    }
      where
        window_not_ram : {q : ℕ} → InWindow p o ≡ InRam q → ⊥
        window_not_ram z = cc
    stored_same Nowhere e h = calm_same _ _ _

    store_same : (d : Verdict) → verdict j s.protection Write w a ≡ d → Agrees (after_store d j i w a v s c) → Local i other (after_store d j i w a v s c) (after_store d j i w a v (record s { ram = other }) c)
    store_same ToBus e h = stored_same (location i a) refl h
    store_same ToSystem e h = record {
      stores = refl;
      loads = refl;
      event = refl;
      to = refl;
      size = refl;
      written = λ k. ⊎_elim (λ x. absurd (ram_not_system i a x.offset r x.is_at (verdict_to_system j s.protection Write w a e).1.within)) (λ x. absurd x);
    }
    store_same Refused e h = fault_same s.protection.handler (is_fault_enabled s.status) _
    store_same (Bad x) e h = calm_same _ _ _

  module _ (a n : ℕ) (go : List ℕ → Option CoreRegisters) where
    taken_same : (o : Option CoreRegisters) → go (get_words i a n s) ≡ o → Each (Agree i s.ram other) (words_from a n) →
        Local i other (or_usage o a n s) (or_usage o a n (record s { ram = other })) →
        Local i other (or_usage o a n s) (or_usage (go (get_words i a n (record s { ram = other }))) a n (record s { ram = other }))
    taken_same o e h l = subst (λ (x : Option CoreRegisters). Local i other (or_usage o a n s) (or_usage x a n (record s { ram = other }))) (sym (ap go (got_same i s other n a h) ∙ e)) l

    usage_same : (o : Option CoreRegisters) → go (get_words i a n s) ≡ o → Agrees (or_usage o a n s) → AgreesStopped (or_usage o a n s) (words_from a n) →
        Local i other (or_usage o a n s) (or_usage (go (get_words i a n (record s { ram = other }))) a n (record s { ram = other }))
    usage_same None e h u = taken_same None e (u refl) (calm_same _ _ _)
    usage_same (Some c) e h u = taken_same (Some c) e h.loads (calm_same _ _ _)

    loads_same : (v : Verdicts) → Agrees (after_loads v j i a n s go) → AgreesStopped (after_loads v j i a n s go) (words_from a n) →
        Local i other (after_loads v j i a n s go) (after_loads v j i a n (record s { ram = other }) go)
    loads_same AllGood h u = usage_same (go (get_words i a n s)) refl h u
    loads_same (RefusedAt x) h u = fault_same s.protection.handler (is_fault_enabled s.status) _
    loads_same (BadOne x) h u = calm_same _ _ _

  stores_same : (v : Verdicts) (a : ℕ) (vs : List ℕ) (c : CoreRegisters) → Local i other (after_stores v j i a vs s c) (after_stores v j i a vs (record s { ram = other }) c)
  stores_same AllGood a vs c = record {
    stores = refl;
    loads = refl;
    event = refl;
    to = words_state i vs a (with_core s c) other;
    size = words_length i vs a (record s { core = c; ram = other });
    written = λ k h. words_hit i r vs a (with_core s c) other k size h;
  }
  stores_same (RefusedAt x) a vs c = fault_same s.protection.handler (is_fault_enabled s.status) _
  stores_same (BadOne x) a vs c = calm_same _ _ _

  if_same : (b : Bool) (x y p q : State) → Local i other (calm x) (calm p) → Local i other (calm y) (calm q) → Local i other (calm (if b then x else y)) (calm (if b then p else q))
  if_same true x y p q h g = h
  if_same false x y p q h g = g

  special_same : (unprivileged : Bool) (n v : ℕ) (c : CoreRegisters) → Local i other (calm (write_special unprivileged n v s c)) (calm (write_special unprivileged n v (record s { ram = other }) c))
  special_same true n v c = calm_same _ _ _
  special_same false n v c = if_same (nat_eq n 20) _ _ _ _ (calm_same _ _ _) (calm_same _ _ _)

  module _ (psp : Bool) (a : ℕ) where
    abbrev leaves_by : (is_open thread : Bool) → (ram : List ℕ) → State → Turn
    leaves_by o t m x = leaves o t psp a (stacked_words i a 8 m) x

    frame_same : (thread : Bool) → is_thread (get_or (stacked_words i a 8 s.ram) 7 0) ≡ thread → Each (Agree i s.ram other) (words_from a 8) →
        Local i other (leaves_by true thread s.ram s) (leaves_by true thread s.ram (record s { ram = other })) →
        Local i other (leaves_by true thread s.ram s) (leaves_by true (is_thread (get_or (stacked_words i a 8 other) 7 0)) other (record s { ram = other }))
    frame_same t e h l =
        subst (λ (ws : List ℕ). Local i other (leaves_by true t s.ram s) (leaves true (is_thread (get_or ws 7 0)) psp a ws (record s { ram = other }))) (sym (stacked_same i s other 8 a h))
        (subst (λ (b : Bool). Local i other (leaves_by true t s.ram s) (leaves_by true b s.ram (record s { ram = other }))) (sym e) l)

    leaves_same : (is_open thread : Bool) → is_thread (get_or (stacked_words i a 8 s.ram) 7 0) ≡ thread → Agrees (leaves_by is_open thread s.ram s) → AgreesStopped (leaves_by is_open thread s.ram s) (words_from a 8) →
        Local i other (leaves_by is_open thread s.ram s) (leaves_by is_open (is_thread (get_or (stacked_words i a 8 other) 7 0)) other (record s { ram = other }))
    leaves_same false t e h u = calm_same _ _ _
    leaves_same true false e h u = frame_same false e (u refl) (calm_same _ _ _)
    leaves_same true true e h u = frame_same true e h.loads (calm_same _ _ _)

  jumped_same : (odd : Bool) (v : ℕ) → Local i other (jumped odd v s) (jumped odd v (record s { ram = other }))
  jumped_same true v = calm_same _ _ _
  jumped_same false v = calm_same _ _ _

  exchange_same : (to_psp to_msp : Bool) (v : ℕ) → Agrees (exchanged to_psp to_msp j i v s) → AgreesStopped (exchanged to_psp to_msp j i v s) (frame_loads to_psp to_msp s.core) →
      Local i other (exchanged to_psp to_msp j i v s) (exchanged to_psp to_msp j i v (record s { ram = other }))
  exchange_same true m v h u = leaves_same true s.core.other_sp (all_open j i (record s.protection { handler = false }) Read s.core.other_sp 8) _ refl h u
  exchange_same false true v h u = leaves_same false s.core.sp (all_open j i (record s.protection { handler = false }) Read s.core.sp 8) _ refl h u
  exchange_same false false v h u = jumped_same _ v

  perform_same : (x : Act) → Agrees (perform j i x s) → AgreesStopped (perform j i x s) (asked_loads s x) → Local i other (perform j i x s) (perform j i x (record s { ram = other }))
  unfolding perform
  perform_same (Changes c) h u = calm_same _ _ _
  perform_same (Loads w a go) h u = load_same w a go (verdict j s.protection Read w a) h
  perform_same (Stores w a v c) h u = store_same w a v c (verdict j s.protection Write w a) refl h
  perform_same (LoadsMany a n go) h u = loads_same a n go (verdicts j i s.protection Read a n) h u
  perform_same (StoresMany a vs c) h u = stores_same (verdicts j i s.protection Write a (length vs)) a vs c
  perform_same (GetsSpecial n d c) h u = calm_same _ _ _
  perform_same (SetsSpecial n v c) h u = special_same (is_unprivileged s.protection) n v c
  perform_same (Exchanges v) h u = exchange_same _ _ v h u
  perform_same (Calls next) h u = call_same s.protection.handler next
  perform_same (Halts n) h u = calm_same _ _ _
  perform_same (Stops x) h u = calm_same _ _ _

  performed_same : (o : Option Instr) (next : ℕ) → Agrees (performed o j i next s) → ((x : Instr) → o ≡ Some x → AgreesStopped (performed o j i next s) (asked_loads s (act x next s.core))) →
      Local i other (performed o j i next s) (performed o j i next (record s { ram = other }))
  performed_same None next h u = calm_same _ _ _
  performed_same (Some x) next h u = perform_same (act x next s.core) h (u x refl)

  fetched_same : (f : Fetched) → Agrees (fetched f j i s) →
      ((h k count : ℕ) (x : Instr) → f ≡ Took h k count → decoded h k ≡ Some x → AgreesStopped (fetched f j i s) (asked_loads s (act x (s.core.pc + count) s.core))) →
      Local i other (fetched f j i s) (fetched f j i (record s { ram = other }))
  fetched_same (Took h k n) g u = performed_same (decoded h k) (s.core.pc + n) g (λ x e. u h k n x refl e)
  fetched_same NotAllowed g u = fault_same s.protection.handler (is_fault_enabled s.status) _
  fetched_same NotMapped g u = calm_same _ _ _

-- ---- the fetch

half_agrees : (i : Image) (ram other : List ℕ) (p : Location) (a : ℕ) → location i a ≡ p → Agree i ram other (record { width = 2; address = a }) → fetch_at p i other ≡ fetch_at p i ram
half_agrees i ram other (InRam o) a e h = ap Some (read_agrees i ram other 2 a o h e)
half_agrees i ram other (InFlash o) a e h = refl
half_agrees i ram other (InWindow k o) a e h = refl
half_agrees i ram other Nowhere a e h = refl

second_same : (allowed : Bool) (q p : Option ℕ) (h : ℕ) → (allowed ≡ true → q ≡ p) → second_half allowed q h ≡ second_half allowed p h
second_same false q p h e = refl
second_same true q p h e = ap (λ x. second_half true x h) (e refl)

sized_same : (is_short allowed : Bool) (q p : Option ℕ) (h : ℕ) → (is_short ≡ false → allowed ≡ true → q ≡ p) → by_size is_short allowed q h ≡ by_size is_short allowed p h
sized_same true al q p h e = refl
sized_same false al q p h e = second_same al q p h (e refl)

halves_same : (al : Bool) (o : Option ℕ) (al2 : Bool) (q p : Option ℕ) → ((h : ℕ) → al ≡ true → o ≡ Some h → nat_lt h 0xE800 ≡ false → al2 ≡ true → q ≡ p) →
    first_half al o al2 q ≡ first_half al o al2 p
halves_same false o al2 q p e = refl
halves_same true None al2 q p e = refl
halves_same true (Some h) al2 q p e = sized_same (nat_lt h 0xE800) al2 q p h (e h refl refl)

first_same : (al : Bool) (o p : Option ℕ) (al2 : Bool) (q : Option ℕ) → (al ≡ true → o ≡ p) → first_half al o al2 q ≡ first_half al p al2 q
first_same false o p al2 q e = refl
first_same true o p al2 q e = ap (λ x. first_half true x al2 q) (e refl)

fetch_same : (j : PermissionTest) (i : Image) (s : State) (other : List ℕ) → AgreeOnReads j i s other → fetch j i (record s { ram = other }) ≡ fetch j i s
unfolding fetch
fetch_same j i s other g =
    first_same (j s.protection Fetch s.core.pc) (fetch_at (location i s.core.pc) i other) (fetch_at (location i s.core.pc) i s.ram) (j s.protection Fetch (s.core.pc + 2)) (fetch_at (location i (s.core.pc + 2)) i other)
    (λ may. half_agrees i s.ram other (location i s.core.pc) s.core.pc refl (g.first may))
    ∙ halves_same (j s.protection Fetch s.core.pc) (fetch_at (location i s.core.pc) i s.ram) (j s.protection Fetch (s.core.pc + 2)) (fetch_at (location i (s.core.pc + 2)) i other) (fetch_at (location i (s.core.pc + 2)) i s.ram)
    (λ h may is long second. half_agrees i s.ram other (location i (s.core.pc + 2)) (s.core.pc + 2) refl (g.second h (record { permitted = may; is_half = is }) long second))

-- ---- the step

ran : (j : PermissionTest) (i : Image) (s : State) → s.ending ≡ None → turn j i s ≡ fetched (fetch j i s) j i s
unfolding turn
ran j i s z = ap (λ x. running x j i s) z

module _ (j : PermissionTest) (i : Image) (r : ObeysRules i) (s : State) (other : List ℕ) (g : AgreeOnReads j i s other) where
  running_same : (o : Option End) → s.ending ≡ o → Local i other (running o j i s) (running o j i (record s { ram = other }))
  running_same (Some e) is = calm_same j i r s other g.size _ _ _
  running_same None is =
      let run : turn j i s ≡ fetched (fetch j i s) j i s = ran j i s is in
      subst (λ (f : Fetched). Local i other (fetched (fetch j i s) j i s) (fetched f j i (record s { ram = other }))) (sym (fetch_same j i s other g))
      (fetched_same j i r s other g.size (fetch j i s)
      (record { loads = subst (λ (t : Turn). Each (Agree i s.ram other) t.loads) run g.loads; compartment = λ e h. g.compartment e (ap (λ (t : Turn). t.event) run ∙ h) })
      (λ h k n x f d e. g.stopped (ap (λ (t : Turn). t.to.ending) run ∙ e) h k n x f d))

  turn_local : Local i other (turn j i s) (turn j i (record s { ram = other }))
  unfolding turn
  turn_local = running_same s.ending refl

pub reads_are_listed : StepsReadWhatTheyList
reads_are_listed j i s other r g =
    let l = turn_local j i r s other g in
    let any = any_step j i (record s { ram = other }) in
    record {
      stores = l.stores;
      loads = l.loads;
      event = l.event;
      to = l.to;
      size = l.size;
      written = l.written;
      kept = λ k h. any.ram k (let e = l.stores in rw e h);
    }
