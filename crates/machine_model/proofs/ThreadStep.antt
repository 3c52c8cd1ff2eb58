-- An unprivileged step of any bytes is a thread step.
use Rattle.std.specs.Prelude.{if◌then◌else◌, ℤ}
use Rattle.std.proofs.Common.{◌≡◌, ◌≢◌, ℕ, zero, suc, ◌+◌, ◌*◌, ◌%◌, ◌^◌, ◌<◌, Bool, true, false, not, ◌&&◌, ◌⊎◌, inl, inr, ⊎_elim, List, [], ◌∷◌, length, Option, Some, None, nat_lt, refl, sym, ap, ◌∙◌, subst, arith}
use Rattle.std.proofs.lemmas.Bool.{false≢true}
use Rattle.std.proofs.Math.ListN.{get_or}
use Rattle.base_words.specs.Arithmetic.{word}
use Rattle.base_words.proofs.Bytes.{read_fits}
use Rattle.machine_thumb.specs.declared.table.Instr.{Instr}
use Rattle.machine_thumb.specs.declared.table.Code.TheVariants.{Half, Pair}
use Rattle.machine_thumb.specs.Decoded.{decoded}
use Rattle.machine_thumb.specs.Table.{Encodes, encode, read_code}
use Rattle.machine_thumb.proofs.Relation.{related-decoded}
use Rattle.machine_protection.specs.declared.region.Access.{Access}
use Rattle.machine_protection.specs.declared.region.Access.TheVariants.{Read, Write, Fetch}
use Rattle.machine_protection.specs.Protection.{IsAccessWidth, permits}
use Rattle.machine_protection.proofs.Alike.{bytes_are_alike}
use Rattle.machine_devices.specs.declared.image.Image.{Image}
use Rattle.machine_bus.specs.Locations.{Location, InRam, InFlash, InWindow, Nowhere, location, is_memory}
use Rattle.machine_devices.specs.Input.{queue}
use Rattle.machine_bus.specs.Bus.{input, load_at, store_at, put_at, fetch_at}
use Rattle.machine_model.specs.declared.state.CoreRegisters.{CoreRegisters}
use Rattle.machine_model.specs.declared.state.FaultStatus.{FaultStatus}
use Rattle.machine_model.specs.declared.state.End.{End}
use Rattle.machine_model.specs.State.{State, Touched, Turn, by_mpu, is_unprivileged, calm, with_core}
use Rattle.machine_model.specs.Act.{Act, Changes, Loads, Stores, LoadsMany, StoresMany, GetsSpecial, SetsSpecial, Exchanges, Calls as CallsAct, Halts, Stops}
use Rattle.machine_model.specs.Instructions.{act}
use Rattle.machine_model.specs.System.{in_system, write_special}
use Rattle.machine_model.specs.declared.answers.Verdict.{Verdict}
use Rattle.machine_model.specs.declared.answers.Verdict.TheVariants.{ToBus, ToSystem, Refused, Bad}
use Rattle.machine_model.specs.declared.answers.Verdicts.{Verdicts}
use Rattle.machine_model.specs.declared.answers.Verdicts.TheVariants.{AllGood, RefusedAt, BadOne}
use Rattle.machine_model.specs.Tests.{verdict, and_then, verdicts, all_open}
use Rattle.machine_model.specs.Exceptions.{push_words, words_from, mem_manage, supervisor_call, vector_offset, frame_at, entered, is_frame_open, call, is_fault_enabled, fault_by, fault, data_fault, fetch_status, data_status}
use Rattle.machine_model.specs.Perform.{loaded, after_load, stored, after_store, put_words, get_words, or_usage, after_loads, after_stores, jumped, exchanged, perform}
use Rattle.machine_model.specs.declared.answers.Fetched.{Fetched}
use Rattle.machine_model.specs.declared.answers.Fetched.TheVariants.{Took, NotAllowed, NotMapped}
use Rattle.machine_model.specs.Step.{second_half, by_size, first_half, fetch, performed, fetched, running, turn}
use Rattle.machine_model.specs.Confinement.{IsVectorRead}
use Rattle.base_laws.specs.Lists.{Each}
use Rattle.machine_model.proofs.Tested.{frame_aligned, put_kept, push_kept, open_tests, verdict_refused, verdict_to_bus, verdict_system, first_refused_word}
use Rattle.machine_model.specs.ThreadStep.{IsReached, KeepsStacks, Plain, IsFetchFault, IsDataFault, ThreadStep, Ends, Goes, Calls, Faults, AccessesAreReached, UnprivilegedAccessesAreReached, VectorReadsAreAligned}
use Rattle.machine_devices.specs.Rules.{ObeysRules}
use Rattle.machine_model.specs.Asked.{RefusesFirst, IsFetched, IsTaken}
use Rattle.machine_model.proofs.ActStacks.{register_stays, MaybeStays, IsCall, ActKeeps, act_keeps}

-- ---- the halfwords of a call

call_half : (h k : ℕ) (x : Instr) → h < 2 ^ 16 → k < 2 ^ 16 → decoded h k ≡ Some x → IsCall x → (n : ℕ) × (n < 256) × (h ≡ 0xDF00 + n) × (nat_lt h 0xE800 ≡ true)
unfolding encode
call_half h k x hh hk e c =
    let en = related-decoded h k x hh hk e in
    let imm : ℕ = c.0 in
    let off : ℤ = c.1 in
    let is = subst (λ (y : Instr). Encodes (read_code h k) y) c.2 en in
    let small : imm < 256 = is.in_table.1 in
    by (nat_lt h 0xE800) refl imm small is.halfwords
  where
    by : (b : Bool) → nat_lt h 0xE800 ≡ b → (imm : ℕ) → imm < 256 → Half (0xDF00 + imm) ≡ (if b then Half h else Pair h k) → (n : ℕ) × (n < 256) × (h ≡ 0xDF00 + n) × (nat_lt h 0xE800 ≡ true)
    by true q imm small w = let z : h ≡ 0xDF00 + imm = cc in (imm, small, z, q)
    by false q imm small w = cc

abbrev HalfFits : Option ℕ → Type 0
HalfFits None = Unit {0}
HalfFits (Some h) = h < 2 ^ 16

half_fits : (l : Location) (i : Image) (ram : List ℕ) → HalfFits (fetch_at l i ram)
half_fits (InRam o) i ram = read_fits 2 o ram
half_fits (InFlash o) i ram = read_fits 2 o i.flash
half_fits (InWindow k o) i ram = tt
half_fits Nowhere i ram = tt

-- what a fetch took
abbrev TookSo : Option ℕ → (b : Bool) → Option ℕ → (h k n : ℕ) → Type 0
TookSo o b q h k n = (o ≡ Some h) × (k < 2 ^ 16) × (nat_lt h 0xE800 ≡ true → n ≡ 2) × (nat_lt h 0xE800 ≡ false → (b ≡ true) × (q ≡ Some k))

second_took : (b : Bool) (q : Option ℕ) (g h k n : ℕ) → HalfFits q → nat_lt g 0xE800 ≡ false → second_half b q g ≡ Took h k n → TookSo (Some g) b q h k n
second_took false q g h k n f l e = cc
second_took true None g h k n f l e = cc
second_took true (Some y) g h k n f l e =
    let gh : g ≡ h = cc in
    let ky : y ≡ k = cc in
    (ap Some gh, subst (λ (z : ℕ). z < 2 ^ 16) ky f, λ t. absurd (false≢true (sym l ∙ ap (λ z. nat_lt z 0xE800) gh ∙ t)), λ t. (refl, ap Some ky))

sized_took : (c b : Bool) (q : Option ℕ) (g h k n : ℕ) → HalfFits q → nat_lt g 0xE800 ≡ c → by_size c b q g ≡ Took h k n → TookSo (Some g) b q h k n
sized_took true b q g h k n f l e =
    let gh : g ≡ h = cc in
    let kz : 0 ≡ k = cc in
    let nz : n ≡ 2 = cc in
    (ap Some gh, omega arith, λ t. nz, λ t. absurd (false≢true (sym t ∙ sym (ap (λ z. nat_lt z 0xE800) gh) ∙ l)))
sized_took false b q g h k n f l e = second_took b q g h k n f l e

first_took : (a : Bool) (o : Option ℕ) (b : Bool) (q : Option ℕ) (h k n : ℕ) → HalfFits q → first_half a o b q ≡ Took h k n → (a ≡ true) × TookSo o b q h k n
first_took false o b q h k n f e = cc
first_took true None b q h k n f e = cc
first_took true (Some g) b q h k n f e = (refl, sized_took (nat_lt g 0xE800) b q g h k n f refl e)

some_fits : (o : Option ℕ) (h : ℕ) → HalfFits o → o ≡ Some h → h < 2 ^ 16
some_fits o h f e = subst HalfFits e f

-- ---- accesses

module _ (i : Image) (s : State) (user : is_unprivileged s.protection ≡ true) where
  pub may : (kind : Access) (a : ℕ) → by_mpu s.protection kind a ≡ true → permits s.protection.mpu true kind a ≡ true
  unfolding by_mpu
  may kind a e = subst (λ (u : Bool). permits s.protection.mpu u kind a ≡ true) user e

  reached : (kind : Access) (w a : ℕ) → IsAccessWidth w → verdict by_mpu s.protection kind w a ≡ ToBus → location i a ≢ Nowhere → IsReached i s.protection.mpu kind (record { width = w; address = a })
  reached kind w a ok e m =
      let t = verdict_to_bus by_mpu s.protection kind w a e in
      record {
        width = ok;
        aligned = t.0;
        permitted = λ k lt. bytes_are_alike s.protection.mpu true kind w a k ok t.0 lt ∙ may kind a t.2;
        mapped = m;
      }

  first_good : (v : Verdict) (kind : Access) (a : ℕ) (vs : Verdicts) → (v ≡ ToSystem → ⊥) → and_then v (is_memory kind (location i a)) a vs ≡ AllGood → (v ≡ ToBus) × (location i a ≢ Nowhere) × (vs ≡ AllGood)
  first_good v kind a vs out e = by v (location i a) kind vs out refl e
    where
      by : (v : Verdict) (l : Location) (kind : Access) (vs : Verdicts) → (v ≡ ToSystem → ⊥) → location i a ≡ l → and_then v (is_memory kind l) a vs ≡ AllGood → (v ≡ ToBus) × (location i a ≢ Nowhere) × (vs ≡ AllGood)
      by ToBus (InRam o) kind vs out q e = (refl, λ z. cc, e)
      by ToBus (InFlash o) Read vs out q e = (refl, λ z. cc, e)
      by ToBus (InFlash o) Write vs out q e = cc
      by ToBus (InFlash o) Fetch vs out q e = (refl, λ z. cc, e)
      by ToBus (InWindow k o) kind vs out q e = cc
      by ToBus Nowhere kind vs out q e = cc
      by ToSystem l kind vs out q e = absurd (out refl)
      by Refused l kind vs out q e = cc
      by (Bad r) l kind vs out q e = cc

  words_reached : (kind : Access) (n a : ℕ) → verdicts by_mpu i s.protection kind a n ≡ AllGood → Each (IsReached i s.protection.mpu kind) (words_from a n)
  unfolding verdicts words_from
  words_reached kind zero a e = tt
  words_reached kind (suc n) a e =
      let g = first_good (verdict by_mpu s.protection kind 4 a) kind a (verdicts by_mpu i s.protection kind (word (a + 4)) n) (verdict_system by_mpu s.protection kind 4 a user) e in
      (reached kind 4 a (inr (inr refl)) g.0 g.1, words_reached kind n (word (a + 4)) g.2)

  -- a store of several words is a push of them
  user_words : (vs : List ℕ) (a : ℕ) (t : State) → verdicts by_mpu i s.protection Write a (length vs) ≡ AllGood → put_words i a vs t ≡ record t { ram = push_words i a vs t.ram }
  unfolding verdicts put_words push_words
  user_words [] a t e = refl
  user_words (v ∷ vs) a t e =
      let g = first_good (verdict by_mpu s.protection Write 4 a) Write a (verdicts by_mpu i s.protection Write (word (a + 4)) (length vs)) (verdict_system by_mpu s.protection Write 4 a user) e in
      let outside : in_system a ≡ false = (verdict_to_bus by_mpu s.protection Write 4 a g.0).1 in
      let r = user_words vs (word (a + 4)) (record t { ram = put_at (location i a) 4 v t.ram }) g.2 in
      rw outside r

  -- ---- the step

  abbrev IsFaultOf : FaultStatus → Type 0
  IsFaultOf u = IsFetchFault i s u ⊎ IsDataFault i s u

  fault_goes : (handler enabled : Bool) (u : FaultStatus) → IsFaultOf u → is_fault_enabled s.status ≡ enabled → ThreadStep i s (fault_by handler enabled by_mpu i u s)
  fault_goes true e u f on = Ends _ refl
  fault_goes false false u f on = Ends _ refl
  fault_goes false true u f on = by (is_frame_open by_mpu i s) refl
    where
      by : (b : Bool) → is_frame_open by_mpu i s ≡ b → ThreadStep i s (entered b i mem_manage s.core.pc u s)
      by false e = Ends _ refl
      by true e = Faults u f on e refl

  fault_step : (u : FaultStatus) → IsFaultOf u → ThreadStep i s (fault by_mpu i u s)
  fault_step u f = fault_goes s.protection.handler (is_fault_enabled s.status) u f refl

  pub thread_mode : s.protection.handler ≡ false
  thread_mode = by s.protection.handler s.protection.unprivileged user
    where
      by : (h u : Bool) → not h && u ≡ true → h ≡ false
      by true u e = absurd (false≢true e)
      by false u e = refl

  -- what follows from a refused access of an act
  abbrev Refuses : Act → Type 0
  Refuses x = (y : ℕ) → RefusesFirst by_mpu i s x y → ThreadStep i s (data_fault by_mpu i y s)

  -- a call is of these halfwords
  abbrev IsCallHere : ℕ → Type 0
  IsCallHere next = (n : ℕ) × (n < 256) × IsFetched by_mpu i s (0xDF00 + n) × (next ≡ s.core.pc + 2)

  -- an instruction whose plain steps are thread steps
  module _ (goes : (t : Turn) → Plain i s t → ThreadStep i s t) where
    core_goes : (c : CoreRegisters) → KeepsStacks s.core c → ThreadStep i s (calm (with_core s c))
    core_goes c h = goes _ (record { stores = tt; loads = tt; stacks = h; protection = refl; status = refl; ending = refl; ram = λ k m. refl })

    input_goes : (q : List ℕ) (k o w a : ℕ) (go : ℕ → CoreRegisters) → IsReached i s.protection.mpu Read (record { width = w; address = a }) → ((v : ℕ) → KeepsStacks s.core (go v)) → ThreadStep i s (loaded (input q k o w) i w a s go)
    input_goes [] k o w a go r h = Ends _ refl
    input_goes (x ∷ xs) k o w a go r h = goes _ (record { stores = tt; loads = (r, tt); stacks = h _; protection = refl; status = refl; ending = refl; ram = λ k m. refl })

    loaded_goes : (l : Location) (w a : ℕ) (go : ℕ → CoreRegisters) → (l ≢ Nowhere → IsReached i s.protection.mpu Read (record { width = w; address = a })) → ((v : ℕ) → KeepsStacks s.core (go v)) → ThreadStep i s (loaded (load_at l i s.ram s.queues w) i w a s go)
    loaded_goes (InRam o) w a go r h = goes _ (record { stores = tt; loads = (r (λ z. cc), tt); stacks = h _; protection = refl; status = refl; ending = refl; ram = λ k m. refl })
    loaded_goes (InFlash o) w a go r h = goes _ (record { stores = tt; loads = (r (λ z. cc), tt); stacks = h _; protection = refl; status = refl; ending = refl; ram = λ k m. refl })
    loaded_goes (InWindow k o) w a go r h = input_goes (queue s.queues k) k o w a go (r (λ z. cc)) h
    loaded_goes Nowhere w a go r h = Ends _ refl

    load_goes : (v : Verdict) (w a : ℕ) (go : ℕ → CoreRegisters) → Refuses (Loads w a go) → IsAccessWidth w → ((v : ℕ) → KeepsStacks s.core (go v)) → verdict by_mpu s.protection Read w a ≡ v → ThreadStep i s (after_load v by_mpu i w a s go)
    load_goes ToBus w a go f ok h e = loaded_goes (location i a) w a go (λ m. reached Read w a ok e m) h
    load_goes ToSystem w a go f ok h e = absurd (verdict_system by_mpu s.protection Read w a user e)
    load_goes Refused w a go f ok h e = f a (inl (inl (refl, verdict_refused by_mpu s.protection Read w a e)))
    load_goes (Bad r) w a go f ok h e = Ends _ refl

    stored_goes : (l : Location) (w a v : ℕ) (c : CoreRegisters) → location i a ≡ l → (l ≢ Nowhere → IsReached i s.protection.mpu Write (record { width = w; address = a })) → KeepsStacks s.core c → ThreadStep i s (stored (store_at l) i w a v s c)
    stored_goes (InRam o) w a v c e r h = goes _ (record { stores = (r (λ z. cc), tt); loads = tt; stacks = h; protection = refl; status = refl; ending = refl; ram = λ k m. put_kept (location i a) w v s.ram k m.0 })
    stored_goes (InFlash o) w a v c e r h = Ends _ refl
    stored_goes (InWindow p o) w a v c e r h = goes _ (record { stores = (r (λ z. cc), tt); loads = tt; stacks = h; protection = refl; status = refl; ending = refl; ram = λ k m. refl })
    stored_goes Nowhere w a v c e r h = Ends _ refl

    store_goes : (v : Verdict) (w a x : ℕ) (c : CoreRegisters) → Refuses (Stores w a x c) → IsAccessWidth w → KeepsStacks s.core c → verdict by_mpu s.protection Write w a ≡ v → ThreadStep i s (after_store v by_mpu i w a x s c)
    store_goes ToBus w a x c f ok h e = stored_goes (location i a) w a x c refl (λ m. reached Write w a ok e m) h
    store_goes ToSystem w a x c f ok h e = absurd (verdict_system by_mpu s.protection Write w a user e)
    store_goes Refused w a x c f ok h e = f a (inr (inl (refl, verdict_refused by_mpu s.protection Write w a e)))
    store_goes (Bad r) w a x c f ok h e = Ends _ refl

    usage_goes : (o : Option CoreRegisters) (a n : ℕ) → MaybeStays s.core o → Each (IsReached i s.protection.mpu Read) (words_from a n) → ThreadStep i s (or_usage o a n s)
    usage_goes None a n h r = Ends _ refl
    usage_goes (Some c) a n h r = goes _ (record { stores = tt; loads = r; stacks = h; protection = refl; status = refl; ending = refl; ram = λ k m. refl })

    loads_go : (v : Verdicts) (a n : ℕ) (go : List ℕ → Option CoreRegisters) → Refuses (LoadsMany a n go) → ((vs : List ℕ) → MaybeStays s.core (go vs)) → verdicts by_mpu i s.protection Read a n ≡ v → ThreadStep i s (after_loads v by_mpu i a n s go)
    loads_go AllGood a n go f h e = usage_goes (go (get_words i a n s)) a n (h _) (words_reached Read n a e)
    loads_go (RefusedAt x) a n go f h e = f x (inl (first_refused_word by_mpu i s.protection Read n a x e))
    loads_go (BadOne r) a n go f h e = Ends _ refl

    stores_go : (v : Verdicts) (a : ℕ) (vs : List ℕ) (c : CoreRegisters) → Refuses (StoresMany a vs c) → KeepsStacks s.core c → verdicts by_mpu i s.protection Write a (length vs) ≡ v → ThreadStep i s (after_stores v by_mpu i a vs s c)
    stores_go AllGood a vs c f h e =
        let pushed = user_words vs a (with_core s c) e in
        goes _ (record {
          stores = words_reached Write (length vs) a e;
          loads = tt;
          stacks = subst (λ (d : CoreRegisters). KeepsStacks s.core d) (sym (ap (λ t. t.core) pushed)) h;
          protection = ap (λ t. t.protection) pushed;
          status = ap (λ t. t.status) pushed;
          ending = ap (λ t. t.ending) pushed;
          ram = λ k m. ap (λ t. get_or t.ram k 0) pushed ∙ push_kept i vs a s.ram k m;
        })
    stores_go (RefusedAt x) a vs c f h e = f x (inr (first_refused_word by_mpu i s.protection Write (length vs) a x e))
    stores_go (BadOne r) a vs c f h e = Ends _ refl

    special_goes : (unprivileged : Bool) (n v : ℕ) (c : CoreRegisters) → KeepsStacks s.core c → unprivileged ≡ true → ThreadStep i s (calm (write_special unprivileged n v s c))
    special_goes true n v c h e = core_goes c h
    special_goes false n v c h e = absurd (false≢true e)

    jumped_goes : (odd : Bool) (v : ℕ) → ThreadStep i s (jumped odd v s)
    jumped_goes true v = core_goes _ (record { in_use = refl; other = refl })
    jumped_goes false v = Ends _ refl

    exchange_goes : (handler to_psp to_msp : Bool) (v : ℕ) → handler ≡ false → ThreadStep i s (exchanged (handler && to_psp) (handler && to_msp) by_mpu i v s)
    exchange_goes true x y v e = absurd (false≢true (sym e))
    exchange_goes false x y v e = jumped_goes _ v

    call_goes : (handler : Bool) (next : ℕ) → handler ≡ false → IsCallHere next → ThreadStep i s (call handler by_mpu i next s)
    call_goes true next h c = absurd (false≢true (sym h))
    call_goes false next h c = by (is_frame_open by_mpu i s) refl
      where
        by : (b : Bool) → is_frame_open by_mpu i s ≡ b → ThreadStep i s (entered b i supervisor_call next s.status s)
        by false e = Ends _ refl
        by true e = Calls c.0 c.1 c.2 e (ap (λ r. entered true i supervisor_call r s.status s) c.3)

    perform_goes : {Q : Type 0} (x : Act) (next : ℕ) → ActKeeps Q s.core next x → Refuses x → (Q → IsCallHere next) → ThreadStep i s (perform by_mpu i x s)
    unfolding perform
    perform_goes (Changes c) next h f q = core_goes c h
    perform_goes (Loads w a go) next h f q = load_goes (verdict by_mpu s.protection Read w a) w a go f h.0 h.1 refl
    perform_goes (Stores w a v c) next h f q = store_goes (verdict by_mpu s.protection Write w a) w a v c f h.0 h.1 refl
    perform_goes (LoadsMany a n go) next h f q = loads_go (verdicts by_mpu i s.protection Read a n) a n go f h refl
    perform_goes (StoresMany a vs c) next h f q = stores_go (verdicts by_mpu i s.protection Write a (length vs)) a vs c f h refl
    perform_goes (GetsSpecial n d c) next h f q = core_goes _ (register_stays s.core c d _ h)
    perform_goes (SetsSpecial n v c) next h f q = special_goes (is_unprivileged s.protection) n v c h user
    perform_goes (Exchanges v) next h f q = exchange_goes s.protection.handler _ _ v thread_mode
    perform_goes (CallsAct n) next h f q = call_goes s.protection.handler n thread_mode (let c = q h.0 in (c.0, c.1, c.2, h.1 ∙ c.3))
    perform_goes (Halts n) next h f q = Ends _ refl
    perform_goes (Stops r) next h f q = Ends _ refl

  performed_goes : (o : Option Instr) (next : ℕ) → ((x : Instr) → o ≡ Some x → IsTaken by_mpu i s x next × (IsCall x → IsCallHere next)) → ThreadStep i s (performed o by_mpu i next s)
  performed_goes None next q = Ends _ refl
  performed_goes (Some x) next q =
      let t = q x refl in
      perform_goes (λ u p. Goes x next t.0 p) (act x next s.core) next (act_keeps x next s.core)
      (λ y f. fault_step (data_status y s.status) (inr (record { instruction = x; next = next; taken = t.0; address = y; first = f; status = refl })))
      t.1

  -- where a fetch is refused
  second_not_allowed : (b : Bool) (q : Option ℕ) (h : ℕ) → second_half b q h ≡ NotAllowed → b ≡ false
  second_not_allowed false q h e = refl
  second_not_allowed true None h e = cc
  second_not_allowed true (Some k) h e = cc

  sized_not_allowed : (c b : Bool) (q : Option ℕ) (h : ℕ) → by_size c b q h ≡ NotAllowed → (c ≡ false) × (b ≡ false)
  sized_not_allowed true b q h e = cc
  sized_not_allowed false b q h e = (refl, second_not_allowed b q h e)

  not_allowed : (a : Bool) (o : Option ℕ) (b : Bool) (q : Option ℕ) → first_half a o b q ≡ NotAllowed →
      (a ≡ false) ⊎ ((a ≡ true) × ((h : ℕ) × (o ≡ Some h) × (nat_lt h 0xE800 ≡ false) × (b ≡ false)))
  not_allowed false o b q e = inl refl
  not_allowed true None b q e = cc
  not_allowed true (Some h) b q e = let t = sized_not_allowed (nat_lt h 0xE800) b q h e in inr (refl, (h, refl, t.0, t.1))

  fetch_refused : fetch by_mpu i s ≡ NotAllowed → IsFetchFault i s (fetch_status s.status)
  unfolding fetch
  fetch_refused e = record {
    refused = ⊎_elim (λ f. inl f) (λ f. inr (f.1.0, record { permitted = f.0; is_half = f.1.1 }, f.1.2, f.1.3))
        (not_allowed (by_mpu s.protection Fetch s.core.pc) (fetch_at (location i s.core.pc) i s.ram) (by_mpu s.protection Fetch (s.core.pc + 2)) (fetch_at (location i (s.core.pc + 2)) i s.ram) e);
    status = refl;
  }

  took_halves : (h k n : ℕ) → fetch by_mpu i s ≡ Took h k n → (by_mpu s.protection Fetch s.core.pc ≡ true) × TookSo (fetch_at (location i s.core.pc) i s.ram) (by_mpu s.protection Fetch (s.core.pc + 2)) (fetch_at (location i (s.core.pc + 2)) i s.ram) h k n
  unfolding fetch
  took_halves h k n e =
      first_took (by_mpu s.protection Fetch s.core.pc) (fetch_at (location i s.core.pc) i s.ram) (by_mpu s.protection Fetch (s.core.pc + 2)) (fetch_at (location i (s.core.pc + 2)) i s.ram) h k n (half_fits (location i (s.core.pc + 2)) i s.ram) e

  fetched_goes : (f : Fetched) → fetch by_mpu i s ≡ f → ThreadStep i s (fetched f by_mpu i s)
  fetched_goes (Took h k n) e =
      let t = took_halves h k n e in
      let hh : h < 2 ^ 16 = some_fits (fetch_at (location i s.core.pc) i s.ram) h (half_fits (location i s.core.pc) i s.ram) t.1.0 in
      performed_goes (decoded h k) (s.core.pc + n) (λ x d. (
        record { first = h; second = k; count = n; begins = record { permitted = t.0; is_half = t.1.0 }; ends = t.1.3; took = e; decodes = d; is_next = refl },
        λ c. let g = call_half h k x hh t.1.1 d c in
            (g.0, g.1, record { permitted = t.0; is_half = t.1.0 ∙ ap Some g.2 }, ap (λ m. s.core.pc + m) (t.1.2 g.3)),
      ))
  fetched_goes NotAllowed e = fault_step _ (inl (fetch_refused e))
  fetched_goes NotMapped e = Ends _ refl

  running_goes : (o : Option End) → s.ending ≡ o → o ≡ None → ThreadStep i s (running o by_mpu i s)
  running_goes (Some x) e n = cc
  running_goes None e n = fetched_goes (fetch by_mpu i s) refl

  pub thread_step : s.ending ≡ None → ThreadStep i s (turn by_mpu i s)
  unfolding turn
  thread_step live = running_goes s.ending refl live

-- ---- the accesses of an unprivileged step

memory_mapped : (kind : Access) (l : Location) → is_memory kind l ≡ true → l ≢ Nowhere
memory_mapped kind (InRam o) e = λ z. cc
memory_mapped kind (InFlash o) e = λ z. cc
memory_mapped kind (InWindow k o) e = λ z. cc
memory_mapped kind Nowhere e = absurd (false≢true e)

either : (P Q : Touched → Type 0) (xs : List Touched) → Each P xs → Each (λ x. P x ⊎ Q x) xs
either P Q [] h = tt
either P Q (x ∷ xs) h = (inl h.0, either P Q xs h.1)

module _ (i : Image) (s : State) (user : is_unprivileged s.protection ≡ true) where
  open_reached : (n a : ℕ) → a % 4 ≡ 0 → all_open by_mpu i s.protection Write a n ≡ true → Each (IsReached i s.protection.mpu Write) (words_from a n)
  unfolding all_open words_from
  open_reached zero a al e = tt
  open_reached (suc n) a al e =
      let t = open_tests (by_mpu s.protection Write a) (is_memory Write (location i a)) (all_open by_mpu i s.protection Write (word (a + 4)) n) e in
      let here : IsReached i s.protection.mpu Write (record { width = 4; address = a }) = record {
        width = inr (inr refl);
        aligned = al;
        permitted = λ k lt. bytes_are_alike s.protection.mpu true Write 4 a k (inr (inr refl)) al lt ∙ may i s user Write a t.0;
        mapped = memory_mapped Write (location i a) t.1;
      } in
      let next : word (a + 4) % 4 ≡ 0 = omega arith in
      (here, open_reached n (word (a + 4)) next t.2)

  still_reached : (t : State) → AccessesAreReached i s (calm t)
  still_reached t = record { stores = tt; loads = tt }

  entry_reached : (n ret : ℕ) (u : FaultStatus) → s.core.sp % 4 ≡ 0 → is_frame_open by_mpu i s ≡ true →
      IsVectorRead i (record { width = 4; address = i.flash_base + vector_offset n }) → AccessesAreReached i s (entered true i n ret u s)
  entry_reached n ret u al e v =
      let eighth = frame_aligned s.core.sp al in
      let fourth : frame_at s.core.sp % 4 ≡ 0 = omega arith in
      record { stores = open_reached 8 (frame_at s.core.sp) fourth e; loads = (inr v, tt) }

  step_reached : (t : Turn) → s.core.sp % 4 ≡ 0 → ThreadStep i s t → AccessesAreReached i s t
  step_reached t al (Ends e q) = subst (AccessesAreReached i s) (sym q) (still_reached _)
  step_reached t al (Goes x next k p) = record { stores = p.stores; loads = either (IsReached i s.protection.mpu Read) (IsVectorRead i) t.loads p.loads }
  step_reached t al (Calls n few f e q) = subst (AccessesAreReached i s) (sym q) (entry_reached supervisor_call (s.core.pc + 2) s.status al e (inr refl))
  step_reached t al (Faults u f on e q) = subst (AccessesAreReached i s) (sym q) (entry_reached mem_manage s.core.pc u al e (inl refl))

  turn_reached : s.core.sp % 4 ≡ 0 → (o : Option End) → s.ending ≡ o → AccessesAreReached i s (turn by_mpu i s)
  unfolding turn
  turn_reached al None live = step_reached (turn by_mpu i s) al (thread_step i s user live)
  turn_reached al (Some x) over = subst (λ (o : Option End). AccessesAreReached i s (running o by_mpu i s)) (sym over) (still_reached s)

pub accesses_reached : UnprivilegedAccessesAreReached
accesses_reached i s user al = turn_reached i s user al s.ending refl

at_flash : (i : Image) (x : Touched) (n : ℕ) → ObeysRules i → x ≡ record { width = 4; address = i.flash_base + vector_offset n } → (x.width ≡ 4) × (x.address % 4 ≡ 0)
at_flash i x n rules e =
    let flash = rules.flash_aligned in
    let at : x.address ≡ i.flash_base + 4 * n = ap (λ y. y.address) e in
    (ap (λ y. y.width) e, omega arith)

-- the vector table lies at a multiple of 4
pub vectors_aligned : VectorReadsAreAligned
vectors_aligned i x rules (inl e) = at_flash i x mem_manage rules e
vectors_aligned i x rules (inr e) = at_flash i x supervisor_call rules e
