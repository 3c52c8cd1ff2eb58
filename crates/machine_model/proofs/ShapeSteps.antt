-- Performing keeps the shape of a state, and a step keeps it too.
use Rattle.std.specs.Prelude.{replicate}
use Rattle.std.proofs.Common.{◌≡◌, ℕ, zero, suc, ◌+◌, ◌-◌, ◌*◌, ◌/◌, ◌%◌, ◌^◌, ◌<◌, ◌≤◌, Bool, true, false, List, [], ◌∷◌, length, get_or, Option, Some, None, nat_eq, refl, ◌∙◌, ⊎_elim, arith}
use Rattle.std.specs.Prelude.{if◌then◌else◌}
use Rattle.std.specs.Option.{IfSome}
use Rattle.std.proofs.Math.Nat.{one-le-pow, pow-le-pow_right}
use Rattle.std.proofs.lemmas.List.{length-set, length-replicate}
use Rattle.std.proofs.lemmas.Nat.{or_lt}
use Rattle.base_words.specs.Arithmetic.{word}
use Rattle.base_words.specs.Bytes.{read, cut}
use Rattle.base_words.proofs.Bytes.{read_fits, cut_is}
use Rattle.machine_thumb.specs.Table.{Encodes, read_code}
use Rattle.machine_thumb.specs.Decoded.{decoded}
use Rattle.machine_thumb.proofs.Relation.{Encodes-decoded}
use Rattle.machine_thumb.specs.declared.table.Instr.{Instr}
use Rattle.machine_protection.specs.declared.region.Access.{Access}
use Rattle.machine_protection.specs.declared.region.Access.TheVariants.{Read, Write}
use Rattle.machine_devices.specs.declared.image.Image.{Image}
use Rattle.machine_bus.specs.declared.answer.Loaded.{Loaded}
use Rattle.machine_bus.specs.declared.answer.Loaded.TheVariants.{Value, Device, NoInput, Unmapped}
use Rattle.machine_bus.specs.declared.answer.Stored.{Stored}
use Rattle.machine_bus.specs.declared.answer.Stored.TheVariants.{Done, Device as Taken, Unmapped as NotTaken}
use Rattle.machine_bus.specs.Locations.{is_memory, Location, InRam, InFlash, InWindow, Nowhere, location, choose}
use Rattle.machine_bus.specs.Bus.{load_at, store_at, put_at, input}
use Rattle.machine_bus.proofs.Lengths.{length-put_at}
use Rattle.machine_devices.specs.Input.{taken, queue}
use Rattle.machine_devices.specs.Rules.{ObeysRules}
use Rattle.machine_model.specs.declared.state.CoreRegisters.{CoreRegisters}
use Rattle.machine_model.specs.declared.state.ProtectionState.{ProtectionState}
use Rattle.machine_model.specs.declared.state.FaultStatus.{FaultStatus}
use Rattle.machine_model.specs.declared.state.End.{End}
use Rattle.machine_model.specs.State.{State, PermissionTest, by_mpu, with_core, with_register, is_unprivileged, bit_of}
use Rattle.machine_model.specs.Act.{Act, Changes, Loads, Stores, LoadsMany, StoresMany, GetsSpecial, SetsSpecial, Exchanges, Calls, Halts, Stops}
use Rattle.machine_model.specs.Instructions.{act}
use Rattle.machine_model.specs.Stack.{AreWords}
use Rattle.machine_model.specs.System.{read_system, read_special, write_special, with_stack, selected_stack, write_stack_pointer, is_in_use, in_system}
use Rattle.machine_model.specs.declared.answers.Verdict.{Verdict}
use Rattle.machine_model.specs.declared.answers.Verdict.TheVariants.{ToBus, ToSystem, Refused, Bad}
use Rattle.machine_model.specs.declared.answers.Verdicts.{Verdicts}
use Rattle.machine_model.specs.declared.answers.Verdicts.TheVariants.{AllGood, RefusedAt, BadOne}
use Rattle.machine_model.specs.Tests.{verdict, verdicts, and_then}
use Rattle.machine_model.specs.Exceptions.{push_words, stacked_words, frame_at, frame_of, has_pad, vector, entry_core, entered, call, fault_by, is_frame_open, is_fault_enabled, data_fault, fetch_fault, with_pad, unstacked, leaves, returns, mem_manage, supervisor_call}
use Rattle.machine_model.specs.Perform.{perform, loaded, stored, after_load, after_store, after_loads, after_stores, word_from, word_to, get_words, put_words, or_usage, exchanged, jumped}
use Rattle.machine_protection.specs.Registers.{blank}
use Rattle.machine_model.specs.Run.{start}
use Rattle.machine_model.specs.declared.answers.Fetched.{Fetched}
use Rattle.machine_model.specs.declared.answers.Fetched.TheVariants.{Took, NotAllowed, NotMapped}
use Rattle.machine_model.specs.Step.{turn, fetch, performed, fetched, running}
use Rattle.machine_model.specs.Shape.{EachWord, CoreFits, StatusFits, StateFits, StepsKeepShape, RunsKeepShape}
use Rattle.machine_model.proofs.ShapeActs.{ActFits, MaybeFits, act_fits, if_below, set_words, at_fits, stack_fits, with_register_fits, odd_before}
use Rattle.machine_model.proofs.Frames.{bit_below}
use Rattle.machine_model.proofs.Fetches.{FetchedFits, fetch_fits}
use Rattle.machine_model.proofs.Shape.{choose_below, choose_core, read_system_fits, word_fits, with_core_fits, with_ram_fits, write_system_fits}
use Rattle.machine_model.proofs.Runs.{run_fits}

-- ---- values

value_fits : (w o : ℕ) (mem : List ℕ) → w ≤ 4 → read w o mem < 2 ^ 32
value_fits w o mem h =
    let a = read_fits w o mem in
    let b : 256 ^ w ≤ 256 ^ 4 = pow-le-pow_right {n = 256} (omega arith) {i = w} {j = 4} h in
    omega arith

cut_fits : (w v : ℕ) → w ≤ 4 → cut w v < 2 ^ 32
cut_fits w v h =
    let a = one-le-pow w 256 (omega arith) in
    let b : 256 ^ w ≤ 256 ^ 4 = pow-le-pow_right {n = 256} (omega arith) {i = w} {j = 4} h in
    let e = cut_is w v in
    omega arith

abbrev LoadedFits : Loaded → Type 0
LoadedFits (Value v) = v < 2 ^ 32
LoadedFits (Device k o v) = v < 2 ^ 32
LoadedFits NoInput = Unit {0}
LoadedFits Unmapped = Unit {0}

input_fits : (us : List ℕ) (k o w : ℕ) → w ≤ 4 → LoadedFits (input us k o w)
input_fits [] k o w h = tt
input_fits (u ∷ us) k o w h = cut_fits w u h

load_at_fits : (p : Location) (i : Image) (ram : List ℕ) (queues : List (List ℕ)) (w : ℕ) → w ≤ 4 → LoadedFits (load_at p i ram queues w)
load_at_fits (InRam o) i ram queues w h = value_fits w o ram h
load_at_fits (InFlash o) i ram queues w h = value_fits w o i.flash h
load_at_fits (InWindow k o) i ram queues w h = input_fits (queue queues k) k o w h
load_at_fits Nowhere i ram queues w h = tt

-- ---- states

module _ (i : Image) where
  ended_fits : (e : End) (s : State) → StateFits i s → StateFits i (record s { ending = Some e })
  ended_fits e s h = record { core = h.core; status = h.status; unit = h.unit; ram_count = h.ram_count; queue_count = h.queue_count }

  taken_fits : (s : State) (c : CoreRegisters) (k : ℕ) → StateFits i s → CoreFits c → StateFits i (record s { core = c; queues = taken s.queues k })
  taken_fits s c k h f = record { core = f; status = h.status; unit = h.unit; ram_count = h.ram_count; queue_count = length-set s.queues k _ ∙ h.queue_count }

  stored_in_ram_fits : (s : State) (c : CoreRegisters) (p : Location) (w v : ℕ) → StateFits i s → CoreFits c → StateFits i (record s { core = c; ram = put_at p w v s.ram })
  stored_in_ram_fits s c p w v h f = record { core = f; status = h.status; unit = h.unit; ram_count = length-put_at p w v s.ram ∙ h.ram_count; queue_count = h.queue_count }

  -- ---- exceptions

  pub pushed_length : (vs : List ℕ) (a : ℕ) (ram : List ℕ) → length (push_words i a vs ram) ≡ length ram
  unfolding push_words
  pushed_length [] a ram = refl
  pushed_length (v ∷ vs) a ram = pushed_length vs (word (a + 4)) (put_at (location i a) 4 v ram) ∙ length-put_at (location i a) 4 v ram

  vector_fits : (n : ℕ) → vector i n < 2 ^ 32
  vector_fits n = let h = read_fits 4 (4 * n) i.flash in omega arith

  frame_word : (sp : ℕ) → frame_at sp < 2 ^ 32
  frame_word sp = omega arith

  frame_aligned_by : (b : Bool) (sp : ℕ) → sp % 4 ≡ 0 → word (sp + 2 ^ 32 - choose b 36 32) % 4 ≡ 0
  frame_aligned_by true sp h = omega arith
  frame_aligned_by false sp h = omega arith

  choose_aligned : (b : Bool) (x y : ℕ) → x % 4 ≡ 0 → y % 4 ≡ 0 → choose b x y % 4 ≡ 0
  choose_aligned true x y h g = h
  choose_aligned false x y h g = g

  entry_fits : (n : ℕ) (c : CoreRegisters) → CoreFits c → CoreFits (entry_core i n c)
  entry_fits n c h =
      let a = frame_aligned_by (has_pad c.sp) c.sp h.sp_aligned in
      record {
        low_count = h.low_count;
        high_count = h.high_count;
        low_words = h.low_words;
        high_words = h.high_words;
        sp_word = choose_below c.on_psp c.other_sp (frame_at c.sp) (2 ^ 32) h.other_word (frame_word c.sp);
        sp_aligned = choose_aligned c.on_psp c.other_sp (frame_at c.sp) h.other_aligned a;
        other_word = choose_below c.on_psp (frame_at c.sp) c.other_sp (2 ^ 32) (frame_word c.sp) h.other_word;
        other_aligned = choose_aligned c.on_psp (frame_at c.sp) c.other_sp a h.other_aligned;
        lr_word = choose_below c.on_psp 0xFFFFFFFD 0xFFFFFFF9 (2 ^ 32) (omega arith) (omega arith);
        pc_word = vector_fits n;
        pc_even = omega arith;
      }

  entered_fits : (b : Bool) (n ret : ℕ) (t : FaultStatus) (s : State) → StateFits i s → StatusFits t → StateFits i (entered b i n ret t s).to
  entered_fits false n ret t s h f = ended_fits _ s h
  entered_fits true n ret t s h f = record { core = entry_fits n s.core h.core; status = f; unit = h.unit; ram_count = pushed_length (frame_of s.core ret) (frame_at s.core.sp) s.ram ∙ h.ram_count; queue_count = h.queue_count }

  call_fits : (b : Bool) (j : PermissionTest) (next : ℕ) (s : State) → StateFits i s → StateFits i (call b j i next s).to
  call_fits true j next s h = ended_fits _ s h
  call_fits false j next s h = entered_fits (is_frame_open j i s) supervisor_call next s.status s h h.status

  fault_fits : (b e : Bool) (j : PermissionTest) (t : FaultStatus) (s : State) → StateFits i s → StatusFits t → StateFits i (fault_by b e j i t s).to
  fault_fits true e j t s h f = ended_fits _ s h
  fault_fits false false j t s h f = ended_fits _ s h
  fault_fits false true j t s h f = entered_fits (is_frame_open j i s) mem_manage s.core.pc t s h f

  data_fault_fits : (j : PermissionTest) (a : ℕ) (s : State) → StateFits i s → a < 2 ^ 32 → StateFits i (data_fault j i a s).to
  data_fault_fits j a s h f =
      fault_fits s.protection.handler (is_fault_enabled s.status) j _ s h
      (record { shcsr_word = h.status.shcsr_word; cfsr_word = or_lt 32 s.status.cfsr 0x82 h.status.cfsr_word (omega arith); mmfar_word = f })

  fetch_fault_fits : (j : PermissionTest) (s : State) → StateFits i s → StateFits i (fetch_fault j i s).to
  fetch_fault_fits j s h =
      fault_fits s.protection.handler (is_fault_enabled s.status) j _ s h
      (record { shcsr_word = h.status.shcsr_word; cfsr_word = or_lt 32 s.status.cfsr 1 h.status.cfsr_word (omega arith); mmfar_word = h.status.mmfar_word })

  stacked_fit : (n a : ℕ) (ram : List ℕ) → EachWord (stacked_words i a n ram)
  unfolding stacked_words
  stacked_fit zero a ram k = omega arith
  stacked_fit (suc n) a ram zero = word_fits (location i a) i ram
  stacked_fit (suc n) a ram (suc k) = stacked_fit n (word (a + 4)) ram k

  pad_word : (b : Bool) (sp : ℕ) → sp < 2 ^ 32 → sp % 4 ≡ 0 → with_pad b sp < 2 ^ 32
  pad_word true sp h a = omega arith
  pad_word false sp h a = h

  pad_aligned : (b : Bool) (sp : ℕ) → sp % 4 ≡ 0 → with_pad b sp % 4 ≡ 0
  pad_aligned true sp a = omega arith
  pad_aligned false sp a = a

  unstacked_fits : (psp : Bool) (c : CoreRegisters) (a : ℕ) (ws : List ℕ) → CoreFits c → a % 4 ≡ 0 → EachWord ws → CoreFits (unstacked psp c a ws)
  unstacked_fits psp c a ws h al w =
      let r = w 6 in
      let l : word (a + 32) % 4 ≡ 0 = omega arith in
      record {
        low_count = length-set _ 3 _ ∙ length-set _ 2 _ ∙ length-set _ 1 _ ∙ length-set c.low 0 _ ∙ h.low_count;
        high_count = length-set c.high 4 _ ∙ h.high_count;
        low_words = set_words _ 3 _ (set_words _ 2 _ (set_words _ 1 _ (set_words c.low 0 _ h.low_words (w 0)) (w 1)) (w 2)) (w 3);
        high_words = set_words c.high 4 _ h.high_words (w 4);
        sp_word = pad_word (nat_eq (get_or ws 7 0 / 2 ^ 9 % 2) 1) (word (a + 32)) (omega arith) l;
        sp_aligned = pad_aligned (nat_eq (get_or ws 7 0 / 2 ^ 9 % 2) 1) (word (a + 32)) l;
        other_word = choose_below psp c.sp c.other_sp (2 ^ 32) h.sp_word h.other_word;
        other_aligned = choose_aligned psp c.sp c.other_sp h.sp_aligned h.other_aligned;
        lr_word = w 5;
        pc_word = omega arith;
        pc_even = omega arith;
      }

  leaves_fits : (o t psp : Bool) (a : ℕ) (ws : List ℕ) (s : State) → StateFits i s → a % 4 ≡ 0 → EachWord ws → StateFits i (leaves o t psp a ws s).to
  leaves_fits false t psp a ws s h al w = ended_fits _ s h
  leaves_fits true false psp a ws s h al w = ended_fits _ s h
  leaves_fits true true psp a ws s h al w = record { core = unstacked_fits psp s.core a ws h.core al w; status = h.status; unit = h.unit; ram_count = h.ram_count; queue_count = h.queue_count }

  returns_fits : (j : PermissionTest) (psp : Bool) (s : State) → StateFits i s → StateFits i (returns j i psp s).to
  returns_fits j psp s h =
      leaves_fits _ _ psp (choose psp s.core.other_sp s.core.sp) _ s h (choose_aligned psp s.core.other_sp s.core.sp h.core.other_aligned h.core.sp_aligned) (stacked_fit 8 (choose psp s.core.other_sp s.core.sp) s.ram)

  -- ---- accesses

  module _ (few : i.regions ≤ 16) where
    loaded_fits : (l : Loaded) (w a : ℕ) (s : State) (go : ℕ → CoreRegisters) → LoadedFits l → StateFits i s → ((v : ℕ) → v < 2 ^ 32 → CoreFits (go v)) → StateFits i (loaded l i w a s go).to
    loaded_fits (Value v) w a s go f h g = with_core_fits i s (go v) h (g v f)
    loaded_fits (Device k o v) w a s go f h g = taken_fits s (go v) k h (g v f)
    loaded_fits NoInput w a s go f h g = ended_fits _ s h
    loaded_fits Unmapped w a s go f h g = ended_fits _ s h

    after_load_fits : (v : Verdict) (j : PermissionTest) (w a : ℕ) (s : State) (go : ℕ → CoreRegisters) → StateFits i s → w ≤ 4 → a < 2 ^ 32 → ((v : ℕ) → v < 2 ^ 32 → CoreFits (go v)) → StateFits i (after_load v j i w a s go).to
    after_load_fits ToBus j w a s go h l f g = loaded_fits (load_at (location i a) i s.ram s.queues w) w a s go (load_at_fits (location i a) i s.ram s.queues w l) h g
    after_load_fits ToSystem j w a s go h l f g = with_core_fits i s (go (read_system a s.protection s.status)) h (g (read_system a s.protection s.status) (read_system_fits i.regions a s.protection s.status few h.unit h.status))
    after_load_fits Refused j w a s go h l f g = data_fault_fits j a s h f
    after_load_fits (Bad r) j w a s go h l f g = ended_fits _ s h

    stored_fits : (l : Stored) (w a v : ℕ) (s : State) (c : CoreRegisters) → StateFits i s → CoreFits c → StateFits i (stored l i w a v s c).to
    stored_fits Done w a v s c h f = stored_in_ram_fits s c (location i a) w v h f
    stored_fits (Taken k o) w a v s c h f = with_core_fits i s c h f
    stored_fits NotTaken w a v s c h f = ended_fits _ s h

    after_store_fits : (d : Verdict) (j : PermissionTest) (w a v : ℕ) (s : State) (c : CoreRegisters) → StateFits i s → a < 2 ^ 32 → v < 2 ^ 32 → CoreFits c → StateFits i (after_store d j i w a v s c).to
    after_store_fits ToBus j w a v s c h f g k = stored_fits (store_at (location i a)) w a v s c h k
    after_store_fits ToSystem j w a v s c h f g k = write_system_fits i a v (with_core s c) (with_core_fits i s c h k) g
    after_store_fits Refused j w a v s c h f g k = data_fault_fits j a s h f
    after_store_fits (Bad r) j w a v s c h f g k = ended_fits _ s h

    -- several words

    word_from_fits : (b : Bool) (a : ℕ) (s : State) → StateFits i s → word_from b i a s < 2 ^ 32
    word_from_fits true a s h = read_system_fits i.regions a s.protection s.status few h.unit h.status
    word_from_fits false a s h = word_fits (location i a) i s.ram

    got_fit : (n a : ℕ) (s : State) → StateFits i s → AreWords (get_words i a n s)
    unfolding get_words
    got_fit zero a s h = tt
    got_fit (suc n) a s h = (word_from_fits (in_system a) a s h, got_fit n (word (a + 4)) s h)

    word_to_fits : (b : Bool) (a v : ℕ) (s : State) → StateFits i s → v < 2 ^ 32 → StateFits i (word_to b i a v s)
    word_to_fits true a v s h f = write_system_fits i a v s h f
    word_to_fits false a v s h f = with_ram_fits i s (put_at (location i a) 4 v s.ram) h (length-put_at (location i a) 4 v s.ram)

    put_fit : (vs : List ℕ) (a : ℕ) (s : State) → StateFits i s → AreWords vs → StateFits i (put_words i a vs s)
    unfolding put_words
    put_fit [] a s h f = h
    put_fit (v ∷ vs) a s h f = put_fit vs (word (a + 4)) (word_to (in_system a) i a v s) (word_to_fits (in_system a) a v s h f.0) f.1

    or_usage_fits : (o : Option CoreRegisters) (a n : ℕ) (s : State) → StateFits i s → MaybeFits o → StateFits i (or_usage o a n s).to
    or_usage_fits None a n s h f = ended_fits _ s h
    or_usage_fits (Some c) a n s h f = with_core_fits i s c h f

    -- the address of a refused word

    abbrev VerdictsFit : Verdicts → Type 0
    VerdictsFit AllGood = Unit {0}
    VerdictsFit (RefusedAt x) = x < 2 ^ 32
    VerdictsFit (BadOne r) = Unit {0}

    and_then_fits : (v : Verdict) (m : Bool) (a : ℕ) (u : Verdicts) → a < 2 ^ 32 → VerdictsFit u → VerdictsFit (and_then v m a u)
    and_then_fits ToBus true a u h f = f
    and_then_fits ToBus false a u h f = tt
    and_then_fits ToSystem m a u h f = f
    and_then_fits Refused m a u h f = h
    and_then_fits (Bad r) m a u h f = tt

    verdicts_fit : (j : PermissionTest) (p : ProtectionState) (kind : Access) (n a : ℕ) → a < 2 ^ 32 → VerdictsFit (verdicts j i p kind a n)
    unfolding verdicts
    verdicts_fit j p kind zero a h = tt
    verdicts_fit j p kind (suc n) a h = and_then_fits (verdict j p kind 4 a) (is_memory kind (location i a)) a (verdicts j i p kind (word (a + 4)) n) h (verdicts_fit j p kind n (word (a + 4)) (omega arith))

    after_loads_fits : (v : Verdicts) (j : PermissionTest) (a n : ℕ) (s : State) (go : List ℕ → Option CoreRegisters) → VerdictsFit v → StateFits i s → ((vs : List ℕ) → AreWords vs → MaybeFits (go vs)) → StateFits i (after_loads v j i a n s go).to
    after_loads_fits AllGood j a n s go f h g = or_usage_fits (go (get_words i a n s)) a n s h (g (get_words i a n s) (got_fit n a s h))
    after_loads_fits (RefusedAt x) j a n s go f h g = data_fault_fits j x s h f
    after_loads_fits (BadOne r) j a n s go f h g = ended_fits _ s h

    after_stores_fits : (v : Verdicts) (j : PermissionTest) (a : ℕ) (vs : List ℕ) (s : State) (c : CoreRegisters) → VerdictsFit v → StateFits i s → AreWords vs → CoreFits c → StateFits i (after_stores v j i a vs s c).to
    after_stores_fits AllGood j a vs s c f h g k = put_fit vs a (with_core s c) (with_core_fits i s c h k) g
    after_stores_fits (RefusedAt x) j a vs s c f h g k = data_fault_fits j x s h f
    after_stores_fits (BadOne r) j a vs s c f h g k = ended_fits _ s h

    -- special registers

    special_fits : (u : Bool) (n : ℕ) (s : State) → StateFits i s → read_special u n s < 2 ^ 32
    special_fits u n s h =
        let a = bit_below s.protection.unprivileged in
        let b = bit_below s.core.on_psp in
        if_below (nat_eq n 20) (bit_of s.protection.unprivileged + 2 * bit_of s.core.on_psp) _ (2 ^ 32) (omega arith)
        (choose_below u 0 _ (2 ^ 32) (omega arith) (choose_below (is_in_use n s.core) s.core.sp s.core.other_sp (2 ^ 32) h.core.sp_word h.core.other_word))

    swapped_fits : (c : CoreRegisters) (b : Bool) → CoreFits c → CoreFits (record c { sp = c.other_sp; other_sp = c.sp; on_psp = b })
    swapped_fits c b h = record {
      low_count = h.low_count;
      high_count = h.high_count;
      low_words = h.low_words;
      high_words = h.high_words;
      sp_word = h.other_word;
      sp_aligned = h.other_aligned;
      other_word = h.sp_word;
      other_aligned = h.sp_aligned;
      lr_word = h.lr_word;
      pc_word = h.pc_word;
      pc_even = h.pc_even;
    }

    with_stack_fits : (b : Bool) (c : CoreRegisters) → CoreFits c → CoreFits (with_stack b c)
    with_stack_fits true c h = choose_core c.on_psp c _ h (swapped_fits c true h)
    with_stack_fits false c h = choose_core c.on_psp _ c (swapped_fits c false h) h

    selected_fits : (b : Bool) (v : ℕ) (c : CoreRegisters) → CoreFits c → CoreFits (selected_stack b v c)
    selected_fits true v c h = h
    selected_fits false v c h = with_stack_fits (nat_eq (v / 2 % 2) 1) c h

    pointer_fits : (b : Bool) (v : ℕ) (c : CoreRegisters) → CoreFits c → v < 2 ^ 32 → CoreFits (write_stack_pointer b v c)
    pointer_fits true v c h f = stack_fits c (v / 4 * 4) h (omega arith) (omega arith)
    pointer_fits false v c h f = record {
      low_count = h.low_count;
      high_count = h.high_count;
      low_words = h.low_words;
      high_words = h.high_words;
      sp_word = h.sp_word;
      sp_aligned = h.sp_aligned;
      other_word = omega arith;
      other_aligned = omega arith;
      lr_word = h.lr_word;
      pc_word = h.pc_word;
      pc_even = h.pc_even;
    }

    if_state : (b : Bool) (x y : State) → StateFits i x → StateFits i y → StateFits i (if b then x else y)
    if_state true x y h g = h
    if_state false x y h g = g

    write_special_fits : (u : Bool) (n v : ℕ) (s : State) (c : CoreRegisters) → StateFits i s → CoreFits c → v < 2 ^ 32 → StateFits i (write_special u n v s c)
    write_special_fits true n v s c h g f = with_core_fits i s c h g
    write_special_fits false n v s c h g f =
        if_state (nat_eq n 20) _ _
        (record { core = selected_fits s.protection.handler v c g; status = h.status; unit = h.unit; ram_count = h.ram_count; queue_count = h.queue_count })
        (with_core_fits i s (write_stack_pointer (is_in_use n c) v c) h (pointer_fits (is_in_use n c) v c g f))

    -- branches and exception returns

    jumped_fits : (b : Bool) (v : ℕ) (s : State) → StateFits i s → v < 2 ^ 32 → (b ≡ true → (v - 1) % 2 ≡ 0) → StateFits i (jumped b v s).to
    jumped_fits true v s h f e = with_core_fits i s (record s.core { pc = v - 1 }) h (at_fits s.core (v - 1) h.core (omega arith, e refl))
    jumped_fits false v s h f e = ended_fits _ s h

    exchanged_fits : (p m : Bool) (j : PermissionTest) (v : ℕ) (s : State) → StateFits i s → v < 2 ^ 32 → StateFits i (exchanged p m j i v s).to
    exchanged_fits true m j v s h f = returns_fits j true s h
    exchanged_fits false true j v s h f = returns_fits j false s h
    exchanged_fits false false j v s h f = jumped_fits (nat_eq (v % 2) 1) v s h f (odd_before v)

    perform_fits : (j : PermissionTest) (a : Act) (s : State) → StateFits i s → ActFits a → StateFits i (perform j i a s).to
    unfolding perform
    perform_fits j (Changes c) s h f = with_core_fits i s c h f
    perform_fits j (Loads w a go) s h f = after_load_fits (verdict j s.protection Read w a) j w a s go h f.0 f.1 f.2
    perform_fits j (Stores w a v c) s h f = after_store_fits (verdict j s.protection Write w a) j w a v s c h f.0 f.1 f.2
    perform_fits j (LoadsMany a n go) s h f = after_loads_fits (verdicts j i s.protection Read a n) j a n s go (verdicts_fit j s.protection Read n a f.0) h f.1
    perform_fits j (StoresMany a vs c) s h f = after_stores_fits (verdicts j i s.protection Write a (length vs)) j a vs s c (verdicts_fit j s.protection Write (length vs) a f.0) h f.1 f.2
    perform_fits j (GetsSpecial n d c) s h f =
        with_core_fits i s (with_register c d (read_special (is_unprivileged s.protection) n s)) h (with_register_fits c d (read_special (is_unprivileged s.protection) n s) f (special_fits (is_unprivileged s.protection) n s h))
    perform_fits j (SetsSpecial n v c) s h f = write_special_fits (is_unprivileged s.protection) n v s c h f.1 f.0
    perform_fits j (Exchanges v) s h f = exchanged_fits _ _ j v s h f
    perform_fits j (Calls next) s h f = call_fits s.protection.handler j next s h
    perform_fits j (Halts n) s h f = ended_fits _ s h
    perform_fits j (Stops r) s h f = ended_fits _ s h

    -- ---- the step

    performed_fits : (o : Option Instr) (h k : ℕ) (j : PermissionTest) (next : ℕ) (s : State) → IfSome o (Encodes (read_code h k)) → StateFits i s → next + 1 < 2 ^ 32 → next % 2 ≡ 0 → StateFits i (performed o j i next s).to
    performed_fits None h k j next s e f n v = ended_fits _ s f
    performed_fits (Some x) h k j next s e f n v = perform_fits j (act x next s.core) s f (act_fits x next s.core e.in_table f.core n v)

    fetched_fits : (t : Fetched) (j : PermissionTest) (s : State) → FetchedFits s.core.pc t → StateFits i s → StateFits i (fetched t j i s).to
    fetched_fits (Took h k n) j s f g = performed_fits (decoded h k) h k j (s.core.pc + n) s (Encodes-decoded h k f.0 f.1) g (omega (arith, f.2, f.3)) (omega (arith, f.4, g.core.pc_even))
    fetched_fits NotAllowed j s f g = fetch_fault_fits j s g
    fetched_fits NotMapped j s f g = ended_fits _ s g

    running_fits : (e : Option End) (j : PermissionTest) (s : State) → ObeysRules i → StateFits i s → StateFits i (running e j i s).to
    running_fits None j s r h = fetched_fits (fetch j i s) j s (fetch_fits i j s r) h
    running_fits (Some e) j s r h = h

most_regions : (i : Image) → ObeysRules i → i.regions ≤ 16
most_regions i r = ⊎_elim (λ (e : i.regions ≡ 8). let P : i.regions ≤ 16 = omega (arith, e) in P) (λ (e : i.regions ≡ 16). let P : i.regions ≤ 16 = omega (arith, e) in P) r.regions

pub steps_keep_shape : StepsKeepShape
unfolding turn
steps_keep_shape j i s r h = running_fits i (most_regions i r) s.ending j s r h

-- ---- from reset on

repeated_words : (n : ℕ) → EachWord (replicate n 0)
repeated_words zero k = omega arith
repeated_words (suc n) zero = omega arith
repeated_words (suc n) (suc k) = repeated_words n k

repeated_blank : (n k : ℕ) → get_or (replicate n blank) k blank ≡ blank
repeated_blank zero k = refl
repeated_blank (suc n) zero = refl
repeated_blank (suc n) (suc k) = repeated_blank n k

pub start_fits : (i : Image) (queues : List (List ℕ)) (fill : ℕ) → length queues ≡ length i.windows → StateFits i (start i queues fill)
unfolding start
start_fits i queues fill q =
    let h = read_fits 4 0 i.flash in
    let v = vector_fits i 1 in
    record {
      core = record {
        low_count = refl;
        high_count = refl;
        low_words = repeated_words 8;
        high_words = repeated_words 5;
        sp_word = omega arith;
        sp_aligned = omega arith;
        other_word = omega arith;
        other_aligned = refl;
        lr_word = omega arith;
        pc_word = v;
        pc_even = omega arith;
      };
      status = record { shcsr_word = omega arith; cfsr_word = omega arith; mmfar_word = omega arith };
      unit = record {
        control_word = omega arith;
        number_word = omega arith;
        region_count = length-replicate i.regions blank;
        rbar_words = λ k. let e = repeated_blank i.regions k in rw e (omega arith);
        rasr_words = λ k. let e = repeated_blank i.regions k in rw e (omega arith);
      };
      ram_count = length-replicate i.ram_size fill;
      queue_count = q;
    }

pub runs_keep_shape : RunsKeepShape
runs_keep_shape i queues fill n r q = run_fits steps_keep_shape by_mpu i r n (start i queues fill) (start_fits i queues fill q)
