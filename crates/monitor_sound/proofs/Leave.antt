-- Leave, in the words of a simulation: behind the call, with its result; and the end of `main`.
use Rattle.std.proofs.Common.{◌≡◌, ℕ, zero, suc, ◌+◌, ◌-◌, ◌*◌, ◌/◌, ◌%◌, ◌^◌, ◌<◌, ◌≤◌, ◌⊎◌, inl, inr, true, false, List, [], length, get_or, set, drop, Some, None, nat_eq, refl, sym, ap, ◌∙◌, subst, arith}
use Rattle.base_words.specs.declared.conditions.Flags.{Flags}
use Rattle.base_words.specs.Bytes.{read, cut}
use Rattle.base_words.specs.Runs.{run}
use Rattle.base_ranges.specs.Ranges.{AreApart}
use Rattle.machine_protection.specs.declared.region.Access.TheVariants.{Fetch}
use Rattle.machine_devices.specs.declared.image.Image.{Image}
use Rattle.machine_model.specs.declared.state.End.{End}
use Rattle.machine_model.specs.declared.state.End.TheVariants.{Halt}
use Rattle.machine_model.specs.State.{State, Turn, by_mpu}
use Rattle.machine_model.specs.Code.{Runs}
use Rattle.machine_model.specs.Exceptions.{frame_at, is_thread, supervisor_call}
use Rattle.machine_model.specs.Shape.{StateFits}
use Rattle.machine_model.specs.Stack.{words_at}
use Rattle.machine_model.specs.Step.{step, event}
use Rattle.machine_model.specs.RunningCode.{Context, works}
use Rattle.monitor_model.specs.declared.tables.Tables.{Tables}
use Rattle.monitor_model.specs.Placed.{Placed}
use Rattle.monitor_model.specs.Block.{MonitorBlock, Saved, left, entered}
use Rattle.monitor_model.specs.Handlers.{at_svc, Leads, Leaves}
use Rattle.monitor_model.specs.Invariant.{Invariant, InvariantHolds, IsOrderly}
use Rattle.monitor_model.specs.MonitorCode.{MonitorCode}
use Rattle.monitor_model.specs.MonitorLaw.{Shows, MonitorLaw, svc_steps}
use Rattle.monitor_model.specs.Outcomes.{Outcome, Halts, Resumes as OutcomeResumes, frame_in, stacked, with_stacked}
use Rattle.monitor_model.specs.SvcOutcome.{word, svc_outcome}
use Rattle.monitor_model.specs.Setting.{Setting, setting_of}
use Rattle.monitor_model.specs.Threads.{call_steps, KeepsOff, HasRoom, Leaves as LeavesTo}
use Rattle.monitor_model.specs.Threads as threads
use Rattle.monitor_confined.proofs.Changes.{top_below}
use Rattle.monitor_confined.proofs.EntryWords.{entered_length}
use Rattle.monitor_sound.specs.Accesses.{StubStands}
use Rattle.monitor_sound.proofs.ThreadLaws.{ThreadLaws}
use Rattle.monitor_sound.proofs.Permits.{fetches_tables}
use Rattle.monitor_sound.proofs.Memory.{read_off, words_set}
use Rattle.monitor_sound.proofs.Outcomes.{leaves, ends}
use Rattle.monitor_sound.proofs.Behind.{Behind, pc_is, sp_is, low_at}
use Rattle.monitor_sound.proofs.Room.{Pushed, open_frame, is_svc, svc_turn, stack_places}
use Rattle.monitor_sound.proofs.Places.{ram_low, base_aligned, whole, least}
use Rattle.monitor_sound.proofs.Resumed.{resumed, quiet_there}
use Rattle.monitor_sound.proofs.CallRules.{at, psp, memory, held, room, words, lowest, highest, no_pad, reads_off, called}
use Rattle.machine_model.proofs.StackWords.{get_or-words_at as word_at}

even_is : (n : ℕ) → n % 2 ≡ 0 → n / 2 * 2 ≡ n
even_is n h = omega arith

-- where the words of the waiting frame lie
word_place : (rb o k d : ℕ) → 32 ≤ o → 4 * k + d ≡ 32 → rb + o - 32 - rb + 4 * k ≡ o - d
word_place rb o k d h e = omega (arith, h, e)

module _ (laws : ThreadLaws) (code : MonitorCode) (i : Image) (t : Tables) (p : Placed i t) (law : MonitorLaw i t (code.stub t)) (stands : StubStands i t (code.stub t)) where
  abbrev pub g : Setting
  g = setting_of code i t

  pub stub_runs : (m : MonitorBlock) (x : Context) (ram : List ℕ) → Invariant i t m x ram → by_mpu x.protection Fetch (code.stub t) ≡ true
  stub_runs m x ram v = let a = stands.from_base in let b = stands.inside in fetches_tables laws.unit i t p m x ram v (code.stub t) a (omega (arith, b))

  -- the block that enter made, left again
  block_back : (m : MonitorBlock) (c top psp : ℕ) → let n : MonitorBlock = entered m c top psp in let e : Saved = record { psp = psp; current = m.current; top = m.top; mark = m.mark } in left n e m.saved ≡ m
  block_back m c top psp =
      let z : length m.loans - length m.loans ≡ 0 = omega arith in
      ap (λ (k : ℕ). record { current = m.current; top = m.top; mark = m.mark; saved = m.saved; loans = drop k m.loans }) z

  module _ (m : MonitorBlock) (c top o : ℕ) (x : Context) (low : List ℕ) (lr : ℕ) (f : Flags) (ram : List ℕ) (queues : List (List ℕ)) (ret status : ℕ)
      (v : Invariant i t (entered m c (i.ram_base + top) (i.ram_base + o - 32)) x ram) (r : HasRoom g (entered m c (i.ram_base + top) (i.ram_base + o - 32)) top)
      (fits : StateFits i (works x low (i.ram_base + top) lr (code.stub t) f ram queues)) (above : top + 32 ≤ o)
      (is_ret : read 4 (o - 8) ram ≡ ret) (is_status : read 4 (o - 4) ram ≡ status) (even : ret % 2 ≡ 0) (thread : is_thread status ≡ true) (no_pad_there : nat_eq (status / 2 ^ 9 % 2) 1 ≡ false) where
    abbrev pub n : MonitorBlock
    n = entered m c (i.ram_base + top) (i.ram_base + o - 32)

    abbrev pub e : Saved
    e = record { psp = i.ram_base + o - 32; current = m.current; top = m.top; mark = m.mark }

    pub may : by_mpu x.protection Fetch (code.stub t) ≡ true
    may = stub_runs n x ram v

    abbrev pub s : State
    s = at laws code i t p law n x low top lr (code.stub t) f ram queues 1 v r fits stands.lies may

    pub held_x : InvariantHolds i t n s
    held_x = held laws code i t p law n x low top lr (code.stub t) f ram queues 1 v r fits stands.lies may

    abbrev pub q : ℕ
    q = frame_at (i.ram_base + top)

    abbrev pub rm : List ℕ
    rm = memory laws code i t p law n x low top lr (code.stub t) f ram queues 1 v r fits stands.lies may

    ws : Pushed i s.core (code.stub t + 2) q rm
    ws = words laws code i t p law n x low top lr (code.stub t) f ram queues 1 v r fits stands.lies may

    lo : t.stack.base ≤ q
    lo = lowest laws code i t p law n x low top lr (code.stub t) f ram queues 1 v r fits stands.lies may

    hi : q + 32 ≤ i.ram_base + top
    hi = highest laws code i t p law n x low top lr (code.stub t) f ram queues 1 v r fits stands.lies may

    abbrev pub after : List ℕ
    after = with_stacked i e.psp 0 (word i t (code.stub t) n q rm 0) rm

    comes : svc_outcome i t (code.stub t) n q rm 1 ≡ OutcomeResumes m e.psp after
    comes =
        leaves i t (code.stub t) n q rm lo hi (no_pad laws code i t p law n x low top lr (code.stub t) f ram queues 1 v r fits stands.lies may) e m.saved refl
        ∙ ap (λ (y : MonitorBlock). OutcomeResumes y e.psp after) (block_back m c (i.ram_base + top) (i.ram_base + o - 32))

    -- ---- the waiting frame, with the result

    deep : 32 ≤ o
    deep = let a = above in omega (arith, a)

    low_stack : t.stack.base - i.ram_base + 32 ≤ top
    low_stack = r.low

    offset : e.psp - i.ram_base ≡ o - 32
    offset = let a = deep in omega (arith, a)

    end_low : e.psp + 32 ≤ t.stack.base + t.stack.size
    end_low =
        let w = v.orderly.saved.0 in
        let a = w.inside in
        let b = top_below t (length m.saved) m.top w.is_top in
        omega (arith, a, b)

    inside_ram : e.psp - i.ram_base + 32 ≤ length rm
    inside_ram =
        let a = end_low in
        let z = stack_places laws i t p n s held_x (room laws code i t p law n x low top lr (code.stub t) f ram queues 1 v r fits stands.lies may) in
        let b = z.1 in
        let d = deep in
        let l = entered_length laws.frames i p.rules s fits (open_frame laws i t p n s held_x (room laws code i t p law n x low top lr (code.stub t) f ram queues 1 v r fits stands.lies may)) supervisor_call (code.stub t + 2) s.status in
        subst (λ (k : ℕ). e.psp - i.ram_base + 32 ≤ k) (sym l) (omega (arith, a, b, d))

    written : frame_in i e.psp after ≡ set (frame_in i e.psp rm) 0 (cut 4 (word i t (code.stub t) n q rm 0))
    written = words_set 8 (e.psp - i.ram_base) 0 (word i t (code.stub t) n q rm 0) rm (omega arith) inside_ram

    result_is : stacked i e.psp after 0 ≡ cut 4 (get_or low 0 0)
    unfolding words_at
    result_is = ap (λ (l : List ℕ). get_or l 0 0) written ∙ ap (λ (k : ℕ). cut 4 k) (ws.low 0 (omega arith))

    -- the other words are those of before
    kept : (k d : ℕ) → 0 < k → k < 8 → 4 * k + d ≡ 32 → get_or (set (frame_in i e.psp rm) 0 (cut 4 (word i t (code.stub t) n q rm 0))) k 0 ≡ stacked i e.psp rm k → stacked i e.psp after k ≡ read 4 (o - d) ram
    kept k d some lt sum same =
        let a = deep in
        let b = above in
        let w = word_place i.ram_base o k d a sum in
        ap (λ (l : List ℕ). get_or l k 0) written ∙ same ∙ word_at 8 (e.psp - i.ram_base) k rm lt ∙ ap (λ (y : ℕ). read 4 y rm) w
        ∙ reads_off laws code i t p law n x low top lr (code.stub t) f ram queues 1 v r fits stands.lies may 4 (o - d) (inr (omega (arith, a, b, sum, some)))

    ret_is : stacked i e.psp after 6 ≡ ret
    unfolding words_at
    ret_is = kept 6 8 (omega arith) (omega arith) refl refl ∙ is_ret

    status_is : stacked i e.psp after 7 ≡ status
    unfolding words_at
    status_is = kept 7 4 (omega arith) (omega arith) refl refl ∙ is_status

    y : Behind i t s n (svc_steps 1) m e.psp after
    y = called laws code i t p law n x low top lr (code.stub t) f ram queues 1 v r fits stands.lies may m e.psp after comes (ap (λ (k : ℕ). is_thread k) status_is ∙ thread)

    ordered : IsOrderly t m
    ordered =
        let svc = (is_svc laws i t p n s held_x (room laws code i t p law n x low top lr (code.stub t) f ram queues 1 v r fits stands.lies may) refl 1 stands.lies).1 in
        let is = laws.order i t s s n (left n e m.saved) p fits.core.sp_aligned v.orderly (Leaves e m.saved refl svc) in
        subst (λ (b : MonitorBlock). IsOrderly t b) (block_back m c (i.ram_base + top) (i.ram_base + o - 32)) is

    keeps : (w a : ℕ) → KeepsOff g o a w → read w a after ≡ read w a ram
    keeps w a k =
        read_off w a 4 (e.psp - i.ram_base + 4 * 0) (word i t (code.stub t) n q rm 0) rm (off k.0)
        ∙ reads_off laws code i t p law n x low top lr (code.stub t) f ram queues 1 v r fits stands.lies may w a (lower k.0)
      where
        off : (a + w ≤ t.stack.base - i.ram_base) ⊎ (o ≤ a) → AreApart a w (e.psp - i.ram_base + 4 * 0) 4
        off (inl h) = let z = offset in let b = above in let l = low_stack in inl (omega (arith, h, z, b, l))
        off (inr h) = let z = offset in let d = deep in inr (omega (arith, h, z, d))

        lower : (a + w ≤ t.stack.base - i.ram_base) ⊎ (o ≤ a) → (a + w ≤ t.stack.base - i.ram_base) ⊎ (top ≤ a)
        lower (inl h) = inl h
        lower (inr h) = let b = above in inr (omega (arith, h, b))

    back_at : e.psp + 32 ≡ i.ram_base + o
    back_at = let d = deep in omega (arith, d)

    small_end : e.psp + 32 < 2 ^ 32
    small_end =
        let a = end_low in
        let z = stack_places laws i t p n s held_x (room laws code i t p law n x low top lr (code.stub t) f ram queues 1 v r fits stands.lies may) in
        let b = z.1 in
        let d = z.2 in
        omega (arith, a, b, d)

    pub leave : LeavesTo g (Invariant i t) s m low o ret ram queues
    unfolding resumed
    leave = record {
      resumes = resumed laws code i t p s n held_x (svc_steps 1) call_steps m e.psp after y (omega arith) ordered (i.ram_base + o) ret o ram
          (sp_is laws i t p s n held_x (svc_steps 1) m e.psp after y (ap (λ (k : ℕ). nat_eq (k / 2 ^ 9 % 2) 1) status_is ∙ no_pad_there) small_end ∙ back_at)
          (pc_is laws i t p s n held_x (svc_steps 1) m e.psp after y ∙ ap (λ (k : ℕ). k / 2 * 2) ret_is ∙ even_is ret even) keeps fits.ram_count;
      result = low_at laws i t p s n held_x (svc_steps 1) m e.psp after y 0 (omega arith) ∙ result_is;
    }

  -- ---- the end of `main`

  pub first_step : (s : State) (from : State) (e : End) (c : ℕ) → step i s ≡ from → event i s ≡ None → ((k : ℕ) → k < c → event i (run (step i) k from) ≡ None) → (run (step i) c from).ending ≡ Some e →
      ((k : ℕ) → k < suc c → event i (run (step i) k s) ≡ None) × ((run (step i) (suc c) s).ending ≡ Some e)
  unfolding run
  first_step s from e c to quiet each over = (silent, subst (λ (z : State). (run (step i) c z).ending ≡ Some e) (sym to) over)
    where
      silent : (k : ℕ) → k < suc c → event i (run (step i) k s) ≡ None
      silent zero lt = quiet
      silent (suc k) lt = subst (λ (z : State). event i (run (step i) k z) ≡ None) (sym to) (each k (omega (arith, lt)))

  pub end_of_main : (x : Context) (low : List ℕ) (lr : ℕ) (f : Flags) (ram : List ℕ) (queues : List (List ℕ)) → Invariant i t (threads.first_block g) x ram →
      StateFits i (works x low (i.ram_base + threads.stack_end g) lr (code.stub t) f ram queues) →
      (k : ℕ) × (1 ≤ k) × (k ≤ call_steps)
      × (u : State) × (u.ending ≡ Some (Halt 0)) × Runs by_mpu i k (works x low (i.ram_base + threads.stack_end g) lr (code.stub t) f ram queues) u []
  end_of_main x low lr f ram queues v fits =
      let m : MonitorBlock = threads.first_block g in
      let o : ℕ = threads.stack_end g in
      let base = base_aligned i t p in
      let ra = p.rules.ram_aligned in
      let rl = ram_low i t p in
      let z = whole i t p in
      let l = least i t p in
      let r : HasRoom g m o = record { aligned = omega (arith, base, ra, rl); low = omega (arith, z, l); high = omega arith } in
      let may = stub_runs m x ram v in
      let s : State = at laws code i t p law m x low o lr (code.stub t) f ram queues 1 v r fits stands.lies may in
      let h = held laws code i t p law m x low o lr (code.stub t) f ram queues 1 v r fits stands.lies may in
      let rm = room laws code i t p law m x low o lr (code.stub t) f ram queues 1 v r fits stands.lies may in
      let mem : List ℕ = memory laws code i t p law m x low o lr (code.stub t) f ram queues 1 v r fits stands.lies may in
      let q : ℕ = frame_at (i.ram_base + o) in
      let out : svc_outcome i t (code.stub t) m q mem 1 ≡ Halts 0 =
      ends i t (code.stub t) m q mem (lowest laws code i t p law m x low o lr (code.stub t) f ram queues 1 v r fits stands.lies may) (highest laws code i t p law m x low o lr (code.stub t) f ram queues 1 v r fits stands.lies may)
      (no_pad laws code i t p law m x low o lr (code.stub t) f ram queues 1 v r fits stands.lies may) refl in
      let is = is_svc laws i t p m s h rm refl 1 stands.lies in
      let a : Leads i t s (svc_steps 1) (at_svc i s) (Shows i t (svc_outcome i t (code.stub t) m q mem 1) s m mem) = law.svc s m 1 h refl is.0 is.1 (open_frame laws i t p m s h rm) in
      let b : Leads i t s (svc_steps 1) (at_svc i s) (Shows i t (Halts 0) s m mem) = subst (λ (y : Outcome). Leads i t s (svc_steps 1) (at_svc i s) (Shows i t y s m mem)) out a in
      let turned = svc_turn laws i t p m s h rm refl 1 stands.lies may in
      let le = b.within in
      let w = first_step s (at_svc i s) (Halt 0) b.count (ap (λ (y : Turn). y.to) turned) (ap (λ (y : Turn). y.event) turned) (λ k lt. (b.each k lt).quiet) b.holds.ended.ending in
      (suc b.count, (omega arith), (omega (arith, le)), run (step i) (suc b.count) s, w.1, quiet_there i (suc b.count) s w.0)
