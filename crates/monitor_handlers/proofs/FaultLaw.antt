-- The law of the handler of MemManage: from the entry by the code of its list to the outcome.
use Rattle.std.proofs.Common.{◌≡◌, ℕ, ◌+◌, ◌-◌, ◌^◌, ◌<◌, ◌≤◌, ◌⊎◌, inl, inr, true, List, [], length, None, refl, sym, ap, ◌∙◌, subst, arith}
use Rattle.base_words.specs.Bytes.{read}
use Rattle.machine_devices.specs.declared.image.Image.{Image}
use Rattle.machine_devices.specs.Rules.{ObeysRules, block_size}
use Rattle.machine_bus.proofs.Offsets.{flash_at}
use Rattle.machine_model.specs.declared.state.ProtectionState.{ProtectionState}
use Rattle.machine_model.specs.declared.state.FaultStatus.{FaultStatus}
use Rattle.machine_model.specs.State.{State, by_mpu}
use Rattle.machine_model.specs.Exceptions.{mem_manage, frame_at, is_frame_open, return_on_psp}
use Rattle.machine_model.specs.Shape.{StatusFits}
use Rattle.machine_model.specs.Code.{HoldsHalf, CodeIn}
use Rattle.machine_model.specs.Running.{code_size}
use Rattle.monitor_steps.specs.Core.{Core}
use Rattle.monitor_steps.specs.Effect.{Outcome, effect}
use Rattle.monitor_steps.specs.Code.{code, code_length}
use Rattle.monitor_steps.specs.Ticks.{ticks}
use Rattle.monitor_steps.specs.Runs.{at, MayStart, Shows as PrivilegedShows, Leads as PrivilegedLeads}
use Rattle.monitor_steps.proofs.Runs.{Laws, effect_of_code}
use Rattle.monitor_steps.proofs.Gives.{gives_effect}
use Rattle.monitor_steps.proofs.CodeParts.{flash_has_code, code_has_its_length}
use Rattle.monitor_steps.proofs.Within.{GivesWithin}
use Rattle.monitor_model.specs.declared.tables.Tables.{Tables}
use Rattle.monitor_model.specs.Records.{stack_end}
use Rattle.monitor_model.specs.Layout.{tables_size}
use Rattle.monitor_program.specs.Page.{stub_address, constants, memfault_offset}
use Rattle.monitor_program.specs.CodeSize.{CodeFits}
use Rattle.monitor_program.specs.MemFault.{memfault}
use Rattle.monitor_model.specs.Block.{MonitorBlock}
use Rattle.monitor_model.specs.Invariant.{InvariantHolds}
use Rattle.monitor_model.specs.Regions.{regions_for}
use Rattle.monitor_model.specs.Handlers.{LoadFor, ForStack, at_memfault, IsFault, Leads}
use Rattle.monitor_model.specs.Outcomes.{Outcome as Comes, Halts, StopsAtBus, StopsUnaligned, Resumes}
use Rattle.monitor_model.specs.FaultOutcome.{fault_outcome}
use Rattle.monitor_model.specs.MonitorLaw.{IsMemory, Shows, memfault_steps}
use Rattle.monitor_model.specs.Promises.{OfSoundImages}
use Rattle.monitor_model.specs.BlockWords.{IsBlock, words_end}
use Rattle.monitor_model.proofs.Invariants.{few_callers}
use Rattle.monitor_program.specs.TheCode.{monitor_code}
use Rattle.monitor_program.proofs.Fields.{few_slots}
use Rattle.monitor_laws.specs.StartUp.{IsReady}
use Rattle.monitor_laws.proofs.SoundImages.{sound_images_are_ready}
use Rattle.monitor_laws.proofs.Fetched.{UnitLaws, page_is_fetched}
use Rattle.monitor_laws.proofs.Effects.{ticks_of}
use Rattle.monitor_laws.proofs.Placement.{Installed, ready_image}
use Rattle.monitor_laws.proofs.Off.{core, with_unit}
use Rattle.monitor_laws.proofs.HandlerRule.{HandlerRule, runs_handle}
use Rattle.monitor_handlers.specs.FaultLaw.{FaultLaw}
use Rattle.monitor_handlers.proofs.Mode.{mode_kept, IsGood, good_while_off}
use Rattle.monitor_handlers.proofs.Returned.{LeavesRam, Resuming, Answers, ReturnLaws, concluded}
use Rattle.monitor_handlers.proofs.Entry as entry
use Rattle.monitor_handlers.proofs.Entry.{EntryLaws}
use Rattle.monitor_handlers.proofs.Encodings.{memfault_low}
use Rattle.monitor_handlers.proofs.FaultCode as there
use Rattle.monitor_handlers.proofs.Emulated.{IsDone}
use Rattle.monitor_handlers.proofs.FaultList.{AtFault, HalfThere, Ends, ends, memfault_within}
use Rattle.monitor_handlers.proofs.Blocks.{block_stays}
use Rattle.monitor_laws.proofs.Opened.{FrameIsOpen}

-- the laws of lower crates that it rests on
pub record FaultLaws : Type 0 where
  pub unit : UnitLaws
  pub list : Laws
  pub entry : EntryLaws
  pub returned : ReturnLaws
  pub code_fits : CodeFits

same_memory : (i : Image) (t : Tables) (from : ℕ) (memory ram : List ℕ) → ram ≡ memory → IsMemory i t from memory ram
same_memory i t from memory ram e = record { reads = λ w o off. ap (λ m. read w o m) e; as_long = ap (λ m. length m) e }

module _ (laws : FaultLaws) (i : Image) (t : Tables) (ready : IsReady i t) where
  abbrev installed : Installed
  installed = ready_image i t ready

  rules : ObeysRules i
  rules = ready.placed.rules

  page_room : 4096 ≤ tables_size t
  page_room = let a = ready.area_inside in omega (arith, a)

  code_room : memfault_offset (constants t) + code_length (memfault (constants t)) ≤ 4096
  code_room = there.room i t rules ready.behind_page ready.has_page ready.placed.tables_first laws.code_fits

  code_in : CodeIn i (i.flash_base + memfault_offset (constants t)) (code (memfault (constants t)))
  code_in = there.has_memfault i t rules ready.behind_page ready.has_page ready.placed.tables_first laws.code_fits (few_slots (stub_address t) t)

  module _ (s : State) (b : MonitorBlock) (u : FaultStatus) (half : ℕ) (inv : InvariantHolds i t b s) (alive : s.ending ≡ None) (fault : IsFault i s u) (holds : u.cfsr ≡ 0x82 → HoldsHalf i s.core.pc half) (opened : is_frame_open by_mpu i s ≡ true) where
    abbrev o : ℕ
    o = entry.o laws.entry i t ready.placed s b inv alive opened

    abbrev psp : ℕ
    psp = frame_at s.core.sp

    abbrev msp : ℕ
    msp = t.monitor + block_size

    abbrev memory : List ℕ
    memory = entry.memory laws.entry i t ready.placed s b inv alive opened s.core.pc

    psp_is : frame_at s.core.sp ≡ i.ram_base + o
    psp_is = entry.psp_is laws.entry i t ready.placed s b inv alive opened

    abbrev in_handler : ProtectionState
    in_handler = record s.protection { handler = true }

    abbrev low : ℕ → ℕ
    low n = entry.low laws.entry i t ready.placed s b inv alive opened n

    abbrev c0 : Core
    c0 = core msp psp in_handler u memory (low 0) (low 1) (low 2) (low 3) (low 4) (low 5) (low 6) (low 7)

    abbrev st0 : State
    st0 = at return_on_psp s.queues (i.flash_base + memfault_offset (constants t)) (entry.scratch laws.entry i t ready.placed s b inv alive opened) c0

    entered_is : at_memfault i u s ≡ st0
    entered_is = entry.entered laws.entry i t ready.placed s b inv alive opened mem_manage s.core.pc u (i.flash_base + memfault_offset (constants t)) (there.vector_is i t rules ready.behind_page ready.has_page ready.placed.tables_first laws.code_fits)

    -- ---- protection

    regions_on : (q : ProtectionState) → q.handler ≡ true → q.mpu.control ≡ 5 → q.mpu.regions ≡ regions_for i t b.current b.top → IsGood i q
    regions_on q h on e = record { mode = h; fetched = λ a lo hi. page_is_fetched laws.unit i t ready.placed page_room b.current b.top inv.inv.orderly.current_in a lo hi q on e }

    abbrev r : ProtectionState
    r = with_unit in_handler (record in_handler.mpu { control = 5 })

    good_entry : IsGood i in_handler
    good_entry = regions_on in_handler refl inv.inv.control inv.inv.regions

    good_r : IsGood i r
    good_r = regions_on r refl refl inv.inv.regions

    same_unit : r.mpu ≡ s.protection.mpu
    same_unit = ap (λ c. record s.protection.mpu { control = c }) (sym inv.inv.control)

    -- ---- the status

    fits_by : IsFault i s u → StatusFits u
    fits_by (inl e) = subst (λ (v : FaultStatus). StatusFits v) (sym e) (record { shcsr_word = inv.fits.status.shcsr_word; cfsr_word = omega arith; mmfar_word = inv.fits.status.mmfar_word })
    fits_by (inr e) = subst (λ (v : FaultStatus). StatusFits v) (sym e.4) (record { shcsr_word = inv.fits.status.shcsr_word; cfsr_word = omega arith; mmfar_word = e.2 })

    enabled_by : IsFault i s u → u.shcsr ≡ s.status.shcsr
    enabled_by (inl e) = ap (λ (v : FaultStatus). v.shcsr) e
    enabled_by (inr e) = ap (λ (v : FaultStatus). v.shcsr) e.4

    half_there : HoldsHalf i s.core.pc half → HalfThere i o memory half
    half_there h =
        let f = flash_at i s.core.pc h.offset h.is_in_flash in
        let at = f.0 in
        let inside = f.1 in
        let even = inv.fits.core.pc_even in
        let base = rules.flash_aligned in
        let words = rules.flash_words in
        record {
          offset = h.offset;
          at = entry.return_word laws.entry i t ready.placed s b inv alive opened s.core.pc inv.fits.core.pc_word ∙ sym at;
          even = omega (arith, at, even, base);
          room = omega (arith, at, inside, even, base, words);
          is_half = h.is_half;
        }

    cause_by : IsFault i s u → (u.cfsr ≡ 1) ⊎ ((u.cfsr ≡ 0x82) × HalfThere i o memory half)
    cause_by (inl e) = inl (ap (λ (v : FaultStatus). v.cfsr) e)
    cause_by (inr e) = let c : u.cfsr ≡ 0x82 = ap (λ (v : FaultStatus). v.cfsr) e.4 in inr (c, half_there (holds c))

    -- ---- the list

    at_fault : AtFault i t s b o memory
    at_fault = record {
      before = inv.inv.is_block;
      is_block = entry.memory_block laws.entry i t ready.placed s b inv alive opened s.core.pc;
      orderly = inv.inv.orderly;
      aligned = entry.o_aligned laws.entry i t ready.placed s b inv alive opened;
    }

    small : o < 2 ^ 31
    small = let a = entry.o_room laws.entry i t ready.placed s b inv alive opened in let z = rules.ram_most in omega (arith, a, z)

    abbrev outcome : Comes
    outcome = fault_outcome i t b psp memory u.cfsr half

    abbrev Ended : Comes → Outcome → Type 0
    Ended y x = Ends installed s (IsGood i) (good_while_off i rules) msp psp u r good_r b o memory psp_is at_fault y x

    given : GivesWithin by_mpu i (IsGood i) (HandlerRule i t s) 1730 (memfault (constants t)) [] c0 (Ended outcome)
    given = memfault_within installed s (IsGood i) (good_while_off i rules) msp psp u r good_r b o memory psp_is at_fault half refl refl refl small (cause_by fault)

    -- ---- its code

    may_start : MayStart by_mpu i (IsGood i) (HandlerRule i t s) return_on_psp s.queues (memfault (constants t)) (i.flash_base + memfault_offset (constants t)) (entry.scratch laws.entry i t ready.placed s b inv alive opened) c0
    may_start = record {
      registers_are_low = memfault_low (stub_address t) t;
      below = let h = rules.flash_highest in let m = code_room in omega (arith, h, m);
      code_stands = flash_has_code by_mpu i (IsGood i) (i.flash_base + memfault_offset (constants t)) (code (memfault (constants t))) code_in (λ q g a lo hi. g.fetched a (omega (arith, lo)) (inside a hi));
      good = good_entry;
      fits = entry.entered_fits laws.entry i t ready.placed s b inv alive opened s.core.pc u (i.flash_base + memfault_offset (constants t)) (fits_by fault) (let h = rules.flash_highest in let m = code_room in omega (arith, h, m)) (there.offset_even i t rules ready.behind_page ready.has_page ready.placed.tables_first laws.code_fits);
      safe = (gives_effect given.gives).1;
    }
      where
        inside : (a : ℕ) → a < i.flash_base + memfault_offset (constants t) + code_size (code (memfault (constants t))) → a < i.flash_base + 4096
        inside a h = let l = code_has_its_length (memfault (constants t)) in let m = code_room in omega (arith, h, l, m)

    abbrev effect0 : Outcome
    effect0 = effect by_mpu i (memfault (constants t)) c0

    abbrev behind : ℕ
    behind = i.flash_base + memfault_offset (constants t) + code_length (memfault (constants t))

    led : PrivilegedLeads by_mpu i (IsGood i) (HandlerRule i t s) (ticks by_mpu i (memfault (constants t)) c0) st0 (PrivilegedShows by_mpu i (IsGood i) return_on_psp s.queues effect0 behind)
    led = effect_of_code by_mpu i (IsGood i) (HandlerRule i t s) laws.list return_on_psp s.queues (memfault (constants t)) (i.flash_base + memfault_offset (constants t)) (entry.scratch laws.entry i t ready.placed s b inv alive opened) c0 rules may_start

    handled : Leads i t s (ticks by_mpu i (memfault (constants t)) c0) st0 (PrivilegedShows by_mpu i (IsGood i) return_on_psp s.queues effect0 behind)
    handled = runs_handle i t s (IsGood i) (λ q g. g.mode) (ticks by_mpu i (memfault (constants t)) c0) st0 (PrivilegedShows by_mpu i (IsGood i) return_on_psp s.queues effect0 behind) led

    -- ---- its end

    left_as : (ram : List ℕ) → ram ≡ memory → LeavesRam i t b b memory ram
    left_as ram e = record {
      is_block = subst (λ (m : List ℕ). IsBlock i t m b) (sym e) at_fault.is_block;
      is_memory = same_memory i t 0 memory ram e;
      words_stay = λ z. same_memory i t words_end memory ram e;
    }

    resuming : (d : Core) (after : List ℕ) → IsDone msp psp r u after d → ((x : ℕ) → x + 4 ≤ 544 → read 4 (t.monitor - i.ram_base + x) after ≡ read 4 (t.monitor - i.ram_base + x) memory) → FrameIsOpen i t o memory → Resuming i t s b b psp after d
    resuming d after done stays f = record {
      msp = done.sp;
      psp_is = done.other_sp;
      unprivileged = ap (λ (q : ProtectionState). q.unprivileged) done.protection ∙ inv.inv.unprivileged;
      control = ap (λ (q : ProtectionState). q.mpu.control) done.protection;
      regions = ap (λ (q : ProtectionState). q.mpu.regions) done.protection ∙ inv.inv.regions;
      unit_stays = λ e. ap (λ (q : ProtectionState). q.mpu) done.protection ∙ same_unit;
      no_fault = ap (λ (v : FaultStatus). v.cfsr) done.status;
      enabled = ap (λ (v : FaultStatus). v.shcsr) done.status ∙ enabled_by fault;
      ram = record {
        is_block = subst (λ (m : List ℕ). IsBlock i t m b) (sym done.ram) (block_stays i t memory after b (few_callers inv.inv.orderly) inv.inv.orderly.few stays at_fault.is_block);
        is_memory = same_memory i t 0 after d.ram done.ram;
        words_stay = λ z. same_memory i t words_end after d.ram done.ram;
      };
      offset = o;
      at = psp_is;
      frame = record {
        aligned = at_fault.aligned;
        low = f.low;
        high = let x = f.high in let e = at_fault.is_block.top_is in omega (arith, x, e);
        ends = subst (λ (n : ℕ). n ≤ stack_end t) at_fault.is_block.top_is (ends installed s (IsGood i) (good_while_off i rules) msp psp u r good_r b o memory psp_is at_fault);
      };
      may_load = may_load;
      current_in = inv.inv.orderly.current_in;
      saved = length b.saved;
      is_top = inv.inv.orderly.is_top;
    }
      where
        may_load : (a : ℕ) → psp ≤ a → a < psp + 32 → LoadFor i t s a
        may_load a lo hi =
            let x = f.low in let y = f.high in let e = at_fault.is_block.top_is in let g = inv.inv.is_block.top_is in let z = psp_is in
            ForStack (omega (arith, lo, x, z), omega (arith, hi, y, e, g, z))

    answered : (y : Comes) (x : Outcome) → Ended y x → Answers i t s b memory y x
    answered (Halts n) x e = (e.0, e.1, left_as e.0.ram e.2)
    answered StopsAtBus x e = absurd e
    answered StopsUnaligned x e = (e.0, e.1, left_as e.0.ram e.2)
    answered (Resumes c q after) x e = (
      e.0,
      e.1,
      subst (λ (c : MonitorBlock). Resuming i t s b c q after e.0) (sym e.3) (subst (λ (q : ℕ). Resuming i t s b b q after e.0) (sym e.4) (resuming e.0 after e.2 e.5 e.6)),
    )

    ended_there : Leads i t s (ticks by_mpu i (memfault (constants t)) c0 + 1) st0 (Shows i t outcome s b memory)
    ended_there =
        concluded laws.returned i t ready.placed s b s.queues refl (IsGood i) memory st0 behind (ticks by_mpu i (memfault (constants t)) c0) outcome effect0
        (answered outcome effect0 (gives_effect given.gives).0) (mode_kept true by_mpu i (memfault (constants t)) c0 refl) handled

    few_ticks : ticks by_mpu i (memfault (constants t)) c0 ≤ 1730
    few_ticks = ticks_of i (IsGood i) (HandlerRule i t s) 1730 (memfault (constants t)) c0 (Ended outcome) given

    in_time : Leads i t s memfault_steps st0 (Shows i t outcome s b memory)
    in_time = record {
      count = ended_there.count;
      within = let a = ended_there.within in let f = few_ticks in omega (arith, a, f);
      each = ended_there.each;
      holds = ended_there.holds;
    }

    pub fault_is_handled : Leads i t s memfault_steps (at_memfault i u s) (Shows i t (fault_outcome i t b psp (at_memfault i u s).ram u.cfsr half) s b (at_memfault i u s).ram)
    fault_is_handled = subst (λ (x : State). Leads i t s memfault_steps x (Shows i t (fault_outcome i t b (frame_at s.core.sp) x.ram u.cfsr half) s b x.ram)) (sym entered_is) in_time

pub faults_keep_the_law : FaultLaws → OfSoundImages monitor_code FaultLaw
faults_keep_the_law laws i t rules sound s b u half inv alive fault holds opened = fault_is_handled laws i t (sound_images_are_ready i t rules sound) s b u half inv alive fault holds opened
