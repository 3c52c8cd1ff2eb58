-- Exception entry and return as whole steps.
use Rattle.std.proofs.Common.{◌≡◌, ℕ, ◌+◌, true, false, List, [], ◌∷◌, get_or, Option, None, refl, ap, ◌∙◌, length}
use Rattle.std.specs.Prelude.{bit_or}
use Rattle.base_words.specs.Bytes.{write_all}
use Rattle.machine_thumb.specs.declared.table.Instr.{Instr}
use Rattle.machine_protection.specs.declared.region.Access.TheVariants.{Read, Write, Fetch}
use Rattle.machine_devices.specs.declared.image.Image.{Image}
use Rattle.machine_model.specs.declared.state.CoreRegisters.{CoreRegisters}
use Rattle.machine_model.specs.declared.state.ProtectionState.{ProtectionState}
use Rattle.machine_model.specs.declared.state.FaultStatus.{FaultStatus}
use Rattle.machine_model.specs.State.{Turn, PermissionTest}
use Rattle.machine_model.specs.Act.{Loads, Stores, LoadsMany, StoresMany, Exchanges, Calls}
use Rattle.machine_model.specs.Instructions.{act}
use Rattle.machine_model.specs.declared.answers.Verdict.TheVariants.{Refused}
use Rattle.machine_model.specs.declared.answers.Verdicts.TheVariants.{RefusedAt}
use Rattle.machine_model.specs.Tests.{verdict, verdicts, all_open}
use Rattle.machine_model.specs.Exceptions.{words_from, frame_at, frame_of, entry_core, entered, is_frame_open, call, fault_by, is_fault_enabled, vector_offset, supervisor_call, mem_manage, return_on_psp, return_on_msp, is_thread, unstacked}
use Rattle.machine_model.specs.Perform.{perform, after_load, after_store, after_loads, after_stores}
use Rattle.machine_model.specs.declared.answers.Fetched.TheVariants.{NotAllowed}
use Rattle.machine_model.specs.Step.{turn, fetch, fetched}
use Rattle.machine_model.specs.Code.{size, Stands, live, StepsQuietly}
use Rattle.machine_model.specs.Stack.{Words, words_at, May, ExceptionFrame}
use Rattle.machine_model.proofs.Exec.{steps_from}
use Rattle.machine_model.proofs.Acts.{turns}
use Rattle.machine_model.proofs.Stack.{open_in_ram, pushed_are}
use Rattle.machine_model.proofs.StackWords.{stacked_are}

frame_open : (j : PermissionTest) (i : Image) (p : ProtectionState) (sp o : ℕ) → ExceptionFrame j i p sp o → all_open j i p Write (frame_at sp) 8 ≡ true
frame_open j i p sp o r = open_in_ram j i p Write 8 (frame_at sp) o r.words r.writes

module _ (j : PermissionTest) (i : Image) (c : CoreRegisters) (p : ProtectionState) (t : FaultStatus) (ram : List ℕ) (queues : List (List ℕ)) where
  -- an entry from a thread
  abbrev entry : (o n ret : ℕ) → FaultStatus → Turn
  entry o n ret u = record {
    to = live (entry_core i n c) (record p { handler = true }) u (write_all 4 o (frame_of c ret) ram) queues;
    stores = words_from (frame_at c.sp) 8;
    loads = record { width = 4; address = i.flash_base + vector_offset n } ∷ [];
    event = None;
  }

  enters : (o n ret : ℕ) (u : FaultStatus) → ExceptionFrame j i p c.sp o → entered (is_frame_open j i (live c p t ram queues)) i n ret u (live c p t ram queues) ≡ entry o n ret u
  enters o n ret u r =
      let v = frame_open j i p c.sp o r in
      let g = pushed_are i (frame_of c ret) (frame_at c.sp) o ram r.words in
      rw (v, g)

  -- SVC
  pub calls : (x : Instr) (o next : ℕ) → act x (c.pc + size x) c ≡ Calls next → p.handler ≡ false → ExceptionFrame j i p c.sp o → Stands j i p c.pc x →
      StepsQuietly j i (live c p t ram queues) (live (entry_core i supervisor_call c) (record p { handler = true }) t (write_all 4 o (frame_of c next) ram) queues)
  unfolding perform
  calls x o next is h r st =
      let e = enters o supervisor_call next t r in
      steps_from {u = entry o supervisor_call next t} (turns j i c p t ram queues x (Calls next) st is ∙ ap (λ b. call b j i next (live c p t ram queues)) h ∙ e) refl refl

  faults : (u : FaultStatus) → p.handler ≡ false → is_fault_enabled t ≡ true →
      fault_by p.handler (is_fault_enabled t) j i u (live c p t ram queues) ≡ entered (is_frame_open j i (live c p t ram queues)) i mem_manage c.pc u (live c p t ram queues)
  faults u h en = ap (λ b. fault_by b (is_fault_enabled t) j i u (live c p t ram queues)) h ∙ ap (λ b. fault_by false b j i u (live c p t ram queues)) en

  -- a store, and a load, that protection refuses
  pub faults_store : (x : Instr) (w a v o : ℕ) (d : CoreRegisters) → act x (c.pc + size x) c ≡ Stores w a v d → verdict j p Write w a ≡ Refused →
      p.handler ≡ false → is_fault_enabled t ≡ true → ExceptionFrame j i p c.sp o → Stands j i p c.pc x →
      StepsQuietly j i (live c p t ram queues)
      (live (entry_core i mem_manage c) (record p { handler = true }) (record t { cfsr = bit_or t.cfsr 0x82; mmfar = a }) (write_all 4 o (frame_of c c.pc) ram) queues)
  unfolding perform
  faults_store x w a v o d is denied h en r st =
      let u : FaultStatus = record t { cfsr = bit_or t.cfsr 0x82; mmfar = a } in
      let e = enters o mem_manage c.pc u r in
      steps_from {u = entry o mem_manage c.pc u} (turns j i c p t ram queues x (Stores w a v d) st is ∙ ap (λ y. after_store y j i w a v (live c p t ram queues) d) denied ∙ faults u h en ∙ e) refl refl

  pub faults_load : (x : Instr) (w a o : ℕ) (go : ℕ → CoreRegisters) → act x (c.pc + size x) c ≡ Loads w a go → verdict j p Read w a ≡ Refused →
      p.handler ≡ false → is_fault_enabled t ≡ true → ExceptionFrame j i p c.sp o → Stands j i p c.pc x →
      StepsQuietly j i (live c p t ram queues)
      (live (entry_core i mem_manage c) (record p { handler = true }) (record t { cfsr = bit_or t.cfsr 0x82; mmfar = a }) (write_all 4 o (frame_of c c.pc) ram) queues)
  unfolding perform
  faults_load x w a o go is denied h en r st =
      let u : FaultStatus = record t { cfsr = bit_or t.cfsr 0x82; mmfar = a } in
      let e = enters o mem_manage c.pc u r in
      steps_from {u = entry o mem_manage c.pc u} (turns j i c p t ram queues x (Loads w a go) st is ∙ ap (λ y. after_load y j i w a (live c p t ram queues) go) denied ∙ faults u h en ∙ e) refl refl

  -- several words, of which protection refuses one
  pub faults_stores : (x : Instr) (a y o : ℕ) (vs : List ℕ) (d : CoreRegisters) → act x (c.pc + size x) c ≡ StoresMany a vs d → verdicts j i p Write a (length vs) ≡ RefusedAt y →
      p.handler ≡ false → is_fault_enabled t ≡ true → ExceptionFrame j i p c.sp o → Stands j i p c.pc x →
      StepsQuietly j i (live c p t ram queues)
      (live (entry_core i mem_manage c) (record p { handler = true }) (record t { cfsr = bit_or t.cfsr 0x82; mmfar = y }) (write_all 4 o (frame_of c c.pc) ram) queues)
  unfolding perform
  faults_stores x a y o vs d is denied h en r st =
      let u : FaultStatus = record t { cfsr = bit_or t.cfsr 0x82; mmfar = y } in
      let e = enters o mem_manage c.pc u r in
      steps_from {u = entry o mem_manage c.pc u} (turns j i c p t ram queues x (StoresMany a vs d) st is ∙ ap (λ z. after_stores z j i a vs (live c p t ram queues) d) denied ∙ faults u h en ∙ e) refl refl

  pub faults_loads : (x : Instr) (a n y o : ℕ) (go : List ℕ → Option CoreRegisters) → act x (c.pc + size x) c ≡ LoadsMany a n go → verdicts j i p Read a n ≡ RefusedAt y →
      p.handler ≡ false → is_fault_enabled t ≡ true → ExceptionFrame j i p c.sp o → Stands j i p c.pc x →
      StepsQuietly j i (live c p t ram queues)
      (live (entry_core i mem_manage c) (record p { handler = true }) (record t { cfsr = bit_or t.cfsr 0x82; mmfar = y }) (write_all 4 o (frame_of c c.pc) ram) queues)
  unfolding perform
  faults_loads x a n y o go is denied h en r st =
      let u : FaultStatus = record t { cfsr = bit_or t.cfsr 0x82; mmfar = y } in
      let e = enters o mem_manage c.pc u r in
      steps_from {u = entry o mem_manage c.pc u} (turns j i c p t ram queues x (LoadsMany a n go) st is ∙ ap (λ z. after_loads z j i a n (live c p t ram queues) go) denied ∙ faults u h en ∙ e) refl refl

  -- a fetch that is refused
  pub faults_fetch : (o : ℕ) → j p Fetch c.pc ≡ false → p.handler ≡ false → is_fault_enabled t ≡ true → ExceptionFrame j i p c.sp o →
      StepsQuietly j i (live c p t ram queues)
      (live (entry_core i mem_manage c) (record p { handler = true }) (record t { cfsr = bit_or t.cfsr 1 }) (write_all 4 o (frame_of c c.pc) ram) queues)
  unfolding turn fetch
  faults_fetch o denied h en r =
      let u : FaultStatus = record t { cfsr = bit_or t.cfsr 1 } in
      let e = enters o mem_manage c.pc u r in
      let g : fetch j i (live c p t ram queues) ≡ NotAllowed = rw denied refl in
      steps_from {u = entry o mem_manage c.pc u} (ap (λ z. fetched z j i (live c p t ram queues)) g ∙ faults u h en ∙ e) refl refl

  -- BX lr back to a thread on PSP, and on MSP
  pub returns_to_psp : (x : Instr) (o : ℕ) → act x (c.pc + size x) c ≡ Exchanges return_on_psp → p.handler ≡ true → Words i c.other_sp o 8 → May j (record p { handler = false }) Read c.other_sp 8 → is_thread (get_or (words_at 8 o ram) 7 0) ≡ true →
      Stands j i p c.pc x →
      StepsQuietly j i (live c p t ram queues) (live (unstacked true c c.other_sp (words_at 8 o ram)) (record p { handler = false }) t ram queues)
  unfolding perform
  returns_to_psp x o is h w m thread st =
      let a = open_in_ram j i (record p { handler = false }) Read 8 c.other_sp o w m in
      let s = stacked_are i 8 c.other_sp o ram w in
      steps_from (turns j i c p t ram queues x (Exchanges return_on_psp) st is) (rw (h, a, s, thread) refl) (rw (h, a, s, thread) refl)

  pub returns_to_msp : (x : Instr) (o : ℕ) → act x (c.pc + size x) c ≡ Exchanges return_on_msp → p.handler ≡ true → Words i c.sp o 8 → May j (record p { handler = false }) Read c.sp 8 → is_thread (get_or (words_at 8 o ram) 7 0) ≡ true →
      Stands j i p c.pc x →
      StepsQuietly j i (live c p t ram queues) (live (unstacked false c c.sp (words_at 8 o ram)) (record p { handler = false }) t ram queues)
  unfolding perform
  returns_to_msp x o is h w m thread st =
      let a = open_in_ram j i (record p { handler = false }) Read 8 c.sp o w m in
      let s = stacked_are i 8 c.sp o ram w in
      steps_from (turns j i c p t ram queues x (Exchanges return_on_msp) st is) (rw (h, a, s, thread) refl) (rw (h, a, s, thread) refl)
