-- Calls that end the machine for want of stack.
use Rattle.std.proofs.Common.{◌≡◌, ℕ, suc, ◌+◌, ◌-◌, ◌*◌, ◌/◌, ◌≤◌, true, List, length, get_or, Some, refl, sym, ap, ◌∙◌, subst, arith}
use Rattle.base_words.specs.declared.conditions.Flags.{Flags}
use Rattle.base_words.specs.Runs.{run}
use Rattle.machine_thumb.specs.Table.{svc}
use Rattle.machine_protection.specs.declared.region.Access.TheVariants.{Fetch}
use Rattle.machine_devices.specs.declared.image.Image.{Image}
use Rattle.machine_bus.specs.Locations.{InFlash, location}
use Rattle.machine_model.specs.declared.state.End.TheVariants.{Halt}
use Rattle.machine_model.specs.State.{State, Turn, by_mpu}
use Rattle.machine_model.specs.Code.{HoldsHalf}
use Rattle.machine_model.specs.Exceptions.{frame_at}
use Rattle.machine_model.specs.Step.{step}
use Rattle.machine_model.specs.RunningCode.{Context, works}
use Rattle.monitor_model.specs.declared.tables.Tables.{Tables}
use Rattle.monitor_model.specs.Records.{site_at, targets_of, last_with_entry, rounded, eighth}
use Rattle.monitor_model.specs.Placed.{Placed}
use Rattle.monitor_model.specs.Block.{MonitorBlock}
use Rattle.monitor_model.specs.Handlers.{at_svc, Leads}
use Rattle.monitor_model.specs.Invariant.{Invariant}
use Rattle.monitor_model.specs.MonitorCode.{MonitorCode}
use Rattle.monitor_model.specs.MonitorLaw.{Shows, MonitorLaw, svc_steps}
use Rattle.monitor_model.specs.Outcomes.{Outcome, Halts, r12_place, return_place}
use Rattle.monitor_model.specs.SvcOutcome.{word, svc_outcome}
use Rattle.monitor_model.specs.Setting.{Setting, setting_of}
use Rattle.monitor_model.specs.Threads.{call_steps, lend_steps, AtInstr}
use Rattle.monitor_sound.specs.Accesses.{StubStands}
use Rattle.monitor_sound.specs.HaltingCalls.{HaltsBy, PlacedCallsRunShort}
use Rattle.monitor_sound.proofs.ThreadLaws.{ThreadLaws}
use Rattle.monitor_sound.proofs.Permits.{fetches}
use Rattle.monitor_sound.proofs.Outcomes.{enter_refused, lend_refused}
use Rattle.monitor_sound.proofs.Room.{open_frame, is_svc, svc_turn}
use Rattle.monitor_sound.proofs.Places.{ram_low}
use Rattle.monitor_sound.proofs.Resumed.{quiet_there}
use Rattle.monitor_sound.proofs.CallRules.{at, memory, held, room, words, up, lowest, highest, no_pad}
use Rattle.monitor_sound.proofs.Enter.{target_of, same_offset}
use Rattle.monitor_sound.proofs.Leave.{first_step}

module _ (laws : ThreadLaws) (code : MonitorCode) (i : Image) (t : Tables) (p : Placed i t) (law : MonitorLaw i t (code.stub t)) (stands : StubStands i t (code.stub t)) where
  abbrev g : Setting
  g = setting_of code i t

  module _ (m : MonitorBlock) (x : Context) (low : List ℕ) (o lr pc : ℕ) (f : Flags) (ram : List ℕ) (queues : List (List ℕ)) (n : ℕ) (z : AtInstr g (Invariant i t) m x low o lr pc f ram queues (svc n)) where
    may : by_mpu x.protection Fetch pc ≡ true
    may = fetches laws.unit i t p m x ram z.invariant pc z.owned

    abbrev q : ℕ
    q = frame_at (i.ram_base + o)

    abbrev mem : List ℕ
    mem = memory laws code i t p law m x low o lr pc f ram queues n z.invariant z.room z.fits z.lies may

    halts : (number bound : ℕ) → suc (svc_steps n) ≤ bound → svc_outcome i t (code.stub t) m q mem n ≡ Halts number → HaltsBy g number bound (works x low (i.ram_base + o) lr pc f ram queues)
    halts number bound le out =
        let s : State = at laws code i t p law m x low o lr pc f ram queues n z.invariant z.room z.fits z.lies may in
        let h = held laws code i t p law m x low o lr pc f ram queues n z.invariant z.room z.fits z.lies may in
        let rm = room laws code i t p law m x low o lr pc f ram queues n z.invariant z.room z.fits z.lies may in
        let is = is_svc laws i t p m s h rm refl n z.lies in
        let a : Leads i t s (svc_steps n) (at_svc i s) (Shows i t (svc_outcome i t (code.stub t) m q mem n) s m mem) = law.svc s m n h refl is.0 is.1 (open_frame laws i t p m s h rm) in
        let b : Leads i t s (svc_steps n) (at_svc i s) (Shows i t (Halts number) s m mem) = subst (λ (y : Outcome). Leads i t s (svc_steps n) (at_svc i s) (Shows i t y s m mem)) out a in
        let turned = svc_turn laws i t p m s h rm refl n z.lies may in
        let few = b.within in
        let w = first_step laws code i t p law stands s (at_svc i s) (Halt number) b.count (ap (λ (y : Turn). y.to) turned) (ap (λ (y : Turn). y.event) turned) (λ k lt. (b.each k lt).quiet) b.holds.ended.ending in
        record { count = suc b.count; least = omega arith; within = omega (arith, few, le); last = run (step i) (suc b.count) s; over = w.1; runs = quiet_there i (suc b.count) s w.0 }

  pub no_loan : (m : MonitorBlock) (x : Context) (low : List ℕ) (o lr pc : ℕ) (f : Flags) (ram : List ℕ) (queues : List (List ℕ)) →
      AtInstr g (Invariant i t) m x low o lr pc f ram queues (svc 2) → length m.loans ≡ 32 → HaltsBy g 6 lend_steps (works x low (i.ram_base + o) lr pc f ram queues)
  no_loan m x low o lr pc f ram queues z full =
      let can = may m x low o lr pc f ram queues 2 z in
      halts m x low o lr pc f ram queues 2 z 6 lend_steps (omega arith)
      (lend_refused i t (code.stub t) m (frame_at (i.ram_base + o)) (mem m x low o lr pc f ram queues 2 z)
      (lowest laws code i t p law m x low o lr pc f ram queues 2 z.invariant z.room z.fits z.lies can) (highest laws code i t p law m x low o lr pc f ram queues 2 z.invariant z.room z.fits z.lies can)
      (no_pad laws code i t p law m x low o lr pc f ram queues 2 z.invariant z.room z.fits z.lies can) full)

  pub no_eighth : (m : MonitorBlock) (x : Context) (low : List ℕ) (o lr pc : ℕ) (f : Flags) (ram : List ℕ) (queues : List (List ℕ)) (site entry target : ℕ) →
      AtInstr g (Invariant i t) m x low o lr pc f ram queues (svc 0) → HoldsHalf i (pc + 2) site → g.has_target site (pc + 2) entry target ≡ true →
      get_or x.high 4 0 ≡ entry + 1 → (o - 32 - (t.stack.base - i.ram_base)) / eighth t ≡ 0 → HaltsBy g 5 call_steps (works x low (i.ram_base + o) lr pc f ram queues)
  no_eighth m x low o lr pc f ram queues site entry target z half hit r12 none =
      let can = may m x low o lr pc f ram queues 0 z in
      let r : ℕ = frame_at (i.ram_base + o) in
      let after : List ℕ = mem m x low o lr pc f ram queues 0 z in
      let ws = words laws code i t p law m x low o lr pc f ram queues 0 z.invariant z.room z.fits z.lies can in
      let lo = lowest laws code i t p law m x low o lr pc f ram queues 0 z.invariant z.room z.fits z.lies can in
      let hi = highest laws code i t p law m x low o lr pc f ram queues 0 z.invariant z.room z.fits z.lies can in
      let e32 = up laws code i t p law m x low o lr pc f ram queues 0 z.invariant z.room z.fits z.lies can in
      let found = target_of t site (pc + 2) entry target hit in
      let d = same_offset i.ram_base t.stack.base r o (ram_low i t p) lo e32 in
      let zero_times : t.stack.base + 0 * eighth t ≡ t.stack.base = omega arith in
      let lowest_top : rounded t r ≡ t.stack.base = ap (λ (k : ℕ). t.stack.base + k / eighth t * eighth t) d ∙ ap (λ (k : ℕ). t.stack.base + k * eighth t) none ∙ zero_times in
      let here : location i (word i t (code.stub t) m r after return_place) ≡ InFlash half.offset = ap (λ (a : ℕ). location i a) ws.return_address ∙ half.is_in_flash in
      let listed : last_with_entry (word i t (code.stub t) m r after r12_place) (targets_of t (site_at t site)) ≡ Some found.target =
      ap (λ (a : ℕ). last_with_entry a (targets_of t (site_at t site))) (ws.r12 ∙ r12) ∙ found.found in
      halts m x low o lr pc f ram queues 0 z 5 call_steps (omega arith)
      (enter_refused i t (code.stub t) m r after lo hi (no_pad laws code i t p law m x low o lr pc f ram queues 0 z.invariant z.room z.fits z.lies can)
      found.target site half.offset here half.is_half found.known (found.returns ∙ sym ws.return_address) listed lowest_top)

pub calls_run_short : ThreadLaws → PlacedCallsRunShort
calls_run_short laws code i t p stands law = record {
  no_loan = λ m x low o lr pc f ram queues z full. no_loan laws code i t p law stands m x low o lr pc f ram queues z full;
  no_eighth = λ m x low o lr pc f ram queues site entry target z half hit r12 none. no_eighth laws code i t p law stands m x low o lr pc f ram queues site entry target z half hit r12 none;
}
