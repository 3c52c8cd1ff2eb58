-- No handler's return stops because its frame may not be read.
use Rattle.std.proofs.Common.{◌≡◌, ◌≢◌, ℕ, ◌<◌, inl, inr, Bool, true, false, List, None, nat_lt, arith}
use Rattle.base_words.specs.Runs.{run}
use Rattle.machine_devices.specs.declared.image.Image.{Image}
use Rattle.machine_model.specs.declared.state.FaultStatus.{FaultStatus}
use Rattle.machine_model.specs.declared.state.End.TheVariants.{Halt, Stop}
use Rattle.machine_model.specs.declared.state.StopReason.TheVariants.{Bus, Unaligned, Usage, Unstacking}
use Rattle.machine_model.specs.State.{State, by_mpu}
use Rattle.machine_model.specs.Step.{step}
use Rattle.machine_model.specs.Exceptions.{is_frame_open, is_thread, frame_at}
use Rattle.monitor_model.specs.declared.tables.Tables.{Tables}
use Rattle.monitor_model.specs.Block.{MonitorBlock}
use Rattle.monitor_model.specs.Confined.{IsSvc}
use Rattle.monitor_model.specs.Invariant.{InvariantHolds}
use Rattle.monitor_model.specs.Handlers.{at_svc, at_memfault, IsFault, Leads}
use Rattle.monitor_model.specs.Outcomes.{Outcome, Halts, StopsAtBus, StopsUnaligned, Resumes, stacked, status_place}
use Rattle.monitor_model.specs.SvcOutcome.{svc_outcome}
use Rattle.monitor_model.specs.FaultOutcome.{fault_outcome}
use Rattle.monitor_model.specs.MonitorLaw.{Shows, ReturnsBy, MonitorLaw}
use Rattle.monitor_model.specs.AccessLaw.{IsBehindHandler}
use Rattle.monitor_model.specs.Threads.{access_steps}
use Rattle.monitor_confined.proofs.FaultLaw.{half_of}
use Rattle.monitor_confined.proofs.SvcLaw.{few_steps}

bus_stop : (a b : ℕ) → Stop Bus a ≢ Stop Unstacking b
bus_stop a b e = cc

usage_stop : (a b : ℕ) → Stop Usage a ≢ Stop Unstacking b
usage_stop a b e = cc

unaligned_stop : (a b : ℕ) → Stop Unaligned a ≢ Stop Unstacking b
unaligned_stop a b e = cc

halt_stop : (n b : ℕ) → Halt n ≢ Stop Unstacking b
halt_stop n b e = cc

module _ (i : Image) (t : Tables) where
  by_status : (b : Bool) (s u : State) (m n : MonitorBlock) (psp : ℕ) (memory : List ℕ) → ReturnsBy b i t s u m n psp memory → IsBehindHandler u
  by_status true s u m n psp memory g = inl (g.thread, g.ending)
  by_status false s u m n psp memory g = inr (Stop Usage g.0, g.1.ended.ending, usage_stop g.0)

  by_outcome : (o : Outcome) (s u : State) (m : MonitorBlock) (memory : List ℕ) → Shows i t o s m memory u → IsBehindHandler u
  by_outcome (Halts k) s u m memory x = inr (Halt k, x.ended.ending, halt_stop k)
  by_outcome StopsAtBus s u m memory x = inr (Stop Bus x.0, x.1.ended.ending, bus_stop x.0)
  by_outcome StopsUnaligned s u m memory x = inr (Stop Unaligned x.0, x.1.ended.ending, unaligned_stop x.0)
  by_outcome (Resumes n psp after) s u m memory x = by_status (is_thread (stacked i psp after status_place)) s u m n psp after x

  module _ (stub : ℕ) (law : MonitorLaw i t stub) (m : MonitorBlock) (s : State) (h : InvariantHolds i t m s) (live : s.ending ≡ None) (frame : is_frame_open by_mpu i s ≡ true) where
    pub svc_returns : (n : ℕ) → n < 256 → IsSvc i t n s → Leads i t s access_steps (at_svc i s) IsBehindHandler
    svc_returns n few is =
        let from : State = at_svc i s in
        let l = law.svc s m n h live few is frame in
        record {
          count = l.count;
          within = few_steps (nat_lt n 2) l.count l.within;
          each = l.each;
          holds = by_outcome (svc_outcome i t stub m (frame_at s.core.sp) from.ram n) s (run (step i) l.count from) m from.ram l.holds;
        }

    pub memfault_returns : (u : FaultStatus) → IsFault i s u → Leads i t s access_steps (at_memfault i u s) IsBehindHandler
    memfault_returns u f =
        let from : State = at_memfault i u s in
        let g = half_of i t s u f in
        let l = law.memfault s m u g.0 h live f g.1 frame in
        let le = l.within in
        record {
          count = l.count;
          within = omega (arith, le);
          each = l.each;
          holds = by_outcome (fault_outcome i t m (frame_at s.core.sp) from.ram u.cfsr g.0) s (run (step i) l.count from) m from.ram l.holds;
        }
