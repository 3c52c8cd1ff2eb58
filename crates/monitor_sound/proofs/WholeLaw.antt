-- The access law, from its parts.
use Rattle.std.proofs.Common.{◌≡◌, ℕ, ◌⊎◌, inl, inr, true, ap, arith}
use Rattle.machine_protection.specs.declared.region.Access.TheVariants.{Fetch}
use Rattle.machine_devices.specs.declared.image.Image.{Image}
use Rattle.machine_model.specs.State.{State, Turn, by_mpu}
use Rattle.monitor_model.specs.declared.tables.Tables.{Tables}
use Rattle.monitor_model.specs.Placed.{Placed}
use Rattle.monitor_model.specs.Block.{MonitorBlock}
use Rattle.monitor_model.specs.Invariant.{InvariantHolds, context_of}
use Rattle.monitor_model.specs.Setting.{has_code}
use Rattle.monitor_sound.specs.Accesses.{StubStands, PlacedAccessesHaveTheirEffect}
use Rattle.monitor_sound.proofs.ThreadLaws.{ThreadLaws}
use Rattle.monitor_sound.proofs.Permits.{fetches, fetches_tables}
use Rattle.monitor_sound.proofs.Direct.{direct}
use Rattle.monitor_sound.proofs.Room.{open_frame, svc_turn}
use Rattle.monitor_sound.proofs.Lent.{lent_store, lent_load}
use Rattle.monitor_sound.proofs.Returns.{svc_returns, memfault_returns}

-- an SVC of the compartment's code, or of the stub, may be fetched
may_call : (laws : ThreadLaws) (i : Image) (t : Tables) (p : Placed i t) (stub : ℕ) → StubStands i t stub → (m : MonitorBlock) (s : State) → InvariantHolds i t m s →
    (has_code t m.current s.core.pc ≡ true) ⊎ (s.core.pc ≡ stub) → by_mpu s.protection Fetch s.core.pc ≡ true
may_call laws i t p stub stands m s h (inl code) = fetches laws.unit i t p m (context_of s) s.ram h.inv s.core.pc code
may_call laws i t p stub stands m s h (inr at) =
    let lo = stands.from_base in
    let hi = stands.inside in
    fetches_tables laws.unit i t p m (context_of s) s.ram h.inv s.core.pc (omega (arith, at, lo)) (omega (arith, at, hi))

pub accesses_have_their_effect : ThreadLaws → PlacedAccessesHaveTheirEffect
accesses_have_their_effect laws i t stub p stands law = record {
  direct = λ m s x h live lies code r. direct laws i t p m s h live x lies code r;
  lent_stores = λ m s op w h live is lies code lent. lent_store laws i t p stub law m s h live op w is lies code lent;
  lent_loads = λ m s op w h live is lies code lent. lent_load laws i t p stub law m s h live op w is lies code lent;
  enters = λ m s n h live lies by room.
      (open_frame laws i t p m s h room, ap (λ (x : Turn). x.to) (svc_turn laws i t p m s h room live n lies (may_call laws i t p stub stands m s h by)));
  svc_returns = λ m s n h live few is frame. svc_returns i t stub law m s h live frame n few is;
  memfault_returns = λ m s u h live f frame. memfault_returns i t stub law m s h live frame u f;
}
