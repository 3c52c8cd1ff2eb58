-- From one rest to another: a byte stays, or an act between might change it.
use Rattle.std.proofs.Common.{◌≡◌, ℕ, ◌<◌, ◌≤◌, ◌⊎◌, inl, inr, ⊎_elim, false, ap, ◌∙◌, refl, arith}
use Rattle.base_words.specs.Runs.{run}
use Rattle.machine_devices.specs.declared.image.Image.{Image}
use Rattle.machine_model.specs.State.{State}
use Rattle.machine_model.specs.Step.{step}
use Rattle.monitor_model.specs.declared.tables.Tables.{Tables}
use Rattle.monitor_model.specs.Placed.{Placed}
use Rattle.monitor_model.specs.Block.{MonitorBlock}
use Rattle.monitor_model.specs.Invariant.{InvariantHolds}
use Rattle.monitor_model.specs.MonitorLaw.{MonitorLaw}
use Rattle.monitor_model.specs.Confined.{StartUp, later}
use Rattle.monitor_runs.proofs.Segments.{Segment}
use Rattle.monitor_runs.proofs.Inductions.{from_rest}
use Rattle.monitor_runs.specs.Acts.{byte_at, IsOutside, MayChange, Acts, Rests}
use Rattle.monitor_runs.specs.Stays.{MemoryStays}
use Rattle.monitor_runs.proofs.ActChanges.{ActLaws, act_changes}

module _ (laws : ActLaws) (i : Image) (t : Tables) (p : Placed i t) (stub : ℕ) (law : MonitorLaw i t stub) (first : State)
    (begins : StartUp i t first) (m : MonitorBlock) (begun : InvariantHolds i t m (later i t first begins.count)) where
  abbrev at : ℕ → State
  at n = later i t first n

  abbrev Piece : MonitorBlock → State → Type 0
  Piece m s = Segment laws.runs i t p stub law m s

  abbrev pub MayDiffer : (from to a : ℕ) → Type 0
  MayDiffer from to a = (byte_at i (at to) a ≡ byte_at i (at from) a) ⊎ ((k : ℕ) × (from ≤ k) × (k < to) × Acts i t first k × MayChange i t (at k) a)

  pub stays_or : (from to a : ℕ) → Rests i t first from → Rests i t first to → from ≤ to → IsOutside i t a → MayDiffer from to a
  stays_or from to a r u le out =
      (from_rest laws.runs i t p stub law first begins m begun (λ n. (from ≤ n) × MayDiffer from n a) through same from to r.started r.none_works u.none_works le (omega arith, inl refl)).1
    where
      longer : (b n : ℕ) → b ≤ n → MayDiffer from b a → byte_at i (at n) a ≡ byte_at i (at b) a → MayDiffer from n a
      longer b n le (inl e) q = inl (q ∙ e)
      longer b n le (inr x) q = inr (x.0, x.1, (let lt = x.2 in omega (arith, lt, le)), x.3, x.4)

      same : (b n : ℕ) → b ≤ n → at n ≡ at b → (from ≤ b) × MayDiffer from b a → (from ≤ n) × MayDiffer from n a
      same b n le e x = ((let lo = x.0 in omega (arith, lo, le)), longer b n le x.1 (ap (λ (s : State). byte_at i s a) e))

      begun_later : (b : ℕ) → from ≤ b → (at b).protection.handler ≡ false → Acts i t first b
      begun_later b le th = record { started = (r.started.0, (let k = r.started.1 in omega (arith, le, k)), r.started.2); thread = th }

      through : (b n : ℕ) (c : MonitorBlock) → InvariantHolds i t c (at b) → (g : Piece c (at b)) → b < n → at n ≡ run (step i) g.count (at b) → (from ≤ b) × MayDiffer from b a → (from ≤ n) × MayDiffer from n a
      through b n c h g lt e x = ((let lo = x.0 in omega (arith, lo, lt)), by (act_changes laws i t p stub law c (at b) h g a out))
        where
          by : (byte_at i (run (step i) g.count (at b)) a ≡ byte_at i (at b) a) ⊎ MayChange i t (at b) a → MayDiffer from n a
          by (inl q) = longer b n (omega (arith, lt)) x.1 (ap (λ (s : State). byte_at i s a) e ∙ q)
          by (inr q) = inr (b, x.0, lt, begun_later b x.0 h.inv.thread, q)

  pub memory_stays : MemoryStays i t first
  memory_stays from to a r u le out none = ⊎_elim (λ e. e) (λ x. absurd (none x.0 x.1 x.2 x.3 x.4)) (stays_or from to a r u le out)
