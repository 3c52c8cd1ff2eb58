-- A thread that goes on behind a call, in the words of a simulation.
use Rattle.std.proofs.Common.{◌≡◌, ℕ, suc, ◌+◌, ◌-◌, ◌<◌, ◌≤◌, ◌⊎◌, inl, inr, List, [], length, Option, None, refl, sym, ap, ◌∙◌, subst, arith}
use Rattle.base_words.specs.Bytes.{read}
use Rattle.base_words.specs.Runs.{run}
use Rattle.machine_devices.specs.declared.image.Image.{Image}
use Rattle.machine_devices.specs.Rules.{block_size}
use Rattle.machine_model.specs.declared.state.End.{End}
use Rattle.machine_model.specs.State.{State, by_mpu}
use Rattle.machine_model.specs.Code.{Runs}
use Rattle.machine_model.specs.Shape.{StateFits}
use Rattle.machine_model.specs.Step.{step, event}
use Rattle.machine_model.specs.RunningCode.{works}
use Rattle.monitor_model.specs.declared.tables.Tables.{Tables}
use Rattle.monitor_model.specs.Placed.{Placed}
use Rattle.monitor_model.specs.Block.{MonitorBlock}
use Rattle.monitor_model.specs.Invariant.{Invariant, InvariantHolds, IsOrderly, context_of}
use Rattle.monitor_model.specs.MonitorCode.{MonitorCode}
use Rattle.monitor_model.specs.Setting.{Setting, setting_of}
use Rattle.monitor_model.specs.Threads.{KeepsOff, Resumes}
use Rattle.monitor_sound.proofs.ThreadLaws.{ThreadLaws, quiet_events}
use Rattle.monitor_sound.proofs.Behind.{Behind, holds_again}

-- a state by the parts that a simulation names
pub works_of : (u : State) (sp lr pc : ℕ) (queues : List (List ℕ)) → u.core.sp ≡ sp → u.core.lr ≡ lr → u.core.pc ≡ pc → u.queues ≡ queues → u.ending ≡ None →
    u ≡ works (context_of u) u.core.low sp lr pc u.core.flags u.ram queues
works_of u sp lr pc queues a l b c d =
    let at : (x : ℕ) (k : ℕ) (y : ℕ) (z : List (List ℕ)) (e : Option End) → State = λ x k y z e. record u { core = record u.core { sp = x; lr = k; pc = y }; queues = z; ending = e } in
    ap (λ (x : ℕ). at x u.core.lr u.core.pc u.queues u.ending) a
    ∙ ap (λ (k : ℕ). at sp k u.core.pc u.queues u.ending) l
    ∙ ap (λ (y : ℕ). at sp lr y u.queues u.ending) b
    ∙ ap (λ (z : List (List ℕ)). at sp lr pc z u.ending) c
    ∙ ap (λ (e : Option End). at sp lr pc queues e) d

pub quiet_runs : (i : Image) (k : ℕ) (s u : State) → ((n : ℕ) → n < k → event i (run (step i) n s) ≡ None) → run (step i) k s ≡ u → Runs by_mpu i k s u []
quiet_runs i k s u q e = record { leads = e; tells = quiet_events i k s q }

pub quiet_there : (i : Image) (k : ℕ) (s : State) → ((n : ℕ) → n < k → event i (run (step i) n s) ≡ None) → Runs by_mpu i k s (run (step i) k s) []
quiet_there i k s q = record { leads = refl; tells = quiet_events i k s q }

-- ranges of RAM by their offsets
pub off_block : (a w b k : ℕ) → (a + w ≤ b) ⊎ (b + k ≤ a) → (a + w ≤ b + 0) ⊎ (b + k ≤ a)
off_block a w b k (inl h) = inl (omega (arith, h))
off_block a w b k (inr h) = inr h

module _ (laws : ThreadLaws) (code : MonitorCode) (i : Image) (t : Tables) (p : Placed i t) where
  abbrev g : Setting
  g = setting_of code i t

  -- behind a handler
  unfoldable pub resumed : (s : State) (m : MonitorBlock) (h : InvariantHolds i t m s) (most bound : ℕ) (b : MonitorBlock) (psp : ℕ) (memory : List ℕ) (x : Behind i t s m most b psp memory) → suc most ≤ bound → IsOrderly t b →
      (sp pc below : ℕ) (ram : List ℕ) → (run (step i) x.count s).core.sp ≡ sp → (run (step i) x.count s).core.pc ≡ pc →
      ((w a : ℕ) → KeepsOff g below a w → read w a memory ≡ read w a ram) → length ram ≡ i.ram_size → Resumes g (Invariant i t) bound s b sp pc below ram s.queues
  resumed s m h most bound b psp memory x le o sp pc below ram at_sp at_pc same long =
      let u : State = run (step i) x.count s in
      let within = x.within in
      let is : u ≡ works (context_of u) u.core.low sp u.core.lr pc u.core.flags u.ram s.queues = works_of u sp u.core.lr pc s.queues at_sp refl at_pc x.goes.queues x.goes.ending in
      record {
        count = x.count;
        least = x.least;
        within = omega (arith, within, le);
        context = context_of u;
        low = u.core.low;
        lr = u.core.lr;
        flags = u.core.flags;
        memory = u.ram;
        fits = subst (λ (z : State). StateFits i z) is x.fits;
        runs = quiet_runs i x.count s (works (context_of u) u.core.low sp u.core.lr pc u.core.flags u.ram s.queues) x.quiet is;
        invariant = (holds_again laws i t p s m h most b psp memory x o).inv;
        stays = record {
          reads = λ w a k. x.goes.is_left.is_memory.reads w a (off_block a w (t.monitor - i.ram_base) block_size k.1) ∙ same w a k;
          as_long = x.fits.ram_count ∙ sym long;
        };
      }
