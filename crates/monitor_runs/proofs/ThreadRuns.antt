-- Whole runs: at each step of a thread the block is orderly, and the next one is a move behind it.
use Rattle.std.proofs.Common.{◌≡◌, ℕ, ◌+◌, false, sym, ap, ◌∙◌, subst}
use Rattle.std.proofs.lemmas.Bool.{false≢true}
use Rattle.base_words.specs.Runs.{run}
use Rattle.machine_devices.specs.declared.image.Image.{Image}
use Rattle.machine_model.specs.State.{State}
use Rattle.machine_model.specs.Step.{step}
use Rattle.monitor_model.specs.declared.tables.Tables.{Tables}
use Rattle.monitor_model.specs.Placed.{Placed}
use Rattle.monitor_model.specs.Records.{stack_end}
use Rattle.monitor_model.specs.Block.{MonitorBlock, first_block}
use Rattle.monitor_model.specs.BlockWords.{IsBlock}
use Rattle.monitor_model.specs.Invariant.{IsOrderly, InvariantHolds}
use Rattle.monitor_model.specs.MonitorLaw.{MonitorLaw}
use Rattle.monitor_model.specs.Confined.{StartUp, HasStarted, AreNext, later}
use Rattle.monitor_runs.specs.BlockInRam.{block_of}
use Rattle.monitor_runs.specs.Moves.{Moves}
use Rattle.monitor_runs.specs.WhoRuns.{block_at, WhoRuns}
use Rattle.monitor_runs.proofs.OneBlock.{blocks_are_one}
use Rattle.monitor_runs.proofs.Segments.{RunLaws, Rest, InThread, Over, segment}
use Rattle.monitor_runs.proofs.Inductions.{Piece, next_arrives, holds_at, quiet_at, back_at}

module _ (laws : RunLaws) (i : Image) (t : Tables) (p : Placed i t) (stub : ℕ) (law : MonitorLaw i t stub) (first : State)
    (begins : StartUp i t first) (begun : InvariantHolds i t (first_block t) (later i t first begins.count)) where
  abbrev at : ℕ → State
  at n = later i t first n

  moved_by : (s u : State) (m n : MonitorBlock) → IsBlock i t s.ram m → IsBlock i t u.ram n → Moves i t s u m n → Moves i t s u (block_of i t s.ram) (block_of i t u.ram)
  moved_by s u m n a b x = subst (λ (y : MonitorBlock). Moves i t s u y (block_of i t u.ram)) (blocks_are_one i t s.ram m a) (subst (λ (y : MonitorBlock). Moves i t s u m y) (blocks_are_one i t u.ram n b) x)

  held : (n : ℕ) → HasStarted i t first n → (at n).protection.handler ≡ false → (b : MonitorBlock) × InvariantHolds i t b (at n)
  held n started th = holds_at laws i t p stub law first begins (first_block t) begun n started th

  moved_at : (a n : ℕ) → HasStarted i t first a → AreNext i t first a n → Moves i t (at a) (at n) (block_at i t first a) (block_at i t first n)
  moved_at a n started next = by (held a started next.from_thread)
    where
      by : (b : MonitorBlock) × InvariantHolds i t b (at a) → Moves i t (at a) (at n) (block_at i t first a) (block_at i t first n)
      by h = arrived (segment laws i t p stub law h.0 (at a) h.1)
        where
          arrived : (g : Piece laws i t p stub law first h.0 (at a)) → Moves i t (at a) (at n) (block_at i t first a) (block_at i t first n)
          arrived g = rested g.rest
            where
              e : at n ≡ run (step i) g.count (at a)
              e = next_arrives laws i t p stub law first a n h.0 next g

              rested : Rest laws i t p stub law h.0 (at a) (run (step i) g.count (at a)) → Moves i t (at a) (at n) (block_at i t first a) (block_at i t first n)
              rested (Over x q) = absurd (false≢true (sym next.to_thread ∙ ap (λ (x : State). x.protection.handler) e ∙ q.handler))
              rested (InThread b k move) =
                  subst (λ (u : State). Moves i t (at a) u (block_at i t first a) (block_of i t u.ram)) (sym e) (moved_by (at a) (run (step i) g.count (at a)) h.0 b h.1.inv.is_block k.inv.is_block move)

  orderly_at : (n : ℕ) → HasStarted i t first n → (at n).protection.handler ≡ false → IsOrderly t (block_at i t first n)
  orderly_at n started th = let h = held n started th in subst (IsOrderly t) (blocks_are_one i t (at n).ram h.0 h.1.inv.is_block) h.1.inv.orderly

  pub who_runs : ((at (begins.count + 3)).core.pc + 1 ≡ t.main) → ((at (begins.count + 3)).core.sp ≡ stack_end t) → WhoRuns i t first
  who_runs main stack = record {
    start_up = begins;
    at_main = main;
    whole_stack = stack;
    begins = sym (blocks_are_one i t (at begins.count).ram (first_block t) begun.inv.is_block);
    even = λ n started th. (held n started th).1.fits.core.pc_even;
    orderly = orderly_at;
    moves = moved_at;
    returns = back_at laws i t p stub law first begins (first_block t) begun;
    quiet = quiet_at laws i t p stub law first begins (first_block t) begun;
  }
