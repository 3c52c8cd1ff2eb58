-- Beyond the program's claim: only laws, proofs and functions inside the tool cite this file.
-- Calls, whatever room is left below the caller: the callee is entered, or there is no room for it, and where the stack is guarded
-- the machine ends.
use Rattle.std.specs.Prelude.{◌≡◌, ℕ, ◌+◌, ◌-◌, ◌*◌, ◌/◌, ◌%◌, ◌<◌, ◌≤◌, ◌⊎◌, List, [], length, true, Option}
use Rattle.std.proofs.Math.ListN.{get_or}
use Rattle.base_words.specs.Bytes.{cut}
use Rattle.machine_thumb.specs.Table.{svc}
use Rattle.machine_devices.specs.declared.image.Image.{Image}
use Rattle.machine_model.specs.State.{State, by_mpu}
use Rattle.machine_model.specs.Code.{HoldsHalf, Stands}
use Rattle.machine_model.specs.Shape.{StateFits}
use Rattle.machine_model.specs.RunningCode.{Context}
use Rattle.ir_model.specs.Resolved.{NumberedFunc}
use Rattle.ir_model.specs.Signatures.{row_length}
use Rattle.code_model.specs.declared.places.Places.{Places}
use Rattle.code_model.specs.FrameShape.{frame_shape}
use Rattle.code_model.specs.Sizes.{entry_size}
use Rattle.code_model.specs.Templates.{lends_of, entry_items}
use Rattle.code_effects.specs.Points.{known, Arrives}
use Rattle.monitor_model.specs.declared.tables.Tables.{Tables}
use Rattle.monitor_model.specs.Block.{MonitorBlock, entered}
use Rattle.monitor_model.specs.Invariant.{Invariant}
use Rattle.monitor_model.specs.MonitorCode.{MonitorCode}
use Rattle.monitor_model.specs.Setting.{Setting, setting_of}
use Rattle.monitor_model.specs.Threads.{base}
use Rattle.monitor_model.specs.Law.{Law}
use Rattle.refine.specs.CodeLaws.{CodeLaws}
use Rattle.refine.specs.Owned.{Owns, MemoryRules, Lendable, all_lent}
use Rattle.refine.specs.Begun.{Called, Crossed}
use Rattle.refine.specs.Entries.{RunsShort, LacksRoom, most_words}

-- where the part of the stack ends that is left to a callee of another compartment, below a frame that lies there
abbrev pub part_end : (g : Setting) → ℕ → ℕ
part_end g oc = g.stack + (oc - 32 - g.stack) / g.eighth * g.eighth

-- what is asked of a callee, which does not speak of the stack
pub record CalleeStands (g : Setting) (fn : NumberedFunc) (q : Places) (labels : List (Option ℕ)) (compartment w entry arguments : ℕ) : Type 0 where
  pub words : (frame_shape fn).words ≡ w
  pub some : 1 ≤ w
  pub small : w ≤ most_words
  pub even : (4 * w + 4) % 8 ≡ 0
  pub counts : arguments ≡ row_length fn.params
  pub few : arguments ≤ 4
  pub fewer : arguments ≤ w
  pub code : Owns g compartment labels entry (entry_items fn q)
  pub lendable : Lendable g w (lends_of fn q)

module _ (g : Setting) (Inv : MonitorBlock → Context → List ℕ → Type 0) (fn : NumberedFunc) (q : Places) where
  -- the callee's frame fits below its caller's, the monitor can keep its loans, and it is entered
  pub record IsCalled (from : State) (m : MonitorBlock) (oc w entry : ℕ) (arguments : List ℕ) (link : ℕ) (ram : List ℕ) (queues : List (List ℕ)) : Type 0 where
    pub frame : ℕ
    pub frame_ends : frame + 4 * w + 4 ≡ oc
    pub on_stack : g.stack ≤ frame
    pub few : length m.loans + length (lends_of fn q) ≤ 32
    pub lent : 1 ≤ length (lends_of fn q) → g.stack + 32 ≤ frame
    pub called : Called g Inv from (all_lent g frame m (lends_of fn q)) frame w (entry + entry_size fn (length (lends_of fn q))) oc arguments link ram queues
    pub short : called.goes.count ≤ 8520

  -- the same of a callee of another compartment, whose part of the stack ends at a whole number of eighths
  pub record IsCrossed (from : State) (m : MonitorBlock) (oc w entry target : ℕ) (arguments : List ℕ) (ret : ℕ) (ram : List ℕ) (queues : List (List ℕ)) : Type 0 where
    pub room : g.stack + 32 ≤ oc
    pub top : ℕ
    pub top_is : top ≡ part_end g oc
    pub some : g.stack < top
    pub frame : ℕ
    pub frame_ends : frame + 4 * w + 4 ≡ top
    pub on_stack : g.stack ≤ frame
    pub few : length m.loans + length (lends_of fn q) ≤ 32
    pub lent : 1 ≤ length (lends_of fn q) → g.stack + 32 ≤ frame
    pub crossed : Crossed g Inv from (all_lent g frame (entered m target (base g + top) (base g + oc - 32)) (lends_of fn q)) frame w (entry + entry_size fn (length (lends_of fn q))) oc arguments ret ram queues

-- from where the arguments of a call stand in r0 to r3
pub record CallsEnterOrEnd (g : Setting) (Inv : MonitorBlock → Context → List ℕ → Type 0) : Type 0 where
  -- at the callee's first instruction
  pub inside : (fn : NumberedFunc) (q : Places) (labels : List (Option ℕ)) (w : ℕ) (m : MonitorBlock) (n : ℕ) (s : State) (x : Context) (oc lr at : ℕ) (arguments ram : List ℕ) (queues : List (List ℕ)) →
      n ≤ 8 → Inv m x ram → StateFits g.image s →
      Arrives by_mpu g.image n s (record { context = x; registers = known arguments; sp = base g + oc; lr = lr; pc = at; ram = ram; queues = queues }) [] →
      oc % 8 ≡ 0 → g.stack ≤ oc → base g + oc ≤ m.top → CalleeStands g fn q labels m.current w at (length arguments) → length m.loans ≤ 32 →
      IsCalled g Inv fn q s m oc w at arguments lr ram queues ⊎ RunsShort g Inv (LacksRoom g w oc (length m.loans + length (lends_of fn q))) 16384 s
  -- at the SVC of a crossing call
  pub across : (fn : NumberedFunc) (q : Places) (labels : List (Option ℕ)) (w : ℕ) (m : MonitorBlock) (n : ℕ) (s : State) (x : Context) (oc lr pc entry site target : ℕ) (arguments ram : List ℕ) (queues : List (List ℕ)) →
      n ≤ 8 → Inv m x ram → StateFits g.image s →
      Arrives by_mpu g.image n s (record { context = x; registers = known arguments; sp = base g + oc; lr = lr; pc = pc; ram = ram; queues = queues }) [] →
      oc % 8 ≡ 0 → g.stack ≤ oc → base g + oc ≤ m.top → Stands by_mpu g.image x.protection pc (svc 0) → g.has_code m.current pc ≡ true →
      HoldsHalf g.image (pc + 2) site → g.has_target site (pc + 2) entry target ≡ true → get_or x.high 4 0 ≡ entry + 1 → entry % 2 ≡ 0 →
      ((k : ℕ) → k < length arguments → cut 4 (get_or arguments k 0) ≡ get_or arguments k 0) →
      CalleeStands g fn q labels target w entry (length arguments) → length m.loans ≤ 32 →
      IsCrossed g Inv fn q s m oc w entry target arguments (pc + 4) ram queues ⊎ RunsShort g Inv (LacksRoom g w (part_end g oc) (length m.loans + length (lends_of fn q))) 16384 s

abbrev pub CallsServe : Type 0
CallsServe =
    (code : MonitorCode) (i : Image) (t : Tables) → Law (setting_of code i t) (Invariant i t) → MemoryRules (setting_of code i t) → CodeLaws →
    CallsEnterOrEnd (setting_of code i t) (Invariant i t)
