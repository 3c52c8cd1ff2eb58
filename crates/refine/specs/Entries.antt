-- Beyond the program's claim: only laws, proofs and functions inside the tool cite this file.
-- Entries of functions and of exceptions for which the stack has no room.
use Rattle.std.specs.Prelude.{◌≡◌, ℕ, ◌+◌, ◌*◌, ◌%◌, ◌<◌, ◌≤◌, ◌⊎◌, List, [], Option, Some}
use Rattle.base_words.specs.declared.conditions.Flags.{Flags}
use Rattle.machine_thumb.specs.Table.{svc}
use Rattle.machine_model.specs.declared.state.End.{End}
use Rattle.machine_model.specs.State.{State, by_mpu}
use Rattle.machine_model.specs.Code.{Runs, Stands}
use Rattle.machine_model.specs.Shape.{StateFits}
use Rattle.machine_model.specs.RunningCode.{Context, works}
use Rattle.ir_model.specs.Resolved.{NumberedFunc}
use Rattle.ir_model.specs.Signatures.{row_length}
use Rattle.code_model.specs.declared.places.Places.{Places}
use Rattle.code_model.specs.FrameShape.{frame_shape}
use Rattle.code_model.specs.Templates.{entry_items}
use Rattle.monitor_model.specs.Block.{MonitorBlock}
use Rattle.machine_devices.specs.declared.image.Image.{Image}
use Rattle.monitor_model.specs.declared.tables.Tables.{Tables}
use Rattle.monitor_model.specs.Invariant.{Invariant}
use Rattle.monitor_model.specs.MonitorCode.{MonitorCode}
use Rattle.monitor_model.specs.Setting.{Setting, setting_of}
use Rattle.monitor_model.specs.Threads.{base}
use Rattle.monitor_model.specs.Law.{Law}
use Rattle.refine.specs.CodeLaws.{CodeLaws}
use Rattle.refine.specs.Owned.{Owns, MemoryRules}
use Rattle.refine.specs.Guard.{StackLaw}
use Rattle.refine.specs.Ends.{NamesStack}

-- the machine ends, with an end that names the stack, after at most `most` steps and without an event
pub record EndsShort (g : Setting) (most : ℕ) (from : State) : Type 0 where
  pub count : ℕ
  pub least : 1 ≤ count
  pub within : count ≤ most
  pub last : State
  pub end : End
  pub over : last.ending ≡ Some end
  pub names : NamesStack end
  pub runs : Runs by_mpu g.image count from last []

-- the machine goes on otherwise than the source for this reason, and where the law of the stack holds, it ends as `EndsShort` says
pub record RunsShort (g : Setting) (Inv : MonitorBlock → Context → List ℕ → Type 0) (Reason : Type 0) (most : ℕ) (from : State) : Type 0 where
  pub reason : Reason
  pub ends : StackLaw g Inv → EndsShort g most from

-- a frame of so many words that ends there, with so many loans live: less than an exception's frame is left below it, or the
-- monitor cannot keep the loans
abbrev pub LacksRoom : (g : Setting) (words ends loans : ℕ) → Type 0
LacksRoom g w e loans = (e < g.stack + 32 + (4 * w + 4)) ⊎ (32 < loans)

-- the largest frame has so many words below its return address
abbrev pub most_words : ℕ
most_words = 247

-- a function is entered by a call: the stack pointer is its caller's, and the stack has less than its frame left
abbrev pub EntriesWithoutRoomStop : Type 0
EntriesWithoutRoomStop =
    (code : MonitorCode) (i : Image) (t : Tables) → let g : Setting = setting_of code i t in let Inv = Invariant i t in
    Law g Inv → MemoryRules g → CodeLaws → StackLaw g Inv →
    (fn : NumberedFunc) (q : Places) (labels : List (Option ℕ)) (w : ℕ) → (frame_shape fn).words ≡ w → 1 ≤ w → w ≤ most_words → (4 * w + 4) % 8 ≡ 0 → row_length fn.params ≤ w →
    (m : MonitorBlock) (x : Context) (low : List ℕ) (o lr at : ℕ) (f : Flags) (ram : List ℕ) (queues : List (List ℕ)) → Inv m x ram →
    StateFits g.image (works x low (base g + o) lr at f ram queues) → o % 8 ≡ 0 → g.stack ≤ o → base g + o ≤ m.top → o < g.stack + (4 * w + 4) →
    Owns g m.current labels at (entry_items fn q) → EndsShort g 5 (works x low (base g + o) lr at f ram queues)

-- an SVC of the running compartment, with less than an exception's frame left
abbrev pub CallsWithoutRoomStop : Type 0
CallsWithoutRoomStop =
    (code : MonitorCode) (i : Image) (t : Tables) → let g : Setting = setting_of code i t in let Inv = Invariant i t in
    Law g Inv → MemoryRules g → StackLaw g Inv →
    (m : MonitorBlock) (x : Context) (low : List ℕ) (o lr pc n : ℕ) (f : Flags) (ram : List ℕ) (queues : List (List ℕ)) → Inv m x ram →
    StateFits g.image (works x low (base g + o) lr pc f ram queues) → o % 8 ≡ 0 → g.stack ≤ o → base g + o ≤ m.top → o < g.stack + 32 →
    Stands by_mpu g.image x.protection pc (svc n) → EndsShort g 1 (works x low (base g + o) lr pc f ram queues)
