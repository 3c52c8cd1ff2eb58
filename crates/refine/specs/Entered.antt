-- Beyond the program's claim: only laws, proofs and functions inside the tool cite this file.
-- The entry of a function whose frame fits, whatever room is left below it and however many loans live.
use Rattle.std.specs.Prelude.{◌≡◌, ℕ, ◌+◌, ◌*◌, ◌%◌, ◌<◌, ◌≤◌, ◌⊎◌, List, [], length, Option}
use Rattle.std.proofs.Math.ListN.{get_or}
use Rattle.base_words.specs.Bytes.{read, cut}
use Rattle.base_words.specs.declared.conditions.Flags.{Flags}
use Rattle.machine_devices.specs.declared.image.Image.{Image}
use Rattle.machine_model.specs.State.{State, by_mpu}
use Rattle.machine_model.specs.Code.{Runs}
use Rattle.machine_model.specs.Shape.{StateFits}
use Rattle.machine_model.specs.RunningCode.{Context, works}
use Rattle.ir_model.specs.Resolved.{NumberedFunc}
use Rattle.ir_model.specs.Signatures.{row_length}
use Rattle.code_model.specs.declared.places.Places.{Places}
use Rattle.code_model.specs.FrameShape.{frame_shape}
use Rattle.code_model.specs.Sizes.{entry_size}
use Rattle.code_model.specs.Templates.{lends_of, entry_items}
use Rattle.monitor_model.specs.declared.tables.Tables.{Tables}
use Rattle.monitor_model.specs.Block.{MonitorBlock}
use Rattle.monitor_model.specs.Invariant.{Invariant}
use Rattle.monitor_model.specs.MonitorCode.{MonitorCode}
use Rattle.monitor_model.specs.Setting.{Setting, setting_of}
use Rattle.monitor_model.specs.Threads.{base, lend_steps, Stays}
use Rattle.monitor_model.specs.Law.{Law}
use Rattle.refine.specs.CodeLaws.{CodeLaws}
use Rattle.refine.specs.Owned.{Owns, MemoryRules, Lendable, all_lent}
use Rattle.refine.specs.Entries.{RunsShort, LacksRoom}

module _ (g : Setting) (Inv : MonitorBlock → Context → List ℕ → Type 0) (fn : NumberedFunc) (q : Places) where
  -- at the first block: the frame holds the arguments and is clear behind them, and its locals are lent, which the monitor can keep
  pub record IsEntered (from : State) (m : MonitorBlock) (o w at : ℕ) (arguments : List ℕ) (link : ℕ) (ram : List ℕ) (queues : List (List ℕ)) : Type 0 where
    pub few : length m.loans + length (lends_of fn q) ≤ 32
    pub room : 1 ≤ length (lends_of fn q) → g.stack + 32 ≤ o
    pub count : ℕ
    pub least : 1 ≤ count
    pub within : count ≤ 4 + w + (2 + lend_steps) * length (lends_of fn q)
    pub context : Context
    pub low : List ℕ
    pub lr : ℕ
    pub flags : Flags
    pub memory : List ℕ
    pub fits : StateFits g.image (works context low (base g + o) lr (at + entry_size fn (length (lends_of fn q))) flags memory queues)
    pub runs : Runs by_mpu g.image count from (works context low (base g + o) lr (at + entry_size fn (length (lends_of fn q))) flags memory queues) []
    pub invariant : Inv (all_lent g o m (lends_of fn q)) context memory
    pub stays : Stays g (o + 4 * w + 4) ram memory
    pub given : (k : ℕ) → k < length arguments → read 4 (o + 4 * k) memory ≡ cut 4 (get_or arguments k 0)
    pub cleared : (k : ℕ) → length arguments ≤ k → k < w → read 4 (o + 4 * k) memory ≡ 0
    pub return_address : read 4 (o + 4 * w) memory ≡ cut 4 link

-- an entry asks for no room for an exception below the frame, nor that the monitor can keep the loans
abbrev pub EntriesEnterOrEnd : Type 0
EntriesEnterOrEnd =
    (code : MonitorCode) (i : Image) (t : Tables) → let g : Setting = setting_of code i t in let Inv = Invariant i t in
    Law g Inv → MemoryRules g → CodeLaws →
    (fn : NumberedFunc) (q : Places) (labels : List (Option ℕ)) (w : ℕ) → (frame_shape fn).words ≡ w →
    (m : MonitorBlock) (x : Context) (low : List ℕ) (o lr at : ℕ) (f : Flags) (arguments : List ℕ) (ram : List ℕ) (queues : List (List ℕ)) → Inv m x ram →
    StateFits g.image (works x low (base g + o + 4 * w + 4) lr at f ram queues) → o % 8 ≡ 0 → g.stack ≤ o → base g + o + 4 * w + 4 ≤ m.top → length arguments ≡ row_length fn.params → length arguments ≤ w →
    ((k : ℕ) → k < length arguments → get_or low k 0 ≡ get_or arguments k 0) → Owns g m.current labels at (entry_items fn q) → Lendable g w (lends_of fn q) → length m.loans ≤ 32 →
    IsEntered g Inv fn q (works x low (base g + o + 4 * w + 4) lr at f ram queues) m o w at arguments lr ram queues
    ⊎ RunsShort g Inv (LacksRoom g w (o + 4 * w + 4) (length m.loans + length (lends_of fn q))) (4 + w + (2 + lend_steps) * 33) (works x low (base g + o + 4 * w + 4) lr at f ram queues)
