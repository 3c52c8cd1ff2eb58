-- Beyond the program's claim: only laws, proofs and functions inside the tool cite this file.
-- How far a thread comes at an entry or a call: up to behind the entry's code, in the same compartment or in another.
use Rattle.std.specs.Prelude.{◌≡◌, ℕ, ◌+◌, ◌-◌, ◌*◌, ◌/◌, ◌%◌, ◌^◌, ◌<◌, ◌≤◌, true, false, nat_eq, List, [], length, get_or}
use Rattle.base_words.specs.Bytes.{read, cut}
use Rattle.base_words.specs.declared.conditions.Flags.{Flags}
use Rattle.machine_model.specs.State.{State, by_mpu}
use Rattle.machine_model.specs.Code.{Runs}
use Rattle.machine_model.specs.Exceptions.{is_thread}
use Rattle.machine_model.specs.Shape.{StateFits}
use Rattle.machine_model.specs.RunningCode.{Context, works}
use Rattle.monitor_model.specs.Block.{MonitorBlock}
use Rattle.monitor_model.specs.Setting.{Setting}
use Rattle.monitor_model.specs.Threads.{base, Stays}

-- a frame o bytes behind RAM's base, of w words below the return address: the arguments are in its first words, the others are clear
pub record Filled (o w link : ℕ) (arguments : List ℕ) (ram : List ℕ) : Type 0 where
  pub given : (k : ℕ) → k < length arguments → read 4 (o + 4 * k) ram ≡ cut 4 (get_or arguments k 0)
  pub cleared : (k : ℕ) → length arguments ≤ k → k < w → read 4 (o + 4 * k) ram ≡ 0
  pub return_address : read 4 (o + 4 * w) ram ≡ cut 4 link

module _ (g : Setting) (Inv : MonitorBlock → Context → List ℕ → Type 0) where
  -- from a state, in so many steps at most, on there
  pub record Goes (most : ℕ) (from : State) (m : MonitorBlock) (sp pc below : ℕ) (ram : List ℕ) (queues : List (List ℕ)) : Type 0 where
    pub count : ℕ
    pub within : count ≤ most
    pub context : Context
    pub low : List ℕ
    pub lr : ℕ
    pub flags : Flags
    pub memory : List ℕ
    pub fits : StateFits g.image (works context low sp lr pc flags memory queues)
    pub runs : Runs by_mpu g.image count from (works context low sp lr pc flags memory queues) []
    pub invariant : Inv m context memory
    pub stays : Stays g below ram memory

module _ (g : Setting) (Inv : MonitorBlock → Context → List ℕ → Type 0) where
  -- behind the callee's entry
  pub record Called (from : State) (m : MonitorBlock) (o w pc below : ℕ) (arguments : List ℕ) (link : ℕ) (ram : List ℕ) (queues : List (List ℕ)) : Type 0 where
    pub goes : Goes g Inv 16384 from m (base g + o) pc below ram queues
    pub least : 1 ≤ goes.count
    pub filled : Filled o w link arguments goes.memory

  -- and of another compartment's function: what waits for its return lies below the caller's stack pointer
  pub record Crossed (from : State) (m : MonitorBlock) (o w pc below : ℕ) (arguments : List ℕ) (ret : ℕ) (ram : List ℕ) (queues : List (List ℕ)) : Type 0 where
    pub called : Called from m o w pc below arguments (g.stub + 1) ram queues
    pub status : ℕ
    pub thread : is_thread status ≡ true
    pub no_pad : nat_eq (status / 2 ^ 9 % 2) 1 ≡ false
    pub saved_return : read 4 (below - 8) called.goes.memory ≡ ret
    pub saved_status : read 4 (below - 4) called.goes.memory ≡ status
