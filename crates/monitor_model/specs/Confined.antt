-- What it means that an image is confined by its tables: six properties of every run.
use Rattle.std.specs.Prelude.{◌≡◌, ℕ, ◌+◌, ◌-◌, ◌*◌, ◌<◌, ◌≤◌, ◌⊎◌, List, true, false, Some, None, slice_get, Contains}
use Rattle.base_words.specs.Runs.{run}
use Rattle.machine_devices.specs.declared.image.Image.{Image}
use Rattle.machine_model.specs.State.{State, by_mpu, is_unprivileged}
use Rattle.machine_model.specs.Step.{turn, step, event}
use Rattle.base_laws.specs.Lists.{Each}
use Rattle.machine_model.specs.Code.{HoldsHalf}
use Rattle.machine_model.specs.Reset.{IsReset}
use Rattle.monitor_model.specs.declared.tables.SiteRecord.{SiteRecord}
use Rattle.monitor_model.specs.declared.tables.TargetRecord.{TargetRecord}
use Rattle.monitor_model.specs.declared.tables.Tables.{Tables}
use Rattle.monitor_model.specs.Records.{targets_of}
use Rattle.monitor_model.specs.Layout.{initial_word_count}
use Rattle.monitor_model.specs.Regions.{regions_for}
use Rattle.monitor_model.specs.Area.{HasTables}
use Rattle.monitor_model.specs.BlockWords.{current, top, depth, saved_current, saved_top}
use Rattle.monitor_model.specs.Reach.{AllBytes, StoreKind, LoadKind, StartKind}

module _ (i : Image) (t : Tables) where
  -- ---- protection, at one state

  pub record IsProtected (s : State) : Type 0 where
    pub thread : s.protection.handler ≡ false
    pub unprivileged : s.protection.unprivileged ≡ true
    pub on_psp : s.core.on_psp ≡ true
    pub control : s.protection.mpu.control ≡ 5
    pub regions : s.protection.mpu.regions ≡ regions_for i t (current i t s.ram) (top i t s.ram)

  -- ---- switches, between two states of the thread

  -- SVC #n stands at the program counter
  abbrev pub IsSvc : ℕ → State → Type 0
  IsSvc n s = HoldsHalf i s.core.pc (0xDF00 + n)

  -- SVC 0 by a site's record, whose number stands behind it, to the entry of one of the site's targets
  pub record Crosses (s u : State) : Type 0 where
    pub is_svc : IsSvc 0 s
    pub number : ℕ
    pub site : SiteRecord
    pub is_site : slice_get t.sites number ≡ Some site
    pub returns : site.ret ≡ s.core.pc + 2
    pub has_number : HoldsHalf i (s.core.pc + 2) number
    pub target : TargetRecord
    pub is_target : Contains (targets_of t site) target
    pub arrives : current i t u.ram ≡ target.compartment
    -- bit 0 of the record's entry is set
    pub begins : u.core.pc + 1 ≡ target.entry

  -- SVC 1, back to the last saved entry
  pub record ComesBack (s u : State) : Type 0 where
    pub is_svc : IsSvc 1 s
    pub deep : 0 < depth i t s.ram
    pub to_current : current i t u.ram ≡ saved_current i t s.ram (depth i t s.ram - 1)
    pub to_top : top i t u.ram ≡ saved_top i t s.ram (depth i t s.ram - 1)

  abbrev pub Stays : State → State → Type 0
  Stays s u = (current i t u.ram ≡ current i t s.ram) × (top i t u.ram ≡ top i t s.ram)

  -- ---- a run

  module _ (first : State) where
    abbrev pub later : ℕ → State
    later n = run (step i) n first

    -- start-up is over where an earlier step, or this one, begins unprivileged
    abbrev pub HasStarted : ℕ → Type 0
    HasStarted n = (k : ℕ) × (k ≤ n) × (is_unprivileged (later k).protection ≡ true)

    -- the steps before the first one that begins unprivileged
    pub record StartUp : Type 0 where
      pub count : ℕ
      pub within : count ≤ 4096 + 64 * initial_word_count t
      pub over : is_unprivileged (later count).protection ≡ true
      pub privileged : (k : ℕ) → k < count → is_unprivileged (later k).protection ≡ false
      pub quiet : (k : ℕ) → k < count → event i (later k) ≡ None
      pub stores : (k : ℕ) → k < count → Each (AllBytes (StartKind t)) (turn by_mpu i (later k)).stores

    -- both begin a step in Thread mode, and all between them one in Handler mode
    pub record AreNext (m n : ℕ) : Type 0 where
      pub earlier : m < n
      pub from_thread : (later m).protection.handler ≡ false
      pub to_thread : (later n).protection.handler ≡ false
      pub between : (k : ℕ) → m < k → k < n → (later k).protection.handler ≡ true

    pub record RunIsConfined : Type 0 where
      pub start_up : StartUp
      -- every store of a later step, the pushes of an exception entry included
      pub stores : (n : ℕ) → HasStarted n → Each (AllBytes (StoreKind i t (later n))) (turn by_mpu i (later n)).stores
      pub protection : (n : ℕ) → HasStarted n → (later n).protection.handler ≡ false → IsProtected (later n)
      pub switches : (m n : ℕ) → HasStarted m → AreNext m n → Stays (later m) (later n) ⊎ (Crosses (later m) (later n) ⊎ ComesBack (later m) (later n))
      -- every load of data of a later step, the vector and the words that a return unstacks included
      pub loads : i.closed ≡ true → (n : ℕ) → HasStarted n → Each (AllBytes (LoadKind i t (later n))) (turn by_mpu i (later n)).loads

  -- for every recorded input, and whatever a reset leaves in registers and in RAM
  pub record Confined : Type 0 where
    pub tables : HasTables i t
    pub runs : (queues : List (List ℕ)) (first : State) → IsReset i queues first → RunIsConfined first
