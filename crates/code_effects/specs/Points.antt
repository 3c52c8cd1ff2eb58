-- Beyond the program's claim: only laws, proofs and functions inside the tool cite this file.
-- Where a thread stands in generated code, and runs from one such point to another.
use Rattle.std.specs.Prelude.{◌≡◌, ℕ, ◌+◌, List, [], ◌++◌, length, map, Option, Some, None}
use Rattle.std.proofs.Math.ListN.{get_or, set}
use Rattle.base_words.specs.declared.conditions.Flags.{Flags}
use Rattle.machine_devices.specs.declared.image.Image.{Image}
use Rattle.base_events.specs.declared.event.Event.{Event}
use Rattle.machine_devices.specs.Rules.{ObeysRules}
use Rattle.machine_model.specs.declared.state.End.{End}
use Rattle.machine_model.specs.State.{State, PermissionTest}
use Rattle.machine_model.specs.Code.{Runs}
use Rattle.machine_model.specs.Shape.{StateFits}
use Rattle.machine_model.specs.RunningCode.{Context, works}

-- what is known of a thread between two of its instructions. `registers` has what r0 and the registers behind it hold, as far as that
-- is known: no code counts on the others, nor on the flags
pub record Point : Type 0 where
  pub context : Context
  pub registers : List (Option ℕ)
  pub sp : ℕ
  pub lr : ℕ
  pub pc : ℕ
  pub ram : List ℕ
  pub queues : List (List ℕ)

-- r0 to r7 hold what is known of them
pub record AreAsKnown (known : List (Option ℕ)) (low : List ℕ) : Type 0 where
  pub eight : length low ≡ 8
  pub each : (k v : ℕ) → get_or known k None ≡ Some v → get_or low k 0 ≡ v

-- these words stand in r0 and the registers behind it
abbrev pub known : List ℕ → List (Option ℕ)
known vs = map Some vs

-- with this word in r12
abbrev pub with_r12 : Context → ℕ → Context
with_r12 x v = record x { high = set x.high 4 v }

abbrev pub state_at : Point → (low : List ℕ) → Flags → State
state_at p low f = works p.context low p.sp p.lr p.pc f p.ram p.queues

-- `count` steps lead from this state to that point
pub record Arrives (j : PermissionTest) (i : Image) (count : ℕ) (s : State) (q : Point) (es : List Event) : Type 0 where
  pub low : List ℕ
  pub flags : Flags
  pub holds : AreAsKnown q.registers low
  pub runs : Runs j i count s (state_at q low flags) es

-- and from a point, whatever its other registers and its flags are
pub record Leads (j : PermissionTest) (i : Image) (count : ℕ) (p q : Point) (es : List Event) : Type 0 where
  pub arrives : (low : List ℕ) (f : Flags) → AreAsKnown p.registers low → Arrives j i count (state_at p low f) q es

-- `count` steps lead from this state to this end
pub record Reaches (j : PermissionTest) (i : Image) (count : ℕ) (s : State) (e : End) (es : List Event) : Type 0 where
  pub last : State
  pub over : last.ending ≡ Some e
  pub runs : Runs j i count s last es

pub record Finishes (j : PermissionTest) (i : Image) (count : ℕ) (p : Point) (e : End) (es : List Event) : Type 0 where
  pub reaches : (low : List ℕ) (f : Flags) → AreAsKnown p.registers low → Reaches j i count (state_at p low f) e es

-- one run behind another; and where less need be known of registers, less is enough
pub record RunsJoin : Type 0 where
  pub join : (j : PermissionTest) (i : Image) (m n : ℕ) (p q r : Point) (xs ys : List Event) → Leads j i m p q xs → Leads j i n q r ys → Leads j i (m + n) p r (xs ++ ys)
  pub finish : (j : PermissionTest) (i : Image) (m n : ℕ) (p q : Point) (e : End) (xs ys : List Event) → Leads j i m p q xs → Finishes j i n q e ys → Finishes j i (m + n) p e (xs ++ ys)
  pub forget : (j : PermissionTest) (i : Image) (n : ℕ) (p q : Point) (es : List Event) → Leads j i n p q es → Leads j i n p (record q { registers = [] }) es

-- a run keeps what every step keeps of a state: how many registers there are, that they hold words, and the like
abbrev pub RunsFit : Type 0
RunsFit = (j : PermissionTest) (i : Image) (k : ℕ) (s t : State) (es : List Event) → ObeysRules i → StateFits i s → Runs j i k s t es → StateFits i t
