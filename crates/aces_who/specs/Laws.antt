-- What the lines of `who` are beside those of `list`, and beside what a plan permits: statements of laws.
use Rattle.std.specs.Prelude.{◌≡◌, ℕ, not, ◌&&◌, sum_by}
use Rattle.ir_model.specs.declared.object.ObjId.TheVariants.{Global}
use Rattle.plan_model.specs.Exposure.{exposed_to_writes, exposed_to_reads}
use Rattle.plan_model.specs.Lists.{has}
use Rattle.plan_model.specs.Permission.{may_write, may_read}
use Rattle.plan_model.specs.Regions.{global_size}
use Rattle.plan_report.specs.Subjects.{Subject}
use Rattle.aces_who.specs.declared.ties.Access.TheVariants.{Write, Read}
use Rattle.aces_who.specs.Exposed.{exposed_globals, is_needed}

-- the bytes of the globals that are exposed to a compartment are together both numbers of its line `exposed` in `list`
pub record ExposuresAddUp (s : Subject) (c : ℕ) : Type 0 where
  pub writes : sum_by (global_size s.program) (exposed_globals s c Write) ≡ exposed_to_writes s.program s.needs s.graph.groups s.graph.regions c
  pub reads : sum_by (global_size s.program) (exposed_globals s c Read) ≡ exposed_to_reads s.program s.needs s.graph.groups s.graph.regions c

-- a global is exposed exactly where the plan lets the compartment write it, or read it, and none of its functions needs it
pub record ExposedAreUnneeded (s : Subject) (c x : ℕ) : Type 0 where
  pub writes : has (exposed_globals s c Write) x ≡ (may_write s.program s.needs s.graph c (Global x) && not (is_needed s c Write x))
  pub reads : has (exposed_globals s c Read) x ≡ (may_read s.program s.needs s.graph c (Global x) && not (is_needed s c Read x))

-- both hold of every firmware with its compartments on a board
abbrev pub ExposuresAreExact : Type 0
ExposuresAreExact = (s : Subject) (c : ℕ) → ExposuresAddUp s c × ((x : ℕ) → ExposedAreUnneeded s c x)
