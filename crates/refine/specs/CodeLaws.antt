-- Beyond the program's claim: only laws, proofs and functions inside the tool cite this file.
-- The laws of generated code and of its sizes that runs of threads rest on.
use Rattle.std.specs.Prelude.{ℕ, List, Option}
use Rattle.machine_devices.specs.declared.image.Image.{Image}
use Rattle.machine_model.specs.State.{PermissionTest}
use Rattle.ir_model.specs.Resolved.{NumberedFunc}
use Rattle.code_model.specs.declared.places.Places.{Places}
use Rattle.code_model.specs.Laws.{CompartmentsHold, SitesAgree, SizesAreEven}
use Rattle.code_effects.specs.Points.{Point, RunsFit}
use Rattle.code_effects.specs.Items.{ItemsStand}
use Rattle.code_effects.specs.Functions.{FunctionsStand}
use Rattle.code_effects.specs.Compartments.{CompartmentsStand}
use Rattle.code_effects.specs.Sources.{SourceEffects}
use Rattle.code_effects.specs.Accesses.{LoadEffects, StoreEffects, AccessesHaveWidths}
use Rattle.code_effects.specs.Branches.{BranchEffects}
use Rattle.code_effects.specs.Calls.{CallEffects, CrossingEffects, ReturnedEffects}
use Rattle.code_effects.specs.Entry.{EntryEffects}
use Rattle.code_effects.specs.Returns.{ReturnEffects}

pub record CodeLaws : Type 0 where
  -- where code stands
  pub even : SizesAreEven
  pub aligned : CompartmentsHold
  pub sites : SitesAgree
  pub items : ItemsStand
  pub functions : FunctionsStand
  pub compartments : CompartmentsStand
  -- what every run keeps
  pub fit : RunsFit
  -- what each template does
  pub sources : (j : PermissionTest) (i : Image) (g : NumberedFunc) (q : Places) (labels : List (Option ℕ)) (site : Option ℕ) (p : Point) (o n : ℕ) → SourceEffects j i g q labels site p o n
  pub loads : (j : PermissionTest) (i : Image) (g : NumberedFunc) (q : Places) (labels : List (Option ℕ)) (site : Option ℕ) (p : Point) (o n : ℕ) → LoadEffects j i g q labels site p o n
  pub stores : (j : PermissionTest) (i : Image) (g : NumberedFunc) (q : Places) (labels : List (Option ℕ)) (site : Option ℕ) (p : Point) (o n : ℕ) → StoreEffects j i g q labels site p o n
  pub widths : AccessesHaveWidths
  pub branches : (j : PermissionTest) (i : Image) (g : NumberedFunc) (q : Places) (labels : List (Option ℕ)) (first : ℕ) (p : Point) (o n : ℕ) → BranchEffects j i g q labels first p o n
  pub entry : (j : PermissionTest) (i : Image) (g : NumberedFunc) (q : Places) (labels : List (Option ℕ)) (p : Point) (o to : ℕ) → EntryEffects j i g q labels p o to
  pub within : (j : PermissionTest) (i : Image) (g : NumberedFunc) (q : Places) (labels : List (Option ℕ)) (p : Point) (o n : ℕ) → CallEffects j i g q labels p o n
  pub across : (j : PermissionTest) (i : Image) (g : NumberedFunc) (q : Places) (labels : List (Option ℕ)) (p : Point) (o n : ℕ) → CrossingEffects j i g q labels p o n
  pub returned : (j : PermissionTest) (i : Image) (g : NumberedFunc) (q : Places) (labels : List (Option ℕ)) (p : Point) (o n : ℕ) → ReturnedEffects j i g q labels p o n
  pub returns : (j : PermissionTest) (i : Image) (g : NumberedFunc) (q : Places) (labels : List (Option ℕ)) (first : ℕ) (p : Point) (o at : ℕ) → ReturnEffects j i g q labels first p o at
