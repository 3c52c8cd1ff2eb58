-- Beyond the program's claim: only laws, proofs and functions inside the tool cite this file.
-- What stands in the flash of a planned image: statements of laws.
use Rattle.std.specs.Prelude.{◌≡◌, ℕ, ◌+◌, ◌-◌, ◌%◌, ◌^◌, ◌<◌, length, slice_index, None}
use Rattle.std.proofs.Math.ListN.{get_or}
use Rattle.machine_devices.specs.declared.image.Image.{Image}
use Rattle.machine_devices.specs.Rules.{ObeysRules}
use Rattle.ir_model.specs.Plain.{PlainFirmware}
use Rattle.ir_model.specs.Resolve.{resolve}
use Rattle.plan_model.specs.declared.needs.Needs.{Needs}
use Rattle.plan_model.specs.declared.graph.Final.{Final}
use Rattle.plan_model.specs.declared.plan.Board.{Board}
use Rattle.plan_model.specs.Placement.{compartment_spot}
use Rattle.code_model.specs.CompartmentCode.{compartment_items, compartment_labels}
use Rattle.code_model.specs.Planned.{planned_code}
use Rattle.code_effects.specs.Items.{ItemsIn}
use Rattle.monitor_model.specs.declared.tables.Tables.{Tables}
use Rattle.monitor_model.specs.Layout.{page_size}
use Rattle.monitor_program.specs.Page.{page}
use Rattle.monitor_model.specs.MonitorCode.{MonitorCode}
use Rattle.monitor_program.specs.TheCode.{monitor_code}
use Rattle.monitor_model.specs.Checks.{code_fails}
use Rattle.monitor_model.specs.FromFlash.{moved_word_at}
use Rattle.monitor_model.specs.Setting.{Setting}
use Rattle.refine.specs.Builds.{Build, groups_of}
use Rattle.image_promises.specs.Planned.{planned_image}
use Rattle.plan.specs.PlannedFirmwares.{IsPlanned, plan}
use Rattle.image_promises.specs.Laws.{OfPlanned}
use Rattle.image_promises.specs.Parts.{linked_build}

-- ---- the monitor's page

-- the check of the code of a planned image does not fail
abbrev pub CodePasses : Type 0
CodePasses = OfPlanned (λ i t. code_fails monitor_code.page i t ≡ None)

-- the first 4,096 bytes of flash are those of the page, of which none is cut
abbrev pub PageIsExact : Type 0
PageIsExact = OfPlanned (λ i t. (k : ℕ) → k < page_size → slice_index i.flash k ≡ slice_index (page t) k)

-- what is read back of the two words that start-up begins with: the entry of `main`, and its compartment
pub record MovesMain (i : Image) (t : Tables) : Type 0 where
  pub entry : moved_word_at monitor_code.main_entry_at i.flash ≡ t.main
  pub compartment : moved_word_at monitor_code.main_compartment_at i.flash ≡ t.main_comp

abbrev pub MainIsMoved : Type 0
MainIsMoved = OfPlanned MovesMain

-- the address of the leave stub is even, and with bit 0 set it is a word
pub record HasStub (g : Setting) : Type 0 where
  pub even : g.stub % 2 ≡ 0
  pub low : g.stub + 1 < 2 ^ 32

abbrev pub StubIsPlaced : Type 0
StubIsPlaced = (w : PlainFirmware) (n : Needs) (f : Final) (b : Board) → IsPlanned w n f b → HasStub (linked_build monitor_code w n f b).setting

-- ---- the code of compartments

-- the code of each compartment stands at its place
abbrev pub CodeStands : Build → Type 0
CodeStands k =
    (c : ℕ) → c < k.groups.count →
    ItemsIn k.setting.image (compartment_labels k.program (groups_of k) k.places c) (get_or k.places.bases c 0) (compartment_items k.program (groups_of k) k.places c)

abbrev pub CodeLies : Type 0
CodeLies =
    (code : MonitorCode) (w : PlainFirmware) (n : Needs) (f : Final) (b : Board) → IsPlanned w n f b → ObeysRules (planned_image w n f b) →
    CodeStands (linked_build code w n f b)

-- each compartment's block begins with its code, of which no byte is cut
abbrev pub CodeIsExact : Type 0
CodeIsExact =
    (w : PlainFirmware) (n : Needs) (f : Final) (b : Board) → IsPlanned w n f b → (c k : ℕ) → c < f.groups.count → k < length (planned_code (resolve w) n f (plan w n f b) c) →
    slice_index (planned_image w n f b).flash ((compartment_spot (plan w n f b) c).base - b.flash_base + k) ≡ slice_index (planned_code (resolve w) n f (plan w n f b) c) k
