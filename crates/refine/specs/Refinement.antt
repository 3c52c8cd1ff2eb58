-- Beyond the program's claim: only laws, proofs and functions inside the tool cite this file.
-- Every image that is linked of a typed firmware, with its least needs, refines it, where the monitor keeps its law.
use Rattle.std.specs.Prelude.{◌*◌}
use Rattle.machine_devices.specs.declared.image.Image.{Image}
use Rattle.ir_model.specs.Plain.{PlainFirmware}
use Rattle.ir_model.specs.Resolve.{resolve}
use Rattle.ir_model.specs.Canonical.{IsWithinLimits}
use Rattle.ir_model.specs.Typing.{IsTyped}
use Rattle.ir_laws.specs.Sets.{ObjectSets}
use Rattle.plan_model.specs.declared.needs.Needs.{Needs}
use Rattle.plan_model.specs.declared.groups.Groups.{Groups}
use Rattle.plan_model.specs.PointsTo.{IsLeast}
use Rattle.plan_model.specs.Needs.{AreNeeds}
use Rattle.code_model.specs.CompartmentCode.{CodePlaces}
use Rattle.monitor_model.specs.declared.tables.Tables.{Tables}
use Rattle.monitor_model.specs.Records.{eighth}
use Rattle.monitor_model.specs.Layout.{initial_word_count}
use Rattle.monitor_model.specs.MonitorCode.{MonitorCode}
use Rattle.monitor_model.specs.Setting.{Setting, setting_of}
use Rattle.monitor_model.specs.Invariant.{Invariant}
use Rattle.monitor_model.specs.Law.{Law}
use Rattle.refine_model.specs.Refines.{Refines}
use Rattle.refine.specs.Guard.{StackLaw}
use Rattle.refine.specs.NeverWrong.{RefinesOrStops}
use Rattle.refine.specs.Builds.{Build}
use Rattle.refine.specs.Linked.{Linked}

-- what was built of a firmware
abbrev pub build_of : PlainFirmware → Setting → Needs → Groups → CodePlaces → Build
build_of w g n groups places = record { setting = g; program = resolve w; needs = n; groups = groups; places = places }

-- an image with these tables, over the monitor's own invariant; `code` says where the monitor's stub stands
abbrev pub LinkedImagesRefine : Type 0
LinkedImagesRefine =
    (w : PlainFirmware) (S : ObjectSets) (code : MonitorCode) (i : Image) (t : Tables) (n : Needs) (groups : Groups) (places : CodePlaces)
    → IsTyped w → IsWithinLimits w → IsLeast (resolve w) S → AreNeeds (resolve w) S n.closed n
    → Law (setting_of code i t) (Invariant i t) → Linked (build_of w (setting_of code i t) n groups places)
    → Refines w n groups (8 * eighth t) (initial_word_count t) i

-- or stops for want of stack, however much its frames take, where the law of the stack holds
abbrev pub LinkedImagesRefineOrStop : Type 0
LinkedImagesRefineOrStop =
    (w : PlainFirmware) (S : ObjectSets) (code : MonitorCode) (i : Image) (t : Tables) (n : Needs) (groups : Groups) (places : CodePlaces)
    → IsTyped w → IsWithinLimits w → IsLeast (resolve w) S → AreNeeds (resolve w) S n.closed n
    → Law (setting_of code i t) (Invariant i t) → Linked (build_of w (setting_of code i t) n groups places)
    → StackLaw (setting_of code i t) (Invariant i t) → RefinesOrStops w groups (initial_word_count t) i
