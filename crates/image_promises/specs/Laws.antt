-- Beyond the program's claim: only laws, proofs and functions inside the tool cite this file.
-- What holds of the image and of the tables of every planned firmware: statements of laws.
use Rattle.std.specs.Prelude.{◌≡◌, ℕ, ◌+◌, ◌-◌, ◌*◌, ◌%◌, ◌<◌, length, slice_index, None}
use Rattle.base_words.specs.Bytes.{read, cut}
use Rattle.ir_model.specs.Plain.{PlainFirmware}
use Rattle.plan_model.specs.declared.needs.Needs.{Needs}
use Rattle.plan_model.specs.declared.graph.Final.{Final}
use Rattle.plan_model.specs.declared.plan.Board.{Board}
use Rattle.machine_devices.specs.declared.image.Image.{Image}
use Rattle.monitor_model.specs.declared.tables.Tables.{Tables}
use Rattle.ir_model.specs.Resolve.{resolve}
use Rattle.plan_model.specs.Placement.{compartment_spot}
use Rattle.code_model.specs.Planned.{planned_code}
use Rattle.monitor_model.specs.Area.{area}
use Rattle.monitor_program.specs.Page as first
use Rattle.monitor_model.specs.Layout.{page_size}
use Rattle.monitor_model.specs.Checks.{header_fails, tables_fail}
use Rattle.monitor_model.specs.Promises.{RangesAreApart}
use Rattle.image_promises.specs.Planned.{planned_tables, planned_image}
use Rattle.plan.specs.PlannedFirmwares.{IsPlanned, plan}

-- of the image and the tables of each planned firmware
abbrev pub OfPlanned : (Image → Tables → Type 0) → Type 0
OfPlanned P = (w : PlainFirmware) (n : Needs) (f : Final) (b : Board) → IsPlanned w n f b → P (planned_image w n f b) (planned_tables w n f b)

-- no two ranges with initial words have an address in common
abbrev pub PlannedRangesAreApart : Type 0
PlannedRangesAreApart = OfPlanned (λ i t. RangesAreApart t.inits)

-- ---- checks of an image that do not fail

abbrev pub HeadersPass : Type 0
HeadersPass = OfPlanned (λ i t. header_fails i ≡ None)

abbrev pub TablesPass : Type 0
TablesPass = OfPlanned (λ i t. tables_fail i t ≡ None)

-- ---- what the flash of an image has: what is written last leaves what was written before it

pub record FlashReadsBack : Type 0 where
  -- the page of its tables, as bytes
  pub page : (w : PlainFirmware) (n : Needs) (f : Final) (b : Board) → IsPlanned w n f b → (k : ℕ) → k < page_size →
      slice_index (planned_image w n f b).flash k ≡ slice_index (first.page (planned_tables w n f b)) k % 256
  -- behind it the words of its tables, cut to 32 bits
  pub words : (w : PlainFirmware) (n : Needs) (f : Final) (b : Board) → IsPlanned w n f b → (k : ℕ) → k < length (area (planned_tables w n f b)) →
      read 4 (page_size + 4 * k) (planned_image w n f b).flash ≡ cut 4 (slice_index (area (planned_tables w n f b)) k)
  -- and in each compartment's block its code
  pub code : (w : PlainFirmware) (n : Needs) (f : Final) (b : Board) → IsPlanned w n f b → (c k : ℕ) → c < f.groups.count → k < length (planned_code (resolve w) n f (plan w n f b) c) →
      slice_index (planned_image w n f b).flash ((compartment_spot (plan w n f b) c).base - b.flash_base + k) ≡ slice_index (planned_code (resolve w) n f (plan w n f b) c) k % 256
