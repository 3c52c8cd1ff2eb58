-- The fields of a board in a document, in the order in which they are tested: a key has to be there, then to have its kind,
-- then to have a value that it may have.
use Rattle.std.specs.Prelude.{ℕ, ℤ, pos, negsuc, List, [], Bool, true, false, Option, Some, None, Result, Ok, Err, if◌then◌else◌, bytes_eq, codes}
use Rattle.plan_model.specs.declared.plan.Board.{Board}
use Rattle.plan_model.specs.declared.plan.Lowest.{Lowest}
use Rattle.plan_model.specs.declared.plan.Lowest.TheVariants.{Largest, Stack}
use Rattle.plan_model.specs.declared.plan.Spot.{Spot}
use Rattle.toml.specs.Data.{Data, Members, get_member, as_table, as_integer, as_str}
use Rattle.plan_board.specs.declared.key.Key.{Key}
use Rattle.plan_board.specs.declared.key.Key.TheVariants.{Flash, FlashBase, FlashSize, Ram, RamBase, RamSize, RamStack, RamLowest, Mpu, MpuRegions, MpuReads}
use Rattle.plan_board.specs.declared.document.KeyFault.{KeyFault}
use Rattle.plan_board.specs.declared.document.KeyFault.TheVariants.{Missing, Kind, Range}
use Rattle.plan_board.specs.declared.fields.Unit.{Unit}
use Rattle.plan_board.specs.Keys.{word_of, allows}

-- ---- tests, one behind the other

-- the next one, where one holds
abbrev pub and_then : {X Y : Type 0} → Result X KeyFault → (X → Result Y KeyFault) → Result Y KeyFault
and_then (Ok x) f = f x
and_then (Err e) f = Err e

-- what has to be there
abbrev pub present : {X : Type 0} → Key → Option X → Result X KeyFault
present k None = Err (Missing k)
present k (Some x) = Ok x

-- what has to be of a kind
abbrev pub of_kind : {X : Type 0} → Key → Option X → Result X KeyFault
of_kind k None = Err (Kind k)
of_kind k (Some x) = Ok x

-- an integer that has to be a number that the key may have
abbrev pub allowed : Key → ℤ → Result ℕ KeyFault
allowed k (pos n) = if allows k n then Ok n else Err (Range k)
allowed k (negsuc n) = Err (Range k)

-- ---- values

abbrev pub table_of : Key → Data → Result Members KeyFault
table_of k d = of_kind k (as_table d)

abbrev pub number_of : Key → Data → Result ℕ KeyFault
number_of k d = and_then (of_kind k (as_integer d)) (allowed k)

-- whether loads are confined as stores are, by the text `open` or `closed`
abbrev pub is_closed : List ℕ → Result Bool KeyFault
is_closed text =
    if bytes_eq text (codes "open") then Ok false else (if bytes_eq text (codes "closed") then Ok true else Err (Range MpuReads))

-- which block stands where RAM begins, by the text `size` or `stack`
abbrev pub lowest_named : List ℕ → Result Lowest KeyFault
lowest_named text =
    if bytes_eq text (codes "size") then Ok Largest else (if bytes_eq text (codes "stack") then Ok Stack else Err (Range RamLowest))

-- ---- what has to be there

abbrev pub value_at : Key → Members → Result Data KeyFault
value_at k ms = present k (get_member (word_of k) ms)

abbrev pub table_at : Key → Members → Result Members KeyFault
table_at k ms = and_then (value_at k ms) (table_of k)

abbrev pub number_at : Key → Members → Result ℕ KeyFault
number_at k ms = and_then (value_at k ms) (number_of k)

-- ---- flash

abbrev pub flash_of : Members → Result Spot KeyFault
flash_of ms =
    and_then (table_at Flash ms) (λ flash.
    and_then (number_at FlashBase flash) (λ base.
    and_then (number_at FlashSize flash) (λ size.
    Ok (record { base = base; size = size }))))

-- ---- the block that stands where RAM begins, whose key need not be there

abbrev pub lowest_by : Option Data → Result Lowest KeyFault
lowest_by None = Ok Largest
lowest_by (Some d) = and_then (of_kind RamLowest (as_str d)) lowest_named

abbrev pub lowest_of : Members → Result Lowest KeyFault
lowest_of ram = lowest_by (get_member (word_of RamLowest) ram)

-- ---- the protection unit, whose table and keys need not be there

abbrev pub regions_by : Option Data → Result ℕ KeyFault
regions_by None = Ok 8
regions_by (Some d) = number_of MpuRegions d

abbrev pub regions_of : Members → Result ℕ KeyFault
regions_of mpu = regions_by (get_member (word_of MpuRegions) mpu)

abbrev pub closed_by : Option Data → Result Bool KeyFault
closed_by None = Ok false
closed_by (Some d) = and_then (of_kind MpuReads (as_str d)) is_closed

abbrev pub closed_of : Members → Result Bool KeyFault
closed_of mpu = closed_by (get_member (word_of MpuReads) mpu)

abbrev pub unit_in : Members → Result Unit KeyFault
unit_in mpu =
    and_then (regions_of mpu) (λ regions.
    and_then (closed_of mpu) (λ closed.
    Ok (record { regions = regions; closed = closed })))

abbrev pub unit_by : Option Data → Result Unit KeyFault
unit_by None = Ok (record { regions = 8; closed = false })
unit_by (Some d) = and_then (table_of Mpu d) unit_in

abbrev pub unit_of : Members → Result Unit KeyFault
unit_of ms = unit_by (get_member (word_of Mpu) ms)

-- ---- all of them, as of a board that denies nothing

unfoldable pub board_of : Members → Result Board KeyFault
board_of ms =
    and_then (flash_of ms) (λ flash.
    and_then (table_at Ram ms) (λ ram.
    and_then (number_at RamBase ram) (λ ram_base.
    and_then (number_at RamSize ram) (λ ram_size.
    and_then (number_at RamStack ram) (λ stack.
    and_then (lowest_of ram) (λ lowest.
    and_then (unit_of ms) (λ unit.
    Ok (record {
      flash_base = flash.base;
      flash_size = flash.size;
      ram_base = ram_base;
      ram_size = ram_size;
      stack = stack;
      lowest = lowest;
      regions = unit.regions;
      closed = unit.closed;
      denied = [];
    }))))))))
