-- The board for which generated firmwares are compiled.
use Rattle.std.specs.Prelude.{[], false}
use Rattle.plan_model.specs.declared.plan.Board.{Board}
use Rattle.plan_model.specs.declared.plan.Lowest.TheVariants.{Largest}

-- flash of 256 KiB, and RAM of 64 KiB with a stack of 2 KiB; the protection unit has eight regions, and loads are not confined
abbrev pub test_board : Board
test_board =
    record {
      flash_base = 0x08000000;
      flash_size = 0x40000;
      ram_base = 0x20000000;
      ram_size = 0x10000;
      stack = 2048;
      lowest = Largest;
      regions = 8;
      closed = false;
      denied = [];
    }
