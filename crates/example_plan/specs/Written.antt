-- Beyond the program's claim: only laws, proofs and functions inside the tool cite this file.
-- Short ways to write needs and programs down.
use Rattle.std.specs.Prelude.{ℕ, List, [], false}
use Rattle.ir_model.specs.declared.object.ObjId.{ObjId}
use Rattle.ir_model.specs.Resolved.{NumberedGlobal, NumberedWindow, Program}
use Rattle.machine_protection.specs.declared.region.Region.{Region}
use Rattle.plan_model.specs.declared.needs.FuncNeed.{FuncNeed}
use Rattle.plan_model.specs.declared.needs.SiteNeed.{SiteNeed}
use Rattle.plan_model.specs.declared.graph.DataRegion as regions
use Rattle.plan_model.specs.declared.graph.Cover.{Cover}
use Rattle.plan_model.specs.declared.plan.Board.{Board}
use Rattle.plan_model.specs.declared.plan.Lowest.TheVariants.{Largest}
use Rattle.plan_model.specs.declared.plan.Spot.{Spot}

abbrev pub need : (written read : List ObjId) → (periphs callees : List ℕ) → FuncNeed
need ws rs ps cs = record { written = ws; read = rs; periphs = ps; callees = cs }

abbrev pub site : (func block inst : ℕ) → (targets : List ℕ) → SiteNeed
site f b k ts = record { func = f; block = b; inst = k; targets = ts }

-- a global of so many bytes; placement looks at no cells
abbrev pub global : (size align : ℕ) → NumberedGlobal
global n a = record { constant = false; shape = record { size = n; align = a; cells = [] }; init = [] }

abbrev pub window : (base size : ℕ) → NumberedWindow
window b n = record { base = b; size = n }

-- globals and peripherals, without code
abbrev pub data_of : List NumberedGlobal → List NumberedWindow → Program
data_of gs ws = record { globals = gs; periphs = ws; funcs = []; files = []; main = 0 }

abbrev pub data_region : (globals writers readers : List ℕ) → regions.DataRegion
data_region gs ws rs = record { globals = gs; writers = ws; readers = rs }

abbrev pub cover : (base size : ℕ) → Cover
cover b n = record { base = b; size = n }

abbrev pub spot : (base size : ℕ) → Spot
spot b n = record { base = b; size = n }

abbrev pub words : (rbar rasr : ℕ) → Region
words b s = record { rbar = b; rasr = s }

-- flash of 256 KiB and RAM of 64 KiB with a stack of 2 KiB; the unit has eight regions, and loads are not confined
abbrev pub board : Board
board =
    record {
      flash_base = 0x08000000;
      flash_size = 0x40000;
      ram_base = 0x20000000;
      ram_size = 0x10000;
      stack = 2048;
      lowest = Largest;
      regions = 8;
      closed = false;
      denied = [];
    }
