-- All that the linker promises, from the parts.
use Rattle.machine_devices.specs.Rules.{ObeysRules}
use Rattle.monitor_program.specs.TheCode.{monitor_code}
use Rattle.image_promises.specs.Laws.{OfPlanned}
use Rattle.image_promises.specs.Parts.{LoansAreKept, KindsAgree, WindowsArePromised, CodeIsPlaced}
use Rattle.image_promises.specs.CodeInFlash.{CodeLies, StubIsPlaced}
use Rattle.image_promises.specs.Globals.{GlobalsArePlaced}
use Rattle.image_promises.specs.InitialWords.{GlobalsBegin}
use Rattle.image_promises.specs.Regions.{MemoryObeysRules}
use Rattle.image_promises.specs.Sites.{TargetsAreThere}
use Rattle.image_promises.specs.Whole.{PlannedImagesAreLinked}

-- each of them, of every planned image
pub record Promises : Type 0 where
  pub rules : OfPlanned (λ i t. ObeysRules i)
  pub memory : MemoryObeysRules
  pub placed : CodeIsPlaced
  pub lies : CodeLies
  pub targets : TargetsAreThere
  pub stub : StubIsPlaced
  pub globals : GlobalsArePlaced
  pub initial : GlobalsBegin
  pub windows : WindowsArePromised
  pub loans : LoansAreKept
  pub kind : KindsAgree

pub are_linked : Promises → PlannedImagesAreLinked
are_linked p w n f b is =
    let placed = p.placed monitor_code w n f b is in
    let stub = p.stub w n f b is in
    let globals = p.globals monitor_code w n f b is in
    record {
      rules = p.memory monitor_code w n f b is;
      code = record {
        count = placed.count;
        each = placed.each;
        lies = p.lies monitor_code w n f b is (p.rules w n f b is);
        inside = placed.inside;
        aligned = placed.aligned;
        targets = p.targets monitor_code w n f b is;
        main = placed.main;
        main_compartment = placed.main_compartment;
        stub_even = stub.even;
        stub_low = stub.low;
      };
      globals = record {
        count = globals.count;
        from_base = globals.from_base;
        to_end = globals.to_end;
        inside = globals.inside;
        aligned = globals.aligned;
        laid = globals.laid;
        off = globals.off;
        initial = p.initial monitor_code w n f b is;
        loads = globals.loads;
        stores = globals.stores;
      };
      windows = p.windows monitor_code w n f b is;
      loans = p.loans monitor_code w n f b is;
      kind = p.kind monitor_code w n f b is;
    }
