use Rattle.std.proofs.Common.{◌≡◌, ◌+◌, ◌++◌, drop}
use Rattle.machine_thumb_asm.specs.Assembly as assembly
use Rattle.machine_thumb_asm.specs.Finished as finished
use Rattle.machine_thumb_asm.proofs.encoding.put_items.Given as goal

abbrev pub invariant-loop-item : goal.invariant-loop-item
invariant-loop-item l =
    record {
      far : finished.first_far l.places l.base l.items ≡ finished.first_far l.places l.at (drop l.item-index l.items);
      bytes : finished.bytes_from l.places l.base l.items ≡ l.bytes.items ++ finished.bytes_from l.places l.at (drop l.item-index l.items);
      room : l.at + assembly.total (drop l.item-index l.items) ≡ l.base + assembly.total l.items;
    }
