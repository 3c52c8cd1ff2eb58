use Rattle.std.proofs.Common.{refl, min}
use Rattle.std.specs.Prelude.{unwrap_or}
use Rattle.base_outside.specs.Memory.{held, room_left}
use Rattle.base_outside.proofs.Appends.{IsAppend, adds_all, elsewhere, cause, missing, adds_prefix}
use Rattle.base_outside.proofs.mem_files.MemFilesFiles.TheImpl.Goals as goal

pub append-tells : goal.append-tells
append-tells c =
    let n = min c.args.self.now.keep (unwrap_or (room_left c.args.self.now c.args.name.now) 0)
    in let told : IsAppend c.args.self.now.entries c.new.self.now.entries c.args.name.now c.args.piece.now n
    c.args.self.now.write_faults c.new.self.now.write_faults (held c.args.self.now c.args.name.now) c.result =
    record { is_held = refl; ok = c.ensures.ok; err = c.ensures.err; missing = c.ensures.missing; faults = c.ensures.faults }
    in record {
      bytes = λ _. adds_all _ _ _ _ _ _ _ _ _ told;
      answer = (tt, c.ensures.passes.calls);
      elsewhere = elsewhere _ _ _ _ _ _ _ _ _ told;
      cause = cause _ _ _ _ _ _ _ _ _ told;
      missing = λ _. missing _ _ _ _ _ _ _ _ _ told;
      failed = adds_prefix _ _ _ _ _ _ _ _ _ told;
      reads = c.ensures.reads;
      writes = c.ensures.writes;
    }
