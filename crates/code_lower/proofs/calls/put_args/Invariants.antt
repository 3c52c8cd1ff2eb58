use Rattle.std.proofs.Common.{◌≡◌, drop}
use Rattle.code_model.specs.Words.{plain}
use Rattle.code_model.specs.Calls.{args_code}
use Rattle.code_model.specs.Emitted.{with_more, HasRoom}
use Rattle.code_lower.proofs.calls.put_args.Given as goal

-- what was put and what is left are the whole
abbrev pub invariant-loop-register : goal.invariant-loop-register
invariant-loop-register l =
    record {
      whole : with_more l.asm (plain (args_code l.register (drop l.register l.args))) ≡ with_more l.initial.asm (plain (args_code 0 l.args));
      room : HasRoom l.asm (plain (args_code l.register (drop l.register l.args)));
    }
