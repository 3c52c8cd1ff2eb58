use Rattle.std.proofs.Common.{ap, ◌∙◌}
use Rattle.machine_emulator.specs.Machine.{MachineState}
use Rattle.machine_output.specs.Runs.{fill}
use Rattle.aces_selftest.proofs.Starts.{machine_goes}
use Rattle.aces_selftest.proofs.runs.run_image.Goals as goal

pub count_machine-requires : goal.count_machine-requires
count_machine-requires c = ap (λ (m : MachineState). m.state.ending) c.in_ok-machine.ensures ∙ machine_goes c.args.image.now c.args.tape fill
