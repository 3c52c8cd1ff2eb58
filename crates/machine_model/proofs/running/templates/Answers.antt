use Rattle.machine_model.proofs.Gathered.{register_steps, branch_steps, stack_steps, transfer_steps, special_steps, thread_steps}
use Rattle.machine_model.proofs.running.templates.Goals as goal

pub returns-clause-of_registers : goal.returns-clause-of_registers
returns-clause-of_registers c = register_steps

pub returns-clause-of_branches : goal.returns-clause-of_branches
returns-clause-of_branches c = branch_steps

pub returns-clause-of_stack : goal.returns-clause-of_stack
returns-clause-of_stack c = stack_steps

pub returns-clause-of_transfers : goal.returns-clause-of_transfers
returns-clause-of_transfers c = transfer_steps

pub returns-clause-of_special : goal.returns-clause-of_special
returns-clause-of_special c = special_steps

pub returns-clause-of_threads : goal.returns-clause-of_threads
returns-clause-of_threads c = thread_steps
