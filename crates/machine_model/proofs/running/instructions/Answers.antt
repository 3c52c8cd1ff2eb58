use Rattle.machine_model.proofs.Exec.{code_may_run, code_has_parts}
use Rattle.machine_model.proofs.Gathered.{steps_are_acts, act_steps, exception_steps, runs_go_on}
use Rattle.machine_model.proofs.CodeBytes.{bytes_are_code}
use Rattle.machine_model.proofs.CodeParts.{code_at-append, code_at_joined, code_size-append, code_size-even}
use Rattle.machine_model.proofs.Turns.{whole_turns}
use Rattle.machine_model.proofs.running.instructions.Goals as goal

pub returns-clause-performed : goal.returns-clause-performed
returns-clause-performed c = steps_are_acts

pub returns-clause-by_act : goal.returns-clause-by_act
returns-clause-by_act c = act_steps

pub returns-clause-of_exceptions : goal.returns-clause-of_exceptions
returns-clause-of_exceptions c = exception_steps

pub returns-clause-in_runs : goal.returns-clause-in_runs
returns-clause-in_runs c = runs_go_on

pub returns-clause-may_run : goal.returns-clause-may_run
returns-clause-may_run c = code_may_run

pub returns-clause-has_parts : goal.returns-clause-has_parts
returns-clause-has_parts c = code_has_parts

pub returns-clause-from_bytes : goal.returns-clause-from_bytes
returns-clause-from_bytes c = bytes_are_code

pub returns-clause-by_turn : goal.returns-clause-by_turn
returns-clause-by_turn c = whole_turns

pub returns-clause-stands_by_parts : goal.returns-clause-stands_by_parts
returns-clause-stands_by_parts c j i p xs ys pc = (code_at-append j i p xs ys pc, code_at_joined j i p xs ys pc)

pub returns-clause-sizes : goal.returns-clause-sizes
returns-clause-sizes c = code_size-append

pub returns-clause-even_sizes : goal.returns-clause-even_sizes
returns-clause-even_sizes c = code_size-even
