-- Beyond the program's claim: only laws, proofs and functions inside the tool cite this file.
-- What is made: lists of steps, and the constants that they take of the tables.
use Rattle.std.specs.Prelude.{◌≡◌}
use Rattle.monitor_steps.specs.Steps.{PrivilegedSteps}
use Rattle.monitor_steps.specs.Lists.{all_before, steps_of}
use Rattle.monitor_program.specs.Constants.{Constants}
use Rattle.monitor_lists.specs.declared.numbers.Numbers.{Numbers}
use Rattle.monitor_lists.specs.declared.list.StepList.{StepList}

-- steps were put behind all that a list has
abbrev pub Appends : (old new : StepList) → (PrivilegedSteps → PrivilegedSteps) → Type 0
Appends old new f = (rest : PrivilegedSteps) → all_before new.steps.items rest ≡ all_before old.steps.items (f rest)

-- and with them the list ends
abbrev pub Ends : (old new : StepList) → (end : PrivilegedSteps) → Type 0
Ends old new end = steps_of new.steps.items ≡ all_before old.steps.items end

-- the constants as the definitions have them
abbrev pub constants_of : Numbers → Constants
constants_of n = record {
  slots = n.slots;
  block = n.block;
  loans_at = n.loans_at;
  block_end = n.block_end;
  stack = n.stack;
  stack_end = n.stack_end;
  eighth = n.eighth;
  compartments_at = n.compartments_at;
  sites_at = n.sites_at;
  sites = n.sites;
  targets_at = n.targets_at;
  lends_at = n.lends_at;
  lends = n.lends;
  inits_at = n.inits_at;
  inits = n.inits;
  words = n.words;
  background = n.background;
  tables = n.tables;
  stack_region = n.stack_region;
  main = n.main;
  main_compartment = n.main_compartment;
  stub_entry = n.stub_entry;
  closed = n.closed;
}
