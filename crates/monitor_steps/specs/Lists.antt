-- Beyond the program's claim: only laws, proofs and functions inside the tool cite this file.
-- Vectors of steps, as the program has them, as lists of the language.
use Rattle.std.specs.Prelude.{◌/◌, List, [], ◌∷◌}
use Rattle.base_words.specs.Width.{byte_count}
use Rattle.monitor_steps.specs.declared.steps.PrivilegedStep.{PrivilegedStep}
use Rattle.monitor_steps.specs.declared.steps.PrivilegedStep.TheOpen.{PrivilegedStep-F, Const as Number, Copy as Copied, Load as Loaded, Store as Stored, Alu as Operation, ReadPsp as PspRead, WritePsp as PspWritten, WriteControl as ControlWritten, Test as Tested, Repeat as Repeated, Halt as Halted, Return as Returned, Go as Gone}
use Rattle.monitor_steps.specs.declared.steps.PrivilegedStep.TheFolds.{fold-PrivilegedStep}
use Rattle.monitor_steps.specs.Steps.{PrivilegedSteps, End, Const, Copy, Load, Store, Alu, ReadPsp, WritePsp, WriteControl, Test, Repeat, Halt, Return, Go}

-- lists one in front of the other, each given as what it makes of the rest behind it
abbrev pub chain : List (PrivilegedSteps → PrivilegedSteps) → PrivilegedSteps → PrivilegedSteps
chain [] rest = rest
chain (f ∷ fs) rest = f (chain fs rest)

-- one step in front of the rest; the lists within it are given in the same way. An offset in bytes becomes one in widths
abbrev pub step_before : PrivilegedStep-F (PrivilegedSteps → PrivilegedSteps) → PrivilegedSteps → PrivilegedSteps
step_before (Number to value) rest = Const to value rest
step_before (Copied to from) rest = Copy to from rest
step_before (Loaded to base offset width) rest = Load width to base (offset / byte_count width) rest
step_before (Stored from base offset width) rest = Store width from base (offset / byte_count width) rest
step_before (Operation op to a b) rest = Alu op to a b rest
step_before (PspRead to) rest = ReadPsp to rest
step_before (PspWritten from) rest = WritePsp from rest
step_before (ControlWritten from) rest = WriteControl from rest
step_before (Tested cond a b yes_steps no_steps) rest = Test cond a b (chain yes_steps.items End) (chain no_steps.items End) rest
step_before (Repeated left most body) rest = Repeat left most (chain body.items End) rest
step_before (Halted code) rest = Halt code rest
step_before Returned rest = Return rest
step_before (Gone to link) rest = Go to link rest

abbrev pub before : PrivilegedStep → PrivilegedSteps → PrivilegedSteps
before = fold-PrivilegedStep (PrivilegedSteps → PrivilegedSteps) step_before

-- the steps of a vector in front of the rest
abbrev pub all_before : List PrivilegedStep → PrivilegedSteps → PrivilegedSteps
all_before [] rest = rest
all_before (s ∷ ss) rest = before s (all_before ss rest)

abbrev pub steps_of : List PrivilegedStep → PrivilegedSteps
steps_of ss = all_before ss End
