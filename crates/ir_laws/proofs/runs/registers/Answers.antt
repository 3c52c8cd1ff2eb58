use Rattle.ir_laws.proofs.Facts.{numbers_are_words, pointers_are_of_objects, elements_are_small}
use Rattle.ir_laws.proofs.runs.registers.Goals as goal

pub returns-clause-numbers : goal.returns-clause-numbers
returns-clause-numbers c = numbers_are_words

pub returns-clause-pointers : goal.returns-clause-pointers
returns-clause-pointers c = pointers_are_of_objects

pub returns-clause-elements : goal.returns-clause-elements
returns-clause-elements c = elements_are_small
