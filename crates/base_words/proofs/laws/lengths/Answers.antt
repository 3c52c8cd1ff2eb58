use Rattle.base_words.proofs.Runs.{stay, once, onward, next, next_event}
use Rattle.base_words.proofs.laws.lengths.Goals as goal

pub returns-clause-stay : goal.returns-clause-stay
returns-clause-stay g c = λ step event s. stay

pub returns-clause-once : goal.returns-clause-once
returns-clause-once g c = λ step event s. once s

pub returns-clause-onward : goal.returns-clause-onward
returns-clause-onward g c = λ step event j k s t u xs ys one two. onward one two

pub returns-clause-next : goal.returns-clause-next
returns-clause-next g c = λ step event k s t u es e none go. next e none go

pub returns-clause-next_event : goal.returns-clause-next_event
returns-clause-next_event g c = λ step event k s t u x es e some go. next_event e some go
