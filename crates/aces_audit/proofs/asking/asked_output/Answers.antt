use Rattle.aces_audit.proofs.asking.asked_output.Goals as goal

pub returns-in-Answer : goal.returns-in-Answer
returns-in-Answer c = rw c.in-Answer.is c.answer_output.ensures

pub returns-in-Tables : goal.returns-in-Tables
returns-in-Tables c = rw c.in-Tables.is c.tables_output.ensures
