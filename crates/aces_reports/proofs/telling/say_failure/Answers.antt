use Rattle.aces_reports.proofs.telling.say_failure.Goals as goal

pub returns-in-Unread : goal.returns-in-Unread
returns-in-Unread g c = rw c.in-Unread.is (rw c.as_bytes-in-Unread.ensures.value at c.say_named-in-Unread.ensures)

pub returns-in-Unwritten : goal.returns-in-Unwritten
returns-in-Unwritten g c = rw c.in-Unwritten.is (rw c.as_bytes-in-Unwritten.ensures.value at c.say_named-in-Unwritten.ensures)

pub returns-in-Unprinted : goal.returns-in-Unprinted
returns-in-Unprinted g c = rw c.in-Unprinted.is c.say.ensures

pub returns-in-NoMemory : goal.returns-in-NoMemory
returns-in-NoMemory g c = rw c.in-NoMemory.is c.say_no_memory.ensures
