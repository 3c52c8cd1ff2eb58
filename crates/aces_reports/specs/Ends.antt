-- Beyond the program's claim: only laws, proofs and functions inside the tool cite this file.
-- The status and the line of how a command ended.
use Rattle.std.specs.Prelude.{ℕ, List, [], Result, Ok, Err}
use Rattle.aces_reports.specs.declared.failure.Done.{Done}
use Rattle.aces_reports.specs.declared.failure.Done.TheVariants.{Completed, RunFailed, Negative, FaultTold, NoRoomTold}
use Rattle.aces_reports.specs.declared.failure.Failure.{Failure}
use Rattle.aces_reports.specs.declared.failure.Failure.TheVariants.{Refused, PastLimit, Denied, NoRoom, Unread, Unwritten, Unprinted, NoMemory}
use Rattle.aces_reports.specs.FaultLines.{fault_line, limit_line, denied_line, room_line, unread_line, unwritten_line, unprinted_line, memory_line}

abbrev pub status_of : Result Done Failure → ℕ
status_of (Ok Completed) = 0
status_of (Ok RunFailed) = 7
status_of (Ok Negative) = 8
status_of (Ok FaultTold) = 1
status_of (Ok NoRoomTold) = 3
status_of (Err (Refused name fault)) = 1
status_of (Err (PastLimit which count)) = 1
status_of (Err (Denied text)) = 3
status_of (Err (NoRoom lack)) = 3
status_of (Err (Unread name)) = 4
status_of (Err (Unwritten name)) = 5
status_of (Err Unprinted) = 5
status_of (Err NoMemory) = 6

abbrev pub line_of : Result Done Failure → List ℕ
line_of (Ok d) = []
line_of (Err (Refused name fault)) = fault_line name.now fault
line_of (Err (PastLimit which count)) = limit_line which count
line_of (Err (Denied text)) = denied_line text
line_of (Err (NoRoom lack)) = room_line lack
line_of (Err (Unread name)) = unread_line name.now
line_of (Err (Unwritten name)) = unwritten_line name.now
line_of (Err Unprinted) = unprinted_line
line_of (Err NoMemory) = memory_line
