-- What an outcome of a call is: the status, what is printed, the line that tells of a fault, and what is written.
use Rattle.std.specs.Prelude.{ℕ, List, [], Option, None}
use Rattle.aces_reports.specs.declared.failure.Fault.{Fault}
use Rattle.aces_reports.specs.FaultLines.{fault_line, limit_line, denied_line, room_line, usage_line}
use Rattle.plan_layout.specs.declared.refusal.Lack.{Lack}
use Rattle.plan_model.specs.declared.limits.LimitKind.{LimitKind}

-- the bytes that a name is made to hold
pub record Written : Type 0 where
  pub name : List ℕ
  pub bytes : List ℕ

pub record Outcome : Type 0 where
  pub status : ℕ
  pub printed : List ℕ
  pub line : List ℕ
  pub written : Option Written

-- done, with this status, or refused by a file's content: status 1 and its line
abbrev pub done : (status : ℕ) → (printed : List ℕ) → Option Written → Outcome
done status printed written = record { status = status; printed = printed; line = []; written = written }

abbrev pub refused : (name : List ℕ) → Fault → Outcome
refused name f = record { status = 1; printed = []; line = fault_line name f; written = None }

-- a firmware has too much of this to be compiled, or a memory of the board has no room
abbrev pub past_limit : LimitKind → (count : ℕ) → Outcome
past_limit which count = record { status = 1; printed = []; line = limit_line which count; written = None }

-- a range of addresses that a firmware asks for meets one that the board denies, as the text tells
abbrev pub denied : (text : List ℕ) → Outcome
denied text = record { status = 3; printed = []; line = denied_line text; written = None }

abbrev pub no_room : Lack → Outcome
no_room lack = record { status = 3; printed = []; line = room_line lack; written = None }

abbrev pub usage : Outcome
usage = record { status = 2; printed = []; line = usage_line; written = None }
