-- What the handler of SVC comes to, by its tests in their order. All sums are whole numbers: none wraps.
use Rattle.std.specs.Prelude.{ℕ, ◌+◌, ◌-◌, ◌/◌, ◌%◌, ◌*◌, ◌^◌, Bool, ◌&&◌, List, [], ◌∷◌, length, Option, Some, None, nat_eq, nat_lt, nat_le, if◌then◌else◌}
use Rattle.base_words.specs.Bytes.{read, write_all}
use Rattle.machine_devices.specs.declared.image.Image.{Image}
use Rattle.machine_bus.specs.Locations.{Location, InRam, InFlash, InWindow, Nowhere, location}
use Rattle.monitor_model.specs.declared.tables.TargetRecord.{TargetRecord}
use Rattle.monitor_model.specs.declared.tables.Tables.{Tables}
use Rattle.monitor_model.specs.Records.{site_at, targets_of, last_with_entry, lend_size, rounded}
use Rattle.monitor_model.specs.Block.{Loan, Saved, MonitorBlock, entered, left, lent, unlent}
use Rattle.monitor_model.specs.Halts.{halt_end, halt_number, halt_site, halt_target, halt_stack, halt_limit, halt_loan}
use Rattle.monitor_model.specs.Values.{frame_size, most_loans}
use Rattle.monitor_model.specs.Outcomes.{Outcome, Halts, StopsAtBus, Resumes, r12_place, return_place, stacked, with_stacked, moved_on, is_open}

-- of the leave stub's address, the block, the stack pointer behind the entry, and RAM behind it
module _ (i : Image) (t : Tables) (stub : ℕ) (m : MonitorBlock) (psp : ℕ) (memory : List ℕ) where
  -- the word of the thread's frame with this number
  abbrev pub word : ℕ → ℕ
  word k = stacked i psp memory k

  -- ---- 0, enter

  -- the callee's arguments, r12 0, its way back by the stub, and its entry; xPSR has T alone
  abbrev pub callee_frame : TargetRecord → List ℕ
  callee_frame g = word 0 ∷ word 1 ∷ word 2 ∷ word 3 ∷ 0 ∷ (stub + 1) ∷ (g.entry / 2 * 2) ∷ (2 ^ 24) ∷ []

  abbrev pub new_top : ℕ
  new_top = rounded t psp

  abbrev pub enter_to : Option TargetRecord → Outcome
  enter_to None = Halts halt_target
  enter_to (Some g) =
      if nat_lt t.stack.base new_top then
      Resumes (entered m g.compartment new_top psp) (new_top - 32)
      (write_all 4 (new_top - 32 - i.ram_base) (callee_frame g) (moved_on i psp memory))
      else Halts halt_limit

  abbrev pub enter_by : (site : ℕ) → Outcome
  enter_by n =
      if nat_lt n (length t.sites) && nat_eq (site_at t n).ret (word return_place) then
      enter_to (last_with_entry (word r12_place) (targets_of t (site_at t n)))
      else Halts halt_site

  -- the site's number is the halfword at the return address
  abbrev pub enter_at : Location → Outcome
  enter_at (InRam o) = StopsAtBus
  enter_at (InFlash o) = enter_by (read 2 o i.flash)
  enter_at (InWindow k o) = StopsAtBus
  enter_at Nowhere = StopsAtBus

  -- ---- 1, leave

  -- the result goes into the frame that waits
  abbrev pub leave_to : List Saved → Outcome
  leave_to [] = Halts halt_end
  leave_to (e ∷ es) = Resumes (left m e es) e.psp (with_stacked i e.psp 0 (word 0) memory)

  -- ---- 2, lend

  -- of the address in r0 and the number in r1
  abbrev pub new_loan : Loan
  new_loan = record { address = word 0; end = word 0 + lend_size t (word 1); number = word 1 }

  -- above the thread's frame and below TOP
  abbrev pub may_lend : Bool
  may_lend =
      nat_lt (length m.loans) most_loans
      && (nat_lt new_loan.number (length t.lends)
      && (nat_eq (new_loan.address % 4) 0
      && (nat_le (psp + frame_size) new_loan.address && nat_le new_loan.end m.top)))

  abbrev pub lend : Outcome
  lend = if may_lend then Resumes (lent m new_loan) psp memory else Halts halt_loan

  -- ---- 3, unlend

  -- the last loan, where it is younger than the running call
  abbrev pub unlend_to : List Loan → Outcome
  unlend_to [] = Halts halt_loan
  unlend_to (l ∷ ls) = if nat_eq (length (l ∷ ls)) m.mark then Halts halt_loan else Resumes (unlent m ls) psp memory

  abbrev pub by_number : ℕ → Outcome
  by_number n =
      if nat_eq n 0 then enter_at (location i (word return_place))
      else if nat_eq n 1 then leave_to m.saved
      else if nat_eq n 2 then lend
      else if nat_eq n 3 then unlend_to m.loans
      else Halts halt_number

  -- of the SVC with this number
  unfoldable pub svc_outcome : (number : ℕ) → Outcome
  svc_outcome n = if is_open i t m psp memory then by_number n else Halts halt_stack
