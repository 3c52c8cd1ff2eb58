-- Beyond the program's claim: only laws, proofs and functions inside the tool cite this file.
-- What the handler of SVC comes to, computed.
use Rattle.std.specs.Prelude.{◌≡◌, ℕ, List, [], ◌∷◌, ◌++◌, replicate}
use Rattle.std.proofs.Math.ListN.{set}
use Rattle.monitor_model.specs.Block.{MonitorBlock}
use Rattle.monitor_model.specs.Outcomes.{Outcome, Halts, StopsAtBus, Resumes}
use Rattle.monitor_model.specs.SvcOutcome.{svc_outcome}
use Rattle.monitor_program.specs.Page.{bytes_of_words}
use Rattle.example_monitor.specs.LentImage.{tables, image}
use Rattle.example_monitor.specs.Stack.{stack_with, frame_of, main_runs, main_saved, loan, two_calls}

-- SVC n of main, whose frame lies 1,984 bytes above the stack's base
abbrev pub from_main : (number : ℕ) → MonitorBlock → (frame : List ℕ) → Outcome
from_main n m frame = svc_outcome image tables 0x08000FF0 m 0x200007C0 (stack_with 1984 frame) n

-- main's call: r12 has the entry of compartment 1's function, and 0 stands at the return address in flash
abbrev pub calling : List ℕ
calling = frame_of 1 2 0x08002081 0x08002026

abbrev pub lending : (address number : ℕ) → List ℕ
lending a n = frame_of a n 0 0x08002016

pub record ComputesCalls : Type 0 where
  -- the frame of the callee ends at seven eighths of the stack, with its arguments; the return address behind main's call is
  -- raised
  pub enters : from_main 0 main_runs calling ≡
      Resumes (record { current = 1; top = 0x20000700; mark = 0; saved = main_saved ∷ []; loans = [] }) 0x200006E0
      (bytes_of_words (replicate 440 0 ++ (1 ∷ 2 ∷ 3 ∷ 4 ∷ 0 ∷ 0x08000FF1 ∷ 0x08002080 ∷ 0x01000000 ∷ replicate 48 0) ++ (frame_of 1 2 0x08002081 0x08002028 ++ replicate 8 0)))
  -- its mark is then the number of loans
  pub enters_lent : from_main 0 (record main_runs { loans = loan ∷ [] }) calling ≡
      Resumes (record { current = 1; top = 0x20000700; mark = 1; saved = main_saved ∷ []; loans = loan ∷ [] }) 0x200006E0
      (bytes_of_words (replicate 440 0 ++ (1 ∷ 2 ∷ 3 ∷ 4 ∷ 0 ∷ 0x08000FF1 ∷ 0x08002080 ∷ 0x01000000 ∷ replicate 48 0) ++ (frame_of 1 2 0x08002081 0x08002028 ++ replicate 8 0)))
  -- another return address, no entry of a target of the site; a return address at which nothing lies
  pub other_site : from_main 0 main_runs (frame_of 1 2 0x08002081 0x08002028) ≡ Halts 2
  pub other_target : from_main 0 main_runs (frame_of 1 2 0x080020A1 0x08002026) ≡ Halts 3
  pub nothing_there : from_main 0 main_runs (frame_of 1 2 0x08002081 0x080020C0) ≡ StopsAtBus
  -- the lowest eighth has no room for a callee
  pub no_room : svc_outcome image tables 0x08000FF0 main_runs 0x200000C0 (stack_with 192 calling) 0 ≡ Halts 5
  -- a frame below the stack, one that reaches above TOP, and one with a pad
  pub below_stack : svc_outcome image tables 0x08000FF0 main_runs 0x1FFFFFE0 (stack_with 0 calling) 0 ≡ Halts 4
  pub above_top : from_main 0 (record main_runs { top = 0x200007D8 }) calling ≡ Halts 4
  pub padded : from_main 0 main_runs (set calling 7 0x01000200) ≡ Halts 4
  -- the end of main; and the end of compartment 2's function, whose result goes to r0 of the frame that waits
  pub main_ends : from_main 1 main_runs calling ≡ Halts 0
  pub leaves : svc_outcome image tables 0x08000FF0 two_calls 0x200005E0
      (bytes_of_words (replicate 376 0 ++ (frame_of 42 2 0 0x08000FF2 ++ (replicate 52 0 ++ (frame_of 1 2 0x080020A1 0x08002096 ++ replicate 68 0))))) 1 ≡
      Resumes (record { current = 1; top = 0x20000700; mark = 1; saved = main_saved ∷ []; loans = loan ∷ [] }) 0x200006D0
      (bytes_of_words (replicate 376 0 ++ (frame_of 42 2 0 0x08000FF2 ++ (replicate 52 0 ++ (frame_of 42 2 0x080020A1 0x08002096 ++ replicate 68 0)))))
  -- a loan of main's word; not at an odd address, not of the frame, not above TOP, not under a number that there is not
  pub lends : from_main 2 main_runs (lending 0x200007E8 0) ≡ Resumes (record main_runs { loans = loan ∷ [] }) 0x200007C0 (stack_with 1984 (lending 0x200007E8 0))
  pub odd : from_main 2 main_runs (lending 0x200007E9 0) ≡ Halts 6
  pub in_frame : from_main 2 main_runs (lending 0x200007DC 0) ≡ Halts 6
  pub last_word : from_main 2 main_runs (lending 0x200007FC 0) ≡
      Resumes (record main_runs { loans = record { address = 0x200007FC; end = 0x20000800; number = 0 } ∷ [] }) 0x200007C0 (stack_with 1984 (lending 0x200007FC 0))
  pub over_top : from_main 2 (record main_runs { top = 0x200007EA }) (lending 0x200007E8 0) ≡ Halts 6
  pub no_number : from_main 2 main_runs (lending 0x200007E8 1) ≡ Halts 6
  pub too_many : from_main 2 (record main_runs { loans = replicate 32 loan }) (lending 0x200007E8 0) ≡ Halts 6
  -- the last loan is taken off where it is younger than the running call
  pub unlends : from_main 3 (record main_runs { loans = loan ∷ [] }) calling ≡ Resumes main_runs 0x200007C0 (stack_with 1984 calling)
  pub older : from_main 3 (record main_runs { mark = 1; loans = loan ∷ [] }) calling ≡ Halts 6
  pub nothing_lent : from_main 3 main_runs calling ≡ Halts 6
  pub no_call : from_main 4 main_runs calling ≡ Halts 1
