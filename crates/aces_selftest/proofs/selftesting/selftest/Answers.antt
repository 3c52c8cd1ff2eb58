use Rattle.std.proofs.Common.{◌≡◌, sym, ap, subst, ◌∙◌}
use Rattle.plan_model.specs.declared.policy.Policy.TheVariants.{Filename}
use Rattle.aces_files.specs.Loads.{IsPlanningFailure}
use Rattle.plan_firmwares.specs.Unplanned.{IsUnplanned}
use Rattle.ir_generator.specs.Made.{made}
use Rattle.ir_model.specs.Plain.{PlainFirmware, firmware_of}
use Rattle.plan_model.specs.Boards.{IsBoard}
use Rattle.plan_model.specs.declared.plan.Board.{Board}
use Rattle.aces_selftest.specs.TestBoard.{test_board}
use Rattle.aces_selftest.proofs.Boards.{test_board_obeys}
use Rattle.aces_selftest.proofs.Refused.{refused}
use Rattle.aces_selftest.proofs.selftesting.selftest.Goals as goal

pub compile_by-requires : goal.compile_by-requires
compile_by-requires c = subst IsBoard (sym c.test_board-board.ensures) test_board_obeys

pub returns-clause-err : goal.returns-clause-err
returns-clause-err c =
    let seed = c.args.seed in
    let size = c.args.size in
    let r = c.in-Err.refusal in
    let e = c.planning_failure.result in
    let made_so : firmware_of c.in_ok-firmware.firmware ≡ made seed size = c.in_ok-firmware.ensures in
    let told_so : firmware_of c.firmware.result.now ≡ made seed size = ap firmware_of c.firmware.ensures.same ∙ made_so in
    let board : c.test_board-board.result ≡ test_board = c.test_board-board.ensures in
    let unplanned : IsUnplanned Filename (made seed size) test_board r =
    subst (λ (b : Board). IsUnplanned Filename (made seed size) b r) board
    (subst (λ (w : PlainFirmware). IsUnplanned Filename w c.test_board-board.result r) made_so c.in-Err.ensures.refused) in
    let failure : IsPlanningFailure (made seed size) test_board r e =
    subst (λ (b : Board). IsPlanningFailure (made seed size) b r e) board
    (subst (λ (w : PlainFirmware). IsPlanningFailure w c.test_board-board.result r e) told_so c.planning_failure.ensures) in
    refused seed size r e unplanned failure
