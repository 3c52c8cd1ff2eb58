use Rattle.std.proofs.Common.{◌≡◌, suc, ◌+◌, ◌-◌, [], ◌∷◌, ◌++◌, None, ap, sym, ◌∙◌, append-nil, arith}
use Rattle.std.proofs.lemmas.Grind.{common_steps}
use Rattle.std.proofs.lemmas.Result.{err_from_is_err_and}
use Rattle.machine_image.specs.Faults.{IsFirst, first_of, window_checks}
use Rattle.machine_image.specs.Parts.{window_at, behind_window}
use Rattle.machine_image.proofs.Steps.{first_of-nil}
use Rattle.machine_image.proofs.Turns.{fault-turn, checks-turn, windows-turn, place-turn, checks-end, windows-end, place-end}
use Rattle.machine_image.proofs.reader.read_windows.Goals as goal

pub returns-in_err-window-clause-fault : goal.returns-in_err-window-clause-fault
returns-in_err-window-clause-fault c =
    let b = c.args.bytes.now in
    let seen = c.loop-number.windows.items in
    let e : c.args.count - c.loop-number.number ≡ suc (c.args.count - (c.loop-number.number + 1)) = omega arith in
    let fault : IsFirst (window_checks b c.loop-number.at seen) c.in_err-window.field-0.0 = rw c.as_slice.ensures.value at c.in_err-window.ensures.fault in
    let p = err_from_is_err_and c.from_residual.result c.from_residual.ensures.1 in
    rw (p.1, p.2) (fault-turn b c.loop-number.at seen _ _ _ _ c.loop-number.invariant.checks e fault)

pub loop-number-preserved : goal.loop-number-preserved
loop-number-preserved c =
    let b = c.args.bytes.now in
    let seen = c.loop-number.windows.items in
    let e : c.args.count - c.loop-number.number ≡ suc (c.args.count - (c.loop-number.number + 1)) = omega arith in
    let d : c.loop-number.at + (12 + c.len.result) ≡ behind_window b c.loop-number.at = omega (arith, c.in_ok-window.ensures.count) in
    let w : c.push.new.self.items ≡ seen ++ window_at b c.loop-number.at ∷ [] = grind (arith, common_steps) in
    let passed : first_of (window_checks b c.loop-number.at seen) ≡ None = rw c.as_slice.ensures.value at c.in_ok-window.ensures.passed in
    record {
      checks = c.loop-number.invariant.checks ∙ checks-turn b _ seen _ _ _ _ e d w passed;
      windows = c.loop-number.invariant.windows ∙ windows-turn b _ seen _ _ _ _ e d w;
      place = c.loop-number.invariant.place ∙ place-turn b _ _ _ _ e d;
      bounded = omega (arith, c.in_ok-window.ensures.count, c.in_ok-window.ensures.most);
    }

pub returns-clause-passed : goal.returns-clause-passed
returns-clause-passed c =
    let e : c.args.count - c.loop-number.number ≡ 0 = omega arith in
    c.loop-number.invariant.checks ∙ (ap first_of (checks-end c.args.bytes.now c.loop-number.at c.loop-number.windows.items _ e) ∙ first_of-nil)

pub returns-clause-windows : goal.returns-clause-windows
returns-clause-windows c =
    let e : c.args.count - c.loop-number.number ≡ 0 = omega arith in
    sym (c.loop-number.invariant.windows ∙ (ap (λ ws. c.loop-number.windows.items ++ ws) (windows-end c.args.bytes.now c.loop-number.at _ e) ∙ append-nil c.loop-number.windows.items))

pub returns-clause-place : goal.returns-clause-place
returns-clause-place c =
    let e : c.args.count - c.loop-number.number ≡ 0 = omega arith in
    sym (c.loop-number.invariant.place ∙ place-end c.args.bytes.now c.loop-number.at _ e)
