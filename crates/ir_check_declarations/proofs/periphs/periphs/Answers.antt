use Rattle.std.proofs.Common.{◌≡◌, ◌+◌, subst, sym, drop, take, ◌++◌, ◌∷◌, [], refl, arith, List}
use Rattle.ir_model.specs.declared.firmware.Peripheral.{Peripheral}
use Rattle.ir_model.specs.Typing.{periph_checks, first_failing}
use Rattle.ir_check_declarations.specs.StructParts.{periph_check}
use Rattle.ir_check_scopes.proofs.Order.{first_told, stop_at, go_on}
use Rattle.ir_check_declarations.proofs.Mapped.{more_mapped}
use Rattle.ir_check_declarations.proofs.periphs.periphs.Goals as goal
use Rattle.base_laws.proofs.Lists.{take_next}

pub returns-in_err-periph-clause-finds : goal.returns-in_err-periph-clause-finds
returns-in_err-periph-clause-finds c =
    first_told (periph_checks [] c.args.periphs.now) c.from_residual.result c.in_err-periph.field-0.0 c.from_residual.ensures.1
    (stop_at (λ (qs : List Peripheral). periph_checks (take c.loop-i.i c.args.periphs.now) qs)
    (λ (qs : List Peripheral). periph_checks ((take c.loop-i.i c.args.periphs.now) ++ c.index-periphs-i.result ∷ []) qs)
    (periph_checks [] c.args.periphs.now) (c.args.periphs.now) c.loop-i.i c.index-periphs-i.result (periph_check (take c.loop-i.i c.args.periphs.now) c.index-periphs-i.result) c.in_err-periph.field-0.0
    (omega arith) c.index-periphs-i.is (λ r. refl) c.loop-i.invariant.left c.in_err-periph.ensures.finds)

pub loop-i-preserved : goal.loop-i-preserved
loop-i-preserved c =
    record {
      left = subst (λ n. first_failing (periph_checks [] c.args.periphs.now) ≡ first_failing (periph_checks n (drop (c.loop-i.i + 1) c.args.periphs.now))) (sym (take_next c.args.periphs.now c.loop-i.i c.index-periphs-i.result (omega arith) c.index-periphs-i.is))
          (go_on (λ (qs : List Peripheral). periph_checks (take c.loop-i.i c.args.periphs.now) qs)
          (λ (qs : List Peripheral). periph_checks ((take c.loop-i.i c.args.periphs.now) ++ c.index-periphs-i.result ∷ []) qs)
          (periph_checks [] c.args.periphs.now) (c.args.periphs.now) c.loop-i.i c.index-periphs-i.result (periph_check (take c.loop-i.i c.args.periphs.now) c.index-periphs-i.result)
          (omega arith) c.index-periphs-i.is (λ r. refl) c.loop-i.invariant.left c.in_ok-periph.ensures.finds);
      names = more_mapped (λ (q : Peripheral). q.name) c.loop-i.seen c.periph.new.seen c.args.periphs.now c.loop-i.i c.index-periphs-i.result (omega arith) c.index-periphs-i.is c.loop-i.invariant.names c.in_ok-periph.ensures.grows;
    }
