-- Where the frames stand.
use Rattle.std.proofs.Common.{refl, arith}
use Rattle.plan_model.specs.Crossing.{site_number}
use Rattle.plan_model.specs.Lending.{lend_number}
use Rattle.example_plan.specs.StackPositions.{ComputesPositions}

pub computes_positions : ComputesPositions
unfolding site_number lend_number
computes_positions = record {
  first = refl;
  second = refl;
  third = refl;
  last = refl;
  room = (
    record { space = omega arith; loans = omega arith },
    (
      record { space = omega arith; loans = omega arith },
      (
        record { space = omega arith; loans = omega arith },
        (
          record { space = omega arith; loans = omega arith },
          (
            record { space = omega arith; loans = omega arith },
            (
              record { space = omega arith; loans = omega arith },
              (
                record { space = omega arith; loans = omega arith },
                (record { space = omega arith; loans = omega arith }, tt),
              ),
            ),
          ),
        ),
      ),
    ),
  );
  beyond = refl;
}
