use Rattle.std.proofs.Common.{true, false}
use Rattle.machine_protection.specs.declared.region.Access.TheVariants.{Read, Write, Fetch}
use Rattle.machine_emulator.proofs.Kept.{none_known}
use Rattle.machine_emulator.proofs.guard.Guard.new.Goals as goal

pub invariant_of-result : goal.invariant_of-result
invariant_of-result c =
    let m = c.args.protection.mpu in (
      c.is_on-is_unit_on.ensures,
      c.is_unprivileged-is_without_privilege.ensures,
      none_known m false Read _ c.none.ensures,
      none_known m false Write _ c.none-2.ensures,
      none_known m false Fetch _ c.none-3.ensures,
      none_known m true Read _ c.none-4.ensures,
      none_known m true Write _ c.none-5.ensures,
      none_known m true Fetch _ c.none-6.ensures,
    )
