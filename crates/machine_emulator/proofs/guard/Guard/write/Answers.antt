use Rattle.std.proofs.Common.{true, false}
use Rattle.machine_protection.specs.declared.region.Access.TheVariants.{Read, Write, Fetch}
use Rattle.machine_emulator.proofs.Kept.{none_known}
use Rattle.machine_emulator.proofs.guard.Guard.write.Goals as goal

pub invariant_of-self-2 : goal.invariant_of-self-2
invariant_of-self-2 c =
    let m = c.write-self-inside.new.self in (
      c.is_on-self-inside.ensures,
      c.self.invariant.1,
      none_known m false Read _ c.none-self-inside.ensures,
      none_known m false Write _ c.none-self-inside-2.ensures,
      none_known m false Fetch _ c.none-self-inside-3.ensures,
      none_known m true Read _ c.none-self-inside-4.ensures,
      none_known m true Write _ c.none-self-inside-5.ensures,
      none_known m true Fetch _ c.none-self-inside-6.ensures,
    )
