use Rattle.plan_layout_laws.proofs.GlobalsHeld.{globals_are_held}
use Rattle.plan_layout_laws.proofs.Offsets.{globals_are_laid}
use Rattle.plan_layout_laws.proofs.globals.Goals as goal

pub returns-clause-laid : goal.returns-clause-laid
returns-clause-laid c = globals_are_laid

pub returns-clause-held : goal.returns-clause-held
returns-clause-held c = globals_are_held
