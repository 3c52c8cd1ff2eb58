use Rattle.plan_layout_laws.proofs.FlashBlocks.{flash_is_laid}
use Rattle.plan_layout_laws.proofs.flash.Goals as goal

pub returns : goal.returns
returns c = flash_is_laid
