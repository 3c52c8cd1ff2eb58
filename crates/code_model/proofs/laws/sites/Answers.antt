use Rattle.code_model.proofs.Sites.{sites_agree}
use Rattle.code_model.proofs.laws.sites.Goals as goal

pub returns : goal.returns
returns c = sites_agree
