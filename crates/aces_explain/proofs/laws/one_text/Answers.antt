use Rattle.aces_explain.proofs.OneText.{texts_are_one}
use Rattle.aces_explain.proofs.laws.one_text.Goals as goal

pub returns : goal.returns
returns c = texts_are_one c.final_graph_is_one.ensures
