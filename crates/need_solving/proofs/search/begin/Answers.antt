use Rattle.std.proofs.Common.{ap, ◌∙◌, length, []}
use Rattle.std.proofs.lemmas.List.{length-replicate}
use Rattle.need_sets.specs.Pairs.{ObjectRows}
use Rattle.need_solving.proofs.Running.{sound_begin}
use Rattle.need_solving.proofs.search.begin.Goals as goal

pub returns-clause-holds : goal.returns-clause-holds
returns-clause-holds c = λ w. sound_begin w c.in_ok-pairs.pairs.rows c.in_ok-edges.edges c.in_ok-pairs.pairs.objects c.new-3.result c.args.nodes c.args.objects (ap (λ (t : ObjectRows). t.rows) c.in_ok-pairs.ensures) (ap (λ (t : ObjectRows). t.objects) c.in_ok-pairs.ensures) c.new-3.ensures c.in_ok-edges.ensures

pub returns-clause-count : goal.returns-clause-count
returns-clause-count c = ap (λ (t : ObjectRows). length t.rows) c.in_ok-pairs.ensures ∙ length-replicate c.args.nodes []
