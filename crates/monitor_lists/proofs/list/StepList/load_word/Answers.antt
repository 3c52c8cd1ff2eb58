use Rattle.std.proofs.Common.{◌≡◌, ◌*◌, [], ◌∷◌, ◌++◌}
use Rattle.base_words.specs.declared.memory.Width.TheVariants.{Word}
use Rattle.monitor_steps.specs.declared.steps.PrivilegedStep.TheBlock.{Load}
use Rattle.monitor_steps.specs.Steps as list
use Rattle.monitor_lists.proofs.Listed.{one_more, load_words}
use Rattle.monitor_lists.proofs.list.StepList.load_word.Goals as goal
use Rattle.base_laws.proofs.Options.{on_ok}

pub returns : goal.returns
returns c =
    let old = c.args.self.now.steps.items in
    let new = c.put.new.self.steps.items in
    on_ok c.put.result (λ (e : new ≡ old ++ (Load c.args.to c.args.base (4 * c.args.words) Word) ∷ []). one_more old new (Load c.args.to c.args.base (4 * c.args.words) Word) (λ rest. list.Load Word c.args.to c.args.base c.args.words rest) e (λ rest. load_words c.args.to c.args.base c.args.words rest)) c.put.ensures
