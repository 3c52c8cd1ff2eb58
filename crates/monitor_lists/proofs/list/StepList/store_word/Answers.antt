use Rattle.std.proofs.Common.{◌≡◌, ◌*◌, [], ◌∷◌, ◌++◌}
use Rattle.base_words.specs.declared.memory.Width.TheVariants.{Word}
use Rattle.monitor_steps.specs.declared.steps.PrivilegedStep.TheBlock.{Store}
use Rattle.monitor_steps.specs.Steps as list
use Rattle.monitor_lists.proofs.Listed.{one_more, store_words}
use Rattle.monitor_lists.proofs.list.StepList.store_word.Goals as goal
use Rattle.base_laws.proofs.Options.{on_ok}

pub returns : goal.returns
returns c =
    let old = c.args.self.now.steps.items in
    let new = c.put.new.self.steps.items in
    on_ok c.put.result (λ (e : new ≡ old ++ (Store c.args.from c.args.base (4 * c.args.words) Word) ∷ []). one_more old new (Store c.args.from c.args.base (4 * c.args.words) Word) (λ rest. list.Store Word c.args.from c.args.base c.args.words rest) e (λ rest. store_words c.args.from c.args.base c.args.words rest)) c.put.ensures
