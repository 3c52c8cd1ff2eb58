use Rattle.image_promises.proofs.Linking.{are_linked}
use Rattle.image_promises.proofs.images.linked_images.Goals as goal

pub returns : goal.returns
returns c =
    are_linked
    (record {
      rules = c.images.ensures;
      memory = c.memory.ensures;
      placed = c.code.ensures;
      lies = c.code-2.ensures.lies;
      targets = c.targets.ensures;
      stub = c.stub.ensures;
      globals = c.globals.ensures;
      initial = c.globals_begin.ensures;
      windows = c.windows.ensures;
      loans = c.loans.ensures;
      kind = c.kind.ensures;
    })
