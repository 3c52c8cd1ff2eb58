use Rattle.std.proofs.Common.{◌∙◌, ap}
use Rattle.ir_names.specs.Places.{place_in}
use Rattle.ir_names.proofs.FirstPlaces.{found}
use Rattle.ir_names.proofs.table.Names.find.Goals as goal

pub returns : goal.returns
returns c =
    found c.args.self.now c.args.word.now c.copied.result
    (c.copied.ensures ∙ (c.get.ensures.value ∙ (c.self.invariant c.args.word ∙ ap (λ ns. place_in ns c.args.word.now) c.self.view_is)))
