use Rattle.std.proofs.Common.{◌≡◌, List, map, ap, ◌∙◌}
use Rattle.image_model.specs.LinkedTables.{Filled, filled, init_records}
use Rattle.image_blocks.specs.declared.fill.Filled as blocks
use Rattle.image_blocks.specs.Filling.{filled_of}
use Rattle.image_entries.specs.Making.{program_in}
use Rattle.image_linker.proofs.Linked.{words_made}
use Rattle.image_linker.proofs.linking.make_fills.Goals as goal

pub returns : goal.returns
returns c =
    let m = c.args.making.now in
    let fs = filled c.args.graph.now m.plan.now in
    let one : map filled_of c.deref.result.now ≡ fs = ap (λ (bs : List blocks.Filled). map filled_of bs) c.deref.ensures.value ∙ c.in_ok-blocks.ensures in
    let two : map filled_of c.deref-2.result.now ≡ fs = ap (λ (bs : List blocks.Filled). map filled_of bs) c.deref-2.ensures.value ∙ c.in_ok-blocks.ensures in
    record {
      inits_are = c.in_ok-init_records.ensures ∙ ap (λ (bs : List Filled). init_records (program_in m) c.args.from bs) one;
      words_are = c.in_ok-words_of.ensures ∙ words_made m c.deref-2.result.now fs two;
    }
