use Rattle.std.proofs.Common.{List, ap, ◌∙◌}
use Rattle.std.specs.Borrow.{Bor}
use Rattle.plan_model.specs.declared.needs.SiteNeed.{SiteNeed}
use Rattle.image_entries.specs.declared.making.Making.{Making}
use Rattle.plan_crossings.specs.Seen.{seen_sites}
use Rattle.image_linker.proofs.Linked.{each_lend, made_ready}
use Rattle.image_linker.proofs.Same.{numbers_made, tables_made}
use Rattle.image_linker.proofs.linking.link_parts.Goals as goal

pub addresses-requires : goal.addresses-requires
addresses-requires c = record { lends = each_lend _ _ _ _ c.in_ok-numbers.ensures.exact }

pub tables-requires : goal.tables-requires
tables-requires c = made_ready _ _ c.as_slice.ensures c.in_ok-addresses.ensures _ _ c.requires c.in_ok-numbers.ensures.exact c.in_ok-numbers.ensures.small

pub returns : goal.returns
returns c =
    let here = c.args.program.ref_ptr in
    let p = c.args.program in
    let n = c.args.needs.now in
    let f = c.args.graph.now in
    let m : Making =
    record {
      program = p;
      plan = c.args.plan;
      compartments = c.as_slice.result;
      numbers = record { ref_ptr = here; now = c.in_ok-numbers.numbers };
      addresses = record { ref_ptr = here; now = c.in_ok-addresses.addresses };
    } in
    let sites_of : List (Bor SiteNeed) → List SiteNeed = λ xs. seen_sites xs in
    let es = ap sites_of c.deref.ensures.value ∙ c.in_ok-sites.ensures in
    let es_too = ap sites_of c.deref-2.ensures.value ∙ c.in_ok-sites.ensures in
    let numbers = numbers_made _ n f _ _ c.in_ok-numbers.numbers es c.lent_locals-lent.ensures c.in_ok-numbers.ensures.exact in
    record {
      numbers = numbers;
      small = c.in_ok-numbers.ensures.small;
      addresses = c.in_ok-addresses.ensures;
      tables = tables_made m n f c.args.board.now c.as_slice.ensures c.in_ok-addresses.ensures numbers c.in_ok-tables.tables _ _ es_too c.lent_locals-lent.ensures c.in_ok-tables.ensures;
    }
