use Rattle.std.proofs.Common.{refl, arith, sym, subst, inl, ◌<◌, length}
use Rattle.std.specs.Prelude.{Contains}
use Rattle.std.proofs.lemmas.List.Elements.{Contains-get_or}
use Rattle.need_sets.specs.Rules.{no_edge}
use Rattle.need_solving.proofs.Starting.{put_no_edges, put_next_edge}
use Rattle.need_solving.proofs.Paying.{paid_none, paid_both}
use Rattle.need_solving.proofs.search.put_copies.Goals as goal

pub loop-place-init : goal.loop-place-init
loop-place-init g c = record { putting = put_no_edges c.args.system.now c.args.state.now c.requires.holds; paid = paid_none c.args.state.now _ _ refl }

pub loop-place-preserved : goal.loop-place-preserved
loop-place-preserved g c =
    record {
      putting = put_next_edge c.args.system.now c.args.state.now c.loop-place.state c.put_edge.new.state c.copy_at-edge.result c.loop-place.place c.loop-place.invariant.putting c.copy_at-edge.ensures c.in_ok-put_edge.ensures.holds c.in_ok-put_edge.ensures.grown c.in_ok-put_edge.ensures.next c.in_ok-put_edge.ensures.found;
      paid = paid_both c.args.state.now c.loop-place.state c.put_edge.new.state _ c.loop-place.steps _ c.loop-place.invariant.paid c.in_ok-put_edge.ensures.paid;
    }

pub put_edge-requires-clause-asked : goal.put_edge-requires-clause-asked
put_edge-requires-clause-asked g c =
    let l : c.loop-place.place < length c.args.system.now.rules.copies.items = omega arith in
    inl (subst (λ e. Contains c.args.system.now.rules.copies.items e) (sym c.copy_at-edge.ensures) (Contains-get_or c.args.system.now.rules.copies.items c.loop-place.place no_edge l))
