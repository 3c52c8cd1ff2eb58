use Rattle.std.proofs.Common.{◌≡◌, List, map, filter, length, ap, ◌∙◌, arith}
use Rattle.std.proofs.lemmas.List.{length-map}
use Rattle.ir_program.specs.Parts.{variable_of}
use Rattle.ir_program.specs.Seen.{program_of, known_of}
use Rattle.plan_model.specs.InitialGraph.{has_users, same_users}
use Rattle.plan_model.specs.Lists.{distinct}
use Rattle.plan_graph.specs.declared.users.UserLists.{UserLists}
use Rattle.plan_graph.specs.UserLists.{users_seen, region_seen, without_users}
use Rattle.plan_graph.proofs.WholeGraph.{graph_is}
use Rattle.plan_graph.proofs.initial.initial.Goals as goal

pub returns : goal.returns
returns c =
    let globals = length-map c.args.program.now.globals (variable_of (known_of c.args.program.now)) in
    let size : c.in-Ok.globals ≡ length (program_of c.args.program.now).globals = omega arith in
    let region_list = λ (all : List UserLists). map (region_seen all) (distinct same_users (filter has_users (map users_seen all))) in
    graph_is (program_of c.args.program.now) c.args.needs.now c.args.groups c.in_ok-users.users.items c.in-Ok.globals c.new.result c.new-2.result c.new-3.result c.new-4.result c.new-5.result
    c.in_ok-users.ensures size
    (c.new.ensures ∙ (c.in_ok-regions.ensures ∙ ap region_list c.deref.ensures.value))
    (c.new-2.ensures ∙ (c.in_ok-unwritten.ensures ∙ ap without_users c.deref-2.ensures.value))
    (c.new-3.ensures ∙ c.in_ok-covers.ensures)
    (c.new-4.ensures ∙ c.in_ok-masks.ensures)
    (c.new-5.ensures ∙ c.in_ok-reads.ensures)
