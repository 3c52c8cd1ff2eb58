use Rattle.std.proofs.Common.{◌∙◌, subst}
use Rattle.ir_program.specs.Seen.{program_of}
use Rattle.need_sets.specs.Demands.{demands_of}
use Rattle.need_sets.specs.Gathered.{Represents}
use Rattle.need_points_to.proofs.Bound.{within_bound}
use Rattle.need_points_to.proofs.Least.{least_found}
use Rattle.need_points_to.proofs.Results.{if_both}
use Rattle.need_points_to.proofs.least_sets.search.Goals as goal

pub returns-clause-least : goal.returns-clause-least
returns-clause-least g c =
    if_both c.least_pairs.result _ _ _
    (λ pairs h l. least_found c.in_ok-system.system (program_of c.args.program.now) pairs.rows c.in_ok-system.ensures.program (c.in_ok-system.ensures.numbering ∙ c.in_ok-numbering.ensures)
    (subst (λ k. Represents k c.in_ok-system.system.rules (demands_of (program_of c.args.program.now))) c.in_ok-numbering.ensures c.in_ok-system.ensures.rules) h l) c.least_pairs.ensures.closed c.least_pairs.ensures.least

pub returns-clause-steps : goal.returns-clause-steps
returns-clause-steps g c =
    if_both c.least_pairs.result _ _ _
    (λ pairs b l s same. within_bound c.in_ok-system.system (program_of c.args.program.now) pairs.rows _ c.in_ok-system.ensures.program (c.in_ok-system.ensures.numbering ∙ c.in_ok-numbering.ensures)
    (subst (λ k. Represents k c.in_ok-system.system.rules (demands_of (program_of c.args.program.now))) c.in_ok-numbering.ensures c.in_ok-system.ensures.rules) l b s same) c.least_pairs.ensures.bounded c.least_pairs.ensures.least
