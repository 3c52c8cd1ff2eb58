use Rattle.std.proofs.Common.{ℕ, List, ◌≡◌, map, ap, subst, ◌∙◌}
use Rattle.std.specs.Prelude.{IfOk}
use Rattle.monitor_model.specs.declared.tables.SiteRecord.{SiteRecord}
use Rattle.ir_program.specs.Seen.{program_of}
use Rattle.image_symbols.specs.Rising as order
use Rattle.image_symbols.proofs.Parts.{returns_made}
use Rattle.image_symbols.proofs.site_lines.returns.Goals as goal

pub returns : goal.returns
returns c =
    let s = c.args.subject.now in
    subst (λ (xs : List ℕ). IfOk c.rising.result (λ all. all.items ≡ order.rising xs))
    (c.deref.ensures.value
    ∙ c.in_ok-addresses.ensures
    ∙ ap (map (λ (r : SiteRecord). r.ret)) c.as_slice.ensures
    ∙ returns_made (program_of s.program.now) s.needs.now s.graph.now s.plan.now s.board.now c.args.parts.now c.requires) c.rising.ensures
