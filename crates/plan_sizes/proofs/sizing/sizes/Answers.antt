use Rattle.std.proofs.Common.{◌≡◌, ℕ, ◌+◌, ◌*◌, List, length, ap, sym, ◌∙◌}
use Rattle.std.proofs.lemmas.List.{length-map}
use Rattle.ir_program.specs.Parts.{routine_of}
use Rattle.ir_program.specs.Seen.{known_of, program_of}
use Rattle.plan_model.specs.declared.needs.SiteNeed.{SiteNeed}
use Rattle.plan_model.specs.declared.plan.Sizes.{Sizes}
use Rattle.plan_model.specs.Crossing.{crossing_sites}
use Rattle.plan_model.specs.TableSize.{initial_words}
use Rattle.code_model.specs.CompartmentCode.{code_sizes}
use Rattle.code_model.specs.Planned.{code_groups}
use Rattle.plan_crossings.specs.Seen.{seen_sites}
use Rattle.plan_sizes.specs.Parts.{code_with, block_count, record_bytes}
use Rattle.plan_sizes.proofs.Same.{code_is, tables_are}
use Rattle.plan_sizes.proofs.sizing.sizes.Goals as goal

pub returns : goal.returns
returns c =
    let p = program_of c.args.program.now in
    let n = c.args.needs.now in
    let f = c.args.fin.now in
    let slots = c.args.slots in
    let ss = crossing_sites n f.groups in
    let found = c.lent_locals-lent.result.now in
    let sites = ap seen_sites c.deref.ensures.value ∙ c.in_ok-sites.ensures in
    let same_sites = ap seen_sites c.deref-2.ensures.value ∙ c.in_ok-sites.ensures in
    let each : length f.groups.of ≡ length p.funcs = c.requires.each ∙ sym (length-map c.args.program.now.funcs (routine_of (known_of c.args.program.now))) in
    let bytes : List SiteNeed → List (ℕ × ℕ) → ℕ = λ xs ys. record_bytes f xs slots + 4 * length ys + 12 * block_count f + 4 * initial_words p f in
    let tables = c.in-Some.ensures ∙ ap (λ xs. bytes xs found) sites ∙ ap (λ ys. bytes ss ys) c.lent_locals-lent.ensures ∙ tables_are p n f slots in
    let code =
    c.new.ensures ∙ c.in_ok-code.ensures ∙ ap (λ xs. code_with p f.groups xs found) same_sites ∙ ap (λ ys. code_with p f.groups ss ys) c.lent_locals-lent.ensures
    ∙ code_is p n f.groups each in
    let built : List ℕ → ℕ → Sizes = λ code tables. record { code = code; tables = tables } in
    ap (λ x. built x c.in-Some.tables) code ∙ ap (λ x. built (code_sizes p (code_groups p n f.groups) f.groups.count) x) tables
