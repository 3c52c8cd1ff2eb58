use Rattle.std.proofs.Common.{sym, ap, ◌∙◌, rules}
use Rattle.std.specs.Str.{bytes_eq}
use Rattle.base_outside.specs.Memory.{Entry}
use Rattle.base_outside.proofs.Entries.{found, found_nowhere, rewrites}
use Rattle.base_outside.proofs.mem_files.clear.Goals as goal

pub returns-in_default-clause-entry : goal.returns-in_default-clause-entry
returns-in_default-clause-entry c =
    rw (found_nowhere (λ (e : Entry). bytes_eq e.name c.args.name.now) c.args.files.now (sym c.place_of.ensures ∙ c.in_default.is))
    (search rules)

pub returns-clause-entry : goal.returns-clause-entry
returns-clause-entry c =
    rw (found (λ (e : Entry). bytes_eq e.name c.args.name.now) c.args.files.now c.in-Some.place c.index-files-place.result
    (sym c.place_of.ensures ∙ c.in-Some.is)) (search rules)

pub returns-clause-cleared : goal.returns-clause-cleared
returns-clause-cleared c =
    rewrites c.args.files.now c.args.name.now _ c.in-Some.place c.clear.new.self c.index-files-place.result
    (sym c.place_of.ensures ∙ c.in-Some.is)
    (ap (λ (e : Entry). e.name) c.clear.ensures) (ap (λ (e : Entry). e.room) c.clear.ensures)
    (ap (λ (e : Entry). e.held) c.clear.ensures)
