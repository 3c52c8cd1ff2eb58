use Rattle.std.proofs.Common.{◌≡◌, ◌++◌, Bool, true, [], ap, sym, codes, ◌∙◌, append_assoc, if◌then◌else◌}
use Rattle.std.proofs.lemmas.Result.{on_ok_weaker}
use Rattle.machine_lines.specs.Lines.{line_feed}
use Rattle.aces_why.specs.Lines.{place_text}
use Rattle.aces_why.specs.Subjects.{Subject, subject_of, objects_of}
use Rattle.aces_why.specs.Warnings.{are_constants}
use Rattle.aces_why.proofs.warnings.put_constant_store.Goals as goal

pub returns-then-are_constants : goal.returns-then-are_constants
returns-then-are_constants c =
    let s : Subject = subject_of c.args.subject.now in
    let old = c.args.text.now in
    let word = codes "stores to const " in
    let place = place_text s.firmware c.args.place.func c.args.place.block c.args.place.inst in
    let all : are_constants s.program (objects_of s c.args.place.func c.args.register) ≡ true =
    sym (c.are_constants.ensures ∙ ap (are_constants s.program) c.objects_of.ensures) ∙ c.if-are_constants.true in
    on_ok_weaker c.put-then-are_constants.result
    (λ e.
    e ∙ (ap (λ t. t ++ line_feed) (c.in_ok-put_place.ensures ∙ ap (λ t. t ++ place) c.in_ok-put.ensures)
    ∙ (append_assoc (old ++ word) place line_feed ∙ (append_assoc old word (place ++ line_feed)
    ∙ ap (λ (t : Bool). old ++ (if t then word ++ place ++ line_feed else [])) (sym all)))))
    c.put-then-are_constants.ensures
