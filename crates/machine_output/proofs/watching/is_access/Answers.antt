use Rattle.std.proofs.Common.{length, refl, ap, sym, ◌∙◌}
use Rattle.std.proofs.lemmas.Option.{slice_get_past, slice_get_read}
use Rattle.machine_output.specs.Watches.{accesses_in}
use Rattle.machine_output.proofs.watching.is_access.Goals as goal

pub returns-in-Some : goal.returns-in-Some
returns-in-Some c =
    let ws = c.args.windows.now in
    let e = c.args.event.now in
    let w = c.in-Some.window.now in
    c.has_byte.ensures ∙ ap (λ o. accesses_in o c.args.address e) (sym (slice_get_read ws (length ws) e.periph w refl c.in-Some.ensures.lookup.3.0 c.in-Some.ensures.lookup.1))

pub returns-in-None : goal.returns-in-None
returns-in-None c =
    let ws = c.args.windows.now in
    let e = c.args.event.now in
    ap (λ o. accesses_in o c.args.address e) (sym (slice_get_past ws e.periph c.in-None.ensures.lookup.3))
