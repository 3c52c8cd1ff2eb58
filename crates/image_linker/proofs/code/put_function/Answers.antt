use Rattle.std.proofs.Common.{◌≡◌, [], OnOk, ap, sym, ◌∙◌, subst}
use Rattle.ir_model.specs.Resolved.{func_at}
use Rattle.code_model.specs.declared.places.Places.{Places}
use Rattle.code_model.specs.Emitted.{size_in}
use Rattle.code_model.specs.Fitting.{FuncFits}
use Rattle.image_entries.specs.Grouped.{places_in}
use Rattle.image_entries.specs.Making.{program_in}
use Rattle.image_linker.specs.Standing.{with_filled}
use Rattle.image_linker.proofs.Fits.{function_fits}
use Rattle.image_linker.proofs.code.put_function.Goals as goal

pub put_standing-requires-clause-fits : goal.put_standing-requires-clause-fits
put_standing-requires-clause-fits c =
    let m = c.args.making.now in
    let g = func_at (program_in m) c.args.func in
    subst (λ (q : Places). FuncFits q g) (sym c.in_ok-places.ensures) (function_fits m c.args.func c.requires.ready c.requires.there c.typed_functions.ensures.fit)

pub put_standing-requires-clause-size : goal.put_standing-requires-clause-size
put_standing-requires-clause-size c =
    let g = func_at (program_in c.args.making.now) c.args.func in
    c.in-Some.ensures [] ∙ ap (λ (q : Places). size_in q g) (sym c.in_ok-places.ensures)

pub returns-clause-exact : goal.returns-clause-exact
returns-clause-exact c =
    let m = c.args.making.now in
    let g = func_at (program_in m) c.args.func in
    let q = places_in m.addresses.now m.numbers.now c.args.func in
    let a = c.args.asm.now in
    let r = c.put_standing.result in
    let b = c.put_standing.new.asm in
    let one = subst (λ (x : Places). OnOk r (b ≡ with_filled a g x c.in-Some.size)) c.in_ok-places.ensures c.put_standing.ensures in
    subst (λ z. OnOk r (b ≡ with_filled a g q z)) (c.in-Some.ensures []) one
