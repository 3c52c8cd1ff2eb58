use Rattle.std.proofs.Common.{◌≡◌, ◌<◌, ℕ, List, length, map, take, get_or, refl, ap, sym, ◌∙◌, arith}
use Rattle.std.proofs.lemmas.Bool.{eq-eqb, ne_eqb}
use Rattle.std.proofs.lemmas.List.{length-map}
use Rattle.std.proofs.lemmas.List.FromFn.{get_or-map-range_with_len}
use Rattle.machine_thumb_asm.specs.Assembly.{here}
use Rattle.ir_model.specs.Resolved.{func_at}
use Rattle.ir_program.specs.Parts.{routine_of}
use Rattle.ir_program.specs.Seen.{known_of}
use Rattle.plan_model.specs.Lists.{numbers_below}
use Rattle.code_model.specs.declared.places.Places.{Places}
use Rattle.code_model.specs.CompartmentCode.{members_from, before, size_of, entry_of, places_of}
use Rattle.code_model.specs.Emitted.{size_in}
use Rattle.image_entries.specs.Grouped.{places_in}
use Rattle.image_entries.specs.Making.{program_in, grouped, places_at}
use Rattle.image_linker.specs.Standing.{standing, first_members}
use Rattle.code_model.proofs.Members.{member_kept, member_dropped}
use Rattle.image_linker.proofs.Standing.{function_more}
use Rattle.image_linker.proofs.code.put_member.Goals as goal

pub returns-then-making-func : goal.returns-then-making-func
returns-then-making-func c =
    let m = c.args.making.now in
    let ds = m.compartments.now in
    let k = c.args.func in
    let t = ne_eqb (get_or ds k 0) c.args.compartment c.if-making-func.true in
    c.requires.before ∙ ap (λ fs. standing m c.args.compartment fs) (sym (member_dropped k ds c.args.compartment c.requires.there t))

pub returns : goal.returns
returns c =
    let m = c.args.making.now in
    let ds = m.compartments.now in
    let k = c.args.func in
    let x = c.args.compartment in
    let p = program_in m in
    let gs = grouped m in
    let at = places_at m in
    let fs = first_members m x k in
    let ready = c.requires.ready in
    let q = places_in m.addresses.now m.numbers.now k in
    let same : get_or ds k 0 ≡ x = c.if-making-func.false in
    let n = length m.program.now.funcs in
    let lt : k < n = omega (arith, c.requires.there, ready.compartments) in
    let es : m.addresses.now.entries ≡ map (entry_of p gs at) (numbers_below (length p.funcs)) =
    ready.entries ∙ ap (λ j. map (entry_of p gs at) (numbers_below j)) (sym (length-map m.program.now.funcs (routine_of (known_of m.program.now)))) in
    let placed : List ℕ → Places = λ xs. record { globals = q.globals; windows = q.windows; entries = xs; sites = q.sites; lends = q.lends } in
    let eq : q ≡ places_of p gs at k = ap placed es in
    let eh : here c.args.asm.now ≡ entry_of p gs at k =
    sym c.in_ok-put_function.ensures.entry ∙ ap (λ xs. get_or xs k 0) ready.entries ∙ get_or-map-range_with_len (entry_of p gs at) 0 n k k 0 lt (omega arith) in
    let ef : fs ≡ before p gs k = ap (λ y. members_from 0 (take k ds) y) (sym same) in
    let z : size_in q (func_at p k) ≡ size_of p gs k = refl in
    function_more m x k fs c.args.asm.now c.put_function.new.asm q (size_in q (func_at p k)) c.requires.before eq eh ef z c.in_ok-put_function.ensures.exact
    ∙ ap (λ gs. standing m x gs) (sym (member_kept k ds x c.requires.there (eq-eqb (get_or ds k 0) x same)))
