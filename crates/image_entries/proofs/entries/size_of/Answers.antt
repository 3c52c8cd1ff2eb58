use Rattle.std.proofs.Common.{◌≡◌, ◌<◌, ℕ, Option, List, [], length, map, get_or, count_by, is_some, ap, ◌∙◌, arith}
use Rattle.std.proofs.lemmas.Option.{IfSome_then}
use Rattle.std.proofs.lemmas.List.{length-map}
use Rattle.ir_model.specs.Resolved.{func_at}
use Rattle.ir_program.specs.Parts.{routine_of}
use Rattle.ir_program.specs.Seen.{program_of, known_of}
use Rattle.code_model.specs.declared.places.CallSite.{CallSite}
use Rattle.code_model.specs.FrameShape.{local_starts}
use Rattle.code_model.specs.Places.{lends_among}
use Rattle.code_model.specs.Sizes.{function_size}
use Rattle.code_model.specs.CompartmentCode as compartments
use Rattle.image_entries.specs.Grouped.{groups_in}
use Rattle.code_model.proofs.Lends.{lent_counted}
use Rattle.image_entries.proofs.entries.size_of.Goals as goal

pub returns : goal.returns
returns c =
    let p = c.args.program.now in
    let k = c.args.func in
    let x = c.args.numbers.now in
    let g = func_at (program_of p) k in
    let sites : List CallSite = get_or x.sites k [] in
    let lends : List (Option ℕ) = get_or x.lends k [] in
    let ss : c.as_slice-3.result.now ≡ sites = c.as_slice-3.ensures ∙ c.in_ok-sites.ensures.lookup.3.1 [] ∙ ap (λ ys. get_or ys k []) c.as_slice.ensures in
    let ls : c.as_slice-4.result.now ≡ lends = c.as_slice-4.ensures ∙ c.in_ok-lends.ensures.lookup.3.1 [] ∙ ap (λ ys. get_or ys k []) c.as_slice-2.ensures in
    let found = c.in_ok-lent_count.field-0 in
    IfSome_then c.function_size.result {P = λ n. (k < length p.funcs) × (n ≡ function_size g c.as_slice-3.result.now found)} {Q = λ n. (cs : List ℕ) → n ≡ compartments.size_of (program_of p) (groups_in cs x) k} c.function_size.ensures
    (λ n h. λ cs.
    let there : k < length (map (routine_of (known_of p)) p.funcs) = omega (arith, h.0, length-map p.funcs (routine_of (known_of p))) in
    let count : found ≡ length (lends_among (local_starts g) lends) = c.in_ok-lent_count.ensures ∙ ap (λ ns. count_by is_some ns) ls ∙ lent_counted g lends (c.requires k there) in
    h.1 ∙ ap (λ zs. function_size g zs found) ss ∙ ap (λ n. function_size g sites n) count)
