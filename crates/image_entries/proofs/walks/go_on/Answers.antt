use Rattle.std.proofs.Common.{◌<◌, [], length, get_or, ap, ◌∙◌, arith}
use Rattle.std.proofs.lemmas.Option.{IfSome_then}
use Rattle.ir_program.specs.Parts.{routine_of}
use Rattle.ir_program.specs.Seen.{program_of}
use Rattle.code_offsets.specs.Walks.{IsReached}
use Rattle.image_entries.specs.Walked.{IsReachedIn}
use Rattle.image_entries.proofs.LookedUp.{IsLookedUp, looked_up, reached_bare, reached_there}
use Rattle.image_entries.proofs.walks.go_on.Goals as goal

pub reach-requires : goal.reach-requires
reach-requires c =
    let p = c.args.program.now in
    let k = c.args.func in
    let x = c.args.numbers.now in
    let r = c.in_ok-routine.routine.now in
    let ss = c.as_slice-5.result.now in
    let n = c.in_ok-lent.lent in
    let lt : k < length p.funcs = omega (arith, c.in_ok-routine.ensures.lookup.3.0, ap (λ ys. length ys) c.as_slice.ensures) in
    let is : IsLookedUp p x k r ss n =
    looked_up p x k r ss c.as_slice-4.result.now n c.requires.lends lt
    (c.in_ok-routine.ensures.lookup.1 ∙ ap (λ ys. get_or ys k r) c.as_slice.ensures)
    (c.as_slice-5.ensures ∙ c.in_ok-sites.ensures.lookup.3.1 [] ∙ ap (λ ys. get_or ys k []) c.as_slice-2.ensures)
    (c.as_slice-4.ensures ∙ c.in_ok-lends.ensures.lookup.3.1 [] ∙ ap (λ ys. get_or ys k []) c.as_slice-3.ensures)
    c.in_ok-lent.ensures in
    IfSome_then c.args.last {P = IsReachedIn (program_of p) x k} {Q = IsReached (routine_of [] r) ss n} c.requires.last (reached_bare p x k r ss n is)

pub returns : goal.returns
returns c =
    let p = c.args.program.now in
    let k = c.args.func in
    let x = c.args.numbers.now in
    let r = c.in_ok-routine.routine.now in
    let ss = c.as_slice-5.result.now in
    let n = c.in_ok-lent.lent in
    let lt : k < length p.funcs = omega (arith, c.in_ok-routine.ensures.lookup.3.0, ap (λ ys. length ys) c.as_slice.ensures) in
    let is : IsLookedUp p x k r ss n =
    looked_up p x k r ss c.as_slice-4.result.now n c.requires.lends lt
    (c.in_ok-routine.ensures.lookup.1 ∙ ap (λ ys. get_or ys k r) c.as_slice.ensures)
    (c.as_slice-5.ensures ∙ c.in_ok-sites.ensures.lookup.3.1 [] ∙ ap (λ ys. get_or ys k []) c.as_slice-2.ensures)
    (c.as_slice-4.ensures ∙ c.in_ok-lends.ensures.lookup.3.1 [] ∙ ap (λ ys. get_or ys k []) c.as_slice-3.ensures)
    c.in_ok-lent.ensures in
    record {
      block = c.reach.ensures.block;
      place = c.reach.ensures.place;
      reached = IfSome_then c.reach.result {P = IsReached (routine_of [] r) ss n} {Q = IsReachedIn (program_of p) x k} c.reach.ensures.reached (reached_there p x k r ss n is);
    }
