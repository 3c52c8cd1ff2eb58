use Rattle.std.proofs.Common.{◌≡◌, ◌↔◌, ◌<◌, ℕ, true, false, [], length, get_or, replicate, sym, ap, subst, ◌∙◌, arith}
use Rattle.std.specs.Prelude.{◌⊎◌, Contains}
use Rattle.std.proofs.lemmas.List.{length-replicate, get_or_default}
use Rattle.aces_why.specs.Marks.{AreMarks}
use Rattle.aces_why.proofs.Marking.{searched_first, searched_more, all_searched, marks_none}
use Rattle.aces_why.proofs.search.reached_flags.Goals as goal

pub mark-requires : goal.mark-requires
mark-requires c = subst (λ fs. AreMarks fs c.new-found.result.items) (sym (c.in_ok-flags.ensures.items_if_clones_equal (λ y h. h))) (subst (AreMarks (replicate (length c.args.next.now) false)) (sym c.new-found.ensures.items) (marks_none (length c.args.next.now)))

pub loop-handled-init : goal.loop-handled-init
loop-handled-init c =
    let n = length c.args.next.now in
    let e = c.in_ok-flags.ensures.items_if_clones_equal (λ y h. h) in
    let m = c.in_ok-mark.ensures in
    let size = m.count ∙ (ap length e ∙ length-replicate n false) in
    searched_first c.args.next.now c.args.first c.mark.new.flags.items c.mark.new.found.items size m.marks
    (subst (λ fs. (g : ℕ) → get_or c.mark.new.flags.items g false ≡ true ↔ ((get_or fs g false ≡ true) ⊎ ((g ≡ c.args.first) × (g < length fs)))) e m.flags)

pub loop-handled-preserved : goal.loop-handled-preserved
loop-handled-preserved c =
    let m = c.in_ok-mark_all.ensures in
    let found = c.loop-handled.found.items in
    let flags = c.loop-handled.flags.items in
    let q = c.index-number.ensures ∙ get_or_default found c.loop-handled.handled c.index-number.result.now 0 (omega arith) in
    let e = c.row.ensures ∙ ap (λ k. get_or c.args.next.now k []) q in
    searched_more c.args.next.now c.args.first c.loop-handled.handled flags c.mark_all.new.flags.items found c.mark_all.new.found.items c.loop-handled.invariant (omega arith)
    m.count m.marks m.longer m.kept
    (subst (λ xs. (g : ℕ) → get_or c.mark_all.new.flags.items g false ≡ true ↔ ((get_or flags g false ≡ true) ⊎ (Contains xs g × (g < length flags)))) e m.flags)

pub returns : goal.returns
returns c = all_searched c.args.next.now c.args.first c.loop-handled.handled c.loop-handled.flags.items c.loop-handled.found.items c.loop-handled.invariant (omega arith)
