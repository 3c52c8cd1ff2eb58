-- How many locals of a function are lent: as many as have a number.
use Rattle.std.proofs.Common.{◌≡◌, ℕ, ◌*◌, List, [], ◌∷◌, cond, length, count_by, is_some, Option, Some, None, refl, sym, ◌∙◌, arith}
use Rattle.std.proofs.lemmas.List.Sums.{sum_by-cons}
use Rattle.ir_model.specs.Resolved.{NumberedFunc}
use Rattle.code_model.specs.FrameShape.{local_starts}
use Rattle.code_model.specs.Places.{lends_among}
use Rattle.code_model.proofs.Frames.{starts_length}

-- each number of a local that has a place in the frame
pub lends_counted : (starts : List ℕ) (ns : List (Option ℕ)) → length starts ≡ length ns → length (lends_among starts ns) ≡ count_by is_some ns
lends_counted [] [] e = refl
lends_counted [] (n ∷ ns) e = absurd (omega arith)
lends_counted (s ∷ ss) [] e = absurd (omega arith)
lends_counted (s ∷ ss) (None ∷ ns) e =
    let r = lends_counted ss ns (omega arith) in
    let a = sum_by-cons (λ (o : Option ℕ). cond (is_some o) 1 0) None ns in
    omega (arith, r, a)
lends_counted (s ∷ ss) (Some n ∷ ns) e =
    let r = lends_counted ss ns (omega arith) in
    let a = sum_by-cons (λ (o : Option ℕ). cond (is_some o) 1 0) (Some n) ns in
    omega (arith, r, a)

-- where each local of a function has a number or none
pub lent_counted : (g : NumberedFunc) (ns : List (Option ℕ)) → length ns ≡ length g.locals → count_by is_some ns ≡ length (lends_among (local_starts g) ns)
lent_counted g ns e = sym (lends_counted (local_starts g) ns (starts_length (4 * length g.regs) g.locals ∙ sym e))
