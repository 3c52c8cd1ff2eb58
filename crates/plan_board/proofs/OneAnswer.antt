-- A text has one document, and a document has one answer.
use Rattle.std.proofs.Common.{◌≡◌, ℕ, List, Result, Ok, Err, refl, sym, ap, ◌∙◌}
use Rattle.plan_model.specs.declared.plan.Board.{Board}
use Rattle.toml.specs.Data.{Members}
use Rattle.toml.specs.Parse.{parse_document}
use Rattle.plan_board.specs.declared.fault.BoardFault.{BoardFault}
use Rattle.plan_board.specs.declared.fault.BoardFault.TheVariants.{NoMemory, NotToml, Missing, Kind, Range, DeniedKind, DeniedRange, Extra}
use Rattle.plan_board.specs.Laws.{BoardsAreOne, BoardsAreNotRefused}
use Rattle.plan_board.specs.Reading.{reading, IsDocument, IsRead, IsRefused}
use Rattle.base_laws.proofs.Options.{one_some}

one_ok : {X E : Type 0} (r : Result X E) (x y : X) → r ≡ Ok x → r ≡ Ok y → x ≡ y
one_ok r x y a b = cc

never_both : {X E : Type 0} (r : Result X E) (x : X) (e : E) → r ≡ Ok x → r ≡ Err e → ⊥
never_both r x e a b = cc

one_document : (text : List ℕ) (ms ns : Members) → IsDocument text ms → IsDocument text ns → ms ≡ ns
one_document text ms ns a b = one_some (parse_document text) ms ns a.1 b.1

pub boards_are_one : BoardsAreOne
boards_are_one text b c x y =
    let same : x.0 ≡ y.0 = one_document text x.0 y.0 x.1 y.1 in
    one_ok (reading y.0) b c (ap reading (sym same) ∙ x.2) y.2

unrefused : (text : List ℕ) (b : Board) (e : BoardFault) → IsRead text b → IsRefused text e → ⊥
unrefused text b e x y =
    let same : x.0 ≡ y.0 = one_document text x.0 y.0 x.1 y.1 in
    never_both (reading y.0) b e (ap reading (sym same) ∙ x.2) y.2

pub boards_are_not_refused : BoardsAreNotRefused
boards_are_not_refused text b NoMemory x y = refl
boards_are_not_refused text b NotToml x y = absurd (y x.0 x.1)
boards_are_not_refused text b (Missing k) x y = absurd (unrefused text b (Missing k) x y)
boards_are_not_refused text b (Kind k) x y = absurd (unrefused text b (Kind k) x y)
boards_are_not_refused text b (Range k) x y = absurd (unrefused text b (Range k) x y)
boards_are_not_refused text b (DeniedKind path) x y = absurd (unrefused text b (DeniedKind path) x y)
boards_are_not_refused text b (DeniedRange path) x y = absurd (unrefused text b (DeniedRange path) x y)
boards_are_not_refused text b (Extra path) x y = absurd (unrefused text b (Extra path) x y)
