use Rattle.std.proofs.Common.{sym, subst, MatchOption, Option, ℕ, map, take, ◌≡◌}
use Rattle.ir_model.specs.Plain.{struct_of}
use Rattle.ir_model.specs.Layout.{known, shape_named, empty}
use Rattle.ir_layouts.specs.Tables.{IsPlaceBelow}
use Rattle.ir_layouts.proofs.Entries.{place_found, place_missing, place_late}
use Rattle.ir_layouts.proofs.table.Layouts.place_below.Goals as goal

pub returns-in_err-place : goal.returns-in_err-place
returns-in_err-place c =
    let g = place_missing c.self.inside.names c.self.inside.structs.items c.args.self.now c.args.below c.args.name.now c.self.invariant c.self.view_is c.in_err-place.ensures in
    subst (λ (o : Option ℕ). MatchOption o (shape_named (known (map struct_of (take c.args.below c.args.self.now))) c.args.name.now ≡ empty) (IsPlaceBelow c.args.self.now c.args.below c.args.name.now))
    (sym c.from_residual.ensures) g.shape

pub returns-then-place-below : goal.returns-then-place-below
returns-then-place-below c =
    place_found c.self.inside.names c.self.inside.structs.items c.args.self.now c.args.below c.args.name.now c.in_ok-place.place c.self.invariant c.self.view_is
    c.in_ok-place.ensures.0 c.in_ok-place.ensures.1.0 c.in_ok-place.ensures.1.1 c.if-place-below.true

pub returns-else-place-below : goal.returns-else-place-below
returns-else-place-below c =
    (place_late c.self.inside.names c.self.inside.structs.items c.args.self.now c.args.below c.args.name.now c.in_ok-place.place c.self.invariant c.self.view_is
    c.in_ok-place.ensures.1.0 c.if-place-below.false).shape
