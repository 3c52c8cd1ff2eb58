use Rattle.std.proofs.Common.{ap, ◌∙◌, rules}
use Rattle.std.proofs.lemmas.List.{get_or_default}
use Rattle.std.proofs.lemmas.List.Sorted.{answers_always}
use Rattle.ir_run.specs.declared.frame.Frame.{Frame}
use Rattle.ir_run.proofs.Rising.{is_place, none_of_function, none_at_gap, number_at}
use Rattle.ir_run.proofs.search.place_of.Goals as goal

-- the search ended between two places
pub returns-in_default : goal.returns-in_default
returns-in_default c =
    none_at_gap c.args.func c.args.number c.args.frames.now c.requires.made c.requires.ordered c.in_default.field-0
    (c.in_default.ensures.position (λ (y : Frame). y.number) (answers_always _ _ _ (λ f a r g called. search rules)))

-- it ended at the frame
pub returns-then-frames-place : goal.returns-then-frames-place
returns-then-frames-place c =
    is_place c.args.func c.args.number c.args.frames.now c.requires.made c.requires.ordered c.in-Ok.place c.in-Ok.ensures.bound
    (number_at c.args.frames.now c.args.number c.in-Ok.place (c.in-Ok.ensures.position (λ (y : Frame). y.number) (answers_always _ _ _ (λ f a r g called. search rules))))
    (λ d. ap (λ (y : Frame). y.func) (get_or_default c.args.frames.now c.in-Ok.place d c.index-frames-place.result c.in-Ok.ensures.bound) ∙ c.if-frames-place.true)

-- it ended at a frame of another function
pub returns-else-frames-place : goal.returns-else-frames-place
returns-else-frames-place c =
    none_of_function c.args.func c.args.number c.args.frames.now c.requires.made c.requires.ordered c.in-Ok.place c.in-Ok.ensures.bound
    (number_at c.args.frames.now c.args.number c.in-Ok.place (c.in-Ok.ensures.position (λ (y : Frame). y.number) (answers_always _ _ _ (λ f a r g called. search rules))))
    (λ d e. c.if-frames-place.false (ap (λ (y : Frame). y.func) (get_or_default c.args.frames.now c.in-Ok.place c.index-frames-place.result d c.in-Ok.ensures.bound) ∙ e))
