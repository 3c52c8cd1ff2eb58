-- Planning has one answer, where there is memory enough.
use Rattle.std.proofs.Common.{◌≡◌, ℕ, Bool, true, false, Option, Some, None, option_map, Result, Err, nat_lt, refl, sym, ap, subst, ◌∙◌}
use Rattle.std.specs.Prelude.{◌≢◌}
use Rattle.std.proofs.lemmas.Bool.{le-ltb}
use Rattle.ir_model.specs.Resolved.{Program}
use Rattle.plan_model.specs.declared.needs.Needs.{Needs}
use Rattle.plan_model.specs.declared.groups.Groups.{Groups}
use Rattle.plan_model.specs.declared.graph.Graph.{Graph}
use Rattle.plan_model.specs.declared.graph.Final.{Final}
use Rattle.plan_model.specs.declared.limits.LimitKind.{LimitKind}
use Rattle.plan_model.specs.declared.plan.Board.{Board}
use Rattle.plan_model.specs.declared.plan.Sizes.{Sizes}
use Rattle.plan_model.specs.declared.plan.Plan.{Plan}
use Rattle.plan_model.specs.Boards.{slots_of}
use Rattle.plan_model.specs.CompileLimits.{first_passed}
use Rattle.plan_model.specs.FinalGraph.{IsMerged}
use Rattle.plan_model.specs.FlashPlacement.{flash_needed}
use Rattle.plan_model.specs.InitialGraph.{initial_graph}
use Rattle.plan_model.specs.RamPlacement.{ram_needed}
use Rattle.plan_model.specs.Placement.{Fits, plan_of}
use Rattle.plan_limits.specs.Told.{in_32_bits}
use Rattle.code_model.specs.Planned.{sizes_of}
use Rattle.plan_layout.specs.declared.refusal.PlaceRefusal.{PlaceRefusal}
use Rattle.plan_layout.specs.declared.refusal.PlaceRefusal.TheVariants as place
use Rattle.plan_layout.specs.Placing.{flash_refusal, ram_refusal}
use Rattle.plan_layout.specs.Placing as placing
use Rattle.plan.specs.declared.planner.PlannedFirmware.{PlannedFirmware}
use Rattle.plan.specs.declared.refusal.PlanningRefusal.{PlanningRefusal}
use Rattle.plan.specs.declared.refusal.PlanningRefusal.TheVariants.{NoMemory, Limit, Denied, Room}
use Rattle.plan.specs.Planned.{IsPlannedFor}
use Rattle.plan_denials.specs.declared.Meeting.{Meeting}
use Rattle.plan_denials.specs.Meetings.{first_meeting}
use Rattle.plan.specs.Refusals.{AreRefused, AsksForDenied, HasNoRoom, IsPlanningRefusal, of_place}
use Rattle.plan.specs.Laws.{PlansAreOne, PlansAreNotRefused, PlanningRefusalsAreOne}
use Rattle.base_laws.proofs.Options.{one_some as one_passed}
use Rattle.plan_layout.proofs.Tried.{tried}

-- ---- blocks that fit are placed

untried : (a b : Bool) (x y r : PlaceRefusal) (l : Plan) → a ≡ false → b ≡ false → tried a b x y l ≡ Err r → ⊥
untried true b x y r l e f h = cc
untried false true x y r l e f h = cc
untried false false x y r l e f h = cc

unrefused : (p : Program) (f : Final) (s : Sizes) (b : Board) (r : PlaceRefusal) → Fits p f s b → placing.placed p f s b ≡ Err r → ⊥
unfolding placing.placed
unrefused p f s b r k h =
    untried (nat_lt b.flash_size (flash_needed s)) (nat_lt b.ram_size (ram_needed p f b)) (flash_refusal s b) (ram_refusal p f b) r (plan_of p f s b)
    (le-ltb b.flash_size (flash_needed s) k.flash)
    (le-ltb b.ram_size (ram_needed p f b) k.ram)
    h

-- ---- one answer

abbrev GraphsAreOne : Type 0
GraphsAreOne = (p : Program) (slots : ℕ) (g : Graph) (f h : Final) → IsMerged p slots g f → IsMerged p slots g h → f ≡ h

no_limit : (o : Option (LimitKind × ℕ)) (x : LimitKind × ℕ) → o ≡ None → option_map in_32_bits o ≡ Some x → ⊥
no_limit None x e h = cc
no_limit (Some y) x e h = cc

module _ (one : GraphsAreOne) (p : Program) (n : Needs) (g : Groups) (b : Board) where
  has_room : (x : PlannedFirmware) (r : PlaceRefusal) → IsPlannedFor p n g b x → HasNoRoom p n g b r → ⊥
  has_room x r k h =
      let same : h.graph ≡ x.graph = one p (slots_of b) (initial_graph p n g) h.graph x.graph h.final k.final in
      let refused = subst (λ (f : Final). AreRefused p n f b r) same h.refused in
      unrefused p x.graph (sizes_of p n x.graph (slots_of b)) b r (subst (λ (s : Sizes). Fits p x.graph s b) k.placed.sizes k.placed.fits) refused

  asks : (x : PlannedFirmware) (m : Meeting) → IsPlannedFor p n g b x → AsksForDenied p n g b m → ⊥
  asks x m k h =
      let same : h.graph ≡ x.graph = one p (slots_of b) (initial_graph p n g) h.graph x.graph h.final k.final in
      let wrong : None ≡ Some m = sym k.off ∙ (sym (ap (first_meeting b.denied p) same) ∙ h.meets) in
      cc

  not_refused : (x : PlannedFirmware) (r : PlanningRefusal) → IsPlannedFor p n g b x → IsPlanningRefusal p n g b r → r ≡ NoMemory
  not_refused x NoMemory k h = refl
  not_refused x (Limit w c) k h = absurd (no_limit (first_passed n g) (w, c) k.limits h)
  not_refused x (Denied m) k h = absurd (asks x m k h)
  not_refused x (Room lack) k h = absurd (has_room x _ k h)

  same_plan : (x y : PlannedFirmware) → IsPlannedFor p n g b x → IsPlannedFor p n g b y → x ≡ y
  same_plan x y k h =
      let graph : x.graph ≡ y.graph = one p (slots_of b) (initial_graph p n g) x.graph y.graph k.final h.final in
      let sizes : x.sizes ≡ y.sizes = k.placed.sizes ∙ (ap (λ (f : Final). sizes_of p n f (slots_of b)) graph ∙ sym h.placed.sizes) in
      let first : plan_of p x.graph x.sizes b ≡ plan_of p y.graph x.sizes b = ap (λ (f : Final). plan_of p f x.sizes b) graph in
      let second : plan_of p y.graph x.sizes b ≡ plan_of p y.graph y.sizes b = ap (λ (s : Sizes). plan_of p y.graph s b) sizes in
      let plan : x.plan ≡ y.plan = k.placed.plan ∙ (first ∙ (second ∙ sym h.placed.plan)) in
      ap (λ (f : Final). let z : PlannedFirmware = record { graph = f; sizes = x.sizes; plan = x.plan } in z) graph
      ∙ (ap (λ (s : Sizes). let z : PlannedFirmware = record { graph = y.graph; sizes = s; plan = x.plan } in z) sizes
      ∙ ap (λ (l : Plan). let z : PlannedFirmware = record { graph = y.graph; sizes = y.sizes; plan = l } in z) plan)

pub plans_are_one : GraphsAreOne → PlansAreOne
plans_are_one one p n g b x y k h = same_plan one p n g b x y k h

pub plans_are_not_refused : GraphsAreOne → PlansAreNotRefused
plans_are_not_refused one p n g b x r k h = not_refused one p n g b x r k h

-- ---- one refusal

one_error : {X E : Type 0} (r : Result X E) (e f : E) → r ≡ Err e → r ≡ Err f → e ≡ f
one_error r e f a b = cc

module _ (one : GraphsAreOne) (p : Program) (n : Needs) (g : Groups) (b : Board) where
  same_limit : (w v : LimitKind) (c d : ℕ) → IsPlanningRefusal p n g b (Limit w c) → IsPlanningRefusal p n g b (Limit v d) → Limit w c ≡ Limit v d
  same_limit w v c d h k = ap (λ (x : LimitKind × ℕ). Limit x.0 x.1) (one_passed (option_map in_32_bits (first_passed n g)) (w, c) (v, d) h k)

  limit_or_room : (w : LimitKind) (c : ℕ) (r : PlaceRefusal) → IsPlanningRefusal p n g b (Limit w c) → HasNoRoom p n g b r → ⊥
  limit_or_room w c r h k = no_limit (first_passed n g) (w, c) k.limits h

  limit_or_denied : (w : LimitKind) (c : ℕ) (m : Meeting) → IsPlanningRefusal p n g b (Limit w c) → AsksForDenied p n g b m → ⊥
  limit_or_denied w c m h k = no_limit (first_passed n g) (w, c) k.limits h

  denied_or_room : (m : Meeting) (r : PlaceRefusal) → AsksForDenied p n g b m → HasNoRoom p n g b r → ⊥
  denied_or_room m r h k =
      let same : h.graph ≡ k.graph = one p (slots_of b) (initial_graph p n g) h.graph k.graph h.final k.final in
      let wrong : None ≡ Some m = sym k.off ∙ (sym (ap (first_meeting b.denied p) same) ∙ h.meets) in
      cc

  same_meeting : (m o : Meeting) → AsksForDenied p n g b m → AsksForDenied p n g b o → Denied m ≡ Denied o
  same_meeting m o h k =
      let same : h.graph ≡ k.graph = one p (slots_of b) (initial_graph p n g) h.graph k.graph h.final k.final in
      ap Denied (one_passed (first_meeting b.denied p k.graph) m o (sym (ap (first_meeting b.denied p) same) ∙ h.meets) k.meets)

  same_room : (r s : PlaceRefusal) → HasNoRoom p n g b r → HasNoRoom p n g b s → of_place r ≡ of_place s
  same_room r s h k =
      let same : h.graph ≡ k.graph = one p (slots_of b) (initial_graph p n g) h.graph k.graph h.final k.final in
      let refused = subst (λ (f : Final). AreRefused p n f b r) same h.refused in
      ap of_place (one_error (placing.placed p k.graph (sizes_of p n k.graph (slots_of b)) b) r s refused k.refused)

  same_refusal : (r s : PlanningRefusal) → r ≢ NoMemory → s ≢ NoMemory → IsPlanningRefusal p n g b r → IsPlanningRefusal p n g b s → r ≡ s
  same_refusal NoMemory s a d h k = absurd (a refl)
  same_refusal (Limit w c) NoMemory a d h k = absurd (d refl)
  same_refusal (Limit w c) (Limit v e) a d h k = same_limit w v c e h k
  same_refusal (Limit w c) (Denied m) a d h k = absurd (limit_or_denied w c m h k)
  same_refusal (Limit w c) (Room l) a d h k = absurd (limit_or_room w c (place.Room l) h k)
  same_refusal (Denied m) NoMemory a d h k = absurd (d refl)
  same_refusal (Denied m) (Limit v e) a d h k = absurd (limit_or_denied v e m k h)
  same_refusal (Denied m) (Denied o) a d h k = same_meeting m o h k
  same_refusal (Denied m) (Room l) a d h k = absurd (denied_or_room m (place.Room l) h k)
  same_refusal (Room l) NoMemory a d h k = absurd (d refl)
  same_refusal (Room l) (Limit v e) a d h k = absurd (limit_or_room v e (place.Room l) k h)
  same_refusal (Room l) (Denied o) a d h k = absurd (denied_or_room o (place.Room l) k h)
  same_refusal (Room l) (Room o) a d h k = same_room (place.Room l) (place.Room o) h k

pub planning_refusals_are_one : GraphsAreOne → PlanningRefusalsAreOne
planning_refusals_are_one one p n g b r s a d h k = same_refusal one p n g b r s a d h k
