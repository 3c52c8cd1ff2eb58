-- What the parts of planning answer, as what planning does.
use Rattle.std.proofs.Common.{◌≡◌, ℕ, Bool, true, false, Option, Some, None, option_map, Result, Ok, Err, IfOk, IfErr, nat_lt, refl, sym, ap, subst, ◌∙◌, ltb-false}
use Rattle.ir_model.specs.Resolved.{Program}
use Rattle.plan_model.specs.declared.needs.Needs.{Needs}
use Rattle.plan_model.specs.declared.groups.Groups.{Groups}
use Rattle.plan_model.specs.declared.graph.Final.{Final}
use Rattle.plan_model.specs.declared.plan.Board.{Board}
use Rattle.plan_model.specs.declared.plan.Sizes.{Sizes}
use Rattle.plan_model.specs.declared.plan.Plan.{Plan}
use Rattle.plan_model.specs.Boards.{slots_of}
use Rattle.plan_model.specs.declared.limits.LimitKind.{LimitKind}
use Rattle.plan_model.specs.CompileLimits.{KeepsLimits}
use Rattle.plan_model.specs.FinalGraph.{IsFinal}
use Rattle.plan_model.specs.FlashPlacement.{flash_needed}
use Rattle.plan_model.specs.RamPlacement.{ram_needed}
use Rattle.plan_model.specs.Placement.{Fits, plan_of}
use Rattle.plan_limits.specs.Told.{in_32_bits}
use Rattle.code_model.specs.Planned.{sizes_of}
use Rattle.plan_layout.specs.declared.refusal.PlaceRefusal.{PlaceRefusal}
use Rattle.plan_layout.specs.Placing.{flash_refusal, ram_refusal}
use Rattle.plan_layout.specs.Placing as placing
use Rattle.plan.specs.declared.planner.PlannedFirmware.{PlannedFirmware}
use Rattle.plan.specs.declared.refusal.PlanningRefusal.{PlanningRefusal}
use Rattle.plan.specs.declared.refusal.PlanningRefusal.TheVariants.{NoMemory, Limit, Denied, Room}
use Rattle.plan.specs.Planned.{IsPlaced, IsPlannedFor}
use Rattle.plan.specs.Refusals.{IsRoomRefusal, IsPlanningRefusal}
use Rattle.plan_denials.specs.Meetings.{KeepsOff}
use Rattle.plan.proofs.Kept.{final_groups}
use Rattle.plan_layout.proofs.Tried.{tried}

-- ---- a plan that is given

record ArePassed (a b : Bool) (l m : Plan) : Type 0 where
  first : a ≡ false
  second : b ≡ false
  same : m ≡ l

are_passed : (a b : Bool) (x y : PlaceRefusal) (l m : Plan) → tried a b x y l ≡ Ok m → ArePassed a b l m
are_passed true b x y l m e = let z : ⊥ = cc in absurd z
are_passed false true x y l m e = let z : ⊥ = cc in absurd z
are_passed false false x y l m e = record { first = refl; second = refl; same = cc }

module _ (p : Program) (f : Final) (s : Sizes) (b : Board) where
  passed : (l : Plan) → placing.placed p f s b ≡ Ok l → ArePassed (nat_lt b.flash_size (flash_needed s)) (nat_lt b.ram_size (ram_needed p f b)) (plan_of p f s b) l
  unfolding placing.placed
  passed l e = are_passed (nat_lt b.flash_size (flash_needed s)) (nat_lt b.ram_size (ram_needed p f b)) (flash_refusal s b) (ram_refusal p f b) (plan_of p f s b) l e

  fits : (l : Plan) → placing.placed p f s b ≡ Ok l → Fits p f s b
  fits l e =
      let t = passed l e in
      record { flash = ltb-false b.flash_size (flash_needed s) t.first; ram = ltb-false b.ram_size (ram_needed p f b) t.second }

pub placed_is : (p : Program) (n : Needs) (b : Board) (f : Final) (s : Sizes) (l : Plan) → s ≡ sizes_of p n f (slots_of b) → placing.placed p f s b ≡ Ok l
    → IsPlaced p n b (record { graph = f; sizes = s; plan = l })
placed_is p n b f s l e h = record { sizes = e; fits = fits p f s b l h; plan = (passed p f s b l h).same }

-- ---- a refusal

planning_refused : (p : Program) (n : Needs) (g : Groups) (b : Board) (f : Final) (r : PlanningRefusal) → KeepsLimits n g → IsFinal p n g (slots_of b) f → KeepsOff b.denied p f → IsRoomRefusal p n f b r
    → IsPlanningRefusal p n g b r
planning_refused p n g b f NoMemory l k d h = tt
planning_refused p n g b f (Limit w c) l k d h = absurd h
planning_refused p n g b f (Denied m) l k d h = absurd h
planning_refused p n g b f (Room lack) l k d h = record { limits = l; graph = f; final = k; off = d; refused = h }

-- ---- where no limit is passed

pub none_told : (o : Option (LimitKind × ℕ)) → None ≡ option_map in_32_bits o → o ≡ None
none_told None e = refl
none_told (Some x) e = cc

module _ (p : Program) (n : Needs) (g : Groups) (b : Board) (f : Final) (l : KeepsLimits n g) (k : IsFinal p n g (slots_of b) f) (d : KeepsOff b.denied p f) (r : Result PlannedFirmware PlanningRefusal) where
  pub planned_is : IfOk r (λ x. x.graph ≡ f) → IfOk r (IsPlaced p n b) → IfOk r (IsPlannedFor p n g b)
  planned_is e h = by r e h
    where
      by : (r : Result PlannedFirmware PlanningRefusal) → IfOk r (λ x. x.graph ≡ f) → IfOk r (IsPlaced p n b) → IfOk r (IsPlannedFor p n g b)
      by (Ok x) e h =
          record {
            limits = l;
            final = subst (λ (y : Final). IsFinal p n g (slots_of b) y) (sym e) k;
            groups = ap (λ (y : Final). y.groups) e ∙ final_groups p n g (slots_of b) f k;
            off = subst (KeepsOff b.denied p) (sym e) d;
            placed = h;
          }
      by (Err y) e h = tt

  pub refused_is : IfErr r (IsRoomRefusal p n f b) → IfErr r (IsPlanningRefusal p n g b)
  refused_is h = by r h
    where
      by : (r : Result PlannedFirmware PlanningRefusal) → IfErr r (IsRoomRefusal p n f b) → IfErr r (IsPlanningRefusal p n g b)
      by (Ok x) h = tt
      by (Err y) h = planning_refused p n g b f y l k d h
