-- Flash and RAM together.
use Rattle.std.proofs.Common.{◌≡◌, ◌≤◌, Bool, true, false, Result, Ok, Err, nat_lt, refl, sym, ap, ◌∙◌, lt-ltb, le-ltb}
use Rattle.ir_model.specs.Resolved.{Program}
use Rattle.plan_model.specs.declared.graph.Final.{Final}
use Rattle.plan_model.specs.declared.plan.Board.{Board}
use Rattle.plan_model.specs.declared.plan.Sizes.{Sizes}
use Rattle.plan_model.specs.declared.plan.Plan.{Plan}
use Rattle.plan_model.specs.FlashPlacement.{flash_needed}
use Rattle.plan_model.specs.RamPlacement.{ram_needed}
use Rattle.plan_model.specs.Placement.{plan_of}
use Rattle.plan_layout.specs.declared.refusal.PlaceRefusal.{PlaceRefusal}
use Rattle.plan_layout.specs.declared.refusal.PlaceRefusal.TheVariants.{NoMemory, Room}
use Rattle.plan_layout.specs.declared.flash.FlashPlan.{FlashPlan}
use Rattle.plan_layout.specs.declared.place.RamPlan.{RamPlan}
use Rattle.plan_layout.specs.Placing.{flash_refusal, ram_refusal, placed, IsPlaceRefusal, IsFlash, IsFlashRefusal, IsRam, IsRamRefusal}
use Rattle.plan_layout.proofs.Tried.{tried}

-- ---- two tests, one behind the other

first : (a b : Bool) (x y : PlaceRefusal) (l : Plan) → a ≡ true → tried a b x y l ≡ Err x
first true b x y l e = refl
first false b x y l e = cc

second : (a b : Bool) (x y : PlaceRefusal) (l : Plan) → a ≡ false → b ≡ true → tried a b x y l ≡ Err y
second true b x y l e f = cc
second false true x y l e f = refl
second false false x y l e f = cc

neither : (a b : Bool) (x y : PlaceRefusal) (l : Plan) → a ≡ false → b ≡ false → tried a b x y l ≡ Ok l
neither true b x y l e f = cc
neither false true x y l e f = cc
neither false false x y l e f = refl

-- ---- what comes of them

module _ (p : Program) (f : Final) (s : Sizes) (b : Board) where
  abbrev flash_fails : Bool
  flash_fails = nat_lt b.flash_size (flash_needed s)

  abbrev ram_fails : Bool
  ram_fails = nat_lt b.ram_size (ram_needed p f b)

  plan_is : (l : FlashPlan) (m : RamPlan) → IsFlash s b l → IsRam p f b m
      → (let q : Plan = record { tables = l.tables; code = l.code; stack = m.stack; monitor = m.monitor; regions = m.regions; unwritten = m.unwritten } in q) ≡ plan_of p f s b
  unfolding plan_of
  plan_is l m i j = rw (i.tables, i.code, j.stack, j.monitor, j.regions, j.unwritten) refl

  pub placed_is : (l : FlashPlan) (m : RamPlan) → IsFlash s b l → IsRam p f b m
      → placed p f s b ≡ Ok (record { tables = l.tables; code = l.code; stack = m.stack; monitor = m.monitor; regions = m.regions; unwritten = m.unwritten })
  unfolding placed
  placed_is l m i j =
      neither flash_fails ram_fails (flash_refusal s b) (ram_refusal p f b) (plan_of p f s b) (le-ltb b.flash_size (flash_needed s) i.fits) (le-ltb b.ram_size (ram_needed p f b) j.fits)
      ∙ ap (λ (q : Plan). let r : Result Plan PlaceRefusal = Ok q in r) (sym (plan_is l m i j))

  told : (x y : PlaceRefusal) → y ≡ x → placed p f s b ≡ Err x → placed p f s b ≡ Err y
  told x y e h = h ∙ ap (λ (z : PlaceRefusal). let r : Result Plan PlaceRefusal = Err z in r) (sym e)

  pub flash_refused : (e : PlaceRefusal) → IsFlashRefusal s b e → IsPlaceRefusal p f s b e
  unfolding placed
  flash_refused NoMemory h = tt
  flash_refused (Room lack) h =
      told (flash_refusal s b) (Room lack) h.1 (first flash_fails ram_fails (flash_refusal s b) (ram_refusal p f b) (plan_of p f s b) (lt-ltb b.flash_size (flash_needed s) h.0))

  pub ram_refused : (e : PlaceRefusal) → flash_needed s ≤ b.flash_size → IsRamRefusal p f b e → IsPlaceRefusal p f s b e
  unfolding placed
  ram_refused NoMemory l h = tt
  ram_refused (Room lack) l h =
      told (ram_refusal p f b) (Room lack) h.1
      (second flash_fails ram_fails (flash_refusal s b) (ram_refusal p f b) (plan_of p f s b) (le-ltb b.flash_size (flash_needed s) l) (lt-ltb b.ram_size (ram_needed p f b) h.0))
