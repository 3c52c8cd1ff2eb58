-- The code of compartments and the entry of each function lie in flash.
use Rattle.std.proofs.Common.{◌≡◌, ℕ, zero, suc, ◌+◌, ◌%◌, ◌<◌, ◌≤◌, Bool, true, false, List, [], ◌∷◌, length, take, get_or, nat_eq, if◌then◌else◌, arith}
use Rattle.std.proofs.lemmas.List.{get_or-map}
use Rattle.ir_model.specs.Resolved.{Program}
use Rattle.ir_model.specs.Resolve.{resolve}
use Rattle.plan_model.specs.declared.plan.Board.{Board}
use Rattle.plan_model.specs.declared.plan.Spot.{Spot}
use Rattle.plan_model.specs.declared.plan.Plan.{Plan}
use Rattle.plan_model.specs.declared.plan.Sizes.{Sizes}
use Rattle.plan_model.specs.Placement.{compartment_spot, no_spot}
use Rattle.code_model.specs.CompartmentCode.{CodeGroups, compartment_of, members_from, before, total_size, compartment_size, entry_of}
use Rattle.monitor_model.specs.MonitorCode.{MonitorCode}
use Rattle.plan.specs.PlannedFirmwares.{plan, planned_sizes}
use Rattle.image_promises.proofs.PlannedPremises.{PlannedPremises, code_groups_of, code_places_of}
use Rattle.image_promises.proofs.Facts.{laid, code_blocks_count, needed_most}
use Rattle.image_promises.proofs.FlashParts.{code_count, code_ends}
use Rattle.image_promises.proofs.ReadBack.{ReadLaws, code_length, code_fits}
use Rattle.image_promises.specs.Parts.{CodeIsPlaced, IsPlaced, linked_build}

-- ---- the functions before one are no more than all

module _ (p : Program) (g : CodeGroups) where
  one_more : (t : Bool) (f : ℕ) (xs ys : List ℕ) → total_size p g xs ≤ total_size p g ys → total_size p g (if t then f ∷ xs else xs) ≤ total_size p g (if t then f ∷ ys else ys)
  one_more true f xs ys h = omega (arith, h)
  one_more false f xs ys h = h

  first_total : (f k c : ℕ) (ds : List ℕ) → total_size p g (members_from f (take k ds) c) ≤ total_size p g (members_from f ds c)
  first_total f zero c ds = omega arith
  first_total f (suc k) c [] = omega arith
  first_total f (suc k) c (d ∷ ds) = one_more (nat_eq d c) f (members_from (suc f) (take k ds) c) (members_from (suc f) ds c) (first_total (suc f) k c ds)

  pub before_total : (f : ℕ) → total_size p g (before p g f) ≤ compartment_size p g (compartment_of p g f)
  before_total f = first_total 0 f (compartment_of p g f) g.compartments

-- an address of code, and that it lies in flash; flash ends below 2^29
pub record IsCodeAddress (b : Board) (address : ℕ) : Type 0 where
  pub from : b.flash_base ≤ address
  pub to : address ≤ b.flash_base + 0x100000

module _ (law : ReadLaws) (placed : CodeIsPlaced) (code : MonitorCode) (planned : PlannedPremises) where
  open planned use {firmware as w, needs as n, final as f, board as b, is_planned as ok}

  abbrev p : Program
  p = resolve w

  abbrev s : Sizes
  s = planned_sizes w n f b

  abbrev l : Plan
  l = plan w n f b

  pub is : IsPlaced (linked_build code w n f b)
  is = placed code w n f b ok

  -- a compartment's code begins where its block does, and has room in it
  listed : (c : ℕ) → c < f.groups.count → c < length s.code
  listed c h = let m = code_blocks_count law.plans planned in omega (arith, h, m)

  pub base_is : (c : ℕ) → c < f.groups.count → get_or (code_places_of planned).bases c 0 ≡ (compartment_spot l c).base
  base_is c h = get_or-map (λ (x : Spot). x.base) l.code c no_spot 0 (let m = listed c h in let e = code_count p f s b in omega (arith, m, e))

  pub from_base : (c : ℕ) → c < f.groups.count → b.flash_base ≤ (compartment_spot l c).base
  from_base c h = ((laid law.plans planned).inside c (let m = listed c h in let e = code_count p f s b in omega (arith, m, e))).0

  pub code_room : (c : ℕ) → c < f.groups.count → compartment_size p (code_groups_of planned) c ≤ (compartment_spot l c).size
  code_room c h = let e = code_length law planned c h in let m = code_fits law planned c h in omega (arith, e, m)

  pub block_end : (c : ℕ) → c < f.groups.count → (compartment_spot l c).base + (compartment_spot l c).size ≤ b.flash_base + 0x100000
  block_end c h = let e = code_ends p f s b c (listed c h) in let m = needed_most law.plans planned in omega (arith, e, m)

  -- each entry is in flash, at a multiple of four
  pub entry_in : (h : ℕ) → h < length p.funcs → IsCodeAddress b (entry_of p (code_groups_of planned) (code_places_of planned) h)
  entry_in h there =
      let c : ℕ = compartment_of p (code_groups_of planned) h in
      let in_one : c < f.groups.count = is.each h there in
      let e = base_is c in_one in
      let g = from_base c in_one in
      let room = code_room c in_one in
      let end = block_end c in_one in
      let t = before_total p (code_groups_of planned) h in
      record { from = omega (arith, e, g); to = omega (arith, e, room, end, t) }

  pub entry_aligned : (h : ℕ) → entry_of p (code_groups_of planned) (code_places_of planned) h % 4 ≡ 0
  entry_aligned h = law.code.entries p (code_groups_of planned) (code_places_of planned) is.aligned h
