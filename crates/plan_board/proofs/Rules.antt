-- A board that is read obeys the rules of boards.
use Rattle.std.proofs.Common.{◌≡◌, ℕ, ◌%◌, ◌≤◌, ◌⊎◌, inl, inr, ℤ, pos, negsuc, Bool, true, false, cond, List, [], length, Option, Some, None, Result, Ok, Err, refl, subst, arith}
use Rattle.std.proofs.lemmas.Bool.{and_parts, or_cases, leb-true, eqb-true}
use mathlib.Core.Logic.{⊎_elim}
use Rattle.base_ranges.proofs.Decisions.{decides_power}
use Rattle.machine_devices.specs.Rules.{least_stack, greatest_stack, memory_limit, last_flash_base, first_ram_base, last_ram_base, least_ram, ram_unit}
use Rattle.plan_model.specs.declared.plan.Board.{Board}
use Rattle.plan_model.specs.declared.plan.Spot.{Spot}
use Rattle.plan_model.specs.Boards.{IsBoard, IsMemorySize}
use Rattle.toml.specs.Data.{Data, Members, get_member, as_integer}
use Rattle.plan_board.specs.declared.key.Key.{Key}
use Rattle.plan_board.specs.declared.key.Key.TheVariants.{Flash, FlashBase, FlashSize, Ram, RamBase, RamSize, RamStack, Mpu, MpuRegions}
use Rattle.plan_board.specs.declared.document.KeyFault.{KeyFault}
use Rattle.plan_board.specs.declared.document.KeyFault.TheVariants.{Range}
use Rattle.plan_board.specs.declared.fields.Unit.{Unit as Protection}
use Rattle.plan_board.specs.Keys.{word_of, allows, is_base, is_size}
use Rattle.plan_board.specs.Fields.{and_then, of_kind, allowed, number_of, value_at, number_at, table_at, table_of, flash_of, regions_by, regions_of, lowest_of, closed_of, unit_in, unit_by, unit_of, board_of}
use Rattle.base_laws.specs.Lists.{Each}
use Rattle.plan_model.specs.declared.denied_ranges.Denied.{Denied}
use Rattle.plan_model.specs.Denied.{IsDenied}
use Rattle.plan_board.specs.Denied.{denied_of}
use Rattle.plan_board.specs.Extra.{extra_of}
use Rattle.plan_board.specs.declared.fault.BoardFault.{BoardFault}
use Rattle.plan_board.specs.Reading.{reading, reading_by, with_denied}
use Rattle.plan_board.proofs.Denials.{denied_obeys}

-- ---- tests behind one another

passed : {X Y : Type 0} (r : Result X KeyFault) (f : X → Result Y KeyFault) (y : Y) → and_then r f ≡ Ok y → (x : X) × (r ≡ Ok x) × (f x ≡ Ok y)
passed (Ok x) f y e = (x, refl, e)
passed (Err k) f y e = cc

one_read : {X : Type 0} (x y : X) → (let r : Result X KeyFault = Ok x in r) ≡ Ok y → x ≡ y
one_read x y e = cc

-- ---- numbers

allowed_is : (k : Key) (z : ℤ) (n : ℕ) → allowed k z ≡ Ok n → allows k n ≡ true
allowed_is k (negsuc m) n e = cc
allowed_is k (pos m) n e = by (allows k m) refl e
  where
    by : (b : Bool) → allows k m ≡ b → cond b (Ok m) (Err (Range k)) ≡ Ok n → allows k n ≡ true
    by true t h = let same : m ≡ n = cc in subst (λ x. allows k x ≡ true) same t
    by false t h = cc

number_is : (k : Key) (d : Data) (n : ℕ) → number_of k d ≡ Ok n → allows k n ≡ true
number_is k d n e = let (z, f, g) = passed (of_kind k (as_integer d)) (allowed k) n e in allowed_is k z n g

number_at_is : (k : Key) (ms : Members) (n : ℕ) → number_at k ms ≡ Ok n → allows k n ≡ true
number_at_is k ms n e = let (d, f, g) = passed (value_at k ms) (number_of k) n e in number_is k d n g

-- ---- what the numbers of a key are

base_is : (least most n : ℕ) → is_base least most n ≡ true → (least ≤ n) × (n ≤ most) × (n % memory_limit ≡ 0)
base_is least most n e =
    let (a, f) = and_parts _ _ e in
    let (b, c) = and_parts _ _ f in
    (leb-true least n a, leb-true n most b, eqb-true (n % memory_limit) 0 c)

size_is : (n : ℕ) → is_size n ≡ true → IsMemorySize n
size_is n e =
    let (a, f) = and_parts _ _ e in
    let (b, c) = and_parts _ _ f in
    record { least = leb-true least_ram n a; most = leb-true n memory_limit b; blocks = eqb-true (n % ram_unit) 0 c }

regions_is : (n : ℕ) → allows MpuRegions n ≡ true → (n ≡ 8) ⊎ (n ≡ 16)
regions_is n e = ⊎_elim (λ t. inl (eqb-true n 8 t)) (λ t. inr (eqb-true n 16 t)) (or_cases _ _ e)

-- ---- the parts of a board

flash_is : (ms : Members) (s : Spot) → flash_of ms ≡ Ok s → (allows FlashBase s.base ≡ true) × (allows FlashSize s.size ≡ true)
flash_is ms s e =
    let (flash, f, g) = passed (table_at Flash ms) _ s e in
    let (base, h, i) = passed (number_at FlashBase flash) _ s g in
    let (size, j, k) = passed (number_at FlashSize flash) _ s i in
    let same : (let t : Spot = record { base = base; size = size } in t) ≡ s = cc in
    subst (λ (t : Spot). (allows FlashBase t.base ≡ true) × (allows FlashSize t.size ≡ true)) same (number_at_is FlashBase flash base h, number_at_is FlashSize flash size j)

regions_by_is : (o : Option Data) (n : ℕ) → regions_by o ≡ Ok n → (n ≡ 8) ⊎ (n ≡ 16)
regions_by_is None n e = let same : n ≡ 8 = cc in inl same
regions_by_is (Some d) n e = regions_is n (number_is MpuRegions d n e)

unit_in_is : (mpu : Members) (u : Protection) → unit_in mpu ≡ Ok u → (u.regions ≡ 8) ⊎ (u.regions ≡ 16)
unit_in_is mpu u e =
    let (regions, f, g) = passed (regions_of mpu) _ u e in
    let (closed, h, i) = passed (closed_of mpu) _ u g in
    let same : (let v : Protection = record { regions = regions; closed = closed } in v) ≡ u = cc in
    subst (λ (v : Protection). (v.regions ≡ 8) ⊎ (v.regions ≡ 16)) same (regions_by_is (get_member (word_of MpuRegions) mpu) regions f)

unit_by_is : (o : Option Data) (u : Protection) → unit_by o ≡ Ok u → (u.regions ≡ 8) ⊎ (u.regions ≡ 16)
unit_by_is None u e =
    let same : (let v : Protection = record { regions = 8; closed = false } in v) ≡ u = cc in
    subst (λ (v : Protection). (v.regions ≡ 8) ⊎ (v.regions ≡ 16)) same (inl refl)
unit_by_is (Some d) u e = let (mpu, f, g) = passed (table_of Mpu d) unit_in u e in unit_in_is mpu u g

-- ---- all of it

board_is : (ms : Members) (b : Board) → board_of ms ≡ Ok b → IsBoard b
unfolding board_of
board_is ms b e =
    let (flash, f0, e0) = passed (flash_of ms) _ b e in
    let (ram, f1, e1) = passed (table_at Ram ms) _ b e0 in
    let (ram_base, f2, e2) = passed (number_at RamBase ram) _ b e1 in
    let (ram_size, f3, e3) = passed (number_at RamSize ram) _ b e2 in
    let (stack, f4, e4) = passed (number_at RamStack ram) _ b e3 in
    let (lowest, f5, e5) = passed (lowest_of ram) _ b e4 in
    let (unit, f6, e6) = passed (unit_of ms) _ b e5 in
    let flash_parts = flash_is ms flash f0 in
    let flash_place = base_is 0 last_flash_base flash.base flash_parts.0 in
    let ram_place = base_is first_ram_base last_ram_base ram_base (number_at_is RamBase ram ram_base f2) in
    let same : (let c : Board = record { flash_base = flash.base; flash_size = flash.size; ram_base = ram_base; ram_size = ram_size; stack = stack; lowest = lowest; regions = unit.regions; closed = unit.closed; denied = [] } in c) ≡ b = one_read _ b e6 in
    subst IsBoard same (record {
      flash_aligned = flash_place.2;
      flash_highest = flash_place.1;
      flash_size = size_is flash.size flash_parts.1;
      ram_aligned = ram_place.2;
      ram_lowest = ram_place.0;
      ram_highest = ram_place.1;
      ram_size = size_is ram_size (number_at_is RamSize ram ram_size f3);
      stack = (decides_power least_stack greatest_stack stack).0 (number_at_is RamStack ram stack f4);
      regions = unit_by_is (get_member (word_of Mpu) ms) unit f6;
      denied = tt;
      few_denied = omega arith;
    })

-- the ranges that it denies are the only thing that a board has beside its other fields
denying : (b c : Board) (ds : List Denied) → IsBoard b → Each IsDenied ds × (length ds ≤ 64) → record b { denied = ds } ≡ c → IsBoard c
denying b c ds is all same =
    subst IsBoard same (record {
      flash_aligned = is.flash_aligned;
      flash_highest = is.flash_highest;
      flash_size = is.flash_size;
      ram_aligned = is.ram_aligned;
      ram_lowest = is.ram_lowest;
      ram_highest = is.ram_highest;
      ram_size = is.ram_size;
      stack = is.stack;
      regions = is.regions;
      denied = all.0;
      few_denied = all.1;
    })

pub read_obeys : (ms : Members) (b : Board) → reading ms ≡ Ok b → IsBoard b
unfolding reading
read_obeys ms b e = by (board_of ms) (denied_of ms) (extra_of ms) refl refl e
  where
    by : (r : Result Board KeyFault) (d : Result (List Denied) BoardFault) (o : Option (List ℕ)) → board_of ms ≡ r → denied_of ms ≡ d → reading_by (with_denied r d) o ≡ Ok b → IsBoard b
    by (Ok c) (Ok ds) None f g h = let same : record c { denied = ds } ≡ b = cc in denying c b ds (board_is ms c f) (denied_obeys ms ds g) same
    by (Ok c) (Ok ds) (Some path) f g h = cc
    by (Ok c) (Err k) o f g h = cc
    by (Err k) d o f g h = cc
