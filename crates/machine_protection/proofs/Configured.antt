-- Which of a unit's written regions decides, the region with open eighths, and lists of writes.
use Rattle.std.proofs.Common.{◌≡◌, ℕ, ◌+◌, ◌-◌, ◌*◌, ◌/◌, ◌%◌, ◌^◌, ◌<◌, ◌≤◌, Bool, true, false, inl, inr, ⊎_elim, ◌↔◌, List, [], ◌∷◌, ◌++◌, length, map, Option, Some, None, nat_eq, refl, sym, ap, ◌∙◌, subst, arith, eq-eqb, pow_pos, div-lt_iff_lt-mul}
use Rattle.std.proofs.Math.ListN.{set}
use Rattle.std.proofs.lemmas.Bool.{false≢true, cases_lt}
use Rattle.std.proofs.lemmas.Bool.Decides.{nat_tests}
use Rattle.std.proofs.lemmas.Nat.Bits.{bit_at_mask_inside, bit_at_mask_below}
use Rattle.std.proofs.lemmas.List.{length_push}
use Rattle.machine_protection.specs.declared.region.Region.{Region}
use Rattle.machine_protection.specs.declared.region.Access.{Access}
use Rattle.machine_protection.specs.declared.TheConstants.{MPU_RBAR, MPU_RASR}
use Rattle.machine_protection.specs.Regions.{holds, allows}
use Rattle.machine_protection.specs.RegionWords.{region_of, IsHeld}
use Rattle.machine_protection.specs.Protection.{deciding, or_this, decided, while_on, permits, is_on, has_background, default_allows}
use Rattle.machine_protection.specs.Registers.{Registers, write_address, write_register}
use Rattle.machine_protection.specs.Laws.{kept_region}
use Rattle.machine_protection.specs.Configured.{NoneOf, IsLast, KeptListsDecide, KeptListsPermit, KeptUnitsPermitTheSame, closed_from, EighthsAreClosed, OpenEighthsAreHeld, EachWriteIs, written, AreNumbered, ListsAreWritten}
use Rattle.machine_protection.proofs.Writes.{regions_are_kept, regions_are_written}
use Rattle.machine_protection.proofs.RegionWords.{held}
use Rattle.base_laws.proofs.Powers.{smaller_exponent, eight_eighths}

-- ---- which region decides

kept_option : Option Region → Option Region
kept_option None = None
kept_option (Some g) = Some (kept_region g)

kept_or : (b : Bool) (g : Region) (o : Option Region) → or_this b (kept_region g) (kept_option o) ≡ kept_option (or_this b g o)
unfolding kept_option
kept_or b g (Some x) = refl
kept_or true g None = refl
kept_or false g None = refl

kept_decides : (gs : List Region) (a : ℕ) → deciding (map kept_region gs) a ≡ kept_option (deciding gs a)
unfolding deciding kept_option
kept_decides [] a = refl
kept_decides (g ∷ gs) a =
    ap (λ b. or_this b (kept_region g) (deciding (map kept_region gs) a)) ((regions_are_kept g).held a)
    ∙ ap (λ o. or_this (holds g a) (kept_region g) o) (kept_decides gs a)
    ∙ kept_or (holds g a) g (deciding gs a)

-- what the scan says of the regions that were written
abbrev IsScan : List Region → ℕ → Option Region → Type 0
IsScan gs a None = NoneOf gs a
IsScan gs a (Some g) = IsLast gs a g

scan_more : (g : Region) (gs : List Region) (a : ℕ) (b : Bool) → holds g a ≡ b → (o : Option Region) → IsScan gs a o → IsScan (g ∷ gs) a (or_this b g o)
scan_more g gs a b e (Some x) h = inl h
scan_more g gs a true e None h = inr (refl, e, h)
scan_more g gs a false e None h = (e, h)

scan_is : (gs : List Region) (a : ℕ) → IsScan gs a (deciding gs a)
unfolding deciding
scan_is [] a = tt
scan_is (g ∷ gs) a = scan_more g gs a (holds g a) refl (deciding gs a) (scan_is gs a)

none_decides : (gs : List Region) (a : ℕ) → NoneOf gs a → deciding gs a ≡ None
unfolding deciding
none_decides [] a h = refl
none_decides (g ∷ gs) a h =
    let e = none_decides gs a h.1 in
    let k = h.0 in
    rw (e, k) refl

last_decides : (gs : List Region) (a : ℕ) (x : Region) → IsLast gs a x → deciding gs a ≡ Some x
unfolding deciding
last_decides [] a x h = absurd h
last_decides (g ∷ gs) a x (inl h) = let e = last_decides gs a x h in rw e refl
last_decides (g ∷ gs) a x (inr h) =
    let e = none_decides gs a h.2 in
    let k = h.1 in
    let q = h.0 in
    rw (e, k) (ap Some (sym q))

some_kept : (gs : List Region) (a : ℕ) (x : Region) (o : Option Region) → IsScan gs a o → kept_option o ≡ Some x → (g : Region) × (x ≡ kept_region g) × IsLast gs a g
unfolding kept_option
some_kept gs a x None h e = cc
some_kept gs a x (Some g) h e = let q : kept_region g ≡ x = cc in (g, sym q, h)

none_kept : (gs : List Region) (a : ℕ) (o : Option Region) → IsScan gs a o → kept_option o ≡ None → NoneOf gs a
unfolding kept_option
none_kept gs a None h e = h
none_kept gs a (Some g) h e = cc

pub kept_lists_decide : KeptListsDecide
unfolding kept_option
kept_lists_decide gs a = record {
  some = λ x. (
    λ e. some_kept gs a x (deciding gs a) (scan_is gs a) (sym (kept_decides gs a) ∙ e),
    λ h. kept_decides gs a ∙ ap kept_option (last_decides gs a h.0 h.2) ∙ ap Some (sym h.1),
  );
  none = (
    λ e. none_kept gs a (deciding gs a) (scan_is gs a) (sym (kept_decides gs a) ∙ e),
    λ h. kept_decides gs a ∙ ap kept_option (none_decides gs a h),
  );
}

-- ---- what is permitted

kept_decided : (o : Option Region) (b u : Bool) (kind : Access) (a : ℕ) → decided (kept_option o) b u kind a ≡ decided o b u kind a
unfolding kept_option
kept_decided None b u kind a = refl
kept_decided (Some g) b u kind a = (regions_are_kept g).allowed u kind

decided_kept : (gs : List Region) (b u : Bool) (kind : Access) (a : ℕ) → decided (deciding (map kept_region gs) a) b u kind a ≡ decided (deciding gs a) b u kind a
decided_kept gs b u kind a = ap (λ o. decided o b u kind a) (kept_decides gs a) ∙ kept_decided (deciding gs a) b u kind a

pub kept_units_permit_the_same : KeptUnitsPermitTheSame
unfolding permits
kept_units_permit_the_same m u kind a = ap (λ t. while_on (is_on m) (default_allows kind a) t) (decided_kept m.regions (has_background m) u kind a)

allowed_last : (gs : List Region) (b : Bool) (kind : Access) (a : ℕ) (o : Option Region) → IsScan gs a o → decided o b true kind a ≡ true → (g : Region) × IsLast gs a g × (allows g true kind ≡ true)
allowed_last gs b kind a None h e = absurd (false≢true e)
allowed_last gs b kind a (Some g) h e = (g, h, e)

on_permits : (gs : List Region) (m : Registers) (kind : Access) (a : ℕ) → is_on m ≡ true → m.regions ≡ map kept_region gs → permits m true kind a ≡ decided (deciding gs a) (has_background m) true kind a
unfolding permits
on_permits gs m kind a on e =
    ap (λ b. while_on b (default_allows kind a) (decided (deciding m.regions a) (has_background m) true kind a)) on
    ∙ ap (λ l. decided (deciding l a) (has_background m) true kind a) e
    ∙ decided_kept gs (has_background m) true kind a

pub kept_lists_permit : KeptListsPermit
kept_lists_permit gs m kind a on e = (
  λ h. allowed_last gs (has_background m) kind a (deciding gs a) (scan_is gs a) (sym (on_permits gs m kind a on e) ∙ h),
  λ h. on_permits gs m kind a on e ∙ ap (λ o. decided o (has_background m) true kind a) (last_decides gs a h.0 h.1) ∙ h.2,
)

-- ---- open eighths

pub eighths_are_closed : EighthsAreClosed
eighths_are_closed n i lt = (
  λ e. ⊎_elim (λ below. absurd (let z = bit_at_mask_below n 8 i below in omega (arith, e, z))) (λ from. from) (cases_lt i n),
  λ from. bit_at_mask_inside n 8 i from lt,
)

pub open_eighths_are_held : OpenEighthsAreHeld
open_eighths_are_held number base size n rights few power big high multiple n8 a = (λ h. forth (r.0 h), λ h. r.1 (back h))
  where
    e : ℕ
    e = size / 8

    srd_byte : closed_from n < 2 ^ 8
    srd_byte = let p : 0 < 2 ^ n = pow_pos n in omega arith

    r : (holds (region_of number base size (closed_from n) rights) a ≡ true) ↔ IsHeld base size (closed_from n) a
    r = held rights number base size (closed_from n) few power (omega arith) high multiple srd_byte a

    whole : size ≡ 8 * (size / 8)
    whole =
        let eight = smaller_exponent 8 power.0 (subst (λ (s : ℕ). 2 ^ 8 ≤ s) power.1 big) in
        subst (λ (s : ℕ). s ≡ 8 * (s / 8)) (sym power.1) (sym (eight_eighths power.0 (omega (arith, eight))))

    some : 0 < size / 8
    some = omega arith

    forth : IsHeld base size (closed_from n) a → (base ≤ a) × (a < base + n * (size / 8))
    forth h =
        let lo = h.from_base in
        let hi = h.below_end in
        let w = whole in
        let p = some in
        let inside : (a - base) / (size / 8) < 8 = (div-lt_iff_lt-mul p).1 (let z : a - base < 8 * (size / 8) = omega arith in z) in
        let bit = h.not_taken_out big in
        let open_one : (a - base) / (size / 8) < n = ⊎_elim (λ lt. lt) (λ from. absurd (let one = bit_at_mask_inside n 8 ((a - base) / (size / 8)) from inside in omega (arith, bit, one))) (cases_lt ((a - base) / (size / 8)) n) in
        let below : a - base < n * (size / 8) = (div-lt_iff_lt-mul p).0 open_one in
        (lo, omega arith)

    back : (base ≤ a) × (a < base + n * (size / 8)) → IsHeld base size (closed_from n) a
    back h =
        let lo = h.0 in
        let hi = h.1 in
        let w = whole in
        let p = some in
        let most : n * (size / 8) ≤ 8 * (size / 8) = grind arith in
        record {
          from_base = lo;
          below_end = omega arith;
          not_taken_out = λ large. bit_at_mask_below n 8 ((a - base) / (size / 8)) ((div-lt_iff_lt-mul p).1 (let z : a - base < n * (size / 8) = omega arith in z));
        }

-- ---- writes

address_control : (valid : Bool) (m : Registers) (v : ℕ) → (write_address valid m v).control ≡ m.control
address_control true m v = refl
address_control false m v = refl

pub each_write_is : EachWriteIs
unfolding write_register
each_write_is v m = record {
  control = refl;
  number = refl;
  address = λ e. let t : nat_eq (v / 2 ^ 4 % 2) 1 ≡ false = search (nat_tests, arith) in ap (λ b. write_address b m v) t;
  numbered_address = λ e. ap (λ b. write_address b m v) (eq-eqb (v / 2 ^ 4 % 2) 1 e);
  attributes = refl;
  address_keeps_control = address_control (nat_eq (v / 2 ^ 4 % 2) 1) m v;
}

set_behind : (front : List Region) (x y : Region) (back : List Region) → set (front ++ x ∷ back) (length front) y ≡ front ++ y ∷ back
set_behind [] x y back = refl
set_behind (g ∷ front) x y back = ap (λ l. g ∷ l) (set_behind front x y back)

one_more : (front : List Region) (y : Region) (back : List Region) → front ++ y ∷ back ≡ (front ++ y ∷ []) ++ back
one_more [] y back = refl
one_more (g ∷ front) y back = ap (λ l. g ∷ l) (one_more front y back)

pub lists_are_written : ListsAreWritten
lists_are_written [] front [] m e h n = record { regions = e; control = refl }
lists_are_written [] front (x ∷ back) m e h n = absurd (omega arith)
lists_are_written (g ∷ gs) front [] m e h n = absurd (omega arith)
lists_are_written (g ∷ gs) front (x ∷ back) m e h n =
    let y = kept_region g in
    let new : Registers = record { control = m.control; number = g.rbar % 16; regions = set m.regions (g.rbar % 16) y } in
    let one : write_register MPU_RASR g.rasr (write_register MPU_RBAR g.rbar m) ≡ new = regions_are_written g m n.0 in
    let at : set m.regions (g.rbar % 16) y ≡ front ++ y ∷ back = ap (λ l. set l (g.rbar % 16) y) e ∙ ap (λ k. set (front ++ x ∷ back) k y) n.1 ∙ set_behind front x y back in
    let rest = lists_are_written gs (front ++ y ∷ []) back new (at ∙ one_more front y back) (omega arith) (subst (λ k. AreNumbered k gs) (sym (length_push front y)) n.2) in
    record {
      regions = ap (λ t. (written gs t).regions) one ∙ rest.regions ∙ sym (one_more front y (map kept_region gs));
      control = ap (λ t. (written gs t).control) one ∙ rest.control;
    }

-- ---- the eighths that are closed are a byte

pub closed_byte : (n : ℕ) → closed_from n < 2 ^ 8
closed_byte n = let p = pow_pos n in omega (arith, p)
