-- What writes of the unit's registers leave, and what reads give after them.
use Rattle.std.proofs.Common.{◌≡◌, ℕ, ◌+◌, ◌-◌, ◌*◌, ◌/◌, ◌%◌, ◌^◌, ◌<◌, ◌≤◌, Bool, true, false, not, ◌&&◌, List, length, nat_eq, nat_lt, refl, sym, ap, ap₂, ◌∙◌, ⊎_elim, arith, length-set, get_or-set_same, eq-eqb, if◌then◌else◌}
use Rattle.std.specs.Int.{bit_at}
use Rattle.std.proofs.Math.Nat.{div-div-eq-div-mul}
use Rattle.std.proofs.lemmas.Nat.{pow-add}
use Rattle.std.proofs.lemmas.List.{set-set, set_past}
use Rattle.std.proofs.Math.ListN.{get_or, set}
use Rattle.std.proofs.lemmas.Bool.{cases_lt}
use Rattle.std.proofs.lemmas.Bool.Decides.{nat_tests}
use Rattle.machine_protection.specs.declared.region.Region.{Region}
use Rattle.machine_protection.specs.declared.region.Access.{Access}
use Rattle.machine_protection.specs.declared.region.Access.TheVariants.{Read, Write, Fetch}
use Rattle.machine_protection.specs.declared.TheConstants.{MPU_CTRL, MPU_RNR, MPU_RBAR, MPU_RASR}
use Rattle.machine_protection.specs.Regions.{holds, allows, size_log, ap_reads, ap_writes}
use Rattle.machine_protection.specs.Registers.{Registers, blank, selected, kept_address, kept_attributes, with_address, with_attributes, write_address, read_address, read_register, write_register}
use Rattle.machine_protection.specs.Laws.{WritesKeepTheCount, RegistersReadBack, kept_region, RegionsAreWritten, RegionsAreKept}

keeps_address : (valid : Bool) (v : ℕ) (m : Registers) → length (write_address valid m v).regions ≡ length m.regions
keeps_address true v m = length-set m.regions (v % 16) (record { rbar = kept_address v; rasr = (get_or m.regions (v % 16) blank).rasr })
keeps_address false v m = length-set m.regions m.number (record { rbar = kept_address v; rasr = (selected m).rasr })

choice : (b : Bool) (m n : Registers) (k : ℕ) → length m.regions ≡ k → length n.regions ≡ k → length (if b then m else n).regions ≡ k
choice true m n k p q = p
choice false m n k p q = q

-- no write changes the number of regions
pub writes_keep_the_count : WritesKeepTheCount
unfolding write_register
writes_keep_the_count reg v m =
    choice (nat_eq reg MPU_CTRL) _ _ _ refl (choice (nat_eq reg MPU_RNR) _ _ _ refl (choice (nat_eq reg MPU_RBAR) _ _ _ (keeps_address (nat_eq (v / 2 ^ 4 % 2) 1) v m)
    (choice (nat_eq reg MPU_RASR) _ _ _ (length-set m.regions m.number (record { rbar = (selected m).rbar; rasr = kept_attributes v })) refl)))

-- both words of one place, one after the other
both_words : (rs : List Region) (i x y : ℕ) → let first = set rs i (record { rbar = kept_address x; rasr = (get_or rs i blank).rasr }) in set first i (record { rbar = (get_or first i blank).rbar; rasr = kept_attributes y }) ≡ set rs i (record { rbar = kept_address x; rasr = kept_attributes y })
both_words rs i x y = set-set rs i first (record { rbar = (get_or (set rs i first) i blank).rbar; rasr = kept_attributes y }) ∙ ⊎_elim inside past (cases_lt i (length rs))
  where
    first : Region
    first = record { rbar = kept_address x; rasr = (get_or rs i blank).rasr }

    inside : i < length rs → set rs i (record { rbar = (get_or (set rs i first) i blank).rbar; rasr = kept_attributes y }) ≡ set rs i (record { rbar = kept_address x; rasr = kept_attributes y })
    inside lt = ap (λ g. set rs i (record { rbar = g.rbar; rasr = kept_attributes y })) (get_or-set_same rs i first blank lt)

    past : length rs ≤ i → set rs i (record { rbar = (get_or (set rs i first) i blank).rbar; rasr = kept_attributes y }) ≡ set rs i (record { rbar = kept_address x; rasr = kept_attributes y })
    past le = set_past rs i (record { rbar = (get_or (set rs i first) i blank).rbar; rasr = kept_attributes y }) le ∙ sym (set_past rs i (record { rbar = kept_address x; rasr = kept_attributes y }) le)

-- the writes of both words put a region into its place
pub regions_are_written : RegionsAreWritten
unfolding write_register
regions_are_written g m valid =
    let is : nat_eq (g.rbar / 2 ^ 4 % 2) 1 ≡ true = eq-eqb (g.rbar / 2 ^ 4 % 2) 1 valid in
    ap (λ v. with_attributes (write_address v m g.rbar) g.rasr) is
    ∙ ap (λ rs. record { control = m.control; number = g.rbar % 16; regions = rs }) (both_words m.regions (g.rbar % 16) g.rbar g.rasr)

kept_twice : (v : ℕ) → kept_address (kept_address v) ≡ kept_address v
kept_twice v = omega arith

-- what a write of the selected region's address reads
address_back : (n : ℕ) (m : Registers) (v : ℕ) → m.number ≡ n → n < length m.regions → read_address (with_address m v) ≡ kept_address v + m.number % 16
address_back n m v e lt =
    let lt' : m.number < length m.regions = omega arith in
    let new : Region = record { rbar = kept_address v; rasr = (selected m).rasr } in
    let same = get_or-set_same m.regions m.number new blank lt' in
    let len = length-set m.regions m.number new in
    let inside : nat_lt m.number (length (set m.regions m.number new)) ≡ true = grind (arith, nat_tests) in
    rw (inside, same, kept_twice) refl

written_address : (valid : Bool) (v : ℕ) (m : Registers) → (write_address valid m v).number < length m.regions → read_address (write_address valid m v) ≡ kept_address v + (write_address valid m v).number % 16
written_address true v m lt = address_back (v % 16) (record m { number = v % 16 }) v refl lt
written_address false v m lt = address_back m.number m v refl lt

-- a register reads as far as it keeps what was written
pub registers_read_back : RegistersReadBack
unfolding write_register read_register
registers_read_back v m = record {
  control = refl;
  number = refl;
  address = λ lt. written_address (nat_eq (v / 2 ^ 4 % 2) 1) v m lt;
  attributes = λ lt. ap (λ g. g.rasr) (get_or-set_same m.regions m.number (record { rbar = (selected m).rbar; rasr = kept_attributes v }) blank lt);
}

-- the parts of MPU_RASR that decide, after it was kept
same_parts : (r : ℕ) → (kept_attributes r % 2 ≡ r % 2) × (kept_attributes r / 2 % 32 ≡ r / 2 % 32) × (kept_attributes r / 2 ^ 8 % 2 ^ 8 ≡ r / 2 ^ 8 % 2 ^ 8) × (kept_attributes r / 2 ^ 24 % 8 ≡ r / 2 ^ 24 % 8) × (kept_attributes r / 2 ^ 28 % 2 ≡ r / 2 ^ 28 % 2)
same_parts r = (omega arith, omega arith, omega arith, omega arith, omega arith)

-- a kept base lies in the same block of any size from 32 bytes on
same_block : (b s : ℕ) → 5 ≤ s → kept_address b / 2 ^ s ≡ b / 2 ^ s
same_block b s le =
    let split : s ≡ 5 + (s - 5) = omega arith in
    let whole : 2 ^ s ≡ 32 * 2 ^ (s - 5) = ap (λ n. 2 ^ n) split ∙ pow-add 2 5 (s - 5) in
    let row : kept_address b / 32 ≡ b / 32 = omega arith in
    ap (λ n. kept_address b / n) whole ∙ sym (div-div-eq-div-mul (kept_address b) 32 (2 ^ (s - 5))) ∙ ap (λ n. n / 2 ^ (s - 5)) row ∙ div-div-eq-div-mul b 32 (2 ^ (s - 5)) ∙ sym (ap (λ n. b / n) whole)

-- the test of a region by its parts
abbrev holds_by : (a on s srd block : ℕ) → Bool
holds_by a on s srd block = nat_eq on 1 && (nat_lt 4 s && (nat_eq (a / 2 ^ s) block && not (nat_lt 7 s && nat_eq (bit_at srd (a / 2 ^ (s - 3) % 8)) 1)))

holds_by_block : (a on s srd b : ℕ) → holds_by a on s srd (kept_address b / 2 ^ s) ≡ holds_by a on s srd (b / 2 ^ s)
holds_by_block a on s srd b = ⊎_elim (λ lt. ap (holds_by a on s srd) (same_block b s (omega arith))) (λ le. let small : nat_lt 4 s ≡ false = grind (arith, nat_tests) in rw small refl) (cases_lt 4 s)

kept_held : (g : Region) (a : ℕ) → holds (kept_region g) a ≡ holds g a
unfolding holds
kept_held g a =
    let p = same_parts g.rasr in
    let s = size_log g in
    ap (λ on. holds_by a on (size_log (kept_region g)) (kept_attributes g.rasr / 2 ^ 8 % 2 ^ 8) (kept_address g.rbar / 2 ^ size_log (kept_region g))) p.0
    ∙ ap (λ n. holds_by a (g.rasr % 2) (n + 1) (kept_attributes g.rasr / 2 ^ 8 % 2 ^ 8) (kept_address g.rbar / 2 ^ (n + 1))) p.1
    ∙ ap (λ d. holds_by a (g.rasr % 2) s d (kept_address g.rbar / 2 ^ s)) p.2
    ∙ holds_by_block a (g.rasr % 2) s (g.rasr / 2 ^ 8 % 2 ^ 8) g.rbar

kept_allowed : (g : Region) (u : Bool) (kind : Access) → allows (kept_region g) u kind ≡ allows g u kind
kept_allowed g u Read = ap (ap_reads u) (same_parts g.rasr).3
kept_allowed g u Write = ap (ap_writes u) (same_parts g.rasr).3
kept_allowed g u Fetch = ap₂ (λ p x. ap_reads u p && nat_eq x 0) (same_parts g.rasr).3 (same_parts g.rasr).4

-- what the registers keep of a region holds and allows the same
pub regions_are_kept : RegionsAreKept
regions_are_kept g = record { held = λ a. kept_held g a; allowed = λ u kind. kept_allowed g u kind }
