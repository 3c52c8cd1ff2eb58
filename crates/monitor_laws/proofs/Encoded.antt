-- The code of start-up has an encoding.
use Rattle.std.proofs.Common.{◌≡◌, ℕ, zero, suc, pos, negsuc, ◌+◌, ◌*◌, ◌^◌, ◌<◌, ◌≤◌, inl, inr, Bool, true, false, ◌&&◌, List, [], ◌∷◌, nat_lt, nat_eq, refl, ◌∙◌, arith}
use Rattle.std.proofs.lemmas.Bool.Decides.{nat_tests}
use Rattle.std.proofs.lemmas.Nat.{trailing_le}
use Rattle.std.specs.Int.Signed.{le_z_yes, lt_z_yes}
use Rattle.std.proofs.lemmas.Bool.{ltb-true, and_parts as both}
use Rattle.machine_thumb.specs.Table.{IsGeneral, IsOffset}
use Rattle.machine_thumb.specs.Bytes.{EachInTable}
use Rattle.base_words.specs.declared.memory.Width.{Width}
use Rattle.base_words.specs.declared.memory.Width.TheVariants.{Byte, Half, Word}
use Rattle.monitor_steps.specs.declared.steps.PrivilegedOp.{PrivilegedOp}
use Rattle.monitor_steps.specs.declared.steps.PrivilegedOp.TheVariants.{Add, Sub, And, Or, Shl, Shr}
use Rattle.monitor_steps.specs.declared.steps.PrivilegedCond.{PrivilegedCond}
use Rattle.monitor_steps.specs.declared.steps.PrivilegedCond.TheVariants.{Eq, Ult, Ule}
use Rattle.monitor_steps.specs.Steps.{PrivilegedSteps, End, Const, Copy, Load, Store, Alu, ReadPsp, WritePsp, WriteControl, Test, Repeat, Halt, Return, Go, is_low}
use Rattle.monitor_steps.specs.Code.{load_op, store_op, condition_number, by_moves, operation_code, code_length, code}
use Rattle.monitor_model.specs.declared.tables.Tables.{Tables}
use Rattle.monitor_model.specs.Records.{eighth as eighth_of}
use Rattle.monitor_program.specs.Constants.{Constants, constants_with}
use Rattle.monitor_program.specs.Opening.{times, bits_of, regions, tables_of, stack_region}
use Rattle.monitor_program.specs.Reset.{init_turn, thread_ready, to_main}
use Rattle.monitor_laws.proofs.ResetList.{before_control}
use Rattle.machine_thumb.proofs.Codes.{in_table-append as each_append}
use Rattle.machine_thumb.proofs.Offsets.{two_offset}

-- registers, offsets and numbers of halts fit into their fields
abbrev pub fits_fields : PrivilegedSteps → Bool
fits_fields End = true
fits_fields (Const to n k) = is_low to && fits_fields k
fits_fields (Copy to from k) = (is_low to && is_low from) && fits_fields k
fits_fields (Load z to base off k) = ((is_low to && is_low base) && nat_lt off 32) && fits_fields k
fits_fields (Store z from base off k) = ((is_low from && is_low base) && nat_lt off 32) && fits_fields k
fits_fields (Alu op to a b k) = ((is_low to && is_low a) && is_low b) && fits_fields k
fits_fields (ReadPsp to k) = is_low to && fits_fields k
fits_fields (WritePsp from k) = is_low from && fits_fields k
fits_fields (WriteControl from k) = is_low from && fits_fields k
fits_fields (Test c a b y n k) = (is_low a && is_low b) && ((fits_fields y && fits_fields n) && fits_fields k)
fits_fields (Repeat left most body k) = is_low left && (fits_fields body && fits_fields k)
fits_fields (Halt c k) = nat_lt c 256 && fits_fields k
fits_fields (Return k) = fits_fields k
fits_fields (Go to link k) = (is_low to && is_low link) && fits_fields k

-- numbers are words, and branches reach
abbrev pub Fits : PrivilegedSteps → Type 0
Fits End = Unit {0}
Fits (Const to n k) = (n < 2 ^ 32) × Fits k
Fits (Copy to from k) = Fits k
Fits (Load z to base off k) = Fits k
Fits (Store z from base off k) = Fits k
Fits (Alu op to a b k) = Fits k
Fits (ReadPsp to k) = Fits k
Fits (WritePsp from k) = Fits k
Fits (WriteControl from k) = Fits k
Fits (Test c a b y n k) = IsOffset (2 ^ 24) (pos (code_length y + 4)) × IsOffset (2 ^ 24) (pos (code_length n)) × Fits y × Fits n × Fits k
Fits (Repeat left most body k) = IsOffset (2 ^ 24) (pos (code_length body + 6)) × IsOffset (2 ^ 24) (negsuc (code_length body + 13)) × Fits body × Fits k
Fits (Halt c k) = Fits k
Fits (Return k) = Fits k
Fits (Go to link k) = Fits k

low : (a : ℕ) → is_low a ≡ true → a < 8
low a h = ltb-true a 8 h

general : (a : ℕ) → a < 8 → IsGeneral a
general a h = (omega (arith, h), λ e. absurd (omega (arith, h, e)))

moves_in : (h t : Bool) (op to a b : ℕ) → op < 16 → to < 8 → a < 8 → b < 8 → EachInTable (by_moves op to a b h t)
moves_in true t op to a b o x y z = ((o, z, x), tt)
moves_in false true op to a b o x y z = ((omega arith, omega (arith, y), omega arith, λ e. absurd (omega (arith, e))), ((o, z, y), ((omega arith, omega (arith, y), omega (arith, x), λ e. absurd (omega (arith, e))), ((omega arith, omega arith, omega (arith, y), λ e. absurd (omega (arith, e))), tt))))
moves_in false false op to a b o x y z = ((omega arith, omega (arith, y), omega (arith, x), λ e. absurd (omega (arith, e))), ((o, z, x), tt))

operation_in : (op : PrivilegedOp) (to a b : ℕ) → to < 8 → a < 8 → b < 8 → EachInTable (operation_code op to a b)
operation_in Add to a b x y z = ((omega arith, z, y, x), tt)
operation_in Sub to a b x y z = ((omega arith, z, y, x), tt)
operation_in And to a b x y z = moves_in (nat_eq to a) (nat_eq to b) 0 to a b (omega arith) x y z
operation_in Or to a b x y z = moves_in (nat_eq to a) (nat_eq to b) 12 to a b (omega arith) x y z
operation_in Shl to a b x y z = moves_in (nat_eq to a) (nat_eq to b) 2 to a b (omega arith) x y z
operation_in Shr to a b x y z = moves_in (nat_eq to a) (nat_eq to b) 3 to a b (omega arith) x y z

load_small : (z : Width) → load_op z < 6
load_small Byte = omega arith
load_small Half = omega arith
load_small Word = omega arith

store_small : (z : Width) → store_op z < 6
store_small Byte = omega arith
store_small Half = omega arith
store_small Word = omega arith

condition_small : (c : PrivilegedCond) → condition_number c < 14
condition_small Eq = omega arith
condition_small Ult = omega arith
condition_small Ule = omega arith

pub in_table : (s : PrivilegedSteps) → fits_fields s ≡ true → Fits s → EachInTable (code s)
in_table End f n = tt
in_table (Const to v k) f n =
    let p = both (is_low to) (fits_fields k) f in
    let v0 = n.0 in
    ((general to (low to p.0), omega arith), ((general to (low to p.0), omega (arith, v0)), in_table k p.1 n.1))
in_table (Copy to from k) f n =
    let p = both (is_low to && is_low from) (fits_fields k) f in
    let q = both (is_low to) (is_low from) p.0 in
    let x = low to q.0 in
    let y = low from q.1 in
    ((omega arith, omega (arith, y), omega (arith, x), λ e. absurd (omega (arith, e))), in_table k p.1 n)
in_table (Load z to base off k) f n =
    let p = both ((is_low to && is_low base) && nat_lt off 32) (fits_fields k) f in
    let r = both (is_low to && is_low base) (nat_lt off 32) p.0 in
    let q = both (is_low to) (is_low base) r.0 in
    ((load_small z, ltb-true off 32 r.1, low base q.1, low to q.0), in_table k p.1 n)
in_table (Store z from base off k) f n =
    let p = both ((is_low from && is_low base) && nat_lt off 32) (fits_fields k) f in
    let r = both (is_low from && is_low base) (nat_lt off 32) p.0 in
    let q = both (is_low from) (is_low base) r.0 in
    ((store_small z, ltb-true off 32 r.1, low base q.1, low from q.0), in_table k p.1 n)
in_table (Alu op to a b k) f n =
    let p = both ((is_low to && is_low a) && is_low b) (fits_fields k) f in
    let r = both (is_low to && is_low a) (is_low b) p.0 in
    let q = both (is_low to) (is_low a) r.0 in
    each_append (operation_code op to a b) (code k) (operation_in op to a b (low to q.0) (low a q.1) (low b r.1)) (in_table k p.1 n)
in_table (ReadPsp to k) f n =
    let p = both (is_low to) (fits_fields k) f in
    ((omega arith, general 0 (omega arith), general to (low to p.0), λ e. absurd (omega (arith, e)), λ e. refl, inr (inl refl)), in_table k p.1 n)
in_table (WritePsp from k) f n =
    let p = both (is_low from) (fits_fields k) f in
    ((omega arith, general from (low from p.0), general 0 (omega arith), λ e. refl, λ e. absurd (omega (arith, e)), inr (inl refl)), in_table k p.1 n)
in_table (WriteControl from k) f n =
    let p = both (is_low from) (fits_fields k) f in
    ((omega arith, general from (low from p.0), general 0 (omega arith), λ e. refl, λ e. absurd (omega (arith, e)), inr (inr refl)), (omega arith, in_table k p.1 n))
in_table (Test c a b y m k) f n =
    let p = both (is_low a && is_low b) ((fits_fields y && fits_fields m) && fits_fields k) f in
    let q = both (is_low a) (is_low b) p.0 in
    let r = both (fits_fields y && fits_fields m) (fits_fields k) p.1 in
    let s = both (fits_fields y) (fits_fields m) r.0 in (
      (omega arith, low b q.1, low a q.0),
      (
        (condition_small c, two_offset),
        (
          n.0,
          each_append (code y) _ (in_table y s.0 n.2) (n.1, each_append (code m) (code k) (in_table m s.1 n.3) (in_table k r.1 n.4)),
        ),
      ),
    )
in_table (Repeat left most body k) f n =
    let p = both (is_low left) (fits_fields body && fits_fields k) f in
    let r = both (fits_fields body) (fits_fields k) p.1 in
    let x = low left p.0 in (
      (omega arith, x, omega arith),
      (
        (omega arith, two_offset),
        (
          n.0,
          each_append (code body) _ (in_table body r.0 n.2) ((omega arith, x, omega arith), (n.1, in_table k r.1 n.3)),
        ),
      ),
    )
in_table (Halt c k) f n =
    let p = both (nat_lt c 256) (fits_fields k) f in
    ((omega arith, ltb-true c 256 p.0, λ e. absurd (omega (arith, e))), in_table k p.1 n)
in_table (Return k) f n = (omega arith, (omega arith, ((omega arith, omega arith), in_table k f n)))
in_table (Go to link k) f n =
    let p = both (is_low to && is_low link) (fits_fields k) f in
    let q = both (is_low to) (is_low link) p.0 in
    let x = low to q.0 in
    let y = low link q.1 in
    ((omega arith, omega (arith, y), omega arith, λ e. absurd (omega (arith, e))), ((omega arith, omega (arith, x)), in_table k p.1 n))

-- ---- products and regions

times_fit : (bs : List Bool) (k : PrivilegedSteps) → Fits k → Fits (times 6 5 bs k)
times_fit [] k h = h
times_fit (true ∷ bs) k h = times_fit bs k h
times_fit (false ∷ bs) k h = times_fit bs k h

pub times_fields : (bs : List Bool) (k : PrivilegedSteps) → fits_fields (times 6 5 bs k) ≡ fits_fields k
times_fields [] k = refl
times_fields (true ∷ bs) k = times_fields bs k
times_fields (false ∷ bs) k = times_fields bs k

regions_fit : (n w : ℕ) (k : PrivilegedSteps) → Fits k → Fits (regions n w k)
regions_fit zero w k h = h
regions_fit (suc n) w k h = regions_fit n (w + 2) k h

regions_fields : (n w : ℕ) (k : PrivilegedSteps) → w + 2 * n ≤ 32 → fits_fields (regions n w k) ≡ fits_fields k
regions_fields zero w k h = refl
regions_fields (suc n) w k h =
    let a : nat_lt w 32 ≡ true = search (nat_tests, arith) in
    let b : nat_lt (w + 1) 32 ≡ true = search (nat_tests, arith) in
    rw (a, b) (regions_fields n (w + 2) k (omega (arith, h)))

pub tables_fields : (c : Constants) (k : PrivilegedSteps) → c.slots ≤ 12 → fits_fields (tables_of c k) ≡ fits_fields k
tables_fields c k h = times_fields (bits_of 4 (c.slots + 2)) _ ∙ regions_fields c.slots 2 k (omega (arith, h))

pub before_control_in : (stub : ℕ) (t : Tables) → (constants_with stub t).slots ≤ 12 → EachInTable (code (before_control (constants_with stub t)))
before_control_in stub t h = in_table (before_control c) (tables_fields c (thread_ready c End) h) fit
  where
    c : Constants
    c = constants_with stub t

    eighth : c.eighth < 2 ^ 32
    eighth = let e = trailing_le 32 (eighth_of t) in omega (arith, e)

    offset_back : (n : ℕ) → IsOffset (2 ^ 24) (negsuc n) → IsOffset (2 ^ 24) (negsuc n)
    offset_back n h = h

    last : Fits (thread_ready c End)
    last = (omega arith, (omega arith, (omega arith, (omega arith, (omega arith, (omega arith, tt))))))

    stack : Fits (stack_region c (regions c.slots 2 (thread_ready c End)))
    stack = (omega arith, (eighth, (omega arith, (omega arith, (omega arith, (omega arith, (omega arith, regions_fit c.slots 2 (thread_ready c End) last)))))))

    tables : Fits (tables_of c (thread_ready c End))
    tables = (omega arith, times_fit (bits_of 4 (c.slots + 2)) _ (omega arith, (omega arith, (omega arith, stack))))

    turn : Fits (init_turn c)
    turn = (omega arith, (record { from = le_z_yes tt; below = lt_z_yes tt; even = refl }, record { from = le_z_yes tt; below = lt_z_yes tt; even = refl }, (omega arith, tt), (omega arith, tt)))

    fit : Fits (before_control c)
    fit = (omega arith, (omega arith, (omega arith, (omega (arith, h), (record { from = le_z_yes tt; below = lt_z_yes tt; even = refl }, record { from = le_z_yes tt; below = lt_z_yes tt; even = refl }, tt, tt, (omega arith, (omega arith, (record { from = le_z_yes tt; below = lt_z_yes tt; even = refl }, record { from = le_z_yes tt; below = lt_z_yes tt; even = refl }, turn, (omega arith, (omega arith, (omega arith, (omega arith, (omega arith, (omega arith, (omega arith, (omega arith, (omega arith, (omega arith, tables))))))))))))))))))

pub to_main_in : EachInTable (code to_main)
to_main_in = in_table to_main refl tt
