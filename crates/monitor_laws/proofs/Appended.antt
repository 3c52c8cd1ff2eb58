-- A list with another behind it, and its code.
use Rattle.std.proofs.Common.{◌≡◌, ℕ, zero, suc, ◌+◌, Bool, true, false, List, [], ◌∷◌, ◌++◌, refl, sym, ap, ◌∙◌, append_assoc, pos, negsuc}
use Rattle.machine_thumb.specs.declared.table.Instr.TheVariants.{DataImmediate, BranchWide}
use Rattle.monitor_steps.specs.Steps.{PrivilegedSteps, End, Const, Copy, Load, Store, Alu, ReadPsp, WritePsp, WriteControl, Test, Repeat, Halt, Return, Go, names_low, ◌▸◌}
use Rattle.monitor_steps.specs.Code.{operation_code, code_length, code}
use Rattle.monitor_program.specs.Constants.{Constants}
use Rattle.monitor_program.specs.Opening.{times, bits_of, regions, record_of, stack_region, tables_of, region}
use Rattle.monitor_model.specs.Offsets.{record_code}
use Rattle.machine_protection.specs.declared.TheConstants.{MPU_RBAR}

-- s, and behind it r
abbrev pub followed_by : (s r : PrivilegedSteps) → PrivilegedSteps
followed_by End r = r
followed_by (Const to n k) r = Const to n (followed_by k r)
followed_by (Copy to from k) r = Copy to from (followed_by k r)
followed_by (Load z to base off k) r = Load z to base off (followed_by k r)
followed_by (Store z from base off k) r = Store z from base off (followed_by k r)
followed_by (Alu op to a b k) r = Alu op to a b (followed_by k r)
followed_by (ReadPsp to k) r = ReadPsp to (followed_by k r)
followed_by (WritePsp from k) r = WritePsp from (followed_by k r)
followed_by (WriteControl from k) r = WriteControl from (followed_by k r)
followed_by (Test c a b y n k) r = Test c a b y n (followed_by k r)
followed_by (Repeat left most body k) r = Repeat left most body (followed_by k r)
followed_by (Halt n k) r = Halt n (followed_by k r)
followed_by (Return k) r = Return (followed_by k r)
followed_by (Go to link k) r = Go to link (followed_by k r)

pub code_followed : (s r : PrivilegedSteps) → code (followed_by s r) ≡ code s ++ code r
code_followed End r = refl
code_followed (Const to n k) r = rw (code_followed k r) refl
code_followed (Copy to from k) r = rw (code_followed k r) refl
code_followed (Load z to base off k) r = rw (code_followed k r) refl
code_followed (Store z from base off k) r = rw (code_followed k r) refl
code_followed (Alu op to a b k) r = rw (code_followed k r) (sym (append_assoc (operation_code op to a b) (code k) (code r)))
code_followed (ReadPsp to k) r = rw (code_followed k r) refl
code_followed (WritePsp from k) r = rw (code_followed k r) refl
code_followed (WriteControl from k) r = rw (code_followed k r) refl
code_followed (Test c a b y n k) r =
    let e = code_followed k r in
    let p = append_assoc (code n) (code k) (code r) in
    let q = append_assoc (code y) (BranchWide (pos (code_length n)) ∷ (code n ++ code k)) (code r) in
    rw (e, q, p) refl
code_followed (Repeat left most body k) r =
    let e = code_followed k r in
    let q = append_assoc (code body) (DataImmediate 3 left 1 ∷ BranchWide (negsuc (code_length body + 13)) ∷ code k) (code r) in
    rw (e, q) refl
code_followed (Halt n k) r = rw (code_followed k r) refl
code_followed (Return k) r = rw (code_followed k r) refl
code_followed (Go to link k) r = rw (code_followed k r) refl

times_followed : (to from : ℕ) (bs : List Bool) (k r : PrivilegedSteps) → followed_by (times to from bs k) r ≡ times to from bs (followed_by k r)
times_followed to from [] k r = refl
times_followed to from (true ∷ bs) k r = rw (times_followed to from bs k r) refl
times_followed to from (false ∷ bs) k r = rw (times_followed to from bs k r) refl

regions_followed : (n w : ℕ) (k r : PrivilegedSteps) → followed_by (regions n w k) r ≡ regions n w (followed_by k r)
regions_followed zero w k r = refl
regions_followed (suc n) w k r = rw (regions_followed n (w + 2) k r) refl

record_followed : (c : Constants) (k r : PrivilegedSteps) → followed_by (record_of c k) r ≡ record_of c (followed_by k r)
record_followed c k r = ap (λ s. Const 6 0 s) (times_followed 6 5 (bits_of 4 (c.slots + 2)) _ r)

pub tables_followed : (c : Constants) (k r : PrivilegedSteps) → followed_by (tables_of c k) r ≡ tables_of c (followed_by k r)
tables_followed c k r =
    record_followed c _ r
    ∙ ap (λ s. record_of c ▸ Const 0 MPU_RBAR ▸ region record_code ▸ stack_region c ▸ s) (regions_followed c.slots 2 k r)

-- they name r0 to r7
pub times_low : (bs : List Bool) (k : PrivilegedSteps) → names_low (times 6 5 bs k) ≡ names_low k
times_low [] k = refl
times_low (true ∷ bs) k = times_low bs k
times_low (false ∷ bs) k = times_low bs k

regions_low : (n w : ℕ) (k : PrivilegedSteps) → names_low (regions n w k) ≡ names_low k
regions_low zero w k = refl
regions_low (suc n) w k = regions_low n (w + 2) k

pub tables_low : (c : Constants) (k : PrivilegedSteps) → names_low (tables_of c k) ≡ names_low k
tables_low c k = times_low (bits_of 4 (c.slots + 2)) _ ∙ regions_low c.slots 2 k
