-- Every step keeps the shape of a state.
use Rattle.std.proofs.Common.{◌≡◌, ℕ, zero, suc, ◌+◌, ◌*◌, ◌/◌, ◌%◌, ◌^◌, ◌<◌, ◌≤◌, Bool, true, false, List, [], ◌∷◌, length, get_or, set, nat_eq, nat_lt, ◌∙◌, arith}
use Rattle.std.specs.Prelude.{if◌then◌else◌}
use Rattle.std.proofs.lemmas.List.{length-set}
use Rattle.base_words.proofs.Arithmetic.{bit_clear_fits}
use Rattle.base_words.proofs.Bytes.{read_fits}
use Rattle.machine_protection.specs.declared.region.Region.{Region}
use Rattle.machine_protection.specs.Registers.{Registers, blank, selected, with_address, with_attributes, write_address, write_register, read_register, read_address, kept_address, kept_attributes}
use Rattle.machine_protection.specs.declared.TheConstants.{MPU_TYPE, MPU_CTRL, MPU_RNR, MPU_RBAR, MPU_RASR}
use Rattle.machine_devices.specs.declared.image.Image.{Image}
use Rattle.machine_bus.specs.Locations.{Location, InRam, InFlash, InWindow, Nowhere, choose}
use Rattle.machine_bus.specs.Bus.{word_at}
use Rattle.machine_model.specs.declared.TheConstants.{CCR, SHCSR, CFSR, MMFAR}
use Rattle.machine_model.specs.declared.state.CoreRegisters.{CoreRegisters}
use Rattle.machine_model.specs.declared.state.ProtectionState.{ProtectionState}
use Rattle.machine_model.specs.declared.state.FaultStatus.{FaultStatus}
use Rattle.machine_model.specs.State.{State, with_core}
use Rattle.machine_model.specs.System.{read_system, read_status, write_status, write_system}
use Rattle.machine_model.specs.Shape.{CoreFits, StatusFits, UnitFits, StateFits}
use Rattle.machine_model.proofs.ShapeActs.{if_below}

-- ---- the unit and the status registers

set_region : (l : List Region) (k : ℕ) (g : Region) → ((i : ℕ) → (get_or l i blank).rbar < 2 ^ 32) → g.rbar < 2 ^ 32 → (i : ℕ) → (get_or (set l k g) i blank).rbar < 2 ^ 32
set_region [] k g h f i = h i
set_region (x ∷ xs) zero g h f zero = f
set_region (x ∷ xs) zero g h f (suc i) = h (suc i)
set_region (x ∷ xs) (suc k) g h f zero = h zero
set_region (x ∷ xs) (suc k) g h f (suc i) = set_region xs k g (λ n. h (suc n)) f i

set_attributes : (l : List Region) (k : ℕ) (g : Region) → ((i : ℕ) → (get_or l i blank).rasr < 2 ^ 32) → g.rasr < 2 ^ 32 → (i : ℕ) → (get_or (set l k g) i blank).rasr < 2 ^ 32
set_attributes [] k g h f i = h i
set_attributes (x ∷ xs) zero g h f zero = f
set_attributes (x ∷ xs) zero g h f (suc i) = h (suc i)
set_attributes (x ∷ xs) (suc k) g h f zero = h zero
set_attributes (x ∷ xs) (suc k) g h f (suc i) = set_attributes xs k g (λ n. h (suc n)) f i

address_fits : (count : ℕ) (m : Registers) (v : ℕ) → UnitFits count m → v < 2 ^ 32 → UnitFits count (with_address m v)
address_fits count m v h f = record {
  control_word = h.control_word;
  number_word = h.number_word;
  region_count = length-set m.regions m.number _ ∙ h.region_count;
  rbar_words = set_region m.regions m.number (record (selected m) { rbar = kept_address v }) h.rbar_words (omega arith);
  rasr_words = set_attributes m.regions m.number (record (selected m) { rbar = kept_address v }) h.rasr_words (h.rasr_words m.number);
}

attributes_fit : (count : ℕ) (m : Registers) (v : ℕ) → UnitFits count m → v < 2 ^ 32 → UnitFits count (with_attributes m v)
attributes_fit count m v h f = record {
  control_word = h.control_word;
  number_word = h.number_word;
  region_count = length-set m.regions m.number _ ∙ h.region_count;
  rbar_words = set_region m.regions m.number (record (selected m) { rasr = kept_attributes v }) h.rbar_words (h.rbar_words m.number);
  rasr_words = set_attributes m.regions m.number (record (selected m) { rasr = kept_attributes v }) h.rasr_words (omega arith);
}

number_fits : (count : ℕ) (m : Registers) (n : ℕ) → UnitFits count m → n < 2 ^ 32 → UnitFits count (record m { number = n })
number_fits count m n h f = record { control_word = h.control_word; number_word = f; region_count = h.region_count; rbar_words = h.rbar_words; rasr_words = h.rasr_words }

control_fits : (count : ℕ) (m : Registers) (n : ℕ) → UnitFits count m → n < 2 ^ 32 → UnitFits count (record m { control = n })
control_fits count m n h f = record { control_word = f; number_word = h.number_word; region_count = h.region_count; rbar_words = h.rbar_words; rasr_words = h.rasr_words }

if_unit : (count : ℕ) (b : Bool) (x y : Registers) → UnitFits count x → UnitFits count y → UnitFits count (if b then x else y)
if_unit count true x y h g = h
if_unit count false x y h g = g

write_address_fits : (count : ℕ) (b : Bool) (m : Registers) (v : ℕ) → UnitFits count m → v < 2 ^ 32 → UnitFits count (write_address b m v)
write_address_fits count true m v h f = address_fits count (record m { number = v % 16 }) v (number_fits count m (v % 16) h (omega arith)) f
write_address_fits count false m v h f = address_fits count m v h f

write_register_fits : (count a v : ℕ) (m : Registers) → UnitFits count m → v < 2 ^ 32 → UnitFits count (write_register a v m)
unfolding write_register
write_register_fits count a v m h f =
    if_unit count (nat_eq a MPU_CTRL) _ _ (control_fits count m (v % 8) h (omega arith))
    (if_unit count (nat_eq a MPU_RNR) _ _ (number_fits count m (v % 2 ^ 8) h (omega arith))
    (if_unit count (nat_eq a MPU_RBAR) _ _ (write_address_fits count (nat_eq (v / 2 ^ 4 % 2) 1) m v h f)
    (if_unit count (nat_eq a MPU_RASR) _ _ (attributes_fit count m v h f) h)))

read_register_fits : (count a : ℕ) (m : Registers) → count ≤ 16 → UnitFits count m → read_register a m < 2 ^ 32
unfolding read_register
read_register_fits count a m few h =
    let n = h.region_count in
    let b = h.rbar_words m.number in
    if_below (nat_eq a MPU_TYPE) (length m.regions * 2 ^ 8) _ (2 ^ 32) (omega arith)
    (if_below (nat_eq a MPU_CTRL) _ _ (2 ^ 32) h.control_word
    (if_below (nat_eq a MPU_RNR) _ _ (2 ^ 32) h.number_word
    (if_below (nat_eq a MPU_RBAR) (read_address m) _ (2 ^ 32) (if_below (nat_lt m.number (length m.regions)) (kept_address (selected m).rbar + m.number % 16) 0 (2 ^ 32) (omega arith) (omega arith))
    (h.rasr_words m.number))))

if_status : (b : Bool) (x y : FaultStatus) → StatusFits x → StatusFits y → StatusFits (if b then x else y)
if_status true x y h g = h
if_status false x y h g = g

write_status_fits : (a v : ℕ) (t : FaultStatus) → StatusFits t → v < 2 ^ 32 → StatusFits (write_status a v t)
unfolding write_status
write_status_fits a v t h f =
    if_status (nat_eq a SHCSR) _ _ (record { shcsr_word = omega arith; cfsr_word = h.cfsr_word; mmfar_word = h.mmfar_word })
    (if_status (nat_eq a CFSR) _ _ (record { shcsr_word = h.shcsr_word; cfsr_word = bit_clear_fits t.cfsr v h.cfsr_word; mmfar_word = h.mmfar_word })
    (if_status (nat_eq a MMFAR) _ _ (record { shcsr_word = h.shcsr_word; cfsr_word = h.cfsr_word; mmfar_word = f }) h))

read_status_fits : (a : ℕ) (t : FaultStatus) → StatusFits t → read_status a t < 2 ^ 32
unfolding read_status
read_status_fits a t h =
    if_below (nat_eq a CCR) 0x200 _ (2 ^ 32) (omega arith)
    (if_below (nat_eq a SHCSR) _ _ (2 ^ 32) h.shcsr_word (if_below (nat_eq a CFSR) _ _ (2 ^ 32) h.cfsr_word h.mmfar_word))

pub choose_below : (b : Bool) (x y n : ℕ) → x < n → y < n → choose b x y < n
choose_below true x y n h g = h
choose_below false x y n h g = g

pub choose_core : (b : Bool) (x y : CoreRegisters) → CoreFits x → CoreFits y → CoreFits (choose b x y)
choose_core true x y h g = h
choose_core false x y h g = g

pub read_system_fits : (count a : ℕ) (p : ProtectionState) (t : FaultStatus) → count ≤ 16 → UnitFits count p.mpu → StatusFits t → read_system a p t < 2 ^ 32
unfolding read_system
read_system_fits count a p t few u h = choose_below _ (read_register a p.mpu) (read_status a t) (2 ^ 32) (read_register_fits count a p.mpu few u) (read_status_fits a t h)

-- ---- memory

pub word_fits : (p : Location) (i : Image) (ram : List ℕ) → word_at p i ram < 2 ^ 32
word_fits (InRam o) i ram = let h = read_fits 4 o ram in h
word_fits (InFlash o) i ram = let h = read_fits 4 o i.flash in h
word_fits (InWindow k o) i ram = omega arith
word_fits Nowhere i ram = omega arith

-- ---- states

pub with_core_fits : (i : Image) (s : State) (c : CoreRegisters) → StateFits i s → CoreFits c → StateFits i (with_core s c)
with_core_fits i s c h f = record { core = f; status = h.status; unit = h.unit; ram_count = h.ram_count; queue_count = h.queue_count }

pub with_ram_fits : (i : Image) (s : State) (ram : List ℕ) → StateFits i s → length ram ≡ length s.ram → StateFits i (record s { ram = ram })
with_ram_fits i s ram h e = record { core = h.core; status = h.status; unit = h.unit; ram_count = e ∙ h.ram_count; queue_count = h.queue_count }

pub write_system_fits : (i : Image) (a v : ℕ) (s : State) → StateFits i s → v < 2 ^ 32 → StateFits i (write_system a v s)
write_system_fits i a v s h f = record {
  core = h.core;
  status = write_status_fits a v s.status h.status f;
  unit = write_register_fits i.regions a v s.protection.mpu h.unit f;
  ram_count = h.ram_count;
  queue_count = h.queue_count;
}
