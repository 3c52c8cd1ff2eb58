-- A region: which addresses it holds, and which accesses it allows (Armv7-M ARM, B3.5.8 to B3.5.10).
use Rattle.std.specs.Prelude.{ℕ, ◌+◌, ◌-◌, ◌/◌, ◌%◌, ◌^◌, Bool, true, false, not, ◌&&◌, ◌||◌, nat_eq, nat_lt}
use Rattle.std.specs.Int.{bit_at}
use Rattle.machine_protection.specs.declared.region.Region.{Region}
use Rattle.machine_protection.specs.declared.region.Access.{Access}
use Rattle.machine_protection.specs.declared.region.Access.TheVariants.{Read, Write, Fetch}

-- RASR.ENABLE
abbrev pub is_enabled : Region → Bool
is_enabled g = nat_eq (g.rasr % 2) 1

-- a region has 2 ^ size_log bytes, one more than RASR.SIZE
abbrev pub size_log : Region → ℕ
size_log g = g.rasr / 2 % 32 + 1

-- below 32 bytes a region holds no address
abbrev pub is_of_legal_size : Region → Bool
is_of_legal_size g = nat_lt 4 (size_log g)

-- the address differs from the region's base only below the region's size
abbrev pub is_in_block : Region → ℕ → Bool
is_in_block g a = nat_eq (a / 2 ^ size_log g) (g.rbar / 2 ^ size_log g)

-- RASR.SRD: from 256 bytes on a region has eight subregions, of which bit i takes out the i-th, counted from the lowest
abbrev pub is_taken_out : Region → ℕ → Bool
is_taken_out g a = nat_lt 7 (size_log g) && nat_eq (bit_at (g.rasr / 2 ^ 8 % 2 ^ 8) (a / 2 ^ (size_log g - 3) % 8)) 1

-- the region holds the address
unfoldable pub holds : Region → ℕ → Bool
holds g a = is_enabled g && (is_of_legal_size g && (is_in_block g a && not (is_taken_out g a)))

-- RASR.AP, by number: 1 privileged alone, 2 privileged and unprivileged reads, 3 both, 5 privileged reads,
-- 6 and 7 reads of both; 0 and 4 allow nothing, and 4 is reserved
abbrev pub permission : Region → ℕ
permission g = g.rasr / 2 ^ 24 % 8

abbrev pub ap_reads : (unprivileged : Bool) → ℕ → Bool
ap_reads false n = not (nat_eq n 0 || nat_eq n 4)
ap_reads true n = nat_eq n 2 || (nat_eq n 3 || (nat_eq n 6 || nat_eq n 7))

abbrev pub ap_writes : (unprivileged : Bool) → ℕ → Bool
ap_writes false n = nat_eq n 1 || (nat_eq n 2 || nat_eq n 3)
ap_writes true n = nat_eq n 3

-- RASR.XN
abbrev pub is_executable : Region → Bool
is_executable g = nat_eq (g.rasr / 2 ^ 28 % 2) 0

-- the region allows such an access to an address that it decides about; a fetch needs the right to read
abbrev pub allows : Region → (unprivileged : Bool) → Access → Bool
allows g u Read = ap_reads u (permission g)
allows g u Write = ap_writes u (permission g)
allows g u Fetch = ap_reads u (permission g) && is_executable g
