-- Start-up on a unit with another number of regions.
use Rattle.std.proofs.Common.{◌≡◌, ℕ, ◌+◌, ◌*◌, ◌^◌, List, [], length, get_or, set, length-set, get_or-set_same, get_or-set_other, refl, sym, ◌∙◌, arith}
use Rattle.std.proofs.lemmas.Bool.{eqb-true}
use Rattle.machine_protection.specs.declared.TheConstants.{MPU_TYPE}
use Rattle.machine_model.specs.State.{by_mpu}
use Rattle.machine_model.specs.System.{read_system}
use Rattle.monitor_steps.specs.Core.{Core}
use Rattle.monitor_steps.specs.Effect.{Halted}
use Rattle.monitor_steps.proofs.Gives.{gives_effect}
use Rattle.monitor_steps.proofs.Within.{GivesWithin, const_within, must_within}
use Rattle.monitor_program.specs.Constants.{Constants}
use Rattle.monitor_program.specs.Reset.{reset}
use Rattle.monitor_laws.specs.StartUp.{OtherUnitsHalt}
use Rattle.monitor_laws.proofs.Off.{system_load_within}
use Rattle.monitor_laws.proofs.ResetList.{type_is}

-- the registers up to the test
module _ (c : Constants) (before : Core) (n : length before.low ≡ 8) where
  -- behind the words of `main`
  abbrev moved : List ℕ
  moved = set (set before.low 5 c.main_compartment) 7 c.main

  moved_length : length moved ≡ 8
  moved_length = length-set (set before.low 5 c.main_compartment) 7 c.main ∙ length-set before.low 5 c.main_compartment ∙ n

  at : get_or (set moved 0 MPU_TYPE) 0 0 + 4 * 0 ≡ MPU_TYPE
  at = let e = get_or-set_same moved 0 MPU_TYPE 0 (let l = moved_length in omega (arith, l)) in omega (arith, e)

  -- behind the load
  abbrev value : ℕ
  value = read_system MPU_TYPE before.protection before.status

  abbrev loaded : List ℕ
  loaded = set (set moved 0 MPU_TYPE) 6 value

  loaded_length : length loaded ≡ 8
  loaded_length = length-set (set moved 0 MPU_TYPE) 6 value ∙ length-set moved 0 MPU_TYPE ∙ moved_length

  abbrev asked : ℕ
  asked = 256 * (c.slots + 4)

  left : get_or (set loaded 1 asked) 6 0 ≡ value
  left =
      get_or-set_other loaded 1 6 asked 0 (λ e. absurd (omega (arith, e)))
      ∙ get_or-set_same (set moved 0 MPU_TYPE) 6 value 0 (let l = moved_length in let z = length-set moved 0 MPU_TYPE in omega (arith, l, z))

  right : get_or (set loaded 1 asked) 1 0 ≡ asked
  right = get_or-set_same loaded 1 asked 0 (let l = loaded_length in omega (arith, l))

same : (l s v : ℕ) → v ≡ l * 2 ^ 8 → v ≡ 256 * (s + 4) → l ≡ s + 4
same l s v e f = omega (arith, e, f)

pub other_units_halt : OtherUnitsHalt
other_units_halt i c before u n other =
    let w : GivesWithin by_mpu i (λ q. Unit {0}) (λ k d w a. Unit {0}) 14 (reset c) [] before (λ o. (d : Core) × (o ≡ Halted 10 d) × (d.protection ≡ before.protection) × (d.ram ≡ before.ram)) =
    const_within (const_within (const_within
    (system_load_within MPU_TYPE u (at c before n) refl (omega arith) refl refl tt
    (const_within
    (must_within {m = 0} (λ e. (_, refl, refl, refl))
    (λ e. absurd (other (same (length before.protection.mpu.regions) c.slots (value c before n) (type_is before.protection before.status) (sym (left c before n) ∙ eqb-true _ _ e ∙ right c before n))))))))) in
    let g = (gives_effect w.gives).0 in
    record { after = g.0; halts = g.1; protection = g.2; ram = g.3 }
