-- A byte that no listed store of a step holds stays.
use Rattle.std.proofs.Common.{◌≡◌, ℕ, ◌+◌, ◌-◌, ◌<◌, ◌≤◌, ◌⊎◌, inl, inr, ⊎_elim, List, [], ◌∷◌, ap, ◌∙◌, sym, subst, arith, ◌%◌}
use Rattle.std.proofs.lemmas.Bool.{cases_lt}
use Rattle.base_words.proofs.Bytes.{read_one}
use Rattle.machine_devices.specs.declared.image.Image.{Image}
use Rattle.machine_bus.proofs.Offsets.{ram_at}
use Rattle.machine_model.specs.State.{State, Touched, by_mpu}
use Rattle.machine_model.specs.Step.{turn, step}
use Rattle.machine_model.specs.Confinement.{AnyOf, Misses}
use Rattle.machine_model.specs.AnyStep.{StoresAreListed}
use Rattle.base_laws.specs.Lists.{Each}
use Rattle.monitor_runs.specs.Acts.{byte_at}

-- the address is one of an access's bytes
pub record IsByteOf (a : ℕ) (x : Touched) : Type 0 where
  pub number : ℕ
  pub inside : number < x.width
  pub is_at : x.address + number ≡ a

module _ (i : Image) (a : ℕ) (low : i.ram_base ≤ a) where
  one_missed : (x : Touched) → Misses i (a - i.ram_base) x ⊎ IsByteOf a x
  one_missed x =
      ⊎_elim (λ lt. inl (λ o e. let z = (ram_at i x.address o e).0 in inl (omega (arith, z, lt, low))))
      (λ ge. ⊎_elim
      (λ lt. inr (record { number = a - x.address; inside = omega (arith, ge, lt); is_at = omega (arith, ge) }))
      (λ le. inl (λ o e. let z = (ram_at i x.address o e).0 in inr (omega (arith, z, le, low))))
      (cases_lt a (x.address + x.width))) (cases_lt a x.address)

  all_missed : (xs : List Touched) → Each (Misses i (a - i.ram_base)) xs ⊎ AnyOf (IsByteOf a) xs
  all_missed [] = inl tt
  all_missed (x ∷ xs) = ⊎_elim (λ h. ⊎_elim (λ hs. inl (h, hs)) (λ g. inr (inr g)) (all_missed xs)) (λ g. inr (inl g)) (one_missed x)

  pub byte_stays : StoresAreListed → (s : State) → (byte_at i (step i s) a ≡ byte_at i s a) ⊎ AnyOf (IsByteOf a) (turn by_mpu i s).stores
  byte_stays listed s =
      ⊎_elim (λ h. inl (read_one (a - i.ram_base) (step i s).ram ∙ ap (λ n. n % 256) ((listed by_mpu i s).ram (a - i.ram_base) h) ∙ sym (read_one (a - i.ram_base) s.ram)))
      (λ g. inr g) (all_missed (turn by_mpu i s).stores)

pub any_byte : (P : ℕ → Type 0) (a : ℕ) (xs : List Touched) → Each (λ (x : Touched). (k : ℕ) → k < x.width → P (x.address + k)) xs → AnyOf (IsByteOf a) xs → P a
any_byte P a [] h f = absurd f
any_byte P a (x ∷ xs) h (inl f) = subst P f.is_at (h.0 f.number f.inside)
any_byte P a (x ∷ xs) h (inr f) = any_byte P a xs h.1 f
