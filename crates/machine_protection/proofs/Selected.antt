-- The region that MPU_RNR selects, among the first `count` of an array.
use Rattle.std.proofs.Common.{◌≡◌, ℕ, ◌<◌, List, take, sym, ap, ◌∙◌}
use Rattle.std.proofs.Math.ListN.{get_or, set}
use Rattle.std.proofs.Math.Seq.{take-set-lt}
use Rattle.std.proofs.lemmas.List.{get_or-take}
use Rattle.machine_protection.specs.declared.region.Region.{Region}
use Rattle.machine_protection.specs.Registers.{Registers, blank, kept_address, kept_attributes, with_address, with_attributes}

-- a unit that keeps its regions in an array
abbrev pub kept_in : (control number count : ℕ) → List Region → Registers
kept_in control number count gs = record { control = control; number = number; regions = take count gs }

pub with_address_kept : (control number count : ℕ) (gs : List Region) (v : ℕ) → number < count → kept_in control number count (set gs number (record { rbar = kept_address v; rasr = (get_or gs number blank).rasr })) ≡ with_address (kept_in control number count gs) v
with_address_kept control number count gs v lt =
    ap (λ xs. record { control = control; number = number; regions = xs })
    (take-set-lt count gs number (record { rbar = kept_address v; rasr = (get_or gs number blank).rasr }) lt
    ∙ ap (λ x. set (take count gs) number (record { rbar = kept_address v; rasr = x.rasr })) (sym (get_or-take count gs number blank lt)))

pub with_attributes_kept : (control number count : ℕ) (gs : List Region) (v : ℕ) → number < count → kept_in control number count (set gs number (record { rbar = (get_or gs number blank).rbar; rasr = kept_attributes v })) ≡ with_attributes (kept_in control number count gs) v
with_attributes_kept control number count gs v lt =
    ap (λ xs. record { control = control; number = number; regions = xs })
    (take-set-lt count gs number (record { rbar = (get_or gs number blank).rbar; rasr = kept_attributes v }) lt
    ∙ ap (λ x. set (take count gs) number (record { rbar = x.rbar; rasr = kept_attributes v })) (sym (get_or-take count gs number blank lt)))
