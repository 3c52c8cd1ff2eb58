-- What a compartment may reach without need, because globals share a region; and how much of that a join of two regions adds.
use Rattle.std.specs.Prelude.{ℕ, ◌+◌, ◌*◌, not, ◌||◌, List, length, filter, sum_by}
use Rattle.ir_model.specs.declared.object.ObjId.TheVariants.{Global}
use Rattle.ir_model.specs.Resolved.{Program}
use Rattle.plan_model.specs.declared.needs.Needs.{Needs}
use Rattle.plan_model.specs.declared.groups.Groups.{Groups}
use Rattle.plan_model.specs.declared.graph.DataRegion.{DataRegion}
use Rattle.plan_model.specs.Lists.{has, without}
use Rattle.plan_model.specs.Groups.{writes, reads}
use Rattle.plan_model.specs.Regions.{users, is_user, size_of}

-- ---- what a join adds

-- the bytes of each region, as often as there are compartments that write the other alone
abbrev pub exposure_to_writers : Program → DataRegion → DataRegion → ℕ
exposure_to_writers p a b =
    size_of p a.globals * length (without b.writers a.writers) + size_of p b.globals * length (without a.writers b.writers)

-- the same with the compartments that write or read
abbrev pub exposure_to_users : Program → DataRegion → DataRegion → ℕ
exposure_to_users p a b =
    size_of p a.globals * length (without (users b) (users a)) + size_of p b.globals * length (without (users a) (users b))

-- both; where no region has readers, as on an open board, it is twice the first, and the same joins are the least
unfoldable pub added_exposure : Program → DataRegion → DataRegion → ℕ
added_exposure p a b = exposure_to_writers p a b + exposure_to_users p a b

-- ---- what a compartment has

-- the globals of a region that no function of the compartment writes
abbrev pub never_written : Needs → Groups → (compartment : ℕ) → DataRegion → List ℕ
never_written n g c r = filter (λ x. not (writes n g c (Global x))) r.globals

-- those that none of them writes or reads
abbrev pub never_reached : Needs → Groups → (compartment : ℕ) → DataRegion → List ℕ
never_reached n g c r = filter (λ x. not (writes n g c (Global x) || reads n g c (Global x))) r.globals

-- the bytes that the compartment may write by its regions though none of its functions does
abbrev pub exposed_to_writes : Program → Needs → Groups → List DataRegion → (compartment : ℕ) → ℕ
exposed_to_writes p n g rs c = sum_by (λ (r : DataRegion). size_of p (never_written n g c r)) (filter (λ (r : DataRegion). has r.writers c) rs)

-- the bytes that it may read by its regions though none of its functions writes or reads them
abbrev pub exposed_to_reads : Program → Needs → Groups → List DataRegion → (compartment : ℕ) → ℕ
exposed_to_reads p n g rs c = sum_by (λ (r : DataRegion). size_of p (never_reached n g c r)) (filter (is_user c) rs)
