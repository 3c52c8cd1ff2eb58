-- Beyond the program's claim: only laws, proofs and functions inside the tool cite this file.
-- What is known of a data region, on which alone the cost of its joins depends.
use Rattle.std.specs.Prelude.{◌≡◌, ℕ, ◌<◌, ◌+◌, ◌*◌, Bool, false, not, List, [], length, map, filter, get_or, take}
use Rattle.std.specs.List.{AllZip}
use Rattle.ir_model.specs.Resolved.{Program}
use Rattle.plan_model.specs.declared.graph.DataRegion.{DataRegion}
use Rattle.plan_model.specs.Lists.{numbers_below, has}
use Rattle.plan_model.specs.Regions as regions
use Rattle.plan_graph.specs.declared.known.Known.{Known}

-- a flag for each number tells whether it is one of a list; behind the last flag none is
abbrev pub AreFlags : (numbers : List ℕ) → (flags : List Bool) → Type 0
AreFlags ns flags = (n : ℕ) → get_or flags n false ≡ has ns n

-- the numbers whose flag is not set
abbrev pub unflagged : (numbers : List ℕ) → (flags : List Bool) → List ℕ
unflagged ns flags = filter (λ n. not (get_or flags n false)) ns

-- the size, the writers and the users of a region
pub record IsKnown (p : Program) (r : DataRegion) (k : Known) : Type 0 where
  pub size : k.size ≡ regions.size_of p r.globals
  pub writers : k.writers ≡ r.writers
  pub users : k.users ≡ regions.users r
  pub writes : AreFlags r.writers k.writes
  pub uses : AreFlags (regions.users r) k.uses

-- the exposure that the join of two regions adds, by what is known of them
unfoldable pub exposure_of : Known → Known → ℕ
exposure_of a b =
    a.size * length (unflagged b.writers a.writes) + b.size * length (unflagged a.writers b.writes)
    + (a.size * length (unflagged b.users a.uses) + b.size * length (unflagged a.users b.uses))

-- of a region that is not there
abbrev pub nothing_known : Known
nothing_known = record { size = 0; writers = []; users = []; writes = []; uses = [] }

abbrev pub known_at : List Known → (number : ℕ) → Known
known_at ks k = get_or ks k nothing_known

-- what the joins of a region with those up to it cost
abbrev pub row_of : List Known → (number : ℕ) → List ℕ
row_of ks k = map (λ (j : Known). exposure_of j (known_at ks k)) (take (k + 1) ks)

-- for each region the costs of its joins with those up to it
abbrev pub AreCosts : List Known → (costs : List (List ℕ)) → Type 0
AreCosts ks costs = costs ≡ map (row_of ks) (numbers_below (length ks))

-- a region is known under a number
pub record IsLearned (p : Program) (ks : List Known) (r : DataRegion) (n : ℕ) : Type 0 where
  pub below : n < length ks
  pub known : IsKnown p r (known_at ks n)

-- each of these regions under its number
abbrev pub AreLearned : Program → List Known → List DataRegion → (numbers : List ℕ) → Type 0
AreLearned p ks rs ns = AllZip (IsLearned p ks) rs ns
