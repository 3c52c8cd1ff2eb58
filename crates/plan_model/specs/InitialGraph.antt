-- The graph of a program's compartments before any join.
use Rattle.std.specs.Prelude.{ℕ, ◌+◌, ◌*◌, Bool, not, ◌&&◌, ◌||◌, List, [], ◌∷◌, length, map, filter, take, if◌then◌else◌, nat_lt}
use Rattle.ir_model.specs.declared.object.ObjId.TheVariants.{Global, Local}
use Rattle.ir_model.specs.Resolved.{Program, window_at}
use Rattle.plan_model.specs.declared.needs.Needs.{Needs}
use Rattle.plan_model.specs.declared.groups.Groups.{Groups}
use Rattle.plan_model.specs.declared.graph.DataRegion.{DataRegion}
use Rattle.plan_model.specs.declared.graph.Cover.{Cover}
use Rattle.plan_model.specs.declared.graph.Graph.{Graph}
use Rattle.plan_model.specs.Lists.{numbers_below, is_empty, same_numbers, in_order, distinct}
use Rattle.plan_model.specs.Groups.{writes, reads, uses}
use Rattle.plan_model.specs.CompileLimits.{lent_limit}

-- ---- data regions

-- the compartments that may write a global, and on a closed board those that may read it
pub record Users : Type 0 where
  pub writers : List ℕ
  pub readers : List ℕ

-- the compartments that pass a test, in rising order
abbrev pub compartments_that : Groups → (does : ℕ → Bool) → List ℕ
compartments_that g does = filter does (numbers_below g.count)

-- those that have a global in what one of their functions writes, or reads
abbrev pub users_of : Needs → Groups → (global : ℕ) → Users
users_of n g x =
    record {
      writers = compartments_that g (λ c. writes n g c (Global x));
      readers = if n.closed then compartments_that g (λ c. reads n g c (Global x)) else [];
    }

-- one of both lists has a compartment
abbrev pub has_users : Users → Bool
has_users u = not (is_empty u.writers && is_empty u.readers)

-- both lists are equal
abbrev pub same_users : Users → Users → Bool
same_users u v = same_numbers u.writers v.writers && same_numbers u.readers v.readers

-- the different users of the globals that have any, in the order of the first global of each
abbrev pub kinds_of_users : Program → Needs → Groups → List Users
kinds_of_users p n g = distinct same_users (filter has_users (map (users_of n g) (numbers_below (length p.globals))))

-- the globals that have these users
abbrev pub region_for : Program → Needs → Groups → Users → DataRegion
region_for p n g u =
    record {
      globals = filter (λ x. same_users (users_of n g x) u) (numbers_below (length p.globals));
      writers = u.writers;
      readers = u.readers;
    }

-- globals of equal users are a region; regions are numbered by their first global
abbrev pub data_regions : Program → Needs → Groups → List DataRegion
data_regions p n g = map (region_for p n g) (kinds_of_users p n g)

-- the globals without users
abbrev pub unwritten : Program → Needs → Groups → List ℕ
unwritten p n g = filter (λ x. not (has_users (users_of n g x))) (numbers_below (length p.globals))

-- ---- peripherals

-- a peripheral's window
abbrev pub cover_of : Program → (periph : ℕ) → Cover
cover_of p q = record { base = (window_at p q).base; size = (window_at p q).size }

-- covers in order of their bases
abbrev pub by_base : List Cover → List Cover
by_base cs = in_order (λ (a b : Cover). nat_lt a.base b.base) cs

-- the windows of the peripherals that the compartment's functions may use
abbrev pub covers_of : Program → Needs → Groups → (compartment : ℕ) → List Cover
covers_of p n g c = by_base (map (cover_of p) (filter (uses n g c) (numbers_below (length p.periphs))))

-- ---- masks

-- the number whose bits these are, the lowest first
abbrev pub number_of_bits : List Bool → ℕ
number_of_bits [] = 0
number_of_bits (b ∷ bs) = (if b then 1 else 0) + 2 * number_of_bits bs

-- bit i tells whether lendable local i passes the test
abbrev pub mask_where : Needs → (does : ℕ × ℕ → Bool) → ℕ
mask_where n does = number_of_bits (map does (take lent_limit n.lendable))

-- the lendable locals that the compartment's functions may write
abbrev pub mask_of : Needs → Groups → (compartment : ℕ) → ℕ
mask_of n g c = mask_where n (λ x. writes n g c (Local x.0 x.1))

-- on a closed board those that they may write or read
abbrev pub read_mask_of : Needs → Groups → (compartment : ℕ) → ℕ
read_mask_of n g c =
    if n.closed then mask_where n (λ x. writes n g c (Local x.0 x.1) || reads n g c (Local x.0 x.1)) else 0

-- ---- all of it

-- for each compartment its regions, covers and masks
unfoldable pub initial_graph : Program → Needs → Groups → Graph
initial_graph p n g =
    record {
      groups = g;
      regions = data_regions p n g;
      unwritten = unwritten p n g;
      covers = map (covers_of p n g) (numbers_below g.count);
      masks = map (mask_of n g) (numbers_below g.count);
      reads = map (read_mask_of n g) (numbers_below g.count);
    }
