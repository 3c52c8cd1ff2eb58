-- Beyond the program's claim: only laws, proofs and functions inside the tool cite this file.
-- The users of globals as the definition's.
use Rattle.std.specs.Prelude.{ℕ, not, List, [], length, map, filter, get_or}
use Rattle.plan_model.specs.declared.graph.DataRegion.{DataRegion}
use Rattle.plan_model.specs.InitialGraph.{Users, has_users, same_users}
use Rattle.plan_model.specs.Lists.{numbers_below}
use Rattle.plan_graph.specs.declared.users.UserLists.{UserLists}

abbrev pub users_seen : UserLists → Users
users_seen u = record { writers = u.writers.items; readers = u.readers.items }

-- of a global that is not there
abbrev pub no_users : Users
no_users = record { writers = []; readers = [] }

-- those of a global, by those of all in order
abbrev pub users_at : List UserLists → (global : ℕ) → Users
users_at all x = get_or (map users_seen all) x no_users

-- the globals that have these users
abbrev pub members : List UserLists → Users → List ℕ
members all u = filter (λ x. same_users (users_at all x) u) (numbers_below (length all))

-- and those that have none
abbrev pub without_users : List UserLists → List ℕ
without_users all = filter (λ x. not (has_users (users_at all x))) (numbers_below (length all))

-- the region of the globals that have these users
abbrev pub region_seen : List UserLists → Users → DataRegion
region_seen all u = record { globals = members all u; writers = u.writers; readers = u.readers }
