-- The check of lent locals passes.
use Rattle.std.proofs.Common.{◌≡◌, ℕ, ◌<◌, ◌≤◌, Bool, true, false, List, [], ◌∷◌, cond, nat_lt}
use Rattle.std.specs.Prelude.{Contains}
use Rattle.base_laws.specs.Lists.{Each}
use Rattle.ir_model.specs.Resolve.{resolve}
use Rattle.ir_model.specs.Resolved.{Program, local_at}
use Rattle.ir_laws.specs.Limits.{SizesAreLimited}
use Rattle.plan_model.specs.declared.needs.Needs.{Needs}
use Rattle.plan_model.specs.declared.groups.Groups.{Groups}
use Rattle.plan_model.specs.Lending.{lent}
use Rattle.monitor_model.specs.Checks.{is_lend}
use Rattle.monitor_model.specs.Layout.{lends_at}
use Rattle.image_model.specs.LinkedTables.{lend_sizes, tables_of}
use Rattle.image_promises.specs.Planned.{planned_tables}
use Rattle.image_promises.proofs.Passing.{and_yes, le_yes, each_yes}
use Rattle.need_lists.proofs.Parts.{head, tail, in_none}
use Rattle.image_promises.specs.Sites.{LendsPass}
use Rattle.image_promises.proofs.ObjectSizes.{local_is_large}

-- a lent local is one that is lendable
lent_listed : (n : Needs) (g : Groups) (x : ℕ × ℕ) → Contains (lent n g) x → Contains n.lendable x
lent_listed n g x c = by (nat_lt 1 g.count) c
  where
    by : (b : Bool) → Contains (cond b n.lendable []) x → Contains n.lendable x
    by true c = c
    by false c = absurd (in_none x c)

sizes_right : (p : Program) (xs : List (ℕ × ℕ)) → ((x : ℕ × ℕ) → Contains xs x → 0 < (local_at p x.0 x.1).size) → ((f l : ℕ) → (local_at p f l).size ≤ 65536)
    → Each (λ z. is_lend z ≡ true) (lend_sizes p xs)
sizes_right p [] some most = tt
sizes_right p (x ∷ xs) some most =
    let least = some x (head x xs) in
    (and_yes (le_yes least) (le_yes (most x.0 x.1)), sizes_right p xs (λ y c. some y (tail x y xs c)) most)

pub lends_pass : SizesAreLimited → LendsPass
unfolding tables_of
lends_pass limits w n f b is =
    each_yes is_lend (lends_at (planned_tables w n f b)) 4 (lend_sizes (resolve w) (lent n f.groups))
    (sizes_right (resolve w) (lent n f.groups)
    (λ x c. local_is_large w is.typed is.within x.0 x.1 (is.needs.lendable.each x (lent_listed n f.groups x c)).there)
    (limits w is.typed).locals)
