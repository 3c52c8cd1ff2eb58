-- Which functions a compartment has, and which objects they reach.
use Rattle.std.specs.Prelude.{ℕ, Bool, List, length, get_or, filter, nat_eq}
use Rattle.std.specs.List.{list_any}
use Rattle.ir_model.specs.declared.object.ObjId.{ObjId}
use Rattle.plan_model.specs.declared.needs.Needs.{Needs}
use Rattle.plan_model.specs.declared.groups.Groups.{Groups}
use Rattle.plan_model.specs.Lists.{numbers_below, has}
use Rattle.plan_model.specs.Needs.{need_of, has_object}

-- the compartment in which a function stands
abbrev pub compartment_of : Groups → (func : ℕ) → ℕ
compartment_of g f = get_or g.of f 0

-- the functions that stand in a compartment
abbrev pub functions_of : Groups → (compartment : ℕ) → List ℕ
functions_of g c = filter (λ f. nat_eq (compartment_of g f) c) (numbers_below (length g.of))

-- one of them may write the object
abbrev pub writes : Needs → Groups → (compartment : ℕ) → ObjId → Bool
writes n g c o = list_any (λ f. has_object (need_of n f).written o) (functions_of g c)

-- one of them may read it
abbrev pub reads : Needs → Groups → (compartment : ℕ) → ObjId → Bool
reads n g c o = list_any (λ f. has_object (need_of n f).read o) (functions_of g c)

-- one of them may use the peripheral
abbrev pub uses : Needs → Groups → (compartment periph : ℕ) → Bool
uses n g c q = list_any (λ f. has (need_of n f).periphs q) (functions_of g c)
