-- The firmware that stores a pointer meets what the laws of runs ask for.
use Rattle.std.proofs.Common.{◌≡◌, ℕ, zero, suc, true, get_or, refl, rules}
use Rattle.base_names.specs.Names.{is_name, is_reserved, reserved, declaration_words, instruction_words, type_words, operation_words, comparison_words}
use Rattle.ir_model.specs.Layout.{known}
use Rattle.ir_model.specs.Lines.{lines_of}
use Rattle.ir_model.specs.Resolved.{Number, global_at, here}
use Rattle.ir_model.specs.Resolve.{resolve}
use Rattle.ir_model.specs.State.{Object, GlobalObject}
use Rattle.ir_model.specs.Canonical.{IsWithinLimits}
use Rattle.ir_model.specs.Rules.{inst_fits, term_fits}
use Rattle.ir_model.specs.Typing.{checks, fault_of, IsTyped}
use Rattle.ir_laws.specs.Sets.{Register, Content, HereFlows, IsOf}
use Rattle.example_machine.specs.StoredPointer.{stored, stored_sets, MeetsLaws}

typed : IsTyped stored
unfolding fault_of checks known inst_fits term_fits
typed = refl

within : IsWithinLimits stored
unfolding lines_of is_name is_reserved reserved declaration_words instruction_words type_words operation_words comparison_words
within = record { words = search rules; tokens = search rules; structs = search rules; functions = search rules }

code : (f b k : ℕ) → HereFlows (resolve stored) stored_sets f (here (resolve stored) f b k)
unfolding resolve known
code zero zero zero = refl
code zero zero (suc zero) = refl
code zero zero (suc (suc zero)) = λ c o e x h. store o x e h
  where
    store : (o x : Object) → stored_sets (Register zero zero) o ≡ true → stored_sets (Register zero (suc zero)) x ≡ true → stored_sets (Content o) x ≡ true
    store (GlobalObject zero) (GlobalObject (suc zero)) e h = refl
    store _ _ e h = cc
code zero zero (suc (suc (suc zero))) = λ c o e x h. load o x e h
  where
    load : (o x : Object) → stored_sets (Register zero zero) o ≡ true → stored_sets (Content o) x ≡ true → stored_sets (Register zero (suc (suc zero))) x ≡ true
    load (GlobalObject zero) (GlobalObject (suc zero)) e h = refl
    load _ _ e h = cc
code zero zero (suc (suc (suc (suc k)))) = tt
code zero (suc b) k = tt
code (suc f) b k = tt

cells : (g k : ℕ) → IsOf (stored_sets (Content (GlobalObject g))) (get_or (global_at (resolve stored) g).init k (Number 0))
unfolding resolve known
cells zero zero = tt
cells zero (suc k) = tt
cells (suc zero) zero = tt
cells (suc zero) (suc k) = tt
cells (suc (suc g)) k = tt

pub meets_laws : MeetsLaws
meets_laws = record { typed = typed; within = within; closed = record { code = code; cells = cells } }
