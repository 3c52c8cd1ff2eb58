-- What is found for each function, each call and each local makes the needs of the program.
use Rattle.std.proofs.Common.{◌≡◌, ℕ, ◌<◌, Bool, List, length, get_or, refl, sym, ap, subst, ◌∙◌}
use Rattle.std.specs.List.{AllZip}
use Rattle.ir_model.specs.Resolved.{Program}
use Rattle.ir_laws.specs.Sets.{ObjectSets}
use Rattle.plan_model.specs.declared.needs.FuncNeed.{FuncNeed}
use Rattle.plan_model.specs.declared.needs.SiteNeed.{SiteNeed}
use Rattle.plan_model.specs.Lists.{ListsExactly}
use Rattle.plan_model.specs.Calls.{call_places, IsSiteOf}
use Rattle.plan_model.specs.Lendable.{IsLendable, compare_locals}
use Rattle.plan_model.specs.Needs.{no_need, IsNeedOf, AreNeeds}
use Rattle.needs.specs.Lent.{IsLendableByNeeds}
use Rattle.need_lists.proofs.Exact.{exactly_by}
use Rattle.needs.proofs.Lendables.{lendable_is}

pub gathered : (p : Program) (S : ObjectSets) (closed : Bool) (fs gs hs : List FuncNeed) (ss ts : List SiteNeed) (ls ms : List (ℕ × ℕ)) → length fs ≡ length p.funcs
    → ((f : ℕ) → f < length p.funcs → IsNeedOf p S f (get_or fs f no_need)) → AllZip (IsSiteOf p S) (call_places p) ss → gs ≡ fs → ListsExactly compare_locals (IsLendableByNeeds p closed gs) ls
    → hs ≡ fs → ts ≡ ss → ms ≡ ls → AreNeeds p S closed (record { funcs = hs; sites = ts; lendable = ms; closed = closed })
gathered p S closed fs gs hs ss ts ls ms count each sites same lendable f s l =
    record {
      count = ap length f ∙ count;
      funcs = λ g b. subst (λ ns. IsNeedOf p S g (get_or ns g no_need)) (sym f) (each g b);
      sites = subst (λ xs. AllZip (IsSiteOf p S) (call_places p) xs) (sym s) sites;
      lendable =
          subst (ListsExactly compare_locals (λ x. IsLendable p S closed x.0 x.1)) (sym l)
          (exactly_by compare_locals (IsLendableByNeeds p closed gs) (λ x. IsLendable p S closed x.0 x.1) ls
          (lendable_is p S closed gs (ap length same ∙ count) (λ g b. subst (λ ns. IsNeedOf p S g (get_or ns g no_need)) (sym same) (each g b))) lendable);
      kind = refl;
    }
