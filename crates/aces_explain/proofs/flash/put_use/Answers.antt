use Rattle.std.proofs.Common.{◌≡◌, Bool, false, nat_eq, ◌-◌, ◌++◌, cond, codes, decimal, arith, ap, sym, ◌∙◌}
use Rattle.std.proofs.lemmas.Bool.Decides.{nat_tests}
use Rattle.std.proofs.lemmas.Result.{on_ok_weaker}
use Rattle.aces_explain.proofs.flash.put_use.Goals as goal

pub returns : goal.returns
returns c =
    let no : nat_eq c.args.number 0 ≡ false = grind (arith, nat_tests) in
    on_ok_weaker c.put_numbered.result
    (λ h. h ∙ ap (λ (b : Bool). c.args.text.now ++ cond b (codes "tables") (codes "code of compartment " ++ decimal (c.args.number - 1))) (sym no))
    c.put_numbered.ensures
