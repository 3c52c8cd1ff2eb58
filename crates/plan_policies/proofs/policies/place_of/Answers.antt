use Rattle.std.proofs.Common.{◌≡◌, ℕ, ◌<◌, ◌≤◌, true, false, List, [], length, get_or, Bor, sym, ap, ◌∙◌, arith}
use Rattle.std.proofs.lemmas.List.{get_or_default}
use Rattle.std.proofs.lemmas.List.Sums.{position_or_len_is}
use Rattle.plan_model.specs.Lists.{same_numbers}
use borrow.Author.Count.{below_more}
use Rattle.plan_policies.proofs.policies.place_of.Goals as goal

abbrev nowhere : Bor (List ℕ)
nowhere = record { ref_ptr = (0, 0); now = [] }

pub returns-then-eq : goal.returns-then-eq
returns-then-eq c =
    let found : same_numbers (get_or c.args.lists.now c.loop-i.i nowhere).now c.args.numbers.now ≡ true = sym c.eq.ensures ∙ c.if-eq.true in
    let inside : c.loop-i.i ≤ length c.args.lists.now = omega arith in
    sym (position_or_len_is (λ (l : Bor (List ℕ)). same_numbers l.now c.args.numbers.now) c.args.lists.now c.loop-i.i nowhere inside (λ k l. c.loop-i.invariant k nowhere l) (λ l. found))

pub loop-i-preserved : goal.loop-i-preserved
loop-i-preserved c =
    let missed : same_numbers (get_or c.args.lists.now c.loop-i.i nowhere).now c.args.numbers.now ≡ false = sym c.eq.ensures ∙ c.if-eq.false in
    let here : (d : Bor (List ℕ)) → same_numbers (get_or c.args.lists.now c.loop-i.i d).now c.args.numbers.now ≡ false = λ d. ap (λ (b : Bor (List ℕ)). same_numbers b.now c.args.numbers.now) (get_or_default c.args.lists.now c.loop-i.i d nowhere c.loop-i-test.true) ∙ missed in
    let below : (k : ℕ) → k < c.loop-i.i → (d : Bor (List ℕ)) → same_numbers (get_or c.args.lists.now k d).now c.args.numbers.now ≡ false = λ k l d. c.loop-i.invariant k d l in
    λ k d l. below_more (λ (k : ℕ). (d : Bor (List ℕ)) → same_numbers (get_or c.args.lists.now k d).now c.args.numbers.now ≡ false) c.loop-i.i below here k l d

pub returns : goal.returns
returns c =
    let whole : c.loop-i.i ≡ length c.args.lists.now = omega arith in
    sym (position_or_len_is (λ (l : Bor (List ℕ)). same_numbers l.now c.args.numbers.now) c.args.lists.now (length c.args.lists.now) nowhere (omega arith) (λ k l. c.loop-i.invariant k nowhere (omega arith)) (λ l. absurd (omega arith)))
