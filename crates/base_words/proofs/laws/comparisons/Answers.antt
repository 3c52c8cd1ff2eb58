use Rattle.base_words.proofs.Flags.{equal_holds, unequal_holds, below_holds, at_most_holds, signed_less_holds, signed_at_most_holds, opposite_holds}
use Rattle.base_words.proofs.laws.comparisons.Goals as goal

pub returns-clause-equal : goal.returns-clause-equal
returns-clause-equal c = equal_holds

pub returns-clause-unequal : goal.returns-clause-unequal
returns-clause-unequal c = unequal_holds

pub returns-clause-below : goal.returns-clause-below
returns-clause-below c = below_holds

pub returns-clause-at_most : goal.returns-clause-at_most
returns-clause-at_most c = at_most_holds

pub returns-clause-signed_below : goal.returns-clause-signed_below
returns-clause-signed_below c = signed_less_holds

pub returns-clause-signed_at_most : goal.returns-clause-signed_at_most
returns-clause-signed_at_most c = signed_at_most_holds

pub returns-clause-opposite : goal.returns-clause-opposite
returns-clause-opposite c = opposite_holds
