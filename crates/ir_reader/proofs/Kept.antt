-- What follows where the token of a type or of a cell passes nothing.
use Rattle.std.proofs.Common.{◌≡◌, ◌<◌, ◌^◌, ℕ, List, Bool, true, false, Option, Some, None, nat_lt, if◌then◌else◌}
use Rattle.base_names.specs.Names.{is_name, is_word, is_reserved}
use Rattle.ir_model.specs.declared.token.Excess.{Excess}
use Rattle.ir_model.specs.declared.token.Excess.TheVariants.{TooWide}
use Rattle.ir_model.specs.declared.token.TextLimit.{TextLimit}
use Rattle.ir_model.specs.Lines.{counted, word_excess, number_excess, depth_excess, or_else}
use Rattle.ir_model.proofs.NoExcess.{first_none, second_none, counted_none, name_of_short, depth_behind}

pub type_depth : (x : Option Excess) (d : ℕ) (y : Option Excess) → or_else x (depth_excess d y) ≡ None → d < 8
type_depth x d y h = counted_none d 8 _ y (second_none x _ h)

-- what a type's word that passes no limit says
pub ruleset depth_rules = (first_none, type_depth)

pub name_of_type : (w : List ℕ) (x : Option Excess) (d : ℕ) → is_word w ≡ true → is_reserved w ≡ false → or_else x (depth_excess d (word_excess w)) ≡ None → is_name w ≡ true
name_of_type w x d i r h = name_of_short w i r (depth_behind d (word_excess w) (second_none x _ h))

behind : (b : Bool) (e : Excess) (y : Option Excess) → (if b then y else Some e) ≡ None → y ≡ None
behind true e y h = h
behind false e y h = cc

pub cell_counted : (n k : ℕ) (l : TextLimit) → number_excess n (counted k 65536 l None) ≡ None → k < 65536
cell_counted n k l h = counted_none k 65536 l None (behind (nat_lt n (2 ^ 32)) TooWide _ h)
