-- What follows where a token passes nothing.
use Rattle.std.proofs.Common.{◌≡◌, ◌<◌, ◌≤◌, ◌^◌, ℕ, List, Bool, true, false, refl, Option, Some, None, length, arith, nat_lt, nat_le, if◌then◌else◌}
use Rattle.std.proofs.lemmas.Grind.{common_steps}
use Rattle.base_names.specs.Names.{is_name, is_word, is_reserved}
use Rattle.ir_model.specs.declared.token.Excess.{Excess}
use Rattle.ir_model.specs.declared.token.Excess.TheVariants.{TooWide, Passes}
use Rattle.ir_model.specs.declared.token.TextLimit.{TextLimit}
use Rattle.ir_model.specs.Tokens.{Token, Number}
use Rattle.ir_model.specs.Lines.{counted, word_excess, number_excess, length_excess, depth_excess, or_else}

pub first_none : (x y : Option Excess) → or_else x y ≡ None → x ≡ None
first_none None y h = refl
first_none (Some e) y h = cc

pub second_none : (x y : Option Excess) → or_else x y ≡ None → y ≡ None
second_none None y h = h
second_none (Some e) y h = cc

by_bool : (b : Bool) (e : Excess) (y : Option Excess) → (if b then y else Some e) ≡ None → (b ≡ true) × (y ≡ None)
by_bool true e y h = (refl, h)
by_bool false e y h = cc

pub counted_none : (k most : ℕ) (l : TextLimit) (y : Option Excess) → counted k most l y ≡ None → k < most
counted_none k most l y h = let t = (by_bool (nat_lt k most) (Passes l) y h).0 in grind (arith, common_steps)

pub word_short : (w : List ℕ) → word_excess w ≡ None → length w ≤ 64
word_short w h = let t = (by_bool (nat_le (length w) 64) _ None h).0 in grind (arith, common_steps)

pub name_of_word : (w : List ℕ) (x : Option Excess) → is_word w ≡ true → is_reserved w ≡ false → or_else x (word_excess w) ≡ None → is_name w ≡ true
unfolding is_name
name_of_word w x i r h = let t = (by_bool (nat_le (length w) 64) _ None (second_none x _ h)).0 in rw (i, r, t) refl

pub number_fits : (n : ℕ) (y : Option Excess) → number_excess n y ≡ None → n < 2 ^ 32
number_fits n y h = let t = (by_bool (nat_lt n (2 ^ 32)) TooWide y h).0 in grind (arith, common_steps)

pub length_fits : (n : ℕ) → length_excess n ≡ None → n < 2 ^ 32
length_fits n h = number_fits n _ h

pub name_of_short : (w : List ℕ) → is_word w ≡ true → is_reserved w ≡ false → word_excess w ≡ None → is_name w ≡ true
name_of_short w i r h = name_of_word w None i r h

pub depth_behind : (d : ℕ) (y : Option Excess) → depth_excess d y ≡ None → y ≡ None
depth_behind d y h = (by_bool (nat_lt d 8) _ y h).1

-- a number of 32 bits
abbrev pub IsNarrow : Token → Type 0
IsNarrow (Number n) = n < 2 ^ 32
IsNarrow _ = Unit {0}
