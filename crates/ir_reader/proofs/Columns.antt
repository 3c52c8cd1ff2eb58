-- The bytes behind the last line end.
use Rattle.std.proofs.Common.{◌≡◌, ◌≤◌, ◌<◌, ℕ, ◌+◌, ◌-◌, List, [], ◌∷◌, true, false, refl, length, take, get_or}
use Rattle.std.specs.List.{suffix_len}
use Rattle.std.proofs.lemmas.List.Sums.{suffix_len-take_yes, suffix_len-take_no}
use Rattle.ir_model.specs.Texts.{is_inside_line}

pub one_more : (bs : List ℕ) (n : ℕ) → 0 < n → n ≤ length bs → is_inside_line (get_or bs (n - 1) 0) ≡ true → suffix_len is_inside_line (take n bs) ≡ 1 + suffix_len is_inside_line (take (n - 1) bs)
one_more bs n s h e = suffix_len-take_yes is_inside_line bs n 0 s h e

pub no_more : (bs : List ℕ) (n : ℕ) → 0 < n → n ≤ length bs → is_inside_line (get_or bs (n - 1) 0) ≡ false → suffix_len is_inside_line (take n bs) ≡ 0
no_more bs n s h e = suffix_len-take_no is_inside_line bs n 0 s h e

pub none_left : (bs : List ℕ) → suffix_len is_inside_line (take 0 bs) ≡ 0
none_left [] = refl
none_left (b ∷ bs) = refl
