-- Lists and bytes one behind the other.
use Rattle.std.proofs.Common.{◌≡◌, ℕ, ◌+◌, ◌%◌, ◌<◌, List, [], ◌∷◌, ◌++◌, length, drop, fold, append_assoc, get_or, set, refl, ap, sym, ◌∙◌, arith}
use Rattle.std.proofs.lemmas.List.{drop_more}
use Rattle.std.proofs.lemmas.List.Sums.{fold-append}
use Rattle.base_words.specs.Bytes.{write, write_all}
use Rattle.plan_model.specs.Lists.{numbers_below}
use Rattle.plan_model.proofs.Numbers.{numbers_more}

-- a fold over the numbers below k, and k
pub folded_more : {B : Type 0} (F : B → ℕ → B) (k : ℕ) (b old new : B) → old ≡ fold F b (numbers_below k) → new ≡ F old k → new ≡ fold F b (numbers_below (k + 1))
folded_more F k b old new e n = n ∙ ap (λ x. F x k) e ∙ sym (ap (λ ns. fold F b ns) (numbers_more k) ∙ fold-append F b (numbers_below k) (k ∷ []))

-- one list behind others, and in front of the rest
pub put_behind : {X : Type 0} (old new xs rest : List X) → new ≡ old ++ xs → new ++ rest ≡ old ++ (xs ++ rest)
put_behind old new xs rest e = ap (λ ys. ys ++ rest) e ∙ append_assoc old xs rest

pub bytes_next : (a k : ℕ) (bs mem : List ℕ) → k < length bs → get_or bs k 0 < 256 →
    write_all 1 (a + k) (drop k bs) mem ≡ write_all 1 (a + (k + 1)) (drop (k + 1) bs) (set mem (a + k) (get_or bs k 0))
unfolding write_all write
bytes_next a k bs mem l small =
    let v = get_or bs k 0 in
    let rest = drop (k + 1) bs in
    let next : a + k + 1 ≡ a + (k + 1) = omega arith in
    let whole : v % 256 ≡ v = omega (arith, small) in
    ap (λ xs. write_all 1 (a + k) xs mem) (drop_more bs k 0 l)
    ∙ ap (λ n. write_all 1 n rest (set mem (a + k) (v % 256))) next
    ∙ ap (λ w. write_all 1 (a + (k + 1)) rest (set mem (a + k) w)) whole

pub no_bytes : (a : ℕ) (mem : List ℕ) → write_all 1 a [] mem ≡ mem
unfolding write_all
no_bytes a mem = refl
