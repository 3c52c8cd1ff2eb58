-- Lists of words of 32 bits, and what holds of each item of a list.
use Rattle.std.proofs.Common.{ℕ, zero, suc, ◌+◌, ◌^◌, ◌<◌, List, [], ◌∷◌, ◌++◌, flat_map}
use Rattle.base_words.proofs.Bytes.{read_fits}
use Rattle.base_laws.specs.Lists.{Each}
use Rattle.machine_model.specs.Stack.{words_at}
use Rattle.base_laws.proofs.Lists.{each_both}

-- ---- each item

pub each_flat : {X Y : Type 0} (P : Y → Type 0) (f : X → List Y) (Q : X → Type 0) → ((x : X) → Q x → Each P (f x)) → (xs : List X) → Each Q xs → Each P (flat_map f xs)
each_flat P f Q h [] e = tt
each_flat P f Q h (x ∷ xs) e = each_both P (f x) (flat_map f xs) (h x e.0) (each_flat P f Q h xs e.1)

-- ---- words

abbrev pub IsWord : ℕ → Type 0
IsWord n = n < 2 ^ 32

abbrev pub AreWords : List ℕ → Type 0
AreWords ws = Each IsWord ws

pub both_words : (xs ys : List ℕ) → AreWords xs → AreWords ys → AreWords (xs ++ ys)
both_words xs ys a b = each_both IsWord xs ys a b

-- what is read is words
pub read_words : (n o : ℕ) (mem : List ℕ) → AreWords (words_at n o mem)
unfolding words_at
read_words zero o mem = tt
read_words (suc n) o mem = (read_fits 4 o mem, read_words n (o + 4) mem)
