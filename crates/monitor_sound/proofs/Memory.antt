-- Words of RAM behind writes.
use Rattle.std.proofs.Common.{◌≡◌, ◌≢◌, ℕ, zero, suc, ◌+◌, ◌*◌, ◌<◌, ◌≤◌, inl, inr, List, [], ◌∷◌, length, set, refl, ap, ◌∙◌, arith}
use Rattle.base_words.specs.Bytes.{read, write, cut, write_all}
use Rattle.base_words.proofs.Bytes.{read_same, read_below, read_above, read_below_all, read_above_all, write_apart}
use Rattle.base_ranges.specs.Ranges.{AreApart}
use Rattle.machine_model.specs.Stack.{words_at}

pub read_off : (u b w a v : ℕ) (mem : List ℕ) → AreApart b u a w → read u b (write w a v mem) ≡ read u b mem
read_off u b w a v mem (inl h) = read_below u b w a v mem h
read_off u b w a v mem (inr h) = read_above u b w a v mem h

pub read_off_all : (u b o : ℕ) (vs mem : List ℕ) → AreApart b u o (4 * length vs) → read u b (write_all 4 o vs mem) ≡ read u b mem
read_off_all u b o vs mem (inl h) = read_below_all u b 4 o vs mem h
read_off_all u b o vs mem (inr h) = read_above_all u b 4 o vs mem h

-- words off a write stay
pub words_off : (n o w c v : ℕ) (mem : List ℕ) → AreApart c w o (4 * n) → words_at n o (write w c v mem) ≡ words_at n o mem
unfolding words_at
words_off zero o w c v mem h = refl
words_off (suc n) o w c v mem (inl h) =
    let e = read_above 4 o w c v mem h in
    let f = words_off n (o + 4) w c v mem (inl (omega (arith, h))) in
    rw (e, f)
words_off (suc n) o w c v mem (inr h) =
    let e = read_below 4 o w c v mem (omega (arith, h)) in
    let f = words_off n (o + 4) w c v mem (inr (omega (arith, h))) in
    rw (e, f)

-- one of them is written
pub words_set : (n o k x : ℕ) (mem : List ℕ) → k < n → o + 4 * n ≤ length mem → words_at n o (write 4 (o + 4 * k) x mem) ≡ set (words_at n o mem) k (cut 4 x)
unfolding words_at
words_set zero o k x mem lt long = absurd (omega (arith, lt))
words_set (suc n) o zero x mem lt long =
    let z : o + 4 * 0 ≡ o = omega arith in
    let e = read_same 4 o x mem (omega (arith, long)) in
    let f = words_off n (o + 4) 4 o x mem (inl (omega arith)) in
    rw (z, e, f)
words_set (suc n) o (suc k) x mem lt long =
    let z : o + 4 * suc k ≡ o + 4 + 4 * k = omega arith in
    let e = read_below 4 o 4 (o + 4 + 4 * k) x mem (omega arith) in
    let f = words_set n (o + 4) k x mem (omega (arith, lt)) (omega (arith, long)) in
    rw (z, e, f)

apart : (w c o u : ℕ) → AreApart c w o u → (j : ℕ) → j < w → (k : ℕ) → k < u → c + j ≢ o + k
apart w c o u (inl h) j lj k lk e = omega (arith, h, lj, lk, e)
apart w c o u (inr h) j lj k lk e = omega (arith, h, lj, lk, e)

narrower : (c w o n : ℕ) → AreApart c w o (4 * suc n) → AreApart c w o 4
narrower c w o n (inl h) = inl h
narrower c w o n (inr h) = inr (omega (arith, h))

behind : (c w o n : ℕ) → AreApart c w o (4 * suc n) → AreApart c w (o + 4) (4 * n)
behind c w o n (inl h) = inl (omega (arith, h))
behind c w o n (inr h) = inr (omega (arith, h))

-- a write goes past words that lie apart
pub write_past : (w c v o : ℕ) (vs mem : List ℕ) → AreApart c w o (4 * length vs) → write w c v (write_all 4 o vs mem) ≡ write_all 4 o vs (write w c v mem)
unfolding write_all
write_past w c v o [] mem h = refl
write_past w c v o (x ∷ vs) mem h =
    write_past w c v (o + 4) vs (write 4 o x mem) (behind c w o (length vs) h)
    ∙ ap (λ (m : List ℕ). write_all 4 (o + 4) vs m) (write_apart w c v 4 o x mem (apart w c o 4 (narrower c w o (length vs) h)))
