-- Laws of reads and writes.
use Rattle.std.proofs.Common.{◌≡◌, ◌≢◌, ℕ, zero, suc, ◌+◌, ◌*◌, ◌/◌, ◌%◌, ◌^◌, ◌<◌, ◌≤◌, List, [], ◌∷◌, length, get_or, refl, ap, ◌∙◌, arith, get_or-set_other, get_or-set_same, add-zero, add_assoc, add_comm, zero-add, ◌++◌}
use Rattle.std.proofs.Math.Nat.{mul-suc, pow-suc, pow-succ', mod-eq_of_lt, div-div-eq-div-mul, one-le-pow, div-one}
use Rattle.std.proofs.Math.Arith.{mod-mul}
use Rattle.std.proofs.lemmas.Grind.{common_steps}
use Rattle.std.proofs.Math.ListN.{set, get_or-append}
use Rattle.std.specs.Prelude.{slice_index, slice_set}
use Rattle.std.proofs.lemmas.List.{length-set, set-set, get_or-append-add, set_comm}
use Rattle.base_words.specs.Bytes.{read, write, cut, write_all, AreBytes}

-- ---- cut

pub cut_one : (v : ℕ) → cut 1 v ≡ v % 2 ^ 8
unfolding cut
cut_one v = omega arith

pub cut_two : (v : ℕ) → cut 2 v ≡ v % 2 ^ 16
unfolding cut
cut_two v = omega arith

pub cut_four : (v : ℕ) → cut 4 v ≡ v % 2 ^ 32
unfolding cut
cut_four v = omega arith

-- ---- reads over writes

pub length-write : (w a v : ℕ) (mem : List ℕ) → length (write w a v mem) ≡ length mem
unfolding write
length-write zero a v mem = refl
length-write (suc w) a v mem = length-write w (a + 1) (v / 256) (slice_set mem a (v % 256)) ∙ length-set mem a (v % 256)

pub byte_apart : (w a v : ℕ) (mem : List ℕ) (j : ℕ) → ((k : ℕ) → k < w → j ≢ a + k) → slice_index (write w a v mem) j ≡ slice_index mem j
unfolding write
byte_apart zero a v mem j h = refl
byte_apart (suc w) a v mem j h = byte_apart w (a + 1) (v / 256) (slice_set mem a (v % 256)) j (λ k lt e. h (k + 1) (omega arith) (omega arith)) ∙ get_or-set_other mem a j (v % 256) 0 (λ e. h 0 (omega arith) (omega arith))

pub byte_below : (w a v : ℕ) (mem : List ℕ) (j : ℕ) → j < a → slice_index (write w a v mem) j ≡ slice_index mem j
byte_below w a v mem j h = byte_apart w a v mem j (λ k lt e. omega arith)

-- a read sees only the bytes that it reads
pub read_alike : (w a : ℕ) (m n : List ℕ) → ((i : ℕ) → i < w → slice_index m (a + i) ≡ slice_index n (a + i)) → read w a m ≡ read w a n
unfolding read
read_alike zero a m n h = refl
read_alike (suc w) a m n h =
    let e : get_or m a 0 ≡ get_or n a 0 = rw add-zero at (h 0 (omega arith)) in
    let r = read_alike w (a + 1) m n (λ i lt. rw (add_assoc a 1 i) (rw (add_comm 1 i) (h (i + 1) (omega arith)))) in
    cc

pub read_apart : (w b u a v : ℕ) (mem : List ℕ) → ((i : ℕ) → i < w → (k : ℕ) → k < u → b + i ≢ a + k) → read w b (write u a v mem) ≡ read w b mem
read_apart w b u a v mem h = read_alike w b (write u a v mem) mem (λ i lt. byte_apart u a v mem (b + i) (h i lt))

pub read_below : (w b u a v : ℕ) (mem : List ℕ) → b + w ≤ a → read w b (write u a v mem) ≡ read w b mem
read_below w b u a v mem h = read_apart w b u a v mem (λ i lt k lk e. omega arith)

pub read_above : (w b u a v : ℕ) (mem : List ℕ) → a + u ≤ b → read w b (write u a v mem) ≡ read w b mem
read_above w b u a v mem h = read_apart w b u a v mem (λ i lt k lk e. omega arith)

pub read_same : (w a v : ℕ) (mem : List ℕ) → a + w ≤ length mem → read w a (write w a v mem) ≡ cut w v
unfolding read write cut
read_same zero a v mem h = refl
read_same (suc w) a v mem h =
    let m = slice_set mem a (v % 256) in
    let b = byte_below w (a + 1) (v / 256) m a (omega arith) ∙ get_or-set_same mem a (v % 256) 0 (omega arith) in
    let e : get_or (write w (a + 1) (v / 256) m) a 0 % 256 ≡ v % 256 = omega (arith, b) in
    let l : length m ≡ length mem = length-set mem a (v % 256) in
    let r = read_same w (a + 1) (v / 256) m (omega arith) in
    cc

pub read_fits : (w a : ℕ) (mem : List ℕ) → read w a mem < 256 ^ w
unfolding read
read_fits zero a mem = omega arith
read_fits (suc w) a mem = omega (arith, read_fits w (a + 1) mem, pow-succ' 256 w)

-- the bytes of a longer read
pub read_add : (u w a : ℕ) (mem : List ℕ) → read (u + w) a mem ≡ read u a mem + 256 ^ u * read w (a + u) mem
unfolding read
read_add zero w a mem = omega (arith, ap (λ k. read k a mem) (zero-add w), ap (λ k. read w k mem) (add-zero a))
read_add (suc u) w a mem =
    let e : suc u + w ≡ suc (u + w) = omega arith in
    let r = read_add u w (a + 1) mem in
    let p : a + suc u ≡ a + 1 + u = omega arith in
    rw (e, p, pow-succ') (omega (arith, r))

pub read-append_left : (w a : ℕ) (xs ys : List ℕ) → a + w ≤ length xs → read w a (xs ++ ys) ≡ read w a xs
read-append_left w a xs ys h = read_alike w a (xs ++ ys) xs (λ i lt. get_or-append xs ys 0 (a + i) (omega arith))

pub read-append_right : (w a b : ℕ) (xs ys : List ℕ) → a ≡ length xs + b → read w a (xs ++ ys) ≡ read w b ys
unfolding read
read-append_right zero a b xs ys h = refl
read-append_right (suc w) a b xs ys h =
    let e : get_or (xs ++ ys) a 0 ≡ get_or ys b 0 = rw h (get_or-append-add xs ys b 0) in
    let r = read-append_right w (a + 1) (b + 1) xs ys (omega arith) in
    cc

pub read_one : (a : ℕ) (mem : List ℕ) → read 1 a mem ≡ slice_index mem a % 256
unfolding read
read_one a mem = omega arith

-- byte k of a number that was written
pub byte_inside : (w a v : ℕ) (mem : List ℕ) (k : ℕ) → k < w → a + w ≤ length mem → slice_index (write w a v mem) (a + k) ≡ v / 256 ^ k % 256
unfolding write
byte_inside zero a v mem k lt room = absurd (omega arith)
byte_inside (suc w) a v mem zero lt room =
    rw (add-zero, div-one) (byte_below w (a + 1) (v / 256) (set mem a (v % 256)) a (omega arith) ∙ get_or-set_same mem a (v % 256) 0 (omega arith))
byte_inside (suc w) a v mem (suc k) lt room =
    let l : length (set mem a (v % 256)) ≡ length mem = length-set mem a (v % 256) in
    let p : a + suc k ≡ a + 1 + k = omega arith in
    rw (p, pow-succ', ← div-div-eq-div-mul) (byte_inside w (a + 1) (v / 256) (set mem a (v % 256)) k (omega arith) (omega arith))

pub AreBytes-write : (w a v : ℕ) (mem : List ℕ) → AreBytes mem → AreBytes (write w a v mem)
unfolding write
AreBytes-write zero a v mem h = h
AreBytes-write (suc w) a v mem h = AreBytes-write w (a + 1) (v / 256) (set mem a (v % 256)) (λ i. grind (arith, common_steps, h i, get_or-set_other mem a i (v % 256) 0))

-- ---- writes over writes

set-write : (w a v : ℕ) (mem : List ℕ) (j y : ℕ) → ((k : ℕ) → k < w → j ≢ a + k) → set (write w a v mem) j y ≡ write w a v (set mem j y)
unfolding write
set-write zero a v mem j y h = refl
set-write (suc w) a v mem j y h =
    set-write w (a + 1) (v / 256) (set mem a (v % 256)) j y (λ k lt e. h (k + 1) (omega arith) (omega arith))
    ∙ ap (write w (a + 1) (v / 256)) (set_comm mem a j (v % 256) y (λ e. h 0 (omega arith) (omega arith)))

-- two writes that lie apart, in either order
pub write_apart : (u b x w a v : ℕ) (mem : List ℕ) → ((i : ℕ) → i < u → (k : ℕ) → k < w → b + i ≢ a + k) → write u b x (write w a v mem) ≡ write w a v (write u b x mem)
unfolding write
write_apart zero b x w a v mem h = refl
write_apart (suc u) b x w a v mem h =
    ap (write u (b + 1) (x / 256)) (set-write w a v mem b (x % 256) (λ k lk e. h 0 (omega arith) k lk (omega arith)))
    ∙ write_apart u (b + 1) (x / 256) w a v (set mem b (x % 256)) (λ i lt k lk e. h (i + 1) (omega arith) k lk (omega arith))

-- the second of two writes to one place counts
pub write_over : (w a v u : ℕ) (mem : List ℕ) → write w a v (write w a u mem) ≡ write w a v mem
unfolding write
write_over zero a v u mem = refl
write_over (suc w) a v u mem =
    ap (write w (a + 1) (v / 256)) (set-write w (a + 1) (u / 256) (set mem a (u % 256)) a (v % 256) (λ k lt e. omega arith))
    ∙ write_over w (a + 1) (v / 256) (u / 256) (set (set mem a (u % 256)) a (v % 256))
    ∙ ap (write w (a + 1) (v / 256)) (set-set mem a (u % 256) (v % 256))

pub write-cut : (w a v : ℕ) (mem : List ℕ) → write w a (cut w v) mem ≡ write w a v mem
unfolding write cut
write-cut zero a v mem = refl
write-cut (suc w) a v mem =
    let low : (v % 256 + 256 * cut w (v / 256)) % 256 ≡ v % 256 = omega arith in
    let high : (v % 256 + 256 * cut w (v / 256)) / 256 ≡ cut w (v / 256) = omega arith in
    rw (low, high) (write-cut w (a + 1) (v / 256) (set mem a (v % 256)))

pub cut_is : (w v : ℕ) → cut w v ≡ v % 256 ^ w
unfolding cut
cut_is zero v = omega arith
cut_is (suc w) v = rw (cut_is w (v / 256), pow-suc) (omega (arith, mod-mul v {m = 256 ^ w} {c = 256} (omega (arith, one-le-pow w 256 (omega arith))) (omega arith)))

pub cut_small : (w v : ℕ) → v < 256 ^ w → cut w v ≡ v
cut_small w v h = cut_is w v ∙ mod-eq_of_lt h

-- ---- numbers one after another

pub length-write_all : (w a : ℕ) (vs mem : List ℕ) → length (write_all w a vs mem) ≡ length mem
unfolding write_all
length-write_all w a [] mem = refl
length-write_all w a (v ∷ vs) mem = length-write_all w (a + w) vs (write w a v mem) ∙ length-write w a v mem

pub byte_apart_all : (w a : ℕ) (vs mem : List ℕ) (j : ℕ) → ((k : ℕ) → k < w * length vs → j ≢ a + k) → slice_index (write_all w a vs mem) j ≡ slice_index mem j
unfolding write_all
byte_apart_all w a [] mem j h = refl
byte_apart_all w a (v ∷ vs) mem j h =
    byte_apart_all w (a + w) vs (write w a v mem) j (λ k lt e. h (w + k) (rw mul-suc (omega arith)) (omega arith))
    ∙ byte_apart w a v mem j (λ k lt e. h k (rw mul-suc (omega arith)) (omega arith))

pub read_apart_all : (u b w a : ℕ) (vs mem : List ℕ) → ((i : ℕ) → i < u → (k : ℕ) → k < w * length vs → b + i ≢ a + k) → read u b (write_all w a vs mem) ≡ read u b mem
read_apart_all u b w a vs mem h = read_alike u b (write_all w a vs mem) mem (λ i lt. byte_apart_all w a vs mem (b + i) (h i lt))

pub read_below_all : (u b w a : ℕ) (vs mem : List ℕ) → b + u ≤ a → read u b (write_all w a vs mem) ≡ read u b mem
read_below_all u b w a vs mem h = read_apart_all u b w a vs mem (λ i lt k lk e. omega arith)

pub read_above_all : (u b w a : ℕ) (vs mem : List ℕ) → a + w * length vs ≤ b → read u b (write_all w a vs mem) ≡ read u b mem
read_above_all u b w a vs mem h = read_apart_all u b w a vs mem (λ i lt k lk e. omega arith)

-- number k of those written one after another
pub read_all : (w a : ℕ) (vs mem : List ℕ) (k : ℕ) → k < length vs → a + w * length vs ≤ length mem → read w (a + w * k) (write_all w a vs mem) ≡ cut w (slice_index vs k)
unfolding write_all
read_all w a [] mem k lt room = absurd (omega arith)
read_all w a (v ∷ vs) mem zero lt room =
    let fits : w * suc (length vs) ≡ w * length vs + w = mul-suc w (length vs) in
    let here : a + w * 0 ≡ a = omega arith in
    rw here (read_below_all w a w (a + w) vs (write w a v mem) (omega arith) ∙ read_same w a v mem (omega arith))
read_all w a (v ∷ vs) mem (suc k) lt room =
    let fits : w * suc (length vs) ≡ w * length vs + w = mul-suc w (length vs) in
    let here : a + w * suc k ≡ a + w + w * k = omega (arith, mul-suc w k) in
    rw here (read_all w (a + w) vs (write w a v mem) k (omega arith) (rw length-write (omega arith)))
