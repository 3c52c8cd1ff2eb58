-- Reads and writes of two RAMs that hold the same at some bytes.
use Rattle.std.proofs.Common.{◌≡◌, ◌≢◌, ℕ, zero, suc, ◌+◌, ◌/◌, ◌%◌, ◌<◌, ◌≤◌, ⊎_elim, List, [], ◌∷◌, length, slice_set, refl, sym, ◌∙◌, arith}
use Rattle.std.proofs.lemmas.Bool.Decides.{eqb_tells}
use Rattle.std.proofs.lemmas.List.{length-set}
use Rattle.std.proofs.Math.ListN.{get_or}
use Rattle.base_words.specs.Bytes.{read, write}
use Rattle.base_words.proofs.Bytes.{read_alike}
use Rattle.machine_devices.specs.declared.image.Image.{Image}
use Rattle.machine_bus.specs.Locations.{Location, InRam, InFlash, InWindow, Nowhere, location}
use Rattle.machine_bus.specs.Bus.{word_at, put_at}
use Rattle.machine_bus.proofs.Lengths.{length-put_at}
use Rattle.machine_model.specs.Locality.{Agree}

-- ---- writes

set_keeps : (m n : List ℕ) (o b k : ℕ) → length n ≡ length m → get_or n k 0 ≡ get_or m k 0 → get_or (slice_set n o b) k 0 ≡ get_or (slice_set m o b) k 0
set_keeps [] [] o b k l h = refl
set_keeps [] (y ∷ ys) o b k l h = cc
set_keeps (x ∷ xs) [] o b k l h = cc
set_keeps (x ∷ xs) (y ∷ ys) zero b zero l h = refl
set_keeps (x ∷ xs) (y ∷ ys) zero b (suc k) l h = h
set_keeps (x ∷ xs) (y ∷ ys) (suc o) b zero l h = h
set_keeps (x ∷ xs) (y ∷ ys) (suc o) b (suc k) l h = set_keeps xs ys o b k (omega (arith, l)) h

set_hits : (m n : List ℕ) (o b : ℕ) → length n ≡ length m → get_or (slice_set n o b) o 0 ≡ get_or (slice_set m o b) o 0
set_hits [] [] o b l = refl
set_hits [] (y ∷ ys) o b l = cc
set_hits (x ∷ xs) [] o b l = cc
set_hits (x ∷ xs) (y ∷ ys) zero b l = refl
set_hits (x ∷ xs) (y ∷ ys) (suc o) b l = set_hits xs ys o b (omega (arith, l))

same_lengths : (m n : List ℕ) (o b : ℕ) → length n ≡ length m → length (slice_set n o b) ≡ length (slice_set m o b)
same_lengths m n o b l = length-set n o b ∙ l ∙ sym (length-set m o b)

write_keeps : (w o v : ℕ) (m n : List ℕ) (k : ℕ) → length n ≡ length m → get_or n k 0 ≡ get_or m k 0 → get_or (write w o v n) k 0 ≡ get_or (write w o v m) k 0
unfolding write
write_keeps zero o v m n k l h = h
write_keeps (suc w) o v m n k l h = write_keeps w (o + 1) (v / 256) (slice_set m o (v % 256)) (slice_set n o (v % 256)) k (same_lengths m n o (v % 256) l) (set_keeps m n o (v % 256) k l h)

write_hits : (w o v : ℕ) (m n : List ℕ) (k : ℕ) → length n ≡ length m → o ≤ k → k < o + w → get_or (write w o v n) k 0 ≡ get_or (write w o v m) k 0
unfolding write
write_hits zero o v m n k l f h = absurd (omega (arith, f, h))
write_hits (suc w) o v m n k l f h =
    let b : ℕ = v % 256 in
    let p = same_lengths m n o b l in
    ⊎_elim
    (λ at. write_keeps w (o + 1) (v / 256) (slice_set m o b) (slice_set n o b) k p (let e : k ≡ o = at.1 in rw e (set_hits m n o b l)))
    (λ at. let other : k ≢ o = at.1 in write_hits w (o + 1) (v / 256) (slice_set m o b) (slice_set n o b) k p (omega (arith, f, other)) (omega (arith, h)))
    (eqb_tells k o)

pub put_lengths : (p : Location) (w v : ℕ) (m n : List ℕ) → length n ≡ length m → length (put_at p w v n) ≡ length (put_at p w v m)
put_lengths p w v m n l = length-put_at p w v n ∙ l ∙ sym (length-put_at p w v m)

-- a byte that is the same in both stays the same, and a byte that is written becomes the same
pub put_keeps : (p : Location) (w v : ℕ) (m n : List ℕ) (k : ℕ) → length n ≡ length m → get_or n k 0 ≡ get_or m k 0 → get_or (put_at p w v n) k 0 ≡ get_or (put_at p w v m) k 0
put_keeps (InRam o) w v m n k l h = write_keeps w o v m n k l h
put_keeps (InFlash o) w v m n k l h = h
put_keeps (InWindow p o) w v m n k l h = h
put_keeps Nowhere w v m n k l h = h

pub put_hits : (p : Location) (w v o : ℕ) (m n : List ℕ) (k : ℕ) → length n ≡ length m → p ≡ InRam o → o ≤ k → k < o + w → get_or (put_at p w v n) k 0 ≡ get_or (put_at p w v m) k 0
put_hits p w v o m n k l e f h = rw e (write_hits w o v m n k l f h)

-- ---- reads

module _ (i : Image) (ram other : List ℕ) where
  pub read_agrees : (w a o : ℕ) → Agree i ram other (record { width = w; address = a }) → location i a ≡ InRam o → read w o other ≡ read w o ram
  read_agrees w a o h e = read_alike w o other ram (h o e)

  pub word_agrees : (p : Location) (a : ℕ) → location i a ≡ p → Agree i ram other (record { width = 4; address = a }) → word_at p i other ≡ word_at p i ram
  word_agrees (InRam o) a e h = read_agrees 4 a o h e
  word_agrees (InFlash o) a e h = refl
  word_agrees (InWindow k o) a e h = refl
  word_agrees Nowhere a e h = refl
