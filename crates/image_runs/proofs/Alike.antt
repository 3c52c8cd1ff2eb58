-- Lists of bytes that are alike below an offset: what is read there, and where they differ first.
use Rattle.std.proofs.Common.{◌≡◌, ℕ, zero, suc, ◌+◌, ◌*◌, ◌<◌, ◌≤◌, List, [], ◌∷◌, length, slice_index, drop, refl, ap₂, ◌∙◌, sym, arith, nat_eq}
use Rattle.std.proofs.lemmas.List.{get_or-drop}
use Rattle.base_words.specs.Bytes.{read}
use Rattle.base_words.proofs.Bytes.{read_alike}
use Rattle.monitor_model.specs.FromFlash.{records}
use Rattle.monitor_model.specs.Checks.{must, and_then, difference}

-- the same elements below an offset
abbrev pub Alike : (below : ℕ) → List ℕ → List ℕ → Type 0
Alike n xs ys = (k : ℕ) → k < n → slice_index xs k ≡ slice_index ys k

pub alike_before : (m n : ℕ) (xs ys : List ℕ) → m ≤ n → Alike n xs ys → Alike m xs ys
alike_before m n xs ys le h = λ k lt. h k (omega (arith, lt, le))

-- behind so many elements
pub alike_behind : (m n : ℕ) (xs ys : List ℕ) → Alike (m + n) xs ys → Alike n (drop m xs) (drop m ys)
alike_behind m n xs ys h = λ k lt. get_or-drop m xs k 0 ∙ h (m + k) (omega (arith, lt)) ∙ sym (get_or-drop m ys k 0)

pub read_same : (w o n : ℕ) (xs ys : List ℕ) → o + w ≤ n → Alike n xs ys → read w o xs ≡ read w o ys
read_same w o n xs ys le h = read_alike w o xs ys (λ k lt. h (o + k) (omega (arith, lt, le)))

-- ---- records

pub more_records : (z n : ℕ) → z * suc n ≡ z + z * n
more_records z n = grind arith

-- of two ways to read a record that give the same below an offset
pub records_same : {A : Type 0} (f g : ℕ → A) (z n o e : ℕ) → ((a : ℕ) → a + z ≤ e → f a ≡ g a) → o + z * n ≤ e → records f z n o ≡ records g z n o
records_same f g z zero o e h le = refl
records_same f g z (suc n) o e h le =
    let m = more_records z n in
    ap₂ (λ x xs. x ∷ xs) (h o (omega (arith, le, m))) (records_same f g z n (o + z) e h (omega (arith, le, m)))

-- ---- differences

pub difference_same : (xs ys zs : List ℕ) (a : ℕ) → length xs ≤ length ys → length xs ≤ length zs → Alike (length xs) ys zs → difference xs ys a ≡ difference xs zs a
difference_same [] ys zs a l m h = refl
difference_same (x ∷ xs) [] zs a l m h = absurd (omega (arith, l))
difference_same (x ∷ xs) (y ∷ ys) [] a l m h = absurd (omega (arith, m))
difference_same (x ∷ xs) (y ∷ ys) (z ∷ zs) a l m h =
    ap₂ (λ b d. and_then (must (nat_eq x b) a) d) (h 0 (omega arith)) (difference_same xs ys zs (a + 1) (omega (arith, l)) (omega (arith, m)) (λ k lt. h (suc k) (omega (arith, lt))))
