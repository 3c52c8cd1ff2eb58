-- The words of the tables in flash, part by part.
use Rattle.std.proofs.Common.{◌≡◌, ℕ, zero, suc, ◌+◌, ◌-◌, ◌*◌, ◌<◌, ◌≤◌, List, [], ◌∷◌, ◌++◌, length, get_or, ap, subst, arith, length-append}
use Rattle.std.specs.Prelude.{flat_map}
use Rattle.base_words.specs.Bytes.{read}
use Rattle.machine_protection.specs.declared.region.Region.{Region}
use Rattle.machine_devices.specs.declared.image.Image.{Image}
use Rattle.machine_model.specs.Stack.{words_at}
use Rattle.base_laws.specs.Lists.{Each}
use Rattle.monitor_model.specs.Area.{region_words, FlashHas}
use Rattle.monitor_laws.proofs.Written.{HasRegions}

-- flash holds these words from an offset on
abbrev pub Has : Image → (offset : ℕ) → List ℕ → Type 0
Has i o [] = Unit {0}
Has i o (w ∷ ws) = (read 4 o i.flash ≡ w) × (o + 4 ≤ length i.flash) × Has i (o + 4) ws

abbrev first_of : List ℕ → ℕ
first_of [] = 0
first_of (x ∷ xs) = x

abbrev others_of : List ℕ → List ℕ
others_of [] = []
others_of (x ∷ xs) = xs

has_all : (i : Image) (o : ℕ) (ws : List ℕ) → words_at (length ws) o i.flash ≡ ws → o + 4 * length ws ≤ length i.flash → Has i o ws
unfolding words_at
has_all i o [] e h = tt
has_all i o (w ∷ ws) e h = (ap first_of e, omega (arith, h), has_all i (o + 4) ws (ap others_of e) (omega (arith, h)))

pub flash_has : (i : Image) (a : ℕ) (ws : List ℕ) → FlashHas i a ws → Has i (a - i.flash_base) ws
flash_has i a ws f = has_all i (a - i.flash_base) ws f.words_are (omega (arith, f.from_base, f.inside))

pub has_front : (i : Image) (o : ℕ) (xs ys : List ℕ) → Has i o (xs ++ ys) → Has i o xs
has_front i o [] ys h = tt
has_front i o (x ∷ xs) ys h = (h.0, h.1, has_front i (o + 4) xs ys h.2)

pub has_back : (i : Image) (o : ℕ) (xs ys : List ℕ) → Has i o (xs ++ ys) → Has i (o + 4 * length xs) ys
has_back i o [] ys h = let e : o ≡ o + 4 * 0 = omega arith in subst (λ n. Has i n ys) e h
has_back i o (x ∷ xs) ys h =
    let e : o + 4 + 4 * length xs ≡ o + 4 * length (x ∷ xs) = omega arith in
    subst (λ n. Has i n ys) e (has_back i (o + 4) xs ys h.2)

-- record number k of records of n words each
pub has_record : {A : Type 0} (i : Image) (f : A → List ℕ) (n : ℕ) (xs : List A) (d : A) (o : ℕ) → Each (λ x. length (f x) ≡ n) xs → Has i o (flat_map f xs) → (k : ℕ) → k < length xs → Has i (o + 4 * (n * k)) (f (get_or xs k d))
has_record i f n [] d o e h k lt = absurd (omega arith)
has_record i f n (x ∷ xs) d o e h zero lt = let z : o ≡ o + 4 * (n * 0) = grind arith in subst (λ n. Has i n (f x)) z (has_front i o (f x) (flat_map f xs) h)
has_record i f n (x ∷ xs) d o e h (suc k) lt =
    let z : o + 4 * length (f x) + 4 * (n * k) ≡ o + 4 * (n * suc k) = let l = e.0 in grind (arith, l) in
    subst (λ n. Has i n (f (get_or xs k d))) z (has_record i f n xs d (o + 4 * length (f x)) e.1 (has_back i o (f x) (flat_map f xs) h) k (omega arith))

-- the length of all of them
pub records_length : {A : Type 0} (f : A → List ℕ) (n : ℕ) (xs : List A) → Each (λ x. length (f x) ≡ n) xs → length (flat_map f xs) ≡ n * length xs
records_length f n [] e = grind arith
records_length f n (x ∷ xs) e =
    let l = length-append (f x) (flat_map f xs) in
    let h = records_length f n xs e.1 in
    let z = e.0 in
    grind (arith, l, h, z)

-- words of regions
pub has_regions : (i : Image) (gs : List Region) (rest : List ℕ) (o : ℕ) → Has i o (flat_map region_words gs ++ rest) → HasRegions i gs o
has_regions i [] rest o h = tt
has_regions i (g ∷ gs) rest o h =
    let e : o + 4 + 4 ≡ o + 8 = omega arith in
    let s = h.2 in
    (h.0, s.0, omega (arith, s.1), subst (λ n. HasRegions i gs n) e (has_regions i gs rest (o + 4 + 4) s.2))

-- a word of a list by its number
pub has_word : (i : Image) (o : ℕ) (ws : List ℕ) (k : ℕ) → Has i o ws → k < length ws → (read 4 (o + 4 * k) i.flash ≡ get_or ws k 0) × (o + 4 * k + 4 ≤ length i.flash)
has_word i o [] k h lt = absurd (omega (arith, lt))
has_word i o (w ∷ ws) zero h lt = let e : o ≡ o + 4 * 0 = omega arith in subst (λ n. (read 4 n i.flash ≡ w) × (n + 4 ≤ length i.flash)) e (h.0, h.1)
has_word i o (w ∷ ws) (suc k) h lt =
    let e : o + 4 + 4 * k ≡ o + 4 * suc k = omega arith in
    subst (λ n. (read 4 n i.flash ≡ get_or ws k 0) × (n + 4 ≤ length i.flash)) e (has_word i (o + 4) ws k h.2 (omega (arith, lt)))
