use Rattle.std.proofs.Common.{◌≡◌, ℕ, zero, suc, ◌+◌, ◌*◌, ◌<◌, List, get_or, refl, ap, arith, length}
use Rattle.base_words.specs.Arithmetic.{word}
use Rattle.base_words.specs.Bytes.{read}
use Rattle.machine_devices.specs.declared.image.Image.{Image}
use Rattle.machine_bus.specs.Locations.{InRam, location}
use Rattle.machine_bus.proofs.Offsets.{in_ram}
use Rattle.machine_model.specs.Exceptions.{stacked_words}
use Rattle.machine_model.specs.Stack.{Words, words_at}

pub length-words_at : (n o : ℕ) (ram : List ℕ) → length (words_at n o ram) ≡ n
unfolding words_at
length-words_at zero o ram = refl
length-words_at (suc n) o ram = ap suc (length-words_at n (o + 4) ram)

pub get_or-words_at : (n o k : ℕ) (ram : List ℕ) → k < n → get_or (words_at n o ram) k 0 ≡ read 4 (o + 4 * k) ram
unfolding words_at
get_or-words_at zero o k ram h = absurd (omega arith)
get_or-words_at (suc n) o zero ram h = let z : o + 4 * 0 ≡ o = omega arith in rw z
get_or-words_at (suc n) o (suc k) ram h = let z : o + 4 * suc k ≡ o + 4 + 4 * k = omega arith in rw z (get_or-words_at n (o + 4) k ram (omega arith))

pub behind : (i : Image) (a o n : ℕ) → Words i a o (suc n) → Words i (word (a + 4)) (o + 4) n
behind i a o n w =
    let e : word (a + 4) ≡ a + 4 = omega (arith, w.is_at, w.fits, w.low) in
    rw e (record { is_at = omega (arith, w.is_at); aligned = omega (arith, w.aligned); fits = omega (arith, w.fits); low = w.low })

pub head_place : (i : Image) (a o n : ℕ) → Words i a o (suc n) → location i a ≡ InRam o
head_place i a o n w = in_ram i a o w.is_at (omega (arith, w.fits))

pub stacked_are : (i : Image) (n a o : ℕ) (ram : List ℕ) → Words i a o n → stacked_words i a n ram ≡ words_at n o ram
unfolding stacked_words words_at
stacked_are i zero a o ram w = refl
stacked_are i (suc n) a o ram w =
    let e = head_place i a o n w in
    let f = stacked_are i n (word (a + 4)) (o + 4) ram (behind i a o n w) in
    rw (e, f)
