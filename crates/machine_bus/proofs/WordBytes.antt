-- A word in memory is its four bytes.
use Rattle.std.proofs.Common.{◌≡◌, ℕ, ◌+◌, ◌*◌, List, ap, arith}
use Rattle.base_words.specs.Bytes.{read}
use Rattle.base_words.proofs.Bytes.{read_add}

pub word_bytes : (a : ℕ) (m : List ℕ) → read 4 a m ≡ read 1 a m + 256 * read 1 (a + 1) m + 65536 * read 1 (a + 2) m + 16777216 * read 1 (a + 3) m
word_bytes a m =
    let x = read_add 2 2 a m in
    let y = read_add 1 1 a m in
    let z = read_add 1 1 (a + 2) m in
    let e : read 1 (a + 2 + 1) m ≡ read 1 (a + 3) m = (let q : a + 2 + 1 ≡ a + 3 = omega arith in ap (λ a. read 1 a m) q) in
    omega (arith, x, y, z, e)
