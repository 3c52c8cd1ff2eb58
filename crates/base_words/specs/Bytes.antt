-- Numbers in a memory, a list of bytes, the lowest byte first. A width is a number of bytes.
use Rattle.std.specs.Prelude.{ℕ, zero, suc, ◌+◌, ◌*◌, ◌/◌, ◌%◌, ◌<◌, List, [], ◌∷◌, slice_index, slice_set}

-- the number in the w bytes from a on
unfoldable pub read : ℕ → ℕ → List ℕ → ℕ
read zero a mem = 0
read (suc w) a mem = slice_index mem a % 256 + 256 * read w (a + 1) mem

-- the memory with the w low bytes of v in the w bytes from a on
unfoldable pub write : ℕ → ℕ → ℕ → List ℕ → List ℕ
write zero a v mem = mem
write (suc w) a v mem = write w (a + 1) (v / 256) (slice_set mem a (v % 256))

-- the number in the w low bytes of v
unfoldable pub cut : ℕ → ℕ → ℕ
cut zero v = 0
cut (suc w) v = v % 256 + 256 * cut w (v / 256)

-- the memory with these numbers one after another from a on, each in w bytes, the first written first
unfoldable pub write_all : ℕ → ℕ → List ℕ → List ℕ → List ℕ
write_all w a [] mem = mem
write_all w a (v ∷ vs) mem = write_all w (a + w) vs (write w a v mem)

-- each element is a byte
abbrev pub AreBytes : List ℕ → Type 0
AreBytes mem = (i : ℕ) → slice_index mem i < 256
