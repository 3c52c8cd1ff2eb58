-- Lists of small numbers: the bytes of words and of instructions are bytes.
use Rattle.std.proofs.Common.{ℕ, zero, suc, ◌^◌, ◌<◌, List, [], ◌∷◌, ◌++◌, get_or, replicate, arith}
use Rattle.base_laws.specs.Lists.{EachBelow}
use Rattle.machine_thumb.specs.declared.table.Code.{Code}
use Rattle.machine_thumb.specs.declared.table.Code.TheVariants.{Half, Pair}
use Rattle.machine_thumb.specs.declared.table.Instr.{Instr}
use Rattle.machine_thumb.specs.Table.{encode}
use Rattle.machine_thumb.specs.Bytes.{bytes_of_half, bytes_of_code, code_bytes, EachInTable}
use Rattle.machine_thumb.specs.Laws.{IsSelfDelimiting, ShowsItsLength}
use Rattle.monitor_program.specs.Page.{bytes_of_words}

pub below-append : (n : ℕ) (xs ys : List ℕ) → EachBelow n xs → EachBelow n ys → EachBelow n (xs ++ ys)
below-append n [] ys a b = b
below-append n (x ∷ xs) ys a b = (a.0, below-append n xs ys a.1 b)

pub below_at : (n : ℕ) (xs : List ℕ) (k : ℕ) → 0 < n → EachBelow n xs → get_or xs k 0 < n
below_at n [] k some h = some
below_at n (x ∷ xs) zero some h = h.0
below_at n (x ∷ xs) (suc k) some h = below_at n xs k some h.1

pub ones_below : (k : ℕ) → EachBelow 256 (replicate k 0xFF)
ones_below zero = tt
ones_below (suc k) = (omega arith, ones_below k)

-- ---- words

pub words_below : (ws : List ℕ) → EachBelow (2 ^ 32) ws → EachBelow 256 (bytes_of_words ws)
words_below [] h = tt
words_below (w ∷ ws) h = let l = h.0 in (omega arith, (omega arith, (omega arith, (omega (arith, l), words_below ws h.1))))

-- ---- instructions

pub half_below : (h : ℕ) → h < 2 ^ 16 → EachBelow 256 (bytes_of_half h)
half_below h l = (omega arith, (omega (arith, l), tt))

pub encoded_below : (c : Code) → IsSelfDelimiting c → EachBelow 256 (bytes_of_code c)
encoded_below (Half h) l = half_below h (omega (arith, l))
encoded_below (Pair h k) s = below-append 256 (bytes_of_half h) (bytes_of_half k) (half_below h s.1) (half_below k s.2)

pub code_below : ShowsItsLength → (xs : List Instr) → EachInTable xs → EachBelow 256 (code_bytes xs)
code_below law [] h = tt
code_below law (x ∷ xs) h = below-append 256 (bytes_of_code (encode x)) (code_bytes xs) (encoded_below (encode x) (law x h.0)) (code_below law xs h.1)
