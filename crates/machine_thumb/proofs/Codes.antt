-- The bytes of code, code of two parts, and the numbers of operations of two or three kinds.
use Rattle.std.proofs.Common.{◌≡◌, ℕ, ◌<◌, ◌⊎◌, arith, List, [], ◌∷◌, ◌++◌, length, refl, sym, ap, ◌∙◌, append_assoc}
use Rattle.machine_thumb.specs.declared.table.Code.{Code}
use Rattle.machine_thumb.specs.declared.table.Code.TheVariants.{Half, Pair}
use Rattle.machine_thumb.specs.declared.table.Instr.{Instr}
use Rattle.machine_thumb.specs.Table.{encode, width_of}
use Rattle.machine_thumb.specs.Bytes.{bytes_of_code, code_bytes, EachInTable}

pub length-bytes_of_code : (c : Code) → length (bytes_of_code c) ≡ width_of c
length-bytes_of_code (Half h) = refl
length-bytes_of_code (Pair h k) = refl

pub code_bytes-append : (xs ys : List Instr) → code_bytes (xs ++ ys) ≡ code_bytes xs ++ code_bytes ys
code_bytes-append [] ys = refl
code_bytes-append (x ∷ xs) ys = ap (λ l. bytes_of_code (encode x) ++ l) (code_bytes-append xs ys) ∙ sym (append_assoc (bytes_of_code (encode x)) (code_bytes xs) (code_bytes ys))

-- parts that stand in the instruction table
pub in_table-append : (xs ys : List Instr) → EachInTable xs → EachInTable ys → EachInTable (xs ++ ys)
in_table-append [] ys a b = b
in_table-append (x ∷ xs) ys a b = (a.0, in_table-append xs ys a.1 b)

-- the number of an operation of two kinds, and of one of three
pub zero_or_one : (op : ℕ) → op < 2 → (op ≡ 0) ⊎ (op ≡ 1)
zero_or_one op below = grind arith

pub zero_one_or_two : (op : ℕ) → op < 3 → (op < 2) ⊎ (op ≡ 2)
zero_one_or_two op below = grind arith
