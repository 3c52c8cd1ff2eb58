-- Which of a few instructions are in the table, by a test.
use Rattle.std.proofs.Common.{◌≡◌, ℕ, zero, suc, ◌+◌, Bool, true, false, ◌&&◌, nat_eq, nat_lt, pos, List, [], ◌∷◌, Option, refl, arith}
use Rattle.std.proofs.lemmas.Int.{ints}
use Rattle.std.proofs.lemmas.Bool.{ltb-true, eqb-true, and_parts as both}
use Rattle.machine_thumb.specs.declared.table.Instr.{Instr}
use Rattle.machine_thumb.specs.declared.table.Instr.TheVariants.{DataImmediate, TransferImmediate, StackRelative, AdjustStack, PushPop, BreakpointNop, CallBranch, MoveWide, MoveTop}
use Rattle.machine_thumb.specs.Table.{InTable, IsOffset}
use Rattle.machine_thumb_asm.specs.declared.item.Item.{Item}
use Rattle.machine_thumb_asm.specs.declared.item.Item.TheVariants.{Plain, Branch, Half, Word}
use Rattle.machine_model.specs.Code.{size}
use Rattle.code_effects.specs.Items.{InstructionsInTable}

-- the instructions of code without operations and branches
abbrev is_listed : Instr → Bool
is_listed (DataImmediate op d imm8) = nat_lt op 4 && (nat_lt d 8 && nat_lt imm8 256)
is_listed (TransferImmediate op imm5 n t) = (nat_lt op 6 && nat_lt imm5 32) && (nat_lt n 8 && nat_lt t 8)
is_listed (StackRelative zero t d imm8) = nat_lt t 8 && (nat_eq d 0 && nat_lt imm8 256)
is_listed (StackRelative (suc zero) t d imm8) = nat_lt t 8 && (nat_eq d 0 && nat_lt imm8 256)
is_listed (StackRelative (suc (suc zero)) t d imm8) = nat_eq t 0 && (nat_lt d 8 && nat_lt imm8 256)
is_listed (AdjustStack op imm7) = nat_lt op 2 && nat_lt imm7 128
is_listed (PushPop zero m zero list) = nat_lt m 2 && (nat_lt list 256 && nat_lt 0 (m + list))
is_listed (PushPop (suc zero) zero p list) = nat_lt p 2 && (nat_lt list 256 && nat_lt 0 (p + list))
is_listed (BreakpointNop (suc zero) imm8) = nat_eq imm8 0
is_listed (CallBranch zero imm8 (pos zero)) = nat_lt imm8 256
is_listed (MoveWide d value) = nat_lt d 13 && nat_lt value 65536
is_listed (MoveTop d value) = nat_lt d 13 && nat_lt value 65536
is_listed _ = false

three : (a b c : Bool) → (a && (b && c)) ≡ true → (a ≡ true) × (b ≡ true) × (c ≡ true)
three a b c e = let p = both a (b && c) e in let q = both b c p.1 in (p.0, q.0, q.1)

in_table : (x : Instr) → is_listed x ≡ true → InTable x
in_table (DataImmediate op d imm8) e =
    let p = three (nat_lt op 4) (nat_lt d 8) (nat_lt imm8 256) e in (ltb-true op 4 p.0, ltb-true d 8 p.1, ltb-true imm8 256 p.2)
in_table (TransferImmediate op imm5 n t) e =
    let p = both (nat_lt op 6 && nat_lt imm5 32) (nat_lt n 8 && nat_lt t 8) e in
    let q = both (nat_lt op 6) (nat_lt imm5 32) p.0 in
    let r = both (nat_lt n 8) (nat_lt t 8) p.1 in
    (ltb-true op 6 q.0, ltb-true imm5 32 q.1, ltb-true n 8 r.0, ltb-true t 8 r.1)
in_table (StackRelative zero t d imm8) e =
    let p = three (nat_lt t 8) (nat_eq d 0) (nat_lt imm8 256) e in
    let z = eqb-true d 0 p.1 in
    (omega arith, ltb-true t 8 p.0, omega arith, ltb-true imm8 256 p.2, λ u. z, λ u. absurd (omega arith))
in_table (StackRelative (suc zero) t d imm8) e =
    let p = three (nat_lt t 8) (nat_eq d 0) (nat_lt imm8 256) e in
    let z = eqb-true d 0 p.1 in
    (omega arith, ltb-true t 8 p.0, omega arith, ltb-true imm8 256 p.2, λ u. z, λ u. absurd (omega arith))
in_table (StackRelative (suc (suc zero)) t d imm8) e =
    let p = three (nat_eq t 0) (nat_lt d 8) (nat_lt imm8 256) e in
    let z = eqb-true t 0 p.0 in
    (omega arith, omega arith, ltb-true d 8 p.1, ltb-true imm8 256 p.2, λ u. absurd (omega arith), λ u. z)
in_table (AdjustStack op imm7) e = let p = both (nat_lt op 2) (nat_lt imm7 128) e in (ltb-true op 2 p.0, ltb-true imm7 128 p.1)
in_table (PushPop zero m zero list) e =
    let p = three (nat_lt m 2) (nat_lt list 256) (nat_lt 0 (m + list)) e in
    let l = ltb-true 0 (m + list) p.2 in
    (omega arith, ltb-true m 2 p.0, omega arith, ltb-true list 256 p.1, λ u. refl, λ u. absurd (omega arith), omega arith)
in_table (PushPop (suc zero) zero p list) e =
    let q = three (nat_lt p 2) (nat_lt list 256) (nat_lt 0 (p + list)) e in
    let l = ltb-true 0 (p + list) q.2 in
    (omega arith, omega arith, ltb-true p 2 q.0, ltb-true list 256 q.1, λ u. absurd (omega arith), λ u. refl, omega arith)
in_table (BreakpointNop (suc zero) imm8) e = let z = eqb-true imm8 0 e in (omega arith, omega arith, λ u. z)
in_table (CallBranch zero imm8 (pos zero)) e =
    let o : IsOffset 2048 (pos 0) = record { from = omega (arith, ints); below = omega (arith, ints); even = refl } in
    (omega arith, ltb-true imm8 256 e, o, λ u. refl, λ u. absurd (omega arith))
in_table (MoveWide d value) e = let p = both (nat_lt d 13) (nat_lt value 65536) e in let l = ltb-true d 13 p.0 in ((omega arith, λ u. omega arith), ltb-true value 65536 p.1)
in_table (MoveTop d value) e = let p = both (nat_lt d 13) (nat_lt value 65536) e in let l = ltb-true d 13 p.0 in ((omega arith, λ u. omega arith), ltb-true value 65536 p.1)
in_table _ e = cc

-- the instructions of pieces without branches and words are listed
abbrev pub are_listed : List Item → Bool
are_listed [] = true
are_listed (Plain x ∷ more) = is_listed x && are_listed more
are_listed (Half h ∷ more) = nat_lt h 65536 && are_listed more
are_listed _ = false

pub pieces_in_table : (labels : List (Option ℕ)) (at : ℕ) (items : List Item) → are_listed items ≡ true → InstructionsInTable labels at items
pieces_in_table labels at [] e = tt
pieces_in_table labels at (Plain x ∷ more) e = let p = both (is_listed x) (are_listed more) e in (in_table x p.0, pieces_in_table labels (at + size x) more p.1)
pieces_in_table labels at (Half h ∷ more) e = let p = both (nat_lt h 65536) (are_listed more) e in (ltb-true h 65536 p.0, pieces_in_table labels (at + 2) more p.1)
pieces_in_table labels at (Branch kind to ∷ more) e = cc
pieces_in_table labels at (Word w ∷ more) e = cc
