-- The size of code and of its parts, how many bytes it has, and where the parts may run.
use Rattle.std.proofs.Common.{◌≡◌, ℕ, ◌+◌, ◌%◌, List, [], ◌∷◌, ◌++◌, length, Bool, true, false, nat_eq, nat_lt, refl, ◌∙◌, arith, length-append, if◌then◌else◌}
use Rattle.machine_thumb.specs.declared.table.Code.TheVariants.{Half, Pair}
use Rattle.machine_thumb.specs.declared.table.Instr.{Instr}
use Rattle.machine_thumb.specs.declared.table.Instr.TheVariants.{ShiftImmediate, AddSubRegister, AddSubImmediate, DataImmediate, DataRegister, HighRegister, BranchExchange, LoadLiteral, TransferRegister, TransferImmediate, StackRelative, AdjustStack, PushPop, BreakpointNop, TransferMultiple, BranchConditional, CallBranch, BranchLink, BranchWide, MoveWide, MoveTop, Divide, SpecialRegister, Barrier}
use Rattle.machine_thumb.specs.Table.{encode, width_of}
use Rattle.machine_thumb.proofs.Codes.{length-bytes_of_code}
use Rattle.machine_devices.specs.declared.image.Image.{Image}
use Rattle.machine_model.specs.declared.state.ProtectionState.{ProtectionState}
use Rattle.machine_model.specs.State.{PermissionTest}
use Rattle.machine_model.specs.Code.{size, CodeAt}
use Rattle.machine_thumb.specs.Bytes.{bytes_of_code, code_bytes}
use Rattle.machine_model.specs.Running.{code_size}

-- ---- sizes

pub code_size-append : (xs ys : List Instr) → code_size (xs ++ ys) ≡ code_size xs + code_size ys
code_size-append [] ys = omega arith
code_size-append (x ∷ xs) ys = omega (arith, code_size-append xs ys)

size-even : (x : Instr) → size x % 2 ≡ 0
size-even (BranchLink offset) = refl
size-even (BranchWide offset) = refl
size-even (MoveWide d value) = refl
size-even (MoveTop d value) = refl
size-even (Divide op n d m) = refl
size-even (SpecialRegister op n d s) = refl
size-even (Barrier op) = refl
size-even _ = refl

pub code_size-even : (xs : List Instr) → code_size xs % 2 ≡ 0
code_size-even [] = refl
code_size-even (x ∷ xs) = omega (arith, size-even x, code_size-even xs)

-- ---- bytes

half_or : (b : Bool) (x y : ℕ) → width_of (if b then Half x else Half y) ≡ 2
half_or true x y = refl
half_or false x y = refl

pair_or : (b : Bool) (x y v w : ℕ) → width_of (if b then Pair x y else Pair v w) ≡ 4
pair_or true x y v w = refl
pair_or false x y v w = refl

-- the halfwords of an instruction are as many bytes as its size says
pub width-encode : (x : Instr) → width_of (encode x) ≡ size x
unfolding encode
width-encode (ShiftImmediate op imm5 m d) = refl
width-encode (AddSubRegister op m n d) = refl
width-encode (AddSubImmediate op imm3 n d) = refl
width-encode (DataImmediate op d imm8) = refl
width-encode (DataRegister op m d) = refl
width-encode (HighRegister op m d) = refl
width-encode (BranchExchange op m) = refl
width-encode (LoadLiteral t imm8) = refl
width-encode (TransferRegister op m n t) = refl
width-encode (TransferImmediate op imm5 n t) = refl
width-encode (StackRelative op t d imm8) = half_or (nat_lt op 2) _ _
width-encode (AdjustStack op imm7) = refl
width-encode (PushPop op m p list) = half_or (nat_eq op 0) _ _
width-encode (BreakpointNop op imm8) = half_or (nat_eq op 0) _ _
width-encode (TransferMultiple op n list) = refl
width-encode (BranchConditional cond offset) = refl
width-encode (CallBranch op imm8 offset) = half_or (nat_eq op 0) _ _
width-encode (BranchLink offset) = refl
width-encode (BranchWide offset) = refl
width-encode (MoveWide d value) = refl
width-encode (MoveTop d value) = refl
width-encode (Divide op n d m) = refl
width-encode (SpecialRegister op n d s) = pair_or (nat_eq op 0) _ _ _ _
width-encode (Barrier op) = refl

-- the bytes of code are as many as its size
pub length-code_bytes : (xs : List Instr) → length (code_bytes xs) ≡ code_size xs
length-code_bytes [] = refl
length-code_bytes (x ∷ xs) =
    let a = length-bytes_of_code (encode x) ∙ width-encode x in
    let b = length-code_bytes xs in
    length-append (bytes_of_code (encode x)) (code_bytes xs) ∙ rw (a, b) refl

-- ---- where code may run

pub code_at-append : (j : PermissionTest) (i : Image) (p : ProtectionState) (xs ys : List Instr) (pc : ℕ) → CodeAt j i p pc (xs ++ ys) → CodeAt j i p pc xs × CodeAt j i p (pc + code_size xs) ys
code_at-append j i p [] ys pc c = let e : pc + 0 ≡ pc = omega arith in (tt, rw e c)
code_at-append j i p (x ∷ xs) ys pc c =
    let r = code_at-append j i p xs ys (pc + size x) c.1 in
    let e : pc + (size x + code_size xs) ≡ pc + size x + code_size xs = omega arith in
    ((c.0, r.0), rw e r.1)

pub code_at_joined : (j : PermissionTest) (i : Image) (p : ProtectionState) (xs ys : List Instr) (pc : ℕ) → CodeAt j i p pc xs → CodeAt j i p (pc + code_size xs) ys → CodeAt j i p pc (xs ++ ys)
code_at_joined j i p [] ys pc c d = let e : pc + 0 ≡ pc = omega arith in rw e at d
code_at_joined j i p (x ∷ xs) ys pc c d =
    let e : pc + (size x + code_size xs) ≡ pc + size x + code_size xs = omega arith in
    (c.0, code_at_joined j i p xs ys (pc + size x) c.1 (rw e at d))
