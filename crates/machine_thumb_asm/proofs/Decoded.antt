-- What the bytes of pieces decode to.
use Rattle.std.proofs.Common.{◌≡◌, ℕ, zero, suc, ◌+◌, ◌*◌, ◌/◌, ◌%◌, ◌<◌, ◌≤◌, ◌^◌, true, List, [], ◌∷◌, ◌++◌, length, take, Option, Some, None, slice_get, refl, ap, ◌∙◌, arith, length-append}
use Rattle.std.proofs.lemmas.Bool.Decides.{nat_tests}
use Rattle.std.proofs.lemmas.Int.{ints}
use Rattle.std.proofs.lemmas.Option.{none-some, same_Some}
use Rattle.std.proofs.lemmas.List.{get_or-append-add}
use Rattle.machine_thumb.specs.declared.table.Instr.{Instr}
use Rattle.machine_thumb.specs.declared.table.Code.{Code}
use Rattle.machine_thumb.specs.declared.table.Code.TheVariants as code
use Rattle.machine_thumb.specs.Table.{InTable, IsOffset, encode, width_of}
use Rattle.machine_thumb.specs.Bytes.{bytes_of_code}
use Rattle.machine_thumb.specs.Decoded.{decoded, decoded_code}
use Rattle.machine_thumb.proofs.Relation.{round_trip}
use Rattle.machine_thumb.proofs.Codes.{length-bytes_of_code}
use Rattle.machine_thumb_asm.specs.declared.item.BranchKind.{BranchKind}
use Rattle.machine_thumb_asm.specs.declared.item.BranchKind.TheVariants.{Cond, Short, Long, Link}
use Rattle.machine_thumb_asm.specs.declared.item.Item.{Item}
use Rattle.machine_thumb_asm.specs.declared.item.Item.TheVariants.{Plain, Branch, Half, Word}
use Rattle.machine_thumb_asm.specs.Assembly.{Assembly, IsAssembly, branch_size, size_of, total, here, place_of, HasCondition, IsItem, AreItems, ArePut, GoesSomewhere}
use Rattle.machine_thumb_asm.specs.Finished.{distance, branch, reach, is_near, first_far, bytes_at, bytes_from}
use Rattle.machine_thumb_asm.specs.Decodes.{half_at, instruction_of, BytesDecode, BytesFill}
use Rattle.machine_thumb_asm.proofs.Reaching.{size_even, goes, first_put, near_by, far-split}

pub offset_near : (limit at to : ℕ) → 0 < limit → limit ≤ 2 ^ 24 → at < 2 ^ 31 → to < 2 ^ 31 → is_near limit at to ≡ true → to % 2 ≡ at % 2 → IsOffset limit (distance at to)
offset_near limit at to some few a t near even = grind (arith, ints, nat_tests)

pub branch_in_table : (kind : BranchKind) (at to : ℕ) → HasCondition kind → at < 2 ^ 31 → to < 2 ^ 31 → is_near (reach kind) at to ≡ true → to % 2 ≡ at % 2 → InTable (branch kind at to)
branch_in_table (Cond c) at to h a t near even = (h, offset_near 256 at to (omega arith) (omega arith) a t near even)
branch_in_table Short at to h a t near even = (omega arith, omega arith, offset_near 2048 at to (omega arith) (omega arith) a t near even, λ e. absurd (omega arith), λ e. refl)
branch_in_table Long at to h a t near even = offset_near (2 ^ 24) at to (omega arith) (omega arith) a t near even
branch_in_table Link at to h a t near even = offset_near (2 ^ 24) at to (omega arith) (omega arith) a t near even

-- ---- lengths

pub branch_width : (kind : BranchKind) (at to : ℕ) → width_of (encode (branch kind at to)) ≡ branch_size kind
unfolding encode
branch_width (Cond c) at to = refl
branch_width Short at to = refl
branch_width Long at to = refl
branch_width Link at to = refl

pub bytes_length : (ps : List (Option ℕ)) (at : ℕ) (i : Item) → length (bytes_at ps at i) ≡ size_of i
bytes_length ps at (Plain x) = length-bytes_of_code (encode x)
bytes_length ps at (Branch kind to) = length-bytes_of_code (encode (branch kind at (place_of ps to.number))) ∙ branch_width kind at (place_of ps to.number)
bytes_length ps at (Half h) = refl
bytes_length ps at (Word w) = refl

pub total_bytes : (ps : List (Option ℕ)) (at : ℕ) (is : List Item) → length (bytes_from ps at is) ≡ total is
total_bytes ps at [] = refl
total_bytes ps at (i ∷ is) =
    let a = length-append (bytes_at ps at i) (bytes_from ps (at + size_of i) is) in
    let b = bytes_length ps at i in
    let c = total_bytes ps (at + size_of i) is in
    omega arith

-- ---- halfwords

whole_half : (h : ℕ) → h % 256 + 256 * (h / 256) ≡ h
whole_half h = omega arith

code_decodes : (c : Code) (more : List ℕ) → decoded (half_at (bytes_of_code c ++ more) 0) (half_at (bytes_of_code c ++ more) 2) ≡ decoded_code c (half_at (bytes_of_code c ++ more) 2)
code_decodes (code.Half h) more = ap (λ n. decoded n (half_at (bytes_of_code (code.Half h) ++ more) 2)) (whole_half h)
code_decodes (code.Pair h k) more =
    ap (λ n. decoded n (k % 256 + 256 * (k / 256))) (whole_half h) ∙ ap (decoded h) (whole_half k)

half_behind : (xs ys : List ℕ) (o : ℕ) → half_at (xs ++ ys) (length xs + o) ≡ half_at ys o
half_behind xs ys o =
    let e : length xs + o + 1 ≡ length xs + (o + 1) = omega arith in
    let a = get_or-append-add xs ys o 0 in
    let b = get_or-append-add xs ys (o + 1) 0 in
    rw (e, a, b) refl

-- ---- pieces

first_decodes : (n : ℕ) (ps : List (Option ℕ)) (at : ℕ) (i : Item) (x : Instr) (more : List ℕ) → IsItem n i → GoesSomewhere ps at i → at < 2 ^ 31
    → first_far ps at (i ∷ []) ≡ None → instruction_of ps at i ≡ Some x
    → decoded (half_at (bytes_at ps at i ++ more) 0) (half_at (bytes_at ps at i ++ more) 2) ≡ Some x
first_decodes n ps at (Plain y) x more h g a f e = code_decodes (encode y) more ∙ (round_trip y _ h ∙ e)
first_decodes n ps at (Branch kind to) x more h g a f e =
    let near : is_near (reach kind) at (place_of ps to.number) ≡ true = near_by ps at kind to f in
    let t = branch_in_table kind at (place_of ps to.number) h.0 a g.1 near g.0 in
    code_decodes (encode (branch kind at (place_of ps to.number))) more ∙ (round_trip (branch kind at (place_of ps to.number)) _ t ∙ e)
first_decodes n ps at (Half w) x more h g a f e = absurd (none-some _ e)
first_decodes n ps at (Word w) x more h g a f e = absurd (none-some _ e)

decodes_from : (a : Assembly) → IsAssembly a → (at : ℕ) (is : List Item) (k : ℕ) (item : Item) (x : Instr) → at + total is ≡ here a → at % 2 ≡ a.base % 2
    → AreItems (length a.places) is → ArePut a.places is → first_far a.places at is ≡ None → slice_get is k ≡ Some item
    → instruction_of a.places (at + total (take k is)) item ≡ Some x
    → decoded (half_at (bytes_from a.places at is) (total (take k is))) (half_at (bytes_from a.places at is) (total (take k is) + 2)) ≡ Some x
decodes_from a h at (i ∷ is) zero item x room even items put far there e =
    let r = h.room in
    let same = same_Some i item there in
    let f = far-split a.places at i is far in
    let z : at + 0 ≡ at = omega arith in
    first_decodes (length a.places) a.places at i x (bytes_from a.places (at + size_of i) is) items.0 (goes a at i h even (first_put a.places i is put).0) (omega arith) f.0 (rw (z, ← same) at e)
decodes_from a h at (i ∷ is) (suc k) item x room even items put far there e =
    let f = far-split a.places at i is far in
    let s = size_even i in
    let t = total (take k is) in
    let z : at + (size_of i + t) ≡ at + size_of i + t = omega arith in
    let y : size_of i + t + 2 ≡ size_of i + (t + 2) = omega arith in
    let b = bytes_length a.places at i in
    let more = bytes_from a.places (at + size_of i) is in
    let one = half_behind (bytes_at a.places at i) more t in
    let two = half_behind (bytes_at a.places at i) more (t + 2) in
    let g = decodes_from a h (at + size_of i) is k item x (omega arith) (omega arith) items.1 (first_put a.places i is put).1 f.1 there (rw z at e) in
    rw (y, rw b at one, rw b at two) g
decodes_from a h at [] k item x room even items put far there e = absurd (none-some _ there)

pub bytes_decode : BytesDecode
bytes_decode a k item x h put far there e = decodes_from a h a.base a.items k item x refl refl h.items put far there e

pub bytes_fill : BytesFill
bytes_fill a h = total_bytes a.places a.base a.items
