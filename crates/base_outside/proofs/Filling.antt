-- A buffer that is filled by pieces, each behind the one before.
use Rattle.std.proofs.Common.{◌≡◌, ◌<◌, ◌≤◌, ◌+◌, ◌∙◌, ℕ, List, [], ◌∷◌, ◌++◌, length, take, Option, Some, None, IfSome, refl, sym, ap, subst, append-nil, arith}
use Rattle.std.proofs.Math.Seq.{take-add, take-append-add}
use Rattle.std.proofs.lemmas.List.{take-append-le, length-take-le}
use borrow.Rule.Slice.PartMut.{put_mid, post_of}
use Rattle.base_outside.specs.Contents.{ReadsFrom}
use Rattle.base_outside.specs.Calls.{Call, Read}
use Rattle.base_outside.specs.Reading.{Pieces, AllPieces, more, ended}

-- a is what is filled before, n what the piece ys adds of the k bytes behind it
pub filled : (a n k : ℕ) (xs ys : List ℕ) → a ≤ length xs → n ≤ length ys →
    take (a + n) (put_mid a k xs ys) ≡ take a xs ++ take n ys
filled a n k xs ys within fits =
    let front : take (a + n) (take a xs ++ (ys ++ post_of a k xs)) ≡ take a xs ++ take n (ys ++ post_of a k xs) =
    subst (λ (m : ℕ). take (m + n) (take a xs ++ (ys ++ post_of a k xs)) ≡ take a xs ++ take n (ys ++ post_of a k xs))
    (length-take-le a xs within) (take-append-add (take a xs) (ys ++ post_of a k xs) n)
    in front ∙ ap (λ t. take a xs ++ t) (take-append-le n ys (post_of a k xs) fits)

-- what was filled before stays
pub filled_stays : (a k : ℕ) (xs ys : List ℕ) → a ≤ length xs → take a (put_mid a k xs ys) ≡ take a xs
filled_stays a k xs ys within =
    let none : 0 ≤ length ys = omega arith
    in let same : a ≡ a + 0 = omega arith
    in ap (λ m. take m (put_mid a k xs ys)) same ∙ (filled a 0 k xs ys within none ∙ append-nil (take a xs))

-- nothing is filled yet
pub fills_none : (held : Option (List ℕ)) → IfSome held (λ bytes. take 0 bytes ≡ take 0 bytes)
fills_none None = tt
fills_none (Some bytes) = refl

-- the bytes that were read first and those that the piece adds are the first bytes held
pub fills_more : (held : Option (List ℕ)) (a n : ℕ) (before ys : List ℕ) →
    IfSome held (λ bytes. before ≡ take a bytes) → IfSome held (λ bytes. ReadsFrom bytes a ys n) →
    IfSome held (λ bytes. before ++ take n ys ≡ take (a + n) bytes)
fills_more None a n before ys h r = tt
fills_more (Some bytes) a n before ys h r = ap (λ t. t ++ take n ys) h ∙ ap (λ t. take a bytes ++ t) r.front ∙ sym (take-add a n bytes)

-- one more piece
pub pieces_more : (name : List ℕ) (calls : List Call) (a : ℕ) (xs piece : List ℕ) → a ≤ length xs → Pieces name calls (take a xs) →
    0 < length piece → Pieces name (calls ++ Read name a (Some piece) ∷ []) (take a xs ++ piece)
pieces_more name calls a xs piece within before some =
    subst (λ (m : ℕ). Pieces name (calls ++ Read name m (Some piece) ∷ []) (take a xs ++ piece)) (length-take-le a xs within)
    (more calls (take a xs) piece before some)

-- and one call that gave none
pub pieces_ended : (name : List ℕ) (size : ℕ) (calls : List Call) (a : ℕ) (xs : List ℕ) → a ≤ length xs → Pieces name calls (take a xs) →
    AllPieces name size (calls ++ Read name a (Some []) ∷ []) (take a xs)
pieces_ended name size calls a xs within before =
    subst (λ (m : ℕ). AllPieces name size (calls ++ Read name m (Some []) ∷ []) (take a xs)) (length-take-le a xs within)
    (ended calls (take a xs) before)
