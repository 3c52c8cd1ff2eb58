-- Fields between blanks, and the end of a line.
use Rattle.std.proofs.Common.{◌≡◌, ℕ, ◌+◌, List, [], ◌∷◌, ◌++◌, refl, ap, ◌∙◌, Bool, true, false, not, cond, length, take, drop, suc, arith, nat_eq, if◌then◌else◌}
use Rattle.std.specs.List.{prefix_len}
use Rattle.machine_devices.specs.Tape.{fields_of, is_blank, joined, begins_apart}
use Rattle.machine_devices.specs.Lines.{with_field, without_return}

-- a text without the blanks before it
abbrev skipped : List ℕ → List ℕ
skipped [] = []
skipped (b ∷ bs) = if is_blank b then skipped bs else (b ∷ bs)

-- the bytes before the first blank
abbrev front : List ℕ → List ℕ
front [] = []
front (b ∷ bs) = if is_blank b then [] else (b ∷ front bs)

-- and those from there on
abbrev behind : List ℕ → List ℕ
behind [] = []
behind (b ∷ bs) = if is_blank b then b ∷ bs else behind bs

skipped-is : (bs : List ℕ) → drop (prefix_len is_blank bs) bs ≡ skipped bs
skipped-is [] = refl
skipped-is (b ∷ bs) = by_test (is_blank b) (skipped-is bs)
  where
    by_test : (t : Bool) → drop (prefix_len is_blank bs) bs ≡ skipped bs
        → drop (cond t (1 + prefix_len is_blank bs) 0) (b ∷ bs) ≡ (if t then skipped bs else (b ∷ bs))
    by_test true e = (let n : 1 + prefix_len is_blank bs ≡ suc (prefix_len is_blank bs) = omega arith in rw n e)
    by_test false e = refl

front-is : (bs : List ℕ) → take (prefix_len (λ b. not (is_blank b)) bs) bs ≡ front bs
front-is [] = refl
front-is (b ∷ bs) = by_test (is_blank b) (front-is bs)
  where
    by_test : (t : Bool) → take (prefix_len (λ b. not (is_blank b)) bs) bs ≡ front bs
        → take (cond (not t) (1 + prefix_len (λ b. not (is_blank b)) bs) 0) (b ∷ bs) ≡ (if t then [] else (b ∷ front bs))
    by_test true e = refl
    by_test false e =
        (let n : 1 + prefix_len (λ b. not (is_blank b)) bs ≡ suc (prefix_len (λ b. not (is_blank b)) bs) = omega arith in
        rw n (ap (λ xs. b ∷ xs) e))

behind-is : (bs : List ℕ) → drop (prefix_len (λ b. not (is_blank b)) bs) bs ≡ behind bs
behind-is [] = refl
behind-is (b ∷ bs) = by_test (is_blank b) (behind-is bs)
  where
    by_test : (t : Bool) → drop (prefix_len (λ b. not (is_blank b)) bs) bs ≡ behind bs
        → drop (cond (not t) (1 + prefix_len (λ b. not (is_blank b)) bs) 0) (b ∷ bs) ≡ (if t then b ∷ bs else behind bs)
    by_test true e = refl
    by_test false e =
        (let n : 1 + prefix_len (λ b. not (is_blank b)) bs ≡ suc (prefix_len (λ b. not (is_blank b)) bs) = omega arith in rw n e)

fields_of-nil : fields_of [] ≡ []
unfolding fields_of
fields_of-nil = refl

fields_of-blank : (b : ℕ) (bs : List ℕ) → is_blank b ≡ true → fields_of (b ∷ bs) ≡ fields_of bs
unfolding fields_of
fields_of-blank b bs h = rw h refl

fields_of-other : (b : ℕ) (bs : List ℕ) → is_blank b ≡ false → fields_of (b ∷ bs) ≡ joined (begins_apart bs) b (fields_of bs)
unfolding fields_of
fields_of-other b bs h = rw h refl

-- a text that begins with a field
fields_of-cons : (b : ℕ) (bs : List ℕ) → is_blank b ≡ false → fields_of (b ∷ bs) ≡ (b ∷ front bs) ∷ fields_of (behind bs)
fields_of-cons b [] h = fields_of-other b [] h ∙ rw fields_of-nil refl
fields_of-cons b (c ∷ cs) h = fields_of-other b (c ∷ cs) h ∙ by_test (is_blank c) refl (λ e. fields_of-cons c cs e)
  where
    by_test : (t : Bool) → is_blank c ≡ t → (is_blank c ≡ false → fields_of (c ∷ cs) ≡ (c ∷ front cs) ∷ fields_of (behind cs))
        → joined (is_blank c) b (fields_of (c ∷ cs)) ≡ (b ∷ front (c ∷ cs)) ∷ fields_of (behind (c ∷ cs))
    by_test true e ih = rw e refl
    by_test false e ih = ap (joined (is_blank c) b) (ih e) ∙ rw e refl

fields_of-skipped : (bs : List ℕ) → fields_of bs ≡ with_field (front (skipped bs)) (fields_of (behind (skipped bs)))
fields_of-skipped [] = fields_of-nil
fields_of-skipped (b ∷ bs) = by_test (is_blank b) refl (fields_of-skipped bs)
  where
    by_test : (t : Bool) → is_blank b ≡ t → fields_of bs ≡ with_field (front (skipped bs)) (fields_of (behind (skipped bs)))
        → fields_of (b ∷ bs) ≡ with_field (front (skipped (b ∷ bs))) (fields_of (behind (skipped (b ∷ bs))))
    by_test true e ih = fields_of-blank b bs e ∙ (ih ∙ rw e refl)
    by_test false e ih = fields_of-cons b bs e ∙ rw (e, e) refl

-- a text is its first field and the fields of the rest, by the numbers of bytes that are passed
pub fields_of-split : (text rest : List ℕ) → rest ≡ drop (prefix_len is_blank text) text
    → fields_of text ≡ with_field (take (prefix_len (λ b. not (is_blank b)) rest) rest) (fields_of (drop (prefix_len (λ b. not (is_blank b)) rest) rest))
fields_of-split text rest h =
    fields_of-skipped text ∙ rw (front-is rest, behind-is rest, h, skipped-is text) refl

-- the last byte of a line decides
pub without_return-push : (bs : List ℕ) (b : ℕ) → without_return (bs ++ b ∷ []) ≡ (if nat_eq b 13 then bs else bs ++ b ∷ [])
without_return-push [] b = refl
without_return-push (c ∷ []) b = by_test (nat_eq b 13)
  where
    by_test : (t : Bool) → c ∷ (if t then [] else (b ∷ [])) ≡ (if t then (c ∷ []) else (c ∷ b ∷ []))
    by_test true = refl
    by_test false = refl
without_return-push (c ∷ d ∷ bs) b = ap (λ xs. c ∷ xs) (without_return-push (d ∷ bs) b) ∙ by_test (nat_eq b 13)
  where
    by_test : (t : Bool) → c ∷ (if t then (d ∷ bs) else ((d ∷ bs) ++ b ∷ [])) ≡ (if t then c ∷ d ∷ bs else ((c ∷ d ∷ bs) ++ b ∷ []))
    by_test true = refl
    by_test false = refl

pub without_return-nil : (bs : List ℕ) → length bs ≡ 0 → bs ≡ without_return bs
without_return-nil [] h = refl
without_return-nil (b ∷ bs) h = absurd (omega arith)

pub ruleset split_rules = (fields_of-split)

pub ruleset return_rules = (without_return-push, without_return-nil)
