-- The parts of the code at an entry and at a return, one behind the other.
use Rattle.std.proofs.Common.{◌≡◌, ℕ, suc, ◌+◌, ◌-◌, ◌<◌, List, [], ◌∷◌, ◌++◌, length, map, get_or, drop, refl, ap, ◌∙◌, Option, arith}
use Rattle.std.proofs.lemmas.List.{drop_more}
use Rattle.machine_thumb.specs.declared.table.Instr.{Instr}
use Rattle.machine_thumb.specs.declared.table.Instr.TheVariants.{PushPop}
use Rattle.machine_thumb.specs.Table.{svc}
use Rattle.code_lower.specs.declared.subject.Lent.{Lent}
use Rattle.code_model.specs.Places.{Lend}
use Rattle.code_model.specs.Words.{plain, store_home, home_address, byte_into}
use Rattle.code_model.specs.Entry.{sub_code, add_code, stores_code, frame_code, lend_code, unlend_code, result_code, leave_code}
use Rattle.code_lower.specs.Subjects.{lend_of}
use Rattle.code_lower.proofs.Putting.{plain-append}

pub stores_next : (t : ℕ → ℕ) (w k : ℕ) → k < w → stores_code t (w - k) k ≡ (store_home (t k) k ∷ []) ++ stores_code t (w - (k + 1)) (k + 1)
stores_next t w k l =
    let more : w - k ≡ suc (w - (k + 1)) = omega arith in
    let one : suc k ≡ k + 1 = omega arith in
    ap (λ n. stores_code t n k) more ∙ ap (λ n. store_home (t k) k ∷ stores_code t (w - (k + 1)) n) one

-- one loan
abbrev pub loan_code : Lend → List Instr
loan_code d = home_address 0 d.home ∷ byte_into 1 d.number ∷ svc 2 ∷ []

-- the code of one more loan is the same behind the others as before them
unlends_turn : (ds : List Lend) → unlend_code ds ++ svc 3 ∷ [] ≡ svc 3 ∷ unlend_code ds
unlends_turn [] = refl
unlends_turn (d ∷ ds) = ap (λ xs. xs ++ svc 3 ∷ []) (unlends_turn ds)

module _ (ls : List Lent) (i : ℕ) (d : Lent) (l : i < length ls) where
  pub lends_next : lend_code (map lend_of (drop i ls)) ≡ loan_code (lend_of (get_or ls i d)) ++ lend_code (map lend_of (drop (i + 1) ls))
  lends_next = ap (λ xs. lend_code (map lend_of xs)) (drop_more ls i d l)

  pub unlends_next : unlend_code (map lend_of (drop i ls)) ≡ (svc 3 ∷ []) ++ unlend_code (map lend_of (drop (i + 1) ls))
  unlends_next = ap (λ xs. unlend_code (map lend_of xs)) (drop_more ls i d l) ∙ unlends_turn (map lend_of (drop (i + 1) ls))

-- the code of a frame, and of a return, in parts
pub frame_parts : (n w : ℕ) → plain (frame_code n w) ≡
    plain (PushPop 0 1 0 0 ∷ []) ++ (plain (sub_code w) ++ (plain (stores_code (λ k. k) n 0) ++ (plain (byte_into 0 0 ∷ []) ++ plain (stores_code (λ k. 0) (w - n) n))))
unfolding frame_code
frame_parts n w =
    let clear : List Instr = byte_into 0 0 ∷ stores_code (λ k. 0) (w - n) n in
    let params : List Instr = stores_code (λ k. k) n 0 in
    ap (λ xs. plain (PushPop 0 1 0 0 ∷ []) ++ xs) (plain-append (sub_code w) (params ++ clear) ∙ ap (λ xs. plain (sub_code w) ++ xs) (plain-append params clear))

pub leave_parts : (w : ℕ) (ds : List Lend) (r : Option ℕ) → plain (leave_code w ds r) ≡
    plain (unlend_code ds) ++ (plain (result_code r) ++ (plain (add_code w) ++ plain (PushPop 1 0 1 0 ∷ [])))
leave_parts w ds r =
    let pop : List Instr = PushPop 1 0 1 0 ∷ [] in
    plain-append (unlend_code ds) (result_code r ++ (add_code w ++ pop))
    ∙ ap (λ xs. plain (unlend_code ds) ++ xs) (plain-append (result_code r) (add_code w ++ pop) ∙ ap (λ xs. plain (result_code r) ++ xs) (plain-append (add_code w) pop))
