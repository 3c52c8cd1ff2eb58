-- Sizes of what stands in front of a place.
use Rattle.std.proofs.Common.{◌≡◌, ℕ, suc, ◌+◌, ◌<◌, List, [], ◌∷◌, map, length, take, get_or, zero, refl, ap, ◌∙◌, add-one, arith}
use Rattle.std.proofs.lemmas.List.{take_all}
use Rattle.ir_model.specs.Resolved.{NumberedFunc, NumberedTerm, Does, here_in}
use Rattle.ir_program.specs.declared.program.Operation.{Operation}
use Rattle.ir_program.specs.declared.program.Sequence.{Sequence}
use Rattle.ir_program.specs.Parts.{operation_of, sequence_of}
use Rattle.code_model.specs.declared.places.CallSite.{CallSite}
use Rattle.code_model.specs.Places.{crosses}
use Rattle.code_model.specs.Sizes.{inst_size, insts_size, block_size, blocks_size}

-- what stands at a place among instructions that are there
pub here_there : (os : List Operation) (t : NumberedTerm) (k : ℕ) (d : Operation) → k < length os →
    here_in (map (operation_of []) os) t k ≡ Does (operation_of [] (get_or os k d))
here_there [] t k d l = absurd (omega arith)
here_there (o ∷ os) t zero d l = refl
here_there (o ∷ os) t (suc k) d l = here_there os t k d (omega arith)

module _ (g : NumberedFunc) (sites : List CallSite) (n : ℕ) where
  -- instructions up to a place, and the one that stands there
  insts_push : (b j p : ℕ) (os : List Operation) (i : ℕ) (d : Operation) → i < length os → p ≡ j + i →
      insts_size g sites n b j (map (operation_of []) (take (suc i) os))
      ≡ insts_size g sites n b j (map (operation_of []) (take i os)) + inst_size (crosses sites b p) (operation_of [] (get_or os i d))
  insts_push b j p [] i d l e = absurd (omega arith)
  insts_push b j p (o ∷ os) zero d l e =
      let same : p ≡ j = omega (arith, e) in
      let h = ap (λ k. inst_size (crosses sites b k) (operation_of [] o)) same in
      omega (arith, h)
  insts_push b j p (o ∷ os) (suc i) d l e =
      let h = insts_push b (suc j) p os i d (omega arith) (omega (arith, e)) in
      omega (arith, h)

  pub insts_more : (b i : ℕ) (os : List Operation) (d : Operation) → i < length os →
      insts_size g sites n b 0 (map (operation_of []) (take (i + 1) os))
      ≡ insts_size g sites n b 0 (map (operation_of []) (take i os)) + inst_size (crosses sites b i) (operation_of [] (get_or os i d))
  insts_more b i os d l =
      ap (λ k. insts_size g sites n b 0 (map (operation_of []) (take k os))) (add-one i) ∙ insts_push b 0 i os i d l (omega arith)

  pub insts_all : (b : ℕ) (os : List Operation) →
      insts_size g sites n b 0 (map (operation_of []) (take (length os) os)) ≡ insts_size g sites n b 0 (map (operation_of []) os)
  insts_all b os = ap (λ xs. insts_size g sites n b 0 (map (operation_of []) xs)) (take_all (length os) os (omega arith))

  -- blocks up to one, and that one
  blocks_push : (j p : ℕ) (bs : List Sequence) (i : ℕ) (d : Sequence) → i < length bs → p ≡ j + i →
      blocks_size g sites n j (map (sequence_of []) (take (suc i) bs))
      ≡ blocks_size g sites n j (map (sequence_of []) (take i bs)) + block_size g sites n p (sequence_of [] (get_or bs i d))
  blocks_push j p [] i d l e = absurd (omega arith)
  blocks_push j p (x ∷ xs) zero d l e =
      let same : p ≡ j = omega (arith, e) in
      let h = ap (λ k. block_size g sites n k (sequence_of [] x)) same in
      omega (arith, h)
  blocks_push j p (x ∷ xs) (suc i) d l e =
      let h = blocks_push (suc j) p xs i d (omega arith) (omega (arith, e)) in
      omega (arith, h)

  pub blocks_more : (b : ℕ) (bs : List Sequence) (d : Sequence) → b < length bs →
      blocks_size g sites n 0 (map (sequence_of []) (take (b + 1) bs))
      ≡ blocks_size g sites n 0 (map (sequence_of []) (take b bs)) + block_size g sites n b (sequence_of [] (get_or bs b d))
  blocks_more b bs d l =
      ap (λ k. blocks_size g sites n 0 (map (sequence_of []) (take k bs))) (add-one b) ∙ blocks_push 0 b bs b d l (omega arith)
