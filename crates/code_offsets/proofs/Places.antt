-- Where places stand in a function, from one place to another.
use Rattle.std.proofs.Common.{◌≡◌, ℕ, ◌+◌, ◌-◌, ◌<◌, [], map, length, take, get_or, ap, sym, ◌∙◌, arith}
use Rattle.std.specs.Prelude.{List}
use Rattle.std.proofs.lemmas.List.{take-map, get_or-map}
use Rattle.ir_model.specs.Resolved.{NumberedFunc, NumberedBlock, Here, Does, no_block, here_in}
use Rattle.ir_program.specs.declared.program.Operation.{Operation}
use Rattle.ir_program.specs.declared.program.Sequence.{Sequence}
use Rattle.ir_program.specs.declared.program.Routine.{Routine}
use Rattle.ir_program.specs.Parts.{operation_of, exit_of, sequence_of, routine_of}
use Rattle.code_model.specs.declared.places.CallSite.{CallSite}
use Rattle.code_model.specs.Places.{crosses}
use Rattle.code_model.specs.Sizes.{term_size, resume_size, insts_size, blocks_size, block_offset, place_offset, site_offset}
use Rattle.code_offsets.proofs.Offsets.{here_there, insts_all, blocks_more}

module _ (r : Routine) (sites : List CallSite) (n : ℕ) where
  abbrev g : NumberedFunc
  g = routine_of [] r

  -- the instructions of a block up to a place
  abbrev up_to : (b k : ℕ) → Sequence → ℕ
  up_to b k x = insts_size g sites n b 0 (map (operation_of []) (take k x.operations))

  block_there : (b : ℕ) (x : Sequence) → b < length r.blocks → x ≡ get_or r.blocks b x → get_or g.blocks b no_block ≡ sequence_of [] x
  block_there b x l is = get_or-map (sequence_of []) r.blocks b x no_block l ∙ ap (sequence_of []) (sym is)

  place_in : (b k : ℕ) (x : Sequence) → b < length r.blocks → x ≡ get_or r.blocks b x →
      place_offset g sites n b k ≡ block_offset g sites n b + up_to b k x
  place_in b k x l is =
      let one = ap (λ (y : NumberedBlock). insts_size g sites n b 0 (take k y.insts)) (block_there b x l is) in
      let two = ap (λ is. insts_size g sites n b 0 is) (take-map (operation_of []) k x.operations) in
      omega (arith, one, two)

  -- from a place to another of its block
  pub place_further : (b j k m : ℕ) (x : Sequence) → b < length r.blocks → x ≡ get_or r.blocks b x → m + up_to b j x ≡ up_to b k x →
      place_offset g sites n b k ≡ place_offset g sites n b j + m
  place_further b j k m x l is e =
      let one = place_in b j x l is in
      let two = place_in b k x l is in
      omega (arith, one, two, e)

  -- from a place to the next block
  pub block_further : (b k m t : ℕ) (x : Sequence) → b < length r.blocks → x ≡ get_or r.blocks b x →
      m + up_to b k x ≡ up_to b (length x.operations) x → t ≡ term_size g n (exit_of x.exit) →
      place_offset g sites n (b + 1) 0 ≡ place_offset g sites n b k + (m + t)
  block_further b k m t x l is e u =
      let one = place_in b k x l is in
      let two = insts_all g sites n b x.operations in
      let three = ap (λ xs. blocks_size g sites n 0 xs) (take-map (sequence_of []) (b + 1) r.blocks) in
      let four = blocks_more g sites n b r.blocks x l in
      let five = ap (λ (y : Sequence). insts_size g sites n b 0 (map (operation_of []) y.operations) + term_size g n (exit_of y.exit)) is in
      let six = ap (λ xs. blocks_size g sites n 0 xs) (take-map (sequence_of []) b r.blocks) in
      omega (arith, one, two, three, four, five, six, e, u)

  -- from a place to the halfword with the number of its site
  pub site_further : (b k m : ℕ) (x : Sequence) (o : Operation) → b < length r.blocks → x ≡ get_or r.blocks b x →
      k < length x.operations → o ≡ get_or x.operations k o → m ≡ resume_size (crosses sites b k) (Does (operation_of [] o)) →
      site_offset g sites n b k ≡ place_offset g sites n b k + m - 2
  site_further b k m x o l is j are e =
      let one = ap (λ (y : NumberedBlock). resume_size (crosses sites b k) (here_in y.insts y.term k)) (block_there b x l is) in
      let two = ap (λ (h : Here). resume_size (crosses sites b k) h) (here_there x.operations (exit_of x.exit) k o j) in
      let three = ap (λ (i : Operation). resume_size (crosses sites b k) (Does (operation_of [] i))) are in
      omega (arith, one, two, three, e)
