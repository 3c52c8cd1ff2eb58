-- The lines of instructions and of block ends: where the code of each begins.
use Rattle.std.specs.Prelude.{ℕ, ◌+◌, List, ◌++◌, length, flat_map, codes}
use Rattle.std.specs.Fmt.{decimal}
use Rattle.std.proofs.Math.ListN.{get_or}
use Rattle.machine_lines.specs.Lines.{hexadecimal, line_feed}
use Rattle.ir_model.specs.Resolved.{Program, NumberedFunc, func_at, no_block}
use Rattle.plan_model.specs.Lists.{numbers_below}
use Rattle.code_model.specs.declared.places.Places.{Places}
use Rattle.code_model.specs.Sizes.{place_offset}
use Rattle.code_model.specs.FunctionCode.{lent}
use Rattle.image_model.specs.LinkedTables.{planned_places}
use Rattle.plan_report.specs.Subjects.{Subject}
use Rattle.plan_report.specs.Names.{func_name, label_of}
use Rattle.image_symbols.specs.declared.rising.Lying.{Lying}
use Rattle.image_symbols.specs.FunctionLines.{functions}

-- how many instructions a function's block has
abbrev pub count_in : Program → (func block : ℕ) → ℕ
count_in p f b = length (get_or (func_at p f).blocks b no_block).insts

-- a word and a number, which end a line
abbrev pub numbered : (word : List ℕ) → (number : ℕ) → List ℕ
numbered word k = word ++ decimal k ++ line_feed

module _ (s : Subject) where
  abbrev pub inst_count : (func block : ℕ) → ℕ
  inst_count f b = count_in s.program f b

  -- how far behind its function's entry the code of a place begins
  abbrev pub offset_at : (func block place : ℕ) → ℕ
  offset_at f b k =
      let g : NumberedFunc = func_at s.program f in
      let q : Places = planned_places s.program s.needs s.graph s.plan f in
      place_offset g q.sites (lent g q) b k

  -- ---- of a function that lies there

  -- what stands so many bytes behind its entry, in a block
  abbrev pub front_text : Lying → (block offset : ℕ) → List ℕ
  front_text x b n =
      codes "code 0x"
      ++ hexadecimal 8 (x.address + n)
      ++ codes " "
      ++ func_name s.firmware x.number
      ++ codes " block "
      ++ label_of s.firmware x.number b

  abbrev pub place_text : Lying → (block place : ℕ) → List ℕ
  place_text x b k = front_text x b (offset_at x.number b k)

  abbrev pub inst_line : Lying → (block place : ℕ) → List ℕ
  inst_line x b k = place_text x b k ++ numbered (codes " instruction ") k

  -- the block's end stands behind its instructions
  abbrev pub end_line : Lying → (block : ℕ) → List ℕ
  end_line x b = place_text x b (inst_count x.number b) ++ codes " end" ++ line_feed

  abbrev pub inst_lines : Lying → (block : ℕ) → List ℕ
  inst_lines x b = flat_map (inst_line x b) (numbers_below (inst_count x.number b))

  abbrev pub places_of_block : Lying → (block : ℕ) → List ℕ
  places_of_block x b = inst_lines x b ++ end_line x b

  abbrev pub places_of_function : Lying → List ℕ
  places_of_function x = flat_map (places_of_block x) (numbers_below (length (func_at s.program x.number).blocks))

  unfoldable pub code_lines : List ℕ
  code_lines = flat_map places_of_function (functions s)
