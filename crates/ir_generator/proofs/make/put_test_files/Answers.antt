use Rattle.std.proofs.Common.{◌≡◌, ◌+◌, [], ◌∷◌, ◌++◌, map}
use Rattle.std.specs.List.{range_with_len}
use Rattle.std.proofs.lemmas.List.{map_push}
use Rattle.ir_model.specs.Plain.{file_of}
use Rattle.ir_generator.specs.Made.{test_file}
use Rattle.ir_generator.proofs.Growing.{counted_more}
use Rattle.ir_generator.proofs.make.put_test_files.Goals as goal

pub loop-number-preserved : goal.loop-number-preserved
loop-number-preserved c =
    let e : (map file_of c.loop-number.files.items ++ test_file c.args.choices.now c.loop-number.number ∷ [])
    ≡ map file_of c.args.files.now.items ++ map (test_file c.args.choices.now) (range_with_len 0 (c.loop-number.number + 1)) =
    counted_more (test_file c.args.choices.now) (map file_of c.args.files.now.items) (map file_of c.loop-number.files.items) c.loop-number.number c.loop-number.invariant in
    cc (map_push file_of c.loop-number.files.items c.in_ok-test_file.field-0, c.in_ok-push.ensures.items, c.in_ok-test_file.ensures)
