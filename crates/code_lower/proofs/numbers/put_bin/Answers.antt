use Rattle.std.proofs.Common.{List, [], ◌∷◌, ◌++◌}
use Rattle.machine_thumb_asm.specs.declared.item.Item.{Item}
use Rattle.code_model.specs.Words.{plain, load_home, save}
use Rattle.code_model.specs.Numbers.{operation}
use Rattle.code_model.specs.Emitted.{with_more, HasRoom}
use Rattle.code_lower.proofs.Putting.{room_rest, plain-append}
use Rattle.code_lower.proofs.numbers.put_bin.Goals as goal

pub put-requires-2-clause-room : goal.put-requires-2-clause-room
put-requires-2-clause-room c =
    let a = c.args.asm.now in
    let xs : List Item = plain (load_home 0 c.args.a ∷ load_home 1 c.args.b ∷ []) in
    let ys : List Item = plain (operation c.args.op) in
    let zs : List Item = plain (save c.args.to ∷ []) in
    let whole : HasRoom a (xs ++ (ys ++ zs)) = rw (plain-append (operation c.args.op) (save c.args.to ∷ [])) at c.requires.room in
    rw (c.save.ensures.code, c.in_ok-put_operation.ensures, c.in_ok-put.ensures, c.load_home.ensures.code, c.load_home-2.ensures.code)
    (room_rest (with_more a xs) ys zs (room_rest a xs (ys ++ zs) whole))
