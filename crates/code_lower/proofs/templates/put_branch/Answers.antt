use Rattle.std.proofs.Common.{List, [], ◌∷◌, ◌++◌, ap, arith}
use Rattle.machine_thumb_asm.specs.declared.item.Item.{Item}
use Rattle.machine_thumb_asm.specs.declared.item.Item.TheVariants.{Branch}
use Rattle.machine_thumb_asm.specs.declared.item.BranchKind.TheVariants.{Long}
use Rattle.machine_thumb_asm.specs.Assembly.{here}
use Rattle.code_model.specs.Words.{plain}
use Rattle.code_model.specs.Templates.{test_code, jump_items}
use Rattle.code_lower.specs.Subjects.{first_label}
use Rattle.code_lower.proofs.Putting.{left_fits, here_more}
use Rattle.code_lower.proofs.templates.put_branch.Goals as goal

pub branch-asm-requires-clause-room : goal.branch-asm-requires-clause-room
branch-asm-requires-clause-room c =
    let n = first_label c.args.subject.now.labels.items in
    let x : List Item = plain (test_code c.args.on) in
    let y : List Item = jump_items n c.args.yes ++ jump_items n c.args.no in
    let r = left_fits c.args.asm.now c.put.new.asm x y (rw c.load_home.ensures.code at c.in_ok-put.ensures) c.requires.room in
    omega (arith, r.below)

pub branch-asm-requires-2-clause-room : goal.branch-asm-requires-2-clause-room
branch-asm-requires-2-clause-room c =
    let n = first_label c.args.subject.now.labels.items in
    let x : List Item = plain (test_code c.args.on) in
    let y : List Item = jump_items n c.args.yes ++ jump_items n c.args.no in
    let r = left_fits c.args.asm.now c.put.new.asm x y (rw c.load_home.ensures.code at c.in_ok-put.ensures) c.requires.room in
    let e = ap here c.in_ok-branch.ensures.ok in
    let f = here_more c.put.new.asm (Branch Long c.label.result ∷ []) in
    omega (arith, r.below, e, f)
