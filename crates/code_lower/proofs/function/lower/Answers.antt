use Rattle.std.proofs.Common.{◌≡◌, ℕ, ◌+◌, ◌<◌, ◌^◌, ◌++◌, length, replicate, None, subst, sym, ap, ◌∙◌, arith}
use Rattle.std.proofs.lemmas.Result.{on_ok_weaker}
use Rattle.machine_thumb_asm.specs.Assembly.{Assembly, here}
use Rattle.ir_model.specs.Resolved.{NumberedFunc, func_at}
use Rattle.ir_program.specs.Seen.{program_of}
use Rattle.code_model.specs.declared.places.Places.{Places}
use Rattle.code_model.specs.Places.{entry_address}
use Rattle.code_model.specs.Templates.{entry_items}
use Rattle.code_lower.specs.Subjects.{func_of}
use Rattle.code_model.specs.Emitted.{with_function, size_in, AreNear}
use Rattle.code_lower.proofs.Whole.{entry_room, blocks_room, blocks_near, blocks_even, whole_put}
use Rattle.code_lower.proofs.function.lower.Goals as goal

pub put_entry-requires-clause-room : goal.put_entry-requires-clause-room
put_entry-requires-clause-room c =
    let s = c.in_ok-subject.subject in
    let g = func_of s in
    let q = s.places.now in
    let a = c.args.asm.now in
    let f = func_at (program_of c.args.program.now) c.args.func in
    let made = c.in_ok-subject.ensures in
    let size : size_in q g ≡ size_in c.args.places.now f = ap (λ (r : Places). size_in r g) made.places ∙ ap (λ (h : NumberedFunc). size_in c.args.places.now h) made.func in
    let room : here a + size_in q g < 2 ^ 31 = omega arith in
    entry_room g q a c.make_subject.new.asm 0 (ap here made.asm) room

pub put_blocks-requires-clause-even : goal.put_blocks-requires-clause-even
put_blocks-requires-clause-even c =
    let s = c.in_ok-subject.subject in
    let g = func_of s in
    let q = s.places.now in
    let a = c.args.asm.now in
    let b = c.put_entry.new.asm in
    let f = func_at (program_of c.args.program.now) c.args.func in
    let made = c.in_ok-subject.ensures in
    let entered = c.in_ok-put_entry.ensures in
    let first = made.first in
    let base = ap (λ (x : Assembly). x.base) entered ∙ ap (λ (x : Assembly). x.base) made.asm in
    let items = ap (λ (x : Assembly). x.items) entered ∙ ap (λ (x : Assembly). x.items ++ entry_items g q) made.asm in
    let places = ap (λ (x : Assembly). x.places) entered ∙ (ap (λ (x : Assembly). x.places) made.asm ∙ ap (λ (h : NumberedFunc). a.places ++ replicate (length h.blocks) None) (sym made.func)) in
    let size : size_in q g ≡ size_in c.args.places.now f = ap (λ (r : Places). size_in r g) made.places ∙ ap (λ (h : NumberedFunc). size_in c.args.places.now h) made.func in
    let P : ℕ → Type 0 = λ n. AreNear (here a) (here a + n) c.args.places.now.entries in
    let Q : Places → Type 0 = λ r. AreNear (here a) (here a + size_in q g) r.entries in
    let near : AreNear (here a) (here a + size_in q g) q.entries = subst Q (sym made.places) (subst P (sym size) c.requires.near) in
    let there : c.args.func < length q.entries = (let l = ap (λ (r : Places). length r.entries) made.places in omega arith) in
    blocks_even s a b first base items places c.args.func there (ap (λ (r : Places). entry_address r c.args.func) made.places ∙ c.requires.entry) near

pub put_blocks-requires-clause-near : goal.put_blocks-requires-clause-near
put_blocks-requires-clause-near c =
    let s = c.in_ok-subject.subject in
    let g = func_of s in
    let q = s.places.now in
    let a = c.args.asm.now in
    let b = c.put_entry.new.asm in
    let f = func_at (program_of c.args.program.now) c.args.func in
    let made = c.in_ok-subject.ensures in
    let entered = c.in_ok-put_entry.ensures in
    let first = made.first in
    let base = ap (λ (x : Assembly). x.base) entered ∙ ap (λ (x : Assembly). x.base) made.asm in
    let items = ap (λ (x : Assembly). x.items) entered ∙ ap (λ (x : Assembly). x.items ++ entry_items g q) made.asm in
    let places = ap (λ (x : Assembly). x.places) entered ∙ (ap (λ (x : Assembly). x.places) made.asm ∙ ap (λ (h : NumberedFunc). a.places ++ replicate (length h.blocks) None) (sym made.func)) in
    let size : size_in q g ≡ size_in c.args.places.now f = ap (λ (r : Places). size_in r g) made.places ∙ ap (λ (h : NumberedFunc). size_in c.args.places.now h) made.func in
    let P : ℕ → Type 0 = λ n. AreNear (here a) (here a + n) c.args.places.now.entries in
    let Q : Places → Type 0 = λ r. AreNear (here a) (here a + size_in q g) r.entries in
    let near : AreNear (here a) (here a + size_in q g) q.entries = subst Q (sym made.places) (subst P (sym size) c.requires.near) in
    blocks_near s a b first base items places q.entries near

pub put_blocks-requires-clause-room : goal.put_blocks-requires-clause-room
put_blocks-requires-clause-room c =
    let s = c.in_ok-subject.subject in
    let g = func_of s in
    let q = s.places.now in
    let a = c.args.asm.now in
    let b = c.put_entry.new.asm in
    let f = func_at (program_of c.args.program.now) c.args.func in
    let made = c.in_ok-subject.ensures in
    let entered = c.in_ok-put_entry.ensures in
    let first = made.first in
    let base = ap (λ (x : Assembly). x.base) entered ∙ ap (λ (x : Assembly). x.base) made.asm in
    let items = ap (λ (x : Assembly). x.items) entered ∙ ap (λ (x : Assembly). x.items ++ entry_items g q) made.asm in
    let places = ap (λ (x : Assembly). x.places) entered ∙ (ap (λ (x : Assembly). x.places) made.asm ∙ ap (λ (h : NumberedFunc). a.places ++ replicate (length h.blocks) None) (sym made.func)) in
    let size : size_in q g ≡ size_in c.args.places.now f = ap (λ (r : Places). size_in r g) made.places ∙ ap (λ (h : NumberedFunc). size_in c.args.places.now h) made.func in
    let room : here a + size_in q g < 2 ^ 31 = omega arith in
    blocks_room s a b first base items places room

pub returns : goal.returns
returns c =
    let s = c.in_ok-subject.subject in
    let g = func_of s in
    let q = s.places.now in
    let a = c.args.asm.now in
    let b = c.put_entry.new.asm in
    let f = func_at (program_of c.args.program.now) c.args.func in
    let made = c.in_ok-subject.ensures in
    let entered = c.in_ok-put_entry.ensures in
    let first = made.first in
    let base = ap (λ (x : Assembly). x.base) entered ∙ ap (λ (x : Assembly). x.base) made.asm in
    let items = ap (λ (x : Assembly). x.items) entered ∙ ap (λ (x : Assembly). x.items ++ entry_items g q) made.asm in
    let places = ap (λ (x : Assembly). x.places) entered ∙ (ap (λ (x : Assembly). x.places) made.asm ∙ ap (λ (h : NumberedFunc). a.places ++ replicate (length h.blocks) None) (sym made.func)) in
    on_ok_weaker _
    (λ h. whole_put s a b first base items places c.put_blocks.new.asm h
    ∙ (ap (λ (k : NumberedFunc). with_function a k q) made.func ∙ ap (λ (r : Places). with_function a f r) made.places))
    c.put_blocks.ensures
