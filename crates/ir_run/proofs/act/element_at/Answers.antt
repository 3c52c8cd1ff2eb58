use Rattle.std.proofs.Common.{◌≡◌, ◌+◌, ◌*◌, map, sym, ap, ◌∙◌}
use Rattle.ir_model.specs.Plain.{struct_of}
use Rattle.ir_model.specs.Layout.{known, shape}
use Rattle.ir_model.specs.Resolved.{At}
use Rattle.ir_model.specs.Step.{act, with_pointer, register, number_in, Sets}
use Rattle.base_words.specs.Arithmetic.{word}
use Rattle.ir_program.specs.Storages.{pointee_of}
use Rattle.ir_program.specs.Values.{instance_of}
use Rattle.ir_run.specs.Acts.{frame_of}
use Rattle.ir_run.proofs.Elements.{offset_word}
use Rattle.ir_run.proofs.act.element_at.Goals as goal

pub element_size-size-requires : goal.element_size-size-requires
element_size-size-requires c = c.requires (instance_of c.in-Some.field-0.instance) c.in-Some.field-0.offset (sym c.register.ensures ∙ c.in-Some.ensures)

pub returns-in-Some : goal.returns-in-Some
unfolding act
returns-in-Some c =
    let fr = frame_of c.args.frame.now in
    let o = instance_of c.in-Some.field-0.instance in
    let at = c.in-Some.field-0.offset in
    let n = number_in (register fr c.args.index) in
    let exact = (shape (known (map struct_of c.args.layouts.now)) (pointee_of c.args.element)).size in
    let is : register fr c.args.base ≡ At o at = sym c.register.ensures ∙ c.in-Some.ensures in
    let m : c.number_in.result ≡ n = c.number_in.ensures ∙ ap number_in c.register-in-Some.ensures in
    let behind : c.multiply-behind.result ≡ word (n * exact) = c.multiply-behind.ensures ∙ (ap (λ k. word (k * c.element_size-size.result)) m ∙ ap (λ k. word (n * k)) c.element_size-size.ensures) in
    let moved : c.add.result ≡ word (at + n * exact) = offset_word at n exact c.multiply-behind.result c.add.result behind c.add.ensures in
    ap (λ v. Sets c.args.to v) (c.at.ensures ∙ ap (λ k. At o k) moved)
    ∙ sym (ap (λ v. with_pointer v (λ p k. Sets c.args.to (At p (word (k + n * exact))))) is)
