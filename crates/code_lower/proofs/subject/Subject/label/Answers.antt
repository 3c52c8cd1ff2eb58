use Rattle.std.proofs.Common.{◌<◌, length, ap, ◌∙◌, arith}
use Rattle.std.proofs.lemmas.List.{get_or_read}
use Rattle.machine_thumb_asm.specs.declared.item.Label.{Label}
use Rattle.code_lower.proofs.Preparing.{labels_length, label_is}
use Rattle.code_lower.proofs.subject.Subject.label.Goals as goal

pub index-requires : goal.index-requires
index-requires c =
    let s = c.args.self.now in
    omega (arith, s.labels.ok.0, labels_length s c.requires.subject)

pub returns : goal.returns
returns c =
    let s = c.args.self.now in
    let d : Label = record { number = 0 } in
    let b : c.args.block < length s.labels.items = omega (arith, labels_length s c.requires.subject) in
    record { exact = ap (λ (l : Label). l.number) (get_or_read s.labels.items _ _ b c.index.ensures d) ∙ label_is s c.args.block d c.requires.subject c.requires.there }
