use Rattle.std.proofs.Common.{◌≡◌, ℕ, ◌+◌, [], ◌∷◌, ◌++◌, length, replicate, None, refl, sym, ap, ◌∙◌, append_assoc}
use Rattle.std.proofs.lemmas.List.{length-append, length-replicate, replicate_more}
use Rattle.std.proofs.lemmas.List.FromFn.{map-range_with_len_more}
use Rattle.machine_thumb_asm.specs.Assembly.{Assembly}
use Rattle.machine_thumb_asm.specs.declared.item.Label.{Label}
use Rattle.code_lower.specs.Subjects.{labels_from}
use Rattle.code_lower.proofs.subject.new_labels.Goals as goal

pub loop-k-preserved : goal.loop-k-preserved
loop-k-preserved c =
    let a = c.args.asm.now in
    let k = c.loop-k.k in
    let ps = a.places in
    let f : ℕ → Label = λ i. record { number = i } in
    let there : length c.loop-k.asm.places ≡ length ps + k =
    ap (λ (x : Assembly). length x.places) c.loop-k.invariant.asm ∙ (length-append ps (replicate k None) ∙ ap (λ n. length ps + n) (length-replicate k None)) in
    let number : c.in_ok-label.field-0.number ≡ length ps + k = c.in_ok-label.ensures.ok.0 ∙ there in
    record {
      labels = c.in_ok-push.ensures.items ∙ (ap (λ xs. xs ++ c.in_ok-label.field-0 ∷ []) c.loop-k.invariant.labels
          ∙ (ap (λ n. labels_from (length ps) k ++ record { number = n } ∷ []) number ∙ sym (map-range_with_len_more f (length ps) k (length ps + k) refl)));
      asm = c.in_ok-label.ensures.ok.1 ∙ ap (λ (x : Assembly). record x { places = x.places ++ None ∷ [] }) c.loop-k.invariant.asm
          ∙ ap (λ xs. record a { places = xs }) (append_assoc ps (replicate k None) (None ∷ []) ∙ ap (λ xs. ps ++ xs) (replicate_more k None));
    }
