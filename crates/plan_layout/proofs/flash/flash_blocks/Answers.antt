use Rattle.std.proofs.Common.{◌≡◌, ℕ, List, [], ◌∷◌, ◌++◌, ap, ◌∙◌, arith}
use Rattle.plan_model.specs.Choices.{greatest}
use Rattle.plan_model.specs.FlashPlacement.{flash_blocks, tables_block}
use Rattle.plan_layout.proofs.flash.flash_blocks.Goals as goal

pub returns : goal.returns
unfolding flash_blocks
returns c =
    let code = c.args.code.now in
    let s = c.args.sizes.now in
    let all = c.greatest.ensures ∙ ap greatest c.requires in
    let first : c.max.result ≡ tables_block s = omega arith in
    c.in_ok-extend_from_slice.ensures.items
    ∙ (ap (λ (xs : List ℕ). xs ++ code) (c.in_ok-push.ensures.items ∙ ap (λ (xs : List ℕ). xs ++ c.max.result ∷ []) c.new-blocks.ensures.items)
    ∙ (ap (λ (n : ℕ). n ∷ code) first ∙ ap (λ (xs : List ℕ). tables_block s ∷ xs) c.requires))
