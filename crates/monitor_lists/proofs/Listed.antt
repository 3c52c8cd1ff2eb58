-- One step behind others, for each variant.
use Rattle.std.proofs.Common.{◌≡◌, ℕ, suc, ◌+◌, ◌*◌, ◌/◌, List, [], ◌∷◌, ◌++◌, refl, ap, ◌∙◌, arith}
use Rattle.base_words.specs.declared.memory.Width.{Width}
use Rattle.base_words.specs.declared.memory.Width.TheVariants.{Byte, Half, Word}
use Rattle.base_words.specs.Width.{byte_count}
use Rattle.monitor_steps.specs.declared.steps.PrivilegedStep.{PrivilegedStep}
use Rattle.monitor_steps.specs.declared.steps.PrivilegedStep.TheBlock.{Load, Store}
use Rattle.monitor_steps.specs.Steps as list
use Rattle.monitor_steps.specs.Steps.{PrivilegedSteps}
use Rattle.monitor_steps.specs.Lists.{before, all_before}
use Rattle.monitor_program.specs.Opening.{region, regions}
use Rattle.monitor_steps.proofs.Views.{all_before-append, before-Load, before-Store}

pub one_more : (old new : List PrivilegedStep) (s : PrivilegedStep) (f : PrivilegedSteps → PrivilegedSteps) → new ≡ old ++ s ∷ [] → ((rest : PrivilegedSteps) → before s rest ≡ f rest) → (rest : PrivilegedSteps) → all_before new rest ≡ all_before old (f rest)
one_more old new s f e g rest = ap (λ x. all_before x rest) e ∙ all_before-append old (s ∷ []) rest ∙ ap (all_before old) (g rest)

-- at the address itself
no_widths : (width : Width) → 0 / byte_count width ≡ 0
no_widths Byte = refl
no_widths Half = refl
no_widths Word = refl

pub load_at_once : (to base : ℕ) (width : Width) (rest : PrivilegedSteps) → before (Load to base 0 width) rest ≡ list.Load width to base 0 rest
load_at_once to base width rest = before-Load to base 0 width rest ∙ ap (λ n. list.Load width to base n rest) (no_widths width)

pub store_at_once : (from base : ℕ) (width : Width) (rest : PrivilegedSteps) → before (Store from base 0 width) rest ≡ list.Store width from base 0 rest
store_at_once from base width rest = before-Store from base 0 width rest ∙ ap (λ n. list.Store width from base n rest) (no_widths width)

-- so many words behind it
of_words : (n : ℕ) → 4 * n / 4 ≡ n
of_words n = omega arith

pub load_words : (to base words : ℕ) (rest : PrivilegedSteps) → before (Load to base (4 * words) Word) rest ≡ list.Load Word to base words rest
load_words to base words rest = before-Load to base (4 * words) Word rest ∙ ap (λ n. list.Load Word to base n rest) (of_words words)

pub store_words : (from base words : ℕ) (rest : PrivilegedSteps) → before (Store from base (4 * words) Word) rest ≡ list.Store Word from base words rest
store_words from base words rest = before-Store from base (4 * words) Word rest ∙ ap (λ n. list.Store Word from base n rest) (of_words words)

-- regions are put one after the other
pub one_region_more : (new old : List PrivilegedStep) (n from : ℕ) → ((rest : PrivilegedSteps) → all_before new rest ≡ all_before old (region from rest))
    → (rest : PrivilegedSteps) → all_before new (regions n (from + 2) rest) ≡ all_before old (regions (suc n) from rest)
one_region_more new old n from e rest = e (regions n (from + 2) rest)
