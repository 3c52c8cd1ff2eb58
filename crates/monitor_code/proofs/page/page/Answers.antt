use Rattle.std.proofs.Common.{◌≡◌, ◌+◌, ◌≤◌, List, [], ℕ, None, length, subst, ap, sym, ◌∙◌, arith}
use Rattle.machine_thumb_asm.specs.Assembly.{Assembly, ArePut, here}
use Rattle.machine_thumb_asm.specs.Finished.{first_far}
use Rattle.monitor_steps.specs.Lists.{steps_of}
use Rattle.monitor_steps.specs.Code.{code_length}
use Rattle.monitor_model.specs.Layout.{page_size}
use Rattle.monitor_program.specs.Constants.{Constants}
use Rattle.monitor_program.specs.Page.{stub_offset, svc_offset, memfault_offset, used_bytes, page, filled_up}
use Rattle.monitor_lists.specs.Made.{constants_of}
use Rattle.monitor_code.specs.Whole.{lists_code}
use Rattle.monitor_code.proofs.Paged.{all_fit_in, joined, all_put, all_near, page_bytes, if_ok, used_is_short}
use Rattle.monitor_code.proofs.page.page.Goals as goal

pub put_lists-requires : goal.put_lists-requires
put_lists-requires c =
    let n = c.in_ok-numbers.numbers in
    let is = c.in_ok-numbers.ensures in
    let short = subst (λ (x : Constants). stub_offset x + 2 ≤ page_size) (sym is) (c.page_is_full.ensures.fits c.args.t.now) in
    let first = ap here c.new-asm.ensures in
    let words = ap (λ (xs : List ℕ). length xs) c.vectors.ensures in
    all_fit_in (constants_of n) c.in_ok-lists.lists c.put_words.new.asm n.few_slots c.in_ok-lists.ensures short (omega (arith, first, words, c.in_ok-put_words.ensures.next))

pub finished-requires-clause-put : goal.finished-requires-clause-put
finished-requires-clause-put c =
    let j = joined c.new-asm.result c.put_words.new.asm c.put_lists.new.asm c.vectors.result (lists_code c.in_ok-lists.lists) c.new-asm.ensures c.in_ok-put_words.ensures c.in_ok-put_lists.ensures in
    subst (λ (x : Assembly). ArePut x.places x.items) (sym j) (all_put [] c.vectors.result (lists_code c.in_ok-lists.lists))

pub finished-requires-clause-near : goal.finished-requires-clause-near
finished-requires-clause-near c =
    let j = joined c.new-asm.result c.put_words.new.asm c.put_lists.new.asm c.vectors.result (lists_code c.in_ok-lists.lists) c.new-asm.ensures c.in_ok-put_words.ensures c.in_ok-put_lists.ensures in
    subst (λ (x : Assembly). first_far x.places x.base x.items ≡ None) (sym j) (all_near [] 0 c.vectors.result (lists_code c.in_ok-lists.lists))

pub filled_up-requires : goal.filled_up-requires
filled_up-requires c =
    let t = c.args.t.now in
    let k = constants_of c.in_ok-numbers.numbers in
    let l = c.in_ok-lists.lists in
    let call : 64 + c.length_of-svc_at.result ≡ svc_offset k = omega (arith, c.length_of-svc_at.ensures, ap (λ ss. code_length (steps_of ss)) c.deref.ensures.value, ap code_length c.in_ok-lists.ensures.start) in
    let fault : 64 + c.length_of-svc_at.result + c.length_of.result ≡ memfault_offset k = omega (arith, call, c.length_of.ensures, ap (λ ss. code_length (steps_of ss)) c.deref-2.ensures.value, ap code_length c.in_ok-lists.ensures.svc) in
    let b = page_bytes t k l c.new-asm.result c.put_words.new.asm c.put_lists.new.asm c.vectors.result _ _ c.in_ok-lists.ensures c.new-asm.ensures c.vectors.ensures call fault c.in_ok-put_words.ensures c.in_ok-put_lists.ensures in
    let u = c.in_ok-finished.ensures ∙ b ∙ ap (λ (x : Constants). used_bytes t x) c.in_ok-numbers.ensures in
    subst (λ (xs : List ℕ). length xs ≤ 4096) (sym u) (used_is_short t (c.page_is_full.ensures.full t))

pub returns-clause-bytes : goal.returns-clause-bytes
unfolding page
returns-clause-bytes c =
    let t = c.args.t.now in
    let k = constants_of c.in_ok-numbers.numbers in
    let l = c.in_ok-lists.lists in
    let call : 64 + c.length_of-svc_at.result ≡ svc_offset k = omega (arith, c.length_of-svc_at.ensures, ap (λ ss. code_length (steps_of ss)) c.deref.ensures.value, ap code_length c.in_ok-lists.ensures.start) in
    let fault : 64 + c.length_of-svc_at.result + c.length_of.result ≡ memfault_offset k = omega (arith, call, c.length_of.ensures, ap (λ ss. code_length (steps_of ss)) c.deref-2.ensures.value, ap code_length c.in_ok-lists.ensures.svc) in
    let b = page_bytes t k l c.new-asm.result c.put_words.new.asm c.put_lists.new.asm c.vectors.result _ _ c.in_ok-lists.ensures c.new-asm.ensures c.vectors.ensures call fault c.in_ok-put_words.ensures c.in_ok-put_lists.ensures in
    let u = c.in_ok-finished.ensures ∙ b ∙ ap (λ (x : Constants). used_bytes t x) c.in_ok-numbers.ensures in
    if_ok c.filled_up.result (λ bytes e. e ∙ ap (λ (xs : List ℕ). filled_up 4096 xs) u) c.filled_up.ensures.filled
