use Rattle.std.proofs.Common.{◌≡◌, true, ◌&&◌, sym, ap, ◌∙◌}
use Rattle.std.specs.Cmp.Lexicographic.{same_text}
use Rattle.std.proofs.lemmas.Bool.{and_parts}
use Rattle.plan_model.specs.InitialGraph.{Users, same_users}
use Rattle.plan_model.specs.Lists.{same_numbers}

pub same_through : (x z y : Users) → same_users x z ≡ true → same_users z y ≡ true → same_users x y ≡ true
same_through x z y e f =
    let parts = and_parts (same_numbers x.writers z.writers) (same_numbers x.readers z.readers) e in
    let writers : x.writers ≡ z.writers = same_text x.writers z.writers (sym parts.0) in
    let readers : x.readers ≡ z.readers = same_text x.readers z.readers (sym parts.1) in
    ap (λ ws. same_numbers ws y.writers && same_numbers x.readers y.readers) writers ∙ (ap (λ rs. same_numbers z.writers y.writers && same_numbers rs y.readers) readers ∙ f)
