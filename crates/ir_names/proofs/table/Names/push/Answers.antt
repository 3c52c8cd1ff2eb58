use Rattle.std.proofs.Common.{arith, cond, Some, bytes_eq, length, ◌≡◌, ◌∙◌, sym, ap, is_some, map, Bor, List, ℕ, ◌∷◌, []}
use Rattle.std.proofs.lemmas.List.{map-append, length-map}
use Rattle.indexmap.specs.IndexMap.{get}
use Rattle.ir_names.specs.Places.{place_in}
use Rattle.ir_names.proofs.FirstPlaces.{put_new, put_again}
use Rattle.ir_names.proofs.table.Names.push.Goals as goal

pub invariant_of-self-then-contains_key : goal.invariant_of-self-then-contains_key
invariant_of-self-then-contains_key c = λ q.
    put_again _ c.as_slice-word.result.now q.now _ (ap is_some (sym (c.self.invariant c.as_slice-word.result)) ∙ (sym c.contains_key.ensures ∙ c.if-contains_key.true)) (c.self.invariant q)
    ∙ ap (λ ns. place_in ns q.now) (sym (map-append (λ (k : Bor (List ℕ)). k.now) c.self.inside.all.items (c.as_slice-word.result ∷ [])) ∙ ap (map (λ (k : Bor (List ℕ)). k.now)) (sym c.in_ok-push.ensures.items))

pub invariant_of-self-in-Ok : goal.invariant_of-self-in-Ok
invariant_of-self-in-Ok c = λ q.
    let counted : c.len-place.result ≡ length c.self.inside.all.items = omega arith in
    put_new (map (λ (k : Bor (List ℕ)). k.now) c.self.inside.all.items) c.as_slice-word.result.now q.now _ _ (ap is_some (sym (c.self.invariant c.as_slice-word.result)) ∙ (sym c.contains_key.ensures ∙ c.if-contains_key.false)) (c.self.invariant q)
    (c.in-Ok.ensures.updates.0 q ∙ ap (λ l. cond (bytes_eq c.as_slice-word.result.now q.now) (Some l) (get (λ a b. bytes_eq a.now b.now) c.self.inside.places q)) (counted ∙ sym (length-map c.self.inside.all.items (λ (k : Bor (List ℕ)). k.now))))
    ∙ ap (λ ns. place_in ns q.now) (sym (map-append (λ (k : Bor (List ℕ)). k.now) c.self.inside.all.items (c.as_slice-word.result ∷ [])) ∙ ap (map (λ (k : Bor (List ℕ)). k.now)) (sym c.in_ok-push.ensures.items))
