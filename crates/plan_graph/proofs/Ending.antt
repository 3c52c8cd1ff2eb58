-- Joins come to an end, and to one.
use Rattle.std.proofs.Common.{◌≡◌, ℕ, zero, suc, ◌<◌, ◌≤◌, Option, Some, None, refl, sym, ap, subst, ◌∙◌, arith}
use Rattle.std.specs.Prelude.{IfSome}
use Rattle.ir_model.specs.Resolved.{Program}
use Rattle.plan_model.specs.declared.graph.Graph.{Graph}
use Rattle.plan_model.specs.declared.graph.Final.{Final}
use Rattle.plan_model.specs.Merging.{next}
use Rattle.plan_model.specs.FinalGraph.{Merges, stays, joins, IsMerged, as_final}
use Rattle.plan_graph.specs.Merging.{parts_of}
use Rattle.plan_graph.specs.Fitting.{Fits}

-- ---- one end

none_is_some : {X : Type 0} {o : Option X} {x : X} → o ≡ None → o ≡ Some x → ⊥
none_is_some e f = let wrong : None ≡ Some _ = sym e ∙ f in cc

same_some : {X : Type 0} {o : Option X} {x y : X} → o ≡ Some x → o ≡ Some y → x ≡ y
same_some e f = let same : Some _ ≡ Some _ = sym e ∙ f in cc

one_last : (p : Program) (slots : ℕ) {g a b : Graph} → Merges p slots g a → next p slots a ≡ None → Merges p slots g b → next p slots b ≡ None → a ≡ b
one_last p slots stays ea stays eb = refl
one_last p slots stays ea (joins e m) eb = absurd (none_is_some ea e)
one_last p slots (joins e m) ea stays eb = absurd (none_is_some eb e)
one_last p slots {b = b} (joins e m) ea (joins f n) eb = one_last p slots m ea (subst (λ x. Merges p slots x b) (same_some f e) n) eb

-- the final graph is one
pub one_final : (p : Program) (slots : ℕ) (g : Graph) (f h : Final) → IsMerged p slots g f → IsMerged p slots g h → f ≡ h
one_final p slots g f h m n = m.is ∙ (ap as_final (one_last p slots m.reached m.ended n.reached n.ended) ∙ sym n.is)

-- one more join at the end
pub more_joined : (p : Program) (slots : ℕ) {g a b : Graph} → Merges p slots g a → next p slots a ≡ Some b → Merges p slots g b
more_joined p slots stays e = joins e stays
more_joined p slots (joins f m) e = joins f (more_joined p slots m e)

-- ---- an end

-- a graph that fits and has fewer parts than the one before it
pub record Comes (g h : Graph) : Type 0 where
  pub fits : Fits h
  pub fewer : parts_of h < parts_of g

module _ (p : Program) (slots : ℕ) (step : (g : Graph) → Fits g → IfSome (next p slots g) (Comes g)) where
  goes_on : (g : Graph) → ((h : Graph) → Fits h → parts_of h < parts_of g → (f : Final) × IsMerged p slots h f) → (o : Option Graph) → next p slots g ≡ o → IfSome o (Comes g)
      → (f : Final) × IsMerged p slots g f
  goes_on g later None e c = (as_final g, record { last = g; reached = stays; ended = e; is = refl })
  goes_on g later (Some h) e c = let m = later h c.fits c.fewer in (m.0, record { last = m.1.last; reached = joins e m.1.reached; ended = m.1.ended; is = m.1.is })

  ends : (n : ℕ) (g : Graph) → parts_of g ≤ n → Fits g → (f : Final) × IsMerged p slots g f
  ends zero g l fits = goes_on g (λ h f less. absurd (omega arith)) (next p slots g) refl (step g fits)
  ends (suc n) g l fits = goes_on g (λ h f less. ends n h (omega arith) f) (next p slots g) refl (step g fits)

  pub a_final : (g : Graph) → Fits g → (f : Final) × IsMerged p slots g f
  a_final g fits = ends (parts_of g) g (omega arith) fits
