-- What is known of regions tells the exposure that a join adds.
use Rattle.std.proofs.Common.{◌≡◌, ℕ, ◌+◌, ◌*◌, Bool, not, List, length, get_or, false, ap, ◌∙◌, arith}
use Rattle.std.proofs.lemmas.List.Elements.{filter_agree}
use Rattle.ir_model.specs.Resolved.{Program}
use Rattle.plan_model.specs.declared.graph.DataRegion.{DataRegion}
use Rattle.plan_model.specs.Lists.{has, without}
use Rattle.plan_model.specs.Regions.{users, size_of}
use Rattle.plan_model.specs.Exposure.{added_exposure, exposure_to_writers}
use Rattle.plan_graph.specs.declared.known.Known.{Known}
use Rattle.plan_graph.specs.Known.{AreFlags, unflagged, IsKnown, exposure_of}

-- the numbers without those of another list are those whose flag is not set
unflagged_are : (ns ms : List ℕ) (flags : List Bool) → AreFlags ms flags → unflagged ns flags ≡ without ns ms
unflagged_are ns ms flags h = filter_agree (λ n. not (get_or flags n false)) (λ n. not (has ms n)) (λ n. ap not (h n)) ns

alone : (ms ns xs : List ℕ) (flags : List Bool) (size bytes : ℕ) → AreFlags ms flags → xs ≡ ns → size ≡ bytes → size * length (unflagged xs flags) ≡ bytes * length (without ns ms)
alone ms ns xs flags size bytes h e s =
    ap (λ k. k * length (unflagged xs flags)) s
    ∙ (ap (λ ys. bytes * length (unflagged ys flags)) e ∙ ap (λ ys. bytes * length ys) (unflagged_are ns ms flags h))

pub exposure_is : (p : Program) (a b : DataRegion) (x y : Known) → IsKnown p a x → IsKnown p b y → exposure_of x y ≡ added_exposure p a b
unfolding exposure_of added_exposure
exposure_is p a b x y h k =
    let one = alone a.writers b.writers y.writers x.writes x.size (size_of p a.globals) h.writes k.writers h.size in
    let two = alone b.writers a.writers x.writers y.writes y.size (size_of p b.globals) k.writes h.writers k.size in
    let three = alone (users a) (users b) y.users x.uses x.size (size_of p a.globals) h.uses k.users h.size in
    let four = alone (users b) (users a) x.users y.uses y.size (size_of p b.globals) k.uses h.users k.size in
    ap (λ n. n + y.size * length (unflagged x.writers y.writes) + (x.size * length (unflagged y.users x.uses) + y.size * length (unflagged x.users y.uses))) one
    ∙ (ap (λ n. size_of p a.globals * length (without b.writers a.writers) + n + (x.size * length (unflagged y.users x.uses) + y.size * length (unflagged x.users y.uses))) two
    ∙ (ap (λ n. exposure_to_writers p a b + (n + y.size * length (unflagged x.users y.uses))) three
    ∙ ap (λ n. exposure_to_writers p a b + (size_of p a.globals * length (without (users b) (users a)) + n)) four))

-- it is the same the other way round
pub exposure_turned : (x y : Known) → exposure_of x y ≡ exposure_of y x
unfolding exposure_of
exposure_turned x y =
    turned (x.size * length (unflagged y.writers x.writes)) (y.size * length (unflagged x.writers y.writes)) (x.size * length (unflagged y.users x.uses)) (y.size * length (unflagged x.users y.uses))
  where
    turned : (a b c d : ℕ) → a + b + (c + d) ≡ b + a + (d + c)
    turned a b c d = omega arith

-- ---- step by step

pub counted : (xs ns : List ℕ) (fs flags : List Bool) (count size bytes : ℕ) → bytes ≡ size * count → count ≡ length (unflagged xs fs) → xs ≡ ns → fs ≡ flags → bytes ≡ size * length (unflagged ns flags)
counted xs ns fs flags count size bytes b c e f = b ∙ (ap (λ n. size * n) c ∙ (ap (λ ys. size * length (unflagged ys fs)) e ∙ ap (λ gs. size * length (unflagged ns gs)) f))

pub summed : (x y : Known) (all writers users one two three four : ℕ) → all ≡ writers + users → writers ≡ one + two → users ≡ three + four
    → one ≡ x.size * length (unflagged y.writers x.writes) → two ≡ y.size * length (unflagged x.writers y.writes)
    → three ≡ x.size * length (unflagged y.users x.uses) → four ≡ y.size * length (unflagged x.users y.uses) → all ≡ exposure_of x y
unfolding exposure_of
summed x y all writers users one two three four a w u e f g h =
    a ∙ (ap (λ n. n + users) (w ∙ (ap (λ n. n + two) e ∙ ap (λ n. x.size * length (unflagged y.writers x.writes) + n) f))
    ∙ ap (λ n. x.size * length (unflagged y.writers x.writes) + y.size * length (unflagged x.writers y.writes) + n) (u ∙ (ap (λ n. n + four) g ∙ ap (λ n. x.size * length (unflagged y.users x.uses) + n) h)))
