-- Runs from point to point, by runs from state to state.
use Rattle.std.proofs.Common.{◌≡◌, ℕ, ◌+◌, List, [], ◌∷◌, ◌++◌, length, Option, refl, arith}
use Rattle.base_words.specs.declared.conditions.Flags.{Flags}
use Rattle.machine_devices.specs.declared.image.Image.{Image}
use Rattle.base_events.specs.declared.event.Event.{Event}
use Rattle.machine_model.specs.declared.state.End.{End}
use Rattle.machine_model.specs.State.{State, PermissionTest}
use Rattle.machine_model.specs.Code.{Runs}
use Rattle.machine_model.specs.RunningCode.{Context, works}
use Rattle.machine_model.proofs.Exec.{onward}
use Rattle.code_effects.specs.Points.{Point, AreAsKnown, state_at, Arrives, Leads, Reaches, Finishes, RunsJoin}
use Rattle.code_effects.proofs.Registers.{holds_nothing}

module _ (j : PermissionTest) (i : Image) where
  -- a run whose end is written in another way
  pub ends_at : (k : ℕ) (s : State) (x : Context) (low : List ℕ) (sp lr pc to : ℕ) (f : Flags) (ram : List ℕ) (queues : List (List ℕ)) (es : List Event) → pc ≡ to →
      Runs j i k s (works x low sp lr pc f ram queues) es → Runs j i k s (works x low sp lr to f ram queues) es
  ends_at k s x low sp lr pc to f ram queues es e h = rw e at h

  pub arrives_at : (k : ℕ) (s : State) (x : Context) (registers : List (Option ℕ)) (low : List ℕ) (sp sp2 lr lr2 pc to : ℕ) (f : Flags) (ram : List ℕ) (queues : List (List ℕ)) (es : List Event) → sp ≡ sp2 → lr ≡ lr2 → pc ≡ to →
      AreAsKnown registers low → Runs j i k s (works x low sp lr pc f ram queues) es → Arrives j i k s (record { context = x; registers = registers; sp = sp2; lr = lr2; pc = to; ram = ram; queues = queues }) es
  arrives_at k s x registers low sp sp2 lr lr2 pc to f ram queues es a b c h g = record { low = low; flags = f; holds = h; runs = rw (a, b, c) at g }

  -- and one whose steps are counted in another way
  pub counted : (k m : ℕ) {s : State} {q : Point} {es : List Event} → k ≡ m → Arrives j i k s q es → Arrives j i m s q es
  counted k m e h = rw e at h

  -- a run of which the program counter alone is written in another way
  pub landed : (k : ℕ) (s : State) (x : Context) (known : List (Option ℕ)) (low : List ℕ) (sp lr pc to : ℕ) (f : Flags) (ram : List ℕ) (queues : List (List ℕ)) (es : List Event) → pc ≡ to → AreAsKnown known low →
      Runs j i k s (works x low sp lr pc f ram queues) es → Arrives j i k s (record { context = x; registers = known; sp = sp; lr = lr; pc = to; ram = ram; queues = queues }) es
  landed k s x known low sp lr pc to f ram queues es e h g = arrives_at k s x known low sp sp lr lr pc to f ram queues es refl refl e h g

  -- the three registers that most code works with, apart
  pub leads_from : (k : ℕ) (p q : Point) (es : List Event) →
      ((a b c : ℕ) (rest : List ℕ) (f : Flags) → length rest ≡ 5 → AreAsKnown p.registers (a ∷ b ∷ c ∷ rest) → Arrives j i k (state_at p (a ∷ b ∷ c ∷ rest) f) q es) → Leads j i k p q es
  leads_from k p q es g = record { arrives = λ low f h. by g low f h.eight h }
    where
      by : ((a b c : ℕ) (rest : List ℕ) (f : Flags) → length rest ≡ 5 → AreAsKnown p.registers (a ∷ b ∷ c ∷ rest) → Arrives j i k (state_at p (a ∷ b ∷ c ∷ rest) f) q es) → (low : List ℕ) (f : Flags) → length low ≡ 8 → AreAsKnown p.registers low →
          Arrives j i k (state_at p low f) q es
      by g [] f h l = absurd (omega arith)
      by g (a ∷ []) f h l = absurd (omega arith)
      by g (a ∷ b ∷ []) f h l = absurd (omega arith)
      by g (a ∷ b ∷ c ∷ rest) f h l = g a b c rest f (omega arith) l

  -- whatever is known of them
  pub leads_by : (k : ℕ) (p q : Point) (es : List Event) →
      ((a b c : ℕ) (rest : List ℕ) (f : Flags) → length rest ≡ 5 → Arrives j i k (state_at p (a ∷ b ∷ c ∷ rest) f) q es) → Leads j i k p q es
  leads_by k p q es g = leads_from k p q es (λ a b c rest f h l. g a b c rest f h)

  pub finishes_by : (k : ℕ) (p : Point) (e : End) (es : List Event) →
      ((a b c : ℕ) (rest : List ℕ) (f : Flags) → length rest ≡ 5 → Reaches j i k (state_at p (a ∷ b ∷ c ∷ rest) f) e es) → Finishes j i k p e es
  finishes_by k p e es g = record { reaches = λ low f h. by g low f h.eight }
    where
      by : ((a b c : ℕ) (rest : List ℕ) (f : Flags) → length rest ≡ 5 → Reaches j i k (state_at p (a ∷ b ∷ c ∷ rest) f) e es) → (low : List ℕ) (f : Flags) → length low ≡ 8 → Reaches j i k (state_at p low f) e es
      by g [] f h = absurd (omega arith)
      by g (a ∷ []) f h = absurd (omega arith)
      by g (a ∷ b ∷ []) f h = absurd (omega arith)
      by g (a ∷ b ∷ c ∷ rest) f h = g a b c rest f (omega arith)

arrives_behind : (j : PermissionTest) (i : Image) (m n : ℕ) (s : State) (q r : Point) (xs ys : List Event) → Arrives j i m s q xs → Leads j i n q r ys → Arrives j i (m + n) s r (xs ++ ys)
arrives_behind j i m n s q r xs ys a l =
    let b = l.arrives a.low a.flags a.holds in
    record { low = b.low; flags = b.flags; holds = b.holds; runs = onward j i a.runs b.runs }

reaches_behind : (j : PermissionTest) (i : Image) (m n : ℕ) (s : State) (q : Point) (e : End) (xs ys : List Event) → Arrives j i m s q xs → Finishes j i n q e ys → Reaches j i (m + n) s e (xs ++ ys)
reaches_behind j i m n s q e xs ys a l =
    let b = l.reaches a.low a.flags a.holds in
    record { last = b.last; over = b.over; runs = onward j i a.runs b.runs }

pub join : (j : PermissionTest) (i : Image) (m n : ℕ) (p q r : Point) (xs ys : List Event) → Leads j i m p q xs → Leads j i n q r ys → Leads j i (m + n) p r (xs ++ ys)
join j i m n p q r xs ys a b = record { arrives = λ low f h. arrives_behind j i m n (state_at p low f) q r xs ys (a.arrives low f h) b }

forgets : (j : PermissionTest) (i : Image) (n : ℕ) (s : State) (q : Point) (es : List Event) → Arrives j i n s q es → Arrives j i n s (record q { registers = [] }) es
forgets j i n s q es a = record { low = a.low; flags = a.flags; holds = holds_nothing a.low a.holds.eight; runs = a.runs }

pub runs_join : RunsJoin
runs_join = record {
  join = join;
  finish = λ j i m n p q e xs ys a b. record { reaches = λ low f h. reaches_behind j i m n (state_at p low f) q e xs ys (a.arrives low f h) b };
  forget = λ j i n p q es a. record { arrives = λ low f h. forgets j i n (state_at p low f) q es (a.arrives low f h) };
}
