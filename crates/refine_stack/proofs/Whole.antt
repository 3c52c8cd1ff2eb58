-- What is found by the list of calls is the bound of the program.
use Rattle.std.proofs.Common.{◌≡◌, ℕ, ◌+◌, ◌-◌, ◌*◌, ◌^◌, ◌<◌, ◌≤◌, ◌⊎◌, inl, inr, Bool, ◌↔◌, List, [], ◌∷◌, length, get_or, reverse, refl, sym, ap, subst, ◌∙◌, arith}
use Rattle.std.specs.Prelude.{Contains}
use Rattle.std.proofs.lemmas.Bool.{cases_lt}
use Rattle.ir_model.specs.Resolved.{Program}
use Rattle.plan_model.specs.declared.needs.Needs.{Needs}
use Rattle.plan_model.specs.declared.groups.Groups.{Groups}
use Rattle.plan_model.specs.Crossing.{crosses}
use Rattle.need_lists.specs.AnyOf.{AnyOf}
use Rattle.refine_stack.specs.Paths as paths
use Rattle.refine_stack.specs.Paths.{frame_bytes, taken_above, IsPath, IsDeepest, SitesAreThere}
use Rattle.refine_stack.specs.Cycles.{Joins, HasNoCycle, IsCycle}
use Rattle.refine_stack.specs.Bounds.{Gives, IsChain, IsEnd, IsWorst, IsBound}
use Rattle.refine_stack.specs.declared.calls.Call.{Call}
use Rattle.refine_stack.specs.Listed.{call, IsCallAt, AreThere, AreFrames, Calls}
use Rattle.refine_stack.specs.declared.answer.StackAnswer.{StackAnswer}
use Rattle.refine_stack.specs.declared.answer.StackAnswer.TheVariants.{Cycle, Bound}
use Rattle.refine_stack.specs.Answers.{IsAnswer}
use Rattle.refine_stack.specs.Found.{IsAnswerBy}
use Rattle.base_ranges.specs.Ranges.{IsPowerBetween}
use Rattle.std.proofs.lemmas.Nat.{pow-add, pow_pos}
use Rattle.refine_stack.specs.Taken.{IsRoute, IsSound, IsClosed}
use Rattle.refine_stack.specs.Worst.{IsGiven, IsChainBy, IsWorstChain, IsWorstBy}
use Rattle.refine_stack.proofs.Raised.{value_grows}
use Rattle.refine_stack.proofs.Walks.{cycle_to, none_to}

frame_positive : (p : Program) (f : ℕ) → 0 < frame_bytes p f
frame_positive p f = omega arith

module _ (p : Program) (n : Needs) (g : Groups) (cs : List Call) (all : (x : Call) → Contains cs x ↔ AnyOf (λ s. IsCallAt g s x) n.sites) where
  -- ---- calls

  to_call : (f h : ℕ) (c : Bool) → paths.Calls n g f h c → Contains cs (call f h c)
  to_call f h c k =
      (all (call f h c)).1
      (record {
        item = k.site;
        listed = k.listed;
        holds = record { item = h; listed = k.target; holds = ap (λ (i : ℕ). call i h (crosses g k.site)) k.func ∙ ap (λ (b : Bool). call f h b) k.goes };
      })

  from_call : (x : Call) → Contains cs x → paths.Calls n g x.from x.to x.crosses
  from_call x h =
      let a = (all x).0 h in
      let b = a.holds in
      record {
        site = a.item;
        listed = a.listed;
        func = ap (λ (y : Call). y.from) b.holds;
        target = subst (λ (t : ℕ). Contains a.item.targets t) (ap (λ (y : Call). y.to) b.holds) b.listed;
        goes = ap (λ (y : Call). y.crosses) b.holds;
      }

  to_joins : (f h : ℕ) → Calls cs f h → Joins n f h
  to_joins f h j = let k = from_call (call f h j.0) j.1 in record { site = k.site; listed = k.listed; func = k.func; target = k.target }

  from_joins : (f h : ℕ) → Joins n f h → Calls cs f h
  from_joins f h k = (crosses g k.site, to_call f h (crosses g k.site) (record { site = k.site; listed = k.listed; func = k.func; target = k.target; goes = refl }))

  pub is_cycle : (main : ℕ) (path : List ℕ) → IsCycle (Calls cs) main path → IsCycle (Joins n) main path
  is_cycle main path c = cycle_to (Calls cs) (Joins n) to_joins from_joins main path c

  pub no_cycle : (main : ℕ) → HasNoCycle (Calls cs) main → HasNoCycle (Joins n) main
  no_cycle main h = none_to (Calls cs) (Joins n) to_joins from_joins main h

  pub are_there : SitesAreThere p n → AreThere (length p.funcs) cs
  are_there t x h =
      let k = from_call x h in
      let s = t k.site x.to k.listed k.target in
      (subst (λ (i : ℕ). i < length p.funcs) k.func s.0, s.1)

  module _ (stack : ℕ) (frames : List ℕ) (there : SitesAreThere p n) (main_there : p.main < length p.funcs) (fr : AreFrames p frames) where
    -- ---- paths

    to_path : (fs : List ℕ) (t : ℕ) → IsRoute frames stack cs p.main fs t → IsPath p n g stack fs t
    to_path [] t r = r
    to_path (f ∷ []) t r = (r.0, r.1 ∙ fr.each f (subst (λ (i : ℕ). i < length p.funcs) (sym r.0) main_there))
    to_path (h ∷ f ∷ fs) t r =
        let below = (are_there there (call f h r.0) r.2).1 in
        (r.0, r.1, from_call (call f h r.0) r.2, to_path (f ∷ fs) r.1 r.3, r.4 ∙ ap (λ (b : ℕ). taken_above stack r.0 r.1 + b) (fr.each h below))

    from_path : (fs : List ℕ) (t : ℕ) → IsPath p n g stack fs t → IsRoute frames stack cs p.main fs t
    from_path [] t r = r
    from_path (f ∷ []) t r = (r.0, r.1 ∙ sym (fr.each f (subst (λ (i : ℕ). i < length p.funcs) (sym r.0) main_there)))
    from_path (h ∷ f ∷ fs) t r =
        let c = to_call f h r.0 r.2 in
        let below = (are_there there (call f h r.0) c).1 in
        (r.0, r.1, c, from_path (f ∷ fs) r.1 r.3, r.4 ∙ ap (λ (b : ℕ). taken_above stack r.0 r.1 + b) (sym (fr.each h below)))

    module _ (ts : List ℕ) (eight : 8 ≤ stack) (sound : IsSound frames stack cs p.main ts) (closed : IsClosed frames stack cs ts) (first : get_or frames p.main 0 ≤ get_or ts p.main 0) where
      frame_there : (f : ℕ) → f < length p.funcs → 0 < get_or frames f 0
      frame_there f l = subst (λ (i : ℕ). 0 < i) (sym (fr.each f l)) (frame_positive p f)

      covers : (f : ℕ) (fs : List ℕ) (t : ℕ) → IsRoute frames stack cs p.main (f ∷ fs) t → (0 < t) × (t ≤ get_or ts f 0)
      covers f [] t r =
          let e = r.1 in
          let pos = frame_there p.main main_there in
          let q : get_or frames f 0 ≡ get_or frames p.main 0 = ap (λ (i : ℕ). get_or frames i 0) r.0 in
          let s : get_or ts f 0 ≡ get_or ts p.main 0 = ap (λ (i : ℕ). get_or ts i 0) r.0 in
          (omega arith, omega arith)
      covers h (f ∷ fs) t r =
          let i = covers f fs r.1 r.3 in
          let below = (are_there there (call f h r.0) r.2).1 in
          let pos = frame_there h below in
          let a = i.0 in
          let b = i.1 in
          let c = closed (call f h r.0) r.2 (omega arith) in
          let v = value_grows frames stack (call f h r.0) r.1 (get_or ts f 0) eight b in
          let e = r.4 in
          (omega arith, omega arith)

      pub is_deepest : (f : ℕ) → 0 < get_or ts f 0 → IsDeepest p n g stack f (get_or ts f 0)
      is_deepest f pos =
          let s = sound f pos in
          record { others = s.0; is_path = to_path (f ∷ s.0) (get_or ts f 0) s.1; most = λ fs t h. (covers f fs t (from_path (f ∷ fs) t h)).1 }

      pub deepest_is : (f t : ℕ) → IsDeepest p n g stack f t → (t ≡ get_or ts f 0) × (0 < get_or ts f 0)
      deepest_is f t d =
          let c = covers f d.others t (from_path (f ∷ d.others) t d.is_path) in
          let a = c.0 in
          let b = c.1 in
          let s = sound f (omega arith) in
          let m = d.most s.0 (get_or ts f 0) (to_path (f ∷ s.0) (get_or ts f 0) s.1) in
          (omega arith, omega arith)

      -- ---- the worst path

      gives : (h f : ℕ) → IsGiven frames stack cs ts h f → Gives p n g stack h f
      gives h f x =
          let below = (are_there there x.0 x.1).1 in
          let k = from_call x.0 x.1 in
          let e : get_or ts h 0 ≡ taken_above stack x.0.crosses (get_or ts f 0) + frame_bytes p h =
          x.5 ∙ (ap (λ (b : ℕ). taken_above stack x.0.crosses (get_or ts f 0) + b) (fr.each x.0.to below) ∙ ap (λ (i : ℕ). taken_above stack x.0.crosses (get_or ts f 0) + frame_bytes p i) x.3) in
          let pos : 0 < get_or ts h 0 = let q = frame_positive p h in omega arith in
          record {
            crosses = x.0.crosses;
            taken = get_or ts f 0;
            call = subst (λ (i : ℕ). paths.Calls n g f i x.0.crosses) x.3 (subst (λ (i : ℕ). paths.Calls n g i x.0.to x.0.crosses) x.2 k);
            from = is_deepest f x.4;
            to = subst (λ (t : ℕ). IsDeepest p n g stack h t) e (is_deepest h pos);
          }

      given : (h f : ℕ) → Gives p n g stack h f → IsGiven frames stack cs ts h f
      given h f x =
          let d = deepest_is f x.taken x.from in
          let u = deepest_is h (taken_above stack x.crosses x.taken + frame_bytes p h) x.to in
          let c = to_call f h x.crosses x.call in
          let below = (are_there there (call f h x.crosses) c).1 in (
            call f h x.crosses,
            c,
            refl,
            refl,
            d.1,
            sym u.0 ∙ (ap (λ (t : ℕ). taken_above stack x.crosses t + frame_bytes p h) d.0 ∙ ap (λ (b : ℕ). taken_above stack x.crosses (get_or ts f 0) + b) (sym (fr.each h below))),
          )

      chain : (l : List ℕ) → IsChainBy frames stack cs ts p.main l → IsChain p n g stack l
      chain [] c = c
      chain (f ∷ []) c = c
      chain (h ∷ f ∷ fs) c = (record { has = gives h f c.0.has; lowest = λ j q. c.0.lowest j (given h j q) }, chain (f ∷ fs) c.1)

      worst_by : (needed : ℕ) (l : List ℕ) → IsWorstChain frames stack cs ts p.main needed l → IsWorst p n g stack needed l
      worst_by needed [] c = c
      worst_by needed (h ∷ fs) c = (record { has = (get_or ts h 0, is_deepest h pos, c.0); lowest = λ j e. low j e (cases_lt j h) }, chain (h ∷ fs) c.2)
        where
          pos : 0 < get_or ts h 0
          pos = let m = c.1.most p.main in let q = frame_there p.main main_there in omega arith

          low : (j : ℕ) → IsEnd p n g stack needed j → (j < h) ⊎ (h ≤ j) → h ≤ j
          low j e (inr l) = l
          low j e (inl l) =
              let d = (deepest_is j e.0 e.1).0 in
              let a = c.0 in
              let b = e.2 in
              let f = c.1.first j l in
              absurd (omega arith)

      most_by : (needed : ℕ) (l : List ℕ) → IsWorstChain frames stack cs ts p.main needed l → (fs : List ℕ) (t : ℕ) → IsPath p n g stack fs t → t + 32 ≤ needed
      most_by needed [] c fs t r = absurd c
      most_by needed (h ∷ l) c [] t r = absurd r
      most_by needed (h ∷ l) c (f ∷ fs) t r =
          let v = (covers f fs t (from_path (f ∷ fs) t r)).1 in
          let m = c.1.most f in
          let a = c.0 in
          omega arith

      pub is_bound : HasNoCycle (Calls cs) p.main → (needed : ℕ) (path : List ℕ) → IsWorstChain frames stack cs ts p.main needed (reverse path) → IsBound p n g stack needed path
      is_bound none needed path c = record { no_cycle = no_cycle p.main none; most = most_by needed (reverse path) c; worst = worst_by needed (reverse path) c }

    -- the answer
    pub is_answer : 8 ≤ stack → (a : StackAnswer) → IsAnswerBy frames stack cs p.main a → IsAnswer p n g stack a
    is_answer eight (Cycle c) h = is_cycle p.main c h
    is_answer eight (Bound needed path) h = is_bound h.taken eight h.sound h.closed h.first h.none needed path h.worst

pub stack_least : (stack : ℕ) → IsPowerBetween 9 16 stack → 8 ≤ stack
stack_least stack h =
    let k = h.0 in
    let l = h.1 in
    let m : k ≡ 9 + (k - 9) = omega arith in
    let e : stack ≡ 2 ^ 9 * 2 ^ (k - 9) = h.3 ∙ (ap (λ (i : ℕ). 2 ^ i) m ∙ pow-add 2 9 (k - 9)) in
    let q = pow_pos (k - 9) in
    omega arith

pub found_by : (frames : List ℕ) (stack : ℕ) (cs : List Call) (main : ℕ) (ts : List ℕ) → HasNoCycle (Calls cs) main → IsSound frames stack cs main ts → IsClosed frames stack cs ts
    → get_or frames main 0 ≤ get_or ts main 0 → (a : StackAnswer) → IsWorstBy frames stack cs main ts a → IsAnswerBy frames stack cs main a
found_by frames stack cs main ts none sound closed first (Cycle c) h = absurd h
found_by frames stack cs main ts none sound closed first (Bound needed path) h = record { none = none; taken = ts; sound = sound; closed = closed; first = first; worst = h }
