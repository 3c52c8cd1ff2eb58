-- Cells of locals of live frames: where they lie, which loan has them, and when they are in the open stack.
use Rattle.std.proofs.Common.{◌≡◌, ℕ, zero, suc, ◌+◌, ◌/◌, ◌%◌, ◌<◌, ◌≤◌, Bool, true, false, nat_lt, Option, Some, None, List, [], ◌∷◌, length, get_or, refl, ap, ◌∙◌, subst, arith, inl, inr}
use Rattle.std.specs.Prelude.{Contains}
use Rattle.std.proofs.lemmas.List.FromFn.{get_or-map-range_with_len}
use Rattle.machine_model.specs.State.{State}
use Rattle.machine_model.specs.RunningCode.{Context}
use Rattle.ir_model.specs.Types.{PlainType, width_of}
use Rattle.ir_model.specs.Resolved.{OfLocal, cells_of_local, local_at}
use Rattle.ir_model.specs.Signatures.{cell_in}
use Rattle.ir_model.specs.State.{Frame, Memory}
use Rattle.ir_model.specs.Step.{frame_in}
use Rattle.ir_laws.specs.Moves.{wheres}
use Rattle.ir_laws.specs.Sets.{ObjectSets}
use Rattle.need_laws.specs.Laws.{IsOwn}
use Rattle.plan_model.specs.Lending.{lend_number, lend_numbers_in}
use Rattle.code_model.specs.Places.{Lend, lends_among}
use Rattle.monitor_model.specs.Block.{MonitorBlock, Loan}
use Rattle.monitor_model.specs.Threads.{base, stack_end, IsLentTo}
use Rattle.refine.specs.Areas.{Area}
use Rattle.refine.specs.Builds.{Build, func, words_at, lends_at, starts_at, places_at}
use Rattle.refine.specs.Relation.{address_of, block_of}
use Rattle.refine.proofs.Locals.{loan_there, IsLend}
use Rattle.refine.proofs.Premises.{Premises}
use Rattle.refine.proofs.Steps.{Here as HereStands}
use Rattle.refine.proofs.Cells.{aligned_sum, Found, own_open, any_open, frame_ends}
use Rattle.ir_laws.proofs.Layouts.{positive_width}

-- a local with a number is lent
lend_among : (ss : List ℕ) (ns : List (Option ℕ)) (l n : ℕ) → l < length ss → get_or ns l None ≡ Some n → IsLend (record { home = get_or ss l 0 / 4; number = n }) (lends_among ss ns)
lend_among [] ns l n h e = absurd (omega arith)
lend_among (s ∷ ss) [] l n h e = cc
lend_among (s ∷ ss) (None ∷ ns) zero n h e = cc
lend_among (s ∷ ss) (None ∷ ns) (suc l) n h e = lend_among ss ns l n (omega arith) e
lend_among (s ∷ ss) (Some x ∷ ns) zero n h e = let y : x ≡ n = cc in inl (ap (λ (z : ℕ). record { home = s / 4; number = z }) y)
lend_among (s ∷ ss) (Some x ∷ ns) (suc l) n h e = inr (lend_among ss ns l n (omega arith) e)

module _ (k : Build) (Inv : MonitorBlock → Context → List ℕ → Type 0) (sizes : PlainType → ℕ) (S : ObjectSets) (w : Premises k Inv sizes S) (places : ℕ → ℕ) where
  lend_there : (f l n : ℕ) → f < length k.program.funcs → l < length (func k f).locals → lend_number k.needs k.groups f l ≡ Some n → IsLend (record { home = get_or (starts_at k f) l 0 / 4; number = n }) (lends_at k f)
  unfolding places_at
  lend_there f l n hf hl e =
      let st = (w.facts.shapes f).starts in
      let a = get_or-map-range_with_len (lend_numbers_in k.program k.needs k.groups) 0 (length k.program.funcs) f f [] hf (omega arith) in
      let b = get_or-map-range_with_len (lend_number k.needs k.groups f) 0 (length (func k f).locals) l l None hl (omega arith) in
      lend_among (starts_at k f) (places_at k f).lends l n (omega arith) (ap (λ (ns : List (Option ℕ)). get_or ns l None) a ∙ b ∙ e)

  module _ (fr : Frame) (rest : List Frame) (m : Memory) (t : State) (st : HereStands k Inv sizes S w places fr rest m t) where
    -- where a cell of a local lies
    pub record LiesAt (f n l c : ℕ) (ty : PlainType) (a : Area) : Type 0 where
      pub address : address_of k places (OfLocal f n l) + c ≡ base k.setting + a.at
      pub aligned : (base k.setting + a.at) % width_of ty ≡ 0
      pub from_stack : k.setting.stack ≤ a.at
      pub to_stack : a.at < stack_end k.setting

    pub cell_lies : (f n l c j : ℕ) (ty : PlainType) (h : Frame) → frame_in (fr ∷ rest) f n ≡ Some h → l < length (func k f).locals → Found (cells_of_local k.program f l) (local_at k.program f l).size c j ty →
        LiesAt f n l c ty (record { at = places n + get_or (starts_at k f) l 0 + (cell_in (cells_of_local k.program f l) j).at; width = width_of (cell_in (cells_of_local k.program f l) j).ty })
    cell_lies f n l c j ty h live hl fo =
        let fe = frame_ends k Inv sizes S w places (fr ∷ rest) f n h st.fits live in
        let e0 = fe.0 in
        let e1 = fe.1 in
        let e2 = fe.2 in
        let sa = (w.facts.shapes f).local_aligned l hl in
        let si = (w.facts.shapes f).local_inside l hl in
        let pl = fo.place in
        let ins = fo.inside in
        let ws = positive_width ty in
        let ra = w.facts.rules.image.ram_aligned in
        let al = aligned_sum ty (base k.setting + places n + get_or (starts_at k f) l 0) c (omega arith) fo.aligned in
        let z : base k.setting + places n + get_or (starts_at k f) l 0 + c ≡ base k.setting + (places n + get_or (starts_at k f) l 0 + (cell_in (cells_of_local k.program f l) j).at) = omega arith in
        record {
          address = omega arith;
          aligned = subst (λ (y : ℕ). y % width_of ty ≡ 0) z al;
          from_stack = omega arith;
          to_stack = omega arith;
        }

    -- the loan of a lent local has it
    pub lent_cell : (has : ℕ → Bool) (f n l c j number : ℕ) (ty : PlainType) (h : Frame) → frame_in (fr ∷ rest) f n ≡ Some h → f < length k.program.funcs → l < length (func k f).locals → Found (cells_of_local k.program f l) (local_at k.program f l).size c j ty →
        lend_number k.needs k.groups f l ≡ Some number → has number ≡ true →
        IsLentTo k.setting has (block_of k places (wheres (fr ∷ rest))) (base k.setting + (places n + get_or (starts_at k f) l 0 + (cell_in (cells_of_local k.program f l) j).at)) (width_of ty)
    lent_cell has f n l c j number ty h live hf hl fo e mask =
        let d : Lend = record { home = get_or (starts_at k f) l 0 / 4; number = number } in
        let sa = (w.facts.shapes f).local_aligned l hl in
        let pl = fo.place in
        let ins = fo.inside in
        let least = w.linked.loans.least f l number hl e in
        loan_there k places w.facts (λ (x : Loan). (has x.number ≡ true) × (x.address ≤ base k.setting + (places n + get_or (starts_at k f) l 0 + (cell_in (cells_of_local k.program f l) j).at))
        × (base k.setting + (places n + get_or (starts_at k f) l 0 + (cell_in (cells_of_local k.program f l) j).at) + width_of ty ≤ x.end)) (fr ∷ rest) f n h d live (lend_there f l number hf hl e)
        (mask, omega arith, omega arith)

    -- a local that is not lent is in the open stack: it is the running frame's own, or there is one compartment alone
    pub open_cell : (f n l c j : ℕ) (ty : PlainType) (h : Frame) → frame_in (fr ∷ rest) f n ≡ Some h → l < length (func k f).locals → Found (cells_of_local k.program f l) (local_at k.program f l).size c j ty → lend_number k.needs k.groups f l ≡ None →
        ((Contains k.needs.lendable (f, l) → ⊥) → IsOwn fr f n h) →
        (k.setting.stack ≤ places n + get_or (starts_at k f) l 0 + (cell_in (cells_of_local k.program f l) j).at) × (base k.setting + (places n + get_or (starts_at k f) l 0 + (cell_in (cells_of_local k.program f l) j).at) < (block_of k places (wheres (fr ∷ rest))).top)
    open_cell f n l c j ty h live hl fo e own = by (nat_lt 1 k.groups.count) refl
      where
        by : (b : Bool) → nat_lt 1 k.groups.count ≡ b → (k.setting.stack ≤ places n + get_or (starts_at k f) l 0 + (cell_in (cells_of_local k.program f l) j).at) × (base k.setting + (places n + get_or (starts_at k f) l 0 + (cell_in (cells_of_local k.program f l) j).at) < (block_of k places (wheres (fr ∷ rest))).top)
        by false q = let y = cell_lies f n l c j ty h live hl fo in any_open k Inv sizes S w places fr rest m t st q _ y.from_stack y.to_stack
        by true q =
            let i = own (w.numbered k.needs k.groups f l q e) in
            let a : places fr.number ≡ places n = ap places i.number in
            let b : words_at k fr.func ≡ words_at k f = ap (words_at k) i.func in
            let si = (w.facts.shapes f).local_inside l hl in
            let pl = fo.place in
            let ins = fo.inside in
            let ws = positive_width ty in
            own_open k Inv sizes S w places fr rest m t st _ (omega arith) (omega arith)
