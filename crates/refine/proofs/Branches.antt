-- Ends of blocks that stay in their function.
use Rattle.std.proofs.Common.{◌≡◌, ℕ, ◌+◌, ◌^◌, ◌<◌, ◌≤◌, Bool, true, false, if◌then◌else◌, nat_eq, List, [], ◌∷◌, length, refl, sym, ap, ◌∙◌, subst, arith}
use Rattle.machine_model.specs.State.{State, by_mpu}
use Rattle.machine_model.specs.RunningCode.{Context}
use Rattle.machine_thumb_asm.specs.Assembly.{place_of}
use Rattle.ir_model.specs.Types.{PlainType}
use Rattle.ir_model.specs.Resolved.{Value, NumberedTerm, Jump, Branch, Ends, here}
use Rattle.ir_model.specs.State.{Frame, Memory, Running}
use Rattle.ir_model.specs.Step.{register, number_in, jumped, leave}
use Rattle.ir_laws.specs.Moves.{where_of, wheres}
use Rattle.ir_laws.specs.Sets.{ObjectSets}
use Rattle.ir_laws.specs.Typed.{EndTyped}
use Rattle.ir_laws.specs.States.{FrameFits}
use Rattle.code_model.specs.Templates.{term_items}
use Rattle.monitor_model.specs.Block.{MonitorBlock}
use Rattle.code_effects.specs.Points.{Point, Leads}
use Rattle.code_effects.specs.Frames.{home}
use Rattle.code_effects.specs.Items.{ItemsAt}
use Rattle.code_effects.specs.Branches.{at_block}
use Rattle.code_effects.proofs.Registers.{holds_nothing}
use Rattle.refine.proofs.Thread.{started, fits_after, runs_here}
use Rattle.refine.specs.Owned.{Owns}
use Rattle.refine.specs.Builds.{Build, func, words_at, places_at, labels_at, first_at, code_at}
use Rattle.refine.specs.Relation.{word_of, block_of, Fits as HasPlace}
use Rattle.refine.specs.Cases.{Follows, CaseFollows}
use Rattle.refine.proofs.Premises.{Premises}
use Rattle.refine.proofs.Standing.{IsPlace, owned_term, place_low, label_is}
use Rattle.refine.proofs.Steps.{frame_room, goes_on, Here as HereStands, point_of, place_of_frame}
use Rattle.refine.proofs.Registers.{register_word}

module _ (k : Build) (Inv : MonitorBlock → Context → List ℕ → Type 0) (sizes : PlainType → ℕ) (S : ObjectSets) (w : Premises k Inv sizes S) (places : ℕ → ℕ) where
  pub owned_end : (c : Frame) (rest : List Frame) → HasPlace k places (where_of c) (wheres rest) → (y : NumberedTerm) → FrameFits k.program sizes S c → here k.program c.func c.block c.place ≡ Ends y →
      Owns k.setting (block_of k places (wheres (c ∷ rest))).current (labels_at k c.func) (code_at k c.func c.block c.place) (term_items (func k c.func) (places_at k c.func) (first_at k c.func) y)
  owned_end c rest fit y ff e =
      subst (λ (z : ℕ). Owns k.setting z (labels_at k c.func) (code_at k c.func c.block c.place) (term_items (func k c.func) (places_at k c.func) (first_at k c.func) y)) (sym fit.current)
      (owned_term k w.facts.rules w.laws w.linked.code c.func c.block c.place y (place_of_frame k Inv sizes S w places c ff) e)

  module _ (fr : Frame) (rest : List Frame) (m : Memory) (t : State) (st : HereStands k Inv sizes S w places fr rest m t) (ff : FrameFits k.program sizes S fr) where
    term_runs : (y : NumberedTerm) → here k.program fr.func fr.block fr.place ≡ Ends y → ItemsAt by_mpu k.setting.image st.context.protection (labels_at k fr.func) (code_at k fr.func fr.block fr.place) (term_items (func k fr.func) (places_at k fr.func) (first_at k fr.func) y)
    term_runs y e = runs_here k.setting Inv w.law w.facts.rules w.laws (block_of k places (wheres (fr ∷ rest))) st.context st.ram (labels_at k fr.func) (code_at k fr.func fr.block fr.place) (term_items (func k fr.func) (places_at k fr.func) (first_at k fr.func) y) st.invariant (owned_end fr rest st.fits.0 y ff e)

    block_low : (b : ℕ) → b < length (func k fr.func).blocks → place_of (labels_at k fr.func) (first_at k fr.func + b) < 2 ^ 30
    block_low b h =
        let l = label_is k w.facts.rules w.laws w.linked.code fr.func b ff.func h in
        let i : IsPlace k w.facts.rules w.laws w.linked.code fr.func b 0 = record { func_there = ff.func; block_there = h; place_there = omega arith } in
        let p = place_low k w.facts.rules w.laws w.linked.code fr.func b 0 i st.context.protection in
        omega arith

    -- the frame goes on at a block's beginning
    jumps : (b n : ℕ) → b < length (func k fr.func).blocks → 1 ≤ n → n ≤ 16384 → Leads by_mpu k.setting.image n (point_of k Inv sizes S w places fr rest m t st) (at_block (labels_at k fr.func) (first_at k fr.func) (point_of k Inv sizes S w places fr rest m t st) b) [] →
        Follows k Inv places t (Running (jumped fr b ∷ rest) m) []
    jumps b n h l u leads =
        let a = leads.arrives st.low st.flags (holds_nothing st.low st.state_fits.core.low_count) in
        goes_on k Inv sizes S w places fr rest m (jumped fr b ∷ rest) st.statuses t b 0 n st.context a.low st.lr _ a.flags st.ram [] l u (started k.setting n t _ _ [] st.is_state a.runs)
        (fits_after k.setting Inv w.law w.facts.rules w.laws n _ _ [] st.state_fits a.runs) (label_is k w.facts.rules w.laws w.linked.code fr.func b ff.func h) st.invariant st.has st.threads st.fits refl

    pub jump_case : (b : ℕ) → EndTyped k.program sizes (func k fr.func) (Jump b) → here k.program fr.func fr.block fr.place ≡ Ends (Jump b) → CaseFollows k Inv places fr rest m t (Ends (Jump b))
    unfolding leave
    jump_case b ty e nf =
        let h = ty (let z = ff.block in omega arith) in
        let low = place_low k w.facts.rules w.laws w.linked.code fr.func fr.block fr.place (place_of_frame k Inv sizes S w places fr ff) st.context.protection in
        jumps b 1 h (omega arith) (omega arith)
        ((w.laws.branches by_mpu k.setting.image (func k fr.func) (places_at k fr.func) (labels_at k fr.func) (first_at k fr.func) (point_of k Inv sizes S w places fr rest m t st) (places fr.number) (words_at k fr.func)).jump b low (block_low b h) (term_runs (Jump b) e))

    pub branch_case : (on a b : ℕ) → EndTyped k.program sizes (func k fr.func) (Branch on a b) → here k.program fr.func fr.block fr.place ≡ Ends (Branch on a b) → CaseFollows k Inv places fr rest m t (Ends (Branch on a b))
    unfolding leave
    branch_case on a b ty e nf =
        let p : Point = point_of k Inv sizes S w places fr rest m t st in
        let low = place_low k w.facts.rules w.laws w.linked.code fr.func fr.block fr.place (place_of_frame k Inv sizes S w places fr ff) st.context.protection in
        let rg = (w.facts.shapes fr.func).registers in
        let lt = ty.0.there in
        let n = w.numbers k.program sizes S fr on ff ty.0 in
        let rm = frame_room k Inv sizes S w places fr rest st.context st.ram st.fits st.invariant in
        let leads = (w.laws.branches by_mpu k.setting.image (func k fr.func) (places_at k fr.func) (labels_at k fr.func) (first_at k fr.func) p (places fr.number) (words_at k fr.func)).branch on a b rm (omega arith) low (block_low a ty.1) (block_low b ty.2) (term_runs (Branch on a b) e) in
        let word : home (places fr.number) p on ≡ number_in (register fr on) = register_word k Inv sizes S w places fr rest m t st ff on lt ∙ ap (λ (v : Value). word_of k places v) n.is ∙ sym (ap number_in n.is) in
        jumps (if nat_eq (number_in (register fr on)) 0 then b else a) 4 (inside (nat_eq (number_in (register fr on)) 0) ty.1 ty.2) (omega arith) (omega arith)
        (subst (λ (z : ℕ). Leads by_mpu k.setting.image 4 p (at_block (labels_at k fr.func) (first_at k fr.func) p (if nat_eq z 0 then b else a)) []) word leads)
      where
        inside : (z : Bool) → a < length (func k fr.func).blocks → b < length (func k fr.func).blocks → (if z then b else a) < length (func k fr.func).blocks
        inside true h g = g
        inside false h g = h
