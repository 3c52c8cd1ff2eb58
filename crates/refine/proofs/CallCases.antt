-- The cases of calls: across compartments, and through a register.
use Rattle.std.proofs.Common.{◌≡◌, ℕ, suc, ◌+◌, ◌*◌, ◌<◌, ◌≤◌, true, false, Option, Some, None, is_some, List, [], ◌∷◌, length, map, get_or, refl, sym, ap, ◌∙◌, subst, arith, inl, inr, ⊎_elim}
use Rattle.std.specs.Prelude.{option_to_list}
use Rattle.base_laws.specs.Lists.{EachBelow}
use Rattle.base_words.specs.Bytes.{read}
use Rattle.machine_model.specs.State.{State}
use Rattle.machine_model.specs.RunningCode.{Context}
use Rattle.ir_model.specs.Types.{PlainType, PlainTypes, Callee}
use Rattle.ir_model.specs.Resolved.{Value, Number, Code, Null, At, Call, ICall, Here, Does, here}
use Rattle.ir_model.specs.Signatures.{in_row, row_length, signature}
use Rattle.ir_model.specs.State.{Frame, Memory, Running}
use Rattle.ir_model.specs.Step.{register, Enters, with_code, act, perform}
use Rattle.ir_laws.specs.Moves.{where_of, wheres, wheres_of}
use Rattle.ir_laws.specs.Sets.{ObjectSets, CallsAt}
use Rattle.ir_laws.specs.Typed.{Has, InstTyped, CallTyped, ICallTyped}
use Rattle.ir_laws.specs.States.{FrameFits}
use Rattle.code_model.specs.Places.{entry_address}
use Rattle.code_model.specs.Sizes.{call_size, icall_size}
use Rattle.code_model.specs.Templates.{inst_items}
use Rattle.monitor_model.specs.Block.{MonitorBlock}
use Rattle.refine_model.specs.Refines.{HasFault}
use Rattle.refine.specs.Owned.{Owns}
use Rattle.refine.proofs.Callees.{icalls, crosses, icrosses}
use Rattle.refine.specs.Builds.{Build, compartment_of, func, words_at, places_at, labels_at, entry_at, half_at, site_at}
use Rattle.refine.specs.Relation.{word_of, block_of}
use Rattle.refine.specs.Cases.{LiesFirst}
use Rattle.refine.specs.Serving.{Serves, CaseServes}
use Rattle.refine.proofs.Blocks.{top_least, below_more}
use Rattle.refine.proofs.Premises.{Premises}
use Rattle.refine.proofs.Standing.{entry_is, entry_low, entry_four, behind_is, half_is}
use Rattle.refine.proofs.Steps.{Here as HereStands}
use Rattle.refine.proofs.Registers.{register_word, owned_by}
use Rattle.refine.proofs.Calls.{params_there, all_below, callee_frame, callee_stands, LiesBelow, called_there, crossed_there, short_here, here_pc, call_inside}

module _ (k : Build) (Inv : MonitorBlock → Context → List ℕ → Type 0) (sizes : PlainType → ℕ) (S : ObjectSets) (w : Premises k Inv sizes S) (places : ℕ → ℕ) where
  module _ (fr : Frame) (rest : List Frame) (m : Memory) (t : State) (st : HereStands k Inv sizes S w places fr rest m t) (ff : FrameFits k.program sizes S fr) where
    abbrev new_frame : (h : ℕ) (args : List ℕ) → Frame
    new_frame h args = callee_frame k Inv sizes S w places fr rest m t st ff h args

    abbrev pc0 : ℕ
    pc0 = here_pc k Inv sizes S w places fr rest m t st ff

    abbrev Entered : (h : ℕ) (args : List ℕ) → Type 0
    Entered h args = Serves k Inv places (wheres (fr ∷ rest)) t (Running (new_frame h args ∷ fr ∷ rest) (record m { made = suc m.made })) []

    arguments_below : (ts : PlainTypes) (args : List ℕ) → ((j : ℕ) → j < length args → Has (func k fr.func) (get_or args j 0) (in_row ts j)) → EachBelow (length (func k fr.func).regs) args
    arguments_below ts args each = all_below (func k fr.func) ts args 0 (λ j l. let z : j ≡ 0 + j = omega arith in subst (λ (n : ℕ). Has (func k fr.func) (get_or args j 0) (in_row ts n)) z (each j l))

    abbrev LiesHere : (h : ℕ) → Type 0
    LiesHere h = LiesBelow k Inv sizes S w places fr rest m t st ff h

    call_across : (to : Option ℕ) (h number : ℕ) (args : List ℕ) → here k.program fr.func fr.block fr.place ≡ Does (Call to h args) → h < length k.program.funcs → CallTyped (func k fr.func) to args (func k h).params (func k h).outcome → site_at k fr.func fr.block fr.place ≡ Some number →
        LiesHere h → Entered h args
    call_across to h number args e there ty site lies =
        let f : ℕ = fr.func in
        let oc : ℕ = places fr.number in
        let bl : MonitorBlock = block_of k places (wheres (fr ∷ rest)) in
        let f0 = st.fits.0 in
        let tl = top_least k places (where_of fr) (wheres rest) st.fits in
        let en = f0.ends in
        let rm = f0.room in
        let rg = (w.facts.shapes f).registers in
        let b = arguments_below (func k h).params args ty.arguments in
        let pt = params_there (func k h) (w.typed.funcs h).params in
        let cn = ty.count in
        let few : length args ≤ length (func k h).regs = omega arith in
        let ei = entry_is k w.facts.rules w.laws w.linked.code f h there in
        let el = entry_low k w.facts.rules w.laws w.linked.code h there st.context.protection in
        let e4 = entry_four k w.facts.rules w.laws w.linked.code h in
        let hit = w.linked.code.targets f fr.block fr.place number h ff.func site ((w.listed k.program sizes S k.needs.closed k.needs w.needs).calls fr to h args e) in
        let bh = behind_is k w.facts.rules w.laws w.linked.code f fr.block fr.place (Does (Call to h args)) ff.func e in
        let rs : call_size (is_some (site_at k f fr.block fr.place)) args ≡ call_size true args = ap (λ (x : Option ℕ). call_size (is_some x) args) site in
        let hf = half_is k w.facts.rules w.laws w.linked.code f fr.block fr.place (omega arith) in
        let at_half : half_at k f fr.block fr.place ≡ pc0 + (8 + 2 * length args) + 2 = omega arith in
        let hit1 = subst (λ (y : ℕ). k.setting.has_target number y (entry_address (places_at k f) h) (compartment_of k h) ≡ true) at_half (subst (λ (y : ℕ). k.setting.has_target number (half_at k f fr.block fr.place) y (compartment_of k h) ≡ true) (sym ei) hit) in
        let stands = callee_stands k Inv sizes S w places fr rest m t st ff h (entry_address (places_at k f) h) (compartment_of k h) args there (sym ei) refl cn ty.few in
        let own = subst (λ (x : Option ℕ). Owns k.setting bl.current (labels_at k f) pc0 (inst_items (func k f) (places_at k f) pc0 x (Call to h args))) site (owned_by k Inv sizes S w places fr rest f0 (Call to h args) ff e) in
        ⊎_elim
        (λ c. inl (crossed_there k Inv sizes S w places fr rest m t st ff h number args (entry_address (places_at k f) h) (pc0 + (8 + 2 * length args) + 4) site lies (omega arith) (sym ei) b few c))
        (λ c. inr (short_here k Inv sizes S w places fr rest m t st ff h args (Some number) site c))
        (crosses k.setting Inv w.law w.facts.rules w.laws (func k f) (places_at k f) (labels_at k f) (func k h) (places_at k h) (labels_at k h) bl st.context st.low oc (words_at k f) (words_at k h) st.lr pc0 number (compartment_of k h) st.flags to h args st.ram m.queues
        st.invariant st.state_fits f0.aligned rm (omega arith) (omega arith) (below_more k places w.facts _ _ args rg b) (omega arith) (omega arith) own hit1 stands f0.loans)

    -- ---- through a register

    record Target (to : Option ℕ) (r h : ℕ) (args : List ℕ) : Type 0 where
      there : h < length k.program.funcs
      counts : length args ≡ row_length (func k h).params
      calls : CallsAt k.program S fr.func (here k.program fr.func fr.block fr.place) h
      word : read 4 (places fr.number + 4 * r) st.ram ≡ entry_at k h + 1

    target : (to : Option ℕ) (r h : ℕ) (args : List ℕ) → here k.program fr.func fr.block fr.place ≡ Does (ICall to r args) → (ty : ICallTyped (func k fr.func) to r args) → register fr r ≡ Code h → Target to r h args
    target to r h args e ty is =
        let i = (w.accesses k.program sizes S).calls fr to r args h ff ty e is in
        let c = subst (λ (y : Here). CallsAt k.program S fr.func y h) e i.calls in
        let s : signature k.program h ≡ Callee ty.params ty.outcome = c.1 ∙ ty.held.ty in
        let p : (func k h).params ≡ ty.params = cc in
        let cn = ty.call.count in
        record {
          there = i.there;
          counts = cn ∙ sym (ap row_length p);
          calls = i.calls;
          word = register_word k Inv sizes S w places fr rest m t st ff r ty.held.there ∙ ap (λ (v : Value). word_of k places v) is;
        }

    icall_inside : (to : Option ℕ) (r h : ℕ) (args : List ℕ) → here k.program fr.func fr.block fr.place ≡ Does (ICall to r args) → (ty : ICallTyped (func k fr.func) to r args) → register fr r ≡ Code h → site_at k fr.func fr.block fr.place ≡ None →
        LiesHere h → Entered h args
    icall_inside to r h args e ty is site lies =
        let f : ℕ = fr.func in
        let oc : ℕ = places fr.number in
        let bl : MonitorBlock = block_of k places (wheres (fr ∷ rest)) in
        let f0 = st.fits.0 in
        let tl = top_least k places (where_of fr) (wheres rest) st.fits in
        let en = f0.ends in
        let rm = f0.room in
        let tg = target to r h args e ty is in
        let rg = (w.facts.shapes f).registers in
        let b = arguments_below ty.params args ty.call.arguments in
        let pt = params_there (func k h) (w.typed.funcs h).params in
        let cn = tg.counts in
        let lr = ty.held.there in
        let few : length args ≤ length (func k h).regs = omega arith in
        let e4 = entry_four k w.facts.rules w.laws w.linked.code h in
        let same = w.inside k.program S k.needs.closed k.needs k.groups f fr.block fr.place h w.needs tg.calls site in
        let cur : bl.current ≡ compartment_of k h = f0.current ∙ sym same in
        let stands = callee_stands k Inv sizes S w places fr rest m t st ff h (entry_at k h) bl.current args tg.there refl cur cn ty.call.few in
        let own = subst (λ (x : Option ℕ). Owns k.setting bl.current (labels_at k f) pc0 (inst_items (func k f) (places_at k f) pc0 x (ICall to r args))) site (owned_by k Inv sizes S w places fr rest f0 (ICall to r args) ff e) in
        let bh = behind_is k w.facts.rules w.laws w.linked.code f fr.block fr.place (Does (ICall to r args)) ff.func e in
        let rs : icall_size (is_some (site_at k f fr.block fr.place)) args ≡ icall_size false args = ap (λ (x : Option ℕ). icall_size (is_some x) args) site in
        ⊎_elim
        (λ c. inl (called_there k Inv sizes S w places fr rest m t st ff h args (entry_at k h) (pc0 + icall_size false args + 1) site lies (omega arith) refl b few cur c))
        (λ c. inr (short_here k Inv sizes S w places fr rest m t st ff h args None site c))
        (icalls k.setting Inv w.law w.facts.rules w.laws (func k f) (places_at k f) (labels_at k f) (func k h) (places_at k h) (labels_at k h) bl st.context st.low oc (words_at k f) (words_at k h) st.lr pc0 (entry_at k h) st.flags to r args st.ram m.queues
        st.invariant st.state_fits f0.aligned rm (omega arith) (omega arith) (omega arith) (below_more k places w.facts _ _ args rg b) tg.word (omega arith) own stands f0.loans)

    icall_across : (to : Option ℕ) (r h number : ℕ) (args : List ℕ) → here k.program fr.func fr.block fr.place ≡ Does (ICall to r args) → (ty : ICallTyped (func k fr.func) to r args) → register fr r ≡ Code h → site_at k fr.func fr.block fr.place ≡ Some number →
        LiesHere h → Entered h args
    icall_across to r h number args e ty is site lies =
        let f : ℕ = fr.func in
        let oc : ℕ = places fr.number in
        let bl : MonitorBlock = block_of k places (wheres (fr ∷ rest)) in
        let f0 = st.fits.0 in
        let tl = top_least k places (where_of fr) (wheres rest) st.fits in
        let en = f0.ends in
        let rm = f0.room in
        let tg = target to r h args e ty is in
        let rg = (w.facts.shapes f).registers in
        let b = arguments_below ty.params args ty.call.arguments in
        let pt = params_there (func k h) (w.typed.funcs h).params in
        let cn = tg.counts in
        let lr = ty.held.there in
        let few : length args ≤ length (func k h).regs = omega arith in
        let e4 = entry_four k w.facts.rules w.laws w.linked.code h in
        let hit = w.linked.code.targets f fr.block fr.place number h ff.func site ((w.listed k.program sizes S k.needs.closed k.needs w.needs).icalls fr to r args h ff ty e is) in
        let bh = behind_is k w.facts.rules w.laws w.linked.code f fr.block fr.place (Does (ICall to r args)) ff.func e in
        let rs : icall_size (is_some (site_at k f fr.block fr.place)) args ≡ icall_size true args = ap (λ (x : Option ℕ). icall_size (is_some x) args) site in
        let hf = half_is k w.facts.rules w.laws w.linked.code f fr.block fr.place (omega arith) in
        let at_half : half_at k f fr.block fr.place ≡ pc0 + (4 + 2 * length args) + 2 = omega arith in
        let hit1 = subst (λ (y : ℕ). k.setting.has_target number y (entry_at k h) (compartment_of k h) ≡ true) at_half hit in
        let stands = callee_stands k Inv sizes S w places fr rest m t st ff h (entry_at k h) (compartment_of k h) args tg.there refl refl cn ty.call.few in
        let own = subst (λ (x : Option ℕ). Owns k.setting bl.current (labels_at k f) pc0 (inst_items (func k f) (places_at k f) pc0 x (ICall to r args))) site (owned_by k Inv sizes S w places fr rest f0 (ICall to r args) ff e) in
        ⊎_elim
        (λ c. inl (crossed_there k Inv sizes S w places fr rest m t st ff h number args (entry_at k h) (pc0 + (4 + 2 * length args) + 4) site lies (omega arith) refl b few c))
        (λ c. inr (short_here k Inv sizes S w places fr rest m t st ff h args (Some number) site c))
        (icrosses k.setting Inv w.law w.facts.rules w.laws (func k f) (places_at k f) (labels_at k f) (func k h) (places_at k h) (labels_at k h) bl st.context st.low oc (words_at k f) (words_at k h) st.lr pc0 (entry_at k h) number (compartment_of k h) st.flags to r args st.ram m.queues
        st.invariant st.state_fits f0.aligned rm (omega arith) (omega arith) (omega arith) (below_more k places w.facts _ _ args rg b) tg.word (omega arith) own hit1 stands f0.loans)

    -- ---- the cases

    pub call_case : (to : Option ℕ) (h : ℕ) (args : List ℕ) → InstTyped k.program sizes (func k fr.func) (Call to h args) → here k.program fr.func fr.block fr.place ≡ Does (Call to h args) → CaseServes k Inv places fr rest m t (Does (Call to h args))
    unfolding perform act
    call_case to h args ty e nf lies = by (site_at k fr.func fr.block fr.place) refl
      where
        by : (x : Option ℕ) → site_at k fr.func fr.block fr.place ≡ x → Entered h args
        by None s = call_inside k Inv sizes S w places fr rest m t st ff to h args e ty.0 ty.1 s lies
        by (Some n) s = call_across to h n args e ty.0 ty.1 s lies

    by_code : (to : Option ℕ) (r : ℕ) (args : List ℕ) → (ty : ICallTyped (func k fr.func) to r args) → here k.program fr.func fr.block fr.place ≡ Does (ICall to r args) → (x : Value) → register fr r ≡ x → CaseServes k Inv places fr rest m t (Does (ICall to r args))
    unfolding perform act
    by_code to r args ty e (Number n) is = λ nf lies. absurd (nf (subst (λ (x : Value). HasFault (perform k.program k.groups.of fr rest m (with_code x (λ g. Enters g (map (register fr) args)))).to) (sym is) tt))
    by_code to r args ty e Null is = λ nf lies. absurd (nf (subst (λ (x : Value). HasFault (perform k.program k.groups.of fr rest m (with_code x (λ g. Enters g (map (register fr) args)))).to) (sym is) tt))
    by_code to r args ty e (At o c) is = λ nf lies. absurd (nf (subst (λ (x : Value). HasFault (perform k.program k.groups.of fr rest m (with_code x (λ g. Enters g (map (register fr) args)))).to) (sym is) tt))
    by_code to r args ty e (Code h) is = subst (λ (x : Value).
        (HasFault (perform k.program k.groups.of fr rest m (with_code x (λ g. Enters g (map (register fr) args)))).to → ⊥)
        → LiesFirst k Inv places (wheres_of (perform k.program k.groups.of fr rest m (with_code x (λ g. Enters g (map (register fr) args)))).to)
        → Serves k Inv places (wheres (fr ∷ rest)) t (perform k.program k.groups.of fr rest m (with_code x (λ g. Enters g (map (register fr) args)))).to (option_to_list (perform k.program k.groups.of fr rest m (with_code x (λ g. Enters g (map (register fr) args)))).event)) (sym is)
        (λ nf lies. by (site_at k fr.func fr.block fr.place) refl lies)
      where
        by : (x : Option ℕ) → site_at k fr.func fr.block fr.place ≡ x → LiesHere h → Entered h args
        by None s = icall_inside to r h args e ty is s
        by (Some n) s = icall_across to r h n args e ty is s

    pub icall_case : (to : Option ℕ) (r : ℕ) (args : List ℕ) → InstTyped k.program sizes (func k fr.func) (ICall to r args) → here k.program fr.func fr.block fr.place ≡ Does (ICall to r args) → CaseServes k Inv places fr rest m t (Does (ICall to r args))
    icall_case to r args ty e = by_code to r args ty e (register fr r) refl
