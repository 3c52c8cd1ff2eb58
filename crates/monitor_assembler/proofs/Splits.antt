-- The code of a vector of steps, of a step and what stands behind it.
use Rattle.std.proofs.Common.{◌≡◌, ℕ, ◌+◌, ◌/◌, ◌<◌, ◌≤◌, nat_lt, Bool, true, false, ◌&&◌, List, [], ◌∷◌, ◌++◌, length, get_or, take, drop, refl, ap, sym, ◌∙◌, arith, append_assoc, append-nil, take-append-drop, zero, suc}
use Rattle.std.proofs.lemmas.List.{take_more}
use Rattle.base_words.specs.Width.{byte_count}
use Rattle.monitor_steps.specs.declared.steps.PrivilegedStep.{PrivilegedStep}
use Rattle.monitor_steps.specs.declared.steps.PrivilegedStep.TheOpen.{PrivilegedStep-F, Const as ConstF, Copy as CopyF, Load as LoadF, Store as StoreF, Alu as AluF, ReadPsp as ReadPspF, WritePsp as WritePspF, WriteControl as WriteControlF, Test as TestF, Repeat as RepeatF, Halt as HaltF, Return as ReturnF, Go as GoF}
use Rattle.monitor_steps.specs.declared.steps.PrivilegedStep.TheFolds.{fold_out-PrivilegedStep}
use Rattle.monitor_steps.specs.Steps.{PrivilegedSteps, End, names_low, is_low}
use Rattle.monitor_steps.specs.Lists.{chain, step_before, before, all_before, steps_of}
use Rattle.monitor_steps.specs.Code.{code, code_length}
use Rattle.monitor_steps.proofs.Views.{all_before-append}
use Rattle.monitor_assembler.specs.Emitted.{has_near_offsets}
use Rattle.std.proofs.lemmas.Bool.{and_parts as both_are}

-- ---- lengths

step_length : (x : PrivilegedStep-F (PrivilegedSteps → PrivilegedSteps)) (k : PrivilegedSteps) → code_length (step_before x k) ≡ code_length (step_before x End) + code_length k
step_length (ConstF to n) k = omega arith
step_length (CopyF to from) k = omega arith
step_length (LoadF to base off w) k = omega arith
step_length (StoreF from base off w) k = omega arith
step_length (AluF op to a b) k = omega arith
step_length (ReadPspF to) k = omega arith
step_length (WritePspF from) k = omega arith
step_length (WriteControlF from) k = omega arith
step_length (TestF c a b ys ns) k = omega arith
step_length (RepeatF left most body) k = omega arith
step_length (HaltF n) k = omega arith
step_length ReturnF k = omega arith
step_length (GoF to link) k = omega arith

pub length-before : (s : PrivilegedStep) (k : PrivilegedSteps) → code_length (before s k) ≡ code_length (before s End) + code_length k
length-before s k =
    let e = fold_out-PrivilegedStep (PrivilegedSteps → PrivilegedSteps) step_before s in
    ap (λ f. code_length (f k)) e ∙ step_length _ k ∙ ap (λ f. code_length (f End) + code_length k) (sym e)

length-all_before : (ss : List PrivilegedStep) (k : PrivilegedSteps) → code_length (all_before ss k) ≡ code_length (steps_of ss) + code_length k
length-all_before [] k = omega arith
length-all_before (s ∷ ss) k =
    omega (arith, length-before s (all_before ss k), length-before s (steps_of ss), length-all_before ss k)

-- ---- code

step_code : (x : PrivilegedStep-F (PrivilegedSteps → PrivilegedSteps)) (k : PrivilegedSteps) → code (step_before x k) ≡ code (step_before x End) ++ code k
step_code (ConstF to n) k = refl
step_code (CopyF to from) k = refl
step_code (LoadF to base off w) k = refl
step_code (StoreF from base off w) k = refl
step_code (AluF op to a b) k = simp append-nil
step_code (ReadPspF to) k = refl
step_code (WritePspF from) k = refl
step_code (WriteControlF from) k = refl
step_code (TestF c a b ys ns) k = simp (append_assoc, append-nil)
step_code (RepeatF left most body) k = simp append_assoc
step_code (HaltF n) k = refl
step_code ReturnF k = refl
step_code (GoF to link) k = refl

layer_code : (f : PrivilegedSteps → PrivilegedSteps) (x : PrivilegedStep-F (PrivilegedSteps → PrivilegedSteps)) → f ≡ step_before x → (k : PrivilegedSteps) → code (f k) ≡ code (f End) ++ code k
layer_code f x e k = ap (λ g. code (g k)) e ∙ step_code x k ∙ ap (λ g. code (g End) ++ code k) (sym e)

pub code-before : (s : PrivilegedStep) (k : PrivilegedSteps) → code (before s k) ≡ code (before s End) ++ code k
code-before s k = layer_code (before s) _ (fold_out-PrivilegedStep (PrivilegedSteps → PrivilegedSteps) step_before s) k

code-all_before : (ss : List PrivilegedStep) (k : PrivilegedSteps) → code (all_before ss k) ≡ code (steps_of ss) ++ code k
code-all_before [] k = refl
code-all_before (s ∷ ss) k =
    code-before s (all_before ss k)
    ∙ ap (λ x. code (before s End) ++ x) (code-all_before ss k)
    ∙ sym (append_assoc (code (before s End)) (code (steps_of ss)) (code k))
    ∙ ap (λ x. x ++ code k) (sym (code-before s (steps_of ss)))

-- ---- registers and offsets

-- the rest counts in the same way as nothing
ends : (x k : Bool) → (x && k) ≡ ((x && true) && k)
ends true k = refl
ends false k = refl

joins : (x y k : Bool) → (x && (y && k)) ≡ ((x && (y && true)) && k)
joins true true k = refl
joins true false k = refl
joins false y k = refl

step_low : (x : PrivilegedStep-F (PrivilegedSteps → PrivilegedSteps)) (k : PrivilegedSteps) → names_low (step_before x k) ≡ (names_low (step_before x End) && names_low k)
step_low (ConstF to n) k = ends (is_low to) (names_low k)
step_low (CopyF to from) k = ends (is_low to && is_low from) (names_low k)
step_low (LoadF to base off w) k = ends (is_low to && is_low base) (names_low k)
step_low (StoreF from base off w) k = ends (is_low from && is_low base) (names_low k)
step_low (AluF op to a b) k = ends ((is_low to && is_low a) && is_low b) (names_low k)
step_low (ReadPspF to) k = ends (is_low to) (names_low k)
step_low (WritePspF from) k = ends (is_low from) (names_low k)
step_low (WriteControlF from) k = ends (is_low from) (names_low k)
step_low (TestF c a b ys ns) k = joins (is_low a && is_low b) (names_low (chain ys.items End) && names_low (chain ns.items End)) (names_low k)
step_low (RepeatF left most body) k = joins (is_low left) (names_low (chain body.items End)) (names_low k)
step_low (HaltF n) k = refl
step_low ReturnF k = refl
step_low (GoF to link) k = ends (is_low to && is_low link) (names_low k)

layer_low : (f : PrivilegedSteps → PrivilegedSteps) (x : PrivilegedStep-F (PrivilegedSteps → PrivilegedSteps)) → f ≡ step_before x → (k : PrivilegedSteps) → names_low (f k) ≡ (names_low (f End) && names_low k)
layer_low f x e k = ap (λ g. names_low (g k)) e ∙ step_low x k ∙ ap (λ g. names_low (g End) && names_low k) (sym e)

pub low-before : (s : PrivilegedStep) (k : PrivilegedSteps) → names_low (before s k) ≡ (names_low (before s End) && names_low k)
low-before s k = layer_low (before s) _ (fold_out-PrivilegedStep (PrivilegedSteps → PrivilegedSteps) step_before s) k

step_near : (x : PrivilegedStep-F (PrivilegedSteps → PrivilegedSteps)) (k : PrivilegedSteps) → has_near_offsets (step_before x k) ≡ (has_near_offsets (step_before x End) && has_near_offsets k)
step_near (ConstF to n) k = refl
step_near (CopyF to from) k = refl
step_near (LoadF to base off w) k = ends (nat_lt (off / byte_count w) 32) (has_near_offsets k)
step_near (StoreF from base off w) k = ends (nat_lt (off / byte_count w) 32) (has_near_offsets k)
step_near (AluF op to a b) k = refl
step_near (ReadPspF to) k = refl
step_near (WritePspF from) k = refl
step_near (WriteControlF from) k = refl
step_near (TestF c a b ys ns) k = ends (has_near_offsets (chain ys.items End) && has_near_offsets (chain ns.items End)) (has_near_offsets k)
step_near (RepeatF left most body) k = ends (has_near_offsets (chain body.items End)) (has_near_offsets k)
step_near (HaltF n) k = refl
step_near ReturnF k = refl
step_near (GoF to link) k = refl

layer_near : (f : PrivilegedSteps → PrivilegedSteps) (x : PrivilegedStep-F (PrivilegedSteps → PrivilegedSteps)) → f ≡ step_before x → (k : PrivilegedSteps) → has_near_offsets (f k) ≡ (has_near_offsets (f End) && has_near_offsets k)
layer_near f x e k = ap (λ g. has_near_offsets (g k)) e ∙ step_near x k ∙ ap (λ g. has_near_offsets (g End) && has_near_offsets k) (sym e)

pub near-before : (s : PrivilegedStep) (k : PrivilegedSteps) → has_near_offsets (before s k) ≡ (has_near_offsets (before s End) && has_near_offsets k)
near-before s k = layer_near (before s) _ (fold_out-PrivilegedStep (PrivilegedSteps → PrivilegedSteps) step_before s) k

pub low-at : (ss : List PrivilegedStep) (i : ℕ) (d : PrivilegedStep) → i < length ss → names_low (steps_of ss) ≡ true → names_low (before (get_or ss i d) End) ≡ true
low-at [] i d lt h = absurd (omega arith)
low-at (s ∷ ss) zero d lt h = (both_are _ _ (sym (low-before s (steps_of ss)) ∙ h)).0
low-at (s ∷ ss) (suc i) d lt h = low-at ss i d (omega arith) (both_are _ _ (sym (low-before s (steps_of ss)) ∙ h)).1

pub near-at : (ss : List PrivilegedStep) (i : ℕ) (d : PrivilegedStep) → i < length ss → has_near_offsets (steps_of ss) ≡ true → has_near_offsets (before (get_or ss i d) End) ≡ true
near-at [] i d lt h = absurd (omega arith)
near-at (s ∷ ss) zero d lt h = (both_are _ _ (sym (near-before s (steps_of ss)) ∙ h)).0
near-at (s ∷ ss) (suc i) d lt h = near-at ss i d (omega arith) (both_are _ _ (sym (near-before s (steps_of ss)) ∙ h)).1

-- ---- one step more

pub length-take_more : (ss : List PrivilegedStep) (i : ℕ) (d : PrivilegedStep) → i < length ss → code_length (steps_of (take (i + 1) ss)) ≡ code_length (steps_of (take i ss)) + code_length (before (get_or ss i d) End)
length-take_more ss i d lt =
    ap (λ x. code_length (steps_of x)) (take_more ss i d lt)
    ∙ ap code_length (all_before-append (take i ss) (get_or ss i d ∷ []) End)
    ∙ length-all_before (take i ss) (before (get_or ss i d) End)

pub length-take-le : (ss : List PrivilegedStep) (i : ℕ) → code_length (steps_of (take i ss)) ≤ code_length (steps_of ss)
length-take-le ss i =
    let e = ap (λ x. code_length (steps_of x)) (take-append-drop i ss) in
    omega (arith, e, ap code_length (all_before-append (take i ss) (drop i ss) End), length-all_before (take i ss) (steps_of (drop i ss)))

pub code-take_more : (ss : List PrivilegedStep) (i : ℕ) (d : PrivilegedStep) → i < length ss → code (steps_of (take (i + 1) ss)) ≡ code (steps_of (take i ss)) ++ code (before (get_or ss i d) End)
code-take_more ss i d lt =
    ap (λ x. code (steps_of x)) (take_more ss i d lt)
    ∙ ap code (all_before-append (take i ss) (get_or ss i d ∷ []) End)
    ∙ code-all_before (take i ss) (before (get_or ss i d) End)
