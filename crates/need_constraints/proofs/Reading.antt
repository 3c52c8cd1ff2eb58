-- What is read of a program.
use Rattle.std.proofs.Common.{◌≡◌, ℕ, zero, suc, ◌<◌, ◌≤◌, Bool, true, false, List, [], ◌∷◌, ◌++◌, length, get_or, map, take, refl, sym, ap, ◌∙◌, subst, arith, drop, ◌⊎◌, inl, inr, if◌then◌else◌}
use Rattle.std.specs.Prelude.{Contains, Vec}
use Rattle.need_sets.specs.Numbers.{GroupCounts}
use Rattle.need_sets.specs.declared.rules.Trigger.{Trigger}
use Rattle.std.specs.List.{flat_map}
use Rattle.std.proofs.lemmas.List.{get_or-map, length-map, map-append}
use Rattle.ir_model.specs.Types.{PlainType, is_integer}
use Rattle.ir_model.specs.Layout.{CellPlace, Known}
use Rattle.ir_model.specs.Resolve.{filled, zero_of}
use Rattle.ir_model.specs.Resolved.{Value, Number, Null, NumberedFunc, NumberedGlobal, no_func, no_global}
use Rattle.ir_program.specs.declared.program.Program as programs
use Rattle.ir_program.specs.declared.program.Routine.{Routine}
use Rattle.ir_program.specs.declared.program.Sequence.{Sequence}
use Rattle.ir_program.specs.declared.program.Variable.{Variable}
use Rattle.ir_program.specs.declared.value.Value as values
use Rattle.ir_program.specs.Parts.{routine_of, sequence_of, variable_of, cell_count, global_count}
use Rattle.ir_program.specs.Seen.{program_of, known_of}
use Rattle.ir_program.specs.Storages.{shape_of}
use Rattle.ir_program.specs.Values.{value_of}
use Rattle.need_sets.specs.declared.rules.Rules.{Rules}
use Rattle.need_sets.specs.Rules.{lists_in}
use Rattle.need_sets.specs.Demands.{Demand, value_demands, block_demands, func_demands, global_demands}
use Rattle.need_sets.specs.Gathered.{Item, Fact, Copy, Asks, HasItem, IsAskedBy, Represents}
use Rattle.need_lists.proofs.Parts.{in_none}

-- the blocks of a function that was read
pub blocks_read : (q : programs.Program) (s : List Routine) (f : ℕ) (r : Routine) (bs : List Sequence) → s ≡ q.funcs → r ≡ get_or s f r → bs ≡ r.blocks → f < length q.funcs
    → flat_map (block_demands (program_of q) f) (map (sequence_of (known_of q)) bs) ≡ func_demands (program_of q) f
blocks_read q s f r bs e i b h =
    ap (λ l. flat_map (block_demands (program_of q) f) (map (sequence_of (known_of q)) l)) b
    ∙ sym (ap (λ (x : NumberedFunc). flat_map (block_demands (program_of q) f) x.blocks) (get_or-map (routine_of (known_of q)) q.funcs f r no_func h ∙ ap (routine_of (known_of q)) (sym (i ∙ ap (λ l. get_or l f r) e))))

zero_asks : (g : ℕ) (t : PlainType) → value_demands g (zero_of t) ≡ []
zero_asks g t = by (is_integer t)
  where
    by : (b : Bool) → value_demands g (if b then Number 0 else Null) ≡ []
    by true = refl
    by false = refl

-- the cells behind the values that are kept ask nothing
pub filled_asks : (g n : ℕ) (cs : List CellPlace) (vs : List Value) → n ≤ length vs → n ≤ length cs → (length vs ≤ n) ⊎ (length cs ≤ n) → flat_map (value_demands g) (take n vs) ≡ flat_map (value_demands g) (filled cs vs)
filled_asks g zero [] vs a b h = refl
filled_asks g (suc n) [] vs a b h = absurd (omega arith)
filled_asks g zero (c ∷ cs) [] a b h = filled_asks g zero cs [] (omega arith) (omega arith) (inl (omega arith)) ∙ ap (λ (l : List Demand). l ++ flat_map (value_demands g) (filled cs [])) (sym (zero_asks g c.ty))
filled_asks g (suc n) (c ∷ cs) [] a b h = absurd (omega arith)
filled_asks g zero (c ∷ cs) (v ∷ vs) a b (inl h) = absurd (omega arith)
filled_asks g zero (c ∷ cs) (v ∷ vs) a b (inr h) = absurd (omega arith)
filled_asks g (suc n) (c ∷ cs) (v ∷ vs) a b h = ap (λ (l : List Demand). value_demands g v ++ l) (filled_asks g n cs vs (omega arith) (omega arith) (both h))
  where
    both : (length (v ∷ vs) ≤ suc n) ⊎ (length (c ∷ cs) ≤ suc n) → (length vs ≤ n) ⊎ (length cs ≤ n)
    both (inl x) = inl (omega arith)
    both (inr x) = inr (omega arith)

cells_are : (ks : List Known) (vs : List Variable) (g : ℕ) (v : Variable) → map global_count vs ≡ map cell_count (map (variable_of ks) vs) → g < length vs → v ≡ get_or vs g v → v.storage.cells ≡ length (shape_of ks v.storage).cells
cells_are ks [] g v e l i = absurd (omega arith)
cells_are ks (x ∷ vs) zero v e l i = subst (λ (y : Variable). y.storage.cells ≡ length (shape_of ks y.storage).cells) (sym i) (ap (λ (xs : List ℕ). get_or xs 0 0) e)
cells_are ks (x ∷ vs) (suc g) v e l i = cells_are ks vs g v (ap (λ (xs : List ℕ). drop 1 xs) e) (omega arith) i

-- the initial values of a global that was read
pub values_read : (q : programs.Program) (s : List Variable) (g : ℕ) (v : Variable) (vs : List values.Value) (n : ℕ) → s ≡ q.globals → v ≡ get_or s g v → g < length q.globals → vs ≡ v.init → n ≤ length vs → n ≤ v.storage.cells → (length vs ≤ n) ⊎ (v.storage.cells ≤ n)
    → flat_map (value_demands g) (map value_of (take n vs)) ≡ global_demands (program_of q) g
values_read q s g v vs n e i l f a b d =
    let c = cells_are (known_of q) q.globals g v q.cells_of_globals l (i ∙ ap (λ x. get_or x g v) e) in
    let m = length-map v.init value_of in
    let k : length vs ≡ length v.init = ap length f in
    ap (flat_map (value_demands g)) (map-take vs n ∙ ap (λ x. take n (map value_of x)) f)
    ∙ (filled_asks g n (shape_of (known_of q) v.storage).cells (map value_of v.init) (omega arith) (omega arith) (both c m k d)
    ∙ sym (ap (λ (x : NumberedGlobal). flat_map (value_demands g) x.init) (get_or-map (variable_of (known_of q)) q.globals g v no_global l ∙ ap (variable_of (known_of q)) (sym (i ∙ ap (λ x. get_or x g v) e)))))
  where
    map-take : (xs : List values.Value) (k : ℕ) → map value_of (take k xs) ≡ take k (map value_of xs)
    map-take xs zero = refl
    map-take [] (suc k) = refl
    map-take (x ∷ xs) (suc k) = ap (λ l. value_of x ∷ l) (map-take xs k)

    both : v.storage.cells ≡ length (shape_of (known_of q) v.storage).cells → length (map value_of v.init) ≡ length v.init → length vs ≡ length v.init → (length vs ≤ n) ⊎ (v.storage.cells ≤ n) → (length (map value_of v.init) ≤ n) ⊎ (length (shape_of (known_of q) v.storage).cells ≤ n)
    both c m k (inl x) = inl (omega arith)
    both c m k (inr x) = inr (omega arith)

-- rules that ask nothing
pub represents_none : (c : GroupCounts) (r : Rules) → r.facts.items ≡ [] → r.copies.items ≡ [] → ((n : ℕ) → get_or (lists_in r.triggers) n [] ≡ []) → Represents c r []
represents_none c r f e t = record {
  all = λ d h. absurd (in_none d h);
  each = each;
  facts = ap length f;
}
  where
    each : (x : Item) → HasItem r x → IsAskedBy c [] x
    each (Fact x) h = absurd (in_none x (subst (λ l. Contains l x) f h))
    each (Copy x) h = absurd (in_none x (subst (λ l. Contains l x) e h))
    each (Asks n x) h = absurd (in_none x (subst (λ l. Contains l x) (t n) h))

-- one empty list more
pub empty_more : {X : Type 0} (xs : List (List X)) → ((n : ℕ) → get_or xs n [] ≡ []) → (n : ℕ) → get_or (xs ++ [] ∷ []) n [] ≡ []
empty_more [] h zero = refl
empty_more [] h (suc n) = refl
empty_more (x ∷ xs) h zero = h zero
empty_more (x ∷ xs) h (suc n) = empty_more xs (λ k. h (suc k)) n

pub empty_pushed : {A : Type 0} (xs ys : List (Vec Trigger A)) (v : Vec Trigger A) → ys ≡ xs ++ v ∷ [] → v.items ≡ [] → ((n : ℕ) → get_or (map (λ (x : Vec Trigger A). x.items) xs) n [] ≡ []) → (n : ℕ) → get_or (map (λ (x : Vec Trigger A). x.items) ys) n [] ≡ []
empty_pushed {A} xs ys v e f h n =
    ap (λ (l : List (List Trigger)). get_or l n []) (ap (map (λ (x : Vec Trigger A). x.items)) e ∙ (map-append (λ (x : Vec Trigger A). x.items) xs (v ∷ []) ∙ ap (λ (l : List Trigger). map (λ (x : Vec Trigger A). x.items) xs ++ l ∷ []) f))
    ∙ empty_more (map (λ (x : Vec Trigger A). x.items) xs) h n
