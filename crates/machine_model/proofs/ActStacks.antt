-- What instructions ask for: widths of accesses, the stack pointer that is not in use, and calls.
use Rattle.std.specs.Prelude.{if◌then◌else◌, ℤ}
use Rattle.std.proofs.lemmas.Bool.Decides.{nat_tests}
use Rattle.std.proofs.Common.{◌≡◌, ℕ, ◌+◌, ◌-◌, ◌*◌, ◌%◌, Bool, true, false, inl, inr, List, [], ◌∷◌, length, Option, Some, None, nat_eq, nat_lt, refl, ap, arith}
use Rattle.base_words.specs.Arithmetic.{word}
use Rattle.machine_thumb.specs.declared.table.Instr.{Instr}
use Rattle.machine_thumb.specs.declared.table.Instr.TheVariants.{ShiftImmediate, AddSubRegister, AddSubImmediate, DataImmediate, DataRegister, HighRegister, BranchExchange, LoadLiteral, TransferRegister, TransferImmediate, StackRelative, AdjustStack, PushPop, BreakpointNop, TransferMultiple, BranchConditional, CallBranch, BranchLink, BranchWide, MoveWide, MoveTop, Divide, SpecialRegister, Barrier}
use Rattle.machine_protection.specs.Protection.{IsAccessWidth}
use Rattle.machine_model.specs.declared.state.CoreRegisters.{CoreRegisters}
use Rattle.machine_model.specs.State.{with_register, with_low, at}
use Rattle.machine_model.specs.Act.{Act, Changes, Loads, Stores, LoadsMany, StoresMany, GetsSpecial, SetsSpecial, Exchanges, Calls, Halts, Stops}
use Rattle.machine_model.specs.declared.answers.Outcome.{Outcome}
use Rattle.machine_model.specs.declared.answers.Outcome.TheVariants.{Gives, Tests}
use Rattle.machine_model.specs.DataOperations.{after_outcome}
use Rattle.machine_model.specs.Instructions.{act, jump, listed, filled, last_of}
use Rattle.machine_model.specs.ThreadStep.{KeepsStacks}

pub stays : (c : CoreRegisters) → KeepsStacks c c
stays c = record { in_use = refl; other = refl }

abbrev pub MaybeStays : CoreRegisters → Option CoreRegisters → Type 0
MaybeStays c None = Unit {0}
MaybeStays c (Some d) = KeepsStacks c d

-- SVC
abbrev pub IsCall : Instr → Type 0
IsCall x = (imm8 : ℕ) × (offset : ℤ) × (x ≡ CallBranch 0 imm8 offset)

-- an act of these registers with this next address keeps the stacks, where only such an instruction calls
abbrev pub ActKeeps : (call : Type 0) → CoreRegisters → (next : ℕ) → Act → Type 0
ActKeeps Q c next (Changes d) = KeepsStacks c d
ActKeeps Q c next (Loads w a go) = IsAccessWidth w × ((v : ℕ) → KeepsStacks c (go v))
ActKeeps Q c next (Stores w a v d) = IsAccessWidth w × KeepsStacks c d
ActKeeps Q c next (LoadsMany a n go) = (vs : List ℕ) → MaybeStays c (go vs)
ActKeeps Q c next (StoresMany a vs d) = KeepsStacks c d
ActKeeps Q c next (GetsSpecial n r d) = KeepsStacks c d
ActKeeps Q c next (SetsSpecial n v d) = KeepsStacks c d
ActKeeps Q c next (Exchanges v) = Unit {0}
ActKeeps Q c next (Calls n) = Q × (n ≡ next)
ActKeeps Q c next (Halts n) = Unit {0}
ActKeeps Q c next (Stops r) = Unit {0}

if_act : (Q : Type 0) (b : Bool) (c : CoreRegisters) (next : ℕ) (x y : Act) → ActKeeps Q c next x → ActKeeps Q c next y → ActKeeps Q c next (if b then x else y)
if_act Q true c next x y h g = h
if_act Q false c next x y h g = g

if_act_by : (Q : Type 0) (b : Bool) (c : CoreRegisters) (next : ℕ) (x y : Act) → (b ≡ true → ActKeeps Q c next x) → ActKeeps Q c next y → ActKeeps Q c next (if b then x else y)
if_act_by Q true c next x y h g = h refl
if_act_by Q false c next x y h g = g

if_core : (b : Bool) (c x y : CoreRegisters) → KeepsStacks c x → KeepsStacks c y → KeepsStacks c (if b then x else y)
if_core true c x y h g = h
if_core false c x y h g = g

if_maybe : (b : Bool) (c : CoreRegisters) (x y : Option CoreRegisters) → MaybeStays c x → MaybeStays c y → MaybeStays c (if b then x else y)
if_maybe true c x y h g = h
if_maybe false c x y h g = g

pub register_stays : (c d : CoreRegisters) (k v : ℕ) → KeepsStacks c d → KeepsStacks c (with_register d k v)
register_stays c d k v h =
    if_core (nat_lt k 8) c _ _ (record { in_use = h.in_use; other = h.other })
    (if_core (nat_lt k 13) c _ _ (record { in_use = h.in_use; other = h.other })
    (if_core (nat_eq k 13) c _ _ (record { in_use = h.in_use; other = h.other }) (record { in_use = h.in_use; other = h.other })))

at_stays : (c d : CoreRegisters) (next : ℕ) → KeepsStacks c d → KeepsStacks c (at d next)
at_stays c d next h = record { in_use = h.in_use; other = h.other }

outcome_stays : (o : Outcome) (c : CoreRegisters) (next d : ℕ) → KeepsStacks c (after_outcome o c next d)
outcome_stays (Gives v f) c next d = record { in_use = refl; other = refl }
outcome_stays (Tests f) c next d = record { in_use = refl; other = refl }

filled_stays : (c d : CoreRegisters) (ks vs : List ℕ) → KeepsStacks c d → KeepsStacks c (filled d ks vs)
filled_stays c d [] vs h = h
filled_stays c d (k ∷ ks) [] h = h
filled_stays c d (k ∷ ks) (v ∷ vs) h = filled_stays c (with_low d k v) ks vs (record { in_use = h.in_use; other = h.other })

jump_stays : (Q : Type 0) (c d : CoreRegisters) (next v : ℕ) → KeepsStacks c d → ActKeeps Q c next (jump v d)
jump_stays Q c d next v h = if_act Q (nat_eq (v % 2) 1) c next _ _ (at_stays c d (v - 1) h) tt

byte_width : IsAccessWidth 1
byte_width = inl refl

half_width : IsAccessWidth 2
half_width = inr (inl refl)

word_width : IsAccessWidth 4
word_width = inr (inr refl)

pub act_keeps : (x : Instr) (next : ℕ) (c : CoreRegisters) → ActKeeps (IsCall x) c next (act x next c)
unfolding act
act_keeps (ShiftImmediate op imm5 m d) next c = outcome_stays _ c next d
act_keeps (AddSubRegister op m n d) next c = outcome_stays _ c next d
act_keeps (AddSubImmediate op imm3 n d) next c = outcome_stays _ c next d
act_keeps (DataImmediate op d imm8) next c = outcome_stays _ c next d
act_keeps (DataRegister op m d) next c = outcome_stays _ c next d
act_keeps (HighRegister op m d) next c =
    if_core (nat_eq op 0) c _ _ (at_stays c _ next (register_stays c c d _ (stays c)))
    (if_core (nat_eq op 1) c _ _ (record { in_use = refl; other = refl }) (at_stays c _ next (register_stays c c d _ (stays c))))
act_keeps (BranchExchange op m) next c = if_act _ (nat_eq op 0) c next _ _ tt (jump_stays _ c (record c { lr = next + 1 }) next _ (record { in_use = refl; other = refl }))
act_keeps (LoadLiteral t imm8) next c = (word_width, λ v. record { in_use = refl; other = refl })
act_keeps (TransferRegister op m n t) next c =
    if_act _ (nat_eq op 0) c next _ _ (word_width, record { in_use = refl; other = refl })
    (if_act _ (nat_eq op 1) c next _ _ (half_width, record { in_use = refl; other = refl })
    (if_act _ (nat_eq op 2) c next _ _ (byte_width, record { in_use = refl; other = refl })
    (if_act _ (nat_eq op 3) c next _ _ (byte_width, λ v. record { in_use = refl; other = refl })
    (if_act _ (nat_eq op 4) c next _ _ (word_width, λ v. record { in_use = refl; other = refl })
    (if_act _ (nat_eq op 5) c next _ _ (half_width, λ v. record { in_use = refl; other = refl })
    (if_act _ (nat_eq op 6) c next _ _ (byte_width, λ v. record { in_use = refl; other = refl }) (half_width, λ v. record { in_use = refl; other = refl })))))))
act_keeps (TransferImmediate op imm5 n t) next c =
    if_act _ (nat_eq op 0) c next _ _ (word_width, record { in_use = refl; other = refl })
    (if_act _ (nat_eq op 1) c next _ _ (word_width, λ v. record { in_use = refl; other = refl })
    (if_act _ (nat_eq op 2) c next _ _ (byte_width, record { in_use = refl; other = refl })
    (if_act _ (nat_eq op 3) c next _ _ (byte_width, λ v. record { in_use = refl; other = refl })
    (if_act _ (nat_eq op 4) c next _ _ (half_width, record { in_use = refl; other = refl }) (half_width, λ v. record { in_use = refl; other = refl })))))
act_keeps (StackRelative op t d imm8) next c =
    if_act _ (nat_eq op 0) c next _ _ (word_width, record { in_use = refl; other = refl })
    (if_act _ (nat_eq op 1) c next _ _ (word_width, λ v. record { in_use = refl; other = refl }) (record { in_use = refl; other = refl }))
act_keeps (AdjustStack op imm7) next c = at_stays c _ next (if_core (nat_eq op 0) c _ _ (record { in_use = refl; other = refl }) (record { in_use = refl; other = refl }))
act_keeps (PushPop op m p list) next c =
    if_act _ (nat_eq op 0) c next _ _ (record { in_use = refl; other = refl })
    (λ vs. let h = filled_stays c (record c { sp = word (c.sp + 4 * length vs) }) (listed 8 0 list) vs (record { in_use = refl; other = refl }) in
    if_maybe (nat_eq p 1) c _ _ (if_maybe (nat_eq (last_of vs % 2) 1) c _ _ (at_stays c _ _ h) tt) (at_stays c _ next h))
act_keeps (BreakpointNop op imm8) next c = if_act _ (nat_eq op 0) c next _ _ tt (record { in_use = refl; other = refl })
act_keeps (TransferMultiple op n list) next c =
    if_act _ (nat_eq op 0) c next _ _ (record { in_use = refl; other = refl }) (λ vs. filled_stays c _ (listed 8 0 list) vs (record { in_use = refl; other = refl }))
act_keeps (BranchConditional cond offset) next c = record { in_use = refl; other = refl }
act_keeps (CallBranch op imm8 offset) next c =
    if_act_by _ (nat_eq op 0) c next _ _ (λ e. let z : op ≡ 0 = search (nat_tests, arith) in ((imm8, offset, ap (λ o. CallBranch o imm8 offset) z), refl)) (record { in_use = refl; other = refl })
act_keeps (BranchLink offset) next c = record { in_use = refl; other = refl }
act_keeps (BranchWide offset) next c = record { in_use = refl; other = refl }
act_keeps (MoveWide d value) next c = at_stays c _ next (register_stays c c d _ (stays c))
act_keeps (MoveTop d value) next c = at_stays c _ next (register_stays c c d _ (stays c))
act_keeps (Divide op n d m) next c = at_stays c _ next (register_stays c c d _ (stays c))
act_keeps (SpecialRegister op n d s) next c = if_act _ (nat_eq op 0) c next _ _ (record { in_use = refl; other = refl }) (record { in_use = refl; other = refl })
act_keeps (Barrier op) next c = record { in_use = refl; other = refl }
