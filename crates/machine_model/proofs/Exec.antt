-- One instruction after another, whatever protects.
use Rattle.std.proofs.Common.{◌≡◌, ℕ, suc, ◌+◌, ◌<◌, ◌≤◌, true, false, List, [], ◌∷◌, ◌++◌, Some, None, nat_lt, refl, ap, ◌∙◌, arith, inl, inr}
use Rattle.std.proofs.lemmas.Bool.Decides.{nat_tests}
use Rattle.base_words.proofs.Runs.{stay as stay_run, onward as onward_run, next as next_run, next_event as next_event_run}
use Rattle.machine_thumb.specs.Table.{InTable, encode}
use Rattle.machine_thumb.specs.Decoded.{decoded_code}
use Rattle.machine_thumb.proofs.Relation.{round_trip}
use Rattle.machine_thumb.specs.declared.table.Code.{Code}
use Rattle.machine_thumb.specs.declared.table.Code.TheVariants.{Half, Pair}
use Rattle.machine_thumb.specs.declared.table.Instr.{Instr}
use Rattle.machine_thumb.specs.declared.table.Instr.TheVariants.{ShiftImmediate, AddSubRegister, AddSubImmediate, DataImmediate, DataRegister, HighRegister, BranchExchange, LoadLiteral, TransferRegister, TransferImmediate, StackRelative, AdjustStack, PushPop, BreakpointNop, TransferMultiple, BranchConditional, CallBranch, BranchLink, BranchWide, MoveWide, MoveTop, Divide, SpecialRegister, Barrier}
use Rattle.machine_thumb.proofs.Codes.{zero_or_one, zero_one_or_two}
use Rattle.machine_protection.specs.declared.region.Access.TheVariants.{Fetch}
use Rattle.machine_devices.specs.declared.image.Image.{Image}
use Rattle.base_events.specs.declared.event.Event.{Event}
use Rattle.machine_model.specs.declared.state.CoreRegisters.{CoreRegisters}
use Rattle.machine_model.specs.declared.state.ProtectionState.{ProtectionState}
use Rattle.machine_model.specs.declared.state.FaultStatus.{FaultStatus}
use Rattle.machine_model.specs.State.{State, Turn, PermissionTest}
use Rattle.machine_model.specs.Instructions.{act}
use Rattle.machine_model.specs.Perform.{perform}
use Rattle.machine_model.specs.declared.answers.Fetched.{Fetched}
use Rattle.machine_model.specs.declared.answers.Fetched.TheVariants.{Took}
use Rattle.machine_model.specs.Step.{turn, fetch, fetched}
use Rattle.machine_model.specs.Running.{code_size, CodeMayRun, CodeHasParts}
use Rattle.machine_model.specs.Events.{StepsWith}
use Rattle.machine_model.specs.Code.{size, HoldsCode, MayFetch, Stands, CodeIn, live, StepsQuietly, Runs}

-- one halfword stands below 0xE800, and the first of two from there on
abbrev pub HasForm : Code → (size : ℕ) → Type 0
HasForm (Half h) n = (nat_lt h 0xE800 ≡ true) × (n ≡ 2)
HasForm (Pair h k) n = (nat_lt h 0xE800 ≡ false) × (n ≡ 4)

short : (h : ℕ) → h < 0xE800 → nat_lt h 0xE800 ≡ true
short h below = search (nat_tests, arith)

long : (h : ℕ) → 0xE800 ≤ h → nat_lt h 0xE800 ≡ false
long h above = search (nat_tests, arith)

below_two : (op : ℕ) → op < 2 → nat_lt op 2 ≡ true
below_two op h = search (nat_tests, arith)

-- the size of an instruction is that of its halfwords
pub encode_form : (x : Instr) → InTable x → HasForm (encode x) (size x)
unfolding encode
encode_form (ShiftImmediate op imm5 m d) v = (short _ (omega arith), refl)
encode_form (AddSubRegister op m n d) v = (short _ (omega arith), refl)
encode_form (AddSubImmediate op imm3 n d) v = (short _ (omega arith), refl)
encode_form (DataImmediate op d imm8) v = (short _ (omega arith), refl)
encode_form (DataRegister op m d) v = (short _ (omega arith), refl)
encode_form (HighRegister op m d) v = (short _ (omega arith), refl)
encode_form (BranchExchange op m) v = (short _ (omega arith), refl)
encode_form (LoadLiteral t imm8) v = (short _ (omega arith), refl)
encode_form (TransferRegister op m n t) v = (short _ (omega arith), refl)
encode_form (TransferImmediate op imm5 n t) v = (short _ (omega arith), refl)
encode_form (StackRelative op t d imm8) v = elim (zero_one_or_two op v.0) [
  | inl z ↦ let e = below_two op z in rw e (short _ (omega arith), refl)
  | inr z ↦ rw z (short _ (omega arith), refl)
]
encode_form (AdjustStack op imm7) v = (short _ (omega arith), refl)
encode_form (PushPop op m p list) v = elim (zero_or_one op v.0) [
  | inl z ↦ rw z (short _ (omega arith), refl)
  | inr z ↦ rw z (short _ (omega arith), refl)
]
encode_form (BreakpointNop op imm8) v = elim (zero_or_one op v.0) [
  | inl z ↦ rw z (short _ (omega arith), refl)
  | inr z ↦ rw z (refl, refl)
]
encode_form (TransferMultiple op n list) v = (short _ (omega arith), refl)
encode_form (BranchConditional cond offset) v = (short _ (omega arith), refl)
encode_form (CallBranch op imm8 offset) v = elim (zero_or_one op v.0) [
  | inl z ↦ rw z (short _ (omega arith), refl)
  | inr z ↦ rw z (short _ (omega arith), refl)
]
encode_form (BranchLink offset) v = (long _ (omega arith), refl)
encode_form (BranchWide offset) v = (long _ (omega arith), refl)
encode_form (MoveWide d value) v = (long _ (omega arith), refl)
encode_form (MoveTop d value) v = (long _ (omega arith), refl)
encode_form (Divide op n d m) v = elim (zero_or_one op v.0) [
  | inl z ↦ rw z (long _ (omega arith), refl)
  | inr z ↦ rw z (long _ (omega arith), refl)
]
encode_form (SpecialRegister op n d s) v = elim (zero_or_one op v.0) [
  | inl z ↦ rw z (long _ (omega arith), refl)
  | inr z ↦ rw z (refl, refl)
]
encode_form (Barrier op) v = (refl, refl)

-- what is taken of the halfwords
abbrev pub taken_of : Code → Fetched
taken_of (Half h) = Took h 0 2
taken_of (Pair h k) = Took h k 4

pub fetches : (j : PermissionTest) (i : Image) (s : State) (c : Code) (n : ℕ) → HoldsCode i s.core.pc c → MayFetch j s.protection s.core.pc c → HasForm c n → fetch j i s ≡ taken_of c
unfolding fetch
fetches j i s (Half h) n c m f =
    let p = c.is_in_flash in let r = c.is_half in let t = f.0 in
    rw (m, p, r, t)
fetches j i s (Pair h k) n c m f =
    let p = c.0.is_in_flash in let r = c.0.is_half in let q = c.1.is_in_flash in let u = c.1.is_half in let t = f.0 in
    let a = m.0 in let b = m.1 in
    rw (a, b, p, r, q, u, t)

performs : (j : PermissionTest) (i : Image) (s : State) (c : Code) (n : ℕ) (x : Instr) → HasForm c n → decoded_code c 0 ≡ Some x →
    fetched (taken_of c) j i s ≡ perform j i (act x (s.core.pc + n) s.core) s
performs j i s (Half h) n x f d = let e = f.1 in rw (d, e)
performs j i s (Pair h k) n x f d = let e = f.1 in rw (d, e)

-- the step of an instruction that stands at the program counter is what the instruction asks for, performed
pub stepped : (j : PermissionTest) (i : Image) (c : CoreRegisters) (p : ProtectionState) (t : FaultStatus) (ram : List ℕ) (queues : List (List ℕ)) (x : Instr) →
    Stands j i p c.pc x → turn j i (live c p t ram queues) ≡ perform j i (act x (c.pc + size x) c) (live c p t ram queues)
unfolding turn
stepped j i c p t ram queues x h =
    let f = encode_form x h.lies.in_table in
    let e = fetches j i (live c p t ram queues) (encode x) (size x) h.lies.code h.may_fetch f in
    rw e (performs j i (live c p t ram queues) (encode x) (size x) x f (round_trip x 0 h.lies.in_table))

-- ---- steps one after another

pub steps_from : {j : PermissionTest} {i : Image} {s t : State} {u : Turn} → turn j i s ≡ u → u.to ≡ t → u.event ≡ None → StepsQuietly j i s t
steps_from e f g = record { leads = ap (λ u. u.to) e ∙ f; quiet = ap (λ u. u.event) e ∙ g }

pub steps_with_from : {j : PermissionTest} {i : Image} {s t : State} {e : Event} {u : Turn} → turn j i s ≡ u → u.to ≡ t → u.event ≡ Some e → StepsWith j i s t e
steps_with_from e f g = record { leads = ap (λ u. u.to) e ∙ f; tells = ap (λ u. u.event) e ∙ g }

pub stay : (j : PermissionTest) (i : Image) {s : State} → Runs j i 0 s s []
stay j i = stay_run

-- one more step in front
pub next_step : {j : PermissionTest} {i : Image} {k : ℕ} {s t u : State} {es : List Event} → StepsQuietly j i s t → Runs j i k t u es → Runs j i (suc k) s u es
next_step a g = next_run a.leads a.quiet g

pub next_event : {j : PermissionTest} {i : Image} {k : ℕ} {s t u : State} {e : Event} {es : List Event} → StepsWith j i s t e → Runs j i k t u es → Runs j i (suc k) s u (e ∷ es)
next_event a g = next_event_run a.leads a.tells g

pub onward : (j : PermissionTest) (i : Image) {m k : ℕ} {s t u : State} {xs ys : List Event} → Runs j i m s t xs → Runs j i k t u ys → Runs j i (m + k) s u (xs ++ ys)
onward j i g h = onward_run g h

-- ---- code of several instructions

fetch_all : (j : PermissionTest) (p : ProtectionState) (pc n : ℕ) (c : Code) → HasForm c n → ((a : ℕ) → pc ≤ a → a < pc + n → j p Fetch a ≡ true) → MayFetch j p pc c
fetch_all j p pc n (Half h) f m = let e = f.1 in m pc (omega arith) (omega arith)
fetch_all j p pc n (Pair h k) f m = let e = f.1 in (m pc (omega arith) (omega arith), m (pc + 2) (omega arith) (omega arith))

pub code_may_run : CodeMayRun
code_may_run j i p [] pc c m = tt
code_may_run j i p (x ∷ xs) pc c m =
    let s : Stands j i p pc x = record { lies = c.0; may_fetch = fetch_all j p pc (size x) (encode x) (encode_form x c.0.in_table) (λ a low high. m a low (omega arith)) } in
    (s, code_may_run j i p xs (pc + size x) c.1 (λ a low high. m a (omega arith) (omega arith)))

pub code_parts : (i : Image) (xs ys : List Instr) (pc : ℕ) → CodeIn i pc (xs ++ ys) → CodeIn i pc xs × CodeIn i (pc + code_size xs) ys
code_parts i [] ys pc c = let e : pc + 0 ≡ pc = omega arith in (tt, rw e c)
code_parts i (x ∷ xs) ys pc c =
    let r = code_parts i xs ys (pc + size x) c.1 in
    let e : pc + (size x + code_size xs) ≡ pc + size x + code_size xs = omega arith in
    ((c.0, r.0), rw e r.1)

pub code_joined : (i : Image) (xs ys : List Instr) (pc : ℕ) → CodeIn i pc xs → CodeIn i (pc + code_size xs) ys → CodeIn i pc (xs ++ ys)
code_joined i [] ys pc c d = let e : pc + 0 ≡ pc = omega arith in rw e at d
code_joined i (x ∷ xs) ys pc c d =
    let e : pc + (size x + code_size xs) ≡ pc + size x + code_size xs = omega arith in
    (c.0, code_joined i xs ys (pc + size x) c.1 (rw e at d))

pub code_has_parts : CodeHasParts
code_has_parts i xs ys pc = (code_parts i xs ys pc, code_joined i xs ys pc)
