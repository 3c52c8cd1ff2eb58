-- Beyond the program's claim: only laws, proofs and functions inside the tool cite this file.
-- What the code of calls does, up to the callee's entry and from its return on. A call that may go to another compartment is an SVC:
-- for it there are the halves before and behind.
use Rattle.std.specs.Prelude.{◌≡◌, ℕ, ◌+◌, ◌*◌, ◌%◌, ◌^◌, ◌<◌, ◌≤◌, List, [], ◌∷◌, length, map, Option, Some, None, is_some, false}
use Rattle.base_laws.specs.Lists.{EachBelow}
use Rattle.base_words.specs.Bytes.{write}
use Rattle.machine_thumb.specs.Table.{svc}
use Rattle.machine_devices.specs.declared.image.Image.{Image}
use Rattle.machine_model.specs.State.{PermissionTest}
use Rattle.machine_model.specs.Code.{HoldsHalf, Stands}
use Rattle.ir_model.specs.Resolved.{NumberedFunc, Call, ICall}
use Rattle.code_model.specs.declared.places.Places.{Places}
use Rattle.code_model.specs.Places.{entry_address}
use Rattle.code_model.specs.Sizes.{call_size, icall_size, inst_size}
use Rattle.code_effects.specs.Points.{Point, known, with_r12, Leads}
use Rattle.code_effects.specs.Frames.{HasFrame, home, HasInst}

abbrev pub homes : (o : ℕ) → Point → List ℕ → List ℕ
homes o p ks = map (home o p) ks

-- a result is kept in a word of the frame, or nowhere
abbrev pub IsBelow : (n : ℕ) → Option ℕ → Type 0
IsBelow n None = Unit {0}
IsBelow n (Some k) = k < n

abbrev pub kept_in : (o : ℕ) → Option ℕ → (v : ℕ) → (ram : List ℕ) → List ℕ
kept_in o None v ram = ram
kept_in o (Some k) v ram = write 4 (o + 4 * k) v ram

abbrev pub keep_steps : Option ℕ → ℕ
keep_steps None = 0
keep_steps (Some k) = 1

-- SVC #0 with the number of its site behind it
abbrev pub HasCrossing : PermissionTest → Image → Point → (at site : ℕ) → Type 0
HasCrossing j i p at s = Stands j i p.context.protection at (svc 0) × HoldsHalf i (at + 2) s

module _ (j : PermissionTest) (i : Image) (g : NumberedFunc) (q : Places) (labels : List (Option ℕ)) (p : Point) (o n : ℕ) where
  -- within the compartment: at the callee's entry, with the arguments from r0 on and the return address, its bit 0 set, in LR
  pub record CallEffects : Type 0 where
    pub call : (to : Option ℕ) (f : ℕ) (args : List ℕ) → HasFrame j i p o n → EachBelow n args → length args ≤ 4 → p.pc < 2 ^ 30 → entry_address q f < 2 ^ 30 →
        HasInst j i g q labels p p.pc None (Call to f args) →
        Leads j i (length args + 1) p (record p { registers = known (homes o p args); lr = p.pc + call_size false args + 1; pc = entry_address q f }) []
    pub icall : (to : Option ℕ) (h callee : ℕ) (args : List ℕ) → HasFrame j i p o n → h < n → EachBelow n args → length args ≤ 4 → length p.context.high ≡ 5 →
        home o p h ≡ callee + 1 → callee % 2 ≡ 0 → HasInst j i g q labels p p.pc None (ICall to h args) →
        Leads j i (length args + 3) p (record p { context = with_r12 p.context (callee + 1); registers = known (homes o p args); lr = p.pc + icall_size false args + 1; pc = callee }) []

  -- across: at the SVC, with the callee's entry, its bit 0 set, in r12
  pub record CrossingEffects : Type 0 where
    pub call : (s : ℕ) (to : Option ℕ) (f : ℕ) (args : List ℕ) → HasFrame j i p o n → EachBelow n args → length args ≤ 4 → length p.context.high ≡ 5 → entry_address q f + 1 < 2 ^ 32 →
        HasInst j i g q labels p p.pc (Some s) (Call to f args) →
        Leads j i (length args + 2) p (record p { context = with_r12 p.context (entry_address q f + 1); registers = known (homes o p args); pc = p.pc + (8 + 2 * length args) }) []
    pub call_stands : (at s : ℕ) (to : Option ℕ) (f : ℕ) (args : List ℕ) → HasInst j i g q labels p at (Some s) (Call to f args) → HasCrossing j i p (at + (8 + 2 * length args)) s
    pub icall : (s : ℕ) (to : Option ℕ) (h : ℕ) (args : List ℕ) → HasFrame j i p o n → h < n → EachBelow n args → length args ≤ 4 →
        HasInst j i g q labels p p.pc (Some s) (ICall to h args) →
        Leads j i (length args + 2) p (record p { context = with_r12 p.context (home o p h); registers = known (homes o p args); pc = p.pc + (4 + 2 * length args) }) []
    pub icall_stands : (at s : ℕ) (to : Option ℕ) (h : ℕ) (args : List ℕ) → HasInst j i g q labels p at (Some s) (ICall to h args) → HasCrossing j i p (at + (4 + 2 * length args)) s

  -- from the return on, where r0 holds v
  pub record ReturnedEffects : Type 0 where
    pub call : (at : ℕ) (site to : Option ℕ) (f v : ℕ) (args : List ℕ) → HasFrame j i p o n → IsBelow n to → HasInst j i g q labels p at site (Call to f args) →
        Leads j i (keep_steps to) (record p { registers = known (v ∷ []); pc = at + call_size (is_some site) args })
        (record p { registers = []; pc = at + inst_size (is_some site) (Call to f args); ram = kept_in o to v p.ram }) []
    pub icall : (at : ℕ) (site to : Option ℕ) (h v : ℕ) (args : List ℕ) → HasFrame j i p o n → IsBelow n to → HasInst j i g q labels p at site (ICall to h args) →
        Leads j i (keep_steps to) (record p { registers = known (v ∷ []); pc = at + icall_size (is_some site) args })
        (record p { registers = []; pc = at + inst_size (is_some site) (ICall to h args); ram = kept_in o to v p.ram }) []
