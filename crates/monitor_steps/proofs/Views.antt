-- Vectors of steps as lists of the language: one equation for each variant, and vectors one behind the other.
use Rattle.std.proofs.Common.{◌≡◌, ℕ, ◌/◌, List, [], ◌∷◌, ◌++◌, map, Vec, Global, refl, ap, ap₂, ◌∙◌}
use Rattle.base_words.specs.declared.memory.Width.{Width}
use Rattle.base_words.specs.Width.{byte_count}
use Rattle.monitor_steps.specs.declared.steps.PrivilegedOp.{PrivilegedOp}
use Rattle.monitor_steps.specs.declared.steps.PrivilegedCond.{PrivilegedCond}
use Rattle.monitor_steps.specs.declared.steps.PrivilegedStep.{PrivilegedStep}
use Rattle.monitor_steps.specs.declared.steps.PrivilegedStep.TheOpen.{Const as ConstF, Copy as CopyF, Load as LoadF, Store as StoreF, Alu as AluF, ReadPsp as ReadPspF, WritePsp as WritePspF, WriteControl as WriteControlF, Test as TestF, Repeat as RepeatF, Halt as HaltF, Return as ReturnF, Go as GoF}
use Rattle.monitor_steps.specs.declared.steps.PrivilegedStep.TheViews.{Test, Repeat, roll-PrivilegedStep}
use Rattle.monitor_steps.specs.declared.steps.PrivilegedStep.TheBlock.{Const, Copy, Load, Store, Alu, ReadPsp, WritePsp, WriteControl, Halt, Return, Go}
use Rattle.monitor_steps.specs.declared.steps.PrivilegedStep.TheFolds.{fold-roll-PrivilegedStep}
use Rattle.monitor_steps.specs.Steps as list
use Rattle.monitor_steps.specs.Steps.{PrivilegedSteps, End}
use Rattle.monitor_steps.specs.Lists.{chain, step_before, before, all_before, steps_of}

chain-map : (ss : List PrivilegedStep) → chain (map before ss) End ≡ steps_of ss
chain-map [] = refl
chain-map (s ∷ ss) = ap (before s) (chain-map ss)

pub all_before-append : (a b : List PrivilegedStep) (rest : PrivilegedSteps) → all_before (a ++ b) rest ≡ all_before a (all_before b rest)
all_before-append [] b rest = refl
all_before-append (s ∷ a) b rest = ap (before s) (all_before-append a b rest)

pub before-Const : (to value : ℕ) (rest : PrivilegedSteps) → before (Const to value) rest ≡ list.Const to value rest
unfolding roll-PrivilegedStep denote.Hole.Carrier.roll
before-Const to value rest = ap (λ f. f rest) (fold-roll-PrivilegedStep (PrivilegedSteps → PrivilegedSteps) step_before (ConstF to value))

pub before-Copy : (to from : ℕ) (rest : PrivilegedSteps) → before (Copy to from) rest ≡ list.Copy to from rest
unfolding roll-PrivilegedStep denote.Hole.Carrier.roll
before-Copy to from rest = ap (λ f. f rest) (fold-roll-PrivilegedStep (PrivilegedSteps → PrivilegedSteps) step_before (CopyF to from))

-- an offset in bytes becomes one in widths
pub before-Load : (to base offset : ℕ) (width : Width) (rest : PrivilegedSteps) → before (Load to base offset width) rest ≡ list.Load width to base (offset / byte_count width) rest
unfolding roll-PrivilegedStep denote.Hole.Carrier.roll
before-Load to base offset width rest = ap (λ f. f rest) (fold-roll-PrivilegedStep (PrivilegedSteps → PrivilegedSteps) step_before (LoadF to base offset width))

pub before-Store : (from base offset : ℕ) (width : Width) (rest : PrivilegedSteps) → before (Store from base offset width) rest ≡ list.Store width from base (offset / byte_count width) rest
unfolding roll-PrivilegedStep denote.Hole.Carrier.roll
before-Store from base offset width rest = ap (λ f. f rest) (fold-roll-PrivilegedStep (PrivilegedSteps → PrivilegedSteps) step_before (StoreF from base offset width))

pub before-Alu : (op : PrivilegedOp) (to a b : ℕ) (rest : PrivilegedSteps) → before (Alu op to a b) rest ≡ list.Alu op to a b rest
unfolding roll-PrivilegedStep denote.Hole.Carrier.roll
before-Alu op to a b rest = ap (λ f. f rest) (fold-roll-PrivilegedStep (PrivilegedSteps → PrivilegedSteps) step_before (AluF op to a b))

pub before-ReadPsp : (to : ℕ) (rest : PrivilegedSteps) → before (ReadPsp to) rest ≡ list.ReadPsp to rest
unfolding roll-PrivilegedStep denote.Hole.Carrier.roll
before-ReadPsp to rest = ap (λ f. f rest) (fold-roll-PrivilegedStep (PrivilegedSteps → PrivilegedSteps) step_before (ReadPspF to))

pub before-WritePsp : (from : ℕ) (rest : PrivilegedSteps) → before (WritePsp from) rest ≡ list.WritePsp from rest
unfolding roll-PrivilegedStep denote.Hole.Carrier.roll
before-WritePsp from rest = ap (λ f. f rest) (fold-roll-PrivilegedStep (PrivilegedSteps → PrivilegedSteps) step_before (WritePspF from))

pub before-WriteControl : (from : ℕ) (rest : PrivilegedSteps) → before (WriteControl from) rest ≡ list.WriteControl from rest
unfolding roll-PrivilegedStep denote.Hole.Carrier.roll
before-WriteControl from rest = ap (λ f. f rest) (fold-roll-PrivilegedStep (PrivilegedSteps → PrivilegedSteps) step_before (WriteControlF from))

-- the lists within a test and a loop are those of their own vectors
pub before-Test : (cond : PrivilegedCond) (a b : ℕ) (ys ns : Vec PrivilegedStep Global) (rest : PrivilegedSteps) → before (Test cond a b ys ns) rest ≡ list.Test cond a b (steps_of ys.items) (steps_of ns.items) rest
unfolding roll-PrivilegedStep denote.Hole.Carrier.roll
before-Test cond a b ys ns rest =
    ap (λ f. f rest) (fold-roll-PrivilegedStep (PrivilegedSteps → PrivilegedSteps) step_before (TestF cond a b ys ns)) ∙ ap₂ (λ x y. list.Test cond a b x y rest) (chain-map ys.items) (chain-map ns.items)

pub before-Repeat : (left most : ℕ) (body : Vec PrivilegedStep Global) (rest : PrivilegedSteps) → before (Repeat left most body) rest ≡ list.Repeat left most (steps_of body.items) rest
unfolding roll-PrivilegedStep denote.Hole.Carrier.roll
before-Repeat left most body rest =
    ap (λ f. f rest) (fold-roll-PrivilegedStep (PrivilegedSteps → PrivilegedSteps) step_before (RepeatF left most body)) ∙ ap (λ x. list.Repeat left most x rest) (chain-map body.items)

pub before-Halt : (code : ℕ) (rest : PrivilegedSteps) → before (Halt code) rest ≡ list.Halt code rest
unfolding roll-PrivilegedStep denote.Hole.Carrier.roll
before-Halt code rest = ap (λ f. f rest) (fold-roll-PrivilegedStep (PrivilegedSteps → PrivilegedSteps) step_before (HaltF code))

pub before-Return : (rest : PrivilegedSteps) → before Return rest ≡ list.Return rest
unfolding roll-PrivilegedStep denote.Hole.Carrier.roll
before-Return rest = ap (λ f. f rest) (fold-roll-PrivilegedStep (PrivilegedSteps → PrivilegedSteps) step_before ReturnF)

pub before-Go : (to link : ℕ) (rest : PrivilegedSteps) → before (Go to link) rest ≡ list.Go to link rest
unfolding roll-PrivilegedStep denote.Hole.Carrier.roll
before-Go to link rest = ap (λ f. f rest) (fold-roll-PrivilegedStep (PrivilegedSteps → PrivilegedSteps) step_before (GoF to link))
