-- What the reason of a fault says of all firmwares.
use Rattle.std.proofs.Common.{◌≡◌, [], ◌∷◌, ◌++◌, List, Bool, true, sym, subst, Some}
use Rattle.ir_model.specs.declared.token.Excess.{Excess}
use Rattle.ir_model.specs.Tokens.{Token, Marked}
use Rattle.ir_model.specs.Lines.{Line}
use Rattle.ir_model.specs.Texts.{Begins, tokens, begins_colon}
use Rattle.ir_reader.specs.declared.error.FaultKind.{FaultKind}
use Rattle.ir_reader.specs.declared.error.FaultKind.TheVariants as kind
use Rattle.ir_reader.specs.Found.{Is, End, Placed, colon_first}
use Rattle.ir_reader.specs.Machine.{Symbol, To, step, Structs}
use Rattle.ir_reader.proofs.Lang.{Langs, well}
use Rattle.ir_reader.proofs.Stops.{Why, stuck, bad, short, over, stuck_flag}
use Rattle.ir_reader.proofs.Texts.{firmware_is, blocks_of}
use Rattle.ir_reader.proofs.Theorem.{steps, ended}

-- what a firmware begins with stands where a text begins
pub begun : (front behind : Line) → Begins front behind → Langs (Structs 0 ∷ []) (front ++ behind)
begun front behind b = subst (λ (z : Line). Langs (Structs 0 ∷ []) z) b.parts (firmware_is b.firmware b.whole.structs (blocks_of b.firmware.files b.whole.functions))

-- what a token makes of what is expected, where it may stand there
pub record Taken (stack : List Symbol) (m : Marked) (y : Line) (c : Bool) : Type 0 where
  pub behind : List Symbol
  pub goes : step stack m.token c ≡ To m.excess behind
  pub others : Langs behind y

pub taken : (stack : List Symbol) (m : Marked) (y : Line) (c : Bool) → well stack ≡ true → Langs stack (m ∷ y) → begins_colon (tokens y) ≡ c → Taken stack m y c
taken stack m y c w l e =
    let q = steps stack w m y l in
    record { behind = q.stack; goes = subst (λ (b : Bool). step stack m.token b ≡ To m.excess q.stack) e q.goes; others = q.others }

pub none_there : (k : FaultKind) (stack : List Symbol) (at : Placed) (after_ : List Placed) → Why stack at after_ k → k ≡ kind.Syntax → (m : Marked) (y : Line) → at.found ≡ Is m.token → well stack ≡ true → Langs stack (m ∷ y) → ⊥
none_there k stack at after_ (stuck t i e) h m y j w l =
    let t_is : t ≡ m.token = cc in
    let q = steps stack w m y l in
    let g = stuck_flag stack t (colon_first after_) (begins_colon (tokens y)) e in
    let r : step stack t (begins_colon (tokens y)) ≡ To m.excess q.stack = subst (λ (z : Token). step stack z (begins_colon (tokens y)) ≡ To m.excess q.stack) (sym t_is) q.goes in
    cc
none_there k stack at after_ (bad i) h m y j w l = cc
none_there k stack at after_ (short i e) h m y j w l = cc
none_there k stack at after_ (over t x behind i e) h m y j w l = cc

pub none_ends : (k : FaultKind) (stack : List Symbol) (at : Placed) (after_ : List Placed) → Why stack at after_ k → k ≡ kind.Syntax → at.found ≡ End → Langs stack [] → ⊥
none_ends k stack at after_ (stuck t i e) h j l = cc
none_ends k stack at after_ (bad i) h j l = cc
none_ends k stack at after_ (short i e) h j l = let g = ended stack l in cc
none_ends k stack at after_ (over t x behind i e) h j l = cc

pub each_there : (k : FaultKind) (stack : List Symbol) (at : Placed) (after_ : List Placed) → Why stack at after_ k → (v : Excess) → k ≡ kind.Exceeds v → (m : Marked) (y : Line) → at.found ≡ Is m.token → begins_colon (tokens y) ≡ colon_first after_
    → well stack ≡ true → Langs stack (m ∷ y) → m.excess ≡ Some v
each_there k stack at after_ (stuck t i e) v h m y j c w l = cc
each_there k stack at after_ (bad i) v h m y j c w l = cc
each_there k stack at after_ (short i e) v h m y j c w l = cc
each_there k stack at after_ (over t x behind i e) v h m y j c w l =
    let t_is : t ≡ m.token = cc in
    let q = taken stack m y (colon_first after_) w l c in
    let r : step stack t (colon_first after_) ≡ To m.excess q.behind = subst (λ (z : Token). step stack z (colon_first after_) ≡ To m.excess q.behind) (sym t_is) q.goes in
    let x_is : x ≡ v = cc in
    cc
