-- What a register gets by a reserved word.
use Rattle.std.proofs.Common.{◌≡◌, ℕ, [], ◌∷◌, ◌++◌, List, Bool, sym, ap, ◌∙◌, Some, None, Result, Ok, Err, Bor}
use Rattle.ir_model.specs.declared.firmware.Inst.{Inst}
use Rattle.ir_model.specs.declared.token.Keyword.{Keyword}
use Rattle.ir_model.specs.declared.token.Keyword.TheVariants as key
use Rattle.ir_model.specs.Tokens as model
use Rattle.ir_reader.specs.declared.error.Fault.{Fault}
use Rattle.ir_reader.specs.declared.error.ReadError.{ReadError}
use Rattle.ir_reader.specs.declared.error.ReadError.TheVariants as errors
use Rattle.ir_reader.specs.Found.{Is, Placed, finds, colon_first}
use Rattle.ir_reader.specs.Machine.{Symbol, Move, Go, Stop, Skip, Progress, To, Stuck, step, fault, value_key, Value, Insts, AfterRet}
use Rattle.ir_reader.specs.Reading.{ReadsBehind, Fails}
use Rattle.ir_reader.specs.Lines.{ReadsValue, FailsBy, PassesBy}
use Rattle.ir_grammar.specs.Spelling.{spell_inst, spell_assigned}
use Rattle.ir_reader.specs.Spelling.{Key, as_found}
use Rattle.ir_reader.proofs.Ends.{fault_after}

abbrev pub stepped : List Symbol → model.Token → Bool → Move → Progress
stepped st t c (Go x more) = To x (more ++ st)
stepped st t c Stop = Stuck
stepped st t c Skip = step st t c

ok_from : (to : List ℕ) (w : Keyword) (p : Placed) (old new : List Placed) (v : Inst) (c : Bool) (m : Move)
    → PassesBy m (spell_assigned as_found to (Key w ∷ [])) old new v
    → (spell_assigned as_found to (Key w ∷ finds old) ≡ spell_inst as_found v ++ finds new) × ((st : List Symbol) → fault_after p old (stepped st (model.Key w) c m) ≡ fault st new)
ok_from to w p old new v c (Go None more) h = (h.1.spelled, λ st. h.1.passed st)
ok_from to w p old new v c (Go (Some e) more) h = let n = h.0 in cc
ok_from to w p old new v c Stop h = absurd h
ok_from to w p old new v c Skip h = absurd h

err_from : (w : Keyword) (p : Placed) (old : List Placed) (f : Fault) (c : Bool) (st : List Symbol) (m : Move)
    → FailsBy m p.left old f st → fault_after p old (stepped st (model.Key w) c m) ≡ Some f
err_from w p old f c st (Go None more) h = h.1
err_from w p old f c st (Go (Some e) more) h = let n = h.0 in cc
err_from w p old f c st Stop h = ap Some (sym h)
err_from w p old f c st Skip h = absurd h

pub value_from : (to : List ℕ) (w : Keyword) (left : ℕ) (old : List Placed) (behind : List ℕ) (placed : List ℕ → List Placed) (r : Result (Inst × Bor (List ℕ)) ReadError)
    → old ≡ record { found = Is (model.Key w); left = left } ∷ placed behind → ReadsValue to w left (placed behind) placed r
    → ReadsBehind (spell_assigned as_found to []) (λ (x : Inst × Bor (List ℕ)). x.0) (spell_inst as_found) (Value ∷ []) [] old (λ (x : Inst × Bor (List ℕ)). placed x.1.now) r
value_from to w left old behind placed (Ok x) e h =
    let o = ok_from to w (record { found = Is (model.Key w); left = left }) (placed behind) (placed x.1.now) x.0 (colon_first (placed behind)) (value_key w) h in
    record { spelled = rw e o.0; passed = λ st. rw e (o.1 st) }
value_from to w left old behind placed (Err errors.Memory) e h = tt
value_from to w left old behind placed (Err (errors.Fault f)) e h =
    λ st. rw e (err_from w (record { found = Is (model.Key w); left = left }) (placed behind) f (colon_first (placed behind)) st (value_key w) (h st))

-- a fault behind `ret`
pub ret_fails : (left n k : ℕ) (old ps : List Placed) (e : ReadError) → old ≡ record { found = Is (model.Key key.Ret); left = left } ∷ ps
    → ((k n : ℕ) → Fails (AfterRet k n ∷ []) ps e) → Fails (Insts k n ∷ []) old e
ret_fails left n k old ps errors.Memory e h = tt
ret_fails left n k old ps (errors.Fault f) e h = λ st. rw e (h k n st)

-- a fault behind what was read
pub fails_after : (now mid : List Symbol) (old rest : List Placed) (e : ReadError) → ((st : List Symbol) → fault (now ++ st) old ≡ fault (mid ++ st) rest) → Fails mid rest e → Fails now old e
fails_after now mid old rest errors.Memory p h = tt
fails_after now mid old rest (errors.Fault f) p h = λ st. p st ∙ h st
