use Rattle.std.proofs.Common.{ℕ, ◌-◌, ◌+◌, ◌∙◌, List, [], ◌∷◌, arith}
use Rattle.machine_thumb.specs.declared.table.Instr.{Instr}
use Rattle.code_model.specs.Words.{store_home}
use Rattle.code_model.specs.Entry.{stores_code}
use Rattle.code_lower.proofs.Putting.{step_first, step_rest, step_whole}
use Rattle.code_lower.proofs.Entering.{stores_next}
use Rattle.code_lower.proofs.entry.put_params.Goals as goal

pub put-requires-clause-room : goal.put-requires-clause-room
put-requires-clause-room c =
    let t : ℕ → ℕ = λ k. k in
    let k = c.loop-k.k in
    let w = c.args.params in
    rw c.store_home.ensures.code (step_first (stores_code t (w - k) k) (store_home (t k) k ∷ []) (stores_code t (w - (k + 1)) (k + 1)) (stores_next t w k (omega arith)) c.loop-k.asm c.loop-k.invariant.room)

pub loop-k-preserved : goal.loop-k-preserved
loop-k-preserved c =
    let t : ℕ → ℕ = λ k. k in
    let k = c.loop-k.k in
    let w = c.args.params in
    let code : List Instr = stores_code t (w - k) k in
    let rest : List Instr = stores_code t (w - (k + 1)) (k + 1) in
    rw (c.in_ok-put.ensures, c.store_home.ensures.code)
    record {
      whole = step_whole code (store_home (t k) k ∷ []) rest (stores_next t w k (omega arith)) c.loop-k.asm ∙ c.loop-k.invariant.whole;
      room = step_rest code (store_home (t k) k ∷ []) rest (stores_next t w k (omega arith)) c.loop-k.asm c.loop-k.invariant.room;
    }
