-- Tests and loops: what may be put of their lists, and how their code is put together.
use Rattle.std.proofs.Common.{◌≡◌, ℕ, pos, ◌+◌, ◌<◌, true, ◌&&◌, List, [], ◌∷◌, ◌++◌, length, get_or, take, subst, ap, sym, arith, append_assoc, append-nil}
use Rattle.machine_thumb.specs.declared.table.Instr.TheVariants.{BranchWide}
use Rattle.machine_thumb_asm.specs.Assembly.{Assembly, here}
use Rattle.monitor_steps.specs.declared.steps.PrivilegedCond.{PrivilegedCond}
use Rattle.monitor_steps.specs.declared.steps.PrivilegedStep.{PrivilegedStep}
use Rattle.monitor_steps.specs.Steps.{PrivilegedSteps, End, Test, Repeat, names_low, is_low}
use Rattle.monitor_steps.specs.Lists.{before, steps_of}
use Rattle.monitor_steps.specs.Code.{code, code_length}
use Rattle.monitor_steps.proofs.CodeParts.{code_has_its_length}
use Rattle.monitor_assembler.specs.Emitted.{MayPut, HasPut, has_near_offsets, choice_code, loop_head, loop_end}
use Rattle.monitor_assembler.proofs.Puts.{put_both}
use Rattle.monitor_assembler.proofs.Splits.{low-at, near-at, length-take_more, length-take-le, code-take_more}
use Rattle.std.proofs.lemmas.Bool.{and_parts as both_are}

-- ---- a step of a vector

pub may_put_step : (a b : Assembly) (ss : List PrivilegedStep) (i : ℕ) (d s : PrivilegedStep) → i < length ss → s ≡ get_or ss i d
    → MayPut a (steps_of ss) → HasPut a b (code (steps_of (take i ss))) → MayPut b (before s End)
may_put_step a b ss i d s lt is m p =
    let l = length-take_more ss i d lt in
    let w = length-take-le ss (i + 1) in
    let e = ap (λ x. code_length (before x End)) is in
    let c = code_has_its_length (steps_of (take i ss)) in
    record {
      registers = subst (λ x. names_low (before x End) ≡ true) (sym is) (low-at ss i d lt m.registers);
      offsets = subst (λ x. has_near_offsets (before x End) ≡ true) (sym is) (near-at ss i d lt m.offsets);
      short = omega (arith, l, w, e, m.short);
      room = omega (arith, l, w, e, c, m.room, p.next);
    }

pub step_is_put : (a b c : Assembly) (ss : List PrivilegedStep) (i : ℕ) (d s : PrivilegedStep) → i < length ss → s ≡ get_or ss i d
    → HasPut a b (code (steps_of (take i ss))) → HasPut b c (code (before s End)) → HasPut a c (code (steps_of (take (i + 1) ss)))
step_is_put a b c ss i d s lt is p q =
    let q' = subst (λ x. HasPut b c (code (before x End))) is q in
    let both = put_both a b c (code (steps_of (take i ss))) (code (before (get_or ss i d) End)) p q' in
    subst (HasPut a c) (sym (code-take_more ss i d lt)) both

-- ---- a test

pub may_put_first : (a b : Assembly) (cond : PrivilegedCond) (x y : ℕ) (ys ns : PrivilegedSteps) → MayPut a (Test cond x y ys ns End) → here b ≡ here a + 8 → MayPut b ys
may_put_first a b cond x y ys ns m h =
    let r = both_are (names_low ys && names_low ns) true (both_are (is_low x && is_low y) ((names_low ys && names_low ns) && true) m.registers).1 in
    let o = both_are (has_near_offsets ys && has_near_offsets ns) true m.offsets in
    record {
      registers = (both_are (names_low ys) (names_low ns) r.0).0;
      offsets = (both_are (has_near_offsets ys) (has_near_offsets ns) o.0).0;
      short = omega (arith, m.short);
      room = omega (arith, m.room);
    }

pub may_put_second : (a b : Assembly) (cond : PrivilegedCond) (x y : ℕ) (ys ns : PrivilegedSteps) → MayPut a (Test cond x y ys ns End) → here b ≡ here a + 12 + code_length ys → MayPut b ns
may_put_second a b cond x y ys ns m h =
    let r = both_are (names_low ys && names_low ns) true (both_are (is_low x && is_low y) ((names_low ys && names_low ns) && true) m.registers).1 in
    let o = both_are (has_near_offsets ys && has_near_offsets ns) true m.offsets in
    record {
      registers = (both_are (names_low ys) (names_low ns) r.0).1;
      offsets = (both_are (has_near_offsets ys) (has_near_offsets ns) o.0).1;
      short = omega (arith, m.short);
      room = omega (arith, m.room);
    }

pub test_is_put : (a b c d e : Assembly) (cond : PrivilegedCond) (x y : ℕ) (ys ns : PrivilegedSteps) → HasPut a b (choice_code cond x y (code_length ys)) → HasPut b c (code ys)
    → HasPut c d (BranchWide (pos (code_length ns)) ∷ []) → HasPut d e (code ns) → HasPut a e (code (Test cond x y ys ns End))
test_is_put a b c d e cond x y ys ns p q r s =
    let skip = BranchWide (pos (code_length ns)) ∷ [] in
    let pq = put_both a b c (choice_code cond x y (code_length ys)) (code ys) p q in
    let rs = put_both c d e skip (code ns) r s in
    let all = put_both a c e (choice_code cond x y (code_length ys) ++ code ys) (skip ++ code ns) pq rs in
    let i : (choice_code cond x y (code_length ys) ++ code ys) ++ (skip ++ code ns) ≡ code (Test cond x y ys ns End) = simp (append_assoc, append-nil) in
    subst (HasPut a e) i all

-- ---- a loop

pub may_put_body : (a b : Assembly) (left most : ℕ) (body : PrivilegedSteps) → MayPut a (Repeat left most body End) → here b ≡ here a + 8 → MayPut b body
may_put_body a b left most body m h = record {
  registers = (both_are (names_low body) true (both_are (is_low left) (names_low body && true) m.registers).1).0;
  offsets = (both_are (has_near_offsets body) true m.offsets).0;
  short = omega (arith, m.short);
  room = omega (arith, m.room);
}

pub loop_is_put : (a b c d : Assembly) (left most : ℕ) (body : PrivilegedSteps) → HasPut a b (loop_head left (code_length body)) → HasPut b c (code body)
    → HasPut c d (loop_end left (code_length body)) → HasPut a d (code (Repeat left most body End))
loop_is_put a b c d left most body p q r =
    let pq = put_both a b c (loop_head left (code_length body)) (code body) p q in
    let all = put_both a c d (loop_head left (code_length body) ++ code body) (loop_end left (code_length body)) pq r in
    let i : (loop_head left (code_length body) ++ code body) ++ loop_end left (code_length body) ≡ code (Repeat left most body End) = simp append_assoc in
    subst (HasPut a d) i all

-- ---- answers
