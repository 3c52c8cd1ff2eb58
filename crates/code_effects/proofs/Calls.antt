-- The code of calls.
use Rattle.std.specs.Prelude.{ℤ, is_some}
use Rattle.std.proofs.Common.{◌≡◌, ℕ, suc, ◌+◌, ◌*◌, ◌%◌, ◌^◌, ◌<◌, ◌≤◌, List, [], ◌∷◌, length, get_or, set, get_or-set_same, Option, Some, None, true, false, refl, sym, ap, ◌∙◌, subst, arith}
use Rattle.base_laws.specs.Lists.{EachBelow}
use Rattle.base_words.specs.Arithmetic.{moved}
use Rattle.machine_thumb.specs.declared.table.Instr.TheVariants.{BranchLink, BranchExchange}
use Rattle.machine_thumb.specs.Table.{svc}
use Rattle.machine_thumb_asm.specs.declared.item.Item.TheVariants.{Half}
use Rattle.machine_thumb_asm.specs.Assembly.{total}
use Rattle.machine_thumb_asm.specs.Finished.{distance}
use Rattle.machine_devices.specs.declared.image.Image.{Image}
use Rattle.machine_model.specs.State.{PermissionTest}
use Rattle.machine_model.specs.Code.{HoldsHalf, Stands, CodeAt}
use Rattle.machine_model.specs.Running.{code_size}
use Rattle.machine_model.specs.RunningCode.{Context}
use Rattle.machine_model.proofs.Exec.{stay, next_step, onward}
use Rattle.machine_model.proofs.CodeParts.{code_size-append, code_at-append}
use Rattle.machine_model.proofs.InstructionEffects.{bl, mov_to_r12}
use Rattle.machine_model.proofs.Transfers.{ldr_sp, blx_r12}
use Rattle.machine_model.proofs.Constants.{word_into_r12}
use Rattle.ir_model.specs.Resolved.{NumberedFunc, Call, ICall}
use Rattle.code_model.specs.declared.places.Places.{Places}
use Rattle.code_model.specs.Places.{entry_address}
use Rattle.code_model.specs.Words.{save_code, plain}
use Rattle.code_model.specs.Calls.{args_code, call_code, cross_code, icall_code, icross_code}
use Rattle.code_model.specs.Templates.{inst_items}
use Rattle.code_model.specs.Sizes.{save_size, call_size, icall_size, inst_size}
use Rattle.code_effects.specs.Points.{Point, known, with_r12, Leads}
use Rattle.code_effects.specs.Items.{ItemsAt}
use Rattle.code_effects.specs.Frames.{HasFrame, home, HasInst}
use Rattle.code_effects.specs.Calls.{IsBelow, homes, kept_in, keep_steps, HasCrossing, CallEffects, CrossingEffects, ReturnedEffects}
use Rattle.code_effects.proofs.Distances.{goes_to}
use Rattle.code_effects.proofs.Items.{total-plain, code_first}
use Rattle.code_effects.proofs.Moves.{save_by}
use Rattle.code_effects.proofs.Arguments.{args, args_size, holds_homes}
use Rattle.code_effects.proofs.Joined.{arrives_at, counted, landed, leads_by}
use Rattle.code_effects.proofs.Registers.{holds_nothing}

module _ (j : PermissionTest) (i : Image) (p : Point) (o n : ℕ) where
  -- BL behind the arguments
  call_by : (to : ℕ) (offset : ℤ) (as_ : List ℕ) → HasFrame j i p o n → EachBelow n as_ → length as_ ≤ 4 → moved (p.pc + code_size (args_code 0 as_) + 4) offset ≡ to →
      CodeAt j i p.context.protection p.pc (call_code as_ offset) →
      Leads j i (length as_ + 1) p (record p { registers = known (homes o p as_); lr = p.pc + call_size false as_ + 1; pc = to }) []
  call_by to offset as_ room below few goes code = record {
    arrives = λ low f h.
        let c = code_at-append j i p.context.protection (args_code 0 as_) (BranchLink offset ∷ []) p.pc code in
        let z = args_size 0 as_ in
        let a = args j i p.context low 0 o n p.sp p.lr p.pc f as_ p.ram p.queues room h.eight (omega arith) below c.0 in
        arrives_at j i (length as_ + 1) _ p.context (known (homes o p as_)) a.after p.sp p.sp (p.pc + code_size (args_code 0 as_) + 4 + 1) (p.pc + call_size false as_ + 1) to to f p.ram p.queues [] refl (omega arith) refl
        (holds_homes o p as_ a.after a.eight a.gives)
        (onward j i a.runs (next_step (bl j i p.context a.after p.sp p.lr (p.pc + code_size (args_code 0 as_)) f p.ram p.queues to offset goes c.1.0) (stay j i)));
  }

  -- LDR r0 and MOV r12, r0 before the arguments, and BLX behind them
  icall_by : (h callee : ℕ) (as_ : List ℕ) → HasFrame j i p o n → h < n → EachBelow n as_ → length as_ ≤ 4 → length p.context.high ≡ 5 → home o p h ≡ callee + 1 → callee % 2 ≡ 0 →
      CodeAt j i p.context.protection p.pc (icall_code h as_) →
      Leads j i (length as_ + 3) p (record p { context = with_r12 p.context (home o p h); registers = known (homes o p as_); lr = p.pc + icall_size false as_ + 1; pc = callee }) []
  icall_by h callee as_ room lh below few five is even code = leads_by j i (length as_ + 3) p _ [] (λ a b c rest f l.
      let v : ℕ = home o p h in
      let x : Context = with_r12 p.context v in
      let cs = code_at-append j i p.context.protection (args_code 0 as_) (BranchExchange 1 12 ∷ []) (p.pc + 2 + 2) code.1.1 in
      let z = args_size 0 as_ in
      let r = args j i x (v ∷ b ∷ c ∷ rest) 0 o n p.sp p.lr (p.pc + 2 + 2) f as_ p.ram p.queues room (omega arith) (omega arith) below cs.0 in
      let r12 : get_or (set p.context.high 4 v) 4 0 ≡ callee + 1 = get_or-set_same p.context.high 4 v 0 (omega arith) ∙ is in
      let count : suc (suc (length as_ + 1)) ≡ length as_ + 3 = omega arith in
      counted j i _ _ count
      (arrives_at j i (suc (suc (length as_ + 1))) _ x (known (homes o p as_)) r.after p.sp p.sp (p.pc + 2 + 2 + code_size (args_code 0 as_) + 2 + 1) (p.pc + icall_size false as_ + 1) callee callee f p.ram p.queues [] refl (omega arith) refl
      (holds_homes o p as_ r.after r.eight r.gives)
      (next_step (ldr_sp j i p.context (a ∷ b ∷ c ∷ rest) p.sp p.lr p.pc f p.ram p.queues 0 h o n room lh code.0)
      (next_step (mov_to_r12 j i p.context (v ∷ b ∷ c ∷ rest) p.sp p.lr (p.pc + 2) f p.ram p.queues 0 (omega arith) code.1.0)
      (onward j i r.runs (next_step (blx_r12 j i x r.after p.sp p.lr (p.pc + 2 + 2 + code_size (args_code 0 as_)) f p.ram p.queues callee r12 even cs.1.0) (stay j i)))))))

  -- MOVW and MOVT of r12 before the arguments
  cross_by : (entry : ℕ) (as_ : List ℕ) → HasFrame j i p o n → EachBelow n as_ → length as_ ≤ 4 → length p.context.high ≡ 5 → entry + 1 < 2 ^ 32 → CodeAt j i p.context.protection p.pc (cross_code entry as_) →
      Leads j i (length as_ + 2) p (record p { context = with_r12 p.context (entry + 1); registers = known (homes o p as_); pc = p.pc + (8 + 2 * length as_) }) []
  cross_by entry as_ room below few five fits code = leads_by j i (length as_ + 2) p _ [] (λ a b c rest f l.
      let x : Context = with_r12 p.context (entry + 1) in
      let cs = code_at-append j i p.context.protection (args_code 0 as_) (svc 0 ∷ []) (p.pc + 4 + 4) code.1.1 in
      let z = args_size 0 as_ in
      let r = args j i x (a ∷ b ∷ c ∷ rest) 0 o n p.sp p.lr (p.pc + 4 + 4) f as_ p.ram p.queues room (omega arith) (omega arith) below cs.0 in
      let count : 2 + length as_ ≡ length as_ + 2 = omega arith in
      counted j i _ _ count
      (arrives_at j i (2 + length as_) _ x (known (homes o p as_)) r.after p.sp p.sp p.lr p.lr (p.pc + 4 + 4 + code_size (args_code 0 as_)) (p.pc + (8 + 2 * length as_)) f p.ram p.queues [] refl refl (omega arith)
      (holds_homes o p as_ r.after r.eight r.gives)
      (onward j i (word_into_r12 j i p.context (a ∷ b ∷ c ∷ rest) p.sp p.lr p.pc f p.ram p.queues (entry + 1) (omega arith) fits code.0 code.1.0) r.runs)))

  -- LDR r0 and MOV r12, r0 before the arguments
  icross_by : (h : ℕ) (as_ : List ℕ) → HasFrame j i p o n → h < n → EachBelow n as_ → length as_ ≤ 4 → CodeAt j i p.context.protection p.pc (icross_code h as_) →
      Leads j i (length as_ + 2) p (record p { context = with_r12 p.context (home o p h); registers = known (homes o p as_); pc = p.pc + (4 + 2 * length as_) }) []
  icross_by h as_ room lh below few code = leads_by j i (length as_ + 2) p _ [] (λ a b c rest f l.
      let v : ℕ = home o p h in
      let x : Context = with_r12 p.context v in
      let cs = code_at-append j i p.context.protection (args_code 0 as_) (svc 0 ∷ []) (p.pc + 2 + 2) code.1.1 in
      let z = args_size 0 as_ in
      let r = args j i x (v ∷ b ∷ c ∷ rest) 0 o n p.sp p.lr (p.pc + 2 + 2) f as_ p.ram p.queues room (omega arith) (omega arith) below cs.0 in
      let count : suc (suc (length as_)) ≡ length as_ + 2 = omega arith in
      counted j i _ _ count
      (arrives_at j i (suc (suc (length as_))) _ x (known (homes o p as_)) r.after p.sp p.sp p.lr p.lr (p.pc + 2 + 2 + code_size (args_code 0 as_)) (p.pc + (4 + 2 * length as_)) f p.ram p.queues [] refl refl (omega arith)
      (holds_homes o p as_ r.after r.eight r.gives)
      (next_step (ldr_sp j i p.context (a ∷ b ∷ c ∷ rest) p.sp p.lr p.pc f p.ram p.queues 0 h o n room lh code.0)
      (next_step (mov_to_r12 j i p.context (v ∷ b ∷ c ∷ rest) p.sp p.lr (p.pc + 2) f p.ram p.queues 0 (omega arith) code.1.0) r.runs))))

  -- the result is kept
  kept_by : (labels : List (Option ℕ)) (at : ℕ) (to : Option ℕ) (v : ℕ) → HasFrame j i p o n → IsBelow n to → ItemsAt j i p.context.protection labels at (plain (save_code to)) →
      Leads j i (keep_steps to) (record p { registers = known (v ∷ []); pc = at }) (record p { registers = []; pc = at + save_size to; ram = kept_in o to v p.ram }) []
  kept_by labels at None v room below code = leads_by j i 0 _ _ [] (λ a b c rest f h.
      landed j i 0 _ p.context [] (a ∷ b ∷ c ∷ rest) p.sp p.lr at (at + 0) f p.ram p.queues [] (omega arith) (holds_nothing (a ∷ b ∷ c ∷ rest) (omega arith)) (stay j i))
  kept_by labels at (Some k) v room below code = save_by j i p o n at k v room below code.0

  -- the beginning of what is kept, written in another way
  kept_at : (labels : List (Option ℕ)) (at from end : ℕ) (to : Option ℕ) (v : ℕ) → at ≡ from → from + save_size to ≡ end → HasFrame j i p o n → IsBelow n to → ItemsAt j i p.context.protection labels at (plain (save_code to)) →
      Leads j i (keep_steps to) (record p { registers = known (v ∷ []); pc = from }) (record p { registers = []; pc = end; ram = kept_in o to v p.ram }) []
  kept_at labels at from end to v e d room below code =
      let c : ItemsAt j i p.context.protection labels from (plain (save_code to)) = subst (λ (a : ℕ). ItemsAt j i p.context.protection labels a (plain (save_code to))) e code in
      subst (λ (a : ℕ). Leads j i (keep_steps to) (record p { registers = known (v ∷ []); pc = from }) (record p { registers = []; pc = a; ram = kept_in o to v p.ram }) []) d (kept_by labels from to v room below c)

-- ---- sizes

call_code_size : (as_ : List ℕ) (d : ℤ) → code_size (call_code as_ d) ≡ 2 * length as_ + 4
call_code_size as_ d = omega (arith, code_size-append (args_code 0 as_) (BranchLink d ∷ []), args_size 0 as_)

cross_code_size : (e : ℕ) (as_ : List ℕ) → code_size (cross_code e as_) ≡ 8 + 2 * length as_ + 2
cross_code_size e as_ = omega (arith, code_size-append (args_code 0 as_) (svc 0 ∷ []), args_size 0 as_)

icall_code_size : (h : ℕ) (as_ : List ℕ) → code_size (icall_code h as_) ≡ 4 + 2 * length as_ + 2
icall_code_size h as_ = omega (arith, code_size-append (args_code 0 as_) (BranchExchange 1 12 ∷ []), args_size 0 as_)

icross_code_size : (h : ℕ) (as_ : List ℕ) → code_size (icross_code h as_) ≡ 4 + 2 * length as_ + 2
icross_code_size h as_ = omega (arith, code_size-append (args_code 0 as_) (svc 0 ∷ []), args_size 0 as_)

-- ---- the templates

module _ (j : PermissionTest) (i : Image) (g : NumberedFunc) (q : Places) (labels : List (Option ℕ)) (p : Point) (o n : ℕ) where
  the_call : (to : Option ℕ) (f : ℕ) (args : List ℕ) → HasFrame j i p o n → EachBelow n args → length args ≤ 4 → p.pc < 2 ^ 30 → entry_address q f < 2 ^ 30 → HasInst j i g q labels p p.pc None (Call to f args) →
      Leads j i (length args + 1) p (record p { registers = known (homes o p args); lr = p.pc + call_size false args + 1; pc = entry_address q f }) []
  unfolding inst_items
  the_call to f as_ room below few low there code =
      let from : ℕ = p.pc + total (plain (args_code 0 as_)) in
      let d : ℤ = distance from (entry_address q f) in
      let t = total-plain (args_code 0 as_) in
      let z = args_size 0 as_ in
      let e : from + 4 ≡ p.pc + code_size (args_code 0 as_) + 4 = omega arith in
      call_by j i p o n (entry_address q f) d as_ room below few (ap (λ (a : ℕ). moved a d) (sym e) ∙ goes_to from (entry_address q f) (omega arith) (omega arith))
      (code_first j i p.context.protection labels (call_code as_ d) (plain (save_code to)) p.pc code).0

  the_icall : (to : Option ℕ) (h callee : ℕ) (args : List ℕ) → HasFrame j i p o n → h < n → EachBelow n args → length args ≤ 4 → length p.context.high ≡ 5 → home o p h ≡ callee + 1 → callee % 2 ≡ 0 → HasInst j i g q labels p p.pc None (ICall to h args) →
      Leads j i (length args + 3) p (record p { context = with_r12 p.context (callee + 1); registers = known (homes o p args); lr = p.pc + icall_size false args + 1; pc = callee }) []
  unfolding inst_items
  the_icall to h callee as_ room lh below few five is even code =
      subst (λ (v : ℕ). Leads j i (length as_ + 3) p (record p { context = with_r12 p.context v; registers = known (homes o p as_); lr = p.pc + icall_size false as_ + 1; pc = callee }) []) is
      (icall_by j i p o n h callee as_ room lh below few five is even (code_first j i p.context.protection labels (icall_code h as_) (plain (save_code to)) p.pc code).0)

  the_cross : (s : ℕ) (to : Option ℕ) (f : ℕ) (args : List ℕ) → HasFrame j i p o n → EachBelow n args → length args ≤ 4 → length p.context.high ≡ 5 → entry_address q f + 1 < 2 ^ 32 → HasInst j i g q labels p p.pc (Some s) (Call to f args) →
      Leads j i (length args + 2) p (record p { context = with_r12 p.context (entry_address q f + 1); registers = known (homes o p args); pc = p.pc + (8 + 2 * length args) }) []
  unfolding inst_items
  the_cross s to f as_ room below few five fits code =
      cross_by j i p o n (entry_address q f) as_ room below few five fits (code_first j i p.context.protection labels (cross_code (entry_address q f) as_) (Half s ∷ plain (save_code to)) p.pc code).0

  cross_stands : (at s : ℕ) (to : Option ℕ) (f : ℕ) (args : List ℕ) → HasInst j i g q labels p at (Some s) (Call to f args) → HasCrossing j i p (at + (8 + 2 * length args)) s
  unfolding inst_items
  cross_stands at s to f as_ code =
      let e : ℕ = entry_address q f in
      let c = code_first j i p.context.protection labels (cross_code e as_) (Half s ∷ plain (save_code to)) at code in
      let d = code_at-append j i p.context.protection (args_code 0 as_) (svc 0 ∷ []) (at + 4 + 4) c.0.1.1 in
      let z = args_size 0 as_ in
      let w = cross_code_size e as_ in
      let y : at + 4 + 4 + code_size (args_code 0 as_) ≡ at + (8 + 2 * length as_) = omega arith in
      let u : at + code_size (cross_code e as_) ≡ at + (8 + 2 * length as_) + 2 = omega arith in
      (subst (λ (a : ℕ). Stands j i p.context.protection a (svc 0)) y d.1.0, subst (λ (a : ℕ). HoldsHalf i a s) u c.1.0)

  the_icross : (s : ℕ) (to : Option ℕ) (h : ℕ) (args : List ℕ) → HasFrame j i p o n → h < n → EachBelow n args → length args ≤ 4 → HasInst j i g q labels p p.pc (Some s) (ICall to h args) →
      Leads j i (length args + 2) p (record p { context = with_r12 p.context (home o p h); registers = known (homes o p args); pc = p.pc + (4 + 2 * length args) }) []
  unfolding inst_items
  the_icross s to h as_ room lh below few code =
      icross_by j i p o n h as_ room lh below few (code_first j i p.context.protection labels (icross_code h as_) (Half s ∷ plain (save_code to)) p.pc code).0

  icross_stands : (at s : ℕ) (to : Option ℕ) (h : ℕ) (args : List ℕ) → HasInst j i g q labels p at (Some s) (ICall to h args) → HasCrossing j i p (at + (4 + 2 * length args)) s
  unfolding inst_items
  icross_stands at s to h as_ code =
      let c = code_first j i p.context.protection labels (icross_code h as_) (Half s ∷ plain (save_code to)) at code in
      let d = code_at-append j i p.context.protection (args_code 0 as_) (svc 0 ∷ []) (at + 2 + 2) c.0.1.1 in
      let z = args_size 0 as_ in
      let w = icross_code_size h as_ in
      let y : at + 2 + 2 + code_size (args_code 0 as_) ≡ at + (4 + 2 * length as_) = omega arith in
      let u : at + code_size (icross_code h as_) ≡ at + (4 + 2 * length as_) + 2 = omega arith in
      (subst (λ (a : ℕ). Stands j i p.context.protection a (svc 0)) y d.1.0, subst (λ (a : ℕ). HoldsHalf i a s) u c.1.0)

  call_returned : (at : ℕ) (site to : Option ℕ) (f v : ℕ) (args : List ℕ) → HasFrame j i p o n → IsBelow n to → HasInst j i g q labels p at site (Call to f args) →
      Leads j i (keep_steps to) (record p { registers = known (v ∷ []); pc = at + call_size (is_some site) args })
      (record p { registers = []; pc = at + inst_size (is_some site) (Call to f args); ram = kept_in o to v p.ram }) []
  unfolding inst_items inst_size
  call_returned at None to f v as_ room below code =
      let d : ℤ = distance (at + total (plain (args_code 0 as_))) (entry_address q f) in
      let w = call_code_size as_ d in
      kept_at j i p o n labels (at + code_size (call_code as_ d)) (at + call_size false as_) (at + (call_size false as_ + save_size to)) to v (omega arith) (omega arith) room below
      (code_first j i p.context.protection labels (call_code as_ d) (plain (save_code to)) at code).1
  call_returned at (Some s) to f v as_ room below code =
      let e : ℕ = entry_address q f in
      let w = cross_code_size e as_ in
      kept_at j i p o n labels (at + code_size (cross_code e as_) + 2) (at + call_size true as_) (at + (call_size true as_ + save_size to)) to v (omega arith) (omega arith) room below
      (code_first j i p.context.protection labels (cross_code e as_) (Half s ∷ plain (save_code to)) at code).1.1

  icall_returned : (at : ℕ) (site to : Option ℕ) (h v : ℕ) (args : List ℕ) → HasFrame j i p o n → IsBelow n to → HasInst j i g q labels p at site (ICall to h args) →
      Leads j i (keep_steps to) (record p { registers = known (v ∷ []); pc = at + icall_size (is_some site) args })
      (record p { registers = []; pc = at + inst_size (is_some site) (ICall to h args); ram = kept_in o to v p.ram }) []
  unfolding inst_items inst_size
  icall_returned at None to h v as_ room below code =
      let w = icall_code_size h as_ in
      kept_at j i p o n labels (at + code_size (icall_code h as_)) (at + icall_size false as_) (at + (icall_size false as_ + save_size to)) to v (omega arith) (omega arith) room below
      (code_first j i p.context.protection labels (icall_code h as_) (plain (save_code to)) at code).1
  icall_returned at (Some s) to h v as_ room below code =
      let w = icross_code_size h as_ in
      kept_at j i p o n labels (at + code_size (icross_code h as_) + 2) (at + icall_size true as_) (at + (icall_size true as_ + save_size to)) to v (omega arith) (omega arith) room below
      (code_first j i p.context.protection labels (icross_code h as_) (Half s ∷ plain (save_code to)) at code).1.1

pub call_effects : (j : PermissionTest) (i : Image) (g : NumberedFunc) (q : Places) (labels : List (Option ℕ)) (p : Point) (o n : ℕ) → CallEffects j i g q labels p o n
call_effects j i g q labels p o n = record { call = the_call j i g q labels p o n; icall = the_icall j i g q labels p o n }

pub crossing_effects : (j : PermissionTest) (i : Image) (g : NumberedFunc) (q : Places) (labels : List (Option ℕ)) (p : Point) (o n : ℕ) → CrossingEffects j i g q labels p o n
crossing_effects j i g q labels p o n = record {
  call = the_cross j i g q labels p o n;
  call_stands = cross_stands j i g q labels p o n;
  icall = the_icross j i g q labels p o n;
  icall_stands = icross_stands j i g q labels p o n;
}

pub returned_effects : (j : PermissionTest) (i : Image) (g : NumberedFunc) (q : Places) (labels : List (Option ℕ)) (p : Point) (o n : ℕ) → ReturnedEffects j i g q labels p o n
returned_effects j i g q labels p o n = record { call = call_returned j i g q labels p o n; icall = icall_returned j i g q labels p o n }
