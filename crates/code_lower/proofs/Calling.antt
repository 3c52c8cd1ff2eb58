-- The arguments of a call, one behind the other.
use Rattle.machine_thumb.specs.declared.table.Instr.TheVariants.{BranchExchange, BranchLink}
use Rattle.std.proofs.Common.{◌≡◌, ℕ, ℤ, suc, ◌+◌, ◌%◌, ◌<◌, ◌≤◌, ◌^◌, Option, None, List, [], ◌∷◌, ◌++◌, length, get_or, drop, ap, sym, ◌∙◌, arith, append_assoc}
use Rattle.std.proofs.lemmas.List.{drop_more}
use Rattle.machine_thumb.specs.declared.table.Instr.{Instr}
use Rattle.machine_thumb.specs.Table.{svc}
use Rattle.machine_thumb_asm.specs.declared.item.Item.{Item}
use Rattle.machine_thumb_asm.specs.declared.item.Item.TheVariants.{Half}
use Rattle.machine_thumb_asm.specs.Assembly.{Assembly, here, total}
use Rattle.code_model.specs.Words.{plain, load_home, save_code, word_into}
use Rattle.code_model.specs.Calls.{args_code, call_code, cross_code, callee_code, icall_code, icross_code, call_items}
use Rattle.code_model.specs.Emitted.{with_more, HasRoom, IsNear}
use Rattle.code_model.proofs.PieceSizes.{call_items_total}
use Rattle.code_lower.proofs.Putting.{more_more, room_first, room_rest, plain-append}
use Rattle.code_model.proofs.Filling.{args_total}

module _ (as_ : List ℕ) (i : ℕ) (d : ℕ) (l : i < length as_) where
  abbrev next_arg : List Instr
  next_arg = load_home i (get_or as_ i d) ∷ []

  abbrev other_args : List Instr
  other_args = args_code (i + 1) (drop (i + 1) as_)

  args_more : args_code i (drop i as_) ≡ load_home i (get_or as_ i d) ∷ other_args
  args_more =
      let one : suc i ≡ i + 1 = omega arith in
      ap (args_code i) (drop_more as_ i d l) ∙ ap (λ k. load_home i (get_or as_ i d) ∷ args_code k (drop (i + 1) as_)) one

  pub arg_room : (a : Assembly) → HasRoom a (plain (args_code i (drop i as_))) → HasRoom a (plain next_arg)
  arg_room a h = room_first a (plain next_arg) (plain other_args) (rw args_more at h)

  pub args_room : (a : Assembly) → HasRoom a (plain (args_code i (drop i as_))) → HasRoom (with_more a (plain next_arg)) (plain other_args)
  args_room a h = room_rest a (plain next_arg) (plain other_args) (rw args_more at h)

  pub args_whole : (a : Assembly) → with_more (with_more a (plain next_arg)) (plain other_args) ≡ with_more a (plain (args_code i (drop i as_)))
  args_whole a = more_more a (plain next_arg) (plain other_args) ∙ ap (λ xs. with_more a (plain xs)) (sym args_more)

-- each kind of call, in parts
pub near_call_parts : (as_ : List ℕ) (d : ℤ) (to : Option ℕ) →
    plain (call_code as_ d) ++ plain (save_code to) ≡ plain (args_code 0 as_) ++ (plain (BranchLink d ∷ []) ++ plain (save_code to))
near_call_parts as_ d to =
    ap (λ xs. xs ++ plain (save_code to)) (plain-append (args_code 0 as_) (BranchLink d ∷ []))
    ∙ append_assoc (plain (args_code 0 as_)) (plain (BranchLink d ∷ [])) (plain (save_code to))

-- what is left behind the arguments of a call that may go to another compartment
abbrev pub crossing : (site : ℕ) → Option ℕ → List Item
crossing s to = (plain (svc 0 ∷ []) ++ Half s ∷ []) ++ plain (save_code to)

crossed : (code : List Instr) (s : ℕ) (to : Option ℕ) → plain (code ++ svc 0 ∷ []) ++ Half s ∷ plain (save_code to) ≡ plain code ++ crossing s to
crossed code s to =
    ap (λ xs. xs ++ Half s ∷ plain (save_code to)) (plain-append code (svc 0 ∷ []))
    ∙ append_assoc (plain code) (plain (svc 0 ∷ [])) (Half s ∷ plain (save_code to))

pub far_call_parts : (e s : ℕ) (as_ : List ℕ) (to : Option ℕ) →
    plain (cross_code e as_) ++ Half s ∷ plain (save_code to) ≡ plain (word_into 12 (e + 1)) ++ (plain (args_code 0 as_) ++ crossing s to)
far_call_parts e s as_ to = ap (λ xs. plain (word_into 12 (e + 1)) ++ xs) (crossed (args_code 0 as_) s to)

pub near_icall_parts : (h : ℕ) (as_ : List ℕ) (to : Option ℕ) →
    plain (icall_code h as_) ++ plain (save_code to) ≡ plain (callee_code h as_) ++ (plain (BranchExchange 1 12 ∷ []) ++ plain (save_code to))
near_icall_parts h as_ to =
    ap (λ xs. xs ++ plain (save_code to)) (plain-append (callee_code h as_) (BranchExchange 1 12 ∷ []))
    ∙ append_assoc (plain (callee_code h as_)) (plain (BranchExchange 1 12 ∷ [])) (plain (save_code to))

pub far_icall_parts : (h s : ℕ) (as_ : List ℕ) (to : Option ℕ) →
    plain (icross_code h as_) ++ Half s ∷ plain (save_code to) ≡ plain (callee_code h as_) ++ crossing s to
far_icall_parts h s as_ to = crossed (callee_code h as_) s to

-- BL stands behind the arguments, at an even address, and reaches the entry
pub record LinkReaches (from to : ℕ) : Type 0 where
  pub low : from < 2 ^ 31
  pub back : from ≤ to + 2 ^ 20
  pub forward : to < from + 2 ^ 20
  pub even : from % 2 ≡ 0

pub link_reaches : (a : Assembly) (entry : ℕ) (to : Option ℕ) (as_ : List ℕ) → here a % 2 ≡ 0 →
    IsNear (here a) (here a + total (call_items (here a) entry None to as_)) entry → HasRoom a (call_items (here a) entry None to as_) →
    LinkReaches (here a + total (plain (args_code 0 as_))) entry
link_reaches a entry to as_ even near room =
    let t = call_items_total (here a) entry None to as_ in
    let u = args_total 0 as_ in
    let r = room.below in
    let b = near.behind in
    let f = near.before in
    record { low = omega arith; back = omega arith; forward = omega arith; even = omega arith }
