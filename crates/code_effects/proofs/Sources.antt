-- The code of an instruction that sets a register does what the source's step does.
use Rattle.std.proofs.Common.{Bool, true, false, ◌≡◌, ℕ, ◌+◌, ◌*◌, ◌^◌, ◌<◌, ◌≤◌, List, [], Option, refl, ap, ◌∙◌, subst, arith, rules}
use Rattle.base_words.specs.Arithmetic.{word}
use Rattle.machine_devices.specs.declared.image.Image.{Image}
use Rattle.machine_model.specs.State.{PermissionTest}
use Rattle.ir_model.specs.declared.firmware.BinOp.{BinOp}
use Rattle.ir_model.specs.declared.firmware.BinOp.TheVariants.{Urem, Srem}
use Rattle.ir_model.specs.Resolved.{Value, Number, Code, Null, At, Instance, TheGlobal, ThePeriph, TheLocal, NumberedFunc, NumberedInst, Const, Move, Bin, Cmp, Addr, FAddr, Elem, Field, Load, Store, Call, ICall}
use Rattle.ir_model.specs.State.{Frame}
use Rattle.ir_model.specs.Step.{register, number_in, binary, compared, bit, SourceAct, Sets, act, address_of, with_pointer}
use Rattle.code_model.specs.declared.places.Places.{Places}
use Rattle.code_model.specs.Addresses.{scale_of}
use Rattle.code_effects.specs.Points.{Point, Leads}
use Rattle.code_effects.specs.Frames.{HasFrame, home, HasInst, behind}
use Rattle.code_effects.specs.Numbers.{bin_steps}
use Rattle.code_effects.specs.Comparisons.{cmp_steps}
use Rattle.code_effects.specs.Sources.{word_of, IsNumber, Shows, IsSound, SetsWord, SourceEffects}
use Rattle.code_effects.proofs.Numbers.{const, move, bin}
use Rattle.code_effects.proofs.Comparisons.{Conditions, comparison_effects}
use Rattle.code_effects.proofs.Addresses.{addr, faddr, elem, field, offsets_agree}

-- what an act sets
abbrev set_to : SourceAct → ℕ
set_to (Sets to v) = to
set_to _ = 0

abbrev set_value : SourceAct → Value
set_value (Sets to v) = v
set_value _ = Null

number_word : (q : Places) (address : Instance → ℕ) (v : Value) → IsNumber v → word_of q address v ≡ number_in v
number_word q address (Number n) h = refl
number_word q address (Code f) h = absurd h
number_word q address Null h = absurd h
number_word q address (At of at) h = absurd h

bin_few : (op : BinOp) → (1 ≤ bin_steps op) × (bin_steps op ≤ 7)
bin_few Urem = (omega arith, omega arith)
bin_few Srem = (omega arith, omega arith)
bin_few _ = (omega arith, omega arith)

cmp_few : (b : Bool) → (1 ≤ cmp_steps b) × (cmp_steps b ≤ 7)
cmp_few true = (omega arith, omega arith)
cmp_few false = (omega arith, omega arith)

module _ (cs : Conditions) (j : PermissionTest) (i : Image) (g : NumberedFunc) (q : Places) (labels : List (Option ℕ)) (site : Option ℕ) (p : Point) (o n : ℕ) (address : Instance → ℕ) (fr : Frame) (r : ℕ) where
  abbrev Sets1 : NumberedInst → (to v : ℕ) → Type 0
  Sets1 y to v = SetsWord j i g q labels site p o n y to v

  to_word : (y : NumberedInst) (to w v k : ℕ) → w ≡ v → 1 ≤ k → k ≤ 7 → Leads j i k p (behind o p site y to w) [] → Sets1 y to v
  to_word y to w v k e l m h = record { count = k; least = l; most = m; leads = subst (λ (u : ℕ). Leads j i k p (behind o p site y to u) []) e h }

  finish : (y : NumberedInst) (t to : ℕ) (u v : Value) → Sets t u ≡ Sets to v → Sets1 y t (word_of q address u) → Sets1 y to (word_of q address v)
  finish y t to u v e s =
      subst (λ (w : Value). Sets1 y to (word_of q address w)) (ap set_value e) (subst (λ (k : ℕ). Sets1 y k (word_of q address u)) (ap set_to e) s)

  number_home : (k : ℕ) → Shows q address fr r o p → k < r → IsNumber (register fr k) → home o p k ≡ number_in (register fr k)
  number_home k sh l h = sh.registers k l ∙ number_word q address (register fr k) h

  elem_by : (t base index size to : ℕ) (v b : Value) → register fr base ≡ b → with_pointer b (λ ob at. Sets t (At ob (word (at + number_in (register fr index) * size)))) ≡ Sets to v →
      IsSound g q address fr p.sp r n (Elem t base index size) → Shows q address fr r o p → r ≤ n → HasFrame j i p o n → HasInst j i g q labels p p.pc site (Elem t base index size) → Sets1 (Elem t base index size) to (word_of q address v)
  elem_by t base index size to v (At ob at) eb e ok sh le room code =
      let x : ℕ = number_in (register fr index) in
      let sb : home o p base ≡ word (address ob + at) = sh.registers base ok.1 ∙ ap (word_of q address) eb in
      let si : home o p index ≡ x = number_home index sh ok.2 ok.3 in
      let sc : scale_of size ≡ size = offsets_agree.scaled size ok.4 in
      let a : word (home o p base + home o p index * scale_of size) ≡ word (address ob + word (at + x * size)) =
      ap (λ (u : ℕ). word (u + home o p index * scale_of size)) sb
      ∙ (ap (λ (u : ℕ). word (word (address ob + at) + u * scale_of size)) si
      ∙ (ap (λ (u : ℕ). word (word (address ob + at) + x * u)) sc
      ∙ offsets_agree.moved (address ob) at (x * size))) in
      let l0 = ok.0 in let l1 = ok.1 in let l2 = ok.2 in
      finish (Elem t base index size) t to (At ob (word (at + x * size))) v e
      (to_word (Elem t base index size) t _ _ 7 a (omega arith) (omega arith) (elem j i g q labels site p o n t base index size room (omega arith) (omega arith) (omega arith) code))
  elem_by t base index size to v (Number x) eb e ok sh le room code = absurd (search rules)
  elem_by t base index size to v (Code f) eb e ok sh le room code = absurd (search rules)
  elem_by t base index size to v Null eb e ok sh le room code = absurd (search rules)

  field_by : (t base offset to : ℕ) (v b : Value) → register fr base ≡ b → with_pointer b (λ ob at. Sets t (At ob (word (at + offset)))) ≡ Sets to v →
      IsSound g q address fr p.sp r n (Field t base offset) → Shows q address fr r o p → r ≤ n → HasFrame j i p o n → HasInst j i g q labels p p.pc site (Field t base offset) → Sets1 (Field t base offset) to (word_of q address v)
  field_by t base offset to v (At ob at) eb e ok sh le room code =
      let sb : home o p base ≡ word (address ob + at) = sh.registers base ok.1 ∙ ap (word_of q address) eb in
      let a : word (home o p base + offset) ≡ word (address ob + word (at + offset)) = ap (λ (u : ℕ). word (u + offset)) sb ∙ offsets_agree.moved (address ob) at offset in
      let l0 = ok.0 in let l1 = ok.1 in
      finish (Field t base offset) t to (At ob (word (at + offset))) v e
      (to_word (Field t base offset) t _ _ 5 a (omega arith) (omega arith) (field j i g q labels site p o n t base offset room (omega arith) (omega arith) ok.2 code))
  field_by t base offset to v (Number x) eb e ok sh le room code = absurd (search rules)
  field_by t base offset to v (Code f) eb e ok sh le room code = absurd (search rules)
  field_by t base offset to v Null eb e ok sh le room code = absurd (search rules)

  at_start : (a b : ℕ) → a ≡ b → b < 2 ^ 32 → b ≡ word (a + 0)
  at_start a b e l = omega arith

  source_by : (y : NumberedInst) (to : ℕ) (v : Value) → act fr y ≡ Sets to v → IsSound g q address fr p.sp r n y → Shows q address fr r o p → r ≤ n → HasFrame j i p o n → p.pc < 2 ^ 30 → HasInst j i g q labels p p.pc site y → Sets1 y to (word_of q address v)
  unfolding act
  source_by (Const t x) to v e ok sh le room low code =
      let l0 = ok.0 in
      finish (Const t x) t to (Number x) v e (to_word (Const t x) t x x 3 refl (omega arith) (omega arith) (const j i g q labels site p o n t x room (omega arith) ok.1 code))
  source_by (Move t from) to v e ok sh le room low code =
      let l0 = ok.0 in let l1 = ok.1 in
      finish (Move t from) t to (register fr from) v e (to_word (Move t from) t _ _ 2 (sh.registers from ok.1) (omega arith) (omega arith) (move j i g q labels site p o n t from room (omega arith) (omega arith) code))
  source_by (Bin op t a b) to v e ok sh le room low code =
      let l0 = ok.0 in let l1 = ok.1 in let l2 = ok.2 in
      let x : ℕ = number_in (register fr a) in
      let z : ℕ = number_in (register fr b) in
      let w : binary op (home o p a) (home o p b) ≡ binary op x z =
      ap (λ (u : ℕ). binary op u (home o p b)) (number_home a sh ok.1 ok.3) ∙ ap (λ (u : ℕ). binary op x u) (number_home b sh ok.2 ok.4) in
      let f = bin_few op in
      finish (Bin op t a b) t to (Number (binary op x z)) v e (to_word (Bin op t a b) t _ _ (bin_steps op) w f.0 f.1 (bin j i g q labels site p o n op t a b room (omega arith) (omega arith) (omega arith) code))
  source_by (Cmp op t a b) to v e ok sh le room low code =
      let l0 = ok.0 in let l1 = ok.1 in let l2 = ok.2 in
      let x : ℕ = number_in (register fr a) in
      let z : ℕ = number_in (register fr b) in
      let w : bit (compared op (home o p a) (home o p b)) ≡ bit (compared op x z) =
      ap (λ (u : ℕ). bit (compared op u (home o p b))) (number_home a sh ok.1 ok.3) ∙ ap (λ (u : ℕ). bit (compared op x u)) (number_home b sh ok.2 ok.4) in
      let f = cmp_few (compared op (home o p a) (home o p b)) in
      finish (Cmp op t a b) t to (Number (bit (compared op x z))) v e
      (to_word (Cmp op t a b) t _ _ (cmp_steps (compared op (home o p a) (home o p b))) w f.0 f.1 (comparison_effects cs j i g q labels site p o n op t a b room (omega arith) (omega arith) (omega arith) low code))
  source_by (Addr t (TheGlobal x)) to v e ok sh le room low code =
      let l0 = ok.0 in
      finish (Addr t (TheGlobal x)) t to (address_of fr (TheGlobal x)) v e (to_word (Addr t (TheGlobal x)) t _ _ 3 (at_start _ _ ok.3 ok.2) (omega arith) (omega arith) (addr j i g q labels site p o n t (TheGlobal x) room (omega arith) ok.1 code))
  source_by (Addr t (ThePeriph x)) to v e ok sh le room low code =
      let l0 = ok.0 in
      finish (Addr t (ThePeriph x)) t to (address_of fr (ThePeriph x)) v e (to_word (Addr t (ThePeriph x)) t _ _ 3 (at_start _ _ ok.3 ok.2) (omega arith) (omega arith) (addr j i g q labels site p o n t (ThePeriph x) room (omega arith) ok.1 code))
  source_by (Addr t (TheLocal x)) to v e ok sh le room low code =
      let l0 = ok.0 in
      finish (Addr t (TheLocal x)) t to (address_of fr (TheLocal x)) v e (to_word (Addr t (TheLocal x)) t _ _ 2 (at_start _ _ ok.3 ok.2) (omega arith) (omega arith) (addr j i g q labels site p o n t (TheLocal x) room (omega arith) ok.1 code))
  source_by (FAddr t f) to v e ok sh le room low code =
      let l0 = ok.0 in
      finish (FAddr t f) t to (Code f) v e (to_word (FAddr t f) t _ _ 3 refl (omega arith) (omega arith) (faddr j i g q labels site p o n t f room (omega arith) ok.1 code))
  source_by (Elem t base index size) to v e ok sh le room low code = elem_by t base index size to v (register fr base) refl e ok sh le room code
  source_by (Field t base offset) to v e ok sh le room low code = field_by t base offset to v (register fr base) refl e ok sh le room code
  source_by (Load t from ty) to v e ok sh le room low code = absurd ok
  source_by (Store t from ty) to v e ok sh le room low code = absurd ok
  source_by (Call t f args) to v e ok sh le room low code = absurd ok
  source_by (ICall t f args) to v e ok sh le room low code = absurd ok

pub source_effects : Conditions → (j : PermissionTest) (i : Image) (g : NumberedFunc) (q : Places) (labels : List (Option ℕ)) (site : Option ℕ) (p : Point) (o n : ℕ) → SourceEffects j i g q labels site p o n
source_effects cs j i g q labels site p o n address fr r y to v e ok sh le room low code = source_by cs j i g q labels site p o n address fr r y to v e ok sh le room low code
