-- What a typed firmware passes, part by part, and each of its functions.
use Rattle.std.proofs.Common.{◌≡◌, ℕ, zero, suc, ◌<◌, true, List, [], ◌∷◌, ◌++◌, map, length, slice_index_or, subst, arith, nat_le}
use Rattle.std.specs.List.{Contains}
use Rattle.ir_model.specs.declared.check.CheckKind.TheVariants.{FrameTooLarge, NoMain}
use Rattle.ir_model.specs.declared.check.CheckPlace.{CheckPlace}
use Rattle.ir_model.specs.declared.check.CheckPlace.TheVariants as place
use Rattle.ir_model.specs.declared.firmware.Peripheral.{Peripheral}
use Rattle.ir_model.specs.Plain.{PlainStruct, PlainGlobal, PlainFunc, PlainFirmware, funcs_of, names_of}
use Rattle.ir_model.specs.Layout.{known}
use Rattle.ir_model.specs.Frames.{frame_size}
use Rattle.ir_model.specs.Typing.{Checks, check, register_checks, outcome_checks, local_checks, label_checks, blocks_checks, func_checks, funcs_checks, frame_limit, structs_checks, periph_checks, globals_checks, file_checks, has_main, checks, fault_of, IsTyped}
use Rattle.ir_model.proofs.Passing.{Pass, left, right, holds, behind}

abbrev pub structs_named : PlainFirmware → List (List ℕ)
structs_named w = map (λ (s : PlainStruct). s.name) w.structs

abbrev pub periphs_named : PlainFirmware → List (List ℕ)
periphs_named w = map (λ (q : Peripheral). q.name) w.periphs

abbrev pub globals_named : PlainFirmware → List (List ℕ)
globals_named w = map (λ (g : PlainGlobal). g.name) w.globals

pub record PartsPass (w : PlainFirmware) : Type 0 where
  pub structs : Pass (structs_checks (structs_named w) [] w.structs)
  pub periphs : Pass (periph_checks [] w.periphs)
  pub globals : Pass (globals_checks w (periphs_named w) w.globals)
  pub files : Pass (file_checks [] (periphs_named w ++ globals_named w) w.files)
  pub funcs : Pass (funcs_checks w (funcs_of w))
  pub main : has_main w ≡ true

pub parts_pass : (w : PlainFirmware) → IsTyped w → PartsPass w
unfolding fault_of checks
parts_pass w h =
    let s : Checks = structs_checks (structs_named w) [] w.structs in
    let p : Checks = periph_checks [] w.periphs in
    let g : Checks = globals_checks w (periphs_named w) w.globals in
    let f : Checks = file_checks [] (periphs_named w ++ globals_named w) w.files in
    let u : Checks = funcs_checks w (funcs_of w) in
    let m : Checks = check (has_main w) NoMain place.Whole ∷ [] in
    let five : Pass (s ++ p ++ g ++ f ++ u) = left (s ++ p ++ g ++ f ++ u) m (record { none = h }) in
    let four : Pass (s ++ p ++ g ++ f) = left (s ++ p ++ g ++ f) u five in
    let three : Pass (s ++ p ++ g) = left (s ++ p ++ g) f four in
    let two : Pass (s ++ p) = left (s ++ p) g three in
    record {
      structs = left s p two;
      periphs = right s p two;
      globals = right (s ++ p) g three;
      files = right (s ++ p ++ g) f four;
      funcs = right (s ++ p ++ g ++ f) u five;
      main = holds (has_main w) NoMain place.Whole [] (right (s ++ p ++ g ++ f ++ u) m (record { none = h }));
    }

pub record FuncPasses (w : PlainFirmware) (f : PlainFunc) : Type 0 where
  pub params : Pass (register_checks (structs_named w) (place.Func f.name) [] f.params)
  pub outcome : Pass (outcome_checks (structs_named w) (place.Func f.name) f.outcome)
  pub locals : Pass (local_checks w (structs_named w) (place.Func f.name) (names_of f.params) f.locals)
  pub regs : Pass (register_checks (structs_named w) (place.Func f.name) (names_of f.params ++ names_of f.locals) f.regs)
  pub frame : nat_le (frame_size (known w.structs) f) frame_limit ≡ true
  pub labels : Pass (label_checks (place.Func f.name) [] f.blocks)
  pub blocks : Pass (blocks_checks w f f.blocks)

-- a function by itself
pub by_parts : (w : PlainFirmware) (f : PlainFunc) → Pass (func_checks w f) → FuncPasses w f
by_parts w f h =
    let spot : CheckPlace = place.Func f.name in
    let n : ℕ = frame_size (known w.structs) f in
    let p : Checks = register_checks (structs_named w) spot [] f.params in
    let o : Checks = outcome_checks (structs_named w) spot f.outcome in
    let l : Checks = local_checks w (structs_named w) spot (names_of f.params) f.locals in
    let r : Checks = register_checks (structs_named w) spot (names_of f.params ++ names_of f.locals) f.regs in
    let labels : Checks = label_checks spot [] f.blocks in
    let k : Checks = check (nat_le n frame_limit) (FrameTooLarge n) spot ∷ labels in
    let b : Checks = blocks_checks w f f.blocks in
    let five : Pass (p ++ o ++ l ++ r ++ k) = left (p ++ o ++ l ++ r ++ k) b h in
    let four : Pass (p ++ o ++ l ++ r) = left (p ++ o ++ l ++ r) k five in
    let three : Pass (p ++ o ++ l) = left (p ++ o ++ l) r four in
    let two : Pass (p ++ o) = left (p ++ o) l three in
    let frame : Pass k = right (p ++ o ++ l ++ r) k five in
    record {
      params = left p o two;
      outcome = right p o two;
      locals = right (p ++ o) l three;
      regs = right (p ++ o ++ l) r four;
      frame = holds (nat_le n frame_limit) (FrameTooLarge n) spot labels frame;
      labels = behind (nat_le n frame_limit) (FrameTooLarge n) spot labels frame;
      blocks = right (p ++ o ++ l ++ r ++ k) b h;
    }

each : (w : PlainFirmware) (fs : List PlainFunc) (k : ℕ) (d f : PlainFunc) → k < length fs → slice_index_or fs k d ≡ f → Pass (funcs_checks w fs) → Pass (func_checks w f)
each w [] k d f l e h = absurd (omega arith)
each w (g ∷ fs) zero d f l e h = subst (λ x. Pass (func_checks w x)) e (left (func_checks w g) (funcs_checks w fs) h)
each w (g ∷ fs) (suc k) d f l e h = each w fs k d f (omega arith) e (right (func_checks w g) (funcs_checks w fs) h)

pub func_passes : (w : PlainFirmware) (f : PlainFunc) → IsTyped w → Contains (funcs_of w) f → FuncPasses w f
func_passes w f h c = by_parts w f (each w (funcs_of w) c.0 f f c.1 c.2 (parts_pass w h).funcs)
