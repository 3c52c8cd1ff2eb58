-- What stands at each place of each function.
use Rattle.std.proofs.Common.{◌≡◌, ℕ, suc, ◌+◌, ◌%◌, ◌^◌, ◌<◌, ◌≤◌, List, [], ◌∷◌, ◌++◌, length, get_or, Option, Some, None, is_some, ap, ◌∙◌, subst, arith}
use Rattle.std.proofs.lemmas.List.FromFn.{get_or-map-range_with_len}
use Rattle.machine_thumb.specs.declared.table.Code.{Code}
use Rattle.machine_thumb.specs.declared.table.Code.TheVariants as code
use Rattle.machine_thumb.specs.declared.table.Instr.{Instr}
use Rattle.machine_thumb.specs.Table.{encode}
use Rattle.machine_thumb_asm.specs.declared.item.Item.{Item}
use Rattle.machine_thumb_asm.specs.declared.item.Item.TheVariants.{Plain, Branch, Half, Word}
use Rattle.machine_thumb_asm.specs.Assembly.{place_of}
use Rattle.machine_devices.specs.declared.image.Image.{Image}
use Rattle.machine_devices.specs.Rules.{ObeysRules}
use Rattle.machine_bus.proofs.Offsets.{flash_at}
use Rattle.machine_model.specs.declared.state.ProtectionState.{ProtectionState}
use Rattle.machine_model.specs.State.{PermissionTest}
use Rattle.machine_model.specs.Code.{HoldsCode}
use Rattle.ir_model.specs.Resolved as ir
use Rattle.ir_model.specs.Resolved.{NumberedFunc, NumberedInst, NumberedTerm, Here, Does, Ends, TheGlobal, ThePeriph, TheLocal, here, block_at}
use Rattle.code_model.specs.declared.places.Places.{Places}
use Rattle.code_model.specs.Places.{site_in, entry_address}
use Rattle.code_model.specs.Words.{plain}
use Rattle.code_model.specs.Entry.{frame_code, unlend_code, result_code, add_code}
use Rattle.code_model.specs.Templates.{lends_of, entry_items, inst_items, term_items}
use Rattle.code_model.specs.FunctionCode.{here_items}
use Rattle.code_model.specs.Sizes.{inst_size, entry_size, resume_size}
use Rattle.code_model.specs.CompartmentCode.{entry_of, compartment_labels, compartment_items}
use Rattle.code_model.specs.Planned.{call_sites}
use Rattle.code_effects.specs.Items.{ItemsAt}
use Rattle.code_effects.specs.Functions.{PlacesStand}
use Rattle.refine.specs.CodeLaws.{CodeLaws}
use Rattle.refine.specs.Owned.{owner, Owns, MemoryRules}
use Rattle.refine.specs.Builds.{Build, groups_of, compartment_of, func, places_at, labels_at, first_at, lends_at, entry_at, code_at, behind_at, half_at, site_at}
use Rattle.refine.specs.Linked.{HasCode}

-- ---- pieces that begin with an instruction stand in flash, which is low

abbrev BeginsWithCode : List Item → Type 0
BeginsWithCode (Plain x ∷ more) = Unit {0}
BeginsWithCode (Branch kind to ∷ more) = Unit {0}
BeginsWithCode _ = ⊥

plain_begins : (xs ys : List Instr) → BeginsWithCode (plain ys) → BeginsWithCode (plain (xs ++ ys))
plain_begins [] ys h = h
plain_begins (x ∷ xs) ys h = tt

inst_begins : (g : NumberedFunc) (q : Places) (at : ℕ) (s : Option ℕ) (y : NumberedInst) → BeginsWithCode (inst_items g q at s y)
unfolding inst_items
inst_begins g q at s (ir.Const to v) = tt
inst_begins g q at s (ir.Move to from) = tt
inst_begins g q at s (ir.Bin op to a b) = tt
inst_begins g q at s (ir.Cmp op to a b) = tt
inst_begins g q at s (ir.Addr to (TheGlobal x)) = tt
inst_begins g q at s (ir.Addr to (ThePeriph x)) = tt
inst_begins g q at s (ir.Addr to (TheLocal x)) = tt
inst_begins g q at s (ir.FAddr to f) = tt
inst_begins g q at s (ir.Elem to base index size) = tt
inst_begins g q at s (ir.Field to base offset) = tt
inst_begins g q at s (ir.Load to from t) = tt
inst_begins g q at s (ir.Store to from t) = tt
inst_begins g q at None (ir.Call to f []) = tt
inst_begins g q at None (ir.Call to f (a ∷ args)) = tt
inst_begins g q at (Some n) (ir.Call to f args) = tt
inst_begins g q at None (ir.ICall to h args) = tt
inst_begins g q at (Some n) (ir.ICall to h args) = tt

term_begins : (g : NumberedFunc) (q : Places) (first : ℕ) (t : NumberedTerm) → BeginsWithCode (term_items g q first t)
unfolding term_items
term_begins g q first (ir.Jump b) = tt
term_begins g q first (ir.Branch on a b) = tt
term_begins g q first (ir.Ret r) = plain_begins (unlend_code (lends_of g q)) _ (plain_begins (result_code r) _ (plain_begins (add_code (Rattle.code_model.specs.FrameShape.frame_shape g).words) _ tt))

entry_begins : (g : NumberedFunc) (q : Places) → BeginsWithCode (entry_items g q)
unfolding frame_code
entry_begins g q = tt

here_begins : (g : NumberedFunc) (q : Places) (first at b p : ℕ) (h : Here) → BeginsWithCode (here_items g q first at b p h)
here_begins g q first at b p (Does y) = inst_begins g q at (site_in q.sites b p) y
here_begins g q first at b p (Ends t) = term_begins g q first t

code_low : (i : Image) (pc : ℕ) (c : Code) → ObeysRules i → HoldsCode i pc c → pc < 2 ^ 30
code_low i pc (code.Half h) r x =
    let e = flash_at i pc x.offset x.is_in_flash in
    let m = r.flash_most in
    let t = r.flash_highest in
    omega (arith, e.0, e.1)
code_low i pc (code.Pair h k) r x =
    let e = flash_at i pc x.0.offset x.0.is_in_flash in
    let m = r.flash_most in
    let t = r.flash_highest in
    omega (arith, e.0, e.1)

items_low : (j : PermissionTest) (i : Image) (p : ProtectionState) (labels : List (Option ℕ)) (at : ℕ) (items : List Item) → ObeysRules i → BeginsWithCode items → ItemsAt j i p labels at items → at < 2 ^ 30
items_low j i p labels at [] r b h = absurd b
items_low j i p labels at (Plain x ∷ more) r b h = code_low i at (encode x) r h.0.lies.code
items_low j i p labels at (Branch kind to ∷ more) r b h = code_low i at (encode _) r h.0.lies.code
items_low j i p labels at (Half w ∷ more) r b h = absurd b
items_low j i p labels at (Word w ∷ more) r b h = absurd b

-- ---- places

module _ (k : Build) (rules : MemoryRules k.setting) (laws : CodeLaws) (has : HasCode k) where
  -- a place of a function
  pub record IsPlace (f b p : ℕ) : Type 0 where
    pub func_there : f < length k.program.funcs
    pub block_there : b < length (func k f).blocks
    pub place_there : p ≤ length (block_at k.program f b).insts

  stand : (f : ℕ) → f < length k.program.funcs → (x : ProtectionState) → PlacesStand (owner k.setting (compartment_of k f)) k.setting.image x (func k f) (places_at k f) (labels_at k f) (first_at k f) (entry_at k f)
  unfolding places_at labels_at first_at entry_at
  stand f l x =
      let c : ℕ = compartment_of k f in
      let cl = has.each f l in
      let size = laws.aligned.sizes k.program (groups_of k) k.places c in
      let whole = laws.items.may_run (owner k.setting c) k.setting.image x (compartment_labels k.program (groups_of k) k.places c) (compartment_items k.program (groups_of k) k.places c) (get_or k.places.bases c 0) (has.lies c cl)
      (λ a low high. has.inside c a cl low (omega arith)) in
      let one = laws.compartments.functions (owner k.setting c) k.setting.image x k.program (groups_of k) k.places f (let n = has.count in omega arith) whole in
      laws.functions.stand (owner k.setting c) k.setting.image x _ _ _ _ _ one

  pub owned_entry : (f : ℕ) → f < length k.program.funcs → Owns k.setting (compartment_of k f) (labels_at k f) (entry_at k f) (entry_items (func k f) (places_at k f))
  owned_entry f l = record { stands = λ x. (stand f l x).entry }

  owned_here : (f b p : ℕ) → IsPlace f b p → Owns k.setting (compartment_of k f) (labels_at k f) (code_at k f b p) (here_items (func k f) (places_at k f) (first_at k f) (code_at k f b p) b p (here k.program f b p))
  unfolding code_at
  owned_here f b p i = record { stands = λ x. (stand f i.func_there x).places b p i.block_there i.place_there }

  pub place_low : (f b p : ℕ) → IsPlace f b p → ProtectionState → code_at k f b p < 2 ^ 30
  place_low f b p i x =
      items_low (owner k.setting (compartment_of k f)) k.setting.image x (labels_at k f) (code_at k f b p) _ rules.image (here_begins (func k f) (places_at k f) (first_at k f) (code_at k f b p) b p (here k.program f b p)) ((owned_here f b p i).stands x)

  pub entry_low : (f : ℕ) → f < length k.program.funcs → ProtectionState → entry_at k f < 2 ^ 30
  entry_low f l x = items_low (owner k.setting (compartment_of k f)) k.setting.image x (labels_at k f) (entry_at k f) (entry_items (func k f) (places_at k f)) rules.image (entry_begins (func k f) (places_at k f)) ((owned_entry f l).stands x)

  -- ---- what is looked up

  pub site_is : (f b p : ℕ) → f < length k.program.funcs → site_in (places_at k f).sites b p ≡ site_at k f b p
  unfolding places_at
  site_is f b p l =
      let e = get_or-map-range_with_len (call_sites k.needs k.groups) 0 (length k.program.funcs) f f [] l (omega arith) in
      ap (λ ss. site_in ss b p) e ∙ laws.sites k.needs k.groups f b p

  pub entry_is : (f h : ℕ) → h < length k.program.funcs → entry_address (places_at k f) h ≡ entry_at k h
  unfolding places_at entry_at
  entry_is f h l = get_or-map-range_with_len (entry_of k.program (groups_of k) k.places) 0 (length k.program.funcs) h h 0 l (omega arith)

  pub label_is : (f b : ℕ) → f < length k.program.funcs → b < length (func k f).blocks → place_of (labels_at k f) (first_at k f + b) ≡ code_at k f b 0
  unfolding places_at labels_at first_at entry_at code_at
  label_is f b l m = laws.compartments.labels k.program (groups_of k) k.places f b (let n = has.count in omega arith) m

  -- ---- instructions and ends

  pub owned_inst : (f b p : ℕ) (y : NumberedInst) → IsPlace f b p → here k.program f b p ≡ Does y →
      Owns k.setting (compartment_of k f) (labels_at k f) (code_at k f b p) (inst_items (func k f) (places_at k f) (code_at k f b p) (site_at k f b p) y)
  owned_inst f b p y i e =
      subst (λ (s : Option ℕ). Owns k.setting (compartment_of k f) (labels_at k f) (code_at k f b p) (inst_items (func k f) (places_at k f) (code_at k f b p) s y)) (site_is f b p i.func_there)
      (subst (λ (h : Here). Owns k.setting (compartment_of k f) (labels_at k f) (code_at k f b p) (here_items (func k f) (places_at k f) (first_at k f) (code_at k f b p) b p h)) e (owned_here f b p i))

  pub owned_term : (f b p : ℕ) (t : NumberedTerm) → IsPlace f b p → here k.program f b p ≡ Ends t →
      Owns k.setting (compartment_of k f) (labels_at k f) (code_at k f b p) (term_items (func k f) (places_at k f) (first_at k f) t)
  owned_term f b p t i e =
      subst (λ (h : Here). Owns k.setting (compartment_of k f) (labels_at k f) (code_at k f b p) (here_items (func k f) (places_at k f) (first_at k f) (code_at k f b p) b p h)) e (owned_here f b p i)

  pub next_code : (f b p : ℕ) (y : NumberedInst) → f < length k.program.funcs → here k.program f b p ≡ Does y → code_at k f b (suc p) ≡ code_at k f b p + inst_size (is_some (site_at k f b p)) y
  unfolding code_at
  next_code f b p y l e =
      let n = laws.functions.next_place (func k f) (places_at k f).sites (length (lends_at k f)) b p y e in
      let s : inst_size (is_some (site_in (places_at k f).sites b p)) y ≡ inst_size (is_some (site_at k f b p)) y = ap (λ (x : Option ℕ). inst_size (is_some x) y) (site_is f b p l) in
      omega arith

  pub first_code : (f : ℕ) → code_at k f 0 0 ≡ entry_at k f + entry_size (func k f) (length (lends_at k f))
  unfolding code_at
  first_code f = ap (λ (n : ℕ). entry_at k f + n) (laws.functions.first_place (func k f) (places_at k f).sites (length (lends_at k f)))

  pub behind_is : (f b p : ℕ) (h : Here) → f < length k.program.funcs → here k.program f b p ≡ h → behind_at k f b p ≡ code_at k f b p + resume_size (is_some (site_at k f b p)) h
  unfolding code_at behind_at
  behind_is f b p h l e =
      let s : resume_size (is_some (site_in (places_at k f).sites b p)) (here k.program f b p) ≡ resume_size (is_some (site_at k f b p)) h =
      ap (λ (x : Option ℕ). resume_size (is_some x) (here k.program f b p)) (site_is f b p l) ∙ ap (λ (y : Here). resume_size (is_some (site_at k f b p)) y) e in
      omega arith

  pub half_is : (f b p : ℕ) → code_at k f b p + 2 ≤ behind_at k f b p → half_at k f b p + 2 ≡ behind_at k f b p
  unfolding code_at behind_at half_at
  half_is f b p h = omega arith

  pub entry_four : (f : ℕ) → entry_at k f % 4 ≡ 0
  unfolding entry_at
  entry_four f = laws.aligned.entries k.program (groups_of k) k.places has.aligned f

  pub code_even : (f b p : ℕ) → code_at k f b p % 2 ≡ 0
  unfolding code_at
  code_even f b p =
      let a = entry_four f in
      let e = laws.even.places (func k f) (places_at k f).sites (length (lends_at k f)) b p in
      omega arith
