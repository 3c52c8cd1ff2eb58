-- The code of a whole function.
use Rattle.std.proofs.Common.{◌≡◌, ℕ, zero, suc, ◌+◌, ◌<◌, List, [], ◌∷◌, ◌++◌, length, take, get_or, Option, Some, None, ap, ◌∙◌, subst, arith, rules}
use Rattle.machine_devices.specs.declared.image.Image.{Image}
use Rattle.machine_thumb_asm.specs.declared.item.Item.{Item}
use Rattle.machine_thumb_asm.specs.Assembly.{total}
use Rattle.machine_model.specs.declared.state.ProtectionState.{ProtectionState}
use Rattle.machine_model.specs.State.{PermissionTest}
use Rattle.ir_model.specs.Resolved.{NumberedInst, NumberedTerm, NumberedBlock, NumberedFunc, Here, Does, Ends, here_in, no_block}
use Rattle.code_model.specs.declared.places.Places.{Places}
use Rattle.code_model.specs.declared.places.CallSite.{CallSite}
use Rattle.code_model.specs.Places.{crosses}
use Rattle.code_model.specs.Templates.{entry_items}
use Rattle.code_model.specs.Sizes.{inst_size, insts_size, block_size, blocks_size, entry_size, place_offset}
use Rattle.code_model.specs.FunctionCode.{lent, function_items, blocks_labels}
use Rattle.code_model.specs.Laws.{StandsAt}
use Rattle.code_model.proofs.Pieces.{pieces_stand}
use Rattle.code_effects.specs.Items.{ItemsAt}
use Rattle.code_effects.specs.Functions.{PlacesStand, FunctionsStand}
use Rattle.code_effects.proofs.Items.{parts_at, items_at}

-- a piece among others
piece_at : (j : PermissionTest) (i : Image) (p : ProtectionState) (labels : List (Option ℕ)) (at offset : ℕ) (whole piece : List Item) → StandsAt whole offset piece → ItemsAt j i p labels at whole → ItemsAt j i p labels (at + offset) piece
piece_at j i p labels at offset whole piece s h =
    let c = subst (λ (xs : List Item). ItemsAt j i p labels at xs) s.parts h in
    let d = parts_at j i p labels s.front (piece ++ s.rest) at c in
    let e = parts_at j i p labels piece s.rest (at + total s.front) d.1 in
    items_at j i p labels piece (at + total s.front) (at + offset) (ap (λ (n : ℕ). at + n) s.behind) e.0

pub stand : (j : PermissionTest) (i : Image) (p : ProtectionState) (g : NumberedFunc) (q : Places) (labels : List (Option ℕ)) (first at : ℕ) → ItemsAt j i p labels at (function_items g q first at) → PlacesStand j i p g q labels first at
stand j i p g q labels first at h = record {
  entry = items_at j i p labels (entry_items g q) (at + 0) at (omega arith) (piece_at j i p labels at 0 (function_items g q first at) (entry_items g q) (pieces_stand.entries g q first at) h);
  places = λ b k lb lk. piece_at j i p labels at (place_offset g q.sites (lent g q) b k) (function_items g q first at) _ (pieces_stand.places g q first at b k lb lk) h;
}

inst_in : Here → NumberedInst → NumberedInst
inst_in (Does y) d = y
inst_in (Ends t) d = d

next_inst : (g : NumberedFunc) (sites : List CallSite) (n b m k c : ℕ) (is : List NumberedInst) (t : NumberedTerm) (y : NumberedInst) → m + k ≡ c → here_in is t k ≡ Does y →
    insts_size g sites n b m (take (suc k) is) ≡ insts_size g sites n b m (take k is) + inst_size (crosses sites b c) y
unfolding inst_in
next_inst g sites n b m k c [] t y e h = absurd (search rules)
next_inst g sites n b m zero c (x ∷ xs) t y e h =
    let z : m ≡ c = omega arith in
    let s : x ≡ y = ap (λ (w : Here). inst_in w y) h in
    rw (z, s) (omega arith)
next_inst g sites n b m (suc k) c (x ∷ xs) t y e h =
    let r = next_inst g sites n b (suc m) k c xs t y (omega arith) h in
    omega arith

label_at : (g : NumberedFunc) (q : Places) (at b k : ℕ) (xs : List NumberedBlock) → k < length xs → get_or (blocks_labels g q at b xs) k None ≡ Some (at + blocks_size g q.sites (lent g q) b (take k xs))
label_at g q at b k [] l = absurd (omega arith)
label_at g q at b zero (x ∷ xs) l = let z : at ≡ at + 0 = omega arith in ap Some z
label_at g q at b (suc k) (x ∷ xs) l =
    let s : ℕ = block_size g q.sites (lent g q) b x in
    let z : at + s + blocks_size g q.sites (lent g q) (suc b) (take k xs) ≡ at + (s + blocks_size g q.sites (lent g q) (suc b) (take k xs)) = omega arith in
    label_at g q (at + s) (suc b) k xs (omega arith) ∙ ap Some z

pub functions_stand : FunctionsStand
functions_stand = record {
  stand = stand;
  first_place = λ g sites n. omega arith;
  next_place = λ g sites n b k y h. let r = next_inst g sites n b 0 k k (get_or g.blocks b no_block).insts (get_or g.blocks b no_block).term y (omega arith) h in omega arith;
  labels = λ g q at b l.
      let z : at + entry_size g (lent g q) + blocks_size g q.sites (lent g q) 0 (take b g.blocks) ≡ at + place_offset g q.sites (lent g q) b 0 = omega arith in
      label_at g q (at + entry_size g (lent g q)) 0 b g.blocks l ∙ ap Some z;
}
