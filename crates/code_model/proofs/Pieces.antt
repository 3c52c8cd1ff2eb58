-- The code of a place stands in the function's code at the place's offset.
use Rattle.std.proofs.Common.{◌≡◌, ℕ, zero, suc, ◌+◌, ◌-◌, ◌<◌, ◌≤◌, List, [], ◌∷◌, ◌++◌, length, take, get_or, flat_map, Some, refl, sym, ap, ◌∙◌, arith, append_assoc}
use Rattle.std.proofs.lemmas.List.Concat.{flat_map-append}
use Rattle.machine_thumb_asm.specs.declared.item.Item.{Item}
use Rattle.machine_thumb_asm.specs.declared.item.Item.TheVariants.{Half}
use Rattle.machine_thumb_asm.specs.Assembly.{total}
use Rattle.ir_model.specs.Resolved.{NumberedInst, NumberedTerm, NumberedBlock, NumberedFunc, Here, Does, Ends, Const, Move, Bin, Cmp, Addr, FAddr, Elem, Field, Load, Store, Call, ICall, here_in, no_block}
use Rattle.ir_model.specs.Signatures.{here_of}
use Rattle.code_model.specs.declared.places.Places.{Places}
use Rattle.code_model.specs.Places.{entry_address, site_in, crosses}
use Rattle.code_model.specs.Words.{plain, save_code}
use Rattle.code_model.specs.Calls.{cross_code, icross_code}
use Rattle.code_model.specs.Templates.{entry_items, inst_items, term_items}
use Rattle.code_model.specs.Sizes.{inst_size, insts_size, block_size, blocks_size, entry_size, place_offset, resume_size, site_offset}
use Rattle.code_model.specs.FunctionCode.{lent, here_items, block_pieces, blocks_pieces, function_items}
use Rattle.code_model.specs.Laws.{StandsAt, IsCall, PiecesStand}
use Rattle.code_model.proofs.PieceSizes.{cross_total, icross_total, inst_total, entry_total}
use Rattle.code_model.proofs.FunctionSizes.{block_total}
use Rattle.machine_thumb_asm.proofs.Items.{total-append}

pub behind_it : (front whole piece : List Item) (n m : ℕ) → total front + n ≡ m → StandsAt whole n piece → StandsAt (front ++ whole) m piece
behind_it front whole piece n m e s =
    record {
      front = front ++ s.front;
      rest = s.rest;
      parts = rw s.parts (sym (append_assoc front s.front (piece ++ s.rest)));
      behind = let t = total-append front s.front in let b = s.behind in omega arith;
    }

pub before_it : (whole behind piece : List Item) (n : ℕ) → StandsAt whole n piece → StandsAt (whole ++ behind) n piece
before_it whole behind piece n s =
    record {
      front = s.front;
      rest = s.rest ++ behind;
      parts = rw s.parts (append_assoc s.front (piece ++ s.rest) behind ∙ ap (λ xs. s.front ++ xs) (append_assoc piece s.rest behind));
      behind = s.behind;
    }

pub at_front : (piece rest : List Item) → StandsAt (piece ++ rest) 0 piece
at_front piece rest = record { front = []; rest = rest; parts = refl; behind = refl }

module _ (g : NumberedFunc) (q : Places) (first : ℕ) where
  in_block : (at b k j : ℕ) (is : List NumberedInst) (t : NumberedTerm) (a m : ℕ) → j ≤ length is → a ≡ at + insts_size g q.sites (lent g q) b k (take j is) → m ≡ k + j →
      StandsAt (flat_map (λ (p : List Item). p) (block_pieces g q first at b k is t)) (insts_size g q.sites (lent g q) b k (take j is)) (here_items g q first a b m (here_in is t j))
  in_block at b k zero [] t a m h e d = at_front (term_items g q first t) []
  in_block at b k (suc j) [] t a m h e d = absurd (omega arith)
  in_block at b k zero (i ∷ is) t a m h e d =
      let c : a ≡ at = omega arith in
      let f : m ≡ k = omega arith in
      rw (c, f) (at_front (inst_items g q at (site_in q.sites b k) i) _)
  in_block at b k (suc j) (i ∷ is) t a m h e d =
      let next : ℕ = at + inst_size (crosses q.sites b k) i in
      let s = in_block next b (suc k) j is t a m (omega arith) (omega arith) (omega arith) in
      let n = inst_total g q at (site_in q.sites b k) i in
      behind_it (inst_items g q at (site_in q.sites b k) i) (flat_map (λ (p : List Item). p) (block_pieces g q first next b (suc k) is t)) (here_items g q first a b m (here_in is t j))
      (insts_size g q.sites (lent g q) b (suc k) (take j is)) _ (omega arith) s

  in_blocks : (at b i k : ℕ) (xs : List NumberedBlock) (a m n : ℕ) → i < length xs → k ≤ length (get_or xs i no_block).insts → m ≡ b + i →
      n ≡ blocks_size g q.sites (lent g q) b (take i xs) + insts_size g q.sites (lent g q) m 0 (take k (get_or xs i no_block).insts) → a ≡ at + n →
      StandsAt (flat_map (λ (p : List Item). p) (blocks_pieces g q first at b xs)) n (here_items g q first a m k (here_in (get_or xs i no_block).insts (get_or xs i no_block).term k))
  in_blocks at b i k [] a m n h l d e c = absurd (omega arith)
  in_blocks at b zero k (x ∷ xs) a m n h l d e c =
      let f : m ≡ b + 0 = d in
      let z : m ≡ b = omega arith in
      let here : List (List Item) = block_pieces g q first at b 0 x.insts x.term in
      let rest : List (List Item) = blocks_pieces g q first (at + block_size g q.sites (lent g q) b x) (suc b) xs in
      let v : n ≡ insts_size g q.sites (lent g q) b 0 (take k x.insts) = (let e2 = rw z at e in omega arith) in
      let s = in_block at b 0 k x.insts x.term a k l (rw v at c) (omega arith) in
      rw (z, v, flat_map-append (λ (p : List Item). p) here rest) (before_it _ _ _ _ s)
  in_blocks at b (suc i) k (x ∷ xs) a m n h l d e c =
      let next : ℕ = at + block_size g q.sites (lent g q) b x in
      let here : List (List Item) = block_pieces g q first at b 0 x.insts x.term in
      let rest : List (List Item) = blocks_pieces g q first next (suc b) xs in
      let u = block_total g q first at b 0 x.insts x.term in
      let y : ℕ = blocks_size g q.sites (lent g q) (suc b) (take i xs) + insts_size g q.sites (lent g q) m 0 (take k (get_or xs i no_block).insts) in
      let s = in_blocks next (suc b) i k xs a m y (omega arith) l (omega arith) refl (omega arith) in
      rw (flat_map-append (λ (p : List Item). p) here rest) (behind_it (flat_map (λ (p : List Item). p) here) (flat_map (λ (p : List Item). p) rest) _ y n (omega arith) s)

at_places : (g : NumberedFunc) (q : Places) (first at b k : ℕ) → b < length g.blocks → k ≤ length (get_or g.blocks b no_block).insts →
    StandsAt (function_items g q first at) (place_offset g q.sites (lent g q) b k) (here_items g q first (at + place_offset g q.sites (lent g q) b k) b k (here_of g b k))
at_places g q first at b k h l =
    let from : ℕ = at + entry_size g (lent g q) in
    let y : ℕ = blocks_size g q.sites (lent g q) 0 (take b g.blocks) + insts_size g q.sites (lent g q) b 0 (take k (get_or g.blocks b no_block).insts) in
    let s = in_blocks g q first from 0 b k g.blocks (at + place_offset g q.sites (lent g q) b k) b y h l (omega arith) refl (omega arith) in
    let e = entry_total g q in
    behind_it (entry_items g q) (flat_map (λ (p : List Item). p) (blocks_pieces g q first from 0 g.blocks)) _ y (place_offset g q.sites (lent g q) b k) (omega arith) s

-- a part of a piece stands behind the parts before it
pub within : (whole xs ys zs : List Item) (n m : ℕ) → total xs + n ≡ m → StandsAt whole n (xs ++ (ys ++ zs)) → StandsAt whole m ys
within whole xs ys zs n m e s =
    record {
      front = s.front ++ xs;
      rest = zs ++ s.rest;
      parts = s.parts ∙ (ap (λ l. s.front ++ l) (append_assoc xs (ys ++ zs) s.rest ∙ ap (λ l. xs ++ l) (append_assoc ys zs s.rest)) ∙ sym (append_assoc s.front xs (ys ++ (zs ++ s.rest))));
      behind = let t = total-append s.front xs in let b = s.behind in omega arith;
    }

site_of_call : (g : NumberedFunc) (q : Places) (whole : List Item) (first at b k s n : ℕ) (h : Here) → IsCall h → site_in q.sites b k ≡ Some s →
    StandsAt whole n (here_items g q first at b k h) → StandsAt whole (n + resume_size (crosses q.sites b k) h - 2) (Half s ∷ [])
unfolding inst_items
site_of_call g q whole first at b k s n (Does (Const to v)) c e p = absurd c
site_of_call g q whole first at b k s n (Does (Move to from)) c e p = absurd c
site_of_call g q whole first at b k s n (Does (Bin op to x y)) c e p = absurd c
site_of_call g q whole first at b k s n (Does (Cmp op to x y)) c e p = absurd c
site_of_call g q whole first at b k s n (Does (Addr to of)) c e p = absurd c
site_of_call g q whole first at b k s n (Does (FAddr to f)) c e p = absurd c
site_of_call g q whole first at b k s n (Does (Elem to base index size)) c e p = absurd c
site_of_call g q whole first at b k s n (Does (Field to base offset)) c e p = absurd c
site_of_call g q whole first at b k s n (Does (Load to from t)) c e p = absurd c
site_of_call g q whole first at b k s n (Does (Store to from t)) c e p = absurd c
site_of_call g q whole first at b k s n (Does (Call to f as_)) c e p =
    let x : List Item = plain (cross_code (entry_address q f) as_) in
    let y : List Item = plain (save_code to) in
    let t = cross_total (entry_address q f) as_ in
    let v : StandsAt whole n (x ++ ((Half s ∷ []) ++ y)) = rw e at p in
    rw e (within whole x (Half s ∷ []) y n _ (omega arith) v)
site_of_call g q whole first at b k s n (Does (ICall to h as_)) c e p =
    let x : List Item = plain (icross_code h as_) in
    let y : List Item = plain (save_code to) in
    let t = icross_total h as_ in
    let v : StandsAt whole n (x ++ ((Half s ∷ []) ++ y)) = rw e at p in
    rw e (within whole x (Half s ∷ []) y n _ (omega arith) v)
site_of_call g q whole first at b k s n (Ends t) c e p = absurd c

at_sites : (g : NumberedFunc) (q : Places) (first at b k s : ℕ) → b < length g.blocks → k ≤ length (get_or g.blocks b no_block).insts →
    IsCall (here_of g b k) → site_in q.sites b k ≡ Some s → StandsAt (function_items g q first at) (site_offset g q.sites (lent g q) b k) (Half s ∷ [])
at_sites g q first at b k s h l c e =
    site_of_call g q (function_items g q first at) first (at + place_offset g q.sites (lent g q) b k) b k s (place_offset g q.sites (lent g q) b k) (here_of g b k) c e (at_places g q first at b k h l)

pub pieces_stand : PiecesStand
pieces_stand = record { entries = λ g q first at. at_front (entry_items g q) _; places = at_places; sites = at_sites }
