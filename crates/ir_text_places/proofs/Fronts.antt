-- The first items of a list, and the items behind them, as the code holds them.
use Rattle.std.proofs.Common.{◌≡◌, ◌<◌, ◌+◌, ℕ, zero, suc, List, [], ◌∷◌, length, map, take, drop, get_or, sym, ap, ◌∙◌, arith, Bor}
use Rattle.std.specs.List.{sum_by}
use Rattle.std.proofs.lemmas.List.{take-map}
use Rattle.ir_model.specs.declared.firmware.Func.{Func}
use Rattle.ir_model.specs.declared.firmware.StructDecl.{StructDecl}
use Rattle.ir_model.specs.Plain.{func_of, struct_of, names_of, binding_of, lent_funcs}
use Rattle.ir_model.specs.Resolve.{labels_of}
use Rattle.ir_text_places.specs.Faulty.{first_fields, first_labels}
use Rattle.ir_text_places.specs.Sizes.{block_size, front_size, place_start, code_start}

pub sum_front : {A B : Type 0} (size : B → ℕ) (f : A → B) (k : ℕ) (xs : List A) → sum_by size (take k (map f xs)) ≡ sum_by size (map f (take k xs))
sum_front size f k xs = ap (sum_by size) (take-map f k xs)

-- the item at a number is the first of those from it on
drop_at : {A B : Type 0} (f : A → B) (xs : List A) (k : ℕ) (x : A) → k < length xs → x ≡ get_or xs k x → drop k (map f xs) ≡ f x ∷ drop (suc k) (map f xs)
drop_at f [] k x l e = absurd (omega arith)
drop_at f (y ∷ ys) zero x l e = ap (λ z. f z ∷ map f ys) (sym e)
drop_at f (y ∷ ys) (suc k) x l e = drop_at f ys k x (omega arith) e

pub code_of : (fs : List (Bor Func)) (k b i : ℕ) (f : Bor Func) → k < length fs → f ≡ get_or fs k f
    → code_start b i (drop k (lent_funcs fs)) ≡ front_size (func_of f.now) + (sum_by block_size (take b (func_of f.now).blocks) + place_start i (drop b (func_of f.now).blocks))
code_of fs k b i f l e = ap (code_start b i) (drop_at (λ (f : Bor Func). func_of f.now) fs k f l e)

pub labels_at : (fs : List (Bor Func)) (k : ℕ) (f : Bor Func) → k < length fs → f ≡ get_or fs k f → first_labels (drop k (lent_funcs fs)) ≡ labels_of (func_of (get_or fs k f).now)
labels_at fs k f l e = ap first_labels (drop_at (λ (f : Bor Func). func_of f.now) fs k f l e) ∙ ap (λ (g : Bor Func). labels_of (func_of g.now)) e

pub fields_at : (ss : List StructDecl) (k : ℕ) (s : StructDecl) → k < length ss → s ≡ get_or ss k s → first_fields (drop k (map struct_of ss)) ≡ names_of (map binding_of (get_or ss k s).fields)
fields_at ss k s l e = ap first_fields (drop_at struct_of ss k s l e) ∙ ap (λ (d : StructDecl). names_of (map binding_of d.fields)) e
