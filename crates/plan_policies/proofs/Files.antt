-- The functions of files, file by file.
use Rattle.std.proofs.Common.{◌≡◌, ℕ, ◌+◌, ◌<◌, List, [], ◌∷◌, ◌++◌, length, get_or, take, drop, map, flat_map, replicate, ap, ◌∙◌, refl, sym, suc, add-one, append_assoc}
use Rattle.std.proofs.lemmas.List.{map-append, map_more, flat_map_more, drop_more, length-map}
use Rattle.ir_model.specs.declared.firmware.Func.{Func}
use Rattle.ir_model.specs.declared.firmware.FileDecl.{FileDecl}
use Rattle.ir_model.specs.Plain.{PlainFile, PlainFunc, file_of, func_of}
use Rattle.ir_model.specs.Resolve.{files_from}

names_of_funcs : (fs : List Func) → map (λ (f : PlainFunc). f.name) (map func_of fs) ≡ map (λ (f : Func). f.name) fs
names_of_funcs [] = refl
names_of_funcs (f ∷ fs) = ap (λ ns. f.name ∷ ns) (names_of_funcs fs)

-- the names of the functions of the files so far
pub names_more : (fs : List FileDecl) (i : ℕ) (d : FileDecl) (before after : List (List ℕ)) → i < length fs
    → before ≡ map (λ (f : PlainFunc). f.name) (flat_map (λ (f : PlainFile). f.funcs) (map file_of (take i fs)))
    → after ≡ before ++ map (λ (f : Func). f.name) (get_or fs i d).funcs
    → after ≡ map (λ (f : PlainFunc). f.name) (flat_map (λ (f : PlainFile). f.funcs) (map file_of (take (i + 1) fs)))
names_more fs i d before after l b a =
    let names = λ (all : List PlainFunc). map (λ (f : PlainFunc). f.name) all in
    let so_far : List PlainFunc = flat_map (λ (f : PlainFile). f.funcs) (map file_of (take i fs)) in
    let more : List PlainFunc = map func_of (get_or fs i d).funcs in
    let joined : so_far ++ more ≡ flat_map (λ (f : PlainFile). f.funcs) (map file_of (take (i + 1) fs)) =
    flat_map_more (λ (f : PlainFile). f.funcs) [] (map file_of (take i fs)) (file_of (get_or fs i d)) ∙ ap (flat_map (λ (f : PlainFile). f.funcs)) (sym (map_more file_of fs i d l)) in
    a ∙ (ap (λ ns. ns ++ map (λ (f : Func). f.name) (get_or fs i d).funcs) b ∙ (ap (λ ns. names so_far ++ ns) (sym (names_of_funcs (get_or fs i d).funcs)) ∙ (sym (map-append (λ (f : PlainFunc). f.name) so_far more) ∙ ap names joined)))

-- the files of the functions so far, with those that are left
pub numbers_more : (fs : List FileDecl) (i : ℕ) (d : FileDecl) (before after all : List ℕ) (file : ℕ) → i < length fs → file ≡ i
    → before ++ files_from i (map file_of (drop i fs)) ≡ all
    → after ≡ before ++ replicate (length (get_or fs i d).funcs) file
    → after ++ files_from (i + 1) (map file_of (drop (i + 1) fs)) ≡ all
numbers_more fs i d before after all file l same b a =
    let mine : List ℕ = replicate (length (get_or fs i d).funcs) i in
    let rest : List ℕ = files_from (i + 1) (map file_of (drop (i + 1) fs)) in
    let opened : files_from i (map file_of (drop i fs)) ≡ mine ++ rest =
    ap (λ xs. files_from i (map file_of xs)) (drop_more fs i d l)
    ∙ (ap (λ n. replicate n i ++ files_from (suc i) (map file_of (drop (i + 1) fs))) (length-map (get_or fs i d).funcs func_of) ∙ ap (λ k. mine ++ files_from k (map file_of (drop (i + 1) fs))) (sym (add-one i))) in
    ap (λ ns. ns ++ rest) (a ∙ ap (λ k. before ++ replicate (length (get_or fs i d).funcs) k) same) ∙ (append_assoc before mine rest ∙ (ap (λ ns. before ++ ns) (sym opened) ∙ b))
