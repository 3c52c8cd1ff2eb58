-- Where places stand in a function that was looked up in its program: the cells of structs do not matter.
use Rattle.std.proofs.Common.{◌≡◌, ◌<◌, ℕ, Option, List, [], length, map, get_or, count_by, is_some, ap, sym, ◌∙◌, arith}
use Rattle.std.proofs.lemmas.List.{length-map}
use Rattle.ir_model.specs.Resolved.{NumberedFunc, func_at}
use Rattle.ir_program.specs.declared.program.Routine.{Routine}
use Rattle.ir_program.specs.declared.program.Program.{Program}
use Rattle.ir_program.specs.Parts.{routine_of}
use Rattle.ir_program.specs.Seen.{program_of, known_of}
use Rattle.code_model.specs.declared.places.CallSite.{CallSite}
use Rattle.code_model.specs.FrameShape.{local_starts}
use Rattle.code_model.specs.Places.{lends_among}
use Rattle.code_model.specs.Sizes.{place_offset, site_offset}
use Rattle.code_model.proofs.Lends.{lent_counted}
use Rattle.code_offsets.specs.declared.walk.Reached.{Reached}
use Rattle.code_offsets.specs.Walks.{IsReached}
use Rattle.code_offsets.proofs.Bare.{same_place_offset, same_site_offset}
use Rattle.image_entries.specs.declared.numbers.Numbers.{Numbers}
use Rattle.image_entries.specs.Grouped.{HasEachLend}
use Rattle.image_entries.specs.Recorded.{offset_with}
use Rattle.image_entries.specs.Walked.{IsReachedIn}
use Rattle.image_entries.proofs.Routines.{func_is}

-- a function, its sites, and how many of its locals are lent
pub record IsLookedUp (p : Program) (x : Numbers) (k : ℕ) (r : Routine) (ss : List CallSite) (n : ℕ) : Type 0 where
  pub func : func_at (program_of p) k ≡ routine_of (known_of p) r
  pub sites : ss ≡ get_or x.sites k []
  pub lent : n ≡ length (lends_among (local_starts (func_at (program_of p) k)) (get_or x.lends k []))

pub looked_up : (p : Program) (x : Numbers) (k : ℕ) (r : Routine) (ss : List CallSite) (ns : List (Option ℕ)) (n : ℕ) →
    HasEachLend (program_of p) x → k < length p.funcs → r ≡ get_or p.funcs k r → ss ≡ get_or x.sites k [] → ns ≡ get_or x.lends k [] →
    n ≡ count_by is_some ns → IsLookedUp p x k r ss n
looked_up p x k r ss ns n each l is these those count =
    let there : k < length (map (routine_of (known_of p)) p.funcs) = omega (arith, l, length-map p.funcs (routine_of (known_of p))) in
    let g = func_at (program_of p) k in
    let lends : List (Option ℕ) = get_or x.lends k [] in
    record {
      func = func_is p k r l is;
      sites = these;
      lent = count ∙ ap (λ ms. count_by is_some ms) those ∙ lent_counted g lends (each k there);
    }

module _ (p : Program) (x : Numbers) (k : ℕ) (r : Routine) (ss : List CallSite) (n : ℕ) (is : IsLookedUp p x k r ss n) where
  abbrev g : NumberedFunc
  g = func_at (program_of p) k

  abbrev sites : List CallSite
  sites = get_or x.sites k []

  abbrev lent : ℕ
  lent = length (lends_among (local_starts g) (get_or x.lends k []))

  same_place : (b i : ℕ) → place_offset (routine_of [] r) ss n b i ≡ place_offset g sites lent b i
  same_place b i =
      sym (same_place_offset (known_of p) r ss n b i)
      ∙ ap (λ (f : NumberedFunc). place_offset f ss n b i) (sym is.func)
      ∙ ap (λ zs. place_offset g zs n b i) is.sites
      ∙ ap (λ m. place_offset g sites m b i) is.lent

  pub same_site : (b i : ℕ) → site_offset (routine_of [] r) ss n b i ≡ offset_with (program_of p) x k b i
  same_site b i =
      sym (same_site_offset (known_of p) r ss n b i)
      ∙ ap (λ (f : NumberedFunc). site_offset f ss n b i) (sym is.func)
      ∙ ap (λ zs. site_offset g zs n b i) is.sites
      ∙ ap (λ m. site_offset g sites m b i) is.lent

  pub reached_bare : (w : Reached) → IsReachedIn (program_of p) x k w → IsReached (routine_of [] r) ss n w
  reached_bare w h = record { offset = h.offset ∙ sym (same_place w.block w.place) }

  pub reached_there : (w : Reached) → IsReached (routine_of [] r) ss n w → IsReachedIn (program_of p) x k w
  reached_there w h = record { offset = h.offset ∙ same_place w.block w.place }
