-- Where frames that wait stand, the one that called last first.
use Rattle.std.proofs.Common.{◌≡◌, ℕ, ◌+◌, ◌-◌, ◌<◌, List, [], ◌∷◌, ◌++◌, length, map, take, reverse, get_or, refl, ap, sym, subst, ◌∙◌, append_assoc}
use Rattle.std.proofs.lemmas.List.{map-append, take_more, get_or-reverse, length-reverse}
use Rattle.ir_run.specs.declared.frame.Frame.{Frame}
use Rattle.ir_run.specs.declared.reads.FramePlace.{FramePlace}
use Rattle.ir_run.specs.Acts.{frame_of}
use Rattle.ir_run.specs.Reads.{spot_of}

abbrev seen : Frame → FramePlace
seen f = spot_of (frame_of f)

seen_all : (fs : List Frame) → map spot_of (map frame_of fs) ≡ map seen fs
seen_all [] = refl
seen_all (f ∷ fs) = ap (λ ss. seen f ∷ ss) (seen_all fs)

-- one frame more
pub spot_more : (fs : List Frame) (i : ℕ) (f : Frame) (start before after : List FramePlace) (s : FramePlace) → i < length fs → f ≡ get_or fs (length fs - 1 - i) f → s ≡ spot_of (frame_of f)
    → before ≡ start ++ map spot_of (map frame_of (take i (reverse fs))) → after ≡ before ++ s ∷ []
    → after ≡ start ++ map spot_of (map frame_of (take (i + 1) (reverse fs)))
spot_more fs i f start before after s l e q b a =
    let in_reverse = subst (λ n. i < n) (sym (length-reverse fs)) l in
    let front = take i (reverse fs) in
    let more : take (i + 1) (reverse fs) ≡ front ++ f ∷ [] =
    take_more (reverse fs) i f in_reverse ∙ ap (λ g. front ++ g ∷ []) (get_or-reverse fs i f l ∙ sym e) in
    a ∙ ap (λ ss. ss ++ s ∷ []) (b ∙ ap (λ ss. start ++ ss) (seen_all front)) ∙ append_assoc start (map seen front) (s ∷ [])
    ∙ ap (λ x. start ++ (map seen front ++ x ∷ [])) q
    ∙ ap (λ ss. start ++ ss) (sym (seen_all (take (i + 1) (reverse fs)) ∙ ap (map seen) more ∙ map-append seen front (f ∷ [])))
