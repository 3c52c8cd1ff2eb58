-- The frame of a function by numbers is its frame by names.
use Rattle.std.proofs.Common.{◌≡◌, ℕ, ◌+◌, ◌*◌, List, [], ◌∷◌, map, length, refl, ap, suc}
use Rattle.std.proofs.lemmas.List.{length-map}
use Rattle.ir_model.specs.Plain.{PlainBinding, PlainFunc, regs_of}
use Rattle.ir_model.specs.Layout.{Known, shape, Shape}
use Rattle.ir_model.specs.Frames as frames
use Rattle.ir_model.specs.Resolve.{Scope, resolved_func}
use Rattle.code_model.specs.FramePlaces as named
use Rattle.code_model.specs.FrameShape.{locals_size, starts_from, local_size}
use Rattle.code_model.specs.Laws.{FramesAgree}

sizes_agree : (ks : List Known) (ls : List PlainBinding) → locals_size (map (λ (l : PlainBinding). shape ks l.ty) ls) ≡ frames.locals_size ks ls
sizes_agree ks [] = refl
sizes_agree ks (l ∷ ls) = ap (λ n. frames.local_size ks l + n) (sizes_agree ks ls)

starts_agree : (ks : List Known) (n : ℕ) (ls : List PlainBinding) → starts_from n (map (λ (l : PlainBinding). shape ks l.ty) ls) ≡ named.offsets_from ks n ls
starts_agree ks n [] = refl
starts_agree ks n (l ∷ ls) = ap (λ ns. n ∷ ns) (starts_agree ks (n + frames.local_size ks l) ls)

registers_agree : (s : Scope) (f : PlainFunc) → length (resolved_func s f).regs ≡ length (regs_of f)
registers_agree s f = length-map (regs_of f) (λ (r : PlainBinding). r.ty)

pub frames_agree : FramesAgree
frames_agree = record {
  size = λ s f. rw (registers_agree s f, sizes_agree s.known f.locals) refl;
  starts = λ s f. rw (registers_agree s f) (starts_agree s.known (4 * length (regs_of f)) f.locals);
}

pub starts_length : (n : ℕ) (ss : List Shape) → length (starts_from n ss) ≡ length ss
starts_length n [] = refl
starts_length n (s ∷ ss) = ap (λ k. suc k) (starts_length (n + local_size s) ss)
