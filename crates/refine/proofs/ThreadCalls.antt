-- Calls, direct and by a register, within a compartment and across: up to behind the callee's entry.
use Rattle.std.proofs.Common.{◌≡◌, ℕ, zero, suc, ◌+◌, ◌*◌, ◌<◌, List, [], ◌∷◌, length, map, get_or, arith}
use Rattle.base_words.specs.Bytes.{read, cut}
use Rattle.base_words.proofs.Bytes.{read_fits, cut_small}

-- these words of a frame
abbrev pub frame_words : (o : ℕ) (ram : List ℕ) → List ℕ → List ℕ
frame_words o ram args = map (λ (a : ℕ). read 4 (o + 4 * a) ram) args

-- they are words
pub frame_words_fit : (o : ℕ) (ram : List ℕ) (args : List ℕ) (k : ℕ) → k < length (frame_words o ram args) → cut 4 (get_or (frame_words o ram args) k 0) ≡ get_or (frame_words o ram args) k 0
frame_words_fit o ram [] k l = absurd (omega arith)
frame_words_fit o ram (a ∷ more) zero l = cut_small 4 (read 4 (o + 4 * a) ram) (read_fits 4 (o + 4 * a) ram)
frame_words_fit o ram (a ∷ more) (suc k) l = frame_words_fit o ram more k (omega arith)
