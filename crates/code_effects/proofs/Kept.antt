-- Memory outside of a range stays.
use Rattle.std.proofs.Common.{◌≡◌, ◌≤◌, ◌+◌, ◌⊎◌, ℕ, List, length, ⊎_elim, refl, ◌∙◌, arith}
use Rattle.base_words.specs.Bytes.{read, write}
use Rattle.base_words.proofs.Bytes.{length-write, read_below, read_above}

pub record Kept (lo hi : ℕ) (old new : List ℕ) : Type 0 where
  pub reads : (w a : ℕ) → (a + w ≤ lo) ⊎ (hi ≤ a) → read w a new ≡ read w a old
  pub as_long : length new ≡ length old

pub kept_none : (lo hi : ℕ) (m : List ℕ) → Kept lo hi m m
kept_none lo hi m = record { reads = λ w a h. refl; as_long = refl }

pub kept_write : (lo hi : ℕ) (m n : List ℕ) (w a v : ℕ) → Kept lo hi m n → lo ≤ a → a + w ≤ hi → Kept lo hi m (write w a v n)
kept_write lo hi m n w a v k l h = record {
  reads = λ u c g. ⊎_elim (λ x. read_below u c w a v n (omega arith)) (λ x. read_above u c w a v n (omega arith)) g ∙ k.reads u c g;
  as_long = length-write w a v n ∙ k.as_long;
}
