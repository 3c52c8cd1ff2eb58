-- The words of a thread's frame behind what a handler writes.
use Rattle.std.proofs.Common.{◌≡◌, ℕ, zero, suc, ◌+◌, ◌-◌, ◌^◌, ◌<◌, ◌≤◌, List, [], ◌∷◌, length, get_or, set, refl, ap, ◌∙◌, arith}
use Rattle.base_words.specs.Bytes.{write, cut}
use Rattle.base_words.proofs.Bytes.{cut_small}
use Rattle.base_ranges.specs.Ranges.{AreApart}
use Rattle.machine_devices.specs.declared.image.Image.{Image}
use Rattle.machine_model.specs.declared.state.CoreRegisters.{CoreRegisters}
use Rattle.machine_model.specs.Stack.{words_at}
use Rattle.monitor_model.specs.Outcomes.{frame_in, stacked, with_stacked, moved_on}
use Rattle.monitor_sound.proofs.Memory.{words_off, words_set}
use Rattle.monitor_sound.proofs.Room.{Pushed}

module _ (i : Image) (c : CoreRegisters) (ret psp : ℕ) (memory : List ℕ) where
  -- where the frame's words stay
  pub same_frame : (other : List ℕ) → frame_in i psp other ≡ frame_in i psp memory → Pushed i c ret psp memory → Pushed i c ret psp other
  same_frame other e x = record {
    low = λ k lt. ap (λ (l : List ℕ). get_or l k 0) e ∙ x.low k lt;
    r12 = ap (λ (l : List ℕ). get_or l 4 0) e ∙ x.r12;
    link = ap (λ (l : List ℕ). get_or l 5 0) e ∙ x.link;
    return_address = ap (λ (l : List ℕ). get_or l 6 0) e ∙ x.return_address;
    status = ap (λ (l : List ℕ). get_or l 7 0) e ∙ x.status;
  }

  pub off_frame : (w a v : ℕ) → AreApart a w (psp - i.ram_base) 32 → Pushed i c ret psp memory → Pushed i c ret psp (write w a v memory)
  off_frame w a v h x = same_frame (write w a v memory) (words_off 8 (psp - i.ram_base) w a v memory h) x

  -- one word is written
  written : (k v : ℕ) → k < 8 → psp - i.ram_base + 32 ≤ length memory → frame_in i psp (with_stacked i psp k v memory) ≡ set (frame_in i psp memory) k (cut 4 v)
  written k v lt long = words_set 8 (psp - i.ram_base) k v memory lt long

  -- the return address rises
  pub moved : ret + 2 < 2 ^ 32 → psp - i.ram_base + 32 ≤ length memory → Pushed i c ret psp memory → Pushed i c (ret + 2) psp (moved_on i psp memory)
  unfolding words_at
  moved small long x =
      let e : frame_in i psp (moved_on i psp memory) ≡ set (frame_in i psp memory) 6 (cut 4 (stacked i psp memory 6 + 2)) = written 6 (stacked i psp memory 6 + 2) (omega arith) long in
      record {
        low = λ k lt. ap (λ (l : List ℕ). get_or l k 0) e ∙ low_stays k lt ∙ x.low k lt;
        r12 = ap (λ (l : List ℕ). get_or l 4 0) e ∙ x.r12;
        link = ap (λ (l : List ℕ). get_or l 5 0) e ∙ x.link;
        return_address = ap (λ (l : List ℕ). get_or l 6 0) e ∙ ap (λ (n : ℕ). cut 4 (n + 2)) x.return_address ∙ cut_small 4 (ret + 2) small;
        status = ap (λ (l : List ℕ). get_or l 7 0) e ∙ x.status;
      }
    where
      low_stays : (k : ℕ) → k < 4 → get_or (set (frame_in i psp memory) 6 (cut 4 (stacked i psp memory 6 + 2))) k 0 ≡ stacked i psp memory k
      low_stays zero lt = refl
      low_stays (suc zero) lt = refl
      low_stays (suc (suc zero)) lt = refl
      low_stays (suc (suc (suc zero))) lt = refl
      low_stays (suc (suc (suc (suc k)))) lt = absurd (omega (arith, lt))

  -- r0 is written
  pub with_first : (v : ℕ) → v < 2 ^ 32 → 0 < length c.low → psp - i.ram_base + 32 ≤ length memory → Pushed i c ret psp memory →
      Pushed i (record c { low = set c.low 0 v }) ret psp (with_stacked i psp 0 v memory)
  unfolding words_at
  with_first v small some long x =
      let e : frame_in i psp (with_stacked i psp 0 v memory) ≡ set (frame_in i psp memory) 0 (cut 4 v) = written 0 v (omega arith) long in
      record {
        low = λ k lt. ap (λ (l : List ℕ). get_or l k 0) e ∙ low_is k lt (λ n l. x.low n l);
        r12 = ap (λ (l : List ℕ). get_or l 4 0) e ∙ x.r12;
        link = ap (λ (l : List ℕ). get_or l 5 0) e ∙ x.link;
        return_address = ap (λ (l : List ℕ). get_or l 6 0) e ∙ x.return_address;
        status = ap (λ (l : List ℕ). get_or l 7 0) e ∙ x.status;
      }
    where
      first_set : (low : List ℕ) → 0 < length low → v ≡ get_or (set low 0 v) 0 0
      first_set [] h = absurd (omega (arith, h))
      first_set (y ∷ ys) h = refl

      other_set : (low : List ℕ) (k : ℕ) → get_or low (suc k) 0 ≡ get_or (set low 0 v) (suc k) 0
      other_set [] k = refl
      other_set (y ∷ ys) k = refl

      low_is : (k : ℕ) → k < 4 → ((n : ℕ) → n < 4 → stacked i psp memory n ≡ get_or c.low n 0) → get_or (set (frame_in i psp memory) 0 (cut 4 v)) k 0 ≡ get_or (set c.low 0 v) k 0
      low_is zero lt f = cut_small 4 v small ∙ first_set c.low some
      low_is (suc zero) lt f = f 1 lt ∙ other_set c.low 0
      low_is (suc (suc zero)) lt f = f 2 lt ∙ other_set c.low 1
      low_is (suc (suc (suc zero))) lt f = f 3 lt ∙ other_set c.low 2
      low_is (suc (suc (suc (suc k)))) lt f = absurd (omega (arith, lt))
