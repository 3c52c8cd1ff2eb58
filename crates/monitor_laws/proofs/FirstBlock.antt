-- The monitor's block as start-up leaves it.
use Rattle.std.proofs.Common.{◌≡◌, ℕ, ◌+◌, ◌-◌, ◌^◌, ◌<◌, ◌≤◌, ◌⊎◌, inl, inr, ⊎_elim, List, length, ap, ◌∙◌, arith}
use Rattle.base_words.specs.Bytes.{read, write}
use Rattle.base_words.proofs.Bytes.{read_below, read_above, length-write}
use Rattle.machine_devices.specs.declared.image.Image.{Image}
use Rattle.monitor_steps.proofs.Gives.{word_same, word_apart}
use Rattle.monitor_model.specs.declared.tables.Tables.{Tables}
use Rattle.monitor_model.specs.Records.{stack_end}
use Rattle.monitor_model.specs.Block.{first_block}
use Rattle.monitor_model.specs.BlockWords.{IsBlock}
use Rattle.monitor_laws.proofs.ResetList.{with_block}

pub block_length : (b c p : ℕ) (m : List ℕ) → length (with_block b c p m) ≡ length m
block_length b c p m =
    length-write 4 (b + 16) 0 (write 4 (b + 12) 0 (write 4 (b + 8) 0 (write 4 (b + 4) p (write 4 b c m))))
    ∙ length-write 4 (b + 12) 0 (write 4 (b + 8) 0 (write 4 (b + 4) p (write 4 b c m)))
    ∙ length-write 4 (b + 8) 0 (write 4 (b + 4) p (write 4 b c m))
    ∙ length-write 4 (b + 4) p (write 4 b c m)
    ∙ length-write 4 b c m

-- outside of it all is as it was
outside_one : (w o a v : ℕ) (m : List ℕ) → (o + w ≤ a) ⊎ (a + 4 ≤ o) → read w o (write 4 a v m) ≡ read w o m
outside_one w o a v m h = ⊎_elim (λ x. read_below w o 4 a v m x) (λ x. read_above w o 4 a v m x) h

pub block_outside : (w o b c p : ℕ) (m : List ℕ) → (o + w ≤ b) ⊎ (b + 1024 ≤ o) → read w o (with_block b c p m) ≡ read w o m
block_outside w o b c p m h =
    outside_one w o (b + 16) 0 (write 4 (b + 12) 0 (write 4 (b + 8) 0 (write 4 (b + 4) p (write 4 b c m)))) (off 16 (omega arith))
    ∙ outside_one w o (b + 12) 0 (write 4 (b + 8) 0 (write 4 (b + 4) p (write 4 b c m))) (off 12 (omega arith))
    ∙ outside_one w o (b + 8) 0 (write 4 (b + 4) p (write 4 b c m)) (off 8 (omega arith))
    ∙ outside_one w o (b + 4) p (write 4 b c m) (off 4 (omega arith))
    ∙ outside_one w o b c m (⊎_elim (λ x. inl x) (λ x. inr (omega (arith, x))) h)
  where
    off : (d : ℕ) → d ≤ 16 → (o + w ≤ b + d) ⊎ (b + d + 4 ≤ o)
    off d le = ⊎_elim (λ x. inl (omega (arith, x))) (λ x. inr (omega (arith, x, le))) h

module _ (b c p : ℕ) (m : List ℕ) (room : b + 20 ≤ length m) (c_word : c < 2 ^ 32) (p_word : p < 2 ^ 32) where
  abbrev m1 : List ℕ
  m1 = write 4 b c m

  abbrev m2 : List ℕ
  m2 = write 4 (b + 4) p m1

  abbrev m3 : List ℕ
  m3 = write 4 (b + 8) 0 m2

  abbrev m4 : List ℕ
  m4 = write 4 (b + 12) 0 m3

  l1 : length m1 ≡ length m
  l1 = length-write 4 b c m

  l2 : length m2 ≡ length m
  l2 = length-write 4 (b + 4) p m1 ∙ l1

  l3 : length m3 ≡ length m
  l3 = length-write 4 (b + 8) 0 m2 ∙ l2

  l4 : length m4 ≡ length m
  l4 = length-write 4 (b + 12) 0 m3 ∙ l3

  pub current_is : read 4 (b + 0) (with_block b c p m) ≡ c
  current_is =
      ap (λ a. read 4 a (with_block b c p m)) (let e : b + 0 ≡ b = omega arith in e)
      ∙ word_apart b (b + 16) 0 m4 (inl (omega arith)) ∙ word_apart b (b + 12) 0 m3 (inl (omega arith)) ∙ word_apart b (b + 8) 0 m2 (inl (omega arith)) ∙ word_apart b (b + 4) p m1 (inl (omega arith))
      ∙ word_same b c m (omega (arith, room)) c_word

  pub top_is : read 4 (b + 4) (with_block b c p m) ≡ p
  top_is =
      word_apart (b + 4) (b + 16) 0 m4 (inl (omega arith)) ∙ word_apart (b + 4) (b + 12) 0 m3 (inl (omega arith)) ∙ word_apart (b + 4) (b + 8) 0 m2 (inl (omega arith))
      ∙ word_same (b + 4) p m1 (let l = l1 in omega (arith, room, l)) p_word

  pub depth_is : read 4 (b + 8) (with_block b c p m) ≡ 0
  depth_is =
      word_apart (b + 8) (b + 16) 0 m4 (inl (omega arith)) ∙ word_apart (b + 8) (b + 12) 0 m3 (inl (omega arith))
      ∙ word_same (b + 8) 0 m2 (let l = l2 in omega (arith, room, l)) (omega arith)

  pub loans_is : read 4 (b + 12) (with_block b c p m) ≡ 0
  loans_is = word_apart (b + 12) (b + 16) 0 m4 (inl (omega arith)) ∙ word_same (b + 12) 0 m3 (let l = l3 in omega (arith, room, l)) (omega arith)

  pub mark_is : read 4 (b + 16) (with_block b c p m) ≡ 0
  mark_is = word_same (b + 16) 0 m4 (let l = l4 in omega (arith, room, l)) (omega arith)

-- as the relation of the block asks for it
pub first_is_block : (i : Image) (t : Tables) (m : List ℕ) → t.monitor - i.ram_base + 20 ≤ length m → t.main_comp < 2 ^ 32 → stack_end t < 2 ^ 32 →
    IsBlock i t (with_block (t.monitor - i.ram_base) t.main_comp (stack_end t) m) (first_block t)
first_is_block i t m room c p =
    let b : ℕ = t.monitor - i.ram_base in
    record {
      current_is = current_is b t.main_comp (stack_end t) m room c p;
      top_is = top_is b t.main_comp (stack_end t) m room c p;
      depth_is = depth_is b t.main_comp (stack_end t) m room c p;
      loan_count_is = loans_is b t.main_comp (stack_end t) m room c p;
      mark_is = mark_is b t.main_comp (stack_end t) m room c p;
      has_saved = tt;
      has_loans = tt;
    }
