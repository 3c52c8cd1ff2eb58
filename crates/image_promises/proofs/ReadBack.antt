-- The flash of a planned image, read back: its page, the words of its tables, and the code of its compartments.
use Rattle.std.proofs.Common.{◌≡◌, ◌≢◌, ℕ, zero, suc, ◌+◌, ◌-◌, ◌*◌, ◌%◌, ◌<◌, ◌≤◌, inl, inr, List, [], ◌∷◌, length, get_or, replicate, refl, sym, ap, ◌∙◌, subst, lit<, arith}
use Rattle.std.specs.Prelude.{slice_index}
use Rattle.std.proofs.lemmas.List.FromFn.{get_or-map-range_with_len}
use Rattle.std.proofs.lemmas.List.{length-replicate}
use mathlib.Core.Logic.{⊎_elim}
use Rattle.base_words.specs.Bytes.{read, write, write_all, cut, AreBytes}
use Rattle.base_words.proofs.Bytes.{length-write_all, byte_apart_all, read_alike, read_all, AreBytes-write}
use Rattle.ir_model.specs.Resolved.{Program}
use Rattle.ir_model.specs.Resolve.{resolve}
use Rattle.plan_model.specs.declared.plan.Sizes.{Sizes}
use Rattle.plan_model.specs.declared.plan.Plan.{Plan}
use Rattle.plan_model.specs.Placement.{compartment_spot, flash_used}
use Rattle.code_model.specs.Laws.{CompartmentsHold}
use Rattle.code_model.specs.CompartmentCode.{compartment_size, compartment_items, compartment_labels}
use Rattle.code_model.specs.Planned.{code_groups, code_places, planned_code}
use Rattle.monitor_program.specs.CodeSize.{PagesAreFull}
use Rattle.monitor_model.specs.Layout.{head_at}
use Rattle.monitor_model.specs.Area.{area}
use Rattle.monitor_program.specs.Page.{page}
use Rattle.monitor_model.specs.declared.tables.Tables.{Tables}
use Rattle.image_model.specs.Laws.{CountsAgree}
use Rattle.image_model.specs.LinkedTables.{tables_of}
use Rattle.image_model.specs.LinkedImage.{erased, with_tables, linked}
use Rattle.image_promises.specs.Planned.{planned_tables}
use Rattle.plan.specs.PlannedFirmwares.{planned_sizes, plan}
use Rattle.image_promises.proofs.PlannedPremises.{PlannedPremises, image_flash_of, code_offset_of}
use Rattle.image_promises.proofs.FlashBack.{IsOff, puts, puts_off, puts_in, in_all}
use Rattle.image_promises.proofs.FlashParts.{code_ends, tables_end, code_count, code_size_is, tables_size_is, size_is}
use Rattle.image_promises.proofs.AreaSize.{area_size}
use Rattle.image_promises.proofs.Facts.{PlanLaws, laid, code_blocks_count, tables_block_is, code_block_is}
use Rattle.machine_thumb_asm.proofs.Decoded.{total_bytes}

-- ---- lengths of code

-- ---- bytes

written_bytes : (w a : ℕ) (vs mem : List ℕ) → AreBytes mem → AreBytes (write_all w a vs mem)
unfolding write_all
written_bytes w a [] mem h = h
written_bytes w a (v ∷ vs) mem h = written_bytes w (a + w) vs (write w a v mem) (AreBytes-write w a v mem h)

put_bytes : (at : ℕ → ℕ) (bytes : ℕ → List ℕ) (lo n : ℕ) (mem : List ℕ) → AreBytes mem → AreBytes (puts at bytes lo n mem)
put_bytes at bytes lo zero mem h = h
put_bytes at bytes lo (suc n) mem h = put_bytes at bytes (lo + 1) n (write_all 1 (at lo) (bytes lo) mem) (written_bytes 1 (at lo) (bytes lo) mem h)

ones_are_bytes : (n : ℕ) → AreBytes (replicate n 0xFF)
ones_are_bytes zero i = lit< tt
ones_are_bytes (suc n) zero = lit< tt
ones_are_bytes (suc n) (suc i) = ones_are_bytes n i

-- what else is known
pub record ReadLaws : Type 0 where
  pub plans : PlanLaws
  pub code : CompartmentsHold
  pub counts : CountsAgree
  pub pages : PagesAreFull

module _ (law : ReadLaws) (planned : PlannedPremises) where
  open planned use {firmware as w, needs as n, final as f, board as b}

  abbrev p : Program
  p = resolve w

  abbrev s : Sizes
  s = planned_sizes w n f b

  abbrev l : Plan
  l = plan w n f b

  abbrev t : Tables
  t = planned_tables w n f b

  abbrev blank : List ℕ
  blank = erased (flash_used l)

  abbrev tabled : List ℕ
  tabled = with_tables b.flash_base t blank

  flash_is : image_flash_of planned ≡ puts (code_offset_of planned) (planned_code p n f l) 0 f.groups.count tabled
  unfolding linked
  flash_is = refl

  pub flash_bytes : AreBytes (image_flash_of planned)
  flash_bytes =
      subst AreBytes (sym flash_is)
      (put_bytes (code_offset_of planned) (planned_code p n f l) 0 f.groups.count tabled
      (written_bytes 4 (head_at t - b.flash_base) (area t) _ (written_bytes 1 (t.base - b.flash_base) (page t) blank (ones_are_bytes (flash_used l)))))

  tabled_length : length tabled ≡ flash_used l
  tabled_length =
      length-write_all 4 (head_at t - b.flash_base) (area t) _
      ∙ (length-write_all 1 (t.base - b.flash_base) (page t) blank ∙ length-replicate (flash_used l) 0xFF)

  pub code_length : (c : ℕ) → c < f.groups.count → length (planned_code p n f l c) ≡ compartment_size p (code_groups p n f.groups) c
  code_length c lt = total_bytes (compartment_labels p (code_groups p n f.groups) (code_places p n f l) c) _ (compartment_items p (code_groups p n f.groups) (code_places p n f l) c) ∙ law.code.sizes p (code_groups p n f.groups) (code_places p n f l) c

  -- the code of a compartment has room in its block
  pub code_fits : (c : ℕ) → c < f.groups.count → length (planned_code p n f l c) ≤ (compartment_spot l c).size
  code_fits c lt =
      let m = code_blocks_count law.plans planned in
      let k = code_length c lt in
      let g : get_or s.code c 0 ≡ compartment_size p (code_groups p n f.groups) c = get_or-map-range_with_len (compartment_size p (code_groups p n f.groups)) 0 f.groups.count c c 0 lt (omega arith) in
      let h = (code_block_is law.plans planned c (omega (arith, lt, m))).1 in
      let z = code_size_is p f s b c (omega (arith, lt, m)) in
      omega (arith, k, g, h, z)

  listed : (c : ℕ) → c < f.groups.count → c < length l.code
  listed c lt = let m = code_blocks_count law.plans planned in let e = code_count p f s b in omega (arith, lt, m, e)

  -- the tables' block has what was written there first
  tables_byte : (j : ℕ) → j < l.tables.size → slice_index (image_flash_of planned) j ≡ slice_index tabled j
  tables_byte j lt =
      ap (λ m. slice_index m j) flash_is
      ∙ puts_off (code_offset_of planned) (planned_code p n f l) 0 f.groups.count tabled j (λ c u v. off c (listed c (omega (arith, v))))
    where
      off : (c : ℕ) → c < length l.code → IsOff (code_offset_of planned c) (length (planned_code p n f l c)) j
      off c v =
          let x = laid law.plans planned in
          let first = x.vectors in
          let from = (x.inside c v).0 in
          ⊎_elim (λ e. inl (omega (arith, e, first, lt, from))) (λ e. inl (absurd (empty c v e))) (x.tables_apart c v)
        where
          empty : (c : ℕ) → c < length l.code → (compartment_spot l c).base + (compartment_spot l c).size ≤ l.tables.base → ⊥
          empty c v e =
              let x = laid law.plans planned in
              let first = x.vectors in
              let from = (x.inside c v).0 in
              let m = code_count p f s b in
              let z = code_size_is p f s b c (omega (arith, v, m)) in
              let q = (code_block_is law.plans planned c (omega (arith, v, m))).0 in
              let r = q.3 in
              let k = Rattle.std.proofs.Common.pow_pos q.0 in
              omega (arith, e, first, from, z, r, k)

  -- ---- the tables' block

  -- the tables' block stands at the beginning of flash
  pub tables_at_base : t.base ≡ b.flash_base
  unfolding tables_of
  tables_at_base = (laid law.plans planned).vectors

  area_fits : 4096 + 4 * length (area t) ≤ l.tables.size
  area_fits =
      let a = area_size law.counts p n f l b in
      let h = (tables_block_is law.plans planned).1 in
      let e = tables_size_is p f s b in
      omega (arith, a, h, e)

  tables_inside : l.tables.size ≤ flash_used l
  tables_inside = let e = tables_end p f s b in let z = size_is p f s b in omega (arith, e, z)

  pub page_byte : (k : ℕ) → k < 4096 → slice_index (image_flash_of planned) k ≡ slice_index (page t) k % 256
  page_byte k lt =
      let full = law.pages t in
      let fits = area_fits in
      let room = tables_inside in
      let base = tables_at_base in
      let size : length blank ≡ flash_used l = length-replicate (flash_used l) 0xFF in
      let paged : List ℕ = write_all 1 (t.base - b.flash_base) (page t) blank in
      let there : t.base - b.flash_base ≡ 0 = omega (arith, base) in
      let a : slice_index (image_flash_of planned) k ≡ slice_index tabled k = tables_byte k (omega (arith, lt, fits)) in
      let c : slice_index tabled k ≡ slice_index paged k = byte_apart_all 4 (head_at t - b.flash_base) (area t) paged k (λ j u e. absurd (omega (arith, e, base, lt))) in
      let d : slice_index paged (t.base - b.flash_base + k) % 256 ≡ slice_index (page t) k % 256 =
      in_all (t.base - b.flash_base) (page t) blank k (omega (arith, lt, full)) (omega (arith, there, full, fits, room, size)) in
      let same : t.base - b.flash_base + k ≡ k = omega (arith, there) in
      let small = flash_bytes k in
      let whole : slice_index (image_flash_of planned) k ≡ slice_index (image_flash_of planned) k % 256 = omega (arith, small) in
      whole ∙ (ap (λ x. x % 256) (a ∙ c) ∙ subst (λ j. slice_index paged j % 256 ≡ slice_index (page t) k % 256) same d)

  -- words of the tables, by their numbers
  pub area_word : (k : ℕ) → k < length (area t) → read 4 (4096 + 4 * k) (image_flash_of planned) ≡ cut 4 (slice_index (area t) k)
  area_word k lt =
      let fits = area_fits in
      let room = tables_inside in
      let base = tables_at_base in
      let size : length blank ≡ flash_used l = length-replicate (flash_used l) 0xFF in
      let paged : List ℕ = write_all 1 (t.base - b.flash_base) (page t) blank in
      let long : length paged ≡ length blank = length-write_all 1 (t.base - b.flash_base) (page t) blank in
      let a : read 4 (4096 + 4 * k) (image_flash_of planned) ≡ read 4 (4096 + 4 * k) tabled = read_alike 4 (4096 + 4 * k) (image_flash_of planned) tabled (λ i u. tables_byte (4096 + 4 * k + i) (omega (arith, u, lt, fits))) in
      let there : head_at t - b.flash_base ≡ 4096 = omega (arith, base) in
      let c = read_all 4 (head_at t - b.flash_base) (area t) paged k lt (omega (arith, there, fits, room, size, long)) in
      a ∙ subst (λ o. read 4 (o + 4 * k) tabled ≡ cut 4 (slice_index (area t) k)) there c

  -- ---- code

  pub code_byte : (c k : ℕ) → c < f.groups.count → k < length (planned_code p n f l c) → slice_index (image_flash_of planned) (code_offset_of planned c + k) ≡ slice_index (planned_code p n f l c) k % 256
  code_byte c k lt u =
      let x = laid law.plans planned in
      let from = (x.inside c (listed c lt)).0 in
      let h = code_fits c lt in
      let room = ends c (listed c lt) in
      let long = tabled_length in
      let small = flash_bytes (code_offset_of planned c + k) in
      let whole : slice_index (image_flash_of planned) (code_offset_of planned c + k) ≡ slice_index (image_flash_of planned) (code_offset_of planned c + k) % 256 = omega (arith, small) in
      whole ∙ (ap (λ m. slice_index m (code_offset_of planned c + k) % 256) flash_is
      ∙ puts_in (code_offset_of planned) (planned_code p n f l) 0 f.groups.count tabled c k (omega arith) (omega (arith, lt)) u (omega (arith, room, long, h, from)) (λ d ne v. off d ne (omega (arith, v))))
    where
      ends : (c : ℕ) → c < length l.code → (compartment_spot l c).base - b.flash_base + (compartment_spot l c).size ≤ flash_used l
      ends c v =
          let from = ((laid law.plans planned).inside c v).0 in
          let m = code_count p f s b in
          let e = code_ends p f s b c (omega (arith, v, m)) in
          let z = size_is p f s b in
          omega (arith, from, e, z)

      off : (d : ℕ) → d ≢ c → d < f.groups.count → IsOff (code_offset_of planned d) (length (planned_code p n f l d)) (code_offset_of planned c + k)
      off d ne v =
          let x = laid law.plans planned in
          let h = code_fits c lt in
          let g = code_fits d v in
          let from = (x.inside c (listed c lt)).0 in
          let low = (x.inside d (listed d v)).0 in
          ⊎_elim (λ e. inr (omega (arith, e, g, from, low))) (λ e. inl (omega (arith, e, h, u, from, low))) (x.apart d c (listed d v) (listed c lt) ne)
