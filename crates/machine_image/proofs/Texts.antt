-- Bytes without a fault are the text of the image that they spell, and the text of an image has no fault and spells it.
use Rattle.std.proofs.Common.{◌≡◌, ℕ, ◌+◌, ◌-◌, ◌%◌, ◌^◌, ◌<◌, ◌≤◌, ◌⊎◌, inl, inr, Bool, List, [], ◌++◌, length, drop, None, refl, sym, ap, ◌∙◌, subst, arith, append-nil, append_assoc, length-drop}
use Rattle.std.specs.List.{slice_range, flat_map}
use Rattle.std.proofs.lemmas.Bool.Decides.{Decides-eqb, Decides-or}
use Rattle.std.proofs.lemmas.List.{drop_all}
use Rattle.std.proofs.lemmas.List.Edits.{length-between}
use Rattle.std.proofs.lemmas.List.Folds.{drop_split}
use Rattle.std.proofs.lemmas.Slice.Eq.{bytes_eq-Decides}
use Rattle.machine_devices.specs.declared.image.Image.{Image}
use Rattle.machine_devices.specs.declared.image.Window.{Window}
use Rattle.base_ranges.specs.Ranges.{IsInside}
use Rattle.base_ranges.proofs.Decisions.{decides_order}
use Rattle.machine_devices.specs.Rules.{ObeysRules, IsStack, IsMonitor, window_limit, block_size, memory_limit, last_flash_base, least_flash, first_ram_base, last_ram_base, least_ram, ram_unit}
use Rattle.machine_image.specs.Text.{magic, version, word_bytes, protection_bytes, window_bytes, header_bytes, image_bytes, IsText}
use Rattle.machine_image.specs.Parts.{number, regions, closed, windows_from, behind_windows, windows_place, flash_place, spelled_image}
use Rattle.machine_image.specs.Faults.{first_of, first_fault, start_checks, magic_check, version_check, memory_checks, place_checks, count_checks, protection_checks, windows_checks, flash_checks, end_check}
use Rattle.machine_image.proofs.Steps.{first_of-pass_all}
use Rattle.machine_image.proofs.Passing.{AllPass-from_first_of, first_of-from_AllPass, first_of-none_in, room, whole-none, kept, rule-none}
use Rattle.machine_image.proofs.Decisions.{Decides-is_flash_base, Decides-is_flash_length, Decides-is_ram_base, Decides-is_ram_size, Decides-is_monitor, KeepsStackRule, stack_rule, stack_tests}
use Rattle.machine_image.proofs.Bytes.{AreBytes, word_at, begins, begins_word}
use Rattle.machine_image.proofs.Protection.{protects, protects_rule, Protected, protected, small_version}
use Rattle.machine_image.proofs.Rows.{AreWindows-from_checks, length-windows_from, windows_spelled, found}

-- the bytes of an image, field by field
image_parts : (i : Image) → image_bytes i ≡ magic ++ (word_bytes (version i.regions i.closed) ++ (word_bytes i.flash_base ++ (word_bytes (length i.flash) ++ (word_bytes i.ram_base ++ (word_bytes i.ram_size ++ (word_bytes i.monitor ++ (word_bytes i.stack_base ++ (word_bytes i.stack_size ++ (word_bytes (length i.windows) ++ (protection_bytes i.regions i.closed ++ (flat_map window_bytes i.windows ++ i.flash)))))))))))
unfolding image_bytes word_bytes
image_parts i =
    append_assoc (header_bytes i ++ protection_bytes i.regions i.closed) (flat_map window_bytes i.windows) i.flash
    ∙ append_assoc (header_bytes i) (protection_bytes i.regions i.closed) (flat_map window_bytes i.windows ++ i.flash)

-- all checks of a file find nothing
record Faultless (b : List ℕ) : Type 0 where
  start : first_of (start_checks b) ≡ None
  memories : first_of (memory_checks b) ≡ None
  places : first_of (place_checks b) ≡ None
  count : first_of (count_checks b) ≡ None
  protection : first_of (protection_checks b) ≡ None
  windows : first_of (windows_checks b (windows_place b) [] (number b 36)) ≡ None
  flash : first_of (flash_checks b (flash_place b)) ≡ None

faultless : (b : List ℕ) → first_fault b ≡ None → Faultless b
unfolding first_fault
faultless b h =
    let s = first_of-none_in (start_checks b) _ h in
    let m = first_of-none_in (memory_checks b) _ s.1 in
    let p = first_of-none_in (place_checks b) _ m.1 in
    let c = first_of-none_in (count_checks b) _ p.1 in
    let k = first_of-none_in (protection_checks b) _ c.1 in
    let w = first_of-none_in (windows_checks b (windows_place b) [] (number b 36)) _ k.1 in
    record { start = s.0; memories = m.0; places = p.0; count = c.0; protection = k.0; windows = w.0; flash = w.1 }

first_fault-none : (b : List ℕ) → Faultless b → first_fault b ≡ None
unfolding first_fault
first_fault-none b h =
    first_of-pass_all (start_checks b) _ h.start
    ∙ (first_of-pass_all (memory_checks b) _ h.memories
    ∙ (first_of-pass_all (place_checks b) _ h.places
    ∙ (first_of-pass_all (count_checks b) _ h.count
    ∙ (first_of-pass_all (protection_checks b) _ h.protection
    ∙ (first_of-pass_all (windows_checks b (windows_place b) [] (number b 36)) _ h.windows
    ∙ h.flash)))))

-- what the checks of each part say

record Starts (b : List ℕ) : Type 0 where
  letters : slice_range b 0 4 ≡ magic
  edition : (number b 4 ≡ 1) ⊎ (number b 4 ≡ 2)

starts : (b : List ℕ) → first_of (start_checks b) ≡ None → Starts b
unfolding start_checks magic_check version_check
starts b h =
    let p = AllPass-from_first_of (start_checks b) h in
    record {
      letters = (bytes_eq-Decides (slice_range b 0 4) magic).0 (let q = p.1.0 in grind arith);
      edition = (Decides-or _ _ (Decides-eqb (number b 4) 1) (Decides-eqb (number b 4) 2)).0 (let q = p.1.1.1.0 in grind arith);
    }

starts-none : (b : List ℕ) → 8 ≤ length b → Starts b → first_of (start_checks b) ≡ None
unfolding start_checks magic_check version_check
starts-none b long s =
    let l = (bytes_eq-Decides (slice_range b 0 4) magic).1 s.letters in
    let v = (Decides-or _ _ (Decides-eqb (number b 4) 1) (Decides-eqb (number b 4) 2)).1 s.edition in
    first_of-from_AllPass (start_checks b) (whole-none b 0 4 (omega arith), (rw l refl, (whole-none b 4 4 (omega arith), (rw v refl, tt))))

record Memories (flash_base flash_length ram_base ram_size : ℕ) : Type 0 where
  flash_start : (flash_base % memory_limit ≡ 0) × (flash_base ≤ last_flash_base)
  flash_bytes : (least_flash ≤ flash_length) × ((flash_length ≤ memory_limit) × (flash_length % 4 ≡ 0))
  ram_start : (ram_base % memory_limit ≡ 0) × ((first_ram_base ≤ ram_base) × (ram_base ≤ last_ram_base))
  ram_bytes : (ram_size % ram_unit ≡ 0) × ((least_ram ≤ ram_size) × (ram_size ≤ memory_limit))

memories : (b : List ℕ) → first_of (memory_checks b) ≡ None → Memories (number b 8) (number b 12) (number b 16) (number b 20)
unfolding memory_checks
memories b h =
    let p = AllPass-from_first_of (memory_checks b) h in
    record {
      flash_start = (Decides-is_flash_base (number b 8)).0 (kept _ 8 p.1.0);
      flash_bytes = (Decides-is_flash_length (number b 12)).0 (kept _ 12 p.1.1.1.0);
      ram_start = (Decides-is_ram_base (number b 16)).0 (kept _ 16 p.1.1.1.1.1.0);
      ram_bytes = (Decides-is_ram_size (number b 20)).0 (kept _ 20 p.1.1.1.1.1.1.1.0);
    }

memories-none : (b : List ℕ) → 24 ≤ length b → Memories (number b 8) (number b 12) (number b 16) (number b 20) → first_of (memory_checks b) ≡ None
unfolding memory_checks
memories-none b long m =
    first_of-from_AllPass (memory_checks b) (
      whole-none b 8 4 (omega arith),
      (
        rule-none _ 8 ((Decides-is_flash_base (number b 8)).1 m.flash_start),
        (
          whole-none b 12 4 (omega arith),
          (
            rule-none _ 12 ((Decides-is_flash_length (number b 12)).1 m.flash_bytes),
            (
              whole-none b 16 4 (omega arith),
              (
                rule-none _ 16 ((Decides-is_ram_base (number b 16)).1 m.ram_start),
                (whole-none b 20 4 (omega arith), (rule-none _ 20 ((Decides-is_ram_size (number b 20)).1 m.ram_bytes), tt)),
              ),
            ),
          ),
        ),
      ),
    )

record Places (monitor stack_base stack_size ram_base ram_size : ℕ) : Type 0 where
  block : (monitor ≡ 0) ⊎ ((monitor % block_size ≡ 0) × IsInside monitor block_size ram_base ram_size)
  stack : KeepsStackRule stack_base stack_size ram_base ram_size

places : (b : List ℕ) → first_of (place_checks b) ≡ None → Places (number b 24) (number b 28) (number b 32) (number b 16) (number b 20)
unfolding place_checks
places b h =
    let p = AllPass-from_first_of (place_checks b) h in
    record {
      block = (Decides-is_monitor (number b 24) (number b 16) (number b 20)).0 (kept _ 24 p.1.0);
      stack = stack_rule (number b 28) (number b 32) (number b 16) (number b 20) (kept _ 32 p.1.1.1.1.0) (kept _ 28 p.1.1.1.1.1.0);
    }

places-none : (b : List ℕ) → 36 ≤ length b → Places (number b 24) (number b 28) (number b 32) (number b 16) (number b 20) → first_of (place_checks b) ≡ None
unfolding place_checks
places-none b long p =
    let stack = stack_tests (number b 28) (number b 32) (number b 16) (number b 20) p.stack in
    first_of-from_AllPass (place_checks b) (
      whole-none b 24 4 (omega arith),
      (
        rule-none _ 24 ((Decides-is_monitor (number b 24) (number b 16) (number b 20)).1 p.block),
        (
          whole-none b 28 4 (omega arith),
          (
            whole-none b 32 4 (omega arith),
            (rule-none _ 32 stack.0, (rule-none _ 28 stack.1, tt)),
          ),
        ),
      ),
    )

count : (b : List ℕ) → first_of (count_checks b) ≡ None → (40 ≤ length b) × (number b 36 ≤ window_limit)
unfolding count_checks
count b h =
    let p = AllPass-from_first_of (count_checks b) h in
    (room b 36 4 p.0, (decides_order (number b 36) window_limit).0 (kept _ 36 p.1.0))

count-none : (b : List ℕ) → 40 ≤ length b → number b 36 ≤ window_limit → first_of (count_checks b) ≡ None
unfolding count_checks
count-none b long h =
    first_of-from_AllPass (count_checks b) (whole-none b 36 4 long, (rule-none _ 36 ((decides_order (number b 36) window_limit).1 h), tt))

flash : (b : List ℕ) (at : ℕ) → first_of (flash_checks b at) ≡ None → length b ≡ at + number b 12
unfolding flash_checks end_check
flash b at h =
    let p = AllPass-from_first_of (flash_checks b at) h in
    (Decides-eqb (length b) (at + number b 12)).0 (let q = p.1.0 in grind arith)

flash-none : (b : List ℕ) (at : ℕ) → length b ≡ at + number b 12 → first_of (flash_checks b at) ≡ None
unfolding flash_checks end_check
flash-none b at h =
    let t = (Decides-eqb (length b) (at + number b 12)).1 h in
    first_of-from_AllPass (flash_checks b at) (whole-none b at (number b 12) (omega arith), (rw t refl, tt))

-- the bytes of the image that faultless bytes spell are those bytes

word_step : (b : List ℕ) (at n next : ℕ) (t : List ℕ) → AreBytes b → at + 4 ≤ length b → number b at ≡ n → at + 4 ≡ next → drop next b ≡ t → drop at b ≡ word_bytes n ++ t
word_step b at n next t bytes long value e rest =
    word_at b at bytes long
    ∙ (ap (λ k. word_bytes k ++ drop (at + 4) b) value
    ∙ ap (λ xs. word_bytes n ++ xs) (ap (λ k. drop k b) e ∙ rest))

flash_step : (b : List ℕ) (at n : ℕ) → length b ≡ at + n → drop at b ≡ slice_range b at (at + n)
flash_step b at n h =
    let ordered : at ≤ at + n = omega arith in
    let last : length b ≤ at + n = omega arith in
    drop_split b at (at + n) ordered ∙ (ap (λ xs. slice_range b at (at + n) ++ xs) (drop_all (at + n) b last) ∙ append-nil (slice_range b at (at + n)))

spelled_parts : (b : List ℕ) → AreBytes b → Faultless b → b ≡ magic ++ (word_bytes (version (regions b) (closed b)) ++ (word_bytes (number b 8) ++ (word_bytes (number b 12) ++ (word_bytes (number b 16) ++ (word_bytes (number b 20) ++ (word_bytes (number b 24) ++ (word_bytes (number b 28) ++ (word_bytes (number b 32) ++ (word_bytes (number b 36) ++ (protection_bytes (regions b) (closed b) ++ (flat_map window_bytes (windows_from b (windows_place b) (number b 36)) ++ slice_range b (flash_place b) (flash_place b + number b 12))))))))))))
spelled_parts b bytes h =
    let s = starts b h.start in
    let long = (count b h.count).0 in
    let told = protects b bytes s.edition h.protection in
    let windows = windows_spelled (number b 36) b (windows_place b) [] bytes h.windows ∙ ap (λ xs. flat_map window_bytes (windows_from b (windows_place b) (number b 36)) ++ xs) (flash_step b (flash_place b) (number b 12) (flash b (flash_place b) h.flash)) in
    let tail = told.bytes ∙ ap (λ xs. protection_bytes (regions b) (closed b) ++ xs) windows in
    drop_split b 0 4 (omega arith)
    ∙ (ap (λ xs. xs ++ drop 4 b) s.letters
    ∙ ap (λ xs. magic ++ xs)
    (word_step b 4 (version (regions b) (closed b)) 8 _ bytes (omega arith) (sym told.edition) refl
    (word_step b 8 (number b 8) 12 _ bytes (omega arith) refl refl
    (word_step b 12 (number b 12) 16 _ bytes (omega arith) refl refl
    (word_step b 16 (number b 16) 20 _ bytes (omega arith) refl refl
    (word_step b 20 (number b 20) 24 _ bytes (omega arith) refl refl
    (word_step b 24 (number b 24) 28 _ bytes (omega arith) refl refl
    (word_step b 28 (number b 28) 32 _ bytes (omega arith) refl refl
    (word_step b 32 (number b 32) 36 _ bytes (omega arith) refl refl
    (word_step b 36 (number b 36) 40 _ bytes (omega arith) refl refl tail))))))))))

spelled_flash_length : (b : List ℕ) → Faultless b → length (slice_range b (flash_place b) (flash_place b + number b 12)) ≡ number b 12
spelled_flash_length b h =
    let e = flash b (flash_place b) h.flash in
    let within : flash_place b + number b 12 ≤ length b = omega arith in
    length-between b (flash_place b) (flash_place b + number b 12) within ∙ (let d : flash_place b + number b 12 - flash_place b ≡ number b 12 = omega arith in d)

spelled_rules : (b : List ℕ) → Faultless b → ObeysRules (spelled_image b)
unfolding spelled_image
spelled_rules b h =
    let m = memories b h.memories in
    let p = places b h.places in
    let c = (count b h.count).1 in
    let w = AreWindows-from_checks (number b 36) b (windows_place b) [] h.windows in
    let long = spelled_flash_length b h in
    let many = length-windows_from (number b 36) b (windows_place b) in
    record {
      flash_aligned = m.flash_start.0;
      flash_highest = m.flash_start.1;
      flash_least = subst (λ (n : ℕ). least_flash ≤ n) (sym long) m.flash_bytes.0;
      flash_most = subst (λ (n : ℕ). n ≤ memory_limit) (sym long) m.flash_bytes.1.0;
      flash_words = ap (λ n. n % 4) long ∙ m.flash_bytes.1.1;
      ram_aligned = m.ram_start.0;
      ram_lowest = m.ram_start.1.0;
      ram_highest = m.ram_start.1.1;
      ram_least = m.ram_bytes.1.0;
      ram_most = m.ram_bytes.1.1;
      ram_blocks = m.ram_bytes.0;
      monitor = p.block;
      regions = protects_rule b (starts b h.start).edition h.protection;
      stack = is_stack b p.stack;
      count = subst (λ (n : ℕ). n ≤ window_limit) (sym many) c;
      windows = w.0;
    }
  where
    is_stack : (b : List ℕ) → KeepsStackRule (number b 28) (number b 32) (number b 16) (number b 20) → (((spelled_image b).stack_base ≡ 0) × ((spelled_image b).stack_size ≡ 0)) ⊎ IsStack (spelled_image b)
    is_stack b (inl none) = inl none
    is_stack b (inr stack) = inr (record { size = stack.0; aligned = stack.1.0; place = stack.1.1 })

-- bytes without a fault are the text of the image that they spell
pub spelled_is_text : (b : List ℕ) → AreBytes b → first_fault b ≡ None → IsText (spelled_image b) b
unfolding spelled_image
spelled_is_text b bytes none =
    let h = faultless b none in
    record {
      rules = spelled_rules b h;
      spelled =
          image_parts (spelled_image b)
          ∙ (ap (λ n. spelling n (length (windows_from b (windows_place b) (number b 36)))) (spelled_flash_length b h)
          ∙ (ap (λ n. spelling (number b 12) n) (length-windows_from (number b 36) b (windows_place b))
          ∙ sym (spelled_parts b bytes h)));
    }
  where
    spelling : (flash_length windows : ℕ) → List ℕ
    spelling n k = magic ++ (word_bytes (version (regions b) (closed b)) ++ (word_bytes (number b 8) ++ (word_bytes n ++ (word_bytes (number b 16) ++ (word_bytes (number b 20) ++ (word_bytes (number b 24) ++ (word_bytes (number b 28) ++ (word_bytes (number b 32) ++ (word_bytes k ++ (protection_bytes (regions b) (closed b) ++ (flat_map window_bytes (windows_from b (windows_place b) (number b 36)) ++ slice_range b (flash_place b) (flash_place b + number b 12))))))))))))

-- the numbers of an image that obeys the rules are words
record Fits (i : Image) : Type 0 where
  flash_base : i.flash_base < 2 ^ 32
  flash_length : length i.flash < 2 ^ 32
  ram_base : i.ram_base < 2 ^ 32
  ram_size : i.ram_size < 2 ^ 32
  monitor : i.monitor < 2 ^ 32
  stack_base : i.stack_base < 2 ^ 32
  stack_size : i.stack_size < 2 ^ 32
  windows : length i.windows < 2 ^ 32

fits : (i : Image) → ObeysRules i → Fits i
fits i r = record {
  flash_base = let h = r.flash_highest in omega arith;
  flash_length = let h = r.flash_most in omega arith;
  ram_base = let h = r.ram_highest in omega arith;
  ram_size = let h = r.ram_most in omega arith;
  monitor = small_block r.monitor;
  stack_base = small_base r.stack;
  stack_size = small_size r.stack;
  windows = let h = r.count in omega arith;
}
  where
    small_block : IsMonitor i → i.monitor < 2 ^ 32
    small_block (inl none) = omega arith
    small_block (inr block) = let p = block.1.1 in let h = r.ram_highest in let k = r.ram_most in omega arith

    small_base : ((i.stack_base ≡ 0) × (i.stack_size ≡ 0)) ⊎ IsStack i → i.stack_base < 2 ^ 32
    small_base (inl none) = let h = none.0 in omega arith
    small_base (inr stack) = let p = stack.place.1 in let h = r.ram_highest in let k = r.ram_most in omega arith

    small_size : ((i.stack_base ≡ 0) × (i.stack_size ≡ 0)) ⊎ IsStack i → i.stack_size < 2 ^ 32
    small_size (inl none) = let h = none.1 in omega arith
    small_size (inr stack) = let p = stack.place.1 in let h = r.ram_highest in let k = r.ram_most in omega arith

-- what the text of an image has at each offset
record Spelled (i : Image) (b : List ℕ) : Type 0 where
  letters : slice_range b 0 4 ≡ magic
  edition : number b 4 ≡ version i.regions i.closed
  flash_base : number b 8 ≡ i.flash_base
  flash_length : number b 12 ≡ length i.flash
  ram_base : number b 16 ≡ i.ram_base
  ram_size : number b 20 ≡ i.ram_size
  monitor : number b 24 ≡ i.monitor
  stack_base : number b 28 ≡ i.stack_base
  stack_size : number b 32 ≡ i.stack_size
  count : number b 36 ≡ length i.windows
  within : 40 ≤ length b
  behind : drop 40 b ≡ protection_bytes i.regions i.closed ++ (flat_map window_bytes i.windows ++ i.flash)

spelled : (i : Image) (b : List ℕ) → IsText i b → Spelled i b
spelled i b h =
    let f = fits i h.rules in
    let e : drop 0 b ≡ magic ++ _ = sym h.spelled ∙ image_parts i in
    let f0 = begins b 0 magic _ (omega arith) e in
    let f4 = begins_word b 4 (version i.regions i.closed) _ (small_version i.regions i.closed) f0.within f0.behind in
    let f8 = begins_word b 8 i.flash_base _ f.flash_base f4.within f4.behind in
    let f12 = begins_word b 12 (length i.flash) _ f.flash_length f8.within f8.behind in
    let f16 = begins_word b 16 i.ram_base _ f.ram_base f12.within f12.behind in
    let f20 = begins_word b 20 i.ram_size _ f.ram_size f16.within f16.behind in
    let f24 = begins_word b 24 i.monitor _ f.monitor f20.within f20.behind in
    let f28 = begins_word b 28 i.stack_base _ f.stack_base f24.within f24.behind in
    let f32 = begins_word b 32 i.stack_size _ f.stack_size f28.within f28.behind in
    let f36 = begins_word b 36 (length i.windows) _ f.windows f32.within f32.behind in
    record {
      letters = f0.part;
      edition = f4.value;
      flash_base = f8.value;
      flash_length = f12.value;
      ram_base = f16.value;
      ram_size = f20.value;
      monitor = f24.value;
      stack_base = f28.value;
      stack_size = f32.value;
      count = f36.value;
      within = f36.within;
      behind = f36.behind;
    }

image_of : (flash_base : ℕ) (flash : List ℕ) (ram_base ram_size monitor stack_base stack_size regions : ℕ) (closed : Bool) (windows : List Window) → Image
image_of a b c d e f g r k h = record { flash_base = a; flash = b; ram_base = c; ram_size = d; monitor = e; stack_base = f; stack_size = g; regions = r; closed = k; windows = h }

same_image : (v w : Image) → v.flash_base ≡ w.flash_base → v.flash ≡ w.flash → v.ram_base ≡ w.ram_base → v.ram_size ≡ w.ram_size → v.monitor ≡ w.monitor → v.stack_base ≡ w.stack_base → v.stack_size ≡ w.stack_size → v.regions ≡ w.regions → v.closed ≡ w.closed → v.windows ≡ w.windows → v ≡ w
unfolding image_of
same_image v w a b c d e f g r k h =
    ap (λ x. image_of x v.flash v.ram_base v.ram_size v.monitor v.stack_base v.stack_size v.regions v.closed v.windows) a
    ∙ (ap (λ x. image_of w.flash_base x v.ram_base v.ram_size v.monitor v.stack_base v.stack_size v.regions v.closed v.windows) b
    ∙ (ap (λ x. image_of w.flash_base w.flash x v.ram_size v.monitor v.stack_base v.stack_size v.regions v.closed v.windows) c
    ∙ (ap (λ x. image_of w.flash_base w.flash w.ram_base x v.monitor v.stack_base v.stack_size v.regions v.closed v.windows) d
    ∙ (ap (λ x. image_of w.flash_base w.flash w.ram_base w.ram_size x v.stack_base v.stack_size v.regions v.closed v.windows) e
    ∙ (ap (λ x. image_of w.flash_base w.flash w.ram_base w.ram_size w.monitor x v.stack_size v.regions v.closed v.windows) f
    ∙ (ap (λ x. image_of w.flash_base w.flash w.ram_base w.ram_size w.monitor w.stack_base x v.regions v.closed v.windows) g
    ∙ (ap (λ x. image_of w.flash_base w.flash w.ram_base w.ram_size w.monitor w.stack_base w.stack_size x v.closed v.windows) r
    ∙ (ap (λ x. image_of w.flash_base w.flash w.ram_base w.ram_size w.monitor w.stack_base w.stack_size w.regions x v.windows) k
    ∙ ap (λ x. image_of w.flash_base w.flash w.ram_base w.ram_size w.monitor w.stack_base w.stack_size w.regions w.closed x) h))))))))

-- the windows and the flash bytes of a text
record Tail (i : Image) (b : List ℕ) : Type 0 where
  protection : Protected b i.regions i.closed (flat_map window_bytes i.windows ++ i.flash)
  faultless_windows : first_of (windows_checks b (windows_place b) [] (number b 36)) ≡ None
  windows : windows_from b (windows_place b) (number b 36) ≡ i.windows
  flash : slice_range b (flash_place b) (flash_place b + number b 12) ≡ i.flash
  long : length b ≡ flash_place b + number b 12

tail : (i : Image) (b : List ℕ) → ObeysRules i → Spelled i b → Tail i b
tail i b r s =
    let p = protected b i.regions i.closed _ s.edition s.within r.regions s.behind in
    let f = found i.windows b (windows_place b) [] i.flash r.windows tt p.within p.behind in
    let many : length i.windows ≡ number b 36 = sym s.count in
    let place : behind_windows b (windows_place b) (length i.windows) ≡ flash_place b = ap (behind_windows b (windows_place b)) many in
    let within : flash_place b ≤ length b = subst (λ (n : ℕ). n ≤ length b) place f.within in
    let rest : drop (flash_place b) b ≡ i.flash ++ [] = ap (λ k. drop k b) (sym place) ∙ (f.behind ∙ sym (append-nil i.flash)) in
    let bytes = begins b (flash_place b) i.flash [] within rest in
    let end : drop (flash_place b + length i.flash) b ≡ [] = bytes.behind in
    let none : length b - (flash_place b + length i.flash) ≡ 0 = sym (length-drop (flash_place b + length i.flash) b) ∙ ap length end in
    let inside : flash_place b + length i.flash ≤ length b = bytes.within in
    record {
      protection = p;
      faultless_windows = ap (λ n. first_of (windows_checks b (windows_place b) [] n)) (sym many) ∙ f.faultless;
      windows = ap (windows_from b (windows_place b)) (sym many) ∙ f.windows;
      flash = ap (λ n. slice_range b (flash_place b) (flash_place b + n)) s.flash_length ∙ bytes.part;
      long = let e = s.flash_length in omega arith;
    }

text_memories : (i : Image) (b : List ℕ) → ObeysRules i → Spelled i b → Memories (number b 8) (number b 12) (number b 16) (number b 20)
text_memories i b r s = record {
  flash_start = rw s.flash_base (r.flash_aligned, r.flash_highest);
  flash_bytes = rw s.flash_length (r.flash_least, (r.flash_most, r.flash_words));
  ram_start = rw s.ram_base (r.ram_aligned, (r.ram_lowest, r.ram_highest));
  ram_bytes = rw s.ram_size (r.ram_blocks, (r.ram_least, r.ram_most));
}

text_places : (i : Image) (b : List ℕ) → ObeysRules i → Spelled i b → Places (number b 24) (number b 28) (number b 32) (number b 16) (number b 20)
text_places i b r s = record {
  block = rw (s.monitor, s.ram_base, s.ram_size) r.monitor;
  stack = rw (s.stack_base, s.stack_size, s.ram_base, s.ram_size) (stack_of r.stack);
}
  where
    stack_of : ((i.stack_base ≡ 0) × (i.stack_size ≡ 0)) ⊎ IsStack i → KeepsStackRule i.stack_base i.stack_size i.ram_base i.ram_size
    stack_of (inl none) = inl none
    stack_of (inr stack) = inr (stack.size, (stack.aligned, stack.place))

-- the text of an image has no fault
pub text_is_faultless : (i : Image) (b : List ℕ) → IsText i b → first_fault b ≡ None
text_is_faultless i b h =
    let s = spelled i b h in
    let t = tail i b h.rules s in
    let few : number b 36 ≤ window_limit = let c = h.rules.count in let e = s.count in omega arith in
    let w = s.within in
    first_fault-none b (record {
      start = starts-none b (omega arith) (record { letters = s.letters; edition = t.protection.edition });
      memories = memories-none b (omega arith) (text_memories i b h.rules s);
      places = places-none b (omega arith) (text_places i b h.rules s);
      count = count-none b w few;
      protection = t.protection.faultless;
      windows = t.faultless_windows;
      flash = flash-none b (flash_place b) t.long;
    })

-- and spells the image
pub spelled_image-text : (i : Image) (b : List ℕ) → IsText i b → spelled_image b ≡ i
unfolding spelled_image
spelled_image-text i b h =
    let s = spelled i b h in
    let t = tail i b h.rules s in
    same_image (spelled_image b) i s.flash_base t.flash s.ram_base s.ram_size s.monitor s.stack_base s.stack_size t.protection.count t.protection.shut t.windows
