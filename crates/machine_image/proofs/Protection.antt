-- The fields that version 2 alone has: what their checks say of the bytes, and what the bytes of an image spell there.
use Rattle.std.proofs.Common.{◌≡◌, ℕ, ◌<◌, ◌≤◌, ◌^◌, ◌⊎◌, inl, inr, Bool, true, false, List, ◌++◌, length, drop, None, refl, sym, ap, ◌∙◌, subst, arith, append_assoc}
use Rattle.std.specs.Bool.{Decides}
use Rattle.std.specs.Prelude.{nat_eq, if◌then◌else◌}
use Rattle.std.proofs.lemmas.Bool.Decides.{Decides-eqb, Decides-and, Decides-or}
use Rattle.machine_image.specs.Text.{is_basic, version, closed_word, protection_bytes, word_bytes}
use Rattle.machine_image.specs.Parts.{number, tells_protection, regions, closed, windows_place}
use Rattle.machine_image.specs.Faults.{first_of, is_regions, is_closed_word, protection_checks}
use Rattle.machine_image.proofs.Bytes.{AreBytes, word_at, begins_word}
use Rattle.machine_image.proofs.Passing.{AllPass-from_first_of, first_of-from_AllPass, room, whole-none, kept, rule-none}

abbrev pub AreRegions : ℕ → Type 0
AreRegions r = (r ≡ 8) ⊎ (r ≡ 16)

Decides-is_regions : (n : ℕ) → Decides (is_regions n) (AreRegions n)
unfolding is_regions
Decides-is_regions n = Decides-or _ _ (Decides-eqb n 8) (Decides-eqb n 16)

Decides-is_closed_word : (n r : ℕ) → Decides (is_closed_word n r) ((n ≡ 1) ⊎ ((n ≡ 0) × (r ≡ 16)))
unfolding is_closed_word
Decides-is_closed_word n r = Decides-or _ _ (Decides-eqb n 1) (Decides-and _ _ (Decides-eqb n 0) (Decides-eqb r 16))

-- what the bytes tell of the protection unit, in each version
record Tells (b : List ℕ) (count : ℕ) (shut : Bool) (place : ℕ) : Type 0 where
  count_told : regions b ≡ count
  shut_told : closed b ≡ shut
  place_told : windows_place b ≡ place

tells_nothing : (b : List ℕ) → number b 4 ≡ 1 → Tells b 8 false 40
unfolding regions closed windows_place
tells_nothing b e =
    let none : tells_protection b ≡ false = ap (λ n. nat_eq n 2) e in
    record { count_told = rw none refl; shut_told = rw none refl; place_told = rw none refl }

tells_both : (b : List ℕ) → number b 4 ≡ 2 → Tells b (number b 40) (nat_eq (number b 44) 1) 48
unfolding regions closed windows_place
tells_both b e =
    let some : tells_protection b ≡ true = ap (λ n. nat_eq n 2) e in
    record { count_told = rw some refl; shut_told = rw some refl; place_told = rw some refl }

-- what faultless bytes spell behind the number of windows
pub record Protects (b : List ℕ) : Type 0 where
  pub edition : version (regions b) (closed b) ≡ number b 4
  pub count : AreRegions (regions b)
  pub bytes : drop 40 b ≡ protection_bytes (regions b) (closed b) ++ drop (windows_place b) b

protects_basic : (b : List ℕ) → number b 4 ≡ 1 → Protects b
unfolding version protection_bytes
protects_basic b e =
    let t = tells_nothing b e in
    record {
      edition = rw (t.count_told, t.shut_told) (sym e);
      count = inl t.count_told;
      bytes = rw (t.count_told, t.shut_told, t.place_told) refl;
    }

basic_less : (r : ℕ) (c : Bool) → is_basic r c ≡ false → version r c ≡ 2
unfolding version
basic_less r c h = rw h refl

bytes_told : (r : ℕ) (c : Bool) → is_basic r c ≡ false → protection_bytes r c ≡ word_bytes r ++ word_bytes (closed_word c)
unfolding protection_bytes
bytes_told r c h = rw h refl

words_told : (b : List ℕ) → AreBytes b → 48 ≤ length b → drop 40 b ≡ (word_bytes (number b 40) ++ word_bytes (number b 44)) ++ drop 48 b
words_told b bytes long =
    word_at b 40 bytes (omega arith)
    ∙ (ap (λ xs. word_bytes (number b 40) ++ xs) (word_at b 44 bytes long)
    ∙ sym (append_assoc (word_bytes (number b 40)) (word_bytes (number b 44)) (drop 48 b)))

protects_told : (b : List ℕ) (c : Bool) → AreBytes b → 48 ≤ length b → number b 4 ≡ 2 → AreRegions (number b 40) → number b 44 ≡ closed_word c → nat_eq (number b 44) 1 ≡ c → is_basic (number b 40) c ≡ false → Protects b
protects_told b c bytes long e count word shut more =
    let t = tells_both b e in
    let told : closed b ≡ c = t.shut_told ∙ shut in
    record {
      edition = ap (λ n. version n (closed b)) t.count_told ∙ (ap (λ x. version (number b 40) x) told ∙ (basic_less (number b 40) c more ∙ sym e));
      count = subst AreRegions (sym t.count_told) count;
      bytes =
          words_told b bytes long
          ∙ (ap (λ n. (word_bytes (number b 40) ++ word_bytes n) ++ drop 48 b) word
          ∙ (ap (λ xs. xs ++ drop 48 b) (sym (bytes_told (number b 40) c more))
          ∙ (ap (λ n. protection_bytes n c ++ drop 48 b) (sym t.count_told)
          ∙ (ap (λ x. protection_bytes (regions b) x ++ drop 48 b) (sym told)
          ∙ ap (λ k. protection_bytes (regions b) (closed b) ++ drop k b) (sym t.place_told)))));
    }

protects_second : (b : List ℕ) → AreBytes b → 48 ≤ length b → number b 4 ≡ 2 → AreRegions (number b 40) → (number b 44 ≡ 1) ⊎ ((number b 44 ≡ 0) × (number b 40 ≡ 16)) → Protects b
protects_second b bytes long e count (inl one) =
    protects_told b true bytes long e count one (ap (λ n. nat_eq n 1) one) refl
protects_second b bytes long e count (inr open_board) =
    protects_told b false bytes long e count open_board.0 (ap (λ n. nat_eq n 1) open_board.0) (ap (λ n. is_basic n false) open_board.1)

-- the checks of version 2's fields, where they are made
checks_made : (b : List ℕ) → number b 4 ≡ 2 → first_of (protection_checks b) ≡ None → (48 ≤ length b) × (AreRegions (number b 40)) × ((number b 44 ≡ 1) ⊎ ((number b 44 ≡ 0) × (number b 40 ≡ 16)))
unfolding protection_checks
checks_made b e h =
    let some : tells_protection b ≡ true = ap (λ n. nat_eq n 2) e in
    let p = AllPass-from_first_of _ (rw some at h) in (
      room b 44 4 p.1.1.0,
      (Decides-is_regions (number b 40)).0 (kept _ 40 p.1.0),
      (Decides-is_closed_word (number b 44) (number b 40)).0 (kept _ 44 p.1.1.1.0),
    )

pub protects : (b : List ℕ) → AreBytes b → (number b 4 ≡ 1) ⊎ (number b 4 ≡ 2) → first_of (protection_checks b) ≡ None → Protects b
protects b bytes (inl first) h = protects_basic b first
protects b bytes (inr second) h =
    let made = checks_made b second h in
    protects_second b bytes made.0 second made.1 made.2

pub protects_rule : (b : List ℕ) → (number b 4 ≡ 1) ⊎ (number b 4 ≡ 2) → first_of (protection_checks b) ≡ None → AreRegions (regions b)
protects_rule b (inl first) h = inl (tells_nothing b first).count_told
protects_rule b (inr second) h = subst AreRegions (sym (tells_both b second).count_told) (checks_made b second h).1

-- what the text of an image has behind the number of windows
pub record Protected (b : List ℕ) (r : ℕ) (c : Bool) (rest : List ℕ) : Type 0 where
  pub edition : (number b 4 ≡ 1) ⊎ (number b 4 ≡ 2)
  pub count : regions b ≡ r
  pub shut : closed b ≡ c
  pub faultless : first_of (protection_checks b) ≡ None
  pub within : windows_place b ≤ length b
  pub behind : drop (windows_place b) b ≡ rest

no_checks : (b : List ℕ) → number b 4 ≡ 1 → first_of (protection_checks b) ≡ None
unfolding protection_checks first_of
no_checks b e =
    let none : tells_protection b ≡ false = ap (λ n. nat_eq n 2) e in
    rw none refl

checks_pass : (b : List ℕ) → number b 4 ≡ 2 → 48 ≤ length b → is_regions (number b 40) ≡ true → is_closed_word (number b 44) (number b 40) ≡ true → first_of (protection_checks b) ≡ None
unfolding protection_checks
checks_pass b e long count word =
    let some : tells_protection b ≡ true = ap (λ n. nat_eq n 2) e in
    rw some (first_of-from_AllPass _ (whole-none b 40 4 (omega arith), (rule-none _ 40 count, (whole-none b 44 4 long, (rule-none _ 44 word, tt)))))

protected_basic : (b : List ℕ) (rest : List ℕ) → number b 4 ≡ 1 → 40 ≤ length b → drop 40 b ≡ rest → Protected b 8 false rest
protected_basic b rest e long behind =
    let t = tells_nothing b e in
    record {
      edition = inl e;
      count = t.count_told;
      shut = t.shut_told;
      faultless = no_checks b e;
      within = subst (λ (n : ℕ). n ≤ length b) (sym t.place_told) long;
      behind = ap (λ k. drop k b) t.place_told ∙ behind;
    }

protected_told : (b : List ℕ) (r : ℕ) (c : Bool) (rest : List ℕ) → number b 4 ≡ 2 → 40 ≤ length b → AreRegions r → (closed_word c ≡ 1) ⊎ ((closed_word c ≡ 0) × (r ≡ 16)) → closed_word c < 2 ^ 32 → nat_eq (closed_word c) 1 ≡ c → drop 40 b ≡ (word_bytes r ++ word_bytes (closed_word c)) ++ rest → Protected b r c rest
protected_told b r c rest e long count word small shut behind =
    let t = tells_both b e in
    let split = behind ∙ append_assoc (word_bytes r) (word_bytes (closed_word c)) rest in
    let first = begins_word b 40 r _ (few count) long split in
    let second = begins_word b 44 (closed_word c) rest small first.within first.behind in
    let within : 48 ≤ length b = second.within in
    record {
      edition = inr e;
      count = t.count_told ∙ first.value;
      shut = t.shut_told ∙ (ap (λ n. nat_eq n 1) second.value ∙ shut);
      faultless = checks_pass b e within (ap is_regions first.value ∙ (Decides-is_regions r).1 count) (ap (λ n. is_closed_word n (number b 40)) second.value ∙ (ap (λ n. is_closed_word (closed_word c) n) first.value ∙ (Decides-is_closed_word (closed_word c) r).1 word));
      within = subst (λ (n : ℕ). n ≤ length b) (sym t.place_told) within;
      behind = ap (λ k. drop k b) t.place_told ∙ second.behind;
    }
  where
    few : AreRegions r → r < 2 ^ 32
    few (inl eight) = omega arith
    few (inr sixteen) = omega arith

pub protected : (b : List ℕ) (r : ℕ) (c : Bool) (rest : List ℕ) → number b 4 ≡ version r c → 40 ≤ length b → AreRegions r → drop 40 b ≡ protection_bytes r c ++ rest → Protected b r c rest
unfolding version protection_bytes
protected b r true rest e long count behind = protected_told b r true rest e long count (inl refl) (omega arith) refl behind
protected b r false rest e long (inl eight) behind =
    subst (λ (n : ℕ). Protected b n false rest) (sym eight) (protected_basic b rest (e ∙ ap (λ n. version n false) eight) long (behind ∙ ap (λ n. protection_bytes n false ++ rest) eight))
protected b r false rest e long (inr sixteen) behind =
    subst (λ (n : ℕ). Protected b n false rest) (sym sixteen) (protected_told b 16 false rest (e ∙ ap (λ n. version n false) sixteen) long (inr refl) (inr (refl, refl)) (omega arith) refl (behind ∙ ap (λ n. protection_bytes n false ++ rest) sixteen))

pub small_version : (r : ℕ) (c : Bool) → version r c < 2 ^ 32
unfolding version
small_version r c = few (is_basic r c)
  where
    few : (t : Bool) → (if t then 1 else 2) < 2 ^ 32
    few true = omega arith
    few false = omega arith
