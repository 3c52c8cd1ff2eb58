-- Tables that are read from flash are those whose words stand there.
use Rattle.std.proofs.Common.{◌≡◌, ℕ, suc, ◌+◌, ◌*◌, ◌<◌, ◌≤◌, List, [], ◌∷◌, ◌++◌, length, drop, take, min, flat_map, refl, sym, ap, ap₂, ◌∙◌, arith, length-append}
use Rattle.std.specs.Prelude.{slice_index}
use Rattle.std.proofs.lemmas.List.{take-append-drop, length-take}
use Rattle.base_words.specs.Bytes.{read}
use Rattle.base_words.proofs.Bytes.{read-append_right}
use Rattle.base_laws.specs.Lists.{Each}
use Rattle.machine_protection.specs.declared.region.Region.{Region}
use Rattle.monitor_model.specs.declared.tables.CompRecord.{CompRecord}
use Rattle.monitor_model.specs.declared.tables.SiteRecord.{SiteRecord}
use Rattle.monitor_model.specs.declared.tables.TargetRecord.{TargetRecord}
use Rattle.monitor_model.specs.declared.tables.InitRecord.{InitRecord}
use Rattle.monitor_model.specs.Area.{region_words, compartment_words, site_words, target_words, init_words}
use Rattle.monitor_model.specs.FromFlash.{records, word_at, region_at, comp_record_at, site_record_at, target_record_at, init_record_at}
use Rattle.monitor_laws.proofs.Tables.{slot_words as regions_long}
use Rattle.monitor_laws.proofs.ReadTables.{Reads, moved}

-- ---- how many words records have

comp_long : (slots : ℕ) (c : CompRecord) → length c.slots ≡ slots → 4 * length (compartment_words c) ≡ 8 * slots + 16
comp_long slots c e =
    let l = regions_long c.slots in
    let d = length-append (flat_map region_words c.slots) (c.mask ∷ c.reads ∷ []) in
    omega (arith, l, d, e)

pub comps_long : (slots : ℕ) (cs : List CompRecord) → Each (λ (c : CompRecord). length c.slots ≡ slots) cs → 4 * length (flat_map compartment_words cs) ≡ (8 * slots + 16) * length cs
comps_long slots [] e = grind arith
comps_long slots (c ∷ cs) e =
    let one = comp_long slots c e.0 in
    let h = comps_long slots cs e.1 in
    let l = length-append (compartment_words c) (flat_map compartment_words cs) in
    grind (arith, one, h, l)

-- ---- what is read

abbrev Any : {A : Type 0} → A → Type 0
Any x = Unit {0}

all : {A : Type 0} (xs : List A) → Each Any xs
all [] = tt
all (x ∷ xs) = (tt, all xs)

third : (o : ℕ) → o + 8 ≡ o + 4 + 4
third o = omega arith

module _ (bytes : List ℕ) where
  pub front : (o : ℕ) (xs ys : List ℕ) → Reads bytes o (xs ++ ys) → Reads bytes o xs
  front o [] ys h = tt
  front o (x ∷ xs) ys h = (h.0, front (o + 4) xs ys h.1)

  pub back : (o : ℕ) (xs ys : List ℕ) → Reads bytes o (xs ++ ys) → Reads bytes (o + 4 * length xs) ys
  back o [] ys h = moved bytes o (o + 4 * 0) ys (omega arith) h
  back o (x ∷ xs) ys h = moved bytes (o + 4 + 4 * length xs) (o + 4 * length (x ∷ xs)) ys (omega arith) (back (o + 4) xs ys h.1)

  -- words by their numbers
  pub each_word : (ws : List ℕ) (o : ℕ) → ((k : ℕ) → k < length ws → read 4 (o + 4 * k) bytes ≡ slice_index ws k) → Reads bytes o ws
  each_word [] o h = tt
  each_word (w ∷ ws) o h =
      let e : o ≡ o + 4 * 0 = omega arith in (
        ap (λ n. read 4 n bytes) e ∙ h 0 (omega arith),
        each_word ws (o + 4) (λ k l. (let e : o + 4 + 4 * k ≡ o + 4 * suc k = omega arith in ap (λ n. read 4 n bytes) e) ∙ h (suc k) (omega (arith, l))),
      )

  -- ---- records: where each is read from its words, a list of them is read from theirs

  pub records_read : {A : Type 0} (f : ℕ → A) (words : A → List ℕ) (P : A → Type 0) (z : ℕ) → ((x : A) → P x → 4 * length (words x) ≡ z) → ((x : A) (o : ℕ) → P x → Reads bytes o (words x) → f o ≡ x)
      → (xs : List A) (o : ℕ) → Each P xs → Reads bytes o (flat_map words xs) → records f z (length xs) o ≡ xs
  records_read f words P z long one [] o e h = refl
  records_read f words P z long one (x ∷ xs) o e h =
      let size = long x e.0 in
      let next : o + 4 * length (words x) ≡ o + z = omega (arith, size) in
      ap₂ (λ y ys. y ∷ ys) (one x o e.0 (front o (words x) (flat_map words xs) h))
      (records_read f words P z long one xs (o + z) e.1 (moved bytes (o + 4 * length (words x)) (o + z) (flat_map words xs) next (back o (words x) (flat_map words xs) h)))

  -- words themselves
  pub words_read : (ws : List ℕ) (o : ℕ) → Reads bytes o ws → records (word_at bytes) 4 (length ws) o ≡ ws
  words_read [] o h = refl
  words_read (w ∷ ws) o h = ap₂ (λ y ys. y ∷ ys) h.0 (words_read ws (o + 4) h.1)

  region_read : (g : Region) (o : ℕ) → Reads bytes o (region_words g) → region_at bytes o ≡ g
  region_read g o h = ap₂ (λ a b. record { rbar = a; rasr = b }) h.0 h.1.0

  pub site_read : (s : SiteRecord) (o : ℕ) → Reads bytes o (site_words s) → site_record_at bytes o ≡ s
  site_read s o h =
      let c : read 4 (o + 8) bytes ≡ s.count = ap (λ n. read 4 n bytes) (third o) ∙ h.1.1.0 in
      ap₂ (λ a b. record { ret = a; first = b; count = read 4 (o + 8) bytes }) h.0 h.1.0 ∙ ap (λ n. record { ret = s.ret; first = s.first; count = n }) c

  pub target_read : (g : TargetRecord) (o : ℕ) → Reads bytes o (target_words g) → target_record_at bytes o ≡ g
  target_read g o h = ap₂ (λ a b. record { entry = a; compartment = b }) h.0 h.1.0

  pub init_read : (n : InitRecord) (o : ℕ) → Reads bytes o (init_words n) → init_record_at bytes o ≡ n
  init_read n o h =
      let c : read 4 (o + 8) bytes ≡ n.from = ap (λ n. read 4 n bytes) (third o) ∙ h.1.1.0 in
      ap₂ (λ a b. record { at = a; end = b; from = read 4 (o + 8) bytes }) h.0 h.1.0 ∙ ap (λ m. record { at = n.at; end = n.end; from = m }) c

  pub sites_read : (ss : List SiteRecord) (o : ℕ) → Reads bytes o (flat_map site_words ss) → records (site_record_at bytes) 12 (length ss) o ≡ ss
  sites_read ss o h = records_read (site_record_at bytes) site_words Any 12 (λ s u. refl) (λ s o u. site_read s o) ss o (all ss) h

  pub targets_read : (gs : List TargetRecord) (o : ℕ) → Reads bytes o (flat_map target_words gs) → records (target_record_at bytes) 8 (length gs) o ≡ gs
  targets_read gs o h = records_read (target_record_at bytes) target_words Any 8 (λ g u. refl) (λ g o u. target_read g o) gs o (all gs) h

  pub inits_are_read : (ns : List InitRecord) (o : ℕ) → Reads bytes o (flat_map init_words ns) → records (init_record_at bytes) 12 (length ns) o ≡ ns
  inits_are_read ns o h = records_read (init_record_at bytes) init_words Any 12 (λ n u. refl) (λ n o u. init_read n o) ns o (all ns) h

  regions_read : (gs : List Region) (o : ℕ) → Reads bytes o (flat_map region_words gs) → records (region_at bytes) 8 (length gs) o ≡ gs
  regions_read gs o h = records_read (region_at bytes) region_words Any 8 (λ g u. refl) (λ g o u. region_read g o) gs o (all gs) h

  -- ---- compartments with so many slots

  comp_read : (slots : ℕ) (c : CompRecord) (o : ℕ) → length c.slots ≡ slots → Reads bytes o (compartment_words c) → comp_record_at bytes slots o ≡ c
  comp_read slots c o e h =
      let masks : List ℕ = c.mask ∷ c.reads ∷ [] in
      let code = region_read c.code o (front o (region_words c.code) (flat_map region_words c.slots ++ masks) h) in
      let rest : Reads bytes (o + 8) (flat_map region_words c.slots ++ masks) = moved bytes (o + 4 + 4) (o + 8) _ (sym (third o)) h.1.1 in
      let slotted : records (region_at bytes) 8 slots (o + 8) ≡ c.slots =
      ap (λ n. records (region_at bytes) 8 n (o + 8)) (sym e) ∙ regions_read c.slots (o + 8) (front (o + 8) (flat_map region_words c.slots) masks rest) in
      let l = regions_long c.slots in
      let last = back (o + 8) (flat_map region_words c.slots) masks rest in
      let at : o + 8 + 8 * slots ≡ o + 8 + 4 * length (flat_map region_words c.slots) = omega (arith, l, e) in
      let behind : o + 12 + 8 * slots ≡ o + 8 + 4 * length (flat_map region_words c.slots) + 4 = omega (arith, l, e) in
      let mask : read 4 (o + 8 + 8 * slots) bytes ≡ c.mask = ap (λ n. read 4 n bytes) at ∙ last.0 in
      let reads : read 4 (o + 12 + 8 * slots) bytes ≡ c.reads = ap (λ n. read 4 n bytes) behind ∙ last.1.0 in
      let first : comp_record_at bytes slots o ≡ record c { mask = read 4 (o + 8 + 8 * slots) bytes; reads = read 4 (o + 12 + 8 * slots) bytes } =
      ap₂ (λ a b. record { code = a; slots = b; mask = read 4 (o + 8 + 8 * slots) bytes; reads = read 4 (o + 12 + 8 * slots) bytes }) code slotted in
      first ∙ ap₂ (λ a b. record c { mask = a; reads = b }) mask reads

  pub comps_read : (slots : ℕ) (cs : List CompRecord) (o : ℕ) → Each (λ (c : CompRecord). length c.slots ≡ slots) cs → Reads bytes o (flat_map compartment_words cs)
      → records (comp_record_at bytes slots) (8 * slots + 16) (length cs) o ≡ cs
  comps_read slots cs o e h =
      records_read (comp_record_at bytes slots) compartment_words (λ (c : CompRecord). length c.slots ≡ slots) (8 * slots + 16) (comp_long slots)
      (λ c o e. comp_read slots c o e) cs o e h

-- behind the first bytes
pub behind_page : (flash : List ℕ) (z o : ℕ) → z ≤ length flash → read 4 o (drop z flash) ≡ read 4 (z + o) flash
behind_page flash z o room =
    let l : length (take z flash) ≡ min z (length flash) = length-take z flash in
    let whole : z + o ≡ length (take z flash) + o = omega (arith, l, room) in
    sym (read-append_right 4 (z + o) o (take z flash) (drop z flash) whole) ∙ ap (λ l. read 4 (z + o) l) (take-append-drop z flash)
