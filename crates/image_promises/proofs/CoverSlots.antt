-- The slots of covers pass: each cover of the final graph is an aligned power of two of addresses of peripherals.
use Rattle.std.proofs.Common.{◌≡◌, ℕ, ◌+◌, ◌<◌, ◌≤◌, ◌%◌, true, ◌||◌, [], length, map, filter, get_or, nat_lt, ap, ap₂, sym, ◌∙◌, subst, lit<, arith}
use Rattle.std.proofs.lemmas.Bool.{cases_lt, or_right}
use Rattle.std.proofs.lemmas.List.{get_or_past}
use Rattle.std.proofs.lemmas.List.FromFn.{get_or-map-range_with_len, length-map-range_with_len}
use mathlib.Core.Logic.{⊎_elim}
use Rattle.base_laws.specs.Lists.{Each}
use Rattle.base_ranges.specs.Ranges.{is_inside}
use Rattle.machine_devices.specs.declared.image.Image.{Image}
use Rattle.machine_protection.specs.declared.words.Rights.TheVariants.{Device}
use Rattle.ir_model.specs.Resolved.{Program, window_at}
use Rattle.ir_laws.specs.Limits.{HasWindows}
use Rattle.plan_model.specs.declared.needs.Needs.{Needs}
use Rattle.plan_model.specs.declared.groups.Groups.{Groups}
use Rattle.plan_model.specs.declared.graph.Cover.{Cover}
use Rattle.plan_model.specs.declared.graph.Final.{Final}
use Rattle.plan_model.specs.Lists.{numbers_below}
use Rattle.plan_model.specs.Groups.{uses}
use Rattle.plan_model.specs.Covers.{joined}
use Rattle.plan_model.specs.InitialGraph.{cover_of, covers_of, initial_graph}
use Rattle.plan_model.specs.FinalGraph.{IsFinal}
use Rattle.plan_model.specs.Slots.{cover_slot}
use Rattle.monitor_model.specs.declared.tables.Tables.{Tables}
use Rattle.monitor_model.specs.RegionChecks.{is_free, is_data, is_read_only, is_cover, is_slot}
use Rattle.image_promises.proofs.FinalGraphs.{FinalGraph}
use Rattle.image_promises.proofs.Passing.{and_yes, inside_yes}
use Rattle.image_promises.proofs.CoverParts.{IsPart, AreParts, joined_part, covers_all, each_in_order}
use Rattle.image_promises.proofs.Bearing.{use_region}
use Rattle.image_promises.proofs.Forms.{is_made}
use Rattle.image_promises.proofs.KeptItems.{each_filter}
use Rattle.image_promises.proofs.Lists.{each_map, below_all}

-- ---- the windows of peripherals

pub window_part : (p : Program) → HasWindows p → (q : ℕ) → q < length p.periphs → IsPart (cover_of p q)
window_part p windows q l =
    let i = windows.each q l in
    let k = i.power in
    let m = k.2 in
    record { power = k.0; least = k.1; most = omega (arith, m); size = k.3; aligned = subst (λ s. (window_at p q).base % s ≡ 0) k.3 i.aligned; from = i.place.0; to = i.place.1 }

-- ---- what each window has, and a join from both of its covers

module _ (p : Program) (P : Cover → Type 0) (window : (q : ℕ) → q < length p.periphs → P (cover_of p q)) where
  module _ (n : Needs) (g : Groups) where
    first_each : (c : ℕ) → Each P (covers_of p n g c)
    first_each c =
        each_in_order P (λ (a b : Cover). nat_lt a.base b.base) (map (cover_of p) (filter (uses n g c) (numbers_below (length p.periphs))))
        (each_map P (cover_of p) (λ j. j < length p.periphs) (filter (uses n g c) (numbers_below (length p.periphs))) window
        (each_filter (λ j. j < length p.periphs) (uses n g c) (numbers_below (length p.periphs)) (below_all 0 (length p.periphs) (length p.periphs) (omega arith))))

    first_at : (c : ℕ) → Each P (get_or (initial_graph p n g).covers c [])
    unfolding initial_graph
    first_at c = ⊎_elim inner outer (cases_lt c g.count)
      where
        inner : c < g.count → Each P (get_or (map (covers_of p n g) (numbers_below g.count)) c [])
        inner l = subst (Each P) (sym (get_or-map-range_with_len (covers_of p n g) 0 g.count c c [] l (let e : 0 + c ≡ c = omega arith in e))) (first_each c)

        outer : g.count ≤ c → Each P (get_or (map (covers_of p n g) (numbers_below g.count)) c [])
        outer l =
            let size = length-map-range_with_len (covers_of p n g) 0 g.count in
            subst (Each P) (sym (get_or_past (map (covers_of p n g) (numbers_below g.count)) c [] (omega (arith, size, l)))) tt

  -- each cover of the final graph has it
  pub final_covers : ((c d : Cover) → P c → P d → P (joined c d)) → (n : Needs) (f : Final) (slots : ℕ) → IsFinal p n f.groups slots f → (c : ℕ) → Each P (get_or f.covers c [])
  final_covers joins_both n f slots final c =
      subst (Each P) (sym (ap (λ (x : Final). get_or x.covers c []) final.is))
      (covers_all P joins_both p slots (initial_graph p n f.groups) final.last final.reached (first_at n f.groups) c)

pub covers_are_parts : (graph : FinalGraph) → HasWindows graph.program → (c : ℕ) → AreParts (get_or graph.final.covers c [])
covers_are_parts graph windows c =
    final_covers graph.program IsPart (window_part graph.program windows) joined_part graph.needs graph.final graph.slots graph.is_final c

-- ---- slots

pub cover_passes : (i : Image) (t : Tables) (number : ℕ) (d : Cover) → number < 16 → IsPart d → is_slot i t number (use_region number (cover_slot d)) ≡ true
cover_passes i t number d few part =
    let r = use_region number (cover_slot d) in
    let most = part.most in
    let to = part.to in
    let made = is_made number d.base d.size 0 Device few (part.power, part.least, omega (arith, most), part.size) (subst (λ z. d.base % z ≡ 0) (sym part.size) part.aligned) (lit< tt) in
    or_right (is_free number r) (is_data i t number r || (is_read_only i t number r || is_cover number r))
    (or_right (is_data i t number r) (is_read_only i t number r || is_cover number r)
    (or_right (is_read_only i t number r) (is_cover number r)
    (and_yes made.has
    (ap₂ (λ x y. is_inside x y 0x40000000 0x20000000) made.base_is made.size_is ∙ inside_yes d.base d.size 0x40000000 0x20000000 (part.from, omega (arith, to))))))
