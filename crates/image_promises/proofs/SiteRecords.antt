-- The records of sites and of their targets, by their numbers.
use Rattle.std.proofs.Common.{◌≡◌, ℕ, zero, suc, ◌+◌, ◌<◌, ◌≤◌, true, List, [], ◌∷◌, ◌++◌, length, map, take, drop, get_or, refl, ap, ◌∙◌, arith}
use Rattle.std.specs.Prelude.{Contains}
use Rattle.std.proofs.Math.Seq.{drop-append-add}
use Rattle.std.proofs.lemmas.List.{length-map, take_at}
use Rattle.std.proofs.lemmas.List.Sums.{sum_by-cons}
use Rattle.base_laws.specs.Lists.{Each}
use Rattle.ir_model.specs.Resolved.{Program}
use Rattle.plan_model.specs.declared.needs.SiteNeed.{SiteNeed}
use Rattle.plan_model.specs.declared.needs.Needs.{Needs}
use Rattle.plan_model.specs.declared.graph.Final.{Final}
use Rattle.plan_model.specs.declared.plan.Plan.{Plan}
use Rattle.plan_model.specs.Crossing.{target_count}
use Rattle.monitor_model.specs.declared.tables.SiteRecord.{SiteRecord}
use Rattle.monitor_model.specs.declared.tables.TargetRecord.{TargetRecord}
use Rattle.monitor_model.specs.declared.tables.Tables.{Tables}
use Rattle.monitor_model.specs.Records.{no_site}
use Rattle.monitor_model.specs.Checks.{is_site}
use Rattle.image_model.specs.LinkedTables.{return_address, site_records, target_record, target_records}
use Rattle.image_promises.proofs.Passing.{and_yes, le_yes}
use Rattle.need_lists.proofs.Parts.{head, tail}

module _ (p : Program) (n : Needs) (f : Final) (l : Plan) where
  -- ---- by their numbers

  pub record_at : (k : ℕ) (ss : List SiteNeed) (i first : ℕ) (d : SiteNeed) → first ≡ k + target_count (take i ss) → i < length ss
      → get_or (site_records p n f l k ss) i no_site ≡ record { ret = return_address p n f l (get_or ss i d); first = first; count = length (get_or ss i d).targets }
  record_at k [] i first d q lt = absurd (omega (arith, lt))
  record_at k (s ∷ ss) zero first d q lt =
      let same : k ≡ first = omega (arith, q) in
      ap (λ x. let r : SiteRecord = record { ret = return_address p n f l s; first = x; count = length s.targets } in r) same
  record_at k (s ∷ ss) (suc i) first d q lt =
      let e = sum_by-cons (λ (x : SiteNeed). length x.targets) s (take i ss) in
      record_at (k + length s.targets) ss i first d (omega (arith, q, e)) (omega (arith, lt))

  pub targets_behind : (ss : List SiteNeed) (i first : ℕ) (d : SiteNeed) → first ≡ target_count (take i ss) → i < length ss
      → take (length (get_or ss i d).targets) (drop first (target_records p n f l ss)) ≡ map (target_record p n f l) (get_or ss i d).targets
  targets_behind [] i first d q lt = absurd (omega (arith, lt))
  targets_behind (s ∷ ss) zero first d q lt =
      let own : List TargetRecord = map (target_record p n f l) s.targets in
      let none : first ≡ 0 = omega (arith, q) in
      ap (λ x. take (length s.targets) (drop x (own ++ target_records p n f l ss))) none
      ∙ take_at own (target_records p n f l ss) (length s.targets) (length-map s.targets (target_record p n f l))
  targets_behind (s ∷ ss) (suc i) first d q lt =
      let own : List TargetRecord = map (target_record p n f l) s.targets in
      let e = sum_by-cons (λ (x : SiteNeed). length x.targets) s (take i ss) in
      let m = length-map s.targets (target_record p n f l) in
      let past : first ≡ length own + target_count (take i ss) = omega (arith, q, e, m) in
      ap (λ x. take (length (get_or ss i d).targets) (drop x (own ++ target_records p n f l ss))) past
      ∙ (ap (take (length (get_or ss i d).targets)) (drop-append-add own (target_records p n f l ss) (target_count (take i ss)))
      ∙ targets_behind ss i (target_count (take i ss)) d refl (omega (arith, lt)))

  -- ---- checks of each

  -- from so many targets on, all of which are in the list
  pub sites_right : (t : Tables) (k : ℕ) (ss : List SiteNeed) → k + target_count ss ≤ length t.targets → Each (λ (s : SiteNeed). length s.targets ≤ 64) ss
      → ((s : SiteNeed) → Contains ss s → 0 < length s.targets) → Each (λ r. is_site t r ≡ true) (site_records p n f l k ss)
  sites_right t k [] room few some = tt
  sites_right t k (s ∷ ss) room few some =
      let e = sum_by-cons (λ (x : SiteNeed). length x.targets) s ss in
      let least = some s (head s ss) in
      let most = few.0 in (
        and_yes (le_yes least) (and_yes (le_yes most) (le_yes (omega (arith, e, room)))),
        sites_right t (k + length s.targets) ss (omega (arith, e, room)) few.1 (λ x c. some x (tail s x ss c)),
      )

  joined : (P : TargetRecord → Type 0) (xs ys : List TargetRecord) → Each P xs → Each P ys → Each P (xs ++ ys)
  joined P [] ys h g = g
  joined P (x ∷ xs) ys h g = (h.0, joined P xs ys h.1 g)

  mapped : (P : TargetRecord → Type 0) (hs : List ℕ) → ((h : ℕ) → Contains hs h → P (target_record p n f l h)) → Each P (map (target_record p n f l) hs)
  mapped P [] all = tt
  mapped P (h ∷ hs) all = (all h (head h hs), mapped P hs (λ x c. all x (tail h x hs c)))

  pub targets_right : (P : TargetRecord → Type 0) (ss : List SiteNeed) → ((s : SiteNeed) → Contains ss s → (h : ℕ) → Contains s.targets h → P (target_record p n f l h)) → Each P (target_records p n f l ss)
  targets_right P [] all = tt
  targets_right P (s ∷ ss) all =
      joined P (map (target_record p n f l) s.targets) (target_records p n f l ss) (mapped P s.targets (all s (head s ss))) (targets_right P ss (λ x c. all x (tail s x ss c)))
