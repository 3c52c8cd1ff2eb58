-- Where no call failed and the files are there, a command ends with an outcome of its request, or for want of memory.
use Rattle.std.proofs.Common.{◌≡◌, ℕ, ◌<◌, ◌⊎◌, inl, inr, List, [], ◌∷◌, true, false, Option, Result, Ok, Err, IsTrue, IsNone, refl, ap, sym, ◌∙◌, subst, arith}
use Rattle.base_outside.specs.Counts.{Rose, Stayed}
use Rattle.base_outside.specs.Sinks.{SinkState}
use Rattle.aces_reports.specs.declared.failure.Done.{Done}
use Rattle.aces_reports.specs.declared.failure.Done.TheVariants.{Completed, RunFailed, Negative, FaultTold, NoRoomTold}
use Rattle.aces_reports.specs.declared.failure.Failure.{Failure}
use Rattle.aces_reports.specs.declared.failure.Failure.TheVariants.{Refused, PastLimit, Denied, NoRoom, Unread, Unwritten, Unprinted, NoMemory}
use Rattle.aces_reports.specs.Ends.{status_of}
use Rattle.aces_words.specs.Requests.{Request, Asks, Origin, origins}
use Rattle.aces_files.specs.Known.{Held, HoldsWithin, Exceeds, IsMissing}
use Rattle.aces_files.specs.Outcomes.{Outcome, refused, past_limit, denied, no_room}
use Rattle.aces_cli.specs.Answer.{Answer}
use Rattle.aces_files.specs.Effects.{World, Does, IsUnread}
use Rattle.aces_cli.specs.Endings.{IsPlain}
use Rattle.aces_cli.specs.Seen.{between}
use Rattle.aces_cli.specs.Complete.{NoneFailed, AreThere, HasFiles, IsGood, run, bin, compile, check, source, list, stack, audit, tables, where_it_is, who, symbols, help, selftest, watch, state, why, explain, explain_plan, IsDoneBy, GoodRequestsAreDone}
use Rattle.aces_words.proofs.Requests.{requests_are_one}

pub is_plain : (s : ℕ) → (s < 4) ⊎ (6 < s) → IsPlain s
is_plain s (inl h) = record {
  no_read_fault = λ z. let f : ⊥ = omega (arith, h, z) in f;
  no_write_fault = λ z. let f : ⊥ = omega (arith, h, z) in f;
  no_want_of_memory = λ z. let f : ⊥ = omega (arith, h, z) in f;
}
is_plain s (inr h) = record {
  no_read_fault = λ z. let f : ⊥ = omega (arith, h, z) in f;
  no_write_fault = λ z. let f : ⊥ = omega (arith, h, z) in f;
  no_want_of_memory = λ z. let f : ⊥ = omega (arith, h, z) in f;
}

not_risen : (before after : ℕ) → Stayed before after → Rose before after → ⊥
not_risen before after s r =
    let more : before < after = r s.could_rise in
    let same : after ≡ before = s.same in
    omega (arith, more, same)

not_missing : (held : Held) (ss : List Origin) (name : List ℕ) → AreThere held ss → IsMissing held ss name → ⊥
not_missing held [] name t m = m
not_missing held (s ∷ ss) name ((b, there), more) (inl (same, gone)) =
    let wrong : true ≡ false = subst (λ (x : Option (List ℕ)). IsNone x) (ap held (sym same) ∙ there) gone in
    cc
not_missing held (s ∷ ss) name ((b, there), more) (inr (here, m)) = not_missing held ss name more m

good_is_there : (held : Held) (r : Request) → IsGood (HoldsWithin held) r → AreThere held (origins r)
good_is_there held r (run image tape steps bytes t h k g) = ((bytes, h.there), ((t, k.there), tt))
good_is_there held r (bin image file bytes i h g) = ((bytes, h.there), tt)
good_is_there held r (compile firmware board policy image bytes t h k g) = ((bytes, h.there), ((t, k.there), tt))
good_is_there held r (check firmware bytes w h g) = ((bytes, h.there), tt)
good_is_there held r (source firmware policy tape steps bytes t h k g) = ((bytes, h.there), ((t, k.there), tt))
good_is_there held r (where_it_is firmware policy tape steps bytes t h k g) = ((bytes, h.there), ((t, k.there), tt))
good_is_there held r (list firmware board policy bytes t h k g) = ((bytes, h.there), ((t, k.there), tt))
good_is_there held r (stack firmware board policy bytes t h k g) = ((bytes, h.there), ((t, k.there), tt))
good_is_there held r (audit image bytes i h g) = ((bytes, h.there), tt)
good_is_there held r (tables image bytes i h g) = ((bytes, h.there), tt)
good_is_there held r (who firmware board policy bytes t h k g) = ((bytes, h.there), ((t, k.there), tt))
good_is_there held r (symbols firmware board policy bytes t h k g) = ((bytes, h.there), ((t, k.there), tt))
good_is_there held r help = tt
good_is_there held r (selftest seed size plan) = tt
good_is_there held r (watch image tape steps address bytes t h k g) = ((bytes, h.there), ((t, k.there), tt))
good_is_there held r (state image tape steps bytes t h k g) = ((bytes, h.there), ((t, k.there), tt))
good_is_there held r (why firmware bytes w h g) = ((bytes, h.there), tt)
good_is_there held r (explain firmware bytes w h g) = ((bytes, h.there), tt)
good_is_there held r (explain_plan firmware board policy bytes t h k g) = ((bytes, h.there), ((t, k.there), tt))

-- an outcome that the request has, with a plain status
record IsSettled (A : Outcome → Type 0) (s : ℕ) : Type 0 where
  pub outcome : Outcome
  pub answer : A outcome
  pub ended : outcome.status ≡ s
  pub plain : IsPlain s

module _ (A : Outcome → Type 0) (r : Request) (old new : World) (err_old err_new : SinkState) (told : IsTrue old.told) (none : NoneFailed (between old new err_old err_new)) (there : AreThere old.held (origins r)) where
  not_unread : (name : List ℕ) → IsUnread r old new name → ⊥
  not_unread name u = elim u.cause [ inl rose ↦ not_risen old.read_faults new.read_faults none.read_faults rose | inr gone ↦ not_missing old.held (origins r) name there gone.1 ]

  settles : (e : Result Done Failure) → Does A r old new e → IsSettled A (status_of e) ⊎ (status_of e ≡ 6)
  settles (Ok Completed) d = inl (record { outcome = d.outcome; answer = d.answer; ended = d.ended; plain = is_plain 0 (inl (omega arith)) })
  settles (Ok RunFailed) d = inl (record { outcome = d.outcome; answer = d.answer; ended = d.ended; plain = is_plain 7 (inr (omega arith)) })
  settles (Ok Negative) d = inl (record { outcome = d.outcome; answer = d.answer; ended = d.ended; plain = is_plain 8 (inr (omega arith)) })
  settles (Ok FaultTold) d = inl (record { outcome = d.outcome; answer = d.answer; ended = d.ended; plain = is_plain 1 (inl (omega arith)) })
  settles (Ok NoRoomTold) d = inl (record { outcome = d.outcome; answer = d.answer; ended = d.ended; plain = is_plain 3 (inl (omega arith)) })
  settles (Err (Refused name f)) d = inl (record { outcome = refused name.now f; answer = d.answer; ended = refl; plain = is_plain 1 (inl (omega arith)) })
  settles (Err (PastLimit which count)) d = inl (record { outcome = past_limit which count; answer = d.answer; ended = refl; plain = is_plain 1 (inl (omega arith)) })
  settles (Err (Denied said)) d = inl (record { outcome = denied said; answer = d.answer; ended = refl; plain = is_plain 3 (inl (omega arith)) })
  settles (Err (NoRoom lack)) d = inl (record { outcome = no_room lack; answer = d.answer; ended = refl; plain = is_plain 3 (inl (omega arith)) })
  settles (Err (Unread name)) d = absurd (not_unread name.now d)
  settles (Err (Unwritten name)) d = absurd (not_risen old.write_faults new.write_faults none.write_faults d.0.rose)
  settles (Err Unprinted) d = absurd (not_risen old.out.faults new.out.faults none.out_faults d.0.rose)
  settles (Err NoMemory) d = inr refl

module _ (words : List (List ℕ)) (r : Request) (asks : Asks words r) (old new : World) (err_old err_new : SinkState) (told : IsTrue old.told)
    (none : NoneFailed (between old new err_old err_new))
    (e : Result Done Failure) (s : ℕ) (ends : s ≡ status_of e) where
  -- the files are there
  pub settled : (A : Outcome → Type 0) → Does A r old new e → HasFiles old.held words → IsPlain s ⊎ (s ≡ 6)
  settled A d files =
      elim (settles A r old new err_old err_new told none (files r asks) e d) [
        | inl o ↦ inl (subst IsPlain (sym ends) o.plain)
        | inr six ↦ inr (ends ∙ six)
      ]

  -- what they hold is good
  good_is_done : GoodRequestsAreDone → Does (Answer r (HoldsWithin old.held) (Exceeds old.held)) r old new e → IsGood (HoldsWithin old.held) r → IsDoneBy r s ⊎ (s ≡ 6)
  good_is_done law d good =
      elim (settles (Answer r (HoldsWithin old.held) (Exceeds old.held)) r old new err_old err_new told none (good_is_there old.held r good) e d) [
        | inl o ↦ inl (subst (IsDoneBy r) (o.ended ∙ sym ends) (law old.held r o.outcome good o.answer))
        | inr six ↦ inr (ends ∙ six)
      ]

  pub complete : GoodRequestsAreDone → Does (Answer r (HoldsWithin old.held) (Exceeds old.held)) r old new e
      → (q : Request) → Asks words q → IsGood (HoldsWithin old.held) q → IsDoneBy q s ⊎ (s ≡ 6)
  complete law d q asked good =
      let same : r ≡ q = requests_are_one words r q asks asked in
      subst (λ z. IsDoneBy z s ⊎ (s ≡ 6)) same (good_is_done law d (subst (IsGood (HoldsWithin old.held)) (sym same) good))
