-- What reading one file, and then another, did.
use Rattle.std.proofs.Common.{◌∙◌, ℕ, List, ◌++◌, inl, inr, subst}
use Rattle.std.proofs.lemmas.List.Elements.{All-append, All-weaker}
use Rattle.base_outside.specs.declared.files.Files as files
use Rattle.base_outside.specs.Reading.{Reads}
use Rattle.base_outside.proofs.Paths.{calls_joined}
use Rattle.aces_reports.specs.declared.failure.Failure.{Failure}
use Rattle.aces_words.specs.Requests.{Origin}
use Rattle.aces_files.specs.Known.{Held}
use Rattle.aces_files.specs.CarriesOut.{IsKnown, IsKnownLarge}
use Rattle.aces_files.specs.Loads.{ReadsEither, IsLoadFailure, IsRead, IsNotRead, AreRead, AreNotRead}
use Rattle.aces_files.proofs.Asked.{known_before, known_behind, names_behind}
use Rattle.aces_files.proofs.Ends.{load_behind}

module _ {F : Type 0} (of : files.Ghosts F) (s t : Origin) where
  -- the first was not read
  pub first_not_read : (old new : F) (e : Failure) → IsNotRead of old new s e → AreNotRead of old new s t e
  first_not_read old new e h = record {
    calls = h.calls;
    are = h.are;
    reads = All-weaker (Reads s.name) (ReadsEither s.name t.name) (λ call x. inl x) h.calls h.reads;
    cause = inl h.cause;
    last = h.last;
    same = h.same;
    write_faults = h.write_faults;
  }

  -- the first was read, and the second was not
  pub second_not_read : (old mid new : F) (bytes : List ℕ) (e : Failure) → IsRead of old mid s bytes → IsNotRead of mid new t e → AreNotRead of old new s t e
  second_not_read old mid new bytes e h k =
      let told = of.told in
      let after = of.read_faults new in
      let held = subst (λ (x : Held). IsLoadFailure (IsKnownLarge told x k.calls) told x t (of.read_faults mid) after e) h.same k.cause in
      let faults = subst (λ (n : ℕ). IsLoadFailure (IsKnownLarge told (of.held old) k.calls) told (of.held old) t n after e) h.read_faults held in
      record {
        calls = h.calls ++ k.calls;
        are = calls_joined of.called old mid new h.calls k.calls h.are k.are;
        reads = All-append (ReadsEither s.name t.name) h.calls k.calls
            (All-weaker (Reads s.name) (ReadsEither s.name t.name) (λ call x. inl x) h.calls h.reads)
            (All-weaker (Reads t.name) (ReadsEither s.name t.name) (λ call x. inr x) k.calls k.reads);
        cause = inr (
          (bytes, known_before told (of.held old) h.calls k.calls s bytes h.known),
          load_behind told (of.held old) h.calls k.calls t (of.read_faults old) after e faults,
        );
        last = names_behind h.calls k.calls e k.last;
        same = k.same ∙ h.same;
        write_faults = k.write_faults ∙ h.write_faults;
      }

  -- both were read
  pub are_read : (old mid new : F) (bytes text : List ℕ) → IsRead of old mid s bytes → IsRead of mid new t text → AreRead of old new s t bytes text
  are_read old mid new bytes text h k = record {
    calls = h.calls ++ k.calls;
    are = calls_joined of.called old mid new h.calls k.calls h.are k.are;
    reads = All-append (ReadsEither s.name t.name) h.calls k.calls
        (All-weaker (Reads s.name) (ReadsEither s.name t.name) (λ call x. inl x) h.calls h.reads)
        (All-weaker (Reads t.name) (ReadsEither s.name t.name) (λ call x. inr x) k.calls k.reads);
    first_known = known_before of.told (of.held old) h.calls k.calls s bytes h.known;
    second_known = known_behind of.told (of.held old) h.calls k.calls t text (subst (λ (x : Held). IsKnown of.told x k.calls t text) h.same k.known);
    same = k.same ∙ h.same;
    read_faults = k.read_faults ∙ h.read_faults;
    write_faults = k.write_faults ∙ h.write_faults;
  }
