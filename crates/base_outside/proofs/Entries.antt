-- A write to the first entry of a name.
use Rattle.std.proofs.Common.{◌≡◌, ◌≢◌, ◌≤◌, ◌∙◌, ℕ, Bool, true, false, List, length, Option, Some, None, refl, sym, ap, subst, arith, ◌-◌, ◌++◌, IfSome, IsSomeAnd}
use Rattle.std.specs.Prelude.{slice_index_or, slice_set, position}
use Rattle.std.specs.List.{find, position_or_len}
use Rattle.std.specs.Option.{option_and_then, option_map}
use Rattle.std.specs.Str.{bytes_eq}
use Rattle.std.proofs.lemmas.Slice.Eq.{bytes_eq-Decides}
use Rattle.std.proofs.lemmas.List.Folds.{find-set, find_past, find_at}
use Rattle.std.proofs.lemmas.List.Quantifiers.{position-Some}
use Rattle.std.proofs.lemmas.Option.{slice_get-get_or, slice_get_past}
use Rattle.std.proofs.lemmas.Bool.{false≢true}
use Rattle.base_outside.specs.Memory.{Entry, entry_of, held_in, room_in, room_left_in, Rewrites}

first_place : {X : Type 0} (p : X → Bool) (xs : List X) (i : ℕ) → position p xs ≡ Some i → i ≡ position_or_len p xs
first_place p xs i h = grind arith

no_place : {X : Type 0} (p : X → Bool) (xs : List X) → position p xs ≡ None → length xs ≤ position_or_len p xs
no_place p xs h = grind arith

pub found : {X : Type 0} (p : X → Bool) (xs : List X) (i : ℕ) (d : X) → position p xs ≡ Some i →
    find p xs ≡ Some (slice_index_or xs i d)
found p xs i d h =
    let at : position_or_len p xs ≡ i = sym (first_place p xs i h)
    in find_at p xs ∙ (rw at (slice_get-get_or xs i d (position-Some p xs i d h).0))

pub found_nowhere : {X : Type 0} (p : X → Bool) (xs : List X) → position p xs ≡ None → find p xs ≡ None
found_nowhere p xs h = find_at p xs ∙ slice_get_past xs (position_or_len p xs) (no_place p xs h)

differs : (a b : List ℕ) → a ≢ b → bytes_eq a b ≡ false
differs a b h = grind (arith, bytes_eq-Decides a b)

-- The entry that is written keeps its name and its room.
pub rewrites : (entries : List Entry) (name bytes : List ℕ) (i : ℕ) (entry : Entry) (d : Entry) →
    position (λ e. bytes_eq e.name name) entries ≡ Some i →
    entry.name ≡ (slice_index_or entries i d).name → entry.room ≡ (slice_index_or entries i d).room →
    entry.held ≡ Some bytes → Rewrites entries (slice_set entries i entry) name bytes
rewrites entries name bytes i entry d at names rooms holds =
    let facts = position-Some (λ e. bytes_eq e.name name) entries i d at
    in let is_name : (slice_index_or entries i d).name ≡ name = (bytes_eq-Decides (slice_index_or entries i d).name name).0 facts.1
    in let new_is_name : entry.name ≡ name = names ∙ is_name
    in let now_found : entry_of (slice_set entries i entry) name ≡ Some entry =
    find-set (λ e. bytes_eq e.name name) entries i entry (first_place (λ e. bytes_eq e.name name) entries i at)
    facts.0 ((bytes_eq-Decides entry.name name).1 new_is_name)
    in let was_found : entry_of entries name ≡ Some (slice_index_or entries i d) = found (λ e. bytes_eq e.name name) entries i d at
    in let other_found : (other : List ℕ) → other ≢ name → entry_of (slice_set entries i entry) other ≡ entry_of entries other =
    λ (other : List ℕ) (h : other ≢ name). find_past (λ e. bytes_eq e.name other) entries i entry d
    (differs (slice_index_or entries i d).name other (λ e. h (sym e ∙ is_name)))
    (differs entry.name other (λ e. h (sym e ∙ new_is_name)))
    in record {
      there = rw now_found holds;
      elsewhere = λ other h. ap (option_and_then (λ e. e.held)) (other_found other h);
      rooms = λ other. rooms_of other (bytes_eq other name) refl was_found now_found (other_found other);
    }
  where
    rooms_of : (other : List ℕ) (b : Bool) → bytes_eq other name ≡ b →
        entry_of entries name ≡ Some (slice_index_or entries i d) → entry_of (slice_set entries i entry) name ≡ Some entry →
        (other ≢ name → entry_of (slice_set entries i entry) other ≡ entry_of entries other) →
        room_in (slice_set entries i entry) other ≡ room_in entries other
    rooms_of other true h was now else =
        let same : other ≡ name = (bytes_eq-Decides other name).0 h
        in let here : room_in (slice_set entries i entry) name ≡ room_in entries name =
        ap (option_map (λ e. e.room)) now ∙ ap Some rooms ∙ sym (ap (option_map (λ e. e.room)) was)
        in subst (λ (n : List ℕ). room_in (slice_set entries i entry) n ≡ room_in entries n) (sym same) here
    rooms_of other false h was now else =
        ap (option_map (λ e. e.room)) (else (λ same. absurd (false≢true (sym h ∙ (bytes_eq-Decides other name).1 same))))

-- There is room for n more bytes in the entry of the name, if it is there.
pub room_for : (entries : List Entry) (name : List ℕ) (i n : ℕ) (d : Entry) →
    position (λ e. bytes_eq e.name name) entries ≡ Some i →
    IsSomeAnd (room_left_in entries name) (λ left. n ≤ left) →
    IfSome (slice_index_or entries i d).held (λ bytes. n ≤ (slice_index_or entries i d).room - length bytes)
room_for entries name i n d at h =
    cases (slice_index_or entries i d).held (rw (found (λ e. bytes_eq e.name name) entries i d at) at h)
  where
    cases : (o : Option (List ℕ)) →
        IsSomeAnd (option_map (λ bytes. (slice_index_or entries i d).room - length bytes) o) (λ left. n ≤ left) →
        IfSome o (λ bytes. n ≤ (slice_index_or entries i d).room - length bytes)
    cases None k = tt
    cases (Some bytes) k = k

-- A piece is added to the entry of the name, if it is there.
pub adds : (entries : List Entry) (name piece : List ℕ) (i : ℕ) (entry : Entry) (d : Entry) →
    position (λ e. bytes_eq e.name name) entries ≡ Some i →
    IfSome (slice_index_or entries i d).held (λ bytes.
    entry ≡ record (slice_index_or entries i d) { held = Some (bytes ++ piece) }) →
    IfSome (held_in entries name) (λ bytes. Rewrites entries (slice_set entries i entry) name (bytes ++ piece))
adds entries name piece i entry d at h =
    rw (found (λ e. bytes_eq e.name name) entries i d at) (cases (slice_index_or entries i d).held h)
  where
    cases : (o : Option (List ℕ)) →
        IfSome o (λ bytes. entry ≡ record (slice_index_or entries i d) { held = Some (bytes ++ piece) }) →
        IfSome o (λ bytes. Rewrites entries (slice_set entries i entry) name (bytes ++ piece))
    cases None k = tt
    cases (Some bytes) k =
        rewrites entries name (bytes ++ piece) i entry d at (ap (λ e. e.name) k) (ap (λ e. e.room) k) (ap (λ e. e.held) k)
