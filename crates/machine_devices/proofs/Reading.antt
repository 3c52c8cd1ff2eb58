-- Reading a tape, line by line.
use Rattle.std.proofs.Common.{◌≡◌, ◌≤◌, ℕ, ◌+◌, List, [], ◌∷◌, refl, ap, sym, ◌∙◌, length, take, drop, arith, Option, Some, None, Ok, Err, position, nat_eq, length-drop}
use Rattle.machine_devices.specs.declared.image.Window.{Window}
use Rattle.machine_devices.specs.declared.tape.TapeFault.{TapeFault}
use Rattle.machine_devices.specs.declared.tape.TapeFault.TheVariants.{NoMemory, BadLine, UnknownPeripheral}
use Rattle.machine_devices.specs.Tape.{Row, row_of, rows_of, row_fault, or_later, fault_from, first_fault, queues_of, Reads}
use Rattle.machine_devices.specs.Queues.{all_empty, Puts}
use Rattle.machine_devices.specs.Lines.{without_return}
use Rattle.machine_devices.proofs.Rows.{before, queues_from, before-row, before-empty, before-none, length-with_row}
use Rattle.machine_devices.proofs.LineEnds.{rows_of-more, rows_of-last, found_within}

-- the lines before this one are read, and what follows is left
pub record IsReading (text : List ℕ) (windows : List Window) (line : ℕ) (left : List ℕ) (queues : List (List ℕ)) : Type 0 where
  pub counted : line + length left ≤ length text + 1
  pub sized : length queues ≡ length windows
  pub faults : first_fault text windows ≡ fault_from line (rows_of left) windows
  pub words : queues_of text windows ≡ before queues (queues_from windows (rows_of left))

pub begin_reading : (text : List ℕ) (windows : List Window) → IsReading text windows 1 text (all_empty windows)
unfolding first_fault queues_of
begin_reading text windows = record {
  counted = omega arith;
  sized = all_sized windows;
  faults = refl;
  words = sym (before-empty (rows_of text) windows);
}
  where
    all_sized : (ws : List Window) → length (all_empty ws) ≡ length ws
    all_sized [] = refl
    all_sized (w ∷ ws) = let e = all_sized ws in omega arith

-- a line that fails is the first that does
faulted : (text : List ℕ) (windows : List Window) (r : Row) (line : ℕ) (later : Option TapeFault) (old new : List (List ℕ)) (e : TapeFault)
    → first_fault text windows ≡ or_later (row_fault r line windows) later
    → Puts r line windows old new {T = Unit {0}} (Err e) → Reads text windows (Err e)
faulted text windows r line later old new NoMemory h p = tt
faulted text windows r line later old new (BadLine n) h p = h ∙ rw p refl
faulted text windows r line later old new (UnknownPeripheral n) h p = h ∙ rw p refl

pub fault_more : (text : List ℕ) (windows : List Window) (line : ℕ) (left : List ℕ) (old new : List (List ℕ)) (k : ℕ) (e : TapeFault)
    → IsReading text windows line left old → position (λ b. nat_eq b 10) left ≡ Some k
    → Puts (row_of (without_return (take k left))) line windows old new {T = Unit {0}} (Err e) → Reads text windows (Err e)
fault_more text windows line left old new k e i h p =
    faulted text windows _ line (fault_from (line + 1) (rows_of (drop 1 (drop k left))) windows) old new e
    (i.faults ∙ ap (λ rows. fault_from line rows windows) (rows_of-more left k h)) p

pub fault_last : (text : List ℕ) (windows : List Window) (line : ℕ) (left : List ℕ) (old new : List (List ℕ)) (e : TapeFault)
    → IsReading text windows line left old → position (λ b. nat_eq b 10) left ≡ None
    → Puts (row_of left) line windows old new {T = Unit {0}} (Err e) → Reads text windows (Err e)
fault_last text windows line left old new e i h p =
    faulted text windows _ line None old new e (i.faults ∙ ap (λ rows. fault_from line rows windows) (rows_of-last left h)) p

-- a line that is read
pub read_more : (text : List ℕ) (windows : List Window) (line : ℕ) (left : List ℕ) (old new : List (List ℕ)) (k : ℕ) (u : Unit {0})
    → IsReading text windows line left old → position (λ b. nat_eq b 10) left ≡ Some k
    → Puts (row_of (without_return (take k left))) line windows old new (Ok u)
    → IsReading text windows (line + 1) (drop 1 (drop k left)) new
read_more text windows line left old new k u i h p =
    let rows = rows_of (drop 1 (drop k left)) in
    let r = row_of (without_return (take k left)) in
    let l = rows_of-more left k h in
    record {
      counted = (let f = found_within left k h in omega (arith, i.counted, length-drop k left, length-drop 1 (drop k left)));
      sized = rw p.1 (length-with_row r windows old i.sized);
      faults = i.faults ∙ (ap (λ x. fault_from line x windows) l ∙ ap (λ o. or_later o (fault_from (line + 1) rows windows)) p.0);
      words = i.words ∙ (ap (λ x. before old (queues_from windows x)) l ∙ (before-row r rows windows old i.sized ∙ ap (λ q. before q (queues_from windows rows)) (sym p.1)));
    }

pub read_last : (text : List ℕ) (windows : List Window) (line : ℕ) (left : List ℕ) (old new : List (List ℕ)) (u : Unit {0})
    → IsReading text windows line left old → position (λ b. nat_eq b 10) left ≡ None
    → Puts (row_of left) line windows old new (Ok u) → Reads text windows (Ok new)
read_last text windows line left old new u i h p =
    let r = row_of left in
    let l = rows_of-last left h in
    let sized : length new ≡ length windows = rw p.1 (length-with_row r windows old i.sized) in (
      i.faults ∙ (ap (λ x. fault_from line x windows) l ∙ ap (λ o. or_later o None) p.0),
      sym (i.words ∙ (ap (λ x. before old (queues_from windows x)) l
          ∙ (before-row r [] windows old i.sized
          ∙ (ap (λ q. before q (queues_from windows [])) (sym p.1) ∙ before-none windows new sized)))),
    )

pub ruleset reading_rules = (begin_reading, fault_more, fault_last, read_more, read_last, found_within)
