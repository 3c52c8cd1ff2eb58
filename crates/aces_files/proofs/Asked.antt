-- What is known by the calls that were made, and which request they serve.
use Rattle.std.proofs.Common.{◌≡◌, ◌∙◌, ℕ, List, All, ◌∷◌, [], ◌++◌, Bool, Some, inl, inr, refl, ap, sym, subst, append_assoc}
use Rattle.std.proofs.lemmas.List.Elements.{All-weaker}
use Rattle.base_outside.specs.Calls.{Call, Size, Read, Create, Append}
use Rattle.base_outside.specs.Reading.{Reads}
use Rattle.base_outside.proofs.Paths.{unread_behind}
use Rattle.aces_reports.specs.declared.failure.Failure.{Failure}
use Rattle.aces_reports.specs.declared.failure.Failure.TheVariants.{Refused, PastLimit, Denied, NoRoom, Unread, Unwritten, Unprinted, NoMemory}
use Rattle.aces_words.specs.Requests.{Request, Origin, origins, target}
use Rattle.aces_files.specs.Known.{Held, IsNamed, IsCallOf, WasRead, WasTooLarge}
use Rattle.aces_files.specs.Loads.{ReadsEither}
use Rattle.aces_files.specs.CarriesOut.{IsKnown, IsKnownLarge, NamesLast, Writes}

-- what some calls tell is told by them with further calls behind them
read_before : (calls later : List Call) (s : Origin) (bytes : List ℕ) → WasRead calls s bytes → WasRead (calls ++ later) s bytes
read_before calls later s bytes k = record {
  before = k.before;
  reads = k.reads;
  after = k.after ++ later;
  among = ap (λ x. x ++ later) k.among ∙ append_assoc (k.before ++ k.reads) k.after later;
  whole = k.whole;
}

pub known_before : (told : Bool) (held : Held) (calls later : List Call) (s : Origin) (bytes : List ℕ) → IsKnown told held calls s bytes
    → IsKnown told held (calls ++ later) s bytes
known_before told held calls later s bytes k = (read_before calls later s bytes k.0, k.1)

-- what some calls tell is told by them with others in front of them
read_behind : (earlier calls : List Call) (s : Origin) (bytes : List ℕ) → WasRead calls s bytes → WasRead (earlier ++ calls) s bytes
read_behind earlier calls s bytes k = record {
  before = earlier ++ k.before;
  reads = k.reads;
  after = k.after;
  among = ap (λ x. earlier ++ x) k.among ∙ (sym (append_assoc earlier (k.before ++ k.reads) k.after) ∙ ap (λ x. x ++ k.after) (sym (append_assoc earlier k.before k.reads)));
  whole = k.whole;
}

pub known_behind : (told : Bool) (held : Held) (earlier calls : List Call) (s : Origin) (bytes : List ℕ) → IsKnown told held calls s bytes
    → IsKnown told held (earlier ++ calls) s bytes
known_behind told held earlier calls s bytes k = (read_behind earlier calls s bytes k.0, k.1)

large_so : (earlier calls : List Call) (s : Origin) → WasTooLarge calls s → WasTooLarge (earlier ++ calls) s
large_so earlier calls s k = record {
  before = earlier ++ k.before;
  size = k.size;
  last = ap (λ x. earlier ++ x) k.last ∙ sym (append_assoc earlier k.before (Size s.name (Some k.size) ∷ []));
  exceeds = k.exceeds;
}

pub large_behind : (told : Bool) (held : Held) (earlier calls : List Call) (s : Origin) → IsKnownLarge told held calls s
    → IsKnownLarge told held (earlier ++ calls) s
large_behind told held earlier calls s k = (large_so earlier calls s k.0, k.1)

-- a failure that names the file of the last call names it with other calls in front of them
pub names_behind : (earlier calls : List Call) (e : Failure) → NamesLast calls e → NamesLast (earlier ++ calls) e
names_behind earlier calls (Refused name f) h = h
names_behind earlier calls (PastLimit which count) h = h
names_behind earlier calls (Denied said) h = h
names_behind earlier calls (NoRoom lack) h = h
names_behind earlier calls (Unread name) h = unread_behind earlier calls name.now h
names_behind earlier calls (Unwritten name) h = h
names_behind earlier calls Unprinted h = h
names_behind earlier calls NoMemory h = h

-- the first source of a request is named
pub first_named : (r : Request) (s : Origin) (more : List Origin) → origins r ≡ s ∷ more → IsNamed (origins r) s.name
first_named r s more takes = subst (λ ss. IsNamed ss s.name) (sym takes) (inl refl)

-- calls that read a source of a request, and that write its target
pub read_of : (r : Request) (name : List ℕ) → IsNamed (origins r) name → (call : Call) → Reads name call → IsCallOf r call
read_of r name n (Size m size) e = subst (IsNamed (origins r)) (sym e) n
read_of r name n (Read m place bytes) e = subst (IsNamed (origins r)) (sym e) n
read_of r name n (Create m made) e = absurd e
read_of r name n (Append m piece made) e = absurd e

pub reads_of : (r : Request) (name : List ℕ) → IsNamed (origins r) name → (calls : List Call) → All (Reads name) calls → All (IsCallOf r) calls
reads_of r name n calls h = All-weaker (Reads name) (IsCallOf r) (read_of r name n) calls h

either_of : (r : Request) (first second : List ℕ) → IsNamed (origins r) first → IsNamed (origins r) second → (call : Call) → ReadsEither first second call → IsCallOf r call
either_of r first second n m call (inl h) = read_of r first n call h
either_of r first second n m call (inr h) = read_of r second m call h

pub reads_of_both : (r : Request) (first second : List ℕ) → IsNamed (origins r) first → IsNamed (origins r) second → (calls : List Call)
    → All (ReadsEither first second) calls → All (IsCallOf r) calls
reads_of_both r first second n m calls h = All-weaker (ReadsEither first second) (IsCallOf r) (either_of r first second n m) calls h

write_of : (r : Request) (name bytes : List ℕ) → target r ≡ Some name → (call : Call) → Writes name bytes call → IsCallOf r call
write_of r name bytes t (Size m size) e = absurd e
write_of r name bytes t (Read m place piece) e = absurd e
write_of r name bytes t (Create m made) e = t ∙ ap Some (sym e)
write_of r name bytes t (Append m piece made) e = t ∙ ap Some (sym e.0)

pub writes_of : (r : Request) (name bytes : List ℕ) → target r ≡ Some name → (calls : List Call) → All (Writes name bytes) calls → All (IsCallOf r) calls
writes_of r name bytes t calls h = All-weaker (Writes name bytes) (IsCallOf r) (write_of r name bytes t) calls h
