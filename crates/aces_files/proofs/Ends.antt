-- How commands end, by what their steps answered.
use Rattle.std.proofs.Common.{◌≡◌, ◌≢◌, ℕ, ◌+◌, ◌^◌, ◌<◌, inl, inr, List, [], ◌++◌, Bool, None, Ok, Err, Result, false, IsTrue, IsNone, IfErr, refl, ap, sym, subst, arith}
use Rattle.std.proofs.lemmas.Bool.{false≢true}
use Rattle.base_outside.specs.Calls.{Call}
use Rattle.aces_reports.specs.declared.failure.Done.{Done}
use Rattle.aces_reports.specs.declared.failure.Done.TheVariants.{Completed, RunFailed, Negative, FaultTold, NoRoomTold}
use Rattle.aces_reports.specs.declared.failure.Fault.{Fault}
use Rattle.aces_reports.specs.declared.failure.Fault.TheVariants.{TooLarge}
use Rattle.aces_reports.specs.declared.failure.Failure.{Failure}
use Rattle.aces_reports.specs.declared.failure.Failure.TheVariants.{Refused, PastLimit, Denied, NoRoom, Unread, Unwritten, Unprinted, NoMemory}
use Rattle.aces_words.specs.Requests.{Request, Run, Bin, Compile, Check, Source, Where, Listing, Stack, Audit, Tables, Watch, State, Help, Who, Why, Symbols, Selftest, Explain, ExplainPlan, Origin, origins}
use Rattle.aces_files.specs.Known.{Held, IsMissing, IsNamed}
use Rattle.aces_files.specs.Outcomes.{Outcome, refused, past_limit, denied, no_room}
use Rattle.base_outside.specs.Sinks.{SinkState}
use Rattle.aces_reports.specs.Ends.{status_of}
use Rattle.aces_files.specs.Effects.{World, Does, IsDone, Quiet, IsCarriedOut, IsRewritten, IsPart, IsPrintedInPart}
use Rattle.aces_files.specs.CarriesOut.{IsKnownLarge, NamesLast}
use Rattle.aces_files.specs.Loads.{IsLoadFailure, IsContentFailure, IsRefusal}
use Rattle.aces_files.proofs.Asked.{large_behind}

-- where nothing was printed, no more than a part was
nothing_printed : (A : Outcome → Type 0) (r : Request) (old new : World) → new.out ≡ old.out → IsPrintedInPart A r old new r
nothing_printed A (Run image tape steps) old new h = h
nothing_printed A (Bin image file) old new h = h
nothing_printed A (Compile firmware board policy image) old new h = h
nothing_printed A (Check firmware) old new h = h
nothing_printed A (Source firmware policy tape steps) old new h = inl h
nothing_printed A (Listing firmware board policy) old new h = h
nothing_printed A (Stack firmware board policy) old new h = h
nothing_printed A (Audit image) old new h = h
nothing_printed A (Tables image) old new h = h
nothing_printed A (Watch image tape steps address) old new h = h
nothing_printed A (State image tape steps) old new h = h
nothing_printed A Help old new h = h
nothing_printed A (Who firmware board policy) old new h = h
nothing_printed A (Why firmware) old new h = h
nothing_printed A (Where firmware policy tape steps) old new h = h
nothing_printed A (Symbols firmware board policy) old new h = h
nothing_printed A (Selftest seed size) old new h = h
nothing_printed A (Explain firmware) old new h = h
nothing_printed A (ExplainPlan firmware board policy) old new h = h

-- memory ran out before anything was printed or written
pub no_memory : (A : Outcome → Type 0) (r : Request) (old new : World) → Quiet old new → new.read_faults ≡ old.read_faults → Does A r old new (Err NoMemory)
no_memory A r old new quiet reads = (
  record { held = quiet.held; read_faults = reads; write_faults = quiet.write_faults; faults = ap (λ (s : SinkState). s.faults) quiet.out },
  nothing_printed A r old new quiet.out,
)

-- a source that was not read
pub load_failed : (A : Outcome → Type 0) (Exceeds : Origin → Type 0) (r : Request) (s : Origin) (old new : World) → Quiet old new
    → IsNamed (origins r) s.name
    → (IsTrue old.told → IsNone (old.held s.name) → IsMissing old.held (origins r) s.name)
    → (Exceeds s → A (refused s.name (TooLarge s.limit)))
    → (e : Failure) → IsLoadFailure Exceeds old.told old.held s old.read_faults new.read_faults e → Does A r old new (Err e)
load_failed A Exceeds r s old new quiet named missing large (Refused name f) h = record {
  answer = subst (λ n. A (refused n f)) (sym h.0) (subst (λ x. A (refused s.name x)) (sym h.1) (large h.2));
  quiet = quiet;
  read_faults = h.3;
}
load_failed A Exceeds r s old new quiet named missing large (PastLimit which count) h = absurd h
load_failed A Exceeds r s old new quiet named missing large (Denied said) h = absurd h
load_failed A Exceeds r s old new quiet named missing large (NoRoom lack) h = absurd h
load_failed A Exceeds r s old new quiet named missing large (Unread name) h = record {
  named = subst (IsNamed (origins r)) (sym h.0) named;
  cause = elim h.1 [ inl rose ↦ inl rose | inr gone ↦ inr (gone.0, subst (IsMissing old.held (origins r)) (sym h.0) (missing gone.0 gone.1)) ];
  quiet = quiet;
}
load_failed A Exceeds r s old new quiet named missing large (Unwritten name) h = absurd h
load_failed A Exceeds r s old new quiet named missing large Unprinted h = absurd h
load_failed A Exceeds r s old new quiet named missing large NoMemory h = no_memory A r old new quiet h

-- the reason why a source was not read stays one with other calls in front of those that were to read it
pub load_behind : (told : Bool) (held : Held) (earlier calls : List Call) (s : Origin) (before after : ℕ) (e : Failure)
    → IsLoadFailure (IsKnownLarge told held calls) told held s before after e → IsLoadFailure (IsKnownLarge told held (earlier ++ calls)) told held s before after e
load_behind told held earlier calls s before after (Refused name f) h = (h.0, h.1, large_behind told held earlier calls s h.2, h.3)
load_behind told held earlier calls s before after (PastLimit which count) h = h
load_behind told held earlier calls s before after (Denied said) h = h
load_behind told held earlier calls s before after (NoRoom lack) h = h
load_behind told held earlier calls s before after (Unread name) h = h
load_behind told held earlier calls s before after (Unwritten name) h = h
load_behind told held earlier calls s before after Unprinted h = h
load_behind told held earlier calls s before after NoMemory h = h

-- a content that was refused
pub content_failed : (A : Outcome → Type 0) (IsFault : Fault → Type 0) (r : Request) (name : List ℕ) (old new : World) → Quiet old new
    → new.read_faults ≡ old.read_faults → ((f : Fault) → IsFault f → A (refused name f))
    → (e : Failure) → IsContentFailure IsFault name e → Does A r old new (Err e)
content_failed A IsFault r name old new quiet reads answer (Refused n f) h = record {
  answer = subst (λ x. A (refused x f)) (sym h.0) (answer f h.1);
  quiet = quiet;
  read_faults = reads;
}
content_failed A IsFault r name old new quiet reads answer (PastLimit which count) h = absurd h
content_failed A IsFault r name old new quiet reads answer (Denied said) h = absurd h
content_failed A IsFault r name old new quiet reads answer (NoRoom lack) h = absurd h
content_failed A IsFault r name old new quiet reads answer (Unread n) h = absurd h
content_failed A IsFault r name old new quiet reads answer (Unwritten n) h = absurd h
content_failed A IsFault r name old new quiet reads answer Unprinted h = absurd h
content_failed A IsFault r name old new quiet reads answer NoMemory h = no_memory A r old new quiet reads

-- what is refused by some faults is refused by others
pub content_also : (P Q : Fault → Type 0) → ((f : Fault) → P f → Q f) → (name : List ℕ) (e : Failure) → IsContentFailure P name e → IsContentFailure Q name e
content_also P Q m name (Refused n f) h = (h.0, m f h.1)
content_also P Q m name (PastLimit which count) h = h
content_also P Q m name (Denied said) h = h
content_also P Q m name (NoRoom lack) h = h
content_also P Q m name (Unread n) h = h
content_also P Q m name (Unwritten n) h = h
content_also P Q m name Unprinted h = h
content_also P Q m name NoMemory h = h

-- an outcome that refuses
pub refusal_did : (A : Outcome → Type 0) (r : Request) (old new : World) → Quiet old new → new.read_faults ≡ old.read_faults
    → (e : Failure) → IsRefusal A e → Does A r old new (Err e)
refusal_did A r old new quiet reads (Refused n f) h = record { answer = h; quiet = quiet; read_faults = reads }
refusal_did A r old new quiet reads (PastLimit which count) h = record { answer = h; quiet = quiet; read_faults = reads }
refusal_did A r old new quiet reads (Denied said) h = record { answer = h; quiet = quiet; read_faults = reads }
refusal_did A r old new quiet reads (NoRoom lack) h = record { answer = h; quiet = quiet; read_faults = reads }
refusal_did A r old new quiet reads (Unread n) h = absurd h
refusal_did A r old new quiet reads (Unwritten n) h = absurd h
refusal_did A r old new quiet reads Unprinted h = absurd h
refusal_did A r old new quiet reads NoMemory h = no_memory A r old new quiet reads

-- a refusal names no file as unread
pub refusal_names : (calls : List Call) (A : Outcome → Type 0) (e : Failure) → IsRefusal A e → NamesLast calls e
refusal_names calls A (Refused n f) h = tt
refusal_names calls A (PastLimit which count) h = tt
refusal_names calls A (Denied said) h = tt
refusal_names calls A (NoRoom lack) h = tt
refusal_names calls A (Unread n) h = absurd h
refusal_names calls A (Unwritten n) h = absurd h
refusal_names calls A Unprinted h = absurd h
refusal_names calls A NoMemory h = tt

-- what is refused by some answers is refused by others, by a content's fault among them
pub refusal_also : (A B : Outcome → Type 0) → ((o : Outcome) → A o → B o) → (e : Failure) → IsRefusal A e → IsRefusal B e
refusal_also A B m (Refused n f) h = m (refused n.now f) h
refusal_also A B m (PastLimit which count) h = m (past_limit which count) h
refusal_also A B m (Denied said) h = m (denied said) h
refusal_also A B m (NoRoom lack) h = m (no_room lack) h
refusal_also A B m (Unread n) h = h
refusal_also A B m (Unwritten n) h = h
refusal_also A B m Unprinted h = h
refusal_also A B m NoMemory h = h

pub content_refused : (A : Outcome → Type 0) (IsFault : Fault → Type 0) (name : List ℕ) → ((f : Fault) → IsFault f → A (refused name f))
    → (e : Failure) → IsContentFailure IsFault name e → IsRefusal A e
content_refused A IsFault name answer (Refused n f) h = subst (λ x. A (refused x f)) (sym h.0) (answer f h.1)
content_refused A IsFault name answer (PastLimit which count) h = absurd h
content_refused A IsFault name answer (Denied said) h = absurd h
content_refused A IsFault name answer (NoRoom lack) h = absurd h
content_refused A IsFault name answer (Unread n) h = absurd h
content_refused A IsFault name answer (Unwritten n) h = absurd h
content_refused A IsFault name answer Unprinted h = absurd h
content_refused A IsFault name answer NoMemory h = tt

-- a step that does the same over files of which nothing is told and no fault was counted names none as unread, for it touches none
pub untouched_names : (calls : List Call) (A : Outcome → Type 0) (r : Request) (held : Held) (old new : SinkState) (e : Result Done Failure)
    → Does A r (record { told = false; held = held; read_faults = 0; write_faults = 0; out = old })
    (record { told = false; held = held; read_faults = 0; write_faults = 0; out = new }) e
    → IfErr e (NamesLast calls)
untouched_names calls A r held old new (Ok d) h = tt
untouched_names calls A r held old new (Err (Refused name f)) h = tt
untouched_names calls A r held old new (Err (PastLimit which count)) h = tt
untouched_names calls A r held old new (Err (Denied said)) h = tt
untouched_names calls A r held old new (Err (NoRoom lack)) h = tt
untouched_names calls A r held old new (Err (Unread name)) h =
    absurd (elim h.cause [ inl rose ↦ let few : 0 + 1 < 2 ^ 64 = omega arith in let wrong = rose few in omega (arith, wrong) | inr gone ↦ false≢true gone.0 ])
untouched_names calls A r held old new (Err (Unwritten name)) h = tt
untouched_names calls A r held old new (Err Unprinted) h = tt
untouched_names calls A r held old new (Err NoMemory) h = tt

-- a command that ended with an outcome of this status
pub did_end : (A : Outcome → Type 0) (r : Request) (old new : World) (o : Outcome) (d : Done) → A o → o.status ≡ status_of (Ok d) → o.line ≡ []
    → IsCarriedOut old new o → Does A r old new (Ok d)
did_end A r old new o Completed a s l p = record { outcome = o; answer = a; ended = s; silent = l; all = p }
did_end A r old new o RunFailed a s l p = record { outcome = o; answer = a; ended = s; silent = l; all = p }
did_end A r old new o Negative a s l p = record { outcome = o; answer = a; ended = s; silent = l; all = p }
did_end A r old new o FaultTold a s l p = record { outcome = o; answer = a; ended = s; silent = l; all = p }
did_end A r old new o NoRoomTold a s l p = record { outcome = o; answer = a; ended = s; silent = l; all = p }

-- a part for some answers is one for others
part_also : (A B : Outcome → Type 0) → ((o : Outcome) → A o → B o) → (r : Request) (old new : World) → IsPart A r old new → IsPart B r old new
part_also A B m r old new p = record { outcome = p.outcome; answer = m p.outcome p.answer; part = p.part }

printed_also : (A B : Outcome → Type 0) → ((o : Outcome) → A o → B o) → (r : Request) (old new : World) → IsPrintedInPart A r old new r → IsPrintedInPart B r old new r
printed_also A B m (Run image tape steps) old new h = h
printed_also A B m (Bin image file) old new h = h
printed_also A B m (Compile firmware board policy image) old new h = h
printed_also A B m (Check firmware) old new h = h
printed_also A B m (Source firmware policy tape steps) old new h = elim h [ inl e ↦ inl e | inr p ↦ inr (part_also A B m (Source firmware policy tape steps) old new p) ]
printed_also A B m (Listing firmware board policy) old new h = h
printed_also A B m (Stack firmware board policy) old new h = h
printed_also A B m (Audit image) old new h = h
printed_also A B m (Tables image) old new h = h
printed_also A B m (Watch image tape steps address) old new h = h
printed_also A B m (State image tape steps) old new h = h
printed_also A B m Help old new h = h
printed_also A B m (Who firmware board policy) old new h = h
printed_also A B m (Why firmware) old new h = h
printed_also A B m (Where firmware policy tape steps) old new h = h
printed_also A B m (Symbols firmware board policy) old new h = h
printed_also A B m (Selftest seed size) old new h = h
printed_also A B m (Explain firmware) old new h = h
printed_also A B m (ExplainPlan firmware board policy) old new h = h

-- what a command did by some answers it did by others
pub did_also : (A B : Outcome → Type 0) → ((o : Outcome) → A o → B o) → (r : Request) (old new : World) (e : Result Done Failure)
    → Does A r old new e → Does B r old new e
did_also A B m r old new (Ok Completed) d = record { outcome = d.outcome; answer = m d.outcome d.answer; ended = d.ended; silent = d.silent; all = d.all }
did_also A B m r old new (Ok RunFailed) d = record { outcome = d.outcome; answer = m d.outcome d.answer; ended = d.ended; silent = d.silent; all = d.all }
did_also A B m r old new (Ok Negative) d = record { outcome = d.outcome; answer = m d.outcome d.answer; ended = d.ended; silent = d.silent; all = d.all }
did_also A B m r old new (Ok FaultTold) d = record { outcome = d.outcome; answer = m d.outcome d.answer; ended = d.ended; silent = d.silent; all = d.all }
did_also A B m r old new (Ok NoRoomTold) d = record { outcome = d.outcome; answer = m d.outcome d.answer; ended = d.ended; silent = d.silent; all = d.all }
did_also A B m r old new (Err (Refused name f)) d = record { answer = m (refused name.now f) d.answer; quiet = d.quiet; read_faults = d.read_faults }
did_also A B m r old new (Err (PastLimit which count)) d = record { answer = m (past_limit which count) d.answer; quiet = d.quiet; read_faults = d.read_faults }
did_also A B m r old new (Err (Denied said)) d = record { answer = m (denied said) d.answer; quiet = d.quiet; read_faults = d.read_faults }
did_also A B m r old new (Err (NoRoom lack)) d = record { answer = m (no_room lack) d.answer; quiet = d.quiet; read_faults = d.read_faults }
did_also A B m r old new (Err (Unread name)) d = d
did_also A B m r old new (Err (Unwritten name)) d = (d.0, part_also A B m r old new d.1)
did_also A B m r old new (Err Unprinted) d = (d.0, part_also A B m r old new d.1)
did_also A B m r old new (Err NoMemory) d = (d.0, printed_also A B m r old new d.1)

-- the same of files in which nothing has changed
pub did_then : (A : Outcome → Type 0) (r : Request) (old : World) (held : Held) (reads writes : ℕ) (out : SinkState) (e : Result Done Failure)
    → held ≡ old.held → reads ≡ old.read_faults → writes ≡ old.write_faults
    → Does A r old (record old { out = out }) e
    → Does A r old (record { told = old.told; held = held; read_faults = reads; write_faults = writes; out = out }) e
did_then A r old held reads writes out e h p q d =
    subst (λ x. Does A r old (record { told = old.told; held = x; read_faults = reads; write_faults = writes; out = out }) e) (sym h)
    (subst (λ x. Does A r old (record { told = old.told; held = old.held; read_faults = x; write_faults = writes; out = out }) e) (sym p)
    (subst (λ x. Does A r old (record { told = old.told; held = old.held; read_faults = old.read_faults; write_faults = x; out = out }) e) (sym q) d))

-- where no answer with another status than 0 writes anything, a command that ends with a status other than 0 and 5 leaves what every name holds
module _ (A : Outcome → Type 0) (nothing : (o : Outcome) → A o → o.status ≢ 0 → o.written ≡ None) (r : Request) (old new : World) where
  -- ended with such a status
  unwritten_by : (s : ℕ) → 0 < s → IsDone A r old new s → new.held ≡ old.held
  unwritten_by s some d =
      let q = d.ended in
      subst (λ w. IsRewritten old.told w old.held new.held) (nothing d.outcome d.answer (λ z. let f : ⊥ = omega (arith, z, q, some) in f)) d.all.held

  pub held_stays : (e : Result Done Failure) → Does A r old new e → status_of e ≢ 0 → status_of e ≢ 5 → new.held ≡ old.held
  held_stays (Ok Completed) d n m = absurd (n refl)
  held_stays (Ok RunFailed) d n m = unwritten_by 7 (omega arith) d
  held_stays (Ok Negative) d n m = unwritten_by 8 (omega arith) d
  held_stays (Ok FaultTold) d n m = unwritten_by 1 (omega arith) d
  held_stays (Ok NoRoomTold) d n m = unwritten_by 3 (omega arith) d
  held_stays (Err (Refused name f)) d n m = d.quiet.held
  held_stays (Err (PastLimit which count)) d n m = d.quiet.held
  held_stays (Err (Denied said)) d n m = d.quiet.held
  held_stays (Err (NoRoom lack)) d n m = d.quiet.held
  held_stays (Err (Unread name)) d n m = d.quiet.held
  held_stays (Err (Unwritten name)) d n m = absurd (m refl)
  held_stays (Err Unprinted) d n m = d.0.held
  held_stays (Err NoMemory) d n m = d.0.held
