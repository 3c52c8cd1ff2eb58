-- What a command did to the outside, by how it ended, whatever it was asked for.
use Rattle.std.proofs.Common.{◌≡◌, ℕ, ◌⊎◌, inl, inr, List, Ok, Err, Result, refl, ap, arith}
use Rattle.base_outside.specs.Sinks.{SinkState, PutsLine}
use Rattle.aces_reports.specs.declared.failure.Done.{Done}
use Rattle.aces_reports.specs.declared.failure.Done.TheVariants.{Completed, RunFailed, Negative, FaultTold, NoRoomTold}
use Rattle.aces_reports.specs.declared.failure.Failure.{Failure}
use Rattle.aces_reports.specs.declared.failure.Failure.TheVariants.{Refused, PastLimit, Denied, NoRoom, Unread, Unwritten, Unprinted, NoMemory}
use Rattle.aces_reports.specs.Ends.{status_of, line_of}
use Rattle.aces_words.specs.Requests.{Request, Run, Bin, Compile, Check, Source, Where, Listing, Stack, Audit, Tables, Who, Symbols, Help, Selftest, Watch, State, Why, Explain, ExplainPlan, Asks}
use Rattle.aces_files.specs.Outcomes.{Outcome}
use Rattle.aces_files.specs.Effects.{World, Does, IsPrintedInPart}
use Rattle.aces_cli.specs.Endings.{TellsUnwritten, TellsUnprinted, AsksForSource, TellsOutOfMemory}
use Rattle.aces_cli.specs.Seen.{between}

-- how a command ended is told by no status 2
pub is_no_usage : (e : Result Done Failure) → status_of e ≡ 2 → ⊥
is_no_usage (Ok Completed) q = let f : ⊥ = omega (arith, q) in f
is_no_usage (Ok RunFailed) q = let f : ⊥ = omega (arith, q) in f
is_no_usage (Ok Negative) q = let f : ⊥ = omega (arith, q) in f
is_no_usage (Ok FaultTold) q = let f : ⊥ = omega (arith, q) in f
is_no_usage (Ok NoRoomTold) q = let f : ⊥ = omega (arith, q) in f
is_no_usage (Err (Refused name f)) q = let f : ⊥ = omega (arith, q) in f
is_no_usage (Err (PastLimit which count)) q = let f : ⊥ = omega (arith, q) in f
is_no_usage (Err (Denied said)) q = let f : ⊥ = omega (arith, q) in f
is_no_usage (Err (NoRoom lack)) q = let f : ⊥ = omega (arith, q) in f
is_no_usage (Err (Unread name)) q = let f : ⊥ = omega (arith, q) in f
is_no_usage (Err (Unwritten name)) q = let f : ⊥ = omega (arith, q) in f
is_no_usage (Err Unprinted) q = let f : ⊥ = omega (arith, q) in f
is_no_usage (Err NoMemory) q = let f : ⊥ = omega (arith, q) in f

module _ (A : Outcome → Type 0) (r : Request) (old new : World) where
  pub read_faults_stay : (e : Result Done Failure) → Does A r old new e → (status_of e ≡ 4) ⊎ (new.read_faults ≡ old.read_faults)
  read_faults_stay (Ok Completed) d = inr d.all.read_faults
  read_faults_stay (Ok RunFailed) d = inr d.all.read_faults
  read_faults_stay (Ok Negative) d = inr d.all.read_faults
  read_faults_stay (Ok FaultTold) d = inr d.all.read_faults
  read_faults_stay (Ok NoRoomTold) d = inr d.all.read_faults
  read_faults_stay (Err (Refused name f)) d = inr d.read_faults
  read_faults_stay (Err (PastLimit which count)) d = inr d.read_faults
  read_faults_stay (Err (Denied said)) d = inr d.read_faults
  read_faults_stay (Err (NoRoom lack)) d = inr d.read_faults
  read_faults_stay (Err (Unread name)) d = inl refl
  read_faults_stay (Err (Unwritten name)) d = inr d.0.read_faults
  read_faults_stay (Err Unprinted) d = inr d.0.read_faults
  read_faults_stay (Err NoMemory) d = inr d.0.read_faults

  out_faults_stay : new.out ≡ old.out → new.out.faults ≡ old.out.faults
  out_faults_stay q = ap (λ (s : SinkState). s.faults) q

  pub write_faults_stay : (e : Result Done Failure) → Does A r old new e
      → (status_of e ≡ 5) ⊎ ((new.write_faults ≡ old.write_faults) × (new.out.faults ≡ old.out.faults))
  write_faults_stay (Ok Completed) d = inr (d.all.write_faults, d.all.faults)
  write_faults_stay (Ok RunFailed) d = inr (d.all.write_faults, d.all.faults)
  write_faults_stay (Ok Negative) d = inr (d.all.write_faults, d.all.faults)
  write_faults_stay (Ok FaultTold) d = inr (d.all.write_faults, d.all.faults)
  write_faults_stay (Ok NoRoomTold) d = inr (d.all.write_faults, d.all.faults)
  write_faults_stay (Err (Refused name f)) d = inr (d.quiet.write_faults, out_faults_stay d.quiet.out)
  write_faults_stay (Err (PastLimit which count)) d = inr (d.quiet.write_faults, out_faults_stay d.quiet.out)
  write_faults_stay (Err (Denied said)) d = inr (d.quiet.write_faults, out_faults_stay d.quiet.out)
  write_faults_stay (Err (NoRoom lack)) d = inr (d.quiet.write_faults, out_faults_stay d.quiet.out)
  write_faults_stay (Err (Unread name)) d = inr (d.quiet.write_faults, out_faults_stay d.quiet.out)
  write_faults_stay (Err (Unwritten name)) d = inl refl
  write_faults_stay (Err Unprinted) d = inl refl
  write_faults_stay (Err NoMemory) d = inr (d.0.write_faults, d.0.faults)

  module _ (words : List (List ℕ)) (asks : Asks words r) (err_old err_new : SinkState) where
    pub unwritten : (e : Result Done Failure) → status_of e ≡ 5 → Does A r old new e → PutsLine err_old err_new (line_of e)
        → TellsUnwritten words (between old new err_old err_new) ⊎ TellsUnprinted (between old new err_old err_new)
    unwritten (Ok Completed) q d l = let f : ⊥ = omega (arith, q) in absurd f
    unwritten (Ok RunFailed) q d l = let f : ⊥ = omega (arith, q) in absurd f
    unwritten (Ok Negative) q d l = let f : ⊥ = omega (arith, q) in absurd f
    unwritten (Ok FaultTold) q d l = let f : ⊥ = omega (arith, q) in absurd f
    unwritten (Ok NoRoomTold) q d l = let f : ⊥ = omega (arith, q) in absurd f
    unwritten (Err (Refused name f)) q d l = let f : ⊥ = omega (arith, q) in absurd f
    unwritten (Err (PastLimit which count)) q d l = let f : ⊥ = omega (arith, q) in absurd f
    unwritten (Err (Denied said)) q d l = let f : ⊥ = omega (arith, q) in absurd f
    unwritten (Err (NoRoom lack)) q d l = let f : ⊥ = omega (arith, q) in absurd f
    unwritten (Err (Unread name)) q d l = let f : ⊥ = omega (arith, q) in absurd f
    unwritten (Err (Unwritten name)) q d l = inl (record { request = r; asks = asks; name = name.now; unwritten = d.0; says = l })
    unwritten (Err Unprinted) q d l = inr (record { unprinted = d.0; says = l })
    unwritten (Err NoMemory) q d l = let f : ⊥ = omega (arith, q) in absurd f

    -- only a run of the source prints before memory runs out
    quiet_or_source : (q : Request) → Asks words q → IsPrintedInPart A r old new q → (new.out ≡ old.out) ⊎ AsksForSource words
    quiet_or_source (Run image tape steps) a h = inl h
    quiet_or_source (Bin image file) a h = inl h
    quiet_or_source (Compile firmware board policy image) a h = inl h
    quiet_or_source (Check firmware) a h = inl h
    quiet_or_source (Source firmware policy tape steps) a h = inr (record { firmware = firmware; policy = policy; tape = tape; steps = steps; asks = a })
    quiet_or_source (Where firmware policy tape steps) a h = inl h
    quiet_or_source (Listing firmware board policy) a h = inl h
    quiet_or_source (Stack firmware board policy) a h = inl h
    quiet_or_source (Audit image) a h = inl h
    quiet_or_source (Tables image) a h = inl h
    quiet_or_source (Who firmware board policy) a h = inl h
    quiet_or_source (Symbols firmware board policy) a h = inl h
    quiet_or_source Help a h = inl h
    quiet_or_source (Selftest seed size) a h = inl h
    quiet_or_source (Watch image tape steps address) a h = inl h
    quiet_or_source (State image tape steps) a h = inl h
    quiet_or_source (Why firmware) a h = inl h
    quiet_or_source (Explain firmware) a h = inl h
    quiet_or_source (ExplainPlan firmware board policy) a h = inl h

    pub out_of_memory : (e : Result Done Failure) → status_of e ≡ 6 → Does A r old new e → PutsLine err_old err_new (line_of e)
        → TellsOutOfMemory words (between old new err_old err_new)
    out_of_memory (Ok Completed) q d l = let f : ⊥ = omega (arith, q) in absurd f
    out_of_memory (Ok RunFailed) q d l = let f : ⊥ = omega (arith, q) in absurd f
    out_of_memory (Ok Negative) q d l = let f : ⊥ = omega (arith, q) in absurd f
    out_of_memory (Ok FaultTold) q d l = let f : ⊥ = omega (arith, q) in absurd f
    out_of_memory (Ok NoRoomTold) q d l = let f : ⊥ = omega (arith, q) in absurd f
    out_of_memory (Err (Refused name f)) q d l = let f : ⊥ = omega (arith, q) in absurd f
    out_of_memory (Err (PastLimit which count)) q d l = let f : ⊥ = omega (arith, q) in absurd f
    out_of_memory (Err (Denied said)) q d l = let f : ⊥ = omega (arith, q) in absurd f
    out_of_memory (Err (NoRoom lack)) q d l = let f : ⊥ = omega (arith, q) in absurd f
    out_of_memory (Err (Unread name)) q d l = let f : ⊥ = omega (arith, q) in absurd f
    out_of_memory (Err (Unwritten name)) q d l = let f : ⊥ = omega (arith, q) in absurd f
    out_of_memory (Err Unprinted) q d l = let f : ⊥ = omega (arith, q) in absurd f
    out_of_memory (Err NoMemory) q d l = record { out_of_memory = d.0; quiet = quiet_or_source r asks d.1; says = l }
