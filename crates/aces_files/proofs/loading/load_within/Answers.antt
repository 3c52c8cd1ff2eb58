use Rattle.std.proofs.Common.{Err, IsTrue, refl, ap}
use Rattle.aces_files.proofs.Whole.{known_alone, large_alone, long_not_failed, want_not_failed, read_not_failed}
use Rattle.aces_files.proofs.loading.load_within.Goals as goal

pub returns-in-Ok-clause-read : goal.returns-in-Ok-clause-read
returns-in-Ok-clause-read g c =
    let made = c.in-Ok.ensures.calls in
    let whole = rw c.from.ensures at made.3 in
    let within = rw c.from.ensures at c.in-Ok.ensures.within in
    record {
      calls = made.0;
      are = made.1;
      reads = made.2;
      known = known_alone g.F.Files.told (g.F.Files.held c.args.files.now) made.0 c.args.name.now c.args.limit c.in-Ok.bytes.items whole
          c.in-Ok.ensures.bytes within;
      same = c.read_whole.ensures.same;
      read_faults = read_not_failed _ c.in-Ok.bytes _ refl c.in-Ok.ensures.only_failed;
      write_faults = c.read_whole.ensures.writes;
    }

pub returns-in-Err-TooLong-clause-unread : goal.returns-in-Err-TooLong-clause-unread
returns-in-Err-TooLong-clause-unread g c =
    let made = c.in-Err-TooLong.ensures.calls in
    let long = ap Err c.in-Err-TooLong.field-0-is in
    let asked = rw c.from.ensures at (made.4 long) in
    let large = rw c.from.ensures at (λ (t : IsTrue g.F.Files.told). c.in-Err-TooLong.ensures.too_long_told t long) in
    record {
      calls = made.0;
      are = made.1;
      reads = made.2;
      cause = (
        refl,
        refl,
        large_alone g.F.Files.told (g.F.Files.held c.args.files.now) made.0 c.args.name.now c.args.limit asked large,
        long_not_failed _ _ long c.in-Err-TooLong.ensures.only_failed,
      );
      last = tt;
      same = c.read_whole.ensures.same;
      write_faults = c.read_whole.ensures.writes;
    }

pub returns-in-Err-Failed-clause-unread : goal.returns-in-Err-Failed-clause-unread
returns-in-Err-Failed-clause-unread g c =
    let made = c.in-Err-Failed.ensures.calls in
    let failed = ap Err c.in-Err-Failed.field-0-is in
    record {
      calls = made.0;
      are = made.1;
      reads = made.2;
      cause = (refl, c.in-Err-Failed.ensures.cause failed);
      last = made.6 failed;
      same = c.read_whole.ensures.same;
      write_faults = c.read_whole.ensures.writes;
    }

pub returns-in-Err-NoMemory-clause-unread : goal.returns-in-Err-NoMemory-clause-unread
returns-in-Err-NoMemory-clause-unread g c =
    let made = c.in-Err-NoMemory.ensures.calls in
    record {
      calls = made.0;
      are = made.1;
      reads = made.2;
      cause = want_not_failed _ _ (ap Err c.in-Err-NoMemory.field-0-is) c.in-Err-NoMemory.ensures.only_failed;
      last = tt;
      same = c.read_whole.ensures.same;
      write_faults = c.read_whole.ensures.writes;
    }
