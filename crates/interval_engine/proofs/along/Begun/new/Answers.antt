use Rattle.std.proofs.Common.{[], arith, refl, sym}
use Rattle.interval_engine.proofs.ReadSoFar.{file_is}
use Rattle.interval_engine.proofs.along.Begun.new.Goals as goal

-- the header is a file without intervals
pub returns-clause-begins : goal.returns-clause-begins
returns-clause-begins g c = λ bytes is long.
    let begun = c.begin.ensures.begins in
    let said = c.bytes_are_read_as_the_text_says.ensures.recording in (
      begun.0,
      begun.1,
      record {
        header = c.args.header;
        intervals = [];
        file = is;
        read = file_is said bytes c.args.header [] is (omega arith);
        same = refl;
        counts = refl;
        long = sym long;
        wrote = begun.2;
      },
    )
