use Rattle.std.proofs.Common.{[], append-nil, sym}
use Rattle.interval_file.specs.IntervalHeader.{header_bytes}
use Rattle.signal_commands.specs.PcmPath.{path_header}
use Rattle.signal_commands.proofs.PathOn.{nothing_so_far}
use Rattle.signal_commands.proofs.path_sound.PathSound.new.Goals as goal

-- the header is written
pub returns-clause-hears : goal.returns-clause-hears
returns-clause-hears c =
    let p = c.args.path.now in
    record {
      count = c.new.ensures.count;
      given = [];
      front = c.new.ensures.stands;
      so_far = nothing_so_far p.grid p.ticks p.least;
      are = sym (append-nil (header_bytes (path_header p)));
    }
