use Rattle.interval_file.proofs.ContentsRead.{header_back}
use Rattle.interval_file.proofs.header.interval_header.Goals as goal

-- the header is read back
pub returns-clause-back : goal.returns-clause-back
returns-clause-back c =
    rw (c.version_byte-version.ensures, c.rate-system.ensures, c.write_u32.ensures)
    (header_back c.args.header.now c.requires)
