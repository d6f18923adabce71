use Rattle.std.proofs.Common.{◌≡◌, ◌*◌, length, take}
use Rattle.wave_file.specs.Format.{samples_at}
use Rattle.wave_file.proofs.decoder.read_blocks.Given as goal

-- the places so far have the samples of as many blocks
abbrev pub invariant-each : goal.invariant-each
invariant-each l = record {
  block : l.block ≡ l.format.block;
  at_is : l.at ≡ l.place * l.format.block;
  size : length l.places ≡ length l.fn.places;
  reads : take l.place l.places ≡ samples_at l.format l.asked l.place l.blocks;
}
