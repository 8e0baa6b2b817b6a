use Rattle.zero_runs.proofs.RoundTrip.{unpacked-packed, expand-packed, packed-zeros, packed-other, length-packed}
use Rattle.zero_runs.proofs.laws.unpack_inverts_pack.Goals as goal

pub returns : goal.returns
returns c = record {
  inverts = unpacked-packed;
  trims = expand-packed;
  zeros = packed-zeros;
  other = packed-other;
  short = length-packed;
}
