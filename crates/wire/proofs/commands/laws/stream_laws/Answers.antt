use Rattle.wire.proofs.Runs.{stream_reads, stream_writes, one_reading, one_encoding}
use Rattle.wire.proofs.commands.laws.stream_laws.Goals as goal

pub returns : goal.returns
returns c = record { reads = stream_reads; writes = stream_writes; reading = one_reading; encoding = one_encoding }
