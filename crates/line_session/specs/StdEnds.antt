-- What the ends over std show: what they stand over, and how often it has failed.
use Rattle.std.specs.Prelude.{ℕ}
use Rattle.line_session.specs.declared.std_ends.StdSource.{StdSource}
use Rattle.line_session.specs.declared.std_ends.StdSink.{StdSink}

-- what the source reads from
abbrev pub source_reader : {R : Type 0} → StdSource R → R
source_reader source = source.inner

-- how often the source has failed
abbrev pub source_faults : {R : Type 0} → StdSource R → ℕ
source_faults source = source.faults

-- what the sink writes to
abbrev pub sink_writer : {W : Type 0} → StdSink W → W
sink_writer sink = sink.inner

-- how often the sink has failed
abbrev pub sink_faults : {W : Type 0} → StdSink W → ℕ
sink_faults sink = sink.faults
