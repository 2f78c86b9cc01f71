-- What errors of bodies are told as (of this library).
use Rattle.std.specs.Prelude.{ℕ, List, codes}
use Rattle.http_bodies.specs.declared.dump.DumpError.{DumpError}
use Rattle.http_bodies.specs.declared.dump.DumpError.TheVariants as dumping
use Rattle.http_bodies.specs.declared.frame.FrameError.{FrameError}
use Rattle.http_bodies.specs.declared.frame.FrameError.TheVariants as reading

-- why no frame was given
abbrev pub frame_error_text : FrameError → List ℕ
frame_error_text reading.Failed = codes "reading the body failed"
frame_error_text reading.OutOfMemory = codes "out of memory"

-- why a body was not dumped to its end
abbrev pub dump_error_text : DumpError → List ℕ
dump_error_text dumping.Failed = codes "reading the body failed"
dump_error_text dumping.FrameBudget = codes "more frames than the budget allows"
dump_error_text dumping.OutOfMemory = codes "out of memory"
