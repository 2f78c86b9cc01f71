use Rattle.std.specs.List.{AllZip}
use Rattle.request_lines.specs.Said.{IsFrameOf}
use Rattle.request_lines.proofs.request_frames.frames_of.Given as goal

-- the frames so far
abbrev pub invariant-loop-item : goal.invariant-loop-item
invariant-loop-item l = AllZip IsFrameOf l.yielded l.frames
