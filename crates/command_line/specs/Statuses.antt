-- How a run ends whose session ends so; the number that the program ends with, and the text that tells why.
use Rattle.std.specs.Prelude.{ℕ, List, codes}
use Rattle.line_session.specs.declared.serving.SessionEnd.{SessionEnd}
use Rattle.line_session.specs.declared.serving.SessionEnd.TheVariants as ended
use Rattle.api_registration.specs.Texts.{error_text}
use Rattle.command_line.specs.declared.config.ToolStatus.{ToolStatus}
use Rattle.command_line.specs.declared.config.ToolStatus.TheVariants.{Done, Usage, Refused, ReadFault}
use Rattle.command_line.specs.declared.config.ToolStatus.TheVariants.{WriteFault, LineTooLong}
use Rattle.command_line.specs.declared.config.ToolStatus.TheVariants.{OutOfMemory, TooMuchInput}

-- how a run ends whose session ends so
abbrev pub status_of : SessionEnd → ToolStatus
status_of ended.Done = Done
status_of ended.ReadFault = ReadFault
status_of ended.WriteFault = WriteFault
status_of (ended.LineTooLong bytes) = LineTooLong bytes
status_of (ended.TooMuchInput bytes) = TooMuchInput bytes
status_of ended.OutOfMemory = OutOfMemory

-- each status has its own number
abbrev pub code_of : ToolStatus → ℕ
code_of Done = 0
code_of Usage = 2
code_of (Refused error) = 3
code_of ReadFault = 4
code_of WriteFault = 5
code_of (LineTooLong bytes) = 6
code_of OutOfMemory = 7
code_of (TooMuchInput bytes) = 8

-- why a run ended so; nothing of one that did all
abbrev pub status_text : ToolStatus → List ℕ
status_text Done = codes ""
status_text Usage = codes "usage: contract-tool session VERSION < REQUEST-LINES, or contract-tool document VERSION"
status_text (Refused error) = error_text error
status_text ReadFault = codes "the input could not be read"
status_text WriteFault = codes "the output could not be written"
status_text (LineTooLong bytes) = codes "a line is too long"
status_text OutOfMemory = codes "out of memory"
status_text (TooMuchInput bytes) = codes "there is too much input"
