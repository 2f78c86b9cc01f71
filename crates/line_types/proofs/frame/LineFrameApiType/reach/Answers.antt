use Rattle.std.proofs.Common.{None}
use Rattle.api_types.proofs.CallerLemmas.{words_reach}
use Rattle.request_lines.specs.RequestLines.{any_text, digits_desc}
use Rattle.line_types.proofs.Choices.{choice_reaches}
use Rattle.line_types.proofs.frame.LineFrameApiType.reach.Goals as goal

pub returns : goal.returns
returns c = choice_reaches any_text digits_desc (words_reach None None None) c.reach.ensures
