use Rattle.std.proofs.Common.{[], None}
use Rattle.api_types.proofs.CallerLemmas.{list_reaches, words_reach}
use Rattle.request_lines.specs.RequestLines.{any_text, texts}
use Rattle.line_types.proofs.Choices.{choice_reaches}
use Rattle.line_types.proofs.variable.LineVariableApiType.reach.Goals as goal

pub returns : goal.returns
returns c =
    let text = words_reach None None None in
    choice_reaches any_text texts text (list_reaches [] any_text text)
