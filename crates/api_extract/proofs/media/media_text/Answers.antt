use Rattle.std.proofs.Common.{◌∙◌, ap, chars}
use Rattle.api_extract.proofs.ShownMedia.{shown_chars, shown_utf8}
use Rattle.api_extract.proofs.media.media_text.Goals as goal

pub unreachable-requires : goal.unreachable-requires
unreachable-requires c = c.in-Err.ensures.cases.0 (shown_utf8 c.args.media.now c.requires)

pub returns-clause-characters : goal.returns-clause-characters
returns-clause-characters c = ap chars c.in-Ok.ensures.cases.0 ∙ shown_chars c.args.media.now c.requires
