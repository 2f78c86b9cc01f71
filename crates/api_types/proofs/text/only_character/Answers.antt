use Rattle.std.proofs.Common.{sym, ◌∙◌, ap, length}
use Rattle.api_types.proofs.Characters.{none_left, only_first}
use Rattle.api_types.proofs.text.only_character.Goals as goal

pub unreachable-requires : goal.unreachable-requires
unreachable-requires c =
    none_left c.args.text.now c.as_str.result.now c.as_str.ensures (sym (ap length c.chars.ensures.rest) ∙ c.in-None.ensures.steps.0.0) c.requires

pub returns : goal.returns
returns c =
    only_first c.args.text.now c.as_str.result.now c.next.new.self.rest.now c.in-Some.character c.as_str.ensures c.as_str.utf8 (sym c.chars.ensures.rest ∙ c.in-Some.ensures.steps.0) c.requires
