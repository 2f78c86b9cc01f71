use Rattle.std.proofs.Common.{sym, ◌∙◌}
use Rattle.tag_config.proofs.Passing.{configuration_passes}
use Rattle.tag_config.proofs.Told.{denoted, fault_told, none_denoted}
use Rattle.tag_config.proofs.config.TagConfig.from_json.Goals as goal

pub decoded-requires-clause-passes : goal.decoded-requires-clause-passes
decoded-requires-clause-passes c = rw (c.name_by-policy.ensures.name, c.name_by-tags.ensures.name) (configuration_passes c.args.json.now)

pub returns-clause-denotes : goal.returns-clause-denotes
returns-clause-denotes c =
    denoted c.args.json.now _ _ c.name_by-policy.ensures.name c.name_by-tags.ensures.name (sym c.is_doubled.ensures ∙ c.if-is_doubled.false) (sym c.is_doubled-2.ensures ∙ c.if-is_doubled-2.false)
    c.decoded.result c.decoded.ensures.denotes

pub returns-clause-fault : goal.returns-clause-fault
returns-clause-fault c =
    fault_told c.args.json.now _ _ c.name_by-policy.ensures.name c.name_by-tags.ensures.name (sym c.is_doubled.ensures ∙ c.if-is_doubled.false) (sym c.is_doubled-2.ensures ∙ c.if-is_doubled-2.false)
    c.decoded.result c.decoded.ensures.fault

pub returns-clause-refused : goal.returns-clause-refused
returns-clause-refused c =
    none_denoted c.args.json.now _ _ c.name_by-policy.ensures.name c.name_by-tags.ensures.name (sym c.is_doubled.ensures ∙ c.if-is_doubled.false) (sym c.is_doubled-2.ensures ∙ c.if-is_doubled-2.false)
    c.decoded.result c.decoded.ensures.fault
