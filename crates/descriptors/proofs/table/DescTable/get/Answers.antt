use Rattle.std.proofs.Common.{◌∙◌, ap, sym, option_map}
use Rattle.std.specs.Str.{chars}
use Rattle.descriptors.proofs.Found.{definition_is}
use Rattle.descriptors.proofs.table.DescTable.get.Goals as goal

pub returns-in-Some : goal.returns-in-Some
returns-in-Some c = ap (option_map (λ e. e.desc)) c.in-Some.ensures ∙ sym (definition_is c.args.self.now (chars c.args.name.now))

pub returns-in-None : goal.returns-in-None
returns-in-None c = ap (option_map (λ e. e.desc)) c.in-None.ensures ∙ sym (definition_is c.args.self.now (chars c.args.name.now))
