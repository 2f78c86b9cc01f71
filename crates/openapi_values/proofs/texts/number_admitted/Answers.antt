use Rattle.std.proofs.Common.{rules}
use Rattle.std.specs.Str.{chars}
use Rattle.openapi_values.proofs.CutAlike.{told_cut}
use Rattle.openapi_values.proofs.texts.number_admitted.Goals as goal

pub returns-in-Some : goal.returns-in-Some
returns-in-Some c = told_cut c.args.doc.now c.args.schema.now c.requires.doc c.requires.schema (chars c.args.text.now) _ (search rules) c.json_admits.result c.json_admits.ensures
