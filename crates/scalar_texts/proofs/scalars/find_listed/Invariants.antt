use Rattle.std.proofs.Common.{◌≡◌, drop}
use Rattle.std.specs.Str.{chars}
use Rattle.descriptors.specs.Definitions.{listed_name}
use Rattle.typed_values.specs.Denotes.{named_from}
use Rattle.scalar_texts.proofs.scalars.find_listed.Given as goal

abbrev pub invariant-loop-place : goal.invariant-loop-place
invariant-loop-place l = named_from listed_name l.place (drop l.place l.names) (chars l.text) ≡ named_from listed_name 0 l.names (chars l.text)
