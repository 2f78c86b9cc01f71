use Rattle.std.proofs.Common.{◌≡◌}
use Rattle.path_templates.proofs.characters.characters.Given as goal

abbrev pub invariant-loop-character : goal.invariant-loop-character
invariant-loop-character l = l.characters.items ≡ l.yielded
