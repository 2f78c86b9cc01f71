use Rattle.std.proofs.Common.{◌≡◌, take}
use Rattle.path_templates.proofs.characters.text_of.Given as goal

abbrev pub invariant-loop-character : goal.invariant-loop-character
invariant-loop-character l = l.text ≡ take l.character-index l.characters
