use Rattle.std.proofs.Common.{◌≡◌, ◌++◌}
use Rattle.tag_config.proofs.config.copy_tags.Given as goal

abbrev pub invariant-loop-name : goal.invariant-loop-name
invariant-loop-name l = l.tags.entries ≡ l.copies.entries ++ l.name-iterator
