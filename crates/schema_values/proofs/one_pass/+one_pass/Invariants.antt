use Rattle.std.proofs.Common.{◌≡◌, ℕ, ◌+◌, ◌*◌, ◌≤◌, List, length}
use Rattle.json.specs.Json as tree
use Rattle.json.specs.Json.{items, members, value, parse_map}
use Rattle.serde_json.specs.Data.{Members}
use Rattle.schema_values.proofs.AscendingLemmas.{Sorted}
use Rattle.schema_values.proofs.OnePassSteps.{AreReadAs, ArePut, items_before, members_before}
use Rattle.schema_values.proofs.Grammar.{Kept}
use Rattle.schema_values.proofs.one_pass.+one_pass.Given as goal

abbrev pub decreases-read_value : goal.decreases-read_value
decreases-read_value l = 2 * l.depth

abbrev pub decreases-read_items : goal.decreases-read_items
decreases-read_items l = 2 * l.depth + 1

abbrev pub decreases-read_members : goal.decreases-read_members
decreases-read_members l = 2 * l.depth + 1

abbrev pub invariant-read_items-items : goal.invariant-read_items-items
invariant-read_items-items l =
    (n : ℕ) × (js : List tree.Json) × (length l.reader ≤ n) × (length l.reader ≤ length l.initial.reader) × AreReadAs js l.found
    × (items (value l.depth) (length l.initial.reader) l.initial.reader ≡ parse_map (items_before js) (items (value l.depth) n l.reader))

abbrev pub decreases-read_items-items : goal.decreases-read_items-items
decreases-read_items-items l = length l.reader

abbrev pub invariant-read_members-members : goal.invariant-read_members-members
invariant-read_members-members l =
    (n : ℕ) × (ms : List (List ℕ × tree.Json)) × (length l.reader ≤ n) × (length l.reader ≤ length l.initial.reader)
    × (kept : Members) × ArePut ms kept × Kept kept l.found × Sorted l.found
    × (members (value l.depth) (length l.initial.reader) l.initial.reader ≡ parse_map (members_before ms) (members (value l.depth) n l.reader))

abbrev pub decreases-read_members-members : goal.decreases-read_members-members
decreases-read_members-members l = length l.reader
