-- A token that encodes what is written of a tree reads as the tree.
use Rattle.std.proofs.Common.{◌∙◌, ℕ, List}
use Rattle.schema_values.specs.declared.json_value.Json.{Json}
use Rattle.schema_values.specs.Sound.{IsSound}
use Rattle.schema_values.specs.SortedMembers.{sorted_members}
use Rattle.descriptors.specs.declared.desc.Desc.{Desc}
use Rattle.descriptors.specs.declared.table.Definition.{Definition}
use Rattle.descriptors.specs.declared.tree.Tree.{Tree}
use Rattle.typed_values.specs.Checks.{TablePasses}
use Rattle.typed_values.specs.Denotes.{JsonDenotes}
use Rattle.typed_values.specs.Parts.{the_whole}
use Rattle.typed_values.proofs.CallerLemmas.{of_whole}
use Rattle.page_tokens.specs.Encoded.{EncodesJson}
use Rattle.page_tokens.specs.Forms.{v1}
use Rattle.page_tokens.specs.Reaching.{ReachesNoAny}
use Rattle.page_tokens.specs.Tokens.{TokenReads}
use Rattle.page_tokens.proofs.InOrder.{same_in_order}
use Rattle.page_tokens.proofs.Objects.{in_order_starts}

pub reads_again : (table : List Definition) (selector : Desc) → TablePasses table → ReachesNoAny table selector → (start : Json) → IsSound start → (tree : Tree) → JsonDenotes table selector start tree
    → (token : List ℕ) → EncodesJson token (sorted_members (v1.object start)) → TokenReads v1 table selector token tree
reads_again table selector passes none start sound tree denotes token encodes = record {
  bytes = encodes.bytes;
  small = encodes.small;
  decodes = encodes.decodes;
  holds = record {
    json = sorted_members (v1.object start);
    start = sorted_members start;
    reads = encodes.reads;
    has_start = in_order_starts start;
    denotes = same_in_order table selector passes none start sound selector (of_whole the_whole) ∙ denotes;
  };
}
