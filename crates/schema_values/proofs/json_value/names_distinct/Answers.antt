use Rattle.schema_values.proofs.DistinctLemmas.{AreDistinct-sorted, sorted_from_adjacent}
use Rattle.schema_values.proofs.json_value.names_distinct.Goals as goal

pub returns-then-names_ascend : goal.returns-then-names_ascend
returns-then-names_ascend c =
    let ascend = c.names_ascend.ensures.0 c.if-names_ascend.true in (
      λ h. AreDistinct-sorted _ (sorted_from_adjacent c.args.members.now ascend),
      λ distinct. c.if-names_ascend.true,
    )
