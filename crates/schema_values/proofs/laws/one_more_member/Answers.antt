use Rattle.schema_values.proofs.MemberLemmas.{joined_members-push}
use Rattle.schema_values.proofs.laws.one_more_member.Goals as goal

pub returns : goal.returns
returns c = joined_members-push
