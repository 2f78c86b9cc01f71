use Rattle.std.specs.Cmp.{both_ways}
use Rattle.api_documents.proofs.SameDescs.{same_desc-is}
use Rattle.api_documents.proofs.error_names.is_same.Goals as goal

pub returns : goal.returns
returns c =
    let same = same_desc-is c.args.desc.now c.args.other.now in
    both_ways _ _ (λ t. same.1 (c.equals.ensures.0 t)) (λ t. c.equals.ensures.1 (same.0 t))
