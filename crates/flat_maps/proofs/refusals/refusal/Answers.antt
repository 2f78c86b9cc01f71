use Rattle.std.proofs.Common.{List, subst}
use Rattle.std.specs.Prelude.{Contains}
use Rattle.descriptors.specs.declared.desc.Desc.{Desc}
use Rattle.descriptors.specs.declared.desc.Variant.{Variant}
use Rattle.flat_maps.proofs.Chosen.{if_some, payload_passes, alternative_passes}
use Rattle.flat_maps.proofs.refusals.refusal.Goals as goal

pub payload_refusal-requires-clause-payload : goal.payload_refusal-requires-clause-payload
payload_refusal-requires-clause-payload c =
    if_some c.payload_at.result
    (λ payload h. payload_passes c.args.table.now c.requires.table c.args.desc.now c.requires.desc c.in-External.variants c.in-External.is payload.now h.0 (subst (λ (vs : List Variant). Contains vs h.0) c.as_slice.ensures h.1) h.2)
    c.payload_at.ensures.inside

pub payload_refusal-requires-in-Untagged-clause-payload : goal.payload_refusal-requires-in-Untagged-clause-payload
payload_refusal-requires-in-Untagged-clause-payload c =
    if_some c.alternative_at.result
    (λ payload h. alternative_passes c.args.table.now c.requires.table c.args.desc.now c.requires.desc c.in-Untagged.alternatives c.in-Untagged.is payload.now (subst (λ (ds : List Desc). Contains ds payload.now) c.as_slice-in-Untagged.ensures h))
    c.alternative_at.ensures.inside
