use Rattle.typed_extractors.proofs.PageParts.{paged_arg}
use Rattle.typed_extractors.proofs.paged_query.PagedQuerySharedExtractor.from_arg.Goals as goal

pub params_in-requires : goal.params_in-requires
params_in-requires g c =
    paged_arg g.S.ApiType.definitions_of g.P.ApiType.definitions_of g.S.ApiType.desc_of g.P.ApiType.desc_of
    c.args.arg.now c.requires
