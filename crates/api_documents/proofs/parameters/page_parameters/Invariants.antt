use Rattle.std.proofs.Common.{◌≡◌, ◌++◌, map, take}
use Rattle.written_texts.specs.PageParameters.{scan_parameter}
use Rattle.api_documents.proofs.parameters.page_parameters.Given as goal

-- behind `limit` and `page_token` the parameters of the fields so far
abbrev pub invariant-loop-field : goal.invariant-loop-field
invariant-loop-field l =
    map (λ named. named.parameter) l.parameters.items
    ≡ map (λ named. named.parameter) l.initial.parameters.items
    ++ map (scan_parameter l.table) (take l.field-index l.fields)
