use Rattle.std.proofs.Common.{◌≡◌, List, codes, map, sym, ◌∙◌, ap, subst}
use Rattle.header_lists.specs.HeaderLists.{Line}
use Rattle.request_parts.specs.Requests.{Request}
use Rattle.request_parts.specs.Wire.{wire_line}
use Rattle.handler_shapes.specs.declared.slot.Slot.{Slot}
use Rattle.handler_shapes.specs.declared.slot.Slot.TheVariants.{Path}
use Rattle.flat_maps.specs.Flat.{flat_told}
use Rattle.flat_maps.specs.Maps.{map_values}
use Rattle.header_texts.specs.HeaderTexts.{headers_told}
use Rattle.api_extract.specs.Answers.{IsGiven}
use Rattle.api_extract.specs.Extraction.{plainly_told}
use Rattle.api_extract.specs.Refusals.{told_as}
use Rattle.api_extract.proofs.Told.{told_by}
use Rattle.api_extract.proofs.shared.shared_argument.Goals as goal

pub returns-in-Path : goal.returns-in-Path
returns-in-Path c =
    let table = c.args.table.now in
    let result = c.tree_argument.result in
    let told = flat_told table (map_values (λ value. value) c.request.inside.variables) c.in-Path.desc in
    let given = c.tree_argument.ensures told
    (told_by told c.decode_map-answer.result c.decode_map-answer.ensures.denotes c.decode_map-answer.ensures.fault)
    in
    subst (λ (slot : Slot). IsGiven result (plainly_told table c.args.request.now slot)) (sym c.in-Path.is) (
    subst (λ (request : Request). IsGiven result
    (plainly_told table request (Path c.in-Path.desc))) c.request.view_is given)

pub returns-in-Header : goal.returns-in-Header
returns-in-Header c =
    let table = c.args.table.now in
    let result = c.tree_argument-in-Header.result in
    let told = headers_told table (map wire_line c.headers.result.now) c.in-Header.desc in
    let given = c.tree_argument-in-Header.ensures told
    (told_by told c.decode_headers-answer.result c.decode_headers-answer.ensures.denotes
    c.decode_headers-answer.ensures.fault) in
    let same : c.headers.result.now ≡ c.args.request.now.info.headers = c.headers.ensures
    ∙ ap (λ (request : Request). request.info.headers) c.request.view_is in
    subst (λ (slot : Slot). IsGiven result (plainly_told table c.args.request.now slot)) (sym c.in-Header.is) (
    subst (λ (lines : List Line). IsGiven result
    (told_as (codes "error processing headers: ")
    (headers_told table (map wire_line lines) c.in-Header.desc))) same given)
