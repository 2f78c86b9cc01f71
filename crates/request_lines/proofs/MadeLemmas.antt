-- What is made of the values of a line, list by list.
use Rattle.std.proofs.Common.{◌≡◌, ℕ, List, [], map}
use Rattle.std.specs.List.{AllZip}
use Rattle.std.proofs.lemmas.List.Elements.{All-from_recursion, recursion_from_All}
use Rattle.header_lists.specs.HeaderLists.{Line}
use Rattle.schema_values.specs.declared.json_value.Json.{Json}
use Rattle.http.specs.declared.version.TheConstants.Version.{HTTP_11}
use Rattle.http_uri.specs.declared.uri.Uri.{Uri}
use Rattle.http_bodies.specs.declared.frame.Frame.{Frame}
use Rattle.request_parts.specs.declared.info.RequestInfo.{RequestInfo}
use Rattle.request_lines.specs.RequestLines.{AreFieldLines, AreFrames, IsFieldLine, IsFrame, WrittenFrame, WrittenLine}
use Rattle.request_lines.specs.RequestLines.{field_line}
use Rattle.request_lines.specs.Said.{IsFieldOf, IsFrameOf, IsLineOf, SaysFrame, SaysLine}
use Rattle.request_lines.proofs.ListLemmas.{beside_images, images_of, zip_join, zip_split}

-- the head of a method, a target and header lines
abbrev pub head_with : List ℕ → Uri → List Line → RequestInfo
head_with method uri lines = record {
  method = method;
  uri = uri;
  version = HTTP_11;
  headers = lines;
  remote_addr = [];
}

-- header lines
pub lines_made : (items : List Json) (made : List Line) → AllZip IsLineOf items made
    → (lines : List WrittenLine) × AllZip SaysLine items lines × AreFieldLines lines × (made ≡ map field_line lines)
lines_made items made zip =
    let (lines, said, fields) = zip_split SaysLine IsFieldOf items made zip in
    let (all, are) = images_of IsFieldLine field_line lines made fields in
    (lines, said, All-from_recursion IsFieldLine lines all, are)

pub lines_said : (items : List Json) (lines : List WrittenLine) → AllZip SaysLine items lines → AreFieldLines lines
    → AllZip IsLineOf items (map field_line lines)
lines_said items lines said fields =
    zip_join SaysLine IsFieldOf items lines (map field_line lines) said
    (beside_images IsFieldLine field_line lines (recursion_from_All IsFieldLine lines fields))

-- frames
pub frames_made : (items : List Json) (frames : List Frame) → AllZip IsFrameOf items frames
    → (written : List WrittenFrame) × AllZip SaysFrame items written × AreFrames written frames
frames_made items frames zip = zip_split SaysFrame IsFrame items frames zip

pub frames_said : (items : List Json) (written : List WrittenFrame) (frames : List Frame)
    → AllZip SaysFrame items written → AreFrames written frames → AllZip IsFrameOf items frames
frames_said items written frames said are = zip_join SaysFrame IsFrame items written frames said are
