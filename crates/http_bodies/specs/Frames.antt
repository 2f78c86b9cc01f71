-- Frames of a body (RFC 9110, sections 6.4 and 6.5), and what a source of them is seen as (of this library).
use Rattle.std.specs.Prelude.{ℕ, Bool, List, [], ◌∷◌, Option}
use Rattle.std.specs.List.{flat_map}
use Rattle.http_bodies.specs.declared.frame.Frame.{Frame}
use Rattle.http_bodies.specs.declared.frame.Frame.TheVariants.{Bytes, Trailers}

-- the frames that are left, where the source tells them; how often it has failed; whether a call can fail
pub record SourceState : Type 0 where
  pub left : Option (List Frame)
  pub faults : ℕ
  pub can_fail : Bool

-- the bytes of content in a frame; trailers have none
abbrev pub data_of : Frame → List ℕ
data_of (Bytes bytes) = bytes
data_of (Trailers lines) = []

-- the content that frames have together, one after the other
abbrev pub all_data : List Frame → List ℕ
all_data frames = flat_map data_of frames

-- the frames of a content: one, or none where it is empty
abbrev pub content_frames : List ℕ → List Frame
content_frames [] = []
content_frames (byte ∷ bytes) = Bytes (byte ∷ bytes) ∷ []
