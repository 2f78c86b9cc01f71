-- What bodies of one content give alike, however they are cut into frames: all but a stream, which is the body as it
-- stands.
use Rattle.std.specs.Prelude.{◌≡◌, map}
use Rattle.std.specs.declared.result.Result.TheVariants.{Ok, Err}
use Rattle.http_bodies.specs.Bodies.{BodyState, frames_of}
use Rattle.http_bodies.specs.Frames.{all_data}
use Rattle.body_reading.specs.Streams.{StreamState}
use Rattle.handler_shapes.specs.declared.arguments.Arg.{Arg}
use Rattle.handler_shapes.specs.declared.arguments.Arg.TheVariants.{Tree as OfTree, Raw, Stream}
use Rattle.api_extract.specs.Denotes.{GivenArgs, Terms}
use Rattle.api_extract.specs.Extraction.{IsWithin}

-- two bodies of the same content, within the limit and the budget of frames
pub record AreCutsOfOne (terms : Terms) (one other : BodyState) : Type 0 where
  pub one_within : IsWithin terms one
  pub other_within : IsWithin terms other
  pub same : all_data (frames_of one) ≡ all_data (frames_of other)

-- an argument, with this stream in the place of another
abbrev pub with_stream : StreamState → Arg → Arg
with_stream stream (OfTree tree) = OfTree tree
with_stream stream (Raw bytes) = Raw bytes
with_stream stream (Stream other) = Stream stream

-- the same of all arguments that are given; an error stays
abbrev pub with_streams : StreamState → GivenArgs → GivenArgs
with_streams stream (Ok args) = Ok (map (with_stream stream) args)
with_streams stream (Err error) = Err error
