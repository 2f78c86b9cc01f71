-- Frames that are thrown away one by one.
use Rattle.std.proofs.Common.{◌≡◌, ℕ, ◌+◌, ◌-◌, ◌^◌, min, List, [], ◌∷◌, ◌++◌, length, arith, ap, ◌∙◌}
use Rattle.std.specs.Prelude.{Some}
use Rattle.std.proofs.lemmas.List.{length-append}
use Rattle.http_bodies.specs.declared.frame.Frame.{Frame}
use Rattle.http_bodies.specs.Frames.{SourceState, data_of, all_data}
use Rattle.http_bodies.specs.Sources.{GivesFrame, GoesOn, TakesFrames}
use Rattle.http_bodies.proofs.Taken.{all_data-more, takes-more}
use Rattle.http_bodies.specs.Dumping.{data_size}

-- so many frames came, with so many bytes, and no call failed
pub record IsDumping (start now : SourceState) (sum count : ℕ) : Type 0 where
  pub came : List Frame
  pub taken : TakesFrames start.left came now.left
  pub counted : length came ≡ count
  pub size : sum ≡ data_size came
  pub faults : now.faults ≡ start.faults
  pub same : now.can_fail ≡ start.can_fail

size-more : (came : List Frame) (frame : Frame) (sum : ℕ)
    → sum ≡ data_size came → min (sum + length (data_of frame)) (2 ^ 64 - 1) ≡ data_size (came ++ frame ∷ [])
size-more came frame sum is =
    omega (arith, is, ap length (all_data-more came frame), length-append (all_data came) (data_of frame))

-- one frame more came
pub dumping_more : (start now after : SourceState) (sum count : ℕ) (frame : Frame)
    → IsDumping start now sum count → GivesFrame now.left (Some frame) after.left
    → after.faults ≡ now.faults → GoesOn now after
    → IsDumping start after (min (sum + length (data_of frame)) (2 ^ 64 - 1)) (count + 1)
dumping_more start now after sum count frame d gives kept on = record {
  came = d.came ++ frame ∷ [];
  taken = takes-more start.left now.left after.left d.came frame d.taken gives;
  counted = let h = d.counted in omega (arith, h, length-append d.came (frame ∷ []));
  size = size-more d.came frame sum d.size;
  faults = kept ∙ d.faults;
  same = on.same ∙ d.same;
}
