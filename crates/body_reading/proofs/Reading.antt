-- The loop that reads a body whole.
use Rattle.std.proofs.Common.{◌≡◌, ℕ, ◌+◌, ◌-◌, ◌^◌, ◌<◌, ◌≤◌, inl, inr, List, [], ◌∷◌, ◌++◌, length, arith, sym, ap, ◌∙◌, refl, subst}
use Rattle.std.specs.Prelude.{◌⊎◌, Option, Some, None, Ok, Err}
use Rattle.std.proofs.lemmas.List.{length-append, nil_from_length, take_all}
use Rattle.http_bodies.proofs.CallerLemmas.{all_data-more}
use Rattle.http_bodies.specs.declared.frame.Frame.{Frame}
use Rattle.http_bodies.specs.declared.frame.FrameError.{FrameError}
use Rattle.http_bodies.specs.declared.frame.FrameError.TheVariants as frame
use Rattle.http_bodies.specs.Dumping.{data_size}
use Rattle.http_bodies.specs.Frames.{SourceState, data_of, all_data}
use Rattle.http_bodies.specs.Sources.{GivesFrame, GoesOn, IsAtEnd, TakesFrames}
use Rattle.body_reading.specs.declared.whole.BodyError.{BodyError}
use Rattle.body_reading.specs.declared.whole.BodyError.TheVariants as body
use Rattle.body_reading.specs.Whole.{HasCause, HasContent, IsCutShort, Reads, TakesAtMost, TakesRoom, body_error_of}
use Rattle.body_reading.proofs.FirstAbove.{data_length-append, data_length-more, first_above, take_front}
use Rattle.body_reading.proofs.Taking.{takes_both}

-- so many frames came, with this content, and no call failed
pub record IsReading (start now : SourceState) (limit : ℕ) (content : List ℕ) (count : ℕ) : Type 0 where
  pub came : List Frame
  pub taken : TakesFrames start.left came now.left
  pub counted : length came ≡ count
  pub content_is : content ≡ all_data came
  pub small : length content ≤ limit
  pub faults : now.faults ≡ start.faults
  pub same : now.can_fail ≡ start.can_fail

-- one frame more came, and its content fits
pub reading_more : (start now after : SourceState) (limit : ℕ) (content : List ℕ) (count : ℕ) (f : Frame)
    → IsReading start now limit content count → GivesFrame now.left (Some f) after.left
    → after.faults ≡ now.faults → GoesOn now after → length content + length (data_of f) ≤ limit
    → IsReading start after limit (content ++ data_of f) (count + 1)
reading_more start now after limit content count f d gives kept on fits = record {
  came = d.came ++ f ∷ [];
  taken = takes_both start.left now.left after.left d.came (f ∷ []) d.taken gives;
  counted = let h = d.counted in omega (arith, h, length-append d.came (f ∷ []));
  content_is = ap (λ (bytes : List ℕ). bytes ++ data_of f) d.content_is ∙ sym (all_data-more d.came f);
  small = omega (arith, length-append content (data_of f));
  faults = kept ∙ d.faults;
  same = on.same ∙ d.same;
}

-- frames with content came, so the source has some
pub content_came : (start now : Option (List Frame)) (came : List Frame) → TakesFrames start came now → ¬ (all_data came ≡ []) → HasContent start
content_came None now came taken some = tt
content_came (Some before) None came taken some = absurd taken
content_came (Some before) (Some after) came taken some = λ none.
    let size = ap (λ (frames : List Frame). length (all_data frames)) taken in
    let nothing = ap length none in
    some (nil_from_length (all_data came) (omega (arith, data_length-append came after)))

cut_short : (error : FrameError) → IsCutShort (Err (body_error_of error))
cut_short frame.Failed = tt
cut_short frame.OutOfMemory = tt

-- a call gave no frame
pub reading_fails : (start now after : SourceState) (limit budget : ℕ) (content : List ℕ) (count : ℕ) (error : FrameError)
    → IsReading start now limit content count → after.left ≡ now.left → count < budget + 1
    → Reads limit budget start.left after.left (Err (body_error_of error))
reading_fails start now after limit budget content count error d kept more =
    let counted = d.counted in
    record {
      came = d.came;
      taken = subst (λ (left : Option (List Frame)). TakesFrames start.left d.came left) (sym kept) d.taken;
      most = omega arith;
      cause = inl (cut_short error);
      ended = tt;
      dumped = inl (cut_short error);
    }

-- no frame was left
pub reading_ends : (start now after : SourceState) (limit budget : ℕ) (content : List ℕ) (count : ℕ)
    → IsReading start now limit content count → GivesFrame now.left None after.left → count < budget + 1
    → Reads limit budget start.left after.left (Ok content)
reading_ends start now after limit budget content count d gives more =
    let counted = d.counted in
    record {
      came = d.came;
      taken = subst (λ (left : Option (List Frame)). TakesFrames start.left d.came left) (sym gives.1) d.taken;
      most = omega arith;
      cause = inr (record { content_is = d.content_is; small = d.small; few = omega arith });
      ended = subst (λ (left : Option (List Frame)). IsAtEnd left) (sym gives.1) gives.0;
      dumped = inr (inl (subst (λ (left : Option (List Frame)). IsAtEnd left) (sym gives.1) gives.0));
    }

-- memory ran out behind a frame
pub reading_stops : (start now after : SourceState) (limit budget : ℕ) (content : List ℕ) (count : ℕ) (f : Frame)
    → IsReading start now limit content count → GivesFrame now.left (Some f) after.left → count < budget + 1
    → Reads limit budget start.left after.left (Err body.OutOfMemory)
reading_stops start now after limit budget content count f d gives more =
    let counted = d.counted in
    record {
      came = d.came ++ f ∷ [];
      taken = takes_both start.left now.left after.left d.came (f ∷ []) d.taken gives;
      most = omega (arith, length-append d.came (f ∷ []));
      cause = inl tt;
      ended = tt;
      dumped = inl tt;
    }

-- one frame more came than the budget
pub reading_over : (start now : SourceState) (limit budget : ℕ) (content : List ℕ) (count : ℕ)
    → IsReading start now limit content count → count ≡ budget + 1
    → Reads limit budget start.left now.left (Err (body.FrameBudget (budget + 1)))
reading_over start now limit budget content count d over =
    let counted = d.counted in
    let small = subst (λ (bytes : List ℕ). length bytes ≤ limit) d.content_is d.small in
    let fits : length d.came ≤ budget + 1 = omega arith in
    record {
      came = d.came;
      taken = d.taken;
      most = fits;
      cause = inr (record {
        count_is = refl;
        many = omega arith;
        small = subst (λ (xs : List Frame). length (all_data xs) ≤ limit) (sym (take_all (budget + 1) d.came fits)) small;
      });
      ended = tt;
      dumped = inr (inr (omega arith));
    }

-- a frame came with which the content passes the limit
pub record IsLarge (start now mid : SourceState) (limit budget : ℕ) (content : List ℕ) (count : ℕ) (f : Frame) (sum : ℕ) : Type 0 where
  pub reading : IsReading start now limit content count
  pub gives : GivesFrame now.left (Some f) mid.left
  pub allowed : count < budget + 1
  pub sum_is : sum ≡ length content + length (data_of f)
  pub above : limit < sum
  pub fits : sum < 2 ^ 64

large_taken : (start now mid : SourceState) (left : Option (List Frame)) (limit budget : ℕ) (content : List ℕ) (count : ℕ) (f : Frame) (sum : ℕ)
    → (p : IsLarge start now mid limit budget content count f sum) → (more : List Frame) → TakesFrames mid.left more left
    → TakesFrames start.left (p.reading.came ++ f ∷ more) left
large_taken start now mid left limit budget content count f sum p more taken =
    takes_both start.left now.left left p.reading.came (f ∷ more) p.reading.taken
    (takes_both now.left mid.left left (f ∷ []) more p.gives taken)

large_length : (start now mid : SourceState) (limit budget : ℕ) (content : List ℕ) (count : ℕ) (f : Frame) (sum : ℕ)
    → (p : IsLarge start now mid limit budget content count f sum) → (more : List Frame)
    → length (p.reading.came ++ f ∷ more) ≡ count + 1 + length more
large_length start now mid limit budget content count f sum p more =
    let counted = p.reading.counted in omega (arith, length-append p.reading.came (f ∷ more))

-- memory ran out as the rest was thrown away, or a call failed
large_stops : (start now mid : SourceState) (left : Option (List Frame)) (limit budget : ℕ) (content : List ℕ) (count : ℕ) (f : Frame) (sum : ℕ) (error : BodyError)
    → IsLarge start now mid limit budget content count f sum → TakesAtMost (budget - count) mid.left left
    → IsCutShort (Err error) → Reads limit budget start.left left (Err error)
large_stops start now mid left limit budget content count f sum error p some cut =
    let size = large_length start now mid limit budget content count f sum p some.came in
    let most = some.most in
    let allowed = p.allowed in
    record {
      came = p.reading.came ++ f ∷ some.came;
      taken = large_taken start now mid left limit budget content count f sum p some.came some.taken;
      most = omega arith;
      cause = inl cut;
      ended = tt;
      dumped = inl cut;
    }

large_cause : (start now mid : SourceState) (limit budget : ℕ) (content : List ℕ) (count : ℕ) (f : Frame) (sum : ℕ)
    → (p : IsLarge start now mid limit budget content count f sum) → (more : List Frame)
    → HasCause limit budget (p.reading.came ++ f ∷ more) (Err (body.BodyTooLarge sum))
large_cause start now mid limit budget content count f sum p more =
    let d = p.reading in
    let counted = d.counted in
    let allowed = p.allowed in
    let size = ap length d.content_is in
    let small = d.small in
    let is = p.sum_is in
    let above = p.above in
    let fits = p.fits in
    let front = ap data_size (take_front d.came f more) in
    let whole : sum ≡ data_size (d.came ++ f ∷ []) = omega (arith, data_length-more d.came f) in
    record {
      count = length d.came + 1;
      within = omega arith;
      first = first_above limit d.came f more (omega arith) (omega arith);
      sum_is = whole ∙ sym front;
    }

end_or_full : (start now mid : SourceState) (left : Option (List Frame)) (limit budget : ℕ) (content : List ℕ) (count : ℕ) (f : Frame) (sum : ℕ)
    → (p : IsLarge start now mid limit budget content count f sum) → (more : List Frame)
    → (length more ≡ budget - count) ⊎ IsAtEnd left
    → IsAtEnd left ⊎ (length (p.reading.came ++ f ∷ more) ≡ budget + 1)
end_or_full start now mid left limit budget content count f sum p more (inl full) =
    let size = large_length start now mid limit budget content count f sum p more in
    let allowed = p.allowed in
    inr (omega arith)
end_or_full start now mid left limit budget content count f sum p more (inr end) = inl end

large_ends : (start now mid : SourceState) (left : Option (List Frame)) (limit budget : ℕ) (content : List ℕ) (count : ℕ) (f : Frame) (sum : ℕ)
    → IsLarge start now mid limit budget content count f sum → TakesRoom (budget - count) mid.left left
    → Reads limit budget start.left left (Err (body.BodyTooLarge sum))
large_ends start now mid left limit budget content count f sum p room =
    let size = large_length start now mid limit budget content count f sum p room.came in
    let most = room.most in
    let allowed = p.allowed in
    record {
      came = p.reading.came ++ f ∷ room.came;
      taken = large_taken start now mid left limit budget content count f sum p room.came room.taken;
      most = omega arith;
      cause = inr (large_cause start now mid limit budget content count f sum p room.came);
      ended = tt;
      dumped = inr (end_or_full start now mid left limit budget content count f sum p room.came room.all);
    }

-- what is answered on a content above the limit
pub reading_large : (start now mid : SourceState) (left : Option (List Frame)) (limit budget : ℕ) (content : List ℕ) (count : ℕ) (f : Frame) (sum : ℕ) (error : BodyError)
    → IsLarge start now mid limit budget content count f sum
    → IsCutShort (Err error) ⊎ (error ≡ body.BodyTooLarge sum) → TakesAtMost (budget - count) mid.left left
    → (error ≡ body.BodyTooLarge sum → TakesRoom (budget - count) mid.left left)
    → Reads limit budget start.left left (Err error)
reading_large start now mid left limit budget content count f sum error p (inl cut) most room =
    large_stops start now mid left limit budget content count f sum error p most cut
reading_large start now mid left limit budget content count f sum error p (inr is) most room =
    subst (λ (e : BodyError). Reads limit budget start.left left (Err e)) (sym is)
    (large_ends start now mid left limit budget content count f sum p (room is))
