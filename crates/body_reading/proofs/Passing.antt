-- Trailers that are passed over, and what comes behind them.
use Rattle.std.proofs.Common.{◌≡◌, ℕ, ◌+◌, ◌-◌, ◌<◌, ◌≤◌, zero, suc, List, [], ◌∷◌, ◌++◌, length, drop, take}
use Rattle.std.proofs.Common.{arith, sym, ◌∙◌, ap, refl, subst, true, append_assoc}
use Rattle.std.specs.Prelude.{Option, Some, None, Result, Ok, Err, IfOk, IfSome, OnOk, OnErr, nat_lt}
use Rattle.std.proofs.lemmas.Bool.Decides.{nat_tests}
use Rattle.std.proofs.lemmas.List.{length-append}
use Rattle.header_lists.specs.HeaderLists.{Line}
use Rattle.http_bodies.proofs.CallerLemmas.{all_data-more}
use Rattle.http_bodies.specs.declared.frame.Frame.{Frame}
use Rattle.http_bodies.specs.declared.frame.Frame.TheVariants.{Bytes, Trailers}
use Rattle.http_bodies.specs.Bodies.{BodyState, calls_of, can_fail_of, faults_of, frames_of}
use Rattle.http_bodies.specs.Frames.{all_data}
use Rattle.http_bodies.specs.Sources.{CalledFor}
use Rattle.body_reading.specs.declared.flaw.BodyFlaw.{BodyFlaw}
use Rattle.body_reading.specs.declared.flaw.BodyFlaw.TheVariants as flaws
use Rattle.body_reading.specs.Streams.{Advances, IsOver, SameLimits, StreamState, contents, next_in, next_of, room_of, with_content}
use Rattle.body_reading.specs.Whole.{TakesAtMost}

-- as many frames as may yet come, and one more, tell what comes next
pub first_enough : (cap sum room : ℕ) (frames : List Frame)
    → next_in cap sum room (take (suc room) frames) ≡ next_in cap sum room frames
first_enough cap sum room [] = refl
first_enough cap sum room ((Bytes content) ∷ fs) = refl
first_enough cap sum zero ((Trailers lines) ∷ fs) = refl
first_enough cap sum (suc room) ((Trailers lines) ∷ fs) =
    let some : nat_lt 0 (suc room) ≡ true = grind (arith, nat_tests) in
    let less : suc room - 1 ≡ room = omega arith in
    rw (some, less) (first_enough cap sum room fs)

-- for each call a frame came at least
abbrev pub IsPaired : BodyState → BodyState → Type 0
IsPaired old new = calls_of new + length (frames_of new) ≤ calls_of old + length (frames_of old)

-- what comes next, and what is left of the room, are those of the start; trailers came meanwhile, each by one call, and
-- none of these failed
pub record Passes (old now : StreamState) : Type 0 where
  pub next : next_of now ≡ next_of old
  pub contents_are : contents (frames_of now.body) ≡ contents (frames_of old.body)
  pub advances : Advances old now
  pub few : length advances.came ≤ room_of old
  pub rest : drop (room_of now + 1) (frames_of now.body) ≡ drop (room_of old + 1) (frames_of old.body)
  pub limits : SameLimits old now
  pub sum : now.sum ≡ old.sum
  pub closed : now.closed ≡ old.closed
  pub faults : faults_of now.body ≡ faults_of old.body
  pub same : can_fail_of now.body ≡ can_fail_of old.body
  pub calls : calls_of now.body ≤ calls_of old.body + (room_of old - room_of now)
  pub paired : IsPaired old.body now.body

pub passes_none : (old : StreamState) → Passes old old
passes_none old = record {
  next = refl;
  contents_are = refl;
  advances = record { came = []; taken = refl; frames = omega arith; sum = omega arith };
  few = omega arith;
  rest = refl;
  limits = record { cap = refl; budget = refl };
  sum = refl;
  closed = refl;
  faults = refl;
  same = refl;
  calls = omega arith;
  paired = omega arith;
}

-- frames came of the body, and nothing else changed but their number
pub record TakesFirst (now after : StreamState) (frame : Frame) : Type 0 where
  pub gives : frames_of now.body ≡ frame ∷ frames_of after.body
  pub limits : SameLimits now after
  pub sum : after.sum ≡ now.sum
  pub closed : after.closed ≡ now.closed
  pub faults : faults_of after.body ≡ faults_of now.body
  pub same : can_fail_of after.body ≡ can_fail_of now.body
  pub once : calls_of after.body ≤ calls_of now.body + 1

-- one call more gave a frame
pub paired_more : (old now after : BodyState) (frame : Frame) → IsPaired old now → frames_of now ≡ frame ∷ frames_of after
    → calls_of after ≤ calls_of now + 1 → IsPaired old after
paired_more old now after frame paired gives once = let size = ap length gives in omega arith

next_passed : (now after : StreamState) (lines : List Line) → TakesFirst now after (Trailers lines)
    → now.frames < now.budget → after.frames ≡ now.frames + 1 → next_of after ≡ next_of now
next_passed now after lines t room one =
    let some : nat_lt 0 (room_of now) ≡ true = grind (arith, nat_tests) in
    let budget = t.limits.budget in
    let less : room_of now - 1 ≡ room_of after = omega arith in
    rw (t.gives, some, less, t.limits.cap, t.sum) refl

rest_passed : (now after : StreamState) (lines : List Line) → TakesFirst now after (Trailers lines)
    → now.frames < now.budget → after.frames ≡ now.frames + 1
    → drop (room_of after + 1) (frames_of after.body) ≡ drop (room_of now + 1) (frames_of now.body)
rest_passed now after lines t room one =
    let budget = t.limits.budget in
    let more : room_of now + 1 ≡ suc (room_of after + 1) = omega arith in
    rw (more, t.gives) refl

-- one trailer more was passed over
pub passes_more : (old now after : StreamState) (lines : List Line) → Passes old now
    → TakesFirst now after (Trailers lines) → now.frames < now.budget → after.frames ≡ now.frames + 1 → Passes old after
passes_more old now after lines p t room one =
    let counted = p.advances.frames in
    let summed = p.advances.sum in
    let sum = t.sum in
    let size = ap length (all_data-more p.advances.came (Trailers lines)) in
    record {
      next = next_passed now after lines t room one ∙ p.next;
      contents_are = sym (ap contents t.gives) ∙ p.contents_are;
      advances = record {
        came = p.advances.came ++ Trailers lines ∷ [];
        taken = p.advances.taken ∙ ap (λ (xs : List Frame). p.advances.came ++ xs) t.gives
            ∙ sym (append_assoc p.advances.came (Trailers lines ∷ []) (frames_of after.body));
        frames = omega (arith, length-append p.advances.came (Trailers lines ∷ []));
        sum = omega (arith, size, length-append (all_data p.advances.came) []);
      };
      few = let few = p.few in omega (arith, length-append p.advances.came (Trailers lines ∷ []));
      rest = rest_passed now after lines t room one ∙ p.rest;
      limits = record { cap = t.limits.cap ∙ p.limits.cap; budget = t.limits.budget ∙ p.limits.budget };
      sum = t.sum ∙ p.sum;
      closed = t.closed ∙ p.closed;
      faults = t.faults ∙ p.faults;
      same = t.same ∙ p.same;
      calls =
          let before = p.calls in
          let once = t.once in
          let start = p.limits.budget in
          let budget = t.limits.budget in omega arith;
      paired = paired_more old.body now.body after.body (Trailers lines) p.paired t.gives t.once;
    }

-- a frame with content more came, and is counted
pub advances_more : (old now mid : StreamState) (content : List ℕ) → Passes old now
    → TakesFirst now mid (Bytes content) → mid.frames ≡ now.frames → Advances old (with_content mid content)
advances_more old now mid content p t uncounted =
    let counted = p.advances.frames in
    let summed = p.advances.sum in
    let sum = t.sum in
    let size = ap length (all_data-more p.advances.came (Bytes content)) in
    record {
      came = p.advances.came ++ Bytes content ∷ [];
      taken = p.advances.taken ∙ ap (λ (xs : List Frame). p.advances.came ++ xs) t.gives
          ∙ sym (append_assoc p.advances.came (Bytes content ∷ []) (frames_of mid.body));
      frames = omega (arith, length-append p.advances.came (Bytes content ∷ []));
      sum = omega (arith, size, length-append (all_data p.advances.came) content);
    }

-- a frame with content that is given is counted
pub judged_advances : (old now mid new : StreamState) (content : List ℕ) (result : Result (Option (List ℕ)) BodyFlaw)
    → Passes old now → TakesFirst now mid (Bytes content) → mid.frames ≡ now.frames
    → OnOk result (new ≡ with_content mid content) → IfOk result (λ next. Advances old new)
judged_advances old now mid new content (Ok next) p t uncounted counted =
    subst (λ (s : StreamState). Advances old s) (sym counted) (advances_more old now mid content p t uncounted)
judged_advances old now mid new content (Err wrong) p t uncounted counted = tt

-- behind trailers, at most one frame more was taken
pub passes_taken : (old now new : StreamState) (more : List Frame) → Passes old now
    → frames_of now.body ≡ more ++ frames_of new.body → length more ≤ 1 → new.budget ≡ now.budget
    → now.frames ≤ new.frames
    → TakesAtMost (room_of old + 1 - room_of new) (Some (frames_of old.body)) (Some (frames_of new.body))
passes_taken old now new more p taken one budget later =
    let counted = p.advances.frames in
    let few = p.few in
    let same = p.limits.budget in
    record {
      came = p.advances.came ++ more;
      taken = p.advances.taken ∙ ap (λ (xs : List Frame). p.advances.came ++ xs) taken
          ∙ sym (append_assoc p.advances.came more (frames_of new.body));
      most = omega (arith, length-append p.advances.came more);
    }

-- a frame with content was taken, whether it is given or not
pub judged_taken : (old now mid new : StreamState) (content : List ℕ) (result : Result (Option (List ℕ)) BodyFlaw)
    → Passes old now → TakesFirst now mid (Bytes content) → mid.frames ≡ now.frames
    → OnOk result (new ≡ with_content mid content) → OnErr result (new ≡ mid)
    → TakesAtMost (room_of old + 1 - room_of new) (Some (frames_of old.body)) (Some (frames_of new.body))
judged_taken old now mid new content (Ok next) p t uncounted counted kept =
    subst (λ (s : StreamState). TakesAtMost (room_of old + 1 - room_of s) (Some (frames_of old.body)) (Some (frames_of s.body)))
    (sym counted)
    (passes_taken old now (with_content mid content) (Bytes content ∷ []) p t.gives (omega arith) t.limits.budget (omega arith))
judged_taken old now mid new content (Err wrong) p t uncounted counted kept =
    subst (λ (s : StreamState). TakesAtMost (room_of old + 1 - room_of s) (Some (frames_of old.body)) (Some (frames_of s.body)))
    (sym kept) (passes_taken old now mid (Bytes content ∷ []) p t.gives (omega arith) t.limits.budget (omega arith))

-- behind trailers, one call more was made
pub passes_called : (old now after : StreamState) → Passes old now → calls_of after.body ≤ calls_of now.body + 1
    → after.budget ≡ now.budget → after.frames ≡ now.frames
    → calls_of after.body ≤ calls_of old.body + (room_of old + 1 - room_of after)
passes_called old now after p once budget frames =
    let counted = p.advances.frames in
    let start = p.limits.budget in
    let before = p.calls in
    omega arith

-- it gave a frame with content, whether that is given or not
pub judged_called : (old now mid new : StreamState) (content : List ℕ) (result : Result (Option (List ℕ)) BodyFlaw)
    → Passes old now → TakesFirst now mid (Bytes content) → mid.frames ≡ now.frames
    → OnOk result (new ≡ with_content mid content) → OnErr result (new ≡ mid)
    → calls_of new.body ≤ calls_of old.body + (room_of old + 1 - room_of new)
judged_called old now mid new content (Ok next) p t uncounted counted kept =
    subst (λ (s : StreamState). calls_of s.body ≤ calls_of old.body + (room_of old + 1 - room_of s)) (sym counted)
    (let called = passes_called old now mid p t.once t.limits.budget uncounted in omega arith)
judged_called old now mid new content (Err wrong) p t uncounted counted kept =
    subst (λ (s : StreamState). calls_of s.body ≤ calls_of old.body + (room_of old + 1 - room_of s)) (sym kept)
    (passes_called old now mid p t.once t.limits.budget uncounted)

-- and each call gave a frame
pub judged_paired : (old now mid new : StreamState) (content : List ℕ) (result : Result (Option (List ℕ)) BodyFlaw)
    → Passes old now → TakesFirst now mid (Bytes content) → OnOk result (new ≡ with_content mid content)
    → OnErr result (new ≡ mid) → IsPaired old.body new.body
judged_paired old now mid new content (Ok next) p t counted kept =
    subst (λ (s : StreamState). IsPaired old.body s.body) (sym counted)
    (paired_more old.body now.body mid.body (Bytes content) p.paired t.gives t.once)
judged_paired old now mid new content (Err wrong) p t counted kept =
    subst (λ (s : StreamState). IsPaired old.body s.body) (sym kept)
    (paired_more old.body now.body mid.body (Bytes content) p.paired t.gives t.once)

-- a reader that is closed behind what is wrong with its body
pub refused_called : (old mid new : BodyState) (flaw : BodyFlaw)
    → CalledFor (Some (frames_of old)) (Some (frames_of mid)) (calls_of old) (calls_of mid)
    → (IsOver (Err flaw) → IsPaired old mid)
    → CalledFor (Some (frames_of mid)) (Some (frames_of new)) (calls_of mid) (calls_of new)
    → (flaw ≡ flaws.Fault → calls_of new ≤ calls_of mid) → (flaw ≡ flaws.Fault → frames_of new ≡ frames_of mid)
    → CalledFor (Some (frames_of old)) (Some (frames_of new)) (calls_of old) (calls_of new)
refused_called old mid new flaws.Fault first over behind few same =
    let size = ap length (same refl) in let calls = few refl in omega arith
refused_called old mid new (flaws.TooLarge cap) first over behind few same = let paired = over tt in omega arith
refused_called old mid new flaws.FrameBudget first over behind few same = let paired = over tt in omega arith

-- a content that is given was called for once for each frame that is counted
pub judged_each : (old now mid new : StreamState) (content : List ℕ) (result : Result (Option (List ℕ)) BodyFlaw)
    → Passes old now → TakesFirst now mid (Bytes content) → mid.frames ≡ now.frames
    → OnOk result (new ≡ with_content mid content) → OnOk result (new.frames ≤ new.budget)
    → IfOk result (λ next. IfSome next (λ _. calls_of new.body ≤ calls_of old.body + (new.frames - old.frames)))
judged_each old now mid new content (Ok None) p t uncounted counted within = tt
judged_each old now mid new content (Ok (Some given)) p t uncounted counted within =
    let frames = p.advances.frames in
    let start = p.limits.budget in
    let budget = t.limits.budget in
    let before = p.calls in
    let once = t.once in
    let more : new.frames ≡ mid.frames + 1 = ap (λ (s : StreamState). s.frames) counted in
    let bound : new.budget ≡ mid.budget = ap (λ (s : StreamState). s.budget) counted in
    subst (λ (s : StreamState). calls_of s.body ≤ calls_of old.body + (s.frames - old.frames)) (sym counted)
    (omega arith)
judged_each old now mid new content (Err wrong) p t uncounted counted within = tt
