-- Frames that are taken, from one call to the next.
use Rattle.std.proofs.Common.{ℕ, ◌+◌, ◌≤◌, List, ◌++◌, sym, ap, ◌∙◌, append_assoc, arith}
use Rattle.std.specs.Prelude.{Option, Some, None}
use Rattle.std.proofs.lemmas.List.{length-append}
use Rattle.http_bodies.specs.declared.frame.Frame.{Frame}
use Rattle.http_bodies.specs.Sources.{TakesFrames}
use Rattle.body_reading.specs.Whole.{TakesAtMost}

-- behind some frames others were taken
pub takes_both : (start now after : Option (List Frame)) (came more : List Frame)
    → TakesFrames start came now → TakesFrames now more after → TakesFrames start (came ++ more) after
takes_both None None after came more first second = second
takes_both None (Some left) after came more first second = absurd (cc first)
takes_both (Some before) None after came more first second = absurd first
takes_both (Some before) (Some left) None came more first second = absurd second
takes_both (Some before) (Some left) (Some rest) came more first second =
    first ∙ ap (λ (frames : List Frame). came ++ frames) second ∙ sym (append_assoc came more rest)

-- behind so many frames so many others were taken, at most
pub takes_most : (start now after : Option (List Frame)) (first second most : ℕ) → TakesAtMost first start now
    → TakesAtMost second now after → first + second ≤ most → TakesAtMost most start after
takes_most start now after first second most p q sum =
    let few = p.most in
    let fewer = q.most in
    record {
      came = p.came ++ q.came;
      taken = takes_both start now after p.came q.came p.taken q.taken;
      most = omega (arith, length-append p.came q.came);
    }
