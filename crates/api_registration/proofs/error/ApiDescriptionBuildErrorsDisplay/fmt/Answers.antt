use Rattle.std.proofs.Common.{◌≡◌, ◌+◌, [], ◌∷◌, ◌++◌, append_assoc, arith, codes, rules, take}
use Rattle.std.proofs.Output.{has_written_append}
use Rattle.std.proofs.lemmas.Grind.{common_steps}
use Rattle.std.proofs.lemmas.List.{flat_map_more}
use Rattle.api_registration.specs.Texts.{error_line}
use Rattle.api_registration.proofs.error.ApiDescriptionBuildErrorsDisplay.fmt.Goals as goal

pub loop-error-preserved : goal.loop-error-preserved
loop-error-preserved g c plain =
    let heading = codes "failed to register endpoints: \n" in
    let errors = c.args.self.now.errors in
    let so_far = take c.loop-error.error-index errors in
    let wrote = c.loop-error.invariant plain in
    let line = c.write.ensures.writes wrote.plain (search rules) in
    let one_more : take (c.loop-error.error-index + 1) errors ≡ so_far ++ c.error-item.result ∷ [] = grind (arith, common_steps) in
    rw (one_more, ← flat_map_more error_line heading so_far c.error-item.result) (simp append_assoc (simp append_assoc at (has_written_append _ _ _ _ _ _ wrote line)))
