use Rattle.std.proofs.Common.{◌≡◌, Err, ap, inl, inr}
use Rattle.std.proofs.lemmas.Result.{err_from_is_err_and}
use Rattle.semver.specs.Parse.{version_parts}
use Rattle.command_line.specs.declared.words.WordsError.TheVariants.{Usage}
use Rattle.command_line.proofs.VersionErrors.{refused-by_text}
use Rattle.command_line.proofs.WordLemmas.{normal_taken}
use Rattle.command_line.proofs.words.parse_version.Goals as goal

pub returns-in_err-parse-clause-usage : goal.returns-in_err-parse-clause-usage
returns-in_err-parse-clause-usage c =
    let made = err_from_is_err_and c.from_residual.result c.from_residual.ensures.1 in
    rw made.1 (
      λ usage parts read.
          elim c.in_err-parse.ensures.err [
            | inl memory ↦ let is : made.0 ≡ Usage = cc in made.2.0 is memory
            | inr wrong ↦ cc
          ],
      λ none. ap Err (made.2.1 (refused-by_text _ c.args.text.now _ c.in_err-parse.ensures.refused none)),
    )

pub returns-in_err-parse-clause-normal : goal.returns-in_err-parse-clause-normal
returns-in_err-parse-clause-normal c parts is normal =
    absurd (normal_taken _ (version_parts c.args.text.now) _ parts c.in_err-parse.ensures.plain is normal)
