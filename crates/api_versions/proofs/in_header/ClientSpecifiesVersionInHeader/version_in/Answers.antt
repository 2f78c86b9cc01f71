use Rattle.std.proofs.Common.{◌≡◌, refl, sym, ◌∙◌, ap}
use Rattle.std.proofs.lemmas.Bool.{true_from_ne_false}
use Rattle.semver.specs.Identifiers.{parts_of}
use Rattle.semver.specs.Parse.{version_parts}
use Rattle.api_versions.specs.HeaderVersions.{not_served}
use Rattle.api_versions.proofs.in_header.ClientSpecifiesVersionInHeader.version_in.Goals as goal

pub returns-in_ok-not_served-in-Ok-parse-clause-refused :
    goal.returns-in_ok-not_served-in-Ok-parse-clause-refused
returns-in_ok-not_served-in-Ok-parse-clause-refused c = λ error is.
    let made = c.in_ok-not_served-in-Ok-parse.field-0 in
    let same : made ≡ error = cc (sym c.into-else-serves.ensures, is) in
    record {
      fault = not_served (parts_of c.in-Ok-parse.version);
      stands = record {
        visible = c.in-Ok.ensures.succeeds.0 refl;
        read = ap version_parts (sym c.in-Ok.ensures.ok) ∙ c.in-Ok-parse.ensures.ok;
        above = true_from_ne_false _ (λ at_most. cc (sym c.if-serves.false ∙ c.serves.ensures.1 at_most));
      };
      told = sym same ∙ c.in_ok-not_served-in-Ok-parse.ensures;
    }
