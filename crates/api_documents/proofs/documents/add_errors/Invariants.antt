use Rattle.std.proofs.Common.{◌≡◌, drop, fold}
use Rattle.std.specs.Prelude.{filter_map, map}
use Rattle.path_templates.specs.Places.{first_at}
use Rattle.api_documents.specs.ErrorNames.{listed_errors, with_error}
use Rattle.api_documents.specs.Places.{at_places, has_method}
use Rattle.api_documents.proofs.documents.add_errors.Given as goal

-- the errors of the methods so far, with those that are left behind them
abbrev pub invariant-loop-method : goal.invariant-loop-method
invariant-loop-method l =
    fold with_error l.initial.named (listed_errors (at_places l.declarations l.places))
    ≡ fold with_error l.named
    (listed_errors
    (filter_map (λ method. first_at (has_method method) l.declarations l.places)
    (map (λ m. m.now) (drop l.method-index l.method-items))))
