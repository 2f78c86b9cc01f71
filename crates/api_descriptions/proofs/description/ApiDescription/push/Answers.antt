use Rattle.std.proofs.Common.{refl}
use Rattle.std.proofs.lemmas.Result.{err_from_is_err_and}
use Rattle.api_descriptions.proofs.description.ApiDescription.push.Goals as goal

pub add-requires : goal.add-requires
add-requires g c = rw (c.deref.ensures.value, c.in_ok-reserve.ensures.items) c.requires

pub returns-in_err-reserve-clause-index : goal.returns-in_err-reserve-clause-index
returns-in_err-reserve-clause-index g c =
    let p = err_from_is_err_and c.from_residual.result c.from_residual.ensures.1 in
    rw p.1 (record { templates = λ key. refl; shapes = λ key. refl; definitions = λ key. refl })

pub returns-in_err-add-clause-index : goal.returns-in_err-add-clause-index
returns-in_err-add-clause-index g c =
    let p = err_from_is_err_and c.from_residual-in_err-add.result c.from_residual-in_err-add.ensures.1 in
    rw p.1 c.in_err-add.ensures.err

pub returns-in_err-add-clause-indexed : goal.returns-in_err-add-clause-indexed
returns-in_err-add-clause-indexed g c = rw c.deref.ensures.value at c.in_err-add.ensures.kept
