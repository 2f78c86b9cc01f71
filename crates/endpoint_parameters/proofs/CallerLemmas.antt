-- What proofs of the crates above take from here: lemmas over the words of specs/.

-- the first of several things of which something holds
pub use Rattle.endpoint_parameters.proofs.Firsts.{among, first-map, first_at, none-map, none_holds, none_not_first}
-- the first place at which it does, and the thing that is lent there
pub use Rattle.endpoint_parameters.proofs.FirstPlaces.{earlier_found, first_lent, none_found}
