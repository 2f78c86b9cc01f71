use Rattle.flat_maps.proofs.maps.tree_of_names.Goals as goal

pub returns-in-Some : goal.returns-in-Some
returns-in-Some g c = rw (← c.in-Some.ensures.fields) c.decode_fields.ensures

pub returns-in-None : goal.returns-in-None
returns-in-None g c = rw (← c.in-None.ensures.fields) c.refused.ensures.told
