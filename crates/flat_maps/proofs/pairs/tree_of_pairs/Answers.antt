use Rattle.flat_maps.proofs.pairs.tree_of_pairs.Goals as goal

pub returns-in-Some : goal.returns-in-Some
returns-in-Some c = rw (← c.in-Some.ensures.fields) c.decode_sorted.ensures

pub returns-in-None : goal.returns-in-None
returns-in-None c = rw (← c.in-None.ensures.fields) c.refused.ensures.told
