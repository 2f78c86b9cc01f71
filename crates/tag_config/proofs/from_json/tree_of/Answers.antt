use Rattle.tag_config.proofs.from_json.tree_of.Goals as goal

pub decode_json-requires-clause-desc : goal.decode_json-requires-clause-desc
decode_json-requires-clause-desc c = rw (c.new.ensures, c.in_ok-desc.ensures) c.requires.passes

pub returns-clause-denotes : goal.returns-clause-denotes
returns-clause-denotes c = rw (c.new.ensures, c.in_ok-desc.ensures) at c.decode_json-2.ensures.denotes

pub returns-clause-fits : goal.returns-clause-fits
returns-clause-fits c = (rw (c.new.ensures, c.in_ok-desc.ensures) at c.decode_json-2.ensures.fits) c.requires.sound

pub returns-clause-fault : goal.returns-clause-fault
returns-clause-fault c = rw (c.new.ensures, c.in_ok-desc.ensures) at c.decode_json-2.ensures.fault
