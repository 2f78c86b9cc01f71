use Rattle.header_texts.proofs.headers.tree_of_lines.Goals as goal

pub returns-in-Some : goal.returns-in-Some
returns-in-Some c = rw (← c.in-Some.ensures.fields) c.decode_fields.ensures

pub returns-in-None : goal.returns-in-None
returns-in-None c = rw (← c.in-None.ensures.fields) c.refused.ensures.told
