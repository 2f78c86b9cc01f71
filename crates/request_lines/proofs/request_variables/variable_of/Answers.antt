use Rattle.request_lines.proofs.request_variables.variable_of.Goals as goal

pub returns-in_err-texts_of-in-List-clause-memory : goal.returns-in_err-texts_of-in-List-clause-memory
returns-in_err-texts_of-in-List-clause-memory c memory = (c.in-List.items, c.in-List.is)
