use Rattle.contract_tool.proofs.serving.run_session.Goals as goal

pub returns-clause-session : goal.returns-clause-session
returns-clause-session g c is all earlier left taken =
    rw (c.as_slice.ensures, c.in-Ok.ensures) at (c.serve_within.ensures.session is all earlier left taken)

pub returns-clause-ends : goal.returns-clause-ends
returns-clause-ends g c = rw (c.as_slice.ensures, c.in-Ok.ensures) at c.serve_within.ensures.ends

pub returns-clause-complete : goal.returns-clause-complete
returns-clause-complete g c = c.serve_within.ensures.complete

pub returns-clause-read_risen : goal.returns-clause-read_risen
returns-clause-read_risen g c = c.serve_within.ensures.read_risen

pub returns-clause-write_risen : goal.returns-clause-write_risen
returns-clause-write_risen g c = c.serve_within.ensures.write_risen
