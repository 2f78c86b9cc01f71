use Rattle.status_codes.proofs.client_error_conversions.ClientErrorStatusCodeFromStr.from_str.Goals as goal

-- the bytes of the text are read
pub returns : goal.returns
returns c =
    let read = c.from_bytes.ensures in
    rw (← c.as_bytes.ensures.value) (read.ok, read.range, read.refused, read.invalid)
