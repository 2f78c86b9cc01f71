use Rattle.status_codes.proofs.error_conversions.ErrorStatusCodeFromStr.from_str.Goals as goal

-- the bytes of the text are read
pub returns : goal.returns
returns c =
    let read = c.from_bytes.ensures in
    rw (← c.as_bytes.ensures.value) (read.ok, read.range, read.refused, read.invalid)
