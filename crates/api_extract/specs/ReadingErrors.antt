-- What an error of reading a body is told as.
use Rattle.body_reading.specs.declared.whole.BodyError.{BodyError}
use Rattle.body_reading.specs.declared.whole.BodyError.TheVariants as reading
use Rattle.api_extract.specs.declared.extract_error.ExtractError.{ExtractError}
use Rattle.api_extract.specs.declared.extract_error.ExtractError.TheVariants as errors

-- why there are no arguments, where the body was not read to its end
abbrev pub reading_error : BodyError → ExtractError
reading_error reading.BodyFault = errors.BodyFault
reading_error (reading.BodyTooLarge sum) = errors.BodyTooLarge sum
reading_error (reading.FrameBudget count) = errors.FrameBudget count
reading_error reading.OutOfMemory = errors.OutOfMemory
