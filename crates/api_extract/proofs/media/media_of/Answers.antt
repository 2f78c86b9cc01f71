use Rattle.api_extract.proofs.ShownMedia.{result_shown}
use Rattle.api_extract.proofs.media.media_of.Goals as goal

pub returns-in_ok-from_bytes-in-Some-clause-shown : goal.returns-in_ok-from_bytes-in-Some-clause-shown
returns-in_ok-from_bytes-in-Some-clause-shown c =
    result_shown c.from_ref.result.now c.media_type.result c.media_type.ensures.media
