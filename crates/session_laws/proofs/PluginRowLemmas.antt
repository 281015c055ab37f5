-- Worked rows of what plugins ask, computed.
use Rattle.std.proofs.Common.{refl}
use Rattle.std.specs.Fmt.{digits}
use Rattle.session_laws.specs.PluginRows.{Answers, Collected, Refusals, StaleEdit, Styled}

pub refusals : Refusals
unfolding digits lib.Utf8.encode
refusals = record { misfits = refl; unknown = refl; view = refl; start = refl; line = refl; no_id = refl; text = refl }

pub answers : Answers
unfolding digits lib.Utf8.encode
answers = record { edited = refl; updated = refl; counted = refl; silent = refl; read = refl; alerted = refl; told = refl }

pub styled : Styled
unfolding digits lib.Utf8.encode
styled = record { first = refl; shown = refl; second = refl; both = refl; again = refl; start = refl; len = refl }

pub stale_edit : StaleEdit
unfolding digits lib.Utf8.encode
stale_edit = record { edited = refl; shown = refl; cursor = refl; news = refl }

pub collected : Collected
unfolding digits lib.Utf8.encode
collected = record { waits = refl; below = refl; above = refl; reading = refl; acknowledging = refl; over = refl; untold = refl }
