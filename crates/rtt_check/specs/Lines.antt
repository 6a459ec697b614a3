-- What a line of a conference tells.
use Rattle.std.specs.Prelude.{ℕ, List, Bool}
use Rattle.report_spec.specs.Forms.{is_of_conference, is_of_link, is_of_recording}
use Rattle.rtt_check.specs.declared.lines.LineContent.{LineContent}
use Rattle.rtt_check.specs.declared.lines.LineContent.TheVariants.{LegOrMixer, Link, Recording}

-- whether a line with these words does
abbrev pub tells : LineContent → List (List ℕ) → Bool
tells LegOrMixer words = is_of_conference words
tells Link words = is_of_link words
tells Recording words = is_of_recording words
