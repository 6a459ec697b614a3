use Rattle.std.proofs.Common.{◌≡◌, length}
use Rattle.mixer_spec.specs.Setups.{setup}
use Rattle.file_spec.specs.Conferences.{meaning_of}
use Rattle.mixer.specs.Making.{source_counts}
use Rattle.mixer.specs.States.{legs_of, sources_of}
use Rattle.mixer.specs.Standing.{MixerStandsFor}
use Rattle.rtt_live.specs.Mixers.{all_admitted}
use Rattle.rtt_live.proofs.mixers.seated_mixer.Given as goal

abbrev pub invariant-loop-leg : goal.invariant-loop-leg
invariant-loop-leg l = record {
  legs : legs_of l.mixer ≡ length l.conference.legs;
  turns : l.mixer.turns ≡ 0;
  sources : sources_of l.mixer ≡ source_counts (meaning_of l.conference);
  stands : MixerStandsFor (setup (meaning_of l.conference)) l.mixer (all_admitted l.leg);
}
