-- The splits of a recording are read to their ends.
use Rattle.std.proofs.Common.{sym, arith}
use Rattle.std.proofs.lemmas.Bool.{true≢false, eq-eqb}
use Rattle.file_spec.specs.declared.conference_lines.Form.TheVariants.{Files}
use Rattle.file_spec.specs.Conference.{usual_types}
use Rattle.mixer_spec.specs.Bridged.{input_limit}
use Rattle.command_spec.specs.Laws.{IsStream}
use Rattle.command_spec.proofs.Recordings.{recordings_read}
use Rattle.command_spec.specs.Cascading.{trunk_of}
use Rattle.command_spec.proofs.CascadedHeadlines.{ssrc_fits}
use Rattle.command_spec.proofs.Ssrcs.{ssrcs_fit}
use Rattle.command_spec.proofs.TrunkSizes.{input_fits}
use Rattle.cascade.specs.Texts.{AllSplitsAreWhole}

pub splits_whole : AllSplitsAreWhole
splits_whole read c is held file ssrc octets there k leg at =
    let stream : IsStream usual_types leg.ssrc = record {
      t140 = omega arith;
      red = omega arith;
      differ = λ e. true≢false (sym (eq-eqb 98 100 e));
      ssrc = ssrc_fits c.legs k leg (ssrcs_fit Files read c is).legs at;
    } in
    recordings_read (trunk_of c ssrc) octets leg.ssrc stream (input_limit c) (input_fits c ssrc octets leg.ssrc)
