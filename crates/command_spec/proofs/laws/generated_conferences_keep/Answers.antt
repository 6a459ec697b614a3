use Rattle.command_spec.proofs.Generating.{generated_is}
use Rattle.command_spec.proofs.laws.generated_conferences_keep.Goals as goal

pub returns : goal.returns
returns c = record {
  conference = λ n. (generated_is n).conference;
  legs = λ n. (generated_is n).few;
  scripts = λ n. (generated_is n).scripts;
  each_script = λ n. (generated_is n).each_script;
  each_first = λ n. (generated_is n).each_first;
}
