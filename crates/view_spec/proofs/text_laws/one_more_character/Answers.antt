use Rattle.view_spec.proofs.Steps.{stands-erase, stands-print, stands-marker, stands-new_line, stands-cr_lf, stands-bell, stands-silent}
use Rattle.view_spec.proofs.text_laws.one_more_character.Goals as goal

pub returns : goal.returns
returns c = record {
  erasure = stands-erase;
  letter = stands-print;
  marker = stands-marker;
  new_line = stands-new_line;
  cr_lf = stands-cr_lf;
  bell = stands-bell;
  silent = stands-silent;
}
